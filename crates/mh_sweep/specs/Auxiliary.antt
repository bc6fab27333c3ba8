-- Auxiliary definitions: what loops, private functions and the insides of types keep. No public contract depends on them.
use Rattle.std.specs.Prelude.{◌≡◌, ℕ, zero, suc, ◌+◌, ◌<◌, nat_lt, nat_le, Bool, ◌&&◌, if◌then◌else◌, None, option_and_then, set}
use Rattle.mh_model.specs.{Pages.{Table, page_at, block_at, class_at, with_block}, Table.Block}
use Rattle.mh_model.specs.Collector.{survivor, judged_page}

-- the table after the sweep of the slot at a place
abbrev pub slot_swept : ℕ → Table Block → ℕ → Table Block
slot_swept cycle table place = with_block table place (option_and_then (survivor cycle) (block_at table place))

-- the table after so many slots from a place on
abbrev pub slots_swept : ℕ → Table Block → ℕ → ℕ → Table Block
slots_swept cycle table place zero = table
slots_swept cycle table place (suc count) = slot_swept cycle (slots_swept cycle table place count) (place + count)

-- the slot before which a stretch of a page ends that begins at a slot: the one after the page's last, or 64 if it begins behind that
abbrev pub stretch_end : ℕ → ℕ → ℕ
stretch_end slots slot = if nat_lt slot slots then slots else 64

-- a slot is from one on and before another
abbrev pub is_slot_between : ℕ → ℕ → ℕ → Bool
is_slot_between first end slot = nat_le first slot && nat_lt slot end

-- a page judged after its last slot
abbrev pub judged : Table Block → ℕ → Table Block
judged table page = set table page (option_and_then (judged_page table page) (page_at table page))

-- so many pages from one on are free
abbrev pub AreFree : Table Block → ℕ → ℕ → Type 0
AreFree table first count = (k : ℕ) → k < count → class_at table (first + k) ≡ None
