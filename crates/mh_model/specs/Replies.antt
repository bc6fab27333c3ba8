-- The texts of replies, written and read.
use Rattle.std.specs.Prelude.{ℕ, nat_lt, Bool, true, false, ◌&&◌, if◌then◌else◌, Option, Some, None, option_map, option_and_then, option_to_list, List, [], ◌∷◌, ◌++◌, flat_map, codes, decimal}
use Rattle.std.specs.Option.{option_or}
use Rattle.mh_model.specs.{declared.reply.Reply.Reply, declared.reply.Refusal.Refusal}
use Rattle.mh_model.specs.declared.reply.Refusal.TheVariants.{BadSlot, Null, NoField, TooLarge, HeapFull, Ended, TooManySessions}
use Rattle.mh_model.specs.declared.cycle.Phase.{Phase}
use Rattle.mh_model.specs.declared.cycle.Phase.TheVariants.{Idle, Roots, Mark, Sweep, Defrag}
use Rattle.mh_model.specs.{declared.report.Report.Report, declared.stat.Stat.Stat, declared.dump.DumpItem.DumpItem}
use Rattle.mh_model.specs.Bytes.{Text, parts_at, joined, line_text, is_text, number, numbers, tagged}
use Rattle.mh_model.specs.Forms.{within, Form, formed, numbered, with_numbers, are_below, at, u32, u64, where_known}
use Rattle.mh_model.specs.{declared.history.Version.Version, declared.history.Version.TheVariants.{One, Two}}

-- Written ----------------------------------------------------------------------------------------

-- a refusal as words, of which the first is its number
abbrev pub refusal_words : Refusal → List Text
refusal_words BadSlot = codes "1" ∷ codes "bad" ∷ codes "slot" ∷ []
refusal_words Null = codes "2" ∷ codes "null" ∷ []
refusal_words NoField = codes "3" ∷ codes "no" ∷ codes "field" ∷ []
refusal_words TooLarge = codes "4" ∷ codes "too" ∷ codes "large" ∷ []
refusal_words HeapFull = codes "5" ∷ codes "heap" ∷ codes "full" ∷ []
refusal_words Ended = codes "6" ∷ codes "ended" ∷ []
refusal_words TooManySessions = codes "7" ∷ codes "too" ∷ codes "many" ∷ codes "sessions" ∷ []

-- the word of a phase
abbrev pub phase_word : Phase → Text
phase_word Idle = codes "idle"
phase_word Roots = codes "roots"
phase_word Mark = codes "mark"
phase_word Sweep = codes "sweep"
phase_word Defrag = codes "defrag"

-- the flag of a page as a word: `+` if it is set, and else `-`
abbrev pub flag_word : Bool → Text
flag_word true = codes "+"
flag_word false = codes "-"

-- a slot, a mark, and two numbers with a point between them
abbrev pub placed_word : ℕ → ℕ → ℕ → ℕ → Text
placed_word mark slot a b = decimal slot ++ mark ∷ (decimal a ++ 46 ∷ decimal b)

-- an item of a dump as words: a page as `P` with its number, `C` with its class, and its flag; a block or a forwarder as one word, with `=` or `>`
abbrev pub item_words : DumpItem → List Text
item_words (DumpItem.Page page class_size is_flagged) = (80 ∷ decimal page) ∷ (67 ∷ decimal class_size) ∷ flag_word is_flagged ∷ []
item_words (DumpItem.Block slot birth part) = placed_word 61 slot birth part ∷ []
item_words (DumpItem.Forwarder slot to_page to_slot) = placed_word 62 slot to_page to_slot ∷ []

-- a number, if there is one, and else `none`
abbrev pub optional_word : Option ℕ → Text
optional_word None = codes "none"
optional_word (Some n) = decimal n

-- a reply as words, and as a text
abbrev pub reply_words : Reply → List Text
reply_words Reply.Done = codes "ok" ∷ []
reply_words (Reply.Number number) = codes "number" ∷ decimal number ∷ []
reply_words Reply.Yes = codes "yes" ∷ []
reply_words Reply.No = codes "no" ∷ []
reply_words (Reply.Shape shape) = codes "shape" ∷ decimal shape.references ∷ decimal shape.numbers ∷ []
reply_words (Reply.Refused refusal) = codes "refused" ∷ refusal_words refusal
reply_words (Reply.Spent units phase) = codes "spent" ∷ decimal units ∷ codes "phase" ∷ phase_word phase ∷ []
reply_words (Reply.Stat stat) =
    codes "free" ∷ decimal stat.free ∷ codes "live" ∷ decimal stat.live ∷ codes "old" ∷ decimal stat.old ∷ codes "phase" ∷ phase_word stat.phase ∷ codes "cycle" ∷ decimal stat.cycle ∷ []
reply_words (Reply.Dump items) = codes "dump" ∷ flat_map item_words items
reply_words (Reply.Report report) =
    codes "mutator" ∷ decimal report.mutator ∷ codes "collector" ∷ decimal report.collector ∷ codes "quanta" ∷ decimal report.quanta ∷ codes "greatest" ∷ decimal report.greatest
    ∷ codes "window" ∷ decimal report.window ∷ codes "least" ∷ optional_word report.least ∷ codes "floor" ∷ optional_word report.floor ∷ []
reply_words (Reply.Left quanta) = codes "left" ∷ decimal quanta ∷ []

abbrev pub reply_text : Reply → Text
reply_text reply = joined (reply_words reply)

-- the text of a refused script or history, with its first bad line
abbrev pub bad_line_text : ℕ → Text
bad_line_text line = codes "refused 10 line " ++ decimal line

-- replies, one a line
abbrev pub replies_text : List Reply → Text
replies_text = flat_map (λ reply. line_text (reply_text reply))

-- In range ---------------------------------------------------------------------------------------

-- a number is past the one before, if there is one
abbrev pub is_after : Option ℕ → ℕ → Bool
is_after None n = true
is_after (Some before) n = nat_lt before n

-- pages ascend strictly, and so do slots within a page, in what comes after this page and this slot; a page may be without blocks, and before the
-- first page stands no block
abbrev pub ascends : Option ℕ → Option ℕ → List DumpItem → Bool
ascends page slot [] = true
ascends page slot (DumpItem.Page next class_size is_flagged ∷ items) = is_after page next && ascends (Some next) None items
ascends None slot (DumpItem.Block next birth part ∷ items) = false
ascends (Some page) slot (DumpItem.Block next birth part ∷ items) = is_after slot next && ascends (Some page) (Some next) items
ascends None slot (DumpItem.Forwarder next to_page to_slot ∷ items) = false
ascends (Some page) slot (DumpItem.Forwarder next to_page to_slot ∷ items) = is_after slot next && ascends (Some page) (Some next) items

-- the numbers of an item of a dump
abbrev pub item_numbers : DumpItem → List ℕ
item_numbers (DumpItem.Page page class_size is_flagged) = page ∷ class_size ∷ []
item_numbers (DumpItem.Block slot birth part) = slot ∷ birth ∷ part ∷ []
item_numbers (DumpItem.Forwarder slot to_page to_slot) = slot ∷ to_page ∷ to_slot ∷ []

-- each of the numbers has at most 64 bits, as have those of the items of a dump
abbrev pub are_u64 : List ℕ → Bool
are_u64 [] = true
are_u64 (n ∷ ns) = nat_lt n u64 && are_u64 ns

abbrev pub items_in_range : List DumpItem → Bool
items_in_range [] = true
items_in_range (item ∷ items) = are_u64 (item_numbers item) && items_in_range items

-- a reply is well formed in a version: its numbers are in the range of their types, a dump ascends, and the version knows it. Any such numbers will
-- do, of 32 bits in `shape`, and of 64 in all others and in the items of a dump. A class size need not be a class. So an entry may be well formed,
-- and bad
abbrev pub is_reply : Version → Reply → Bool
is_reply version (Reply.Number number) = are_u64 (number ∷ [])
is_reply version (Reply.Shape shape) = are_below (u32 ∷ u32 ∷ []) (shape.references ∷ shape.numbers ∷ [])
is_reply version (Reply.Spent units phase) = are_u64 (units ∷ [])
is_reply version (Reply.Stat stat) = are_u64 (stat.free ∷ stat.live ∷ stat.old ∷ stat.cycle ∷ [])
is_reply version (Reply.Dump items) = items_in_range items && ascends None None items
is_reply version (Reply.Report report) =
    are_u64 (report.mutator ∷ report.collector ∷ report.quanta ∷ report.greatest ∷ report.window ∷ []) && (are_u64 (option_to_list report.least) && are_u64 (option_to_list report.floor))
is_reply One (Reply.Left quanta) = false
is_reply Two (Reply.Left quanta) = are_u64 (quanta ∷ [])
is_reply version _ = true

-- Read -------------------------------------------------------------------------------------------

-- two lists have the same texts
abbrev pub are_texts : List Text → List Text → Bool
are_texts [] [] = true
are_texts [] (y ∷ ys) = false
are_texts (x ∷ xs) [] = false
are_texts (x ∷ xs) (y ∷ ys) = is_text x y && are_texts xs ys

-- a form of these words alone
abbrev pub with_words : {X : Type 0} → Text → List Text → X → Form X
with_words verb more x = record { verb = verb; meaning = λ words. within (are_texts words more) x }

-- the refusals by their words
abbrev pub refusal_forms : List (Form Refusal)
refusal_forms =
    with_words (codes "1") (codes "bad" ∷ codes "slot" ∷ []) BadSlot
    ∷ with_words (codes "2") (codes "null" ∷ []) Null
    ∷ with_words (codes "3") (codes "no" ∷ codes "field" ∷ []) NoField
    ∷ with_words (codes "4") (codes "too" ∷ codes "large" ∷ []) TooLarge
    ∷ with_words (codes "5") (codes "heap" ∷ codes "full" ∷ []) HeapFull
    ∷ with_words (codes "6") (codes "ended" ∷ []) Ended
    ∷ with_words (codes "7") (codes "too" ∷ codes "many" ∷ codes "sessions" ∷ []) TooManySessions
    ∷ []

-- the phases by their words, and the phase that a word is
abbrev pub phase_forms : List (Form Phase)
phase_forms =
    with_words (codes "idle") [] Idle ∷ with_words (codes "roots") [] Roots ∷ with_words (codes "mark") [] Mark ∷ with_words (codes "sweep") [] Sweep ∷ with_words (codes "defrag") [] Defrag ∷ []

abbrev pub phase_of : Text → Option Phase
phase_of word = formed phase_forms (word ∷ [])

-- the flags by their words, and the flag that a word is
abbrev pub flag_forms : List (Form Bool)
flag_forms = with_words (codes "+") [] true ∷ with_words (codes "-") [] false ∷ []

abbrev pub flag_of : Text → Option Bool
flag_of word = formed flag_forms (word ∷ [])

-- the words between which these keys stand, each followed by a word
abbrev pub values : List Text → List Text → Option (List Text)
values [] (value ∷ []) = Some (value ∷ [])
values (key ∷ keys) (value ∷ word ∷ words) = if is_text word key then option_map (λ found. value ∷ found) (values keys words) else None
values _ _ = None

-- the reply `Spent` of two words: units and a phase
abbrev pub spent_of : List Text → Option Reply
spent_of (units ∷ phase ∷ []) = option_and_then (λ n. option_map (λ p. Reply.Spent n p) (phase_of phase)) (number units)
spent_of _ = None

-- the reply to `Stat` of four numbers and a phase, and of the five words that are these
abbrev pub stat_from : List ℕ → Phase → Stat
stat_from ns phase = record { free = at ns 0; live = at ns 1; old = at ns 2; phase = phase; cycle = at ns 3 }

abbrev pub stat_of : List Text → Option Reply
stat_of (free ∷ live ∷ old ∷ phase ∷ cycle ∷ []) =
    option_and_then (λ ns. option_map (λ p. Reply.Stat (stat_from ns p)) (phase_of phase)) (numbers (free ∷ live ∷ old ∷ cycle ∷ []))
stat_of _ = None

-- a number, or none by the answer to the test of the word for none
abbrev pub optional_by : Option ℕ → Bool → Option (Option ℕ)
optional_by (Some n) none = Some (Some n)
optional_by None true = Some None
optional_by None false = None

-- the number that a word is, or none if it is `none`
abbrev pub optional_of : Text → Option (Option ℕ)
optional_of word = optional_by (number word) (is_text word (codes "none"))

-- the reply to `Report` of five numbers and two that may be none, and of the seven words that are these
abbrev pub report_from : List ℕ → Option ℕ → Option ℕ → Report
report_from ns least floor = record { mutator = at ns 0; collector = at ns 1; quanta = at ns 2; greatest = at ns 3; window = at ns 4; least = least; floor = floor }

abbrev pub report_of : List Text → Option Reply
report_of (mutator ∷ collector ∷ quanta ∷ greatest ∷ window ∷ least ∷ floor ∷ []) =
    option_and_then (λ ns. option_and_then (λ x. option_map (λ y. Reply.Report (report_from ns x y)) (optional_of floor)) (optional_of least))
    (numbers (mutator ∷ collector ∷ quanta ∷ greatest ∷ window ∷ []))
report_of _ = None

-- a slot, and what stands after its mark, as three words
abbrev pub placed_from : List Text → List Text
placed_from (slot ∷ place ∷ []) = slot ∷ parts_at 46 place
placed_from _ = []

-- the item that is made of the three numbers of a word with this mark
abbrev pub placed_by : ℕ → (List ℕ → DumpItem) → Text → Option DumpItem
placed_by mark made word = numbered (u64 ∷ u64 ∷ u64 ∷ []) made (placed_from (parts_at mark word))

-- the block or the forwarder that a word is: `SLOT=BIRTH.PART`, or `SLOT>PAGE.SLOT`
abbrev pub placed_of : Text → Option DumpItem
placed_of word = option_or (placed_by 61 (λ ns. DumpItem.Block (at ns 0) (at ns 1) (at ns 2)) word) (placed_by 62 (λ ns. DumpItem.Forwarder (at ns 0) (at ns 1) (at ns 2)) word)

-- how much of the three words of a page was read: P and its number, C and its class, its flag
pub data Pending : Type 0 where
  Ready : Pending
  HasPage : ℕ → Pending
  HasClass : ℕ → ℕ → Pending

-- items with one more in front, if all of them were read
abbrev pub with_item : Option DumpItem → Option (List DumpItem) → Option (List DumpItem)
with_item None items = None
with_item (Some item) items = option_map (λ items. item ∷ items) items

-- the items that words are, read one word at a time, with what was read of a page before
abbrev pub items_from : Pending → List Text → Option (List DumpItem)
items_from Ready [] = Some []
items_from (HasPage page) [] = None
items_from (HasClass page class_size) [] = None
items_from Ready (word ∷ words) = elim (tagged 80 word) [ Some page ↦ items_from (HasPage page) words | None ↦ with_item (placed_of word) (items_from Ready words) ]
items_from (HasPage page) (word ∷ words) = elim (tagged 67 word) [ Some class_size ↦ items_from (HasClass page class_size) words | None ↦ None ]
items_from (HasClass page class_size) (word ∷ words) = with_item (option_map (λ flag. DumpItem.Page page class_size flag) (flag_of word)) (items_from Ready words)

-- the dump that words are, if its pages and slots ascend
abbrev pub dump_of : List Text → Option Reply
dump_of words = option_and_then (λ items. within (ascends None None items) (Reply.Dump items)) (items_from Ready words)

-- the replies by their first words, of which the first version of histories knows one less: `left`
abbrev pub reply_forms : Version → List (Form Reply)
reply_forms version =
    with_words (codes "ok") [] Reply.Done
    ∷ with_words (codes "yes") [] Reply.Yes
    ∷ with_words (codes "no") [] Reply.No
    ∷ with_numbers (codes "number") (u64 ∷ []) (λ ns. Reply.Number (at ns 0))
    ∷ with_numbers (codes "shape") (u32 ∷ u32 ∷ []) (λ ns. Reply.Shape (record { references = at ns 0; numbers = at ns 1 }))
    ∷ (record { verb = codes "refused"; meaning = λ words. option_map (λ refusal. Reply.Refused refusal) (formed refusal_forms words) })
    ∷ (record { verb = codes "spent"; meaning = λ words. option_and_then spent_of (values (codes "phase" ∷ []) words) })
    ∷ (record { verb = codes "free"; meaning = λ words. option_and_then stat_of (values (codes "live" ∷ codes "old" ∷ codes "phase" ∷ codes "cycle" ∷ []) words) })
    ∷ (record { verb = codes "dump"; meaning = dump_of })
    ∷ (record { verb = codes "mutator"; meaning = λ words. option_and_then report_of (values (codes "collector" ∷ codes "quanta" ∷ codes "greatest" ∷ codes "window" ∷ codes "least" ∷ codes "floor" ∷ []) words) })
    ∷ where_known version (with_numbers (codes "left") (u64 ∷ []) (λ ns. Reply.Left (at ns 0)))

-- the well-formed reply that words are
abbrev pub reply_of : Version → List Text → Option Reply
reply_of version words = formed (reply_forms version) words
