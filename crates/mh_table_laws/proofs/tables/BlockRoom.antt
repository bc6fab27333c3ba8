-- The words of a page: its slots have room for the blocks of its class, and each block fits its slot.
use Rattle.std.proofs.Common.{◌≡◌, ℕ, ◌+◌, ◌*◌, ◌≤◌, Bool, true, nat_le, if◌then◌else◌, inl, inr, List, [], ◌∷◌, length, get_or, set, Option, Some, None, option_map, option_and_then, unwrap_or, find, refl, sym, ap, ◌∙◌, subst, arith}
use Rattle.std.proofs.{lemmas.Bool.{and_parts, leb-true}, lemmas.Option.{none-some, same_Some}}
use Rattle.std.proofs.lemmas.List.{length-set, length-replicate, set-get_or}
use Rattle.mh_model.specs.Classes.{class_of, slots_in}
use Rattle.mh_model.specs.Pages.{Page, Table, page_number, slot_number, page_at, block_in, block_at, page_with, with_block, page_for, with_taken}
use Rattle.mh_model.specs.{Table.Block, Collector.{survivor, is_last_slot, judged_page, swept_page, swept_table}}
use Rattle.mh_model.specs.CycleBounds.{IsRoomyPage, IsRoomy}
use Rattle.mh_table_laws.proofs.{Lists.{find-passes, get_or-set_either, none_at}, placing.Places.IsShaped}
use Rattle.mh_table_laws.specs.Tables.{IsSized}

-- Pages ------------------------------------------------------------------------------------------

-- a class of at least 4 words has at most 64 slots
pub few_slots : (page : Page Block) → IsRoomyPage page → length page.slots ≤ 64
few_slots page roomy = grind arith

pub roomy-shaped : (table : Table Block) → IsRoomy table → IsShaped table
roomy-shaped table roomy number page e = few_slots page (roomy.pages number page e)

pub roomy-sized : (table : Table Block) → IsRoomy table → IsSized table
roomy-sized table roomy = record { classes = λ number page e. (roomy.pages number page e).most; references = λ place. by_page place (page_at table (page_number place)) refl }
  where
    by_block : (page : Page Block) (slot : ℕ) → IsRoomyPage page → (block : Option Block) → block_in slot page ≡ block → length (unwrap_or (option_map (λ b. b.references) block) []) ≤ 60
    by_block page slot one block e = grind arith

    by_page : (place : ℕ) (page : Option (Page Block)) → page_at table (page_number place) ≡ page → length (unwrap_or (option_map (λ b. b.references) (option_and_then (block_in (slot_number place)) page)) []) ≤ 60
    by_page place None e = omega arith
    by_page place (Some page) e = by_block page (slot_number place) (roomy.pages (page_number place) page e) (block_in (slot_number place) page) refl

-- a slot written with a block that fits
pub page_with-roomy : (page : Page Block) (slot : ℕ) (content : Option Block) → IsRoomyPage page → ((block : Block) → content ≡ Some block → length block.references + 4 ≤ page.class_size) → IsRoomyPage (page_with slot content page)
page_with-roomy page slot content roomy fits = record {
  least = roomy.least;
  most = roomy.most;
  words = rw (length-set page.slots slot content) roomy.words;
  blocks = λ other block e. elim (get_or-set_either page.slots slot other content None (Some block) e) [ inl new ↦ fits block new | inr old ↦ roomy.blocks other block old ];
}

-- a page written
pub set-roomy : (table : Table Block) (number : ℕ) (content : Option (Page Block)) → IsRoomy table → ((page : Page Block) → content ≡ Some page → IsRoomyPage page) → IsRoomy (set table number content)
set-roomy table number content roomy new = record {
  pages = λ other page e. elim (get_or-set_either table number other content None (Some page) e) [ inl written ↦ new page written | inr old ↦ roomy.pages other page old ];
}

mapped-some : {A B : Type 0} (f : A → B) (content : Option A) (b : B) → option_map f content ≡ Some b → (a : A) × (content ≡ Some a) × (f a ≡ b)
mapped-some f content b e = grind arith

-- a block written to a place of a page in use
pub with_block-roomy : (table : Table Block) (place : ℕ) (content : Option Block) → IsRoomy table
    → ((page : Page Block) (block : Block) → page_at table (page_number place) ≡ Some page → content ≡ Some block → length block.references + 4 ≤ page.class_size) → IsRoomy (with_block table place content)
with_block-roomy table place content roomy fits = set-roomy table (page_number place) _ roomy written
  where
    written : (new : Page Block) → option_map (page_with (slot_number place) content) (page_at table (page_number place)) ≡ Some new → IsRoomyPage new
    written new e =
        let (page, in_use, is) = mapped-some (page_with (slot_number place) content) (page_at table (page_number place)) new e in
        subst IsRoomyPage is (page_with-roomy page (slot_number place) content (roomy.pages (page_number place) page in_use) (λ block h. fits page block in_use h))

block_at-page : (table : Table Block) (place : ℕ) (page : Page Block) (block : Block) → page_at table (page_number place) ≡ Some page → block_at table place ≡ Some block → block_in (slot_number place) page ≡ Some block
block_at-page table place page block in_use e = sym (ap (option_and_then (block_in (slot_number place))) in_use) ∙ e

-- a block written in the place of one with as many references
pub rewritten-roomy : (table : Table Block) (place : ℕ) (old new : Block) → IsRoomy table → block_at table place ≡ Some old → length new.references ≡ length old.references → IsRoomy (with_block table place (Some new))
rewritten-roomy table place old new roomy at same = with_block-roomy table place (Some new) roomy fits
  where
    fits : (page : Page Block) (block : Block) → page_at table (page_number place) ≡ Some page → Some new ≡ Some block → length block.references + 4 ≤ page.class_size
    fits page block in_use e =
        let there = (roomy.pages (page_number place) page in_use).blocks (slot_number place) old (block_at-page table place page old in_use at) in
        rw (← same_Some new block e, same) there

-- Classes ----------------------------------------------------------------------------------------

-- what a class is: 4 to 64 words, and its slots lie in 256 words
pub record IsClass (size : ℕ) : Type 0 where
  pub least : 4 ≤ size
  pub most : size ≤ 64
  pub words : size * slots_in size ≤ 256

pub class_of-is : (words size : ℕ) → class_of words ≡ Some size → IsClass size
class_of-is words size e = search (arith, nat_le, none-some, and_parts, find-passes, leb-true)

find-passed : {X : Type 0} (test : X → Bool) (xs : List X) (x : X) → find test xs ≡ Some x → test x ≡ true
find-passed test [] x e = absurd (none-some x e)
find-passed test (y ∷ xs) x e = go (test y) refl e (λ h. find-passed test xs x h)
  where
    go : (b : Bool) → test y ≡ b → (if b then Some y else find test xs) ≡ Some x → (find test xs ≡ Some x → test x ≡ true) → test x ≡ true
    go b is h ih = grind arith

pub class_of-fits : (words size : ℕ) → class_of words ≡ Some size → words ≤ size
class_of-fits words size e = search (arith, nat_le, none-some, leb-true, find-passed)

page_for-roomy : (size : ℕ) (content : Option (Page Block)) → IsClass size → ((page : Page Block) → content ≡ Some page → IsRoomyPage page) → IsRoomyPage (page_for size content)
page_for-roomy size None class roomy = grind (arith, length-replicate, none-some, none_at)
page_for-roomy size (Some page) class roomy = roomy page refl

-- a block placed in a page of its class
pub with_taken-roomy : (table : Table Block) (size place : ℕ) (block : Block) → IsRoomy table → IsClass size → (page_for size (page_at table (page_number place))).class_size ≡ size → length block.references + 4 ≤ size
    → IsRoomy (with_taken table size place block)
with_taken-roomy table size place block roomy class of_class fits = set-roomy table (page_number place) _ roomy written
  where
    there : Page Block
    there = page_for size (page_at table (page_number place))

    written : (new : Page Block) → Some (page_with (slot_number place) (Some block) there) ≡ Some new → IsRoomyPage new
    written new e =
        subst IsRoomyPage (same_Some (page_with (slot_number place) (Some block) there) new e)
        (page_with-roomy there (slot_number place) (Some block) (page_for-roomy size (page_at table (page_number place)) class (roomy.pages (page_number place))) (λ b h. rw (of_class, ← same_Some block b h) fits))

-- Sweep and moves --------------------------------------------------------------------------------

pub survivor-same : (cycle : ℕ) (block left : Block) → survivor cycle block ≡ Some left → block ≡ left
survivor-same cycle block left e = grind arith

judged-roomy : (table : Table Block) (number : ℕ) (page new : Page Block) → IsRoomyPage page → judged_page table number page ≡ Some new → IsRoomyPage new
judged-roomy table number page new roomy e = grind arith

swept_page-roomy : (cycle : ℕ) (table : Table Block) (place : ℕ) (page new : Page Block) → IsRoomyPage page → swept_page cycle table place page ≡ Some new → IsRoomyPage new
swept_page-roomy cycle table place page new roomy e = go (is_last_slot place page) e
  where
    content : Option Block
    content = option_and_then (survivor cycle) (block_in (slot_number place) page)

    swept : Page Block
    swept = page_with (slot_number place) content page

    by_old : (old : Option Block) (left : Block) → block_in (slot_number place) page ≡ old → option_and_then (survivor cycle) old ≡ Some left → length left.references + 4 ≤ page.class_size
    by_old old left at h = grind arith

    one : IsRoomyPage swept
    one = search (arith, page_with-roomy, content, by_old)

    go : (b : Bool) → (if b then judged_page table (page_number place) swept else Some swept) ≡ Some new → IsRoomyPage new
    go b h = grind (arith, judged-roomy, swept, one, same_Some)

-- a sweep step leaves pages roomy
pub swept-roomy : (cycle : ℕ) (table : Table Block) (place : ℕ) → IsRoomy table → IsRoomy (swept_table cycle table place)
swept-roomy cycle table place roomy = set-roomy table (page_number place) _ roomy (λ new e. go (page_at table (page_number place)) new refl e)
  where
    go : (content : Option (Page Block)) (new : Page Block) → page_at table (page_number place) ≡ content → option_and_then (swept_page cycle table place) content ≡ Some new → IsRoomyPage new
    go None new at e = absurd (none-some new e)
    go (Some page) new at e = swept_page-roomy cycle table place page new (roomy.pages (page_number place) page at) e

set_same : {X : Type 0} (xs : List (Option X)) (index : ℕ) (x : Option X) → get_or xs index None ≡ x → set xs index x ≡ xs
set_same xs index x e = ap (λ y. set xs index y) (sym e) ∙ set-get_or xs index None

-- nothing written if nothing is
pub with_block-none : (table : Table Block) (place : ℕ) → block_at table place ≡ None → with_block table place None ≡ table
with_block-none table place e = set_same table (page_number place) _ (go (page_at table (page_number place)) e)
  where
    go : (content : Option (Page Block)) → option_and_then (block_in (slot_number place)) content ≡ None → content ≡ option_map (page_with (slot_number place) None) content
    go content h = grind (arith, set_same)
