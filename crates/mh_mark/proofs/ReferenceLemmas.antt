-- One reference of a block: where it leads, and what writing it back and shading it are.
use Rattle.std.proofs.Common.{arith, ◌≡◌, ℕ, zero, suc, ◌+◌, ◌*◌, Bool, true, false, inl, inr, List, [], ◌∷◌, get_or, set, Option, Some, None, option_map, option_and_then, unwrap_or, is_some, IsSome, refl, sym, ap, ◌∙◌}
use Rattle.std.proofs.{lemmas.Bool.false≢true, lemmas.List.set-get_or}
use Rattle.mh_model.specs.Pages.{Table, page_number, slot_number, page_at, block_in, block_at, class_at, page_with, with_block}
use Rattle.mh_model.specs.Table.{Block, resolve, target_of, references_at, reference_at, with_reference_at, forward_at, LeadsOn, LeadsHome}
use Rattle.mh_model.specs.Collector.{Marking, shade_place, shade, mark_reference}
use Rattle.mh_pages.specs.Addresses.{address_in}
use Rattle.mh_table_laws.proofs.{marking.BatchMarking.there_before, placing.Places.block_at-with_block_there}
use Rattle.mh_grey.specs.{Queue.is_in, Shading.{IsApartAt, AreMarked}}
use Rattle.mh_grey.proofs.{ShadeLemmas.shade-cases, StampLemmas.{change-view, like-reference}}
use Rattle.mh_mark.specs.Auxiliary.{IsResolved}

-- Where references lead ------------------------------------------------------------------------------

pub home-leads : (table : Table Block) (reference : Option ℕ) → LeadsHome table reference → LeadsOn table reference
home-leads table None home = tt
home-leads table (Some place) home = (there_before table place home.0, home.0)

-- what a reference to a block that is no forwarder leads to is that block
pub at_home-leads : (table : Table Block) (reference : Option ℕ) → IsResolved table reference → LeadsHome table reference
at_home-leads table None home = tt
at_home-leads table (Some place) home = grind arith

pub target-at_home : (table : Table Block) (reference : Option ℕ) → LeadsHome table reference → IsResolved table (target_of table reference)
target-at_home table None home = tt
target-at_home table (Some place) home = home

-- What is written ------------------------------------------------------------------------------------

unchanged_slots : {X : Type 0} (slots : List (Option X)) (slot : ℕ) (g : X → X) → ((x : X) → get_or slots slot None ≡ Some x → g x ≡ x) → set slots slot (option_map g (get_or slots slot None)) ≡ slots
unchanged_slots [] slot g same = refl
unchanged_slots (None ∷ slots) zero g same = refl
unchanged_slots (Some x ∷ slots) zero g same = ap (λ y. Some y ∷ slots) (same x refl)
unchanged_slots (content ∷ slots) (suc slot) g same = ap (λ rest. content ∷ rest) (unchanged_slots slots slot g same)

unchanged_pages : {X : Type 0} (table : Table X) (number slot : ℕ) (g : X → X) → ((x : X) → option_and_then (block_in slot) (page_at table number) ≡ Some x → g x ≡ x)
    → set table number (option_map (page_with slot (option_map g (option_and_then (block_in slot) (page_at table number)))) (page_at table number)) ≡ table
unchanged_pages [] number slot g same = refl
unchanged_pages (None ∷ table) zero slot g same = refl
unchanged_pages (Some page ∷ table) zero slot g same = ap (λ slots. Some (record page { slots = slots }) ∷ table) (unchanged_slots page.slots slot g same)
unchanged_pages (page ∷ table) (suc number) slot g same = ap (λ rest. page ∷ rest) (unchanged_pages table number slot g same)

-- what stands there written changes nothing
pub same_reference : (table : Table Block) (place index : ℕ) (reference : Option ℕ) → reference_at table place index ≡ reference → with_reference_at table place index reference ≡ table
same_reference table place index reference is =
    unchanged_pages table (page_number place) (slot_number place) (λ (block : Block). record block { references = set block.references index reference })
    (λ block at. ap (λ references. record block { references = references }) (ap (set block.references index) (sym (sym (ap (λ (o : Option Block). get_or (unwrap_or (option_map (λ b. b.references) o) []) index None) at) ∙ is)) ∙ set-get_or block.references index None))

pub references_written : (table : Table Block) (place index : ℕ) (reference : Option ℕ) → IsSome (block_at table place) → references_at (with_reference_at table place index reference) place ≡ set (references_at table place) index reference
references_written table place index reference there =
    ap (λ (o : Option Block). unwrap_or (option_map (λ b. b.references) o) []) (block_at-with_block_there table place (option_map (λ (b : Block). record b { references = set b.references index reference }) (block_at table place)) there)
    ∙ of (block_at table place) there
  where
    of : (o : Option Block) → IsSome o → unwrap_or (option_map (λ (b : Block). b.references) (option_map (λ (b : Block). record b { references = set b.references index reference }) o)) [] ≡ set (unwrap_or (option_map (λ (b : Block). b.references) o) []) index reference
    of None i = absurd (false≢true i)
    of (Some b) i = refl

-- Pages keep their classes ---------------------------------------------------------------------------

class_kept : {X : Type 0} (table : Table X) (number slot page : ℕ) (content : Option X) → class_at (set table number (option_map (page_with slot content) (page_at table number))) page ≡ class_at table page
class_kept [] number slot page content = refl
class_kept (None ∷ table) zero slot zero content = refl
class_kept (Some used ∷ table) zero slot zero content = refl
class_kept (used ∷ table) zero slot (suc page) content = refl
class_kept (used ∷ table) (suc number) slot zero content = refl
class_kept (used ∷ table) (suc number) slot (suc page) content = class_kept table number slot page content

pub class-with_block : {X : Type 0} (table : Table X) (place page : ℕ) (content : Option X) → class_at (with_block table place content) page ≡ class_at table page
class-with_block table place page content = class_kept table (page_number place) (slot_number place) page content

pub class-shaded : (m : Marking) (reference : Option ℕ) (page : ℕ) → LeadsOn m.table reference → class_at (shade m reference).table page ≡ class_at m.table page
class-shaded m reference page leads = grind (arith, shade-cases, inl, inr, class-with_block)

pub same_address : (table new : Table Block) (place : ℕ) → ((page : ℕ) → class_at new page ≡ class_at table page) → address_in table place ≡ address_in new place
same_address table new place same = ap (λ (o : Option ℕ). record { place = place; word = 256 * page_number place + slot_number place * unwrap_or o 0 }) (sym (same (page_number place)))

-- A reference marked through -------------------------------------------------------------------------

-- a reference written, and shaded
abbrev pub write : Marking → ℕ → ℕ → Option ℕ → Marking
write m place index target = shade (record m { table = with_reference_at m.table place index target }) target

-- a target that is written is shaded if it stands
pub write-home : (m : Marking) (place index target : ℕ) → forward_at m.table target ≡ None → write m place index (Some target) ≡ shade_place (record m { table = with_reference_at m.table place index (Some target) }) target
write-home m place index target home =
    let written = with_reference_at m.table place index (Some target) in
    let same : resolve written target ≡ target = ap (λ o. unwrap_or o target) ((like-reference m.table place index (Some target)).forwards target ∙ home) in
    ap (shade_place (record m { table = written })) same

-- a null reference stays
pub marked-null : (m : Marking) (place index : ℕ) (read : Option ℕ) → read ≡ reference_at m.table place index → read ≡ None → m ≡ mark_reference m place index (reference_at m.table place index)
marked-null m place index read at null =
    let is : reference_at m.table place index ≡ None = sym at ∙ null in
    sym (ap (mark_reference m place index) is ∙ ap (λ table. record m { table = table }) (same_reference m.table place index None is))

-- one that leads straight to its block is only shaded
pub marked-straight : (m : Marking) (place index target : ℕ) (read : Option ℕ) (moved : Bool) → read ≡ reference_at m.table place index → read ≡ Some target → moved ≡ is_some (forward_at m.table target) → moved ≡ false
    → shade_place m target ≡ mark_reference m place index (reference_at m.table place index)
marked-straight m place index target read moved at reads seen none =
    let is : reference_at m.table place index ≡ Some target = sym at ∙ reads in
    let straight : forward_at m.table target ≡ None = none_of (forward_at m.table target) (sym seen ∙ none) in
    let same : resolve m.table target ≡ target = ap (λ o. unwrap_or o target) straight in
    sym (
    ap (mark_reference m place index) is
    ∙ ap (λ p. write m place index (Some p)) same
    ∙ write-home m place index target straight
    ∙ ap (λ table. shade_place (record m { table = table }) target) (same_reference m.table place index (Some target) is)
    )
  where
    none_of : (o : Option ℕ) → is_some o ≡ false → o ≡ None
    none_of None e = refl
    none_of (Some x) e = absurd (false≢true (sym e))

-- one to a forwarder is written back as where it leads and shaded
pub record IsMoved (table : Table Block) (place index from target : ℕ) : Type 0 where
  pub reference : reference_at table place index ≡ Some from
  pub leads : target ≡ resolve table from
  pub home : IsResolved table (Some target)

pub is_moved : (table : Table Block) (place index from target : ℕ) (read : Option ℕ) → LeadsHome table (reference_at table place index) → read ≡ reference_at table place index → read ≡ Some from → target ≡ resolve table from
    → IsMoved table place index from target
is_moved table place index from target read home at is leads = grind (arith, leads, home)

pub marked-moved : (m : Marking) (place index from target : ℕ) → IsMoved m.table place index from target
    → shade_place (record m { table = with_reference_at m.table place index (Some target) }) target ≡ mark_reference m place index (reference_at m.table place index)
marked-moved m place index from target is =
    sym (ap (mark_reference m place index) is.reference ∙ ap (λ p. write m place index (Some p)) (sym is.leads) ∙ write-home m place index target is.home.1)

-- the block is there after the reference was written
pub written-there : (table : Table Block) (place index target : ℕ) (reference : Option ℕ) → IsResolved table (Some target) → IsSome (block_at (with_reference_at table place index reference) target)
written-there table place index target reference home = (like-reference table place index reference).there target ∙ home.0

-- if grey places are marked, a place may be shaded, and after a reference is written too
pub marked-apart_at : (table : Table Block) (cycle : ℕ) (grey : List ℕ) (place : ℕ) → AreMarked table cycle grey → IsApartAt table cycle grey place
marked-apart_at table cycle grey place marked unmarked = go (is_in place grey) refl
  where
    go : (there : Bool) → is_in place grey ≡ there → is_in place grey ≡ false
    go true at = absurd (unmarked (marked place at))
    go false at = at

pub marked-written : (table : Table Block) (place index : ℕ) (reference : Option ℕ) (cycle : ℕ) (grey : List ℕ) → AreMarked table cycle grey → AreMarked (with_reference_at table place index reference) cycle grey
marked-written table place index reference cycle grey marked q is =
    change-view (λ (o : Option Block). unwrap_or (option_map (λ b. b.stamp) o) 0) (λ (b : Block). record b { references = set b.references index reference }) (λ b. refl) table place q ∙ marked q is
