-- The grey list: no place stands twice in it, each holds a marked block, and what marking still costs only falls.
use Rattle.std.proofs.Common.{◌≡◌, ◌≢◌, ℕ, zero, suc, ◌+◌, ◌≤◌, ◌==◌, false, if◌then◌else◌, List, [], ◌∷◌, ◌++◌, length, set, replicate, Option, Some, None, option_map, refl, sym, ap, ◌∙◌, subst, arith}
use Rattle.std.proofs.{lemmas.Bool.{cases_eq, eq-eqb, ne_eqb}, lemmas.List.{length-set, length-append}}
use Rattle.std.proofs.{lemmas.List.Sums.{sum_by-append, sum_by-cons, sum_by-set}, lemmas.Option.{none-some, same_Some}}
use Rattle.std.specs.List.{AllByRecursion, IsDistinct, sum_by}
use Rattle.mh_model.specs.Pages.{Page, Table, page_number, slot_number, page_at, block_in, block_at, page_with, with_block, page_for, with_taken, IsFreeFor}
use Rattle.mh_model.specs.Table.{Block, references_at, with_block_change, with_reference_at, target_of}
use Rattle.mh_model.specs.Collector.{Marking, shade_block, shade, mark_reference, mark_references, mark_first}
use Rattle.mh_model.specs.Batches.{written_back}
use Rattle.mh_model.specs.CycleBounds.{count_at, class_at, slot_weight, page_weight, table_weight, grey_weight, weight, IsGreySound, IsMarkedIn}
use Rattle.mh_table_laws.specs.Marking.{IsSettled}
use Rattle.mh_table_laws.proofs.placing.Places.{IsSlot, block_in-page_for, block_at-with_block_same, block_at-with_block_other, block-slot}
use Rattle.mh_table_laws.proofs.{tables.BlockRoom.{rewritten-roomy, with_block-none}, Lists.below_length}

-- Weights ----------------------------------------------------------------------------------------

module _ (price : ℕ → ℕ) (cycle : ℕ) where
  weight-with_block : (table : Table Block) (place : ℕ) (content : Option Block) → IsSlot table place → table_weight price cycle (with_block table place content) + slot_weight price cycle (block_at table place) ≡ table_weight price cycle table + slot_weight price cycle content
  weight-with_block table place content slot = grind (arith, below_length, sum_by-set)

  weight-empty : (count : ℕ) → sum_by (slot_weight price cycle) (replicate count None) ≡ 0
  weight-empty zero = refl
  weight-empty (suc count) = omega (arith, weight-empty count)

  weight-page_for : (size : ℕ) (content : Option (Page Block)) → sum_by (slot_weight price cycle) (page_for size content).slots ≡ page_weight price cycle content
  weight-page_for size content = grind (arith, weight-empty)

  pub weight-with_taken : (table : Table Block) (size place : ℕ) (block : Block) → IsFreeFor table size place → table_weight price cycle (with_taken table size place block) ≡ table_weight price cycle table + slot_weight price cycle (Some block)
  weight-with_taken table size place block free =
      let number = page_number place in
      let page : Page Block = page_for size (page_at table number) in
      let whole : table_weight price cycle (with_taken table size place block) + page_weight price cycle (page_at table number) ≡ table_weight price cycle table + sum_by (slot_weight price cycle) (set page.slots (slot_number place) (Some block)) = sum_by-set (page_weight price cycle) table number (Some (page_with (slot_number place) (Some block) page)) None free.inside in
      let part : sum_by (slot_weight price cycle) (set page.slots (slot_number place) (Some block)) + slot_weight price cycle (block_in (slot_number place) page) ≡ sum_by (slot_weight price cycle) page.slots + slot_weight price cycle (Some block) = sum_by-set (slot_weight price cycle) page.slots (slot_number place) (Some block) None free.within in
      grind (arith, block_in-page_for, weight-page_for)

  pub weight-marked : (block : Block) → block.stamp ≡ cycle → slot_weight price cycle (Some block) ≡ 0
  weight-marked block e = rw (eq-eqb block.stamp cycle e) refl

pub grey_weight-same : (price : ℕ → ℕ) (old new : Table Block) → (grey : List ℕ) → AllByRecursion (λ place. count_at new place ≡ count_at old place) grey → grey_weight price new grey ≡ grey_weight price old grey
grey_weight-same price old new [] same = refl
grey_weight-same price old new (place ∷ grey) (here, after) =
    omega (arith, ap price here, grey_weight-same price old new grey after, sum_by-cons (λ p. price (count_at new p)) place grey, sum_by-cons (λ p. price (count_at old p)) place grey)

all-of : {X : Type 0} (P : X → Type 0) → ((x : X) → P x) → (xs : List X) → AllByRecursion P xs
all-of P f [] = tt
all-of P f (x ∷ xs) = (f x, all-of P f xs)

-- What marking keeps -----------------------------------------------------------------------------

-- what sessions and marking do: soundness stays, no place leaves the grey list and no settled one enters it, marking costs no more, and pages in use keep their classes
pub record Carries (old new : Marking) : Type 0 where
  pub sound : IsGreySound new
  pub longer : length old.grey ≤ length new.grey
  pub settled : (place : ℕ) → IsSettled old place → IsSettled new place
  pub lighter : (price : ℕ → ℕ) → weight price new ≤ weight price old
  pub classes : (number size : ℕ) → class_at old.table number ≡ Some size → class_at new.table number ≡ Some size

pub carries_nothing : (marking : Marking) → IsGreySound marking → Carries marking marking
carries_nothing marking sound = grind arith

pub then_carries : (first second third : Marking) → Carries first second → Carries second third → Carries first third
then_carries first second third one two = grind arith

pub all-map : {X : Type 0} (P Q : X → Type 0) → ((x : X) → P x → Q x) → (xs : List X) → AllByRecursion P xs → AllByRecursion Q xs
all-map P Q f [] all = tt
all-map P Q f (x ∷ xs) (here, after) = (f x here, all-map P Q f xs after)

pub all-snoc : {X : Type 0} (P : X → Type 0) (xs : List X) (x : X) → AllByRecursion P xs → P x → AllByRecursion P (xs ++ x ∷ [])
all-snoc P [] x all last = (last, tt)
all-snoc P (y ∷ xs) x (here, after) last = (here, all-snoc P xs x after last)

distinct-snoc : (xs : List ℕ) (x : ℕ) → IsDistinct (λ a b. a == b) xs → AllByRecursion (λ y. y ≢ x) xs → IsDistinct (λ a b. a == b) (xs ++ x ∷ [])
unfolding IsDistinct
distinct-snoc [] x distinct apart = (tt, tt)
distinct-snoc (y ∷ xs) x (here, after) (other, others) = grind (arith, all-snoc, ne_eqb, distinct-snoc xs x after others)

-- a page written keeps its class
class-set : (table : Table Block) (index : ℕ) (new : Option (Page Block)) → ((page : Page Block) → page_at table index ≡ Some page → option_map (λ p. p.class_size) new ≡ Some page.class_size) → (number size : ℕ) → class_at table number ≡ Some size → class_at (set table index new) number ≡ Some size
class-set (page ∷ table) (suc index) new keeps (suc number) size e = class-set table index new keeps number size e
class-set table index new keeps number size e = grind (arith, none-some)

-- a block written keeps the classes of pages
pub class-with_block : (table : Table Block) (place : ℕ) (content : Option Block) (number size : ℕ) → class_at table number ≡ Some size → class_at (with_block table place content) number ≡ Some size
class-with_block table place content = grind (arith, class-set)

-- and so does a block placed
pub class-with_taken : (table : Table Block) (size place : ℕ) (block : Block) (number class : ℕ) → class_at table number ≡ Some class → class_at (with_taken table size place block) number ≡ Some class
class-with_taken table size place block = grind (arith, class-set)

-- A block written in the place of another with as many references
module _ (table : Table Block) (place : ℕ) (old new : Block) (at : block_at table place ≡ Some old) (counts : length new.references ≡ length old.references) where
  abbrev after : Table Block
  after = with_block table place (Some new)

  written : block_at after place ≡ Some new
  written = block_at-with_block_same table place (Some new) (block-slot table place old at)

  count-rewritten : (other : ℕ) → count_at after other ≡ count_at table other
  count-rewritten other = grind (arith, cases_eq, written, block_at-with_block_other)

  marked-rewritten : (cycle : ℕ) → (old.stamp ≡ cycle → new.stamp ≡ cycle) → (other : ℕ) → IsMarkedIn table cycle other → IsMarkedIn after cycle other
  marked-rewritten cycle keeps other is = grind (arith, cases_eq, same_Some, written, block_at-with_block_other)

  class-rewritten : (number size : ℕ) → class_at table number ≡ Some size → class_at after number ≡ Some size
  class-rewritten number size e = class-with_block table place (Some new) number size e

  -- Soundness stays if the stamp does
  pub rewritten-carries : (grey : List ℕ) (cycle : ℕ) → new.stamp ≡ old.stamp → IsGreySound (record { table = table; grey = grey; cycle = cycle }) → Carries (record { table = table; grey = grey; cycle = cycle }) (record { table = after; grey = grey; cycle = cycle })
  rewritten-carries grey cycle stamps sound = search (arith, rewritten-roomy, all-map, marked-rewritten, lighter, class-rewritten)
    where
      lighter : (price : ℕ → ℕ) → weight price (record { table = after; grey = grey; cycle = cycle }) ≤ weight price (record { table = table; grey = grey; cycle = cycle })
      lighter price =
          let same : slot_weight price cycle (Some new) ≡ slot_weight price cycle (Some old) = rw (stamps, counts) refl in
          let there : slot_weight price cycle (block_at table place) ≡ slot_weight price cycle (Some old) = ap (slot_weight price cycle) at in
          omega (arith, same, there, weight-with_block price cycle table place (Some new) (block-slot table place old at), grey_weight-same price table after grey (all-of (λ p. count_at after p ≡ count_at table p) count-rewritten grey))

  -- and if it becomes the cycle's number and its place grey
  pub shaded-carries : (grey : List ℕ) (cycle : ℕ) → new.stamp ≡ cycle → (old.stamp == cycle) ≡ false → IsGreySound (record { table = table; grey = grey; cycle = cycle })
      → Carries (record { table = table; grey = grey; cycle = cycle }) (record { table = after; grey = grey ++ place ∷ []; cycle = cycle })
  shaded-carries grey cycle stamps unmarked sound = record {
    sound = grind (arith, rewritten-roomy, distinct-snoc, all-map, apart, all-snoc, marked-rewritten, written);
    longer = omega (arith, length-append grey (place ∷ []));
    settled = λ other s. record { marked = marked-rewritten cycle (λ e. stamps) other s.marked; apart = all-snoc (λ g. g ≢ other) grey place s.apart (λ e. apart other s.marked (sym e)) };
    lighter = lighter;
    classes = class-rewritten;
  }
    where
      apart : (other : ℕ) → IsMarkedIn table cycle other → other ≢ place
      apart other is same = grind arith

      lighter : (price : ℕ → ℕ) → weight price (record { table = after; grey = grey ++ place ∷ []; cycle = cycle }) ≤ weight price (record { table = table; grey = grey; cycle = cycle })
      lighter price =
          let none : slot_weight price cycle (Some new) ≡ 0 = weight-marked price cycle new stamps in
          let there : slot_weight price cycle (block_at table place) ≡ price (length old.references) = ap (slot_weight price cycle) at ∙ ap (λ b. if b then 0 else price (length old.references)) unmarked in
          grind (arith, sum_by-append, count-rewritten, weight-with_block, block-slot, grey_weight-same, all-of)

-- Shading and marking ----------------------------------------------------------------------------

shade_block-carries : (marking : Marking) (place : ℕ) (block : Option Block) → block_at marking.table place ≡ block → IsGreySound marking → Carries marking (shade_block marking place block)
shade_block-carries marking place None at sound = carries_nothing marking sound
shade_block-carries marking place (Some block) at sound = search (arith, shaded-carries marking.table place block (record block { stamp = marking.cycle }))

-- Shading keeps what marking keeps
pub shade-carries : (marking : Marking) (reference : Option ℕ) → IsGreySound marking → Carries marking (shade marking reference)
shade-carries marking None sound = carries_nothing marking sound
shade-carries marking (Some place) sound = search (arith, shade_block-carries)

-- a change of a block that keeps its stamp and how many references it has
pub change-carries : (marking : Marking) (place : ℕ) (change : Block → Block) → ((block : Block) → block_at marking.table place ≡ Some block → ((change block).stamp ≡ block.stamp) × (length (change block).references ≡ length block.references)) → IsGreySound marking
    → Carries marking (record marking { table = with_block_change marking.table place change })
change-carries marking place change keeps sound = go (block_at marking.table place) refl
  where
    go : (block : Option Block) → block_at marking.table place ≡ block → Carries marking (record marking { table = with_block marking.table place (option_map change block) })
    go None at = grind (arith, with_block-none, carries_nothing)
    go (Some block) at = grind (arith, rewritten-carries marking.table place block (change block))

pub reference-carries : (marking : Marking) (place index : ℕ) (reference : Option ℕ) → IsGreySound marking → Carries marking (record marking { table = with_reference_at marking.table place index reference })
reference-carries marking place index reference sound = search (arith, change-carries, length-set)

mark_reference-carries : (marking : Marking) (place index : ℕ) (reference : Option ℕ) → IsGreySound marking → Carries marking (mark_reference marking place index reference)
mark_reference-carries marking place index reference sound =
    let target = target_of marking.table reference in
    let written = reference-carries marking place index target sound in
    then_carries marking _ _ written (shade-carries (record marking { table = with_reference_at marking.table place index target }) target written.sound)

mark_references-carries : (marking : Marking) (place index : ℕ) (references : List (Option ℕ)) → IsGreySound marking → Carries marking (mark_references marking place index references)
mark_references-carries marking place index [] sound = carries_nothing marking sound
mark_references-carries marking place index (reference ∷ references) sound =
    let one = mark_reference-carries marking place index reference sound in
    then_carries marking _ _ one (mark_references-carries (mark_reference marking place index reference) place (suc index) references one.sound)

without_first : (marking : Marking) (place : ℕ) (grey : List ℕ) → marking.grey ≡ place ∷ grey → IsGreySound marking → IsGreySound (record marking { grey = grey })
unfolding IsDistinct
without_first marking place grey is sound = grind arith

-- A mark step pays for the block that it marks through, and keeps what marking keeps
pub record MarksThrough (old new : Marking) (count : ℕ) : Type 0 where
  pub sound : IsGreySound new
  pub paid : (price : ℕ → ℕ) → weight price new + price count ≤ weight price old
  pub settled : (place : ℕ) → IsSettled old place → IsSettled new place

pub mark_first-pays : (marking : Marking) (place : ℕ) (grey : List ℕ) → marking.grey ≡ place ∷ grey → IsGreySound marking → MarksThrough marking (mark_first marking (place ∷ grey)) (count_at marking.table place)
mark_first-pays marking place grey is sound =
    let rest : Marking = record marking { grey = grey } in
    let through = mark_references-carries rest place 0 (references_at marking.table place) (without_first marking place grey is sound) in
    record {
      sound = through.sound;
      settled = λ other s. through.settled other (record { marked = s.marked; apart = (subst (AllByRecursion (λ g. g ≢ other)) is s.apart).1 });
      paid = λ price.
          omega (arith, through.lighter price, ap (grey_weight price marking.table) is ∙ sum_by-cons (λ p. price (count_at marking.table p)) place grey);
    }

-- Cycle numbers ----------------------------------------------------------------------------------

pub cycle-shade : (marking : Marking) (reference : Option ℕ) → (shade marking reference).cycle ≡ marking.cycle
cycle-shade marking reference = grind arith

pub cycle-mark_references : (marking : Marking) (place index : ℕ) (references : List (Option ℕ)) → (mark_references marking place index references).cycle ≡ marking.cycle
cycle-mark_references marking place index [] = refl
cycle-mark_references marking place index (reference ∷ references) = cycle-mark_references (mark_reference marking place index reference) place (suc index) references ∙ cycle-shade _ (target_of marking.table reference)

pub cycle-written_back : (found : List (Option ℕ)) (marking : Marking) (place index : ℕ) → (written_back marking place index found).cycle ≡ marking.cycle
cycle-written_back [] marking place index = refl
cycle-written_back (target ∷ found) marking place index = cycle-written_back found _ place (suc index) ∙ cycle-shade _ target

pub cycle-mark_first : (marking : Marking) (grey : List ℕ) → (mark_first marking grey).cycle ≡ marking.cycle
cycle-mark_first marking grey = grind (arith, cycle-mark_references)
