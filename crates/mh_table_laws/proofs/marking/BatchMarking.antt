-- Marking by batches is marking block by block, however a front is cut: writing back and shading change no forward, nor the references of other blocks.
use Rattle.std.proofs.Common.{◌≡◌, ◌≢◌, ℕ, suc, ◌==◌, Bool, true, false, if◌then◌else◌, List, [], ◌∷◌, ◌++◌, length, map, set, Option, Some, None, IsSome, option_map, refl, ap, ◌∙◌, append_assoc, arith}
use Rattle.std.proofs.lemmas.Bool.{cases_eq}
use Rattle.std.specs.List.{AllByRecursion, IsDistinct}
use Rattle.mh_model.specs.Pages.{Table, block_at, with_block, Leads}
use Rattle.mh_model.specs.Table.{Block, references_at, with_reference_at, forward_at, resolve, target_of, found_in, LeadsOn}
use Rattle.mh_model.specs.Collector.{Marking, is_marked, with_grey, shade_block, shade, mark_references, mark_step}
use Rattle.mh_model.specs.Batches.{written_back, batch_written, NoneTwice}
use Rattle.mh_table_laws.specs.Marking.{mark_steps}
use Rattle.mh_table_laws.proofs.placing.Places.{block_at-with_block_same, block_at-with_block_other, block-slot}
use Rattle.mh_table_laws.proofs.tables.BlockRoom.{with_block-none}

-- Lists with none twice --------------------------------------------------------------------------

pub all-front : (P : ℕ → Type 0) (front rest : List ℕ) → AllByRecursion P (front ++ rest) → AllByRecursion P front
all-front P [] rest all = tt
all-front P (x ∷ front) rest (here, after) = (here, all-front P front rest after)

pub none_twice-front : (front rest : List ℕ) → NoneTwice (front ++ rest) → NoneTwice front
unfolding IsDistinct
none_twice-front [] rest once = tt
none_twice-front (x ∷ front) rest (here, after) = search (arith, all-front, none_twice-front front rest after)

-- Forwards ---------------------------------------------------------------------------------------

-- a place that leads to a block has one
pub there_before : (table : Table Block) (place : ℕ) → IsSome (block_at table (resolve table place)) → IsSome (block_at table place)
there_before table place leads_on = grind arith

-- and one that leads on leads to a block
pub leads_of : (table : Table Block) (reference : Option ℕ) → LeadsOn table reference → Leads table reference
leads_of table reference leads = grind arith

-- each forward is as it was, and so are the references of blocks at other places
pub record KeepsOthers (place : ℕ) (old new : Table Block) : Type 0 where
  pub forwards : (other : ℕ) → forward_at new other ≡ forward_at old other
  pub references : (other : ℕ) → other ≢ place → references_at new other ≡ references_at old other

keeps_all : (place : ℕ) (table : Table Block) → KeepsOthers place table table
keeps_all place table = record { forwards = λ other. refl; references = λ other apart. refl }

pub then_keeps : (place : ℕ) (first second third : Table Block) → KeepsOthers place first second → KeepsOthers place second third → KeepsOthers place first third
then_keeps place first second third one two = grind arith

-- a block written in the place of one with the same forward, whose references are the same or lie at this place
rewritten-keeps : (own : ℕ) (table : Table Block) (place : ℕ) (old new : Block) → block_at table place ≡ Some old → new.forward ≡ old.forward → (place ≢ own → new.references ≡ old.references) → KeepsOthers own table (with_block table place (Some new))
rewritten-keeps own table place old new at forward references = search (arith, block_at-with_block_same, block-slot, cases_eq, block_at-with_block_other)

shade_block-keeps : (own : ℕ) (marking : Marking) (place : ℕ) (block : Option Block) → block_at marking.table place ≡ block → KeepsOthers own marking.table (shade_block marking place block).table
shade_block-keeps own marking place None at = keeps_all own marking.table
shade_block-keeps own marking place (Some block) at = grind (arith, rewritten-keeps own marking.table place block (record block { stamp = marking.cycle }))

pub shade-keeps : (own : ℕ) (marking : Marking) (reference : Option ℕ) → KeepsOthers own marking.table (shade marking reference).table
shade-keeps own marking reference = grind (arith, keeps_all, shade_block-keeps)

with_reference_at-keeps : (table : Table Block) (place index : ℕ) (reference : Option ℕ) → KeepsOthers place table (with_reference_at table place index reference)
with_reference_at-keeps table place index reference = go (block_at table place) refl
  where
    go : (block : Option Block) → block_at table place ≡ block → KeepsOthers place table (with_block table place (option_map (λ (b : Block). record b { references = set b.references index reference }) block))
    go None at = rw (with_block-none table place at) (keeps_all place table)
    go (Some block) at = rewritten-keeps place table place block (record block { references = set block.references index reference }) at refl (λ apart. absurd (apart refl))

written-keeps : (marking : Marking) (place index : ℕ) (target : Option ℕ) → KeepsOthers place marking.table (shade (record marking { table = with_reference_at marking.table place index target }) target).table
written-keeps marking place index target = then_keeps place marking.table (with_reference_at marking.table place index target) _ (with_reference_at-keeps marking.table place index target) (shade-keeps place (record marking { table = with_reference_at marking.table place index target }) target)

pub written_back-keeps : (found : List (Option ℕ)) (marking : Marking) (place index : ℕ) → KeepsOthers place marking.table (written_back marking place index found).table
written_back-keeps [] marking place index = keeps_all place marking.table
written_back-keeps (target ∷ found) marking place index =
    then_keeps place marking.table _ _ (written-keeps marking place index target) (written_back-keeps found (shade (record marking { table = with_reference_at marking.table place index target }) target) place (suc index))

target-same : (place : ℕ) (old new : Table Block) → KeepsOthers place old new → (reference : Option ℕ) → target_of new reference ≡ target_of old reference
target-same place old new keeps reference = grind arith

-- a block marked through is what was found of it before, written back and shaded
mark_references-found : (references : List (Option ℕ)) (table : Table Block) (marking : Marking) (place index : ℕ) → KeepsOthers place table marking.table → mark_references marking place index references ≡ written_back marking place index (map (target_of table) references)
mark_references-found [] table marking place index keeps = refl
mark_references-found (reference ∷ references) table marking place index keeps =
    let target : Option ℕ = target_of table reference in
    let next : Marking = shade (record marking { table = with_reference_at marking.table place index target }) target in
    let same : target_of marking.table reference ≡ target = target-same place table marking.table keeps reference in
    ap (λ t. mark_references (shade (record marking { table = with_reference_at marking.table place index t }) t) place (suc index) references) same
    ∙ mark_references-found references table next place (suc index) (then_keeps place table marking.table next.table keeps (written-keeps marking place index target))

-- what is found of other blocks stays
found-same : (batch : List ℕ) (place : ℕ) (old new : Table Block) → KeepsOthers place old new → AllByRecursion (λ other. (place == other) ≡ false) batch → found_in new batch ≡ found_in old batch
found-same [] place old new keeps apart = refl
found-same (other ∷ batch) place old new keeps (here, after) = grind (arith, found-same batch place old new keeps after)

-- Fronts of the grey list ------------------------------------------------------------------------

-- a marking with a front before its grey list
abbrev pub with_front : List ℕ → Marking → Marking
with_front front marking = record marking { grey = front ++ marking.grey }

shade_block-front : (front : List ℕ) (marking : Marking) (place : ℕ) (block : Option Block) → shade_block (with_front front marking) place block ≡ with_front front (shade_block marking place block)
shade_block-front front marking place None = refl
shade_block-front front marking place (Some block) = go (is_marked marking.cycle block)
  where
    go : (marked : Bool) → (if marked then with_front front marking else with_grey (with_front front marking) place block) ≡ with_front front (if marked then marking else with_grey marking place block)
    go true = refl
    go false = ap (λ grey. record (with_grey marking place block) { grey = grey }) (append_assoc front marking.grey (place ∷ []))

shade-front : (front : List ℕ) (marking : Marking) (reference : Option ℕ) → shade (with_front front marking) reference ≡ with_front front (shade marking reference)
shade-front front marking reference = grind (arith, shade_block-front)

pub written_back-front : (found : List (Option ℕ)) (front : List ℕ) (marking : Marking) (place index : ℕ) → written_back (with_front front marking) place index found ≡ with_front front (written_back marking place index found)
written_back-front [] front marking place index = refl
written_back-front (target ∷ found) front marking place index =
    ap (λ m. written_back m place (suc index) found) (shade-front front (record marking { table = with_reference_at marking.table place index target }) target)
    ∙ written_back-front found front (shade (record marking { table = with_reference_at marking.table place index target }) target) place (suc index)

-- the first block of a front marked through
abbrev pub first_marked : Marking → ℕ → Marking
first_marked marking place = written_back marking place 0 (map (target_of marking.table) (references_at marking.table place))

pub mark_step-front : (place : ℕ) (front : List ℕ) (marking : Marking) → mark_step (with_front (place ∷ front) marking) ≡ with_front front (first_marked marking place)
mark_step-front place front marking =
    mark_references-found (references_at marking.table place) marking.table (with_front front marking) place 0 (keeps_all place marking.table)
    ∙ written_back-front (map (target_of marking.table) (references_at marking.table place)) front marking place 0

pub batch_written-first : (place : ℕ) (batch : List ℕ) (marking : Marking) → AllByRecursion (λ other. (place == other) ≡ false) batch
    → batch_written (first_marked marking place) batch (found_in (first_marked marking place).table batch) ≡ batch_written marking (place ∷ batch) (found_in marking.table (place ∷ batch))
batch_written-first place batch marking apart =
    ap (batch_written (first_marked marking place) batch) (found-same batch place marking.table (first_marked marking place).table (written_back-keeps (map (target_of marking.table) (references_at marking.table place)) marking place 0) apart)

-- so many mark steps are one batch
pub front-marked : (batch : List ℕ) (marking : Marking) → NoneTwice batch → mark_steps (length batch) (with_front batch marking) ≡ batch_written marking batch (found_in marking.table batch)
unfolding IsDistinct
front-marked [] marking once = refl
front-marked (place ∷ batch) marking (apart, once) = grind (arith, mark_step-front, batch_written-first, front-marked batch (first_marked marking place) once)
