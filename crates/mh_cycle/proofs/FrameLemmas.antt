-- What keeps the frame: marking and shading keep the length of the table, and shading takes nothing off the grey list.
use Rattle.std.proofs.Common.{◌≡◌, ℕ, suc, ◌+◌, ◌<◌, ◌≢◌, ◌==◌, true, false, Bool, if◌then◌else◌, List, [], ◌∷◌, length, Option, Some, None, set, option_map, refl, sym, ◌∙◌, arith}
use Rattle.std.proofs.lemmas.List.{length_push}
use Rattle.mh_model.specs.{declared.config.Config.Config, declared.cycle.Phase.Phase}
use Rattle.mh_model.specs.{declared.cycle.Phase.TheVariants.{Roots, Mark, Sweep, Defrag}, Pages.{Table, block_at}}
use Rattle.mh_model.specs.Table.{Block, resolve, target_of, references_at, with_reference_at}
use Rattle.mh_model.specs.Collector.{Marking, is_marked, with_grey, shade_block, shade, mark_reference, mark_references, mark_first, mark_step}
use Rattle.mh_model.specs.Limits.{root_slots}
use Rattle.mh_grey.proofs.StampLemmas.{length-with_block}
use Rattle.mh_grey.specs.{Queue.Queue, Shading.marking}
use Rattle.mh_cycle.specs.Auxiliary.{IsFramed}

length-shade_block : (m : Marking) (place : ℕ) (content : Option Block) → length (shade_block m place content).table ≡ length m.table
length-shade_block m place None = refl
length-shade_block m place (Some block) = go (is_marked m.cycle block)
  where
    go : (marked : Bool) → length (if marked then m else with_grey m place block).table ≡ length m.table
    go true = refl
    go false = length-with_block m.table place (Some (record block { stamp = m.cycle }))

pub length-shade : (m : Marking) (reference : Option ℕ) → length (shade m reference).table ≡ length m.table
length-shade m None = refl
length-shade m (Some place) = length-shade_block m (resolve m.table place) (block_at m.table (resolve m.table place))

length-references : (m : Marking) (place index : ℕ) (references : List (Option ℕ)) → length (mark_references m place index references).table ≡ length m.table
length-references m place index [] = refl
length-references m place index (reference ∷ references) =
    length-references (mark_reference m place index reference) place (suc index) references
    ∙ length-shade (record m { table = with_reference_at m.table place index (target_of m.table reference) }) (target_of m.table reference)
    ∙ length-with_block m.table place (option_map (λ (b : Block). record b { references = set b.references index (target_of m.table reference) }) (block_at m.table place))

length-first : (m : Marking) (grey : List ℕ) → length (mark_first m grey).table ≡ length m.table
length-first m [] = refl
length-first m (place ∷ grey) = length-references (record m { grey = grey }) place 0 (references_at m.table place)

pub length-mark_step : (m : Marking) → length (mark_step m).table ≡ length m.table
length-mark_step m = length-first m m.grey

some-shade_block : (m : Marking) (place : ℕ) (content : Option Block) → 0 < length m.grey → 0 < length (shade_block m place content).grey
some-shade_block m place None some = some
some-shade_block m place (Some block) some = go (is_marked m.cycle block)
  where
    go : (marked : Bool) → 0 < length (if marked then m else with_grey m place block).grey
    go true = some
    go false = omega (arith, length_push m.grey place)

some-shade : (m : Marking) (reference : Option ℕ) → 0 < length m.grey → 0 < length (shade m reference).grey
some-shade m None some = some
some-shade m (Some place) some = some-shade_block m (resolve m.table place) (block_at m.table (resolve m.table place)) some

-- another table with as many pages keeps it, as one that a caller wrote to
pub framed-long : (config : Config) (table new : Table Block) (phase : Phase) (cursor : ℕ) (grey : Queue) → IsFramed config table phase cursor grey → length new ≡ length table → IsFramed config new phase cursor grey
framed-long config table new phase cursor grey frame long = grind arith

-- shading keeps the frame
pub framed-shaded : (config : Config) (table : Table Block) (phase : Phase) (cursor cycle : ℕ) (grey : Queue) (reference : Option ℕ) → IsFramed config table phase cursor grey
    → IsFramed config (shade (marking table grey.places cycle) reference).table phase cursor (record { places = (shade (marking table grey.places cycle) reference).grey; pages = grey.pages })
framed-shaded config table phase cursor cycle grey reference frame = grind (arith, framed-long, length-shade, some-shade)

-- a step of the roots keeps it, if more slots are left
pub framed-roots : (config : Config) (table : Table Block) (phase : Phase) (cursor cycle : ℕ) (grey : Queue) (reference : Option ℕ) → IsFramed config table phase cursor grey → phase ≡ Roots → cursor + 1 ≢ root_slots
    → IsFramed config (shade (marking table grey.places cycle) reference).table phase (cursor + 1) (record { places = (shade (marking table grey.places cycle) reference).grey; pages = grey.pages })
framed-roots config table phase cursor cycle grey reference frame is more =
    let shaded = framed-shaded config table phase cursor cycle grey reference frame in
    record {
      pages = shaded.pages;
      listed = shaded.listed;
      some = shaded.some;
      roots = λ e. omega (arith, frame.roots is, more);
      mark = shaded.mark;
      sweep = λ e. absurd (not_sweep (sym is ∙ e));
      defrag = λ e. absurd (not_defrag (sym is ∙ e));
    }
  where
    not_sweep : Roots ≡ Sweep → ⊥
    not_sweep e = cc

    not_defrag : Roots ≡ Defrag → ⊥
    not_defrag e = cc

-- what holds of the phase that follows marking
after : (grey : List ℕ) (next : Phase) → next ≡ (if length grey == 0 then Sweep else Mark) → (next ≡ Roots → ⊥) × (next ≡ Mark → 0 < length grey)
after [] next is = rw is (λ e. cc, λ e. cc)
after (place ∷ grey) next is = (λ e. not_roots (length (place ∷ grey) == 0) (sym is ∙ e), λ e. omega arith)
  where
    not_roots : (empty : Bool) → (if empty then Sweep else Mark) ≡ Roots → ⊥
    not_roots true e = cc
    not_roots false e = cc

-- marking or the sweep that follows has it
pub framed-next : (config : Config) (table new : Table Block) (phase next : Phase) (cursor : ℕ) (grey after_grey : Queue) → IsFramed config table phase cursor grey → length new ≡ length table → after_grey.pages ≡ grey.pages → next ≡ (if length after_grey.places == 0 then Sweep else Mark)
    → IsFramed config new next 0 after_grey
framed-next config table new phase next cursor grey after_grey frame long pages is = grind (arith, after)
