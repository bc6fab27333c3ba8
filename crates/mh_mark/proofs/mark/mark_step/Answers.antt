use Rattle.std.proofs.Common.{◌∷◌, [], ◌++◌, Some, sym, ap, ◌∙◌, subst}
use Rattle.mh_model.specs.{Deeds.name_at, declared.deed.Deed.Deed}
use Rattle.mh_deeds.specs.Logs.{Told}
use Rattle.mh_grey.specs.Shading.{marking}
use Rattle.mh_mark.specs.First.{FirstGrey}
use Rattle.mh_mark.proofs.{ToldLemmas.mark-told, mark.mark_step.Goals.{then-not-is_silent, else-not-is_silent}}
use Rattle.mh_mark.proofs.mark.mark_step.Goals as goal

pub returns-clause-told : goal.returns-clause-told
returns-clause-told g c =
    let has = g.L.Log.has in
    let marked : Told has c.args.log.now (Deed.Mark c.pop_first-place.result (name_at c.args.blocks.now c.pop_first-place.result) ∷ []) c.if-not-is_silent.log = elim c.if-not-is_silent.branch [
      | then-not-is_silent w ↦
          subst (Told has c.args.log.now (Deed.Mark c.pop_first-place.result (name_at c.args.blocks.now c.pop_first-place.result) ∷ [])) (sym w.log-is)
          (subst (λ name. Told has c.args.log.now (Deed.Mark c.pop_first-place.result name ∷ []) w.tell.new.self) w.name_of-name.ensures w.tell.ensures)
      | else-not-is_silent w ↦
          subst (Told has c.args.log.now (Deed.Mark c.pop_first-place.result (name_at c.args.blocks.now c.pop_first-place.result) ∷ [])) (sym w.log-is)
          (λ before is. c.is_silent.ensures w.if-not-is_silent.false c.args.log.now (before ++ Deed.Mark c.pop_first-place.result (name_at c.args.blocks.now c.pop_first-place.result) ∷ []))
    ] in
    mark-told has (marking c.args.blocks.now c.args.grey.now.places c.args.cycle) _ _ _ _ _ _ c.pop_first-place.ensures.places (c.requires.first.place ∙ ap (λ (f : FirstGrey). Some f.address.place) (sym c.first.view_is)) marked c.mark_references.ensures.told
