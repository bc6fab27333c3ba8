-- Barriers and what is written after them, as laws.
use Rattle.std.proofs.{Common.subst, lemmas.Option.same_Some}
use Rattle.mh_model.specs.{declared.shape.Shape.Shape, Collector.Collector, Invariant.IsPlainAt}
use Rattle.mh_laws.specs.Barriers.{BarriersKeepTheSnapshot, RootsWrittenKeepTheSnapshot, ObjectsMadeKeepTheSnapshot}
use Rattle.mh_laws.proofs.{marking.MarkSteps.guarded, objects.NewbornBlocks.made_group-born}
use Rattle.mh_laws.proofs.snapshots.NewObjects.{snapshot-borne, newborn_root, borne}
use Rattle.mh_laws.proofs.snapshots.Barriers.{snapshot-with_root}

pub barriers-keep : BarriersKeepTheSnapshot
barriers-keep snapshot n c reference marks kept h = (guarded snapshot n c reference marks kept h).keeps

pub roots-keep : RootsWrittenKeepTheSnapshot
roots-keep snapshot n c slot reference may h = snapshot-with_root snapshot n c slot reference (record { leads = may }) h

pub objects-keep : ObjectsMadeKeepTheSnapshot
objects-keep snapshot n c references numbers made is h =
    let shape : Shape = record { references = references; numbers = numbers } in
    let born = made_group-born c.table n c.cycle shape h.sound.narrow made is in
    let new : Collector = borne snapshot n c shape made h born in
    let (x, plain, first, kept) = newborn_root snapshot n c shape made h born in (
      snapshot-borne snapshot n c shape made h born,
      λ place same. (x, subst (λ q. IsPlainAt new q x) (same_Some made.place place same) plain, first, λ marks. kept),
    )
