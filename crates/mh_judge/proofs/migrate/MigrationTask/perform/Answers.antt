use Rattle.std.proofs.Common.{ap, inl, refl}
use Rattle.std.specs.Prelude.{Err}
use Rattle.mh_model.specs.HistoryTexts.{IsMigratedTo, history_reading, migration_text}
use Rattle.mh_judge.specs.Judgements.{verdict_of}
use Rattle.mh_judge.proofs.{MigratedLemmas.migrated_by, PerformedLemmas.{performed-fault, performed-part, takes-none}}
use Rattle.mh_judge.proofs.migrate.MigrationTask.perform.Goals as goal

pub returns-in_err-judgement : goal.returns-in_err-judgement
returns-in_err-judgement g c =
    let made = c.texts_are_migrated.ensures c.args.self.now.config c.args.text.now in
    performed-fault _ c.from_residual.ensures.1 (record { written = made.0; does = (inl c.in_err-judgement.ensures.memory, made.1); wrote = takes-none _ made.0 })

pub returns-in_err-write_migrated : goal.returns-in_err-write_migrated
returns-in_err-write_migrated g c =
    let verdict = verdict_of c.in_ok-judgement.judgement in
    let out = migration_text c.args.self.now.config verdict (history_reading c.args.text.now) in
    let made : IsMigratedTo c.args.self.now.config c.args.text.now out = (verdict, c.in_ok-judgement.ensures.verdict, refl) in
    performed-part out _ c.from_residual-in_err-write_migrated.ensures.1 c.in_err-write_migrated.ensures.written (λ _. made)
    (λ is. (c.in_err-write_migrated.ensures.memory (ap Err is), made))

pub returns : goal.returns
returns g c =
    let found = c.in_ok-judgement.ensures in
    record {
      written = _;
      does = migrated_by c.replies_are_promised.ensures c.migrated_texts_are_legal.ensures c.args.self.now.config c.args.self.now.first c.args.text.now c.in_ok-judgement.judgement found.verdict found.explained;
      wrote = c.in_ok-write_migrated.ensures.written;
    }
