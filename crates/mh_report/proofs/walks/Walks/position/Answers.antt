use Rattle.std.proofs.{Common.{rules, arith}, lemmas.Bool.{ltb-true, ltb-false}}
use Rattle.std.proofs.lemmas.List.Sorted.{IsPartitionPoint-from_clause, IsPartitionedBy-ltb}
use Rattle.std.specs.{Prelude.{◌≡◌, nat_lt, true, false}, List.Sorted.IsPartitionPoint}
use Rattle.mh_report.specs.declared.walk.Walk.{Walk}
use Rattle.mh_report.proofs.walks.Walks.position.Goals as goal

-- the walks of shorter windows are before the others
point : (c : goal.After-partition_point) → IsPartitionPoint (λ (w : Walk). nat_lt w.window c.args.window ≡ true) (λ (w : Walk). nat_lt w.window c.args.window ≡ false) c.args.self.now.walks.items c.partition_point.result
point c =
    let parted = IsPartitionedBy-ltb (λ (w : Walk). w.window) c.args.self.now.walks.items c.args.window c.requires in
    rw (← c.as_slice.ensures.value) (IsPartitionPoint-from_clause (λ (w : Walk). nat_lt w.window c.args.window) c.as_slice.result.now c.partition_point.result c.partition_point.ensures.partitioned (rw c.as_slice.ensures.value parted) (λ a r q k. search rules))

pub returns-clause-shorter : goal.returns-clause-shorter
returns-clause-shorter c k d less = let p = point c in ltb-true _ _ (p.0 k d (omega arith) less)

pub returns-clause-rest : goal.returns-clause-rest
returns-clause-rest c k d more below = let p = point c in ltb-false _ _ (p.1 k d more below)
