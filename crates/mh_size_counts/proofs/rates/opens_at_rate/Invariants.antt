use Rattle.std.proofs.Common.{◌≡◌, ◌*◌, ◌≤◌, take}
use Rattle.std.specs.List.{sum_by}
use Rattle.mh_model.specs.Classes.{class_sizes}
use Rattle.mh_size_laws.specs.Rates.{class_opens}
use Rattle.mh_size_counts.specs.Rates.{allowed_by}
use Rattle.mh_size_counts.proofs.rates.opens_at_rate.Given as goal

abbrev pub invariant-loop-number : goal.invariant-loop-number
invariant-loop-number l = record {
  counted : l.opens ≡ sum_by (class_opens (allowed_by l.rates) l.units l.quanta) (take l.number class_sizes);
  few : l.opens ≤ l.number * 1003660000000;
}
