use Rattle.std.proofs.Common.{◌≡◌, ◌++◌, ◌∷◌, codes, decimal, drop, flat_map}
use Rattle.std.specs.String.{string_bytes}
use Rattle.mh_tell_show.proofs.before.push_greys.Given as goal

abbrev pub invariant-loop-index : goal.invariant-loop-index
invariant-loop-index l =
    string_bytes l.text ++ flat_map (λ place. decimal place ++ codes ",") (drop l.index l.heap.collector.grey)
    ≡ string_bytes l.fn.text ++ 91 ∷ flat_map (λ place. decimal place ++ codes ",") l.heap.collector.grey
