use Rattle.std.proofs.Common.{◌≡◌, take}
use Rattle.mh_grey.proofs.grey.Grey.front.Given as given

abbrev pub invariant-loop-index : given.invariant-loop-index
invariant-loop-index l = l.batch.items ≡ take l.index l.self-inside.places.items
