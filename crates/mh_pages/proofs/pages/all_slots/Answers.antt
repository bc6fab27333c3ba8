use Rattle.std.proofs.Common.{◌-◌, ◌^◌, ◌∙◌, ap}
use Rattle.mh_pages.proofs.KeptLemmas.{full_word}
use Rattle.mh_pages.proofs.pages.all_slots.Goals as goal

pub returns : goal.returns
returns c = full_word c.slots.result c.slots.ensures.few ∙ ap (λ n. 2 ^ n - 1) c.slots.ensures.value
