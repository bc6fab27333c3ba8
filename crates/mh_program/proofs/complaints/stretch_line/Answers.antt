use Rattle.std.proofs.Common.{codes, refl}
use Rattle.mh_program.proofs.TellingLemmas.{five_numbers}
use Rattle.mh_program.proofs.complaints.stretch_line.Goals as goal

pub returns : goal.returns
returns c = five_numbers _ _ _ _ _ _ _ _ _ _ _ _ _ _ _ _ _ _ _ _ _ _ _ _ _ _ _ (codes " and more was promised") _ c.new-text.ensures c.push_str.ensures.bytes c.push_str-2.ensures.bytes c.format.ensures.text c.push_str-3.ensures.bytes c.push_str-4.ensures.bytes c.format-2.ensures.text c.push_str-5.ensures.bytes c.push_str-6.ensures.bytes c.format-3.ensures.text c.push_str-7.ensures.bytes c.push_str-8.ensures.bytes c.format-4.ensures.text c.push_str-9.ensures.bytes c.push_str-10.ensures.bytes c.format-5.ensures.text c.push_str-11.ensures.bytes refl
