use Rattle.mh_program.proofs.TellingLemmas.{quotes}
use Rattle.mh_program.proofs.errors.Errors.say_words.Goals as goal

pub returns : goal.returns
returns g c = quotes _ _ _ _ (λ text. text.items) c.words_text-text.result c.words_text-text.ensures c.say_quoted.ensures
