-- The words of parts of replies.
use Rattle.std.specs.Prelude.{List, [], ◌∷◌, flat_map, codes, decimal}
use Rattle.mh_model.specs.{Bytes.Text, declared.report.Report.Report, Replies.optional_word}

-- words with a space before each
abbrev pub spaced : List Text → Text
spaced words = flat_map (λ (word : Text). 32 ∷ word) words

-- what a trace counts
abbrev pub counts_words : Report → List Text
counts_words report =
    codes "mutator" ∷ decimal report.mutator ∷ codes "collector" ∷ decimal report.collector ∷ codes "quanta" ∷ decimal report.quanta ∷ codes "greatest" ∷ decimal report.greatest ∷ []

-- a window of a trace, its least share of the mutator and the floor of that
abbrev pub window_words : Report → List Text
window_words report = codes "window" ∷ decimal report.window ∷ codes "least" ∷ optional_word report.least ∷ codes "floor" ∷ optional_word report.floor ∷ []
