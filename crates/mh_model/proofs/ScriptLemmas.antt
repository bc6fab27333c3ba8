-- Texts that are too long for a script, and those that are short enough for a history or a record.
use Rattle.std.proofs.{Common.{◌≡◌, ◌<◌, ◌≤◌, refl, true, nat_lt, cond, length, ap, arith}, lemmas.Bool.le-ltb}
use Rattle.std.proofs.lemmas.Bool.Decides.{nat_tests}
use Rattle.mh_model.specs.Bytes.{Text, cut_after}
use Rattle.mh_model.specs.HistoryTexts.{history_of, history_reading, recorded_of, recorded_reading}
use Rattle.mh_model.specs.Script.{BadLine, script_of, reading}

pub reading_long : (text : Text) → 67108864 < length text → reading text ≡ BadLine 0
unfolding reading
reading_long text long =
    let is : nat_lt 67108864 (length text) ≡ true = grind (arith, nat_tests) in
    ap (λ b. cond b (BadLine 0) (script_of (cut_after 10 text))) is

pub history_reading-short : (text : Text) → length text ≤ 1073741824 → history_reading text ≡ history_of (cut_after 10 text)
unfolding history_reading
history_reading-short text few = rw (le-ltb 1073741824 (length text) few) refl

pub recorded_reading-short : (text : Text) → length text ≤ 2147483648 → recorded_reading text ≡ recorded_of (cut_after 10 text)
unfolding recorded_reading
recorded_reading-short text few = rw (le-ltb 2147483648 (length text) few) refl
