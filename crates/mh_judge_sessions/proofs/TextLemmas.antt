-- Texts of either version, and those that are too long.
use Rattle.std.proofs.Common.{◌≡◌, ◌∙◌, inl, inr, ℕ, zero, suc, ◌<◌, ◌≤◌, Bool, true, false, if◌then◌else◌, List, length, ap, refl, arith}
use Rattle.mh_model.specs.{declared.history.Entry.Entry, Bytes.{Text, cut_after}}
use Rattle.mh_model.specs.{HistoryTexts.{history_reading, recorded_reading}, Script.{BadLine, Means, reading_map}}
use Rattle.mh_model.specs.Sessions.{Bad, Whole, cut_off_at, entries_reading, entries_recorded, is_of_version_one, rules_named, seen_text, whole_lines}
use Rattle.mh_history.proofs.HistoryLemmas.{history_long, record_long}
use Rattle.mh_judge_sessions.specs.Texts.{BeginsWithEither}

-- Versions ---------------------------------------------------------------------------------------

pub reading_one : (text : Text) → is_of_version_one (cut_after 10 text) ≡ true → entries_reading text ≡ history_reading text
reading_one text one = ap (λ (b : Bool). if b then history_reading text else reading_map entries_recorded (recorded_reading text)) one

pub reading_two : (text : Text) → is_of_version_one (cut_after 10 text) ≡ false → entries_reading text ≡ reading_map entries_recorded (recorded_reading text)
reading_two text other = ap (λ (b : Bool). if b then history_reading text else reading_map entries_recorded (recorded_reading text)) other

-- Texts that were cut off -----------------------------------------------------------------------

pub text_whole : (text : Text) (entries : List Entry) → entries_reading text ≡ Means entries → seen_text text ≡ Whole (rules_named text) entries
text_whole text entries is = rw is refl

pub text_bad : (text : Text) → entries_reading text ≡ BadLine 0 → seen_text text ≡ Bad 0
text_bad text is = rw is refl

pub text_cut : (text : Text) (line : ℕ) → 0 < line → entries_reading text ≡ BadLine line → seen_text text ≡ cut_off_at (rules_named text) line (entries_reading (whole_lines text))
text_cut text zero some is = absurd (omega (arith, some))
text_cut text (suc line) some is = rw is refl

-- Long texts -------------------------------------------------------------------------------------

-- a text that is too long is refused in either version
pub seen_long : (text : Text) → 2147483648 < length text → entries_reading text ≡ BadLine 0
seen_long text long = by (is_of_version_one (cut_after 10 text)) refl where
  by : (one : Bool) → is_of_version_one (cut_after 10 text) ≡ one → entries_reading text ≡ BadLine 0
  by true is = reading_one text is ∙ history_long text (omega (arith, long))
  by false is = reading_two text is ∙ ap (reading_map entries_recorded) (record_long text long)

pub either_short : (text : Text) → BeginsWithEither text → length text ≤ 2147483648
either_short text (inl begins) = omega (arith, begins.short)
either_short text (inr begins) = begins.short
