-- What was done with a text that was read is done with the text of its source.
use Rattle.std.proofs.Common.{◌≡◌, ◌∙◌, ℕ, ◌<◌, ◌≤◌, ◌⊎◌, inl, inr, [], ◌++◌, length, Option, Some, None, refl, ap, sym, subst, append-nil}
use Rattle.std.proofs.{KnownBytes.Appends-nil, lemmas.Bool.cases_lt}
use Rattle.std.specs.{Io.KnownBytes.{Consumes, IsAtEnd}, Prelude.Result}
use Rattle.mh_model.specs.Bytes.{Text}
use Rattle.mh_text.specs.Devices.{Device, GivesWhole, Takes}
use Rattle.mh_script.specs.{declared.fault.ScriptFault.ScriptFault, Tasks.{IsDone, IsPerformed}, Texts.IsTextOf}

-- nothing was written
pub takes-nothing : (a : Device) → Takes a a []
takes-nothing a = record { bytes = Appends-nil a.bytes; works = refl }

-- the text of a source begins with what was read of it, and has no more unless that is too long
whole : (known left : Option Text) (most : ℕ) (text : Text) → Consumes known left text → (length text ≤ most → IsAtEnd left) → (rest : Text) × IsTextOf known (text ++ rest) × ((rest ≡ []) ⊎ (most < length text))
whole None left most text consumed end = ([], tt, inl refl)
whole (Some bytes) None most text consumed end = absurd consumed
whole (Some bytes) (Some left) most text consumed end = (
  left,
  consumed,
  elim (cases_lt most (length text)) [
    | inl long ↦ inr long
    | inr short ↦ inl (end short)
  ],
)

module _ {X : Type 0} {Does : Text → Result X ScriptFault → Text → Type 0} {most : ℕ} {source source' sink sink' : Device} {ended : Result X ScriptFault} where
  -- what was done with a text that was read, if a text that is too long may be longer
  pub done-with : ((text rest : Text) (ended : Result X ScriptFault) (written : Text) → most < length text → Does text ended written → Does (text ++ rest) ended written) → (items text : Text) → text ≡ items
      → GivesWhole most source source' items → IsPerformed Does sink sink' ended text → IsDone Does most source source' sink sink' ended
  done-with long items text same read performed =
      let (rest, is, more) = whole source.bytes source'.bytes most items read.gives.bytes read.whole in
      let out = performed.written in
      let does : Does (items ++ rest) ended out = elim more [
        | inl none ↦ subst (λ t. Does t ended out) (same ∙ sym (ap (λ (r : Text). items ++ r) none ∙ append-nil items)) performed.does
        | inr long_is ↦ long items rest ended out long_is (subst (λ t. Does t ended out) same performed.does)
      ] in
      inr (record { text = items ++ rest; is_text = is; performed = record { written = out; does = does; wrote = performed.wrote }; read = items; gives = read })

  -- what was done says less
  pub done-less : {Less : Text → Result X ScriptFault → Text → Type 0} → ((text : Text) (ended : Result X ScriptFault) (out : Text) → Does text ended out → Less text ended out)
      → IsDone Does most source source' sink sink' ended → IsDone Less most source source' sink sink' ended
  done-less less (inl unread) = inl unread
  done-less less (inr found) =
      let p = found.performed in
      inr (record { text = found.text; is_text = found.is_text; performed = record { written = p.written; does = less found.text ended p.written p.does; wrote = p.wrote }; read = found.read; gives = found.gives })
