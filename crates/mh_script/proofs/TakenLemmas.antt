-- A text that is taken in piece by piece, and given to a sink front by front.
use Rattle.std.proofs.Common.{◌≡◌, ◌∙◌, [], ◌++◌, refl, ap, sym, subst, append-nil, append_assoc}
use Rattle.std.proofs.KnownBytes.{Appends-trans}
use Rattle.std.specs.Prelude.{Result, Ok, Err, IsErrAnd}
use Rattle.mh_model.specs.Bytes.{Text}
use Rattle.mh_text.specs.Devices.{Device, FailsAt, Takes, TakesSome}
use Rattle.mh_script.specs.{declared.fault.WriteError.WriteError, Texts.{IsWriting, TakesIn}}
use Rattle.mh_script.proofs.TaskLemmas.{takes-nothing}

pub takes-trans : {a b c : Device} {front next : Text} → Takes a b front → Takes b c next → Takes a c (front ++ next)
takes-trans {a} {b} {c} {front} {next} before after = record { bytes = Appends-trans a.bytes b.bytes c.bytes front next before.bytes after.bytes; works = after.works ∙ before.works }

-- Buffers ----------------------------------------------------------------------------------------

-- all of it was written
pub in-written : {a b : Device} {text : Text} → Takes a b text → TakesIn a b [] text
in-written {text = text} takes = record { front = text; takes = takes; is = append-nil text }

-- nothing of it was written
pub in-waiting : (a : Device) {buffer text : Text} → buffer ≡ text → TakesIn a a buffer text
in-waiting a is = record { front = []; takes = takes-nothing a; is = is }

module _ {a b : Device} {buffer text : Text} (taken : TakesIn a b buffer text) where
  -- a piece more waits
  pub in-more : (piece : Text) {longer whole : Text} → longer ≡ buffer ++ piece → whole ≡ text ++ piece → TakesIn a b longer whole
  in-more piece more is = record {
    front = taken.front;
    takes = taken.takes;
    is = ap (λ (r : Text). taken.front ++ r) more ∙ (sym (append_assoc taken.front buffer piece) ∙ (ap (λ (r : Text). r ++ piece) taken.is ∙ sym is));
  }

  -- what waited was taken in
  pub in-trans : {c : Device} {rest : Text} → TakesIn b c rest buffer → TakesIn a c rest text
  in-trans {rest = rest} next = record {
    front = taken.front ++ next.front;
    takes = takes-trans taken.takes next.takes;
    is = append_assoc taken.front next.front rest ∙ (ap (λ (r : Text). taken.front ++ r) next.is ∙ taken.is);
  }

  -- all that waited was written
  pub in-all : {c : Device} → Takes b c buffer → Takes a c text
  in-all {c} next = subst (Takes a c) taken.is (takes-trans taken.takes next)

  -- a prefix of what was taken in is one of the whole
  module _ (more : Text) {whole : Text} (is : text ++ more ≡ whole) where
    pub in-some : TakesSome a b whole
    in-some = record {
      bytes = (taken.front, buffer ++ more, sym (append_assoc taken.front buffer more) ∙ (ap (λ (r : Text). r ++ more) taken.is ∙ is), taken.takes.bytes);
      works = taken.takes.works;
    }

    pub in-fails : {c : Device} → FailsAt b c buffer → FailsAt a c whole
    in-fails {c} failed =
        let (front, rest, buffer_is, wrote) = failed.bytes in
        let all : front ++ (rest ++ more) ≡ buffer ++ more = sym (append_assoc front rest more) ∙ ap (λ (r : Text). r ++ more) buffer_is in
        record {
          bytes = (
            taken.front ++ front,
            rest ++ more,
            append_assoc taken.front front (rest ++ more) ∙ (ap (λ (r : Text). taken.front ++ r) all ∙ (sym (append_assoc taken.front buffer more) ∙ (ap (λ (r : Text). r ++ more) taken.is ∙ is))),
            Appends-trans a.bytes b.bytes c.bytes taken.front front taken.takes.bytes wrote,
          );
          fails = λ same. failed.fails (same ∙ sym taken.takes.works);
        }

-- nothing of a text was written
pub takes-none : (a : Device) (text : Text) → TakesSome a a text
takes-none a text = in-some {buffer = []} (in-waiting a refl) text refl

-- Errors -----------------------------------------------------------------------------------------

-- `?` passes on that a sink failed, or that memory was refused
pub writing-fails : {X : Type 0} {a b : Device} {text : Text} (r : Result X WriteError) → IsErrAnd r (λ e. e ≡ WriteError.Device) → FailsAt a b text → IsWriting a b text r
writing-fails (Ok done) is h = absurd is
writing-fails (Err WriteError.Device) is h = h
writing-fails (Err WriteError.NoMemory) is h = absurd cc

pub writing-stops : {X : Type 0} {a b : Device} {text : Text} (r : Result X WriteError) → IsErrAnd r (λ e. e ≡ WriteError.NoMemory) → TakesSome a b text → IsWriting a b text r
writing-stops (Ok done) is h = absurd is
writing-stops (Err WriteError.Device) is h = absurd cc
writing-stops (Err WriteError.NoMemory) is h = h
