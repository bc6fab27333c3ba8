-- A machine that follows the entries of a history.
use Rattle.std.proofs.Common.{◌≡◌, ◌∙◌, ℕ, ◌+◌, true, false, Option, Some, None, IfSome, IfNone, List, [], ◌∷◌, ◌++◌, length, refl, subst, sym, arith}
use Rattle.mh_model.specs.{declared.command.Event.Event, declared.config.Config.Config, History.IsFirstBadOf}
use Rattle.mh_model.specs.Machine.{Machine}
use Rattle.mh_machine.specs.{Judging.{IsEventRule, IsTried}, Running.Running}
use Rattle.mh_machine.proofs.JudgeLemmas.{none_judged, seen_right, seen_wrong}
use Rattle.mh_judge.specs.{declared.bad_entry.BadEntry.BadEntry, declared.entry_fault.EntryFault.EntryFault}
use Rattle.mh_judge.specs.{Faults.{IsFaultAfter, IsWrongAfter}, Following.IsBadEntry}
use Rattle.mh_judge.specs.Replaying.{HasReplayed, Replayed, running}

module _ {X : Type 0} (event_of : X → Event) (Fits : Machine → X → Type 0) (Lawful : Config → List X → Type 0) (rule : (config : Config) → IsEventRule config event_of Fits (Lawful config)) (config : Config) where
  pub replayed_none : (first : Replayed) → first.config ≡ config → first.machine ≡ None → HasReplayed event_of Lawful config [] first
  replayed_none first same none = rw (same, none) (record { under = refl; judged = none_judged config event_of Fits (Lawful config) (rule config) })

  -- an entry was tried after those that were followed
  module _ (entries : List X) (old : Replayed) (has : HasReplayed event_of Lawful config entries old) (entry : X) (new : Running) where
    pub replayed_more : IsTried (Fits (running old).machine entry) (running old) (event_of entry) new true → HasReplayed event_of Lawful config (entries ++ entry ∷ []) (record { config = old.config; machine = Some new })
    replayed_more tried = record { under = has.under; judged = seen_right config event_of (Lawful config) entries entry Fits (rule config) (running old) new None refl has.judged tried }

    pub replayed_bad : (Wrong : Machine → X → EntryFault → Type 0) (bad : BadEntry) → bad.number ≡ (running old).done + 1 → IsTried (Fits (running old).machine entry) (running old) (event_of entry) new false
        → IsFaultAfter (Wrong (running old).machine) (running old).done entry bad.fault → IsBadEntry (Lawful config) (IsWrongAfter config event_of Wrong) (entries ++ entry ∷ []) bad × (bad.number ≡ length entries + 1)
    replayed_bad Wrong bad number tried wrong =
        let judged = has.judged in
        let first : IsFirstBadOf (Lawful config) (entries ++ entry ∷ []) ((running old).done + 1) = seen_wrong config event_of (Lawful config) entries entry Fits (rule config) (running old) new None (running old).done refl judged refl tried in
        let Q : Machine → Type 0 = λ m. IsFaultAfter (Wrong m) (running old).done entry bad.fault in
        let P : ℕ → Type 0 = λ count. IsFaultAfter (IsWrongAfter config event_of Wrong entries) count entry bad.fault in (
          record {
            first = subst (IsFirstBadOf (Lawful config) (entries ++ entry ∷ [])) (sym number) first;
            fault = record { before = entries; entry = entry; after = []; history_is = refl; numbered = omega (arith, number, judged.done); fault = subst P judged.done (subst Q judged.machine wrong) };
          },
          omega (arith, number, judged.done),
        )

-- the machine that was opened, if it wasn't, tried an entry
module _ {X : Type 0} (event_of : X → Event) (Fits : Machine → X → Type 0) (Lawful : Config → List X → Type 0) (rule : (config : Config) → IsEventRule config event_of Fits (Lawful config)) (old opened : Replayed) (machine new : Running)
    (same : opened.config ≡ old.config) (is : opened.machine ≡ Some (running old)) (at : opened.machine ≡ Some machine) (entry : X) where
  same_machine : machine ≡ running old
  same_machine = let both : Some machine ≡ Some (running old) = sym at ∙ is in cc

  pub follows_right : (found : Option BadEntry) → IfNone found (IsTried (Fits machine.machine entry) machine (event_of entry) new true)
      → IfNone found ((first : Replayed) (entries : List X) → HasReplayed event_of Lawful first.config entries old → HasReplayed event_of Lawful first.config (entries ++ entry ∷ []) (record { config = opened.config; machine = Some new }))
  follows_right (Some bad) tried = tt
  follows_right None tried = λ first entries has.
      let more = replayed_more event_of Fits Lawful rule first.config entries old has entry new (subst (λ (m : Running). IsTried (Fits m.machine entry) m (event_of entry) new true) same_machine tried) in
      record { under = same ∙ has.under; judged = more.judged }

  pub follows_wrong : (Wrong : Machine → X → EntryFault → Type 0) (found : Option BadEntry)
      → IfSome found (λ bad. (bad.number ≡ machine.done + 1) × IsTried (Fits machine.machine entry) machine (event_of entry) new false × IsFaultAfter (Wrong machine.machine) machine.done entry bad.fault)
      → IfSome found (λ bad. (first : Replayed) (entries : List X) → HasReplayed event_of Lawful first.config entries old
      → IsBadEntry (Lawful first.config) (IsWrongAfter first.config event_of Wrong) (entries ++ entry ∷ []) bad × (bad.number ≡ length entries + 1) × Unit {0})
  follows_wrong Wrong None tried = tt
  follows_wrong Wrong (Some bad) tried = λ first entries has.
      let Q : Running → Type 0 = λ m. (bad.number ≡ m.done + 1) × IsTried (Fits m.machine entry) m (event_of entry) new false × IsFaultAfter (Wrong m.machine) m.done entry bad.fault in
      let here : Q (running old) = subst Q same_machine tried in
      let wrong = replayed_bad event_of Fits Lawful rule first.config entries old has entry new Wrong bad here.0 here.1 here.2 in
      (wrong.0, wrong.1, tt)
