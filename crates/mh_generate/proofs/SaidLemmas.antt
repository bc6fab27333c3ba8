-- What is said: the command that is wished for, or nothing.
use Rattle.std.proofs.{Common.{◌≡◌, ℕ, ◌≤◌, inl, inr, refl, sym, subst, true, arith}, lemmas.Bool.{and_from, le-leb}}
use Rattle.mh_model.specs.{declared.command.Command.Command, declared.history.Version.Version}
use Rattle.mh_model.specs.{Forms.{command_phrase, is_sayable}, HistoryTexts.is_event, declared.command.Control.Control}
use Rattle.mh_model.specs.declared.command.Event.{Event}
use Rattle.mh_orders.specs.declared.profile.Profile.{Profile, TheVariants.Churn}
use Rattle.mh_generate.specs.{Asked.writes_its_number, Auxiliary.IsSaid}
use Rattle.mh_generate.proofs.TakenLemmas.{nothing}

-- neither a quantum nor nothing writes a number
pub writes-others : (profile : Profile) (number : ℕ) → (writes_its_number profile number (Event.Control Control.Quantum) ≡ true) × (writes_its_number profile number nothing ≡ true)
writes-others Churn number = (refl, refl)
writes-others other number = (refl, refl)

pub said_known : (v : Version) (who : ℕ) (c : Command) (said : ℕ × Command) → IsSaid who c said → who ≤ 8 → is_sayable (command_phrase said.1) ≡ true → is_event v (Event.Session said.0 said.1) ≡ true
said_known v who c said (inl is) few sayable = and_from _ _ (le-leb said.0 8 (subst (λ (other : ℕ × Command). other.0 ≤ 8) (sym is) few)) sayable
said_known v who c said (inr is) few sayable = and_from _ _ (le-leb said.0 8 (subst (λ (other : ℕ × Command). other.0 ≤ 8) (sym is) (omega arith))) sayable

pub said_writes : (profile : Profile) (number who : ℕ) (c : Command) (said : ℕ × Command) → IsSaid who c said → ((w : ℕ) → writes_its_number profile number (Event.Session w c) ≡ true)
    → writes_its_number profile number (Event.Session said.0 said.1) ≡ true
said_writes profile number who c said (inl is) writes = subst (λ (other : ℕ × Command). writes_its_number profile number (Event.Session other.0 other.1) ≡ true) (sym is) (writes who)
said_writes profile number who c said (inr is) writes = subst (λ (other : ℕ × Command). writes_its_number profile number (Event.Session other.0 other.1) ≡ true) (sym is) (writes-others profile number).1
