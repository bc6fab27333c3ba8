-- The first full heap among replies, reply by reply.
use Rattle.std.proofs.Common.{◌≡◌, ◌∙◌, ℕ, suc, ◌+◌, ◌<◌, true, false, Bool, if◌then◌else◌, Option, Some, None, option_map, List, [], ◌∷◌, length, drop, get_or, add-one, refl, sym, ap, arith}
use Rattle.std.proofs.{Math.Seq.drop-cons, lemmas.Option.none-some}
use Rattle.mh_model.specs.{declared.command.Event.Event, declared.config.Config.Config, declared.reply.Reply.Reply}
use Rattle.mh_model.specs.{World.{Answer, says}, Machine.{Machine, event_step, first_machine, machine_replies}}
use Rattle.mh_model.specs.Snapshot.{is_heap_full}
use Rattle.mh_size_runs.specs.Full.{AreNotFull, HasNoFullReply, first_full, first_full_among}

-- a number counted from later on
abbrev pub shifted : ℕ → Option ℕ → Option ℕ
shifted count first = option_map (λ n. count + n) first

shifted-more : (count : ℕ) (first : Option ℕ) → shifted count (option_map suc first) ≡ shifted (count + 1) first
shifted-more count None = refl
shifted-more count (Some n) = ap Some (omega arith)

pub shifted-none : (first : Option ℕ) → shifted 0 first ≡ first
shifted-none None = refl
shifted-none (Some n) = ap Some (omega arith)

replies-first : (machine : Machine) (event : Event) (events : List Event) → machine_replies machine (event ∷ events) ≡ (event_step machine event).reply ∷ machine_replies (event_step machine event).state events
unfolding machine_replies
replies-first machine event events = refl

pub none-full : (machine : Machine) → first_full_among (machine_replies machine []) ≡ None
unfolding machine_replies
none-full machine = refl

module _ (events : List Event) (i : ℕ) (default : Event) (machine next : Machine) (answer : Reply) (there : i < length events) (steps : event_step machine (get_or events i default) ≡ says answer next) where
  replies-cut : machine_replies machine (drop i events) ≡ answer ∷ machine_replies next (drop (i + 1) events)
  replies-cut =
      ap (machine_replies machine) (rw add-one (drop-cons events i default there)) ∙ (replies-first machine (get_or events i default) (drop (i + 1) events)
      ∙ ap (λ (a : Answer Machine). a.reply ∷ machine_replies a.state (drop (i + 1) events)) steps)

  first-is : first_full_among (machine_replies machine (drop i events)) ≡ (if is_heap_full answer then Some 1 else option_map suc (first_full_among (machine_replies next (drop (i + 1) events))))
  first-is = ap first_full_among replies-cut

  -- a reply that is no full heap leaves the rest to be looked at
  pub goes_on : (whole : Option ℕ) → is_heap_full answer ≡ false → shifted i (first_full_among (machine_replies machine (drop i events))) ≡ whole
      → shifted (i + 1) (first_full_among (machine_replies next (drop (i + 1) events))) ≡ whole
  goes_on whole other is =
      let rest : Option ℕ = first_full_among (machine_replies next (drop (i + 1) events)) in
      sym (shifted-more i rest) ∙ (ap (shifted i) (sym (first-is ∙ ap (λ (b : Bool). if b then Some 1 else option_map suc rest) other)) ∙ is)

  -- and one that is is the first
  pub stops : (whole : Option ℕ) → is_heap_full answer ≡ true → shifted i (first_full_among (machine_replies machine (drop i events))) ≡ whole → Some (i + 1) ≡ whole
  stops whole full is =
      let rest : Option ℕ = first_full_among (machine_replies next (drop (i + 1) events)) in
      ap (shifted i) (sym (first-is ∙ ap (λ (b : Bool). if b then Some 1 else option_map suc rest) full)) ∙ is

-- Runs that are never full -----------------------------------------------------------------------

not-among : (answers : List Reply) → first_full_among answers ≡ None → AreNotFull answers
not-among [] none = tt
not-among (answer ∷ answers) none = go (is_heap_full answer) refl none (not-among answers)
  where
    rest : Option ℕ
    rest = first_full_among answers

    later : (first : Option ℕ) → option_map suc first ≡ None → first ≡ None
    later None is = refl
    later (Some n) is = absurd (none-some (suc n) (sym is))

    go : (full : Bool) → is_heap_full answer ≡ full → (if full then Some 1 else option_map suc rest) ≡ None → (rest ≡ None → AreNotFull answers) → (is_heap_full answer ≡ false) × AreNotFull answers
    go true is none on = absurd (none-some 1 (sym none))
    go false is none on = (is, on (later rest none))

-- a run with no first full heap has none
pub never-full : (config : Config) (events : List Event) → first_full config events ≡ None → HasNoFullReply config events
unfolding first_full
never-full config events none = not-among (machine_replies (first_machine config) events) none
