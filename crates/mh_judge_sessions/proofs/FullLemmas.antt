-- Histories in which no heap may be full, and what is looked through of a history.
use Rattle.std.proofs.Common.{◌≡◌, ◌∙◌, inl, inr, ℕ, zero, suc, ◌+◌, ◌-◌, ◌<◌, ◌≤◌, Bool, true, false, cond, count_by, List, [], ◌∷◌, ◌++◌, length, take, ap, sym, refl, subst, arith}
use Rattle.std.proofs.{lemmas.Bool.false≢true, lemmas.List.{append_assoc, length_push, take_at}}
use Rattle.std.proofs.lemmas.List.Sums.{sum_by_push}
use Rattle.mh_judge.specs.{declared.entry_fault.EntryFault.EntryFault, Faults.HasFault}
use Rattle.mh_model.specs.{declared.command.Command.Command, declared.command.Event.Event}
use Rattle.mh_model.specs.{declared.config.Config.Config, declared.config.Rules.Rules, declared.history.Entry.Entry}
use Rattle.mh_model.specs.{declared.reply.Refusal.TheVariants.HeapFull, declared.reply.Reply.Reply}
use Rattle.mh_model.specs.{History.IsFirstBadOf, Limits.most_entries, Sessions.{AreSeen, IsLegalForSessions, IsSeen}}
use Rattle.mh_model.specs.{Snapshot.{is_heap_full, world_beside_event}, World.{World, first_world}}
use Rattle.mh_run_laws.proofs.worlds.FullHeaps.{world_step-never_full}
use Rattle.mh_judge_sessions.specs.Faults.{IsOtherAfter, IsOtherReply, IsUnseenReply}
use Rattle.mh_judge_sessions.specs.Full.{answers_full, is_full, lawful_by}
use Rattle.mh_judge_sessions.proofs.SeenLemmas.{seen_at, world_after}

-- Beginnings -------------------------------------------------------------------------------------

-- the first entries of legal ones are legal
seen_front : (n : ℕ) (world : World) (entries : List Entry) → AreSeen world entries → AreSeen world (take n entries)
seen_front zero world entries seen = tt
seen_front (suc n) world [] seen = tt
seen_front (suc n) world (entry ∷ entries) seen = (seen.0, seen_front n (world_beside_event world entry.event entry.reply) entries seen.1)

pub short_front : (n : ℕ) (entries : List Entry) → length (take n entries) ≤ length entries
short_front zero entries = omega arith
short_front (suc n) [] = omega arith
short_front (suc n) (entry ∷ entries) = let less = short_front n entries in omega (arith, less)

pub legal_front : (rules : Rules) (n : ℕ) (entries : List Entry) → IsLegalForSessions rules entries → IsLegalForSessions rules (take n entries)
legal_front rules n entries legal = record {
  few = omega (arith, short_front n entries, legal.few);
  seen = λ config same. seen_front n (first_world config) entries (legal.seen config same);
}

-- the first of the first
pub front_front : (n m : ℕ) (entries : List Entry) → n ≤ m → take n (take m entries) ≡ take n entries
front_front zero m entries less = refl
front_front (suc n) zero entries less = absurd (omega (arith, less))
front_front (suc n) (suc m) [] less = refl
front_front (suc n) (suc m) (entry ∷ entries) less = ap (λ (es : List Entry). entry ∷ es) (front_front n m entries (omega (arith, less)))

-- The first full entry ---------------------------------------------------------------------------

-- an entry that is full stands after others of which none is
pub record IsFirstFull (entries : List Entry) (number : ℕ) : Type 0 where
  pub counted : 0 < number
  pub within : number ≤ length entries
  pub before : count_by is_full (take (number - 1) entries) ≡ 0
  pub here : 0 < count_by is_full (take number entries)

-- so many legal entries end with the first full one: it is the first bad one where none may be full
module _ (rules : Rules) (entries : List Entry) (number : ℕ) (first : IsFirstFull entries number) where
  pub full_is_bad : IsLegalForSessions rules (take (number - 1) entries) → IsFirstBadOf (lawful_by false rules) entries number
  full_is_bad legal = record {
    counted = first.counted;
    within = first.within;
    before = record { legal = legal; room = first.before };
    bad = λ with_room. absurd (omega (arith, first.here, with_room.room));
  }

  -- the entry itself
  entry_at : (n : ℕ) (es : List Entry) → n < length es → (before : List Entry) × (entry : Entry) × (after : List Entry) × (es ≡ before ++ entry ∷ after) × (length before ≡ n)
  entry_at n [] less = absurd (omega (arith, less))
  entry_at zero (entry ∷ es) less = ([], entry, es, refl, refl)
  entry_at (suc n) (entry ∷ es) less =
      let rest = entry_at n es (omega (arith, less)) in
      (entry ∷ rest.0, rest.1, rest.2, ap (λ (xs : List Entry). entry ∷ xs) rest.3, ap suc rest.4)

  -- a reply that is full is that of a full heap to a session
  full_is : (asked : Event) (answer : Reply) → answers_full asked answer ≡ true → (who : ℕ) × (command : Command) × (asked ≡ Event.Session who command) × (answer ≡ Reply.Refused HeapFull)
  full_is (Event.Session who command) (Reply.Refused HeapFull) full = (who, command, refl, refl)
  full_is (Event.Session who command) _ full = absurd (false≢true full)
  full_is (Event.Control control) answer full = absurd (false≢true full)

  full_here : (before : List Entry) (entry : Entry) (after : List Entry) → entries ≡ before ++ entry ∷ after → length before ≡ number - 1 → is_full entry ≡ true
  full_here before entry after is long = by (is_full entry) refl where
    front : take (number - 1) entries ≡ before
    front = ap (take (number - 1)) is ∙ take_at before (entry ∷ after) (number - 1) long

    with : take number entries ≡ before ++ entry ∷ []
    with =
        ap (take number) (is ∙ sym (append_assoc before (entry ∷ []) after))
        ∙ take_at (before ++ entry ∷ []) after number (omega (arith, long, first.counted, length_push before entry))

    counted : count_by is_full (take number entries) ≡ count_by is_full (take (number - 1) entries) + cond (is_full entry) 1 0
    counted = ap (count_by is_full) with ∙ sum_by_push (λ (e : Entry). cond (is_full e) 1 0) before entry ∙ ap (λ es. count_by is_full es + cond (is_full entry) 1 0) (sym front)

    by : (b : Bool) → is_full entry ≡ b → is_full entry ≡ true
    by true is = is
    by false is = let none : ◌≡◌ {A = ℕ} (cond (is_full entry) 1 0) 0 = rw is refl in absurd (omega (arith, counted, none, first.before, first.here))

  -- what is wrong with it: it is full, and the world would have made the object
  pub full_fault : IsLegalForSessions rules (take number entries) → HasFault (IsOtherAfter rules) entries number (EntryFault.Reply (Reply.Refused HeapFull) Reply.Done)
  full_fault legal =
      let found = entry_at (number - 1) entries (omega (arith, first.counted, first.within)) in
      let full = full_is found.1.event found.1.reply (full_here found.0 found.1 found.2 found.3 found.4) in
      record {
        before = found.0;
        entry = found.1;
        after = found.2;
        history_is = found.3;
        numbered = omega (arith, found.4, first.counted);
        fault = inr (few found.0 found.1 found.2 found.3 found.4, λ config same. at config same found.0 found.1 found.2 found.3 found.4 full);
      }
    where
      with : (before : List Entry) (entry : Entry) (after : List Entry) → entries ≡ before ++ entry ∷ after → length before ≡ number - 1 → take number entries ≡ before ++ entry ∷ []
      with before entry after is long =
          ap (take number) (is ∙ sym (append_assoc before (entry ∷ []) after))
          ∙ take_at (before ++ entry ∷ []) after number (omega (arith, long, first.counted, length_push before entry))

      few : (before : List Entry) (entry : Entry) (after : List Entry) → entries ≡ before ++ entry ∷ after → length before ≡ number - 1 → length before < most_entries
      few before entry after is long = let front = ap length (with before entry after is long) in omega (arith, front, length_push before entry, legal.few)

      right : (world : World) (who : ℕ) (command : Command) → IsSeen world (Event.Session who command) (Reply.Refused HeapFull) → IsOtherReply world (Event.Session who command) (Reply.Refused HeapFull) (EntryFault.Reply (Reply.Refused HeapFull) Reply.Done)
      right world who command (inl same) = absurd (false≢true (sym (world_step-never_full world who command) ∙ ap is_heap_full (sym same)))
      right world who command (inr made) = (refl, sym made.1, λ same. (let other : Reply.Refused HeapFull ≡ Reply.Done = same ∙ made.1 in cc))

      at : (config : Config) → config.rules ≡ rules → (before : List Entry) (entry : Entry) (after : List Entry) → entries ≡ before ++ entry ∷ after → length before ≡ number - 1
          → (who : ℕ) × (command : Command) × (entry.event ≡ Event.Session who command) × (entry.reply ≡ Reply.Refused HeapFull)
          → IsOtherReply (world_after (first_world config) before) entry.event entry.reply (EntryFault.Reply (Reply.Refused HeapFull) Reply.Done)
      at config same before entry after is long (who, command, asked, answer) =
          let seen : IsSeen (world_after (first_world config) before) entry.event entry.reply =
          seen_at (first_world config) before entry [] (subst (AreSeen (first_world config)) (with before entry after is long) (legal.seen config same)) in
          rw (asked, answer) (right (world_after (first_world config) before) who command (rw (asked, answer) at seen))

-- a reply that its session may not see isn't the world's
pub other_reply : (world : World) (asked : Event) (answer : Reply) (f : EntryFault) → IsUnseenReply world asked answer f → IsOtherReply world asked answer f
other_reply world (Event.Session who command) answer f is = is.1
other_reply world (Event.Control control) answer f is = is
