-- An entry more that is followed, or found to be bad.
use Rattle.std.proofs.Common.{◌≡◌, ◌≢◌, ◌∙◌, inl, inr, ℕ, ◌+◌, ◌-◌, ◌≤◌, Bool, true, false, cond, Option, Some, None, IfSome, IfNone, count_by, List, [], ◌∷◌, ◌++◌, length, take, ap, sym, refl, subst, arith}
use Rattle.std.proofs.{lemmas.List.{length_push, take_all, take_at}, lemmas.List.Sums.sum_by_push}
use Rattle.mh_judge.specs.{declared.bad_entry.BadEntry.BadEntry, declared.entry_fault.EntryFault.EntryFault}
use Rattle.mh_judge.specs.{Faults.{HasFault, IsFaultAfter, IsReplyFault}, Following.IsBadEntry}
use Rattle.mh_model.specs.{declared.command.Command.Command, declared.command.Event.Event}
use Rattle.mh_model.specs.{declared.config.Config.Config, declared.config.Rules.Rules, declared.history.Entry.Entry}
use Rattle.mh_model.specs.{declared.reply.Reply.Reply, History.IsFirstBadOf}
use Rattle.mh_model.specs.{Sessions.{IsLegalForSessions, IsSeen, MayLackRoom}, Snapshot.world_beside_event}
use Rattle.mh_model.specs.World.{Answer, World, births, first_world, world_step}
use Rattle.mh_judge_sessions.specs.declared.tally.EntryCounts.{EntryCounts}
use Rattle.mh_judge_sessions.specs.Faults.{IsUnseen, IsUnseenAfter, IsUnseenReply}
use Rattle.mh_judge_sessions.specs.{Full.{is_full, lawful_by, tally_of, wrong_by}, Laws.world_under}
use Rattle.mh_judge_sessions.specs.Watching.{HasFollowed, HasWatched, Watched}
use Rattle.mh_judge_sessions.specs.{Auxiliary.{IsFollowed, IsWatched, IsWatchedFault}, WatchRules.watched_legal}
use Rattle.mh_judge_sessions.proofs.FullLemmas.{IsFirstFull, full_is_bad, other_reply}
use Rattle.mh_judge_sessions.proofs.JudgeLemmas.{followed_more, unlawful_more}
use Rattle.mh_judge_sessions.proofs.{RulesLemmas.{beside-config, beside-under, rules_alone}, SeenLemmas.world_after}
use Rattle.mh_judge_sessions.proofs.FullLemmas as full

-- Worlds -----------------------------------------------------------------------------------------

-- the world beside entries under another configuration with the same rules
after-under : (config : Config) (world : World) → config.rules ≡ world.config.rules → (entries : List Entry) → world_after (world_under config world) entries ≡ world_under config (world_after world entries)
after-under config world same [] = refl
after-under config world same (entry ∷ entries) =
    let next = world_beside_event world entry.event entry.reply in
    let kept : config.rules ≡ next.config.rules = same ∙ sym (ap (λ (c : Config). c.rules) (beside-config world entry.event entry.reply)) in
    ap (λ (w : World). world_after w entries) (beside-under config world same entry.event entry.reply) ∙ after-under config next kept entries

after-config : (world : World) (entries : List Entry) → (world_after world entries).config ≡ world.config
after-config world [] = refl
after-config world (entry ∷ entries) = after-config (world_beside_event world entry.event entry.reply) entries ∙ beside-config world entry.event entry.reply

unseen-under : (config : Config) (world : World) → config.rules ≡ world.config.rules → (asked : Event) (answer : Reply) (f : EntryFault) → IsUnseenReply world asked answer f → IsUnseenReply (world_under config world) asked answer f
unseen-under config world same (Event.Session who command) answer f is =
    let reply : (world_step world who command).reply ≡ (world_step (world_under config world) who command).reply = sym (ap (λ (after : Answer World). after.reply) (rules_alone.command config world same who command)) in
    (λ lacks. is.0 (lacks.0, reply ∙ lacks.1), subst (λ (right : Reply). IsReplyFault answer right f) reply is.1)
unseen-under config world same (Event.Control control) answer f is = is

unseen_after : (rules : Rules) (seen : List Entry) (old : World) (count : ℕ) → HasFollowed rules seen old count → (entry : Entry) (f : EntryFault) → IsUnseen old entry f → IsUnseenAfter rules seen entry f
unseen_after rules seen old count has entry f is = λ config same.
    let first = first_world old.config in
    let there : IsUnseen (world_after first seen) entry f = subst (λ (world : World). IsUnseen world entry f) has.beside is in
    let kept : config.rules ≡ (world_after first seen).config.rules = same ∙ sym has.under ∙ ap (λ (c : Config). c.rules) (sym (after-config first seen)) in
    subst (λ (world : World). IsUnseen world entry f) (sym (after-under config first (same ∙ sym has.under) seen)) (unseen-under config (world_after first seen) kept entry.event entry.reply f there)

-- where no heap may be full, the fault is of another reply too
unseen_by : (may_be_full : Bool) (rules : Rules) (seen : List Entry) (entry : Entry) (f : EntryFault) → IsUnseenAfter rules seen entry f → wrong_by may_be_full rules seen entry f
unseen_by true rules seen entry f is = is
unseen_by false rules seen entry f is = λ config same. other_reply (world_after (first_world config) seen) entry.event entry.reply f (is config same)

without_room : (may_be_full : Bool) (rules : Rules) (entries : List Entry) → lawful_by may_be_full rules entries → IsLegalForSessions rules entries
without_room true rules entries lawful = lawful
without_room false rules entries lawful = lawful.legal

-- No entry ---------------------------------------------------------------------------------------

pub watched_none : (first : Watched) → (config : Config) × (config.rules ≡ first.rules) × (first.world ≡ first_world config) → first.tally ≡ tally_of [] → HasWatched first [] first
watched_none first (config, same, is) none = record {
  version = refl;
  may_be_full = refl;
  followed = record {
    under = ap (λ (w : World). w.config.rules) is ∙ same;
    beside = is ∙ sym (ap (λ (w : World). first_world w.config) is);
    count = ap (λ (t : EntryCounts). t.entries) none;
    legal = record { few = omega arith; seen = λ other under. tt };
  };
  births = rw (is, none) (omega arith);
  tally = none;
  room = λ strict. refl;
}

-- One entry more ---------------------------------------------------------------------------------

module _ (first : Watched) (entries : List Entry) (old : Watched) (has : HasWatched first entries old) (entry : Entry) (world : World) where
  abbrev more : List Entry
  more = entries ++ entry ∷ []

  long : old.tally.entries ≡ length entries
  long = has.followed.count

  module _ (tally : EntryCounts) (counted : (seen : List Entry) → old.tally ≡ tally_of seen → tally ≡ tally_of (seen ++ entry ∷ [])) where
    entries_more : old.tally.entries + 1 ≡ tally.entries
    entries_more = omega (arith, long, length_push entries entry, ap (λ (t : EntryCounts). t.entries) (counted entries has.tally))

    pub watched_more : IsWatched old.may_be_full old.world old.tally.entries entry world None → births world ≤ old.tally.entries + 1
        → HasWatched first more (record { version = old.version; may_be_full = old.may_be_full; rules = old.rules; world = world; tally = tally })
    watched_more is few = record {
      version = has.version;
      may_be_full = has.may_be_full;
      followed = subst (HasFollowed first.rules more world) entries_more (followed_more first.rules entries entry old.world world old.tally.entries has.followed is.0 is.1);
      births = omega (arith, few, entries_more);
      tally = counted entries has.tally;
      room = λ strict.
          let none : is_full entry ≡ false = is.2 (has.may_be_full ∙ strict) in
          let one : ◌≡◌ {A = ℕ} (cond (is_full entry) 1 0) 0 = rw none refl in
          omega (arith, sum_by_push (λ (e : Entry). cond (is_full e) 1 0) entries entry, has.room strict, one);
    }

  front : take (old.tally.entries + 1 - 1) more ≡ entries
  front = take_at entries (entry ∷ []) (old.tally.entries + 1 - 1) (omega (arith, long))

  all : take (old.tally.entries + 1) more ≡ more
  all = take_all (old.tally.entries + 1) more (omega (arith, long, length_push entries entry))

  -- if it isn't lawful with it, it is the first bad one
  bad_with : (Lawful : List Entry → Type 0) → Lawful entries → (Lawful more → ⊥) → IsFirstBadOf Lawful more (old.tally.entries + 1)
  bad_with Lawful lawful wrong = record {
    counted = omega arith;
    within = omega (arith, long, length_push entries entry);
    before = subst Lawful (sym front) lawful;
    bad = λ with. wrong (subst Lawful all with);
  }

  fault_with : (Wrong : List Entry → Entry → EntryFault → Type 0) (f : EntryFault) → IsFaultAfter (Wrong entries) (length entries) entry f → HasFault Wrong more (old.tally.entries + 1) f
  fault_with Wrong f is = record { before = entries; entry = entry; after = []; history_is = refl; numbered = omega (arith, long); fault = is }

  first_full : first.may_be_full ≡ false → is_full entry ≡ true → IsFirstFull more (old.tally.entries + 1)
  first_full strict is =
      let one : ◌≡◌ {A = ℕ} (cond (is_full entry) 1 0) 1 = rw is refl in
      record {
        counted = omega arith;
        within = omega (arith, long, length_push entries entry);
        before = ap (count_by is_full) front ∙ has.room strict;
        here = omega (arith, ap (count_by is_full) all, sum_by_push (λ (e : Entry). cond (is_full e) 1 0) entries entry, one);
      }

  watched_fault : (f : EntryFault) → IsWatchedFault old.may_be_full old.world old.tally.entries entry world f
      → IsBadEntry (lawful_by first.may_be_full first.rules) (wrong_by first.may_be_full first.rules) more (record { number = old.tally.entries + 1; fault = f })
  watched_fault f (inl full) = record {
    first = bad_with (lawful_by first.may_be_full first.rules) (watched_legal first entries old has)
        (λ lawful. unlawful_more first.rules entries entry old.world world old.tally.entries has.followed (inl full.0) (without_room first.may_be_full first.rules more lawful));
    fault = fault_with (wrong_by first.may_be_full first.rules) f (inl (sym long ∙ full.0, full.1));
  }
  watched_fault f (inr (inl unseen)) = record {
    first = bad_with (lawful_by first.may_be_full first.rules) (watched_legal first entries old has)
        (λ lawful. unlawful_more first.rules entries entry old.world world old.tally.entries has.followed (inr unseen.1) (without_room first.may_be_full first.rules more lawful));
    fault = fault_with (wrong_by first.may_be_full first.rules) f (inr (
      omega (arith, unseen.0, long, has.followed.legal.few),
      unseen_by first.may_be_full first.rules entries entry f (unseen_after first.rules entries old.world old.tally.entries has.followed entry f unseen.2),
    ));
  }
  watched_fault f (inr (inr (other, followed, strict_now, is, same))) =
      let strict : first.may_be_full ≡ false = sym has.may_be_full ∙ strict_now in
      let legal : IsLegalForSessions first.rules more = (followed_more first.rules entries entry old.world world old.tally.entries has.followed other followed).legal in
      let at = first_full strict is in
      rw (strict, same) (record {
        first = full_is_bad first.rules more (old.tally.entries + 1) at (subst (IsLegalForSessions first.rules) (sym front) has.followed.legal);
        fault = full.full_fault first.rules more (old.tally.entries + 1) at (subst (IsLegalForSessions first.rules) (sym all) legal);
      })

  pub watched_bad : (bad : BadEntry) → IsWatched old.may_be_full old.world old.tally.entries entry world (Some bad)
      → IsBadEntry (lawful_by first.may_be_full first.rules) (wrong_by first.may_be_full first.rules) more bad × (bad.number ≡ length entries + 1)
  watched_bad bad is =
      let wrong = watched_fault bad.fault is.1 in (
        record {
          first = subst (IsFirstBadOf (lawful_by first.may_be_full first.rules) more) (sym is.0) wrong.first;
          fault = subst (λ n. HasFault (wrong_by first.may_be_full first.rules) more n bad.fault) (sym is.0) wrong.fault;
        },
        omega (arith, is.0, long),
      )

-- what the try of an entry shows of all that was followed
module _ (old : Watched) (world : World) (entry : Entry) (tally : EntryCounts) (counted : (seen : List Entry) → old.tally ≡ tally_of seen → tally ≡ tally_of (seen ++ entry ∷ [])) where
  pub watch_right : births world ≤ old.tally.entries + 1 → (found : Option BadEntry) → IsWatched old.may_be_full old.world old.tally.entries entry world found
      → IfNone found ((first : Watched) (entries : List Entry) → HasWatched first entries old → HasWatched first (entries ++ entry ∷ []) (record { version = old.version; may_be_full = old.may_be_full; rules = old.rules; world = world; tally = tally }))
  watch_right few (Some bad) is = tt
  watch_right few None is = λ first entries has. watched_more first entries old has entry world tally counted is few

  pub watch_wrong : (found : Option BadEntry) → IsWatched old.may_be_full old.world old.tally.entries entry world found
      → IfSome found (λ bad. (first : Watched) (entries : List Entry) → HasWatched first entries old
      → IsBadEntry (lawful_by first.may_be_full first.rules) (wrong_by first.may_be_full first.rules) (entries ++ entry ∷ []) bad × (bad.number ≡ length entries + 1) × (tally ≡ tally_of (entries ++ entry ∷ [])))
  watch_wrong None is = tt
  watch_wrong (Some bad) is = λ first entries has.
      let wrong = watched_bad first entries old has entry world bad is in
      (wrong.0, wrong.1, counted entries has.tally)

-- One command ------------------------------------------------------------------------------------

-- a session's reply that is neither the world's nor that of a full heap
pub unseen_here : (old new : World) (entry : Entry) (who : ℕ) (command : Command) (right : Reply) (f : EntryFault) → entry.event ≡ Event.Session who command → right ≡ (world_step old who command).reply
    → ¬ MayLackRoom old who command entry.reply → entry.reply ≢ right → IsReplyFault entry.reply right f → IsFollowed old entry new false × IsUnseen old entry f
unseen_here old new entry who command right f is same lacks other wrong =
    let P : Event → Type 0 = λ asked. (¬ IsSeen old asked entry.reply) × IsUnseenReply old asked entry.reply f in
    subst P (sym is) (
      λ seen. elim seen [ inl equal ↦ other (equal ∙ sym same) | inr may ↦ lacks may ],
      (lacks, subst (λ (r : Reply). IsReplyFault entry.reply r f) same wrong),
    )
