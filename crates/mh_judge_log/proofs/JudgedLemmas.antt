-- Orders that are judged by their times and by what their sessions see.
use Rattle.std.proofs.Common.{◌≡◌, ◌≢◌, ◌∙◌, ℕ, zero, suc, ◌+◌, ◌-◌, ◌<◌, ◌≤◌, Bool, List, [], ◌∷◌, ◌++◌, length, take, drop, get_or, ap, sym, refl, subst, append_assoc, arith}
use Rattle.std.proofs.lemmas.List.{get_or-take, length-map, length-take, map-append, map_more, take-append-drop, take-map, take-take, take_all}
use Rattle.mh_model.specs.{declared.config.Rules.Rules, declared.history.Entry.Entry}
use Rattle.mh_model.specs.{declared.history.Verdict.TheVariants.{FirstBad, Legal}, declared.reply.Reply.Reply}
use Rattle.mh_model.specs.{History.IsFirstBadOf, HistoryTexts.IsJudged}
use Rattle.mh_judge_sessions.specs.{Full.{lawful_by, wrong_by}, WatchRules.watched_legal}
use Rattle.mh_judge_sessions.specs.Watching.{HasWatched, Watched}
use Rattle.mh_judge.specs.{declared.bad_entry.BadEntry.BadEntry, Faults.HasFault, Following.IsBadEntry}
use Rattle.mh_judge.proofs.FollowingLemmas.{bad_stays}
use Rattle.mh_judge_log.specs.{declared.fault.OrderFault.TheVariants.Late, declared.timed.Timed.Timed}
use Rattle.mh_judge_log.specs.{Faults.IsOrderFault, Orders.{IsLegalOrder, entries_of}, Times.{IsLateAfter, KeepsTime}}

-- Times ------------------------------------------------------------------------------------------

pub keeps_take : (order : List Timed) (n : ℕ) → KeepsTime order → KeepsTime (take n order)
keeps_take order n keeps i j d before below =
    let inside : j < n = omega (arith, below, length-take n order) in
    let first : i < n = omega (arith, before, inside) in
    rw (get_or-take n order i d first, get_or-take n order j d inside) (keeps i j d before (omega (arith, below, length-take n order)))

-- an order with a late command doesn't keep the times up to it
late_breaks : (order : List Timed) (earlier place : ℕ) → IsLateAfter order earlier place → KeepsTime (take (place + 1) order) → ⊥
late_breaks [] earlier place late keeps = omega (arith, late.within)
late_breaks (d ∷ order) earlier place late keeps =
    let whole : List Timed = d ∷ order in
    let long : length (take (place + 1) whole) ≡ place + 1 = omega (arith, length-take (place + 1) whole, late.within) in
    let kept = keeps earlier place d late.comes_before (omega (arith, long)) in
    let first : get_or (take (place + 1) whole) earlier d ≡ get_or whole earlier d = get_or-take (place + 1) whole earlier d (omega (arith, late.comes_before)) in
    let second : get_or (take (place + 1) whole) place d ≡ get_or whole place d = get_or-take (place + 1) whole place d (omega arith) in
    omega (arith, kept, late.ended d, ap (λ (t : Timed). t.begin) first, ap (λ (t : Timed). t.end) second)

-- Entries ----------------------------------------------------------------------------------------

entries_take : (order : List Timed) (n kept : ℕ) → n ≤ kept → take n (entries_of (take kept order)) ≡ entries_of (take n order)
entries_take order n kept within = take-map (λ (t : Timed). t.entry) n (take kept order) ∙ ap entries_of (take-take n kept order within)

module _ (may_be_full : Bool) (rules : Rules) (order : List Timed) where
  -- one without a late command is legal as its entries are
  pub legal_order : (kept : ℕ) → length order ≤ kept → KeepsTime order → lawful_by may_be_full rules (entries_of (take kept order)) → IsLegalOrder may_be_full rules order
  legal_order kept all keeps legal = record { time = keeps; seen = subst (λ o. lawful_by may_be_full rules (entries_of o)) (take_all kept order all) legal }

  -- a late command is the first bad one, if the entries before it are legal
  pub late_bad : (earlier place : ℕ) → IsLateAfter order earlier place → KeepsTime (take place order) → lawful_by may_be_full rules (entries_of (take place order)) → IsFirstBadOf (IsLegalOrder may_be_full rules) order (place + 1)
  late_bad earlier place late keeps legal =
      let same : place + 1 - 1 ≡ place = omega arith in
      record {
        counted = omega arith;
        within = omega (arith, late.within);
        before = subst (λ n. IsLegalOrder may_be_full rules (take n order)) (sym same) (record { time = keeps; seen = legal });
        bad = λ whole. late_breaks order earlier place late whole.time;
      }

  -- the first bad entry of those before is that of the order
  module _ (kept number : ℕ) (keeps : KeepsTime (take kept order)) (bad : IsFirstBadOf (lawful_by may_be_full rules) (entries_of (take kept order)) number) where
    within_kept : number ≤ kept
    within_kept = omega (arith, bad.within, length-map (take kept order) (λ (t : Timed). t.entry), length-take kept order)

    within_order : number ≤ length order
    within_order = omega (arith, bad.within, length-map (take kept order) (λ (t : Timed). t.entry), length-take kept order)

    pub order_bad : IsFirstBadOf (IsLegalOrder may_be_full rules) order number
    order_bad = record {
      counted = bad.counted;
      within = within_order;
      before = record {
        time = subst KeepsTime (take-take (number - 1) kept order (omega (arith, within_kept))) (keeps_take (take kept order) (number - 1) keeps);
        seen = subst (lawful_by may_be_full rules) (entries_take order (number - 1) kept (omega (arith, within_kept))) bad.before;
      };
      bad = λ legal. bad.bad (subst (lawful_by may_be_full rules) (sym (entries_take order number kept within_kept)) legal.seen);
    }

-- Sessions ---------------------------------------------------------------------------------------

-- the entry of a command, with this reply
abbrev pub entry_with : Timed → Reply → Entry
entry_with timed reply = record { event = timed.entry.event; reply = reply }

-- one that follows the entries of an order one after another
module _ (may_be_full : Bool) (rules : Rules) (first : Watched) (asked : first.rules ≡ rules) (allowed : first.may_be_full ≡ may_be_full) (order : List Timed) (place : ℕ) (timed : Timed) (within : place < length order) (is : timed ≡ get_or order place timed) where
  one_more : entries_of (take (place + 1) order) ≡ entries_of (take place order) ++ timed.entry ∷ []
  one_more = map_more (λ (t : Timed). t.entry) order place timed within ∙ ap (λ (t : Timed). entries_of (take place order) ++ t.entry ∷ []) (sym is)

  pub order_more : (reply : Reply) → reply ≡ timed.entry.reply → (watch : Watched) → HasWatched first (entries_of (take place order) ++ entry_with timed reply ∷ []) watch → HasWatched first (entries_of (take (place + 1) order)) watch
  order_more reply same watch has = subst (λ es. HasWatched first es watch) (sym one_more) (subst (λ (r : Reply). HasWatched first (entries_of (take place order) ++ entry_with timed r ∷ []) watch) same has)

  whole : entries_of order ≡ entries_of (take place order) ++ timed.entry ∷ entries_of (drop (place + 1) order)
  whole =
      ap entries_of (sym (take-append-drop (place + 1) order)) ∙ map-append (λ (t : Timed). t.entry) (take (place + 1) order) (drop (place + 1) order)
      ∙ ap (λ es. es ++ entries_of (drop (place + 1) order)) one_more ∙ append_assoc (entries_of (take place order)) (timed.entry ∷ []) (entries_of (drop (place + 1) order))

  pub order_bad_at : (reply : Reply) → reply ≡ timed.entry.reply → (bad : BadEntry) → IsBadEntry (lawful_by first.may_be_full first.rules) (wrong_by first.may_be_full first.rules) (entries_of (take place order) ++ entry_with timed reply ∷ []) bad
      → IsBadEntry (lawful_by may_be_full rules) (wrong_by may_be_full rules) (entries_of order) bad
  order_bad_at reply same bad wrong =
      let P : Reply → Type 0 = λ r. IsBadEntry (lawful_by first.may_be_full first.rules) (wrong_by first.may_be_full first.rules) (entries_of (take place order) ++ entry_with timed r ∷ []) bad in
      let stays = bad_stays (entries_of (take place order)) timed.entry (entries_of (drop (place + 1) order)) (lawful_by first.may_be_full first.rules) (wrong_by first.may_be_full first.rules) bad (subst P same wrong) in
      rw whole (rw (allowed, asked) at stays)

pub order_all : (may_be_full : Bool) (rules : Rules) (first : Watched) → first.rules ≡ rules → first.may_be_full ≡ may_be_full → (order : List Timed) (place : ℕ) (watch : Watched) → length order ≤ place → HasWatched first (entries_of (take place order)) watch
    → lawful_by may_be_full rules (entries_of order)
order_all may_be_full rules first asked allowed order place watch all has =
    subst (λ o. lawful_by may_be_full rules (entries_of o)) (take_all place order all) (rw (allowed, asked) at (watched_legal first (entries_of (take place order)) watch has))

pub some_timed : (order : List Timed) (place : ℕ) → place < length order → order ≢ []
some_timed order place within none = omega (arith, within, ap length none)

-- Judgements -------------------------------------------------------------------------------------

-- what is found of an order with a late command, and of one without, if sessions may see what comes before
module _ (order : List Timed) where
  pub late_judged : (earlier place number told : ℕ) → IsLateAfter order earlier place → KeepsTime (take place order) → number ≡ place + 1 → told ≡ earlier + 1
      → (may_be_full : Bool) (rules : Rules) → lawful_by may_be_full rules (entries_of (take place order)) → IsJudged (IsLegalOrder may_be_full rules) order (FirstBad number) × IsOrderFault may_be_full rules order number (Late told)
  late_judged earlier place number told late keeps numbered is may_be_full rules legal = (
    subst (IsFirstBadOf (IsLegalOrder may_be_full rules) order) (sym numbered) (late_bad may_be_full rules order earlier place late keeps legal),
    record { place = place; before = earlier; numbered = omega (arith, numbered); earlier_is = omega (arith, is); late = late },
  )

  pub legal_judged : (kept count : ℕ) → KeepsTime order → kept ≡ length order → count ≡ length order
      → (may_be_full : Bool) (rules : Rules) → lawful_by may_be_full rules (entries_of (take kept order)) → IsJudged (IsLegalOrder may_be_full rules) order (Legal count)
  legal_judged kept count keeps all counted may_be_full rules legal = (legal_order may_be_full rules order kept (omega (arith, all)) keeps legal, counted)

-- an order that isn't taken whole has a command
pub some_order : (order : List Timed) (kept : ℕ) → take kept order ≢ [] → order ≢ []
some_order order kept some none = some (ap (take kept) none ∙ nothing kept) where
  nothing : (n : ℕ) → ◌≡◌ {A = List Timed} (take n []) []
  nothing zero = refl
  nothing (suc n) = refl

-- the first bad entry of the commands that keep the times is that of the order
module _ (may_be_full : Bool) (rules : Rules) (order : List Timed) (kept : ℕ) (keeps : KeepsTime (take kept order)) (bad : BadEntry) (is : IsBadEntry (lawful_by may_be_full rules) (wrong_by may_be_full rules) (entries_of (take kept order)) bad) where
  pub kept_bad : IsFirstBadOf (IsLegalOrder may_be_full rules) order bad.number
  kept_bad = order_bad may_be_full rules order kept bad.number keeps is.first

  pub kept_fault : HasFault (wrong_by may_be_full rules) (entries_of order) bad.number bad.fault
  kept_fault = record {
    before = is.fault.before;
    entry = is.fault.entry;
    after = is.fault.after ++ entries_of (drop kept order);
    history_is =
        ap entries_of (sym (take-append-drop kept order)) ∙ map-append (λ (t : Timed). t.entry) (take kept order) (drop kept order)
        ∙ ap (λ es. es ++ entries_of (drop kept order)) is.fault.history_is ∙ append_assoc is.fault.before (is.fault.entry ∷ is.fault.after) (entries_of (drop kept order));
    numbered = is.fault.numbered;
    fault = is.fault.fault;
  }
