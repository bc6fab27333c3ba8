-- Each step at the claim word keeps its rule.
use Rattle.std.proofs.Common.{◌≡◌, ℕ, zero, suc, ◌+◌, ◌%◌, ◌^◌, ◌<◌, ◌≤◌, ◌==◌, false, List, [], ◌∷◌, ◌++◌, length, get_or, set, take, drop, replicate, flat_map, sym, refl, ap, ◌∙◌, subst, arith, length-set, length-append, get_or-set_same, ⊎_elim}
use Rattle.std.proofs.lemmas.List.{length-replicate, get_or-append-add}
use mathlib.Core.Option.{none, some, some-injective, some-ne-none}
use lib.ListN.{get_elem?}
use Rattle.atomic_table.specs.Table.{State, step, keeps, opening, Allows, Splits, Joins}
use Rattle.atomic_table.proofs.Lists.{at_set, at_snoc}
use Rattle.mh_model.specs.History.{ClaimState, has_ended}
use Rattle.mh_seat_laws.specs.{Weights.{weigh, weigh_lists, total}, ClaimWord.{Lists, AllRunOut, IsClaimed}}
use Rattle.mh_seat_laws.specs.Auxiliary.{claim_of}
use Rattle.mh_seat_laws.proofs.TotalLemmas.{total-set, total-append_one}
use Rattle.mh_seat_laws.proofs.claim_word.ShownClaims.{both_run, claim_of-drawn}
use Rattle.mh_seat_laws.proofs.claim_word.DrawRule.{below-has_ended, only_last_past-append, with_draw-kept}
use Rattle.mh_seat_laws.proofs.claim_word.DrawnNumbers.{counts, count-cons, itself, drawn-below, word-near_bound}
use Rattle.mh_claims.specs.{Seats.{next_of, IsDrawnByRule}, Steps.{alone, answer_found, Draws}}

-- The lists of all seats ------------------------------------------------------------------------

abbrev pub all_of : List Lists → Lists
all_of views = flat_map (λ view. view) views

pub length-all_of : (views : List Lists) → length (all_of views) ≡ total length views
length-all_of [] = refl
length-all_of (view ∷ views) = omega (arith, length-append view (all_of views), length-all_of views)

-- if a list stands among the lists of all seats
record Stands (lists : Lists) (list : List ℕ) : Type 0 where
  pub seat : ℕ
  pub inside : seat < length lists
  pub here : get_or lists seat [] ≡ list

alone-stands : (views : List Lists) (id : ℕ) (list : List ℕ) → get_elem? views id ≡ some (list ∷ []) → Stands (all_of views) list
alone-stands [] id list there = absurd (some-ne-none (list ∷ []) (sym there))
alone-stands (view ∷ views) zero list there =
    subst (λ (v : Lists). Stands (v ++ all_of views) list) (sym (some-injective view (list ∷ []) there)) (record { seat = 0; inside = omega arith; here = refl })
alone-stands (view ∷ views) (suc id) list there = let rest = alone-stands views id list there in record {
  seat = length view + rest.seat;
  inside = omega (arith, length-append view (all_of views), rest.inside);
  here = get_or-append-add view (all_of views) rest.seat [] ∙ rest.here;
}

-- A draw --------------------------------------------------------------------------------------------

module _ (about : ℕ × ℕ) (table : State (Unit {0}) Lists) (rule : IsClaimed about table) (id : ℕ) (list : List ℕ) (there : get_elem? table.views id ≡ some (list ∷ [])) where
  -- the word after a draw of a seat that hasn't ended is as far past the bound as there are seats, at most
  draw-near_bound : has_ended about.0 list ≡ false → get_or table.words 0 0 + 1 ≤ about.0 + about.1
  draw-near_bound going =
      let claim : ClaimState = claim_of table in
      let place = alone-stands table.views id list there in
      let kept = with_draw-kept about.0 claim place.seat place.inside (ap (has_ended about.0) place.here ∙ going) (claim_of-drawn about table rule) in
      grind (arith, word-near_bound, length-set, length-all_of)

  -- and each number of the seat is below the word
  list-below : (number : ℕ) → 1 ≤ counts number list → number < get_or table.words 0 0
  list-below number drawn =
      let place = alone-stands table.views id list there in
      drawn-below about.0 (claim_of table) (claim_of-drawn about table rule) place.seat number (subst (λ (l : List ℕ). 1 ≤ counts number l) (sym place.here) drawn)

  -- it is one by the draw rule
  draw-by_rule : has_ended about.0 list ≡ false → IsDrawnByRule about.0 about.1 list (list ++ get_or table.words 0 0 ∷ []) (answer_found about.0 (get_or table.words 0 0))
  draw-by_rule going =
      let claim : ClaimState = claim_of table in
      let place = alone-stands table.views id list there in
      let kept = claim_of-drawn about table rule in
      let many : length claim.drawn ≡ about.1 = length-all_of table.views ∙ rule.seats in record {
        state = claim;
        seat = place.seat;
        many = many;
        inside = omega (arith, place.inside, many);
        kept = kept;
        drawn = place.here;
        answered = refl;
        kept_after = with_draw-kept about.0 claim place.seat place.inside (ap (has_ended about.0) place.here ∙ going) kept;
        drawn_after = get_or-set_same claim.drawn place.seat (get_or claim.drawn place.seat [] ++ claim.word ∷ []) [] place.inside ∙ ap (λ l. l ++ claim.word ∷ []) place.here;
      }

next-below : (word : ℕ) (list : List ℕ) → ((number : ℕ) → 1 ≤ counts number list → number < word) → next_of list ≤ word
next-below word [] below = omega arith
next-below word (number ∷ []) below = omega (arith, below number (omega (arith, count-cons (λ other. other == number) number [], itself number)))
next-below word (number ∷ next ∷ list) below =
    next-below word (next ∷ list) (λ later drawn. below later (omega (arith, count-cons (λ other. other == later) number (next ∷ list), drawn)))

pub next-append : (list : List ℕ) (number : ℕ) → next_of (list ++ number ∷ []) ≡ suc number
next-append [] number = refl
next-append (first ∷ []) number = refl
next-append (first ∷ next ∷ list) number = next-append (next ∷ list) number

weigh-append : (h : ℕ → ℕ) (xs ys : List ℕ) → weigh h (xs ++ ys) ≡ weigh h xs + weigh h ys
weigh-append h [] ys = omega arith
weigh-append h (x ∷ xs) ys = omega (arith, weigh-append h xs ys)

pub draw-allowed : (about : ℕ × ℕ) (slots id : ℕ) (list : List ℕ) → has_ended about.0 list ≡ false
    → Allows (IsClaimed about) slots id (alone list) 0 (λ word. (word + 1) % 2 ^ 64) (Draws about (step slots 0 1 0 none) (alone list))
draw-allowed about slots id list going table rule _ there _ =
    let word : ℕ = get_or table.words 0 0 in
    let more : List ℕ = list ++ word ∷ [] in
    let next : (word + 1) % 2 ^ 64 ≡ suc word = omega (arith, draw-near_bound about table rule id list there going, rule.room) in
    let after : get_or (set table.words 0 ((word + 1) % 2 ^ 64)) 0 0 ≡ suc word = get_or-set_same table.words 0 ((word + 1) % 2 ^ 64) 0 (omega (arith, rule.words)) ∙ next in (
      more ∷ [],
      keeps,
      tt,
      record {
        words = length-set table.words 0 ((word + 1) % 2 ^ 64) ∙ rule.words;
        room = rule.room;
        seats = omega (arith, total-set length table.views id (list ∷ []) (more ∷ []) there, rule.seats);
        drawn = λ h. rw after (omega (arith, total-set (weigh_lists h) table.views id (list ∷ []) (more ∷ []) there, weigh-append h list (word ∷ []), rule.drawn h));
        run_out = λ other view is. ⊎_elim
            (λ t. subst (AllRunOut about.0) t.1 (only_last_past-append about.0 word list (below-has_ended about.0 list going), tt))
            (λ t. rule.run_out other view t.1)
            (at_set table.views id other (more ∷ []) view is);
      },
      record {
        appended = refl;
        rising = next-below word list (list-below about table rule id list there);
        rule = draw-by_rule about table rule id list there going;
      },
    )

-- The start, a split and a join ------------------------------------------------------------------

weigh-none : (h : ℕ → ℕ) (count : ℕ) → weigh_lists h (replicate count []) ≡ 0
weigh-none h zero = refl
weigh-none h (suc count) = omega (arith, weigh-none h count)

none-run : (bound count : ℕ) → AllRunOut bound (replicate count [])
none-run bound zero = tt
none-run bound (suc count) = (tt, none-run bound count)

pub opening-claimed : (about : ℕ × ℕ) → about.0 + about.1 < 2 ^ 64 → IsClaimed about (opening (0 ∷ []) [] (replicate about.1 []))
opening-claimed about room = record {
  words = refl;
  room = room;
  seats = omega (arith, length-replicate {A = List ℕ});
  drawn = λ h. omega (arith, weigh-none h about.1);
  run_out = only;
}
  where
    only : (id : ℕ) (view : Lists) → get_elem? (replicate about.1 [] ∷ []) id ≡ some view → AllRunOut about.0 view
    only zero view is = subst (AllRunOut about.0) (some-injective (replicate about.1 []) view is) (none-run about.0 about.1)
    only (suc id) view is = absurd (some-ne-none view (sym is))

length-cut : (view : Lists) → length (drop 1 view) + length (take 1 view) ≡ length view
length-cut [] = refl
length-cut (list ∷ lists) = omega arith

weigh-cut : (h : ℕ → ℕ) (view : Lists) → weigh_lists h (drop 1 view) + weigh_lists h (take 1 view) ≡ weigh_lists h view
weigh-cut h [] = refl
weigh-cut h (list ∷ lists) = omega arith

rest-run : (bound : ℕ) (view : Lists) → AllRunOut bound view → AllRunOut bound (drop 1 view)
rest-run bound [] run = tt
rest-run bound (list ∷ lists) run = run.1

first-run : (bound : ℕ) (view : Lists) → AllRunOut bound view → AllRunOut bound (take 1 view)
first-run bound [] run = tt
first-run bound (list ∷ lists) run = (run.0, tt)

pub split-kept : (about : ℕ × ℕ) (id : ℕ) (view : Lists) → Splits (IsClaimed about) id view (drop 1 view) (take 1 view)
split-kept about id view table rule there = let cut : List Lists = set table.views id (drop 1 view) in record {
  words = rule.words;
  room = rule.room;
  seats = omega (arith, total-append_one length cut (take 1 view), total-set length table.views id view (drop 1 view) there, length-cut view, rule.seats);
  drawn = λ h. omega (arith, total-append_one (weigh_lists h) cut (take 1 view), total-set (weigh_lists h) table.views id view (drop 1 view) there, weigh-cut h view, rule.drawn h);
  run_out = λ other seen is. ⊎_elim
      (λ old. ⊎_elim
      (λ t. subst (AllRunOut about.0) t.1 (rest-run about.0 view (rule.run_out id view there)))
      (λ t. rule.run_out other seen t.1)
      (at_set table.views id other (drop 1 view) seen old))
      (λ new. subst (AllRunOut about.0) new (first-run about.0 view (rule.run_out id view there)))
      (at_snoc cut (take 1 view) seen other is);
}

weigh_lists-append : (h : ℕ → ℕ) (xs ys : Lists) → weigh_lists h (xs ++ ys) ≡ weigh_lists h xs + weigh_lists h ys
weigh_lists-append h [] ys = omega arith
weigh_lists-append h (x ∷ xs) ys = omega (arith, weigh_lists-append h xs ys)

pub join-kept : (about : ℕ × ℕ) (id : ℕ) (view : Lists) (other : ℕ) (before : Lists) → Joins (IsClaimed about) id view other before (before ++ view) []
join-kept about id view other before table rule there apart joined =
    let both : List Lists = set table.views id (before ++ view) in
    let was : get_elem? table.views other ≡ some before = ⊎_elim (λ t. absurd (apart t.0)) (λ t. t.1) (at_set table.views id other (before ++ view) before joined) in record {
      words = rule.words;
      room = rule.room;
      seats = omega (arith, total-set length both other before [] joined, total-set length table.views id view (before ++ view) there, length-append before view, rule.seats);
      drawn = λ h. omega (arith, total-set (weigh_lists h) both other before [] joined, total-set (weigh_lists h) table.views id view (before ++ view) there, weigh_lists-append h before view, rule.drawn h);
      run_out = λ seat seen is. ⊎_elim
          (λ t. subst (AllRunOut about.0) t.1 tt)
          (λ t. ⊎_elim
          (λ k. subst (AllRunOut about.0) k.1 (both_run about.0 before view (rule.run_out other before was) (rule.run_out id view there)))
          (λ k. rule.run_out seat seen k.1)
          (at_set table.views id seat (before ++ view) seen t.1))
          (at_set both other seat [] seen is);
    }
