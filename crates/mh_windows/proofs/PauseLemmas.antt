-- What goes over a trace meets its longest pause.
use Rattle.std.proofs.Common.{◌≡◌, ◌∙◌, ◌⊎◌, inl, inr, ℕ, zero, suc, ◌+◌, ◌-◌, ◌<◌, ◌≤◌, nat_lt, Bool, true, false, List, length, ap, refl, append-nil, arith}
use Rattle.std.proofs.{lemmas.Bool.Decides.nat_tests, lemmas.List.{length-drop, length-replicate}}
use Rattle.mh_model.specs.Trace.{Letter, M, C}
use Rattle.mh_report.specs.{Slides.{Passing, alike, passings_of}, Walk.mutator_units}
use Rattle.mh_run_laws.specs.Windows.{before, units_in}
use Rattle.mh_run_laws.proofs.windows.StretchLemmas.{units_between}
use Rattle.mh_windows.specs.Pauses.{Goes, HasGone, IsLongest, PauseState, StandsNext}
use Rattle.mh_windows.specs.Auxiliary.{here_after, longer_of}
use Rattle.mh_windows.proofs.ShareLemmas.{enough, leave_alike, passings_long}

module _ (letters : List Letter) (s : PauseState) (gone : HasGone letters s) where
  -- a stretch has a part in it
  part_in : (start units from many : ℕ) → start ≤ from → from + many ≤ start + units → units_in letters start units ≡ 0 → units_in letters from many ≡ 0
  part_in start units from many low high none =
      let whole = units_between letters start units in
      let head = units_between letters start (from - start) in
      let part = units_between letters from many in
      let tail = units_between letters (from + many) (start + units - (from + many)) in
      grind arith

  -- more letters of the collector
  module _ (n : ℕ) (room : s.place + n ≤ length letters) (alike_is : (i : ℕ) → i ≤ n → units_in letters s.place i ≡ 0) where
    paused_more : units_in letters (s.place - s.here) (s.here + n) ≡ 0
    paused_more =
        let start : s.place - s.here + s.here ≡ s.place = omega (arith, gone.here) in
        let first = units_between letters (s.place - s.here) s.here in
        let whole = units_between letters (s.place - s.here) (s.here + n) in
        let last = units_between letters s.place n in
        grind arith

    begins_more : (start : ℕ) → start + (s.here + n) < s.place + n → 0 < units_in letters start (s.place + n - start)
    begins_more start early =
        let sooner : start + s.here < s.place = omega (arith, early) in
        by (nat_lt 0 (units_in letters start (s.place + n - start))) refl (gone.begins start sooner)
      where
        by : (b : Bool) → nat_lt 0 (units_in letters start (s.place + n - start)) ≡ b → 0 < units_in letters start (s.place - start) → 0 < units_in letters start (s.place + n - start)
        by true test some = grind (arith, nat_tests)
        by false test some = grind (arith, nat_tests, part_in)

    no_longer_more : (start units : ℕ) → start + units ≤ s.place + n → s.place < start + units → units_in letters start units ≡ 0 → units ≤ s.here + n
    no_longer_more start units inside later none = by (nat_lt (start + s.here) s.place) refl where
      by : (b : Bool) → nat_lt (start + s.here) s.place ≡ b → units ≤ s.here + n
      by true test = grind (arith, nat_tests, part_in)
      by false test = let no_sooner : s.place ≤ start + s.here = grind (arith, nat_tests) in omega (arith, no_sooner, inside)

    starts_more : (start : ℕ) → start + (s.here + n) < s.place + n → s.place < start + (s.here + n) → 0 < units_in letters start (s.here + n)
    starts_more start early later = by (nat_lt 0 (units_in letters start (s.here + n))) refl where
      by : (b : Bool) → nat_lt 0 (units_in letters start (s.here + n)) ≡ b → 0 < units_in letters start (s.here + n)
      by true test = grind (arith, nat_tests)
      by false test = grind (arith, nat_tests, part_in)

  -- or of the mutator, of which there is one
  module _ (n : ℕ) (some : 0 < n) (room : s.place + n ≤ length letters) (alike_is : (i : ℕ) → i ≤ n → units_in letters s.place i ≡ i) where
    begins_new : (start : ℕ) → start + 0 < s.place + n → 0 < units_in letters start (s.place + n - start)
    begins_new start early =
        let before_last = units_between letters start (s.place + n - start) in
        let whole : before letters (start + (s.place + n - start)) ≡ before letters (s.place + n) = (let at : start + (s.place + n - start) ≡ s.place + n = omega (arith, early) in ap (before letters) at) in
        by (nat_lt start s.place) refl before_last whole
      where
        by : (b : Bool) → nat_lt start s.place ≡ b → units_in letters start (s.place + n - start) + before letters start ≡ before letters (start + (s.place + n - start)) → before letters (start + (s.place + n - start)) ≡ before letters (s.place + n)
            → 0 < units_in letters start (s.place + n - start)
        by true test between whole =
            let sooner : start < s.place = grind (arith, nat_tests) in
            let head = units_between letters start (s.place - start) in
            let at : before letters (start + (s.place - start)) ≡ before letters s.place = (let to : start + (s.place - start) ≡ s.place = omega (arith, sooner) in ap (before letters) to) in
            omega (arith, between, whole, head, at, units_between letters s.place n, alike_is n (omega arith), some)
        by false test between whole =
            let later : s.place ≤ start = grind (arith, nat_tests) in
            let i : ℕ = start - s.place in
            let to : before letters (s.place + i) ≡ before letters start = (let at : s.place + i ≡ start = omega (arith, later) in ap (before letters) at) in
            omega (arith, between, whole, to, units_between letters s.place i, units_between letters s.place n, alike_is i (omega (arith, early, later)), alike_is n (omega arith), early, later)

    none_new : (start units : ℕ) → start + units ≤ s.place + n → s.place < start + units → units_in letters start units ≡ 0 → units ≡ 0
    none_new start units inside later none = by (nat_lt 0 units) refl where
      by : (b : Bool) → nat_lt 0 units ≡ b → units ≡ 0
      by false test = grind (arith, nat_tests)
      by true test =
          let long : 0 < units = grind (arith, nat_tests) in
          -- the last letter of it is the mutator's
          let i : ℕ = start + units - 1 - s.place in
          let last : units_in letters (s.place + i) 1 ≡ 0 = part_in start units (s.place + i) 1 (omega (arith, later, long)) (omega (arith, later)) none in
          let next : s.place + i + 1 ≡ s.place + (i + 1) = omega arith in
          let to : before letters (s.place + i + 1) ≡ before letters (s.place + (i + 1)) = ap (before letters) next in
          absurd (omega (arith, last, to, units_between letters (s.place + i) 1, units_between letters s.place i, units_between letters s.place (i + 1), alike_is i (omega (arith, inside, later)), alike_is (i + 1) (omega (arith, inside, later))))

  -- so it has gone on, if this is what stands before its new place
  module _ (n here : ℕ) (room : s.place + n ≤ length letters) (few : here ≤ s.place + n) (paused : units_in letters (s.place + n - here) here ≡ 0) (begins : (start : ℕ) → start + here < s.place + n → 0 < units_in letters start (s.place + n - start))
      (bound : (start units : ℕ) → start + units ≤ s.place + n → s.place < start + units → units_in letters start units ≡ 0 → units ≤ here)
      (starts : (start : ℕ) → 0 < here → start + here < s.place + n → s.place < start + here → 0 < units_in letters start here) where
    all_bound : (start units : ℕ) → start + units ≤ s.place + n → units_in letters start units ≡ 0 → (units ≤ s.longest.units) ⊎ (units ≤ here)
    all_bound start units inside none = by (nat_lt s.place (start + units)) refl where
      by : (b : Bool) → nat_lt s.place (start + units) ≡ b → (units ≤ s.longest.units) ⊎ (units ≤ here)
      by true test = let later : s.place < start + units = grind (arith, nat_tests) in inr (bound start units inside later none)
      by false test = let sooner : start + units ≤ s.place = grind (arith, nat_tests) in inl (gone.longest start units sooner none)

    first_new : s.longest.units < here → (start : ℕ) → start < s.place + n - here → 0 < units_in letters start here
    first_new more start early = by (nat_lt 0 (units_in letters start here)) (nat_lt s.place (start + here)) refl refl where
      by : (some late : Bool) → nat_lt 0 (units_in letters start here) ≡ some → nat_lt s.place (start + here) ≡ late → 0 < units_in letters start here
      by true late test place = grind (arith, nat_tests)
      by false true test place = let later : s.place < start + here = grind (arith, nat_tests) in starts start (omega (arith, more)) (omega (arith, early)) later
      by false false test place = grind (arith, nat_tests)

    gone_with : HasGone letters (record { place = s.place + n; here = here; longest = longer_of s.longest (record { start = s.place + n - here; units = here }); left = s.left - n })
    gone_with = by (nat_lt s.longest.units here) refl where
      by : (b : Bool) → nat_lt s.longest.units here ≡ b → HasGone letters (record { place = s.place + n; here = here; longest = longer_of s.longest (record { start = s.place + n - here; units = here }); left = s.left - n })
      by true test = grind (arith, nat_tests, all_bound, inl, inr, first_new)
      by false test = grind (arith, nat_tests, all_bound, inl, inr)

-- where it goes over letters alike
abbrev pub gone_on : PauseState → ℕ → Letter → PauseState
gone_on s n letter = record {
  place = s.place + n;
  here = here_after letter n s.here;
  longest = longer_of s.longest (record { start = s.place + n - here_after letter n s.here; units = here_after letter n s.here });
  left = s.left - n;
}

module _ (letters : List Letter) (s : PauseState) (n : ℕ) (leaves enters : Letter) (next : StandsNext letters s (alike n leaves enters)) (gone : HasGone letters s) where
  room_left : s.place + n ≤ length letters
  room_left = omega (arith, enough n leaves enters _ _ next.0 next.1, length-drop s.place letters, gone.inside)

  alike_next : (i : ℕ) → i ≤ n → units_in letters s.place i ≡ mutator_units leaves i
  alike_next i less = leave_alike n leaves enters _ _ next.0 next.1 i less

  goes_over : HasGone letters (gone_on s n leaves)
  goes_over = by leaves n refl alike_next room_left where
    by : (letter : Letter) (many : ℕ) → many ≡ n → ((i : ℕ) → i ≤ n → units_in letters s.place i ≡ mutator_units letter i) → s.place + n ≤ length letters → HasGone letters (gone_on s many letter)
    by C many is next_is room =
        let same : s.place + many - (s.here + many) ≡ s.place - s.here = omega (arith, gone.here) in
        gone_with letters s gone many (s.here + many) (omega (arith, is, room)) (omega (arith, gone.here)) (ap (λ p. units_in letters p (s.here + many)) same ∙ paused_more letters s gone many (omega (arith, is, room)) (λ i less. next_is i (omega (arith, less, is))))
        (begins_more letters s gone many (omega (arith, is, room)) (λ i less. next_is i (omega (arith, less, is))))
        (no_longer_more letters s gone many (omega (arith, is, room)) (λ i less. next_is i (omega (arith, less, is))))
        (λ start some. starts_more letters s gone many (omega (arith, is, room)) (λ i less. next_is i (omega (arith, less, is))) start)
    by M zero is next_is room = grind (arith, gone_with)
    by M (suc more) is next_is room =
        gone_with letters s gone (suc more) 0 (omega (arith, is, room)) (omega arith) refl
        (begins_new letters s gone (suc more) (omega arith) (omega (arith, is, room)) (λ i less. next_is i (omega (arith, less, is))))
        (λ start units inside later none. (let no : units ≡ 0 = none_new letters s gone (suc more) (omega arith) (omega (arith, is, room)) (λ i less. next_is i (omega (arith, less, is))) start units inside later none in omega (arith, no)))
        (λ start some early later. absurd (omega (arith, some)))

pub goes_alike : (s : PauseState) (n : ℕ) (leaves enters : Letter) → Goes s (alike n leaves enters) (gone_on s n leaves)
goes_alike s n leaves enters =
    let step : Passing = record { leaves = leaves; enters = enters } in
    let long = length-replicate n step in
    record {
      place = omega (arith, long);
      goes = λ letters next gone. goes_over letters s n leaves enters next gone;
    }

-- from the start to the end
pub goes_first : (letters : List Letter) (left : ℕ) → HasGone letters (record { place = 0; here = 0; longest = record { start = 0; units = 0 }; left = left })
goes_first letters left = grind arith

pub longest_found : (letters : List Letter) (old new : PauseState) → old.place ≡ 0 → HasGone letters old → Goes old (passings_of 0 letters) new → IsLongest letters new.longest
longest_found letters old new start gone goes = grind (arith, append-nil, passings_long)
