-- The windows of a trace from its longest pause on, and their points and places one after another.
use Rattle.std.proofs.Common.{◌≡◌, ◌≢◌, ◌∙◌, ◌==◌, ℕ, zero, suc, ◌+◌, ◌-◌, ◌<◌, ◌≤◌, Bool, true, false, max, min, nat_lt, if◌then◌else◌, List, [], ◌∷◌, ◌++◌, drop, take, length, get_or, ap, sym, refl, subst, add-one, append_assoc, arith}
use Rattle.std.proofs.{lemmas.Bool.Decides.nat_tests, lemmas.List.{length-drop, take_all}}
use Rattle.std.specs.Prelude.{Option, Some}
use Rattle.mh_model.specs.{Bytes.Text, Trace.{Letter, least_mutator}}
use Rattle.mh_orders.specs.declared.promises.Round.{Round}
use Rattle.mh_report.specs.Windows.{next_window}
use Rattle.mh_windows.specs.{Always.{GoToTheEnd, HasLeast}, Lowest.IsLowest, declared.always.WindowLeast.WindowLeast}
use Rattle.mh_windows.proofs.LowestLemmas.{lowest_is_least}
use Rattle.mh_window_curve.specs.{Auxiliary.AddsPlace, Places.{ArePlaced, GoOn, windows_of_pauses}, Points.windows_from}
use Rattle.mh_window_curve.specs.PauseTexts.{row_text, rows_text}
use Rattle.mh_window_curve.proofs.WindowLemmas.{windows-last, windows-more}

-- Windows ----------------------------------------------------------------------------------------

pub pauses-some : (longest letters : ℕ) → letters ≢ 0 → windows_of_pauses longest letters ≡ windows_from letters (max 1 longest) letters
pauses-some longest letters some =
    let is : (letters == 0) ≡ false = grind (arith, nat_tests) in
    ap (λ (b : Bool). if b then [] else windows_from letters (max 1 longest) letters) is

-- Places -----------------------------------------------------------------------------------------

-- these are the first points, and with those of the windows from one on they are all
pub record HasPlaces (letters : List Letter) (window : ℕ) (points : List WindowLeast) (places : List ℕ) (all : List ℕ) : Type 0 where
  pub most : ℕ
  pub enough : length letters ≤ window + most
  pub whole : (points' : List WindowLeast) (places' : List ℕ) → ArePlaced letters (windows_from most window (length letters)) points' places' → ArePlaced letters all (points ++ points') (places ++ places')

module _ (letters : List Letter) where
  pub places_more : (window : ℕ) (points points' : List WindowLeast) (places places' all : List ℕ) → HasPlaces letters window points places all → window < length letters → AddsPlace letters window points points' places places'
      → HasPlaces letters (next_window window) points' places' all
  places_more window points points' places places' all has short adds = by has.most has.enough has.whole where
    by : (most : ℕ) → length letters ≤ window + most
        → ((later : List WindowLeast) (after : List ℕ) → ArePlaced letters (windows_from most window (length letters)) later after → ArePlaced letters all (points ++ later) (places ++ after))
        → HasPlaces letters (next_window window) points' places' all
    by zero enough whole = absurd (omega (arith, enough, short))
    by (suc most) enough whole = record {
      most = most;
      enough = omega (arith, enough);
      whole = λ later after placed.
          let windows : List ℕ = windows_from most (next_window window) (length letters) in
          let here : ArePlaced letters (window ∷ windows) (adds.point ∷ later) (adds.place ∷ after) = (adds.window_is, adds.lowest, placed) in
          let all_placed = whole (adds.point ∷ later) (adds.place ∷ after) (subst (λ ws. ArePlaced letters ws (adds.point ∷ later) (adds.place ∷ after)) (sym (windows-more most window (length letters) short)) here) in
          let at_points : points' ++ later ≡ points ++ adds.point ∷ later = ap (λ (ps : List WindowLeast). ps ++ later) adds.added ∙ append_assoc points (adds.point ∷ []) later in
          let at_places : places' ++ after ≡ places ++ adds.place ∷ after = ap (λ (ps : List ℕ). ps ++ after) adds.placed ∙ append_assoc places (adds.place ∷ []) after in
          subst (λ ps. ArePlaced letters all ps (places' ++ after)) (sym at_points) (subst (λ ps. ArePlaced letters all (points ++ adds.point ∷ later) ps) (sym at_places) all_placed);
    }

  pub places_all : (window : ℕ) (points points' : List WindowLeast) (places places' all : List ℕ) → HasPlaces letters window points places all → length letters ≤ window → AddsPlace letters (length letters) points points' places places'
      → ArePlaced letters all points' places'
  places_all window points points' places places' all has long adds =
      let here : ArePlaced letters (length letters ∷ []) (adds.point ∷ []) (adds.place ∷ []) = (adds.window_is, adds.lowest, tt) in
      let all_placed = has.whole (adds.point ∷ []) (adds.place ∷ []) (subst (λ ws. ArePlaced letters ws (adds.point ∷ []) (adds.place ∷ [])) (sym (windows-last has.most window (length letters) long)) here) in
      subst (λ ps. ArePlaced letters all ps places') (sym adds.added) (subst (λ ps. ArePlaced letters all (points ++ adds.point ∷ []) ps) (sym adds.placed) all_placed)

  -- so many points as places
  pub same_length : (windows : List ℕ) (points : List WindowLeast) (places : List ℕ) → ArePlaced letters windows points places → length points ≡ length places
  same_length [] [] [] placed = refl
  same_length [] [] (place ∷ places) placed = absurd placed
  same_length [] (point ∷ points) places placed = absurd placed
  same_length (window ∷ windows) [] places placed = absurd placed
  same_length (window ∷ windows) (point ∷ points) [] placed = absurd placed
  same_length (window ∷ windows) (point ∷ points) (place ∷ places) placed = ap suc (same_length windows points places placed.2)

  -- To the end ---------------------------------------------------------------------------------

  least_of : (window : ℕ) (point : WindowLeast) (place : ℕ) → point.window ≡ window → IsLowest letters window point.least place → HasLeast letters point
  least_of window point place same lowest = subst (λ w. least_mutator w letters ≡ Some point.least) (sym same) (lowest_is_least window letters point.least place lowest)

  -- some point is that of the windows from one on, and no shorter than that window or the whole trace
  some_placed : (most window : ℕ) (places : List ℕ) → ArePlaced letters (windows_from most window (length letters)) [] places → ⊥
  some_placed zero window places placed = placed
  some_placed (suc most) window places placed = by (nat_lt window (length letters)) placed where
    by : (b : Bool) → ArePlaced letters (if b then window ∷ windows_from most (next_window window) (length letters) else length letters ∷ []) [] places → ⊥
    by true placed = placed
    by false placed = placed

  first_placed : (most window : ℕ) (point : WindowLeast) (points : List WindowLeast) (places : List ℕ) → ArePlaced letters (windows_from most window (length letters)) (point ∷ points) places → min window (length letters) ≤ point.window
  first_placed zero window point points [] placed = absurd placed
  first_placed zero window point points (place ∷ places) placed = omega (arith, placed.0)
  first_placed (suc most) window point points [] placed = by (nat_lt window (length letters)) placed where
    by : (b : Bool) → ArePlaced letters (if b then window ∷ windows_from most (next_window window) (length letters) else length letters ∷ []) (point ∷ points) [] → min window (length letters) ≤ point.window
    by true placed = absurd placed
    by false placed = absurd placed
  first_placed (suc most) window point points (place ∷ places) placed = by (nat_lt window (length letters)) placed where
    by : (b : Bool) → ArePlaced letters (if b then window ∷ windows_from most (next_window window) (length letters) else length letters ∷ []) (point ∷ points) (place ∷ places) → min window (length letters) ≤ point.window
    by true placed = omega (arith, placed.0)
    by false placed = omega (arith, placed.0)

  last_goes : (point : WindowLeast) (points : List WindowLeast) (places : List ℕ) → ArePlaced letters (length letters ∷ []) (point ∷ points) places → GoToTheEnd letters (point ∷ points)
  last_goes point points [] placed = absurd placed
  last_goes point (next ∷ points) (place ∷ places) placed = absurd placed.2
  last_goes point [] (place ∷ next ∷ places) placed = absurd placed.2
  last_goes point [] (place ∷ []) placed = (least_of (length letters) point place placed.0 placed.1, placed.0)

  pub goes_on : (most window : ℕ) (points : List WindowLeast) (places : List ℕ) → ArePlaced letters (windows_from most window (length letters)) points places → GoOn letters points
  goes_on most window [] places placed = tt
  goes_on zero window (point ∷ points) places placed = last_goes point points places placed
  goes_on (suc most) window (point ∷ points) places placed = by (goes_on most (next_window window)) (nat_lt window (length letters)) refl points places placed where
    by : ((later : List WindowLeast) (after : List ℕ) → ArePlaced letters (windows_from most (next_window window) (length letters)) later after → GoOn letters later) → (b : Bool) → nat_lt window (length letters) ≡ b
        → (points : List WindowLeast) (places : List ℕ) → ArePlaced letters (if b then window ∷ windows_from most (next_window window) (length letters) else length letters ∷ []) (point ∷ points) places
        → GoToTheEnd letters (point ∷ points)
    by onward true is points [] placed = absurd placed
    by onward true is [] (place ∷ places) placed = absurd (some_placed most (next_window window) places placed.2)
    by onward true is (next ∷ points) (place ∷ places) placed =
        let short : window < length letters = grind (arith, nat_tests) in
        let after = first_placed most (next_window window) next points places placed.2 in
        (least_of window point place placed.0 placed.1, omega (arith, short, after, placed.0), onward (next ∷ points) places placed.2)
    by onward false is points places placed = last_goes point points places placed

  -- the same from any point on
  pub goes_from : (points : List WindowLeast) (i : ℕ) → GoOn letters points → i < length points → GoToTheEnd letters (drop i points)
  goes_from [] i goes there = absurd (omega (arith, there))
  goes_from (point ∷ points) zero goes there = goes
  goes_from (point ∷ []) (suc i) goes there = absurd (omega (arith, there))
  goes_from (point ∷ next ∷ points) (suc i) goes there = goes_from (next ∷ points) i goes.2 (omega (arith, there))

-- what is left of points after some
pub rest_of : (points : List WindowLeast) (i : ℕ) → i ≤ length points → take (length points - i) (drop i points) ≡ drop i points
rest_of points i there = let long : length (drop i points) ≡ length points - i = length-drop i points in take_all (length points - i) (drop i points) (omega (arith, long))

-- Rows -------------------------------------------------------------------------------------------

-- one row more was written
pub rows_more : (round : Option Round) (points : List WindowLeast) (places : List ℕ) (i default : ℕ) (text text' whole : Text) → length points ≡ length places → i < length places
    → text' ≡ text ++ row_text round (drop i points) (get_or places i default) → text ++ rows_text round (drop i points) (drop i places) ≡ whole → text' ++ rows_text round (drop (i + 1) points) (drop (i + 1) places) ≡ whole
rows_more round points places i default text text' whole same there more is = by points places i same there more is where
  split : (points : List WindowLeast) (places : List ℕ) (i : ℕ) → length points ≡ length places → i < length places
      → rows_text round (drop i points) (drop i places) ≡ row_text round (drop i points) (get_or places i default) ++ rows_text round (drop (suc i) points) (drop (suc i) places)
  split points [] i same there = absurd (omega (arith, there))
  split [] (place ∷ places) i same there = absurd (omega (arith, same))
  split (point ∷ points) (place ∷ places) zero same there = refl
  split (point ∷ points) (place ∷ places) (suc i) same there = split points places i (omega (arith, same)) (omega (arith, there))

  by : (points : List WindowLeast) (places : List ℕ) (i : ℕ) → length points ≡ length places → i < length places → text' ≡ text ++ row_text round (drop i points) (get_or places i default)
      → text ++ rows_text round (drop i points) (drop i places) ≡ whole → text' ++ rows_text round (drop (i + 1) points) (drop (i + 1) places) ≡ whole
  by points places i same there more is =
      let row : Text = row_text round (drop i points) (get_or places i default) in
      let rest : Text = rows_text round (drop (suc i) points) (drop (suc i) places) in
      rw add-one (ap (λ (t : Text). t ++ rest) more ∙ (append_assoc text row rest ∙ (ap (λ (t : Text). text ++ t) (sym (split points places i same there)) ∙ is)))
