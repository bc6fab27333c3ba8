-- A text by lines that is taken in line by line.
use Rattle.std.proofs.Common.{◌≡◌, ◌∙◌, ℕ, ◌+◌, ◌≤◌, List, [], ◌∷◌, ◌++◌, length, take, drop, refl, ap, sym, append-nil, append_assoc, take-append-drop}
use Rattle.std.proofs.lemmas.List.{take_all}
use Rattle.mh_model.specs.Bytes.{Text}
use Rattle.mh_text.specs.Devices.{Device, FailsAt, Takes, TakesSome}
use Rattle.mh_script.specs.{Lines.{Told, lines_from, state_after, text_by_lines}, Texts.TakesIn}
use Rattle.mh_script.proofs.TakenLemmas.{in-all, in-fails, in-more, in-some, in-trans, in-waiting}

-- the first i elements were done, and their lines taken in after the head
pub record IsTold {S X : Type 0} (told : Told S X) (head : Text) (first : S) (xs : List X) (i : ℕ) (state : S) (old new : Device) (buffer : Text) : Type 0 where
  pub state_is : state ≡ state_after told first (take i xs)
  pub taken : TakesIn old new buffer (head ++ lines_from told first (take i xs))

module _ {S X : Type 0} (told : Told S X) where
  pub state_append : (first : S) (xs ys : List X) → state_after told first (xs ++ ys) ≡ state_after told (state_after told first xs) ys
  state_append first [] ys = refl
  state_append first (x ∷ xs) ys = state_append (told.next first x) xs ys

  pub lines_append : (first : S) (xs ys : List X) → lines_from told first (xs ++ ys) ≡ lines_from told first xs ++ lines_from told (state_after told first xs) ys
  lines_append first [] ys = refl
  lines_append first (x ∷ xs) ys =
      ap (λ (text : Text). told.line first x ++ text) (lines_append (told.next first x) xs ys)
      ∙ sym (append_assoc (told.line first x) (lines_from told (told.next first x) xs) (lines_from told (state_after told (told.next first x) xs) ys))

  -- the sink failed at the head
  pub head-fails : (head : Text) (first : S) (xs : List X) {whole : Text} → text_by_lines told head first xs ≡ whole → {old new : Device} → FailsAt old new head → FailsAt old new whole
  head-fails head first xs is failed = in-fails (in-waiting _ refl) (lines_from told first xs ++ told.last (state_after told first xs)) (sym (append_assoc head _ _) ∙ is) failed

module _ {S X : Type 0} {told : Told S X} {head : Text} {first : S} where
  -- nothing was done, and the head was taken in
  pub told-none : {xs : List X} {state : S} {old new : Device} {buffer : Text} → state ≡ first → TakesIn old new buffer head → IsTold told head first xs 0 state old new buffer
  told-none state_is taken = record { state_is = state_is; taken = in-more taken [] (sym (append-nil _)) refl }

  module _ {xs : List X} {i : ℕ} {state : S} {old new : Device} {buffer : Text} (has : IsTold told head first xs i state old new buffer) where
    -- an element more
    pub told-more : (x : X) {state' : S} {longer : Text} → take (i + 1) xs ≡ take i xs ++ x ∷ [] → state' ≡ told.next state x → longer ≡ buffer ++ told.line state x → IsTold told head first xs (i + 1) state' old new longer
    told-more x {state'} {longer} cut state_is longer_is =
        let before = take i xs in
        let at = state_after told first before in
        let lines : lines_from told first (take (i + 1) xs) ≡ lines_from told first before ++ told.line state x =
        ap (lines_from told first) cut ∙ (lines_append told first before (x ∷ []) ∙ (ap (λ (text : Text). lines_from told first before ++ text) (append-nil (told.line at x)) ∙ ap (λ (s : S). lines_from told first before ++ told.line s x) (sym has.state_is))) in
        record {
          state_is = state_is ∙ (ap (λ (s : S). told.next s x) has.state_is ∙ (sym (state_append told first before (x ∷ [])) ∙ ap (state_after told first) (sym cut)));
          taken = in-more has.taken (told.line state x) longer_is (ap (λ (text : Text). head ++ text) lines ∙ sym (append_assoc head (lines_from told first before) (told.line state x)));
        }

    -- what waited was taken in
    pub told-on : {now : Device} {rest : Text} → TakesIn new now rest buffer → IsTold told head first xs i state old now rest
    told-on taken = record { state_is = has.state_is; taken = in-trans has.taken taken }

    pub told-state : length xs ≤ i → state ≡ state_after told first xs
    told-state end = has.state_is ∙ ap (state_after told first) (take_all i xs end)

    module _ {whole : Text} (is : text_by_lines told head first xs ≡ whole) where
      -- the text of the first elements begins the whole
      begins : (more : Text) × ((head ++ lines_from told first (take i xs)) ++ more ≡ whole)
      begins =
          let at = state_after told first (take i xs) in
          let later = lines_from told at (drop i xs) in
          let last = told.last (state_after told first xs) in
          let all : head ++ lines_from told first xs ≡ (head ++ lines_from told first (take i xs)) ++ later =
          ap (λ (ys : List X). head ++ lines_from told first ys) (sym (take-append-drop i xs)) ∙ (ap (λ (text : Text). head ++ text) (lines_append told first (take i xs) (drop i xs)) ∙ sym (append_assoc head (lines_from told first (take i xs)) later)) in
          (later ++ last, sym (append_assoc (head ++ lines_from told first (take i xs)) later last) ∙ (ap (λ (text : Text). text ++ last) (sym all) ∙ is))

      -- memory was refused for the next line
      pub told-stops : TakesSome old new whole
      told-stops = in-some has.taken begins.0 begins.1

      -- the sink failed at what waits
      pub told-fails : {now : Device} → FailsAt new now buffer → FailsAt old now whole
      told-fails failed = in-fails has.taken begins.0 begins.1 failed

      -- the last part waits too
      module _ (end : length xs ≤ i) {longer : Text} (longer_is : longer ≡ buffer ++ told.last state) where
        waits : TakesIn old new longer whole
        waits = in-more has.taken (told.last state) longer_is
            (sym (ap (λ (ys : List X). (head ++ lines_from told first ys) ++ told.last state) (take_all i xs end) ∙ (ap (λ (s : S). (head ++ lines_from told first xs) ++ told.last s) (told-state end) ∙ is)))

        pub told-unfinished : {now : Device} → FailsAt new now longer → FailsAt old now whole
        told-unfinished failed = in-fails waits [] (append-nil whole) failed

        pub told-all : {now : Device} → Takes new now longer → Takes old now whole
        told-all takes = in-all waits takes
