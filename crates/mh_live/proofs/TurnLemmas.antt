-- Turns one after another.
use Rattle.std.proofs.Common.{◌≡◌, ℕ, suc, ◌+◌, Option, Some, None, List, [], ◌∷◌, ◌++◌, length, refl, sym, subst, append_assoc, arith}
use Rattle.std.proofs.lemmas.List.{append-nil}
use Rattle.std.specs.Option.{option_to_list}
use Rattle.mh_model.specs.{Bytes.Text, Live.{Live, Turn, IsTurn, AreTurns}}
use Rattle.mh_reasons.specs.declared.reason.LineReason.{LineReason}
use Rattle.mh_script.specs.declared.end.LineRefusal.{LineRefusal}
use Rattle.mh_live.specs.{Heard.{AreHeard, Ended, IsHeard, IsWhy, Turned}, Auxiliary.{HeardRefusal, refusal_of}}
use Rattle.mh_model.specs.Live as model

-- what is heard of lines in turn are turns
pub are_turns : {n : ℕ} {live : Live} {lines : List Text} {refusals : List LineRefusal} {answers : Text} {after : Live} → AreHeard n live lines refusals answers after → AreTurns n live lines answers after
are_turns (Ended n live) = model.Ended n live
are_turns (Turned n live line lines first heard refusals text after is why rest) = model.Turned n live line lines first text after is (are_turns rest)

-- a change of what is heard and answered, in other words
same_heard : {n : ℕ} {live : Live} {lines : List Text} {refusals refusals' : List LineRefusal} {answers answers' : Text} {after : Live} → refusals ≡ refusals' → answers ≡ answers' → AreHeard n live lines refusals answers after → AreHeard n live lines refusals' answers' after
same_heard {n = n} {live = live} {lines = lines} {refusals' = refusals'} {answers = answers} {after = after} told said are =
    subst (λ text. AreHeard n live lines refusals' text after) said (subst (λ list. AreHeard n live lines list answers after) told are)

-- lines and then one more
pub one_more : (n : ℕ) (live : Live) (lines : List Text) (refusals : List LineRefusal) (answers : Text) (mid : Live) (number : ℕ) (line : Text) (turn : Turn) (heard : Option LineRefusal) → AreHeard n live lines refusals answers mid → number ≡ n + length lines
    → IsTurn number mid line turn → IsHeard number mid line heard → AreHeard n live (lines ++ line ∷ []) (refusals ++ option_to_list heard) (answers ++ turn.text) turn.live
one_more n live _ _ _ mid number line turn heard (Ended _ _) numbered is why =
    let same : number ≡ n = omega (arith, numbered) in
    let last : IsTurn n live line turn = subst (λ k. IsTurn k live line turn) same is in
    let told : IsHeard n live line heard = subst (λ k. IsHeard k live line heard) same why in
    same_heard (append-nil (option_to_list heard)) (append-nil turn.text) (Turned n live line [] turn heard [] [] turn.live last told (Ended (suc n) turn.live))
one_more n live _ _ _ mid number line turn heard (Turned _ _ first lines head head_heard refusals text after is_first first_why rest) numbered is why =
    let same : number ≡ suc n + length lines = omega (arith, numbered) in
    let more : AreHeard (suc n) head.live (lines ++ line ∷ []) (refusals ++ option_to_list heard) (text ++ turn.text) turn.live = one_more (suc n) head.live lines refusals text mid number line turn heard rest same is why in
    same_heard (sym (append_assoc (option_to_list head_heard) refusals (option_to_list heard))) (sym (append_assoc head.text text turn.text))
    (Turned n live first (lines ++ line ∷ []) head head_heard (refusals ++ option_to_list heard) (text ++ turn.text) turn.live is_first first_why more)

-- why a line is refused, with its number
pub heard_why : (n : ℕ) (live : Live) (line : Text) (why : Option LineReason) → IsWhy live line why → IsHeard n live line (refusal_of n why)
heard_why n live line None right = right
heard_why n live line (Some reason) is = (refl, (reason, refl, is.0, is.1))

-- What a listener heard, after one refusal more or none
module _ {X : Type 0} (hears : X → List LineRefusal → X → Type 0) (onward : (first mid last : X) (before : List LineRefusal) (refusal : LineRefusal) → hears first before mid → hears mid (refusal ∷ []) last → hears first (before ++ refusal ∷ []) last) where
  pub heard_more : (first mid last : X) (before : List LineRefusal) (heard : Option LineRefusal) → hears first before mid → HeardRefusal hears mid heard last → hears first (before ++ option_to_list heard) last
  heard_more first mid last before None has same = subst (λ refusals. hears first refusals last) (sym (append-nil before)) (subst (λ x. hears first before x) (sym same) has)
  heard_more first mid last before (Some refusal) has told = onward first mid last before refusal has told
