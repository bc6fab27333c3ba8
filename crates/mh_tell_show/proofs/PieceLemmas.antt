-- Texts that are written one after another.
use Rattle.std.proofs.Common.{◌≡◌, ◌∙◌, ℕ, ◌+◌, List, [], ◌∷◌, ◌++◌, take, drop, refl, ap, sym, append-nil, take-append-drop}
use Rattle.std.proofs.lemmas.Grind.{flat_map-append}
use Rattle.std.specs.Borrow.{Bor}
use Rattle.mh_model.specs.Bytes.{Text}
use Rattle.mh_script.proofs.TakenLemmas.{in-all, in-fails, in-more, in-written}
use Rattle.mh_script.specs.Texts.{TakesIn}
use Rattle.mh_text.specs.Devices.{Device, FailsAt, Takes}
use Rattle.mh_tell_show.specs.Auxiliary.{joined_pieces}

joined-append : (front rest : List (Bor Text)) → joined_pieces (front ++ rest) ≡ joined_pieces front ++ joined_pieces rest
joined-append front rest = flat_map-append (λ (piece : Bor Text). piece.now) front rest

-- the first of them were written, and then one more, or a prefix of it
module _ {a b : Device} (pieces : List (Bor Text)) (i : ℕ) (piece : Bor Text) (cut : take (i + 1) pieces ≡ take i pieces ++ piece ∷ []) (before : Takes a b (joined_pieces (take i pieces))) where
  taken : TakesIn a b piece.now (joined_pieces (take (i + 1) pieces))
  taken = in-more (in-written before) piece.now refl (ap joined_pieces cut ∙ (joined-append (take i pieces) (piece ∷ []) ∙ ap (λ (text : Text). joined_pieces (take i pieces) ++ text) (append-nil piece.now)))

  pub pieces-more : {c : Device} → Takes b c piece.now → Takes a c (joined_pieces (take (i + 1) pieces))
  pieces-more takes = in-all taken takes

  pub pieces-fail : {c : Device} → FailsAt b c piece.now → FailsAt a c (joined_pieces pieces)
  pieces-fail failed = in-fails taken (joined_pieces (drop (i + 1) pieces)) (sym (joined-append (take (i + 1) pieces) (drop (i + 1) pieces)) ∙ ap joined_pieces (take-append-drop (i + 1) pieces)) failed
