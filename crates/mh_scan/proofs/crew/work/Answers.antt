use Rattle.std.proofs.{Common.{rules, ◌≡◌, ℕ, [], ◌∷◌, ◌++◌, List, sym, subst, ap, ◌∙◌}, lemmas.List.Elements.All-push}
use Rattle.mh_scan.specs.{Scanning.AreScannable, Asking.AreAnswers, Auxiliary.{piece_at, IsFound, pieces_of}}
use Rattle.mh_scan.specs.declared.crew.Found.{Found}
use Rattle.mh_scan.proofs.PieceLemmas.{piece-scannable, pieces_of-push}
use Rattle.mh_scan.proofs.crew.work.Goals as goal

pub ask_each-requires : goal.ask_each-requires
ask_each-requires g c = subst (AreScannable c.args.blocks.now) (sym c.piece_of.ensures) (piece-scannable c.args.blocks.now c.args.batch.now c.in-Some.piece c.requires.scannable)

pub loop-piece-preserved : goal.loop-piece-preserved
loop-piece-preserved g c =
    let table = c.args.blocks.now in
    let asks = c.args.asks in
    let batch : List ℕ = c.args.batch.now in
    let piece : ℕ = c.in-Some.piece in
    let before : List Found = c.loop-piece.worker.done.items in
    let one : Found = record { piece = piece; answers = c.in-Ok.answers } in
    let pushed : c.push.new.self.items ≡ before ++ one ∷ [] = c.in-Ok-push.ensures.items in
    let drawn : c.draw.new.seat.drawn ≡ pieces_of before ++ piece ∷ [] = c.in-Some.ensures.drawn.1 ∙ ap (λ (pieces : List ℕ). pieces ++ piece ∷ []) c.loop-piece.invariant.drawn in
    let pieces : pieces_of c.push.new.self.items ≡ pieces_of before ++ piece ∷ [] = ap pieces_of pushed ∙ pieces_of-push before one in record {
      own = search rules;
      going = search rules;
      found = rw pushed (All-push (IsFound table asks batch) before one c.loop-piece.invariant.found (subst (λ (places : List ℕ). AreAnswers table asks places c.in-Ok.answers) {y = piece_at batch piece} c.piece_of.ensures c.in-Ok.ensures));
      drawn = drawn ∙ sym pieces;
      granted = search rules;
    }
