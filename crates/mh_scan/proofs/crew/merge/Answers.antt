use Rattle.std.proofs.Common.{arith, ◌≡◌, ℕ, ◌*◌, List, take, subst, sym, ◌∙◌}
use Rattle.mh_scan.specs.{Asking.AreAnswers, Auxiliary.{piece_at, IsFound}}
use Rattle.mh_scan.proofs.PieceLemmas.{piece-more, all-remove, times_found-still, answers-append}
use Rattle.mh_scan.proofs.crew.merge.Goals as goal

pub loop-piece-preserved : goal.loop-piece-preserved
loop-piece-preserved c =
    let piece : ℕ = c.loop-piece.piece in
    let table = c.args.blocks.now in
    let asks = c.args.asks in
    let batch : List ℕ = c.args.batch.now in
    let found = c.loop-piece.found.items in
    let taken = c.take_piece-taken.result in
    let took = c.take_piece-taken.ensures in
    let loop = c.loop-piece.invariant in
    let fits : IsFound table asks batch taken = subst (IsFound table asks batch) (sym took.3) (loop.found took.0 taken took.1) in
    let here : AreAnswers table asks (piece_at batch piece) taken.answers = subst (λ (number : ℕ). AreAnswers table asks (piece_at batch number) taken.answers) took.2 fits in record {
      found = rw took.4 (all-remove (IsFound table asks batch) found took.0 loop.found);
      whole = λ number later inside. rw took.4 (times_found-still number piece found took.0 taken took.1 took.3 took.2 (omega arith) (loop.whole number (omega arith) inside));
      merged = subst (λ (places : List ℕ). AreAnswers table asks places c.append.new.self) (piece-more batch piece) (answers-append table asks (take (piece * 16) batch) (piece_at batch piece) _ _ _ loop.merged here c.in_ok-append.ensures.lists c.in_ok-append.ensures.settled);
    }
