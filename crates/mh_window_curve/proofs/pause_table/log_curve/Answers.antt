use Rattle.std.proofs.{Common.{◌≡◌, ◌∙◌, ℕ, ap, sym}, lemmas.Result.IfOk-weaker}
use Rattle.mh_model.specs.{Bytes.Text, Trace.{collector_count, mutator_count}}
use Rattle.mh_orders.specs.declared.curve.CurveForm.{CurveForm, TheVariants.Picture}
use Rattle.std.specs.String.{string_bytes}
use Rattle.mh_window_curve.specs.PauseTexts.{IsLogCurve, log_text}
use Rattle.mh_window_curve.proofs.PlaceLemmas.{same_length}
use Rattle.mh_window_curve.proofs.pause_table.log_curve.Goals as goal

pub log_table-requires-clause-places : goal.log_table-requires-clause-places
log_table-requires-clause-places c = same_length _ _ _ _ c.in_ok-placed.ensures.placed

pub returns : goal.returns
returns c =
    let letters = c.args.trace.now.trace.letters in
    let points = c.in_ok-placed.placed.points.items in
    let places = c.in_ok-placed.placed.places.items in
    let pauses = c.pause_counts.result in
    let longest = c.longest_pause-longest.result in
    let f : ℕ → ℕ → CurveForm → Text = λ mutator collector form. log_text form c.args.options.promises.round (record { mutator = mutator; collector = collector; pauses = pauses; greatest = longest.units }) points places in
    let is_curve : (written : Text) → written ≡ f c.mutator_count.result c.collector_count.result Picture → IsLogCurve c.args.options letters written = λ written is. record {
      pauses = pauses;
      longest = longest;
      points = points;
      places = places;
      are_counts = c.pause_counts.ensures.counts;
      is_longest = c.longest_pause-longest.ensures;
      are_placed = c.in_ok-placed.ensures.placed;
      text = is ∙ (ap (λ n. f n c.collector_count.result Picture) c.mutator_count.ensures ∙ (ap (λ n. f (mutator_count letters) n Picture) c.collector_count.ensures
          ∙ ap (f (mutator_count letters) (collector_count letters)) (sym c.in-Picture.is)));
    } in
    IfOk-weaker _ _ _ (λ text. is_curve (string_bytes text)) c.log_picture.ensures
