use Rattle.mh_window_curve.proofs.pause_table.log_picture.Goals as goal

pub returns : goal.returns
returns c = rw (c.as_slice-2.ensures.value, c.in_ok-drawn.ensures, c.as_slice.ensures.value) at c.curve_text.ensures
