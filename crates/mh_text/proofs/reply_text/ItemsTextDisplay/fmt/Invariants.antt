use Rattle.std.proofs.Common.{flat_map, take}
use Rattle.std.specs.Fmt.{HasWritten, IsPlainFormatter}
use Rattle.mh_model.specs.Replies.{item_words}
use Rattle.mh_text.specs.ReplyWords.{spaced}
use Rattle.mh_text.proofs.reply_text.ItemsTextDisplay.fmt.Given as goal

abbrev pub invariant-loop-item : goal.invariant-loop-item
invariant-loop-item g l =
    IsPlainFormatter l.initial.f → HasWritten g.W.Write.write_str_gives l.initial.f (spaced (flat_map item_words (take l.item-index l.items))) l.f
