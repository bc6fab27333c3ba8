-- The reply that the outcome of a call stands for.
use Rattle.std.specs.Prelude.{ℕ, Bool, Result, Ok, Err}
use Rattle.mh_model.specs.{World.yes_or_no, declared.shape.Shape.Shape, declared.reply.Refusal.Refusal}
use Rattle.mh_model.specs.declared.reply.Reply.{Reply}

-- the reply that the result of a call is: done, a number, yes or no, or a shape, and else its refusal
abbrev pub done_or : Result Unit Refusal → Reply
done_or (Ok nothing) = Reply.Done
done_or (Err refusal) = Reply.Refused refusal

abbrev pub number_or : Result ℕ Refusal → Reply
number_or (Ok number) = Reply.Number number
number_or (Err refusal) = Reply.Refused refusal

abbrev pub same_or : Result Bool Refusal → Reply
same_or (Ok answer) = yes_or_no answer
same_or (Err refusal) = Reply.Refused refusal

abbrev pub shape_or : Result Shape Refusal → Reply
shape_or (Ok shape) = Reply.Shape shape
shape_or (Err refusal) = Reply.Refused refusal
