-- The text of an entry by its parts.
use Rattle.std.proofs.Common.{arith, ◌≡◌, List, [], ◌∷◌, ◌++◌, refl, append_assoc}
use Rattle.std.specs.Prelude.{codes, decimal}
use Rattle.mh_model.specs.{declared.command.Event.Event, declared.reply.Reply.Reply, declared.history.Measured.Measured}
use Rattle.mh_model.specs.{Bytes.{Text, joined, line_text}, Replies.{reply_words, reply_text}}
use Rattle.mh_model.specs.HistoryTexts.{event_words, measured_words, measured_line}
use Rattle.mh_model.proofs.TextLemmas.{joined-append}

-- words of which there is one at least
record Full (words : List Text) : Type 0 where
  pub first : Text
  pub more : List Text
  pub words_are : words ≡ first ∷ more

full_reply : (r : Reply) → Full (reply_words r)
full_reply Reply.Done = record { first = _; more = _; words_are = refl }
full_reply other = record { first = _; more = _; words_are = refl }

full_event : (e : Event) → Full (event_words e)
full_event (Event.Session who command) = record { first = _; more = _; words_are = refl }
full_event (Event.Control control) = record { first = _; more = _; words_are = refl }

joined_full : (words : List Text) (next : Text) (more : List Text) → Full words → joined (words ++ next ∷ more) ≡ joined words ++ 32 ∷ joined (next ∷ more)
joined_full words next more full = rw full.words_are (joined-append full.first full.more next more)

equals_part : (words : List Text) → Full words → joined (codes "=" ∷ words) ≡ 61 ∷ 32 ∷ joined words
equals_part words full = rw full.words_are refl

entry_parts : (e : Event) (r : Reply) (next : Text) (more : List Text)
    → joined ((event_words e ++ codes "=" ∷ reply_words r) ++ next ∷ more) ≡ joined (event_words e) ++ (codes " = " ++ (reply_text r ++ 32 ∷ joined (next ∷ more)))
entry_parts e r next more =
    let full : Full (codes "=" ∷ reply_words r) = record { first = _; more = _; words_are = refl } in
    grind (arith, joined_full, equals_part, full_reply, append_assoc, full_event)

pub measured_parts : (m : Measured)
    → joined (measured_words m)
    ≡ joined (event_words m.entry.event) ++ (codes " = " ++ (reply_text m.entry.reply ++ (codes " units " ++ (decimal m.mutator ++ (codes " " ++ decimal m.collector)))))
measured_parts m = entry_parts m.entry.event m.entry.reply (codes "units") (decimal m.mutator ∷ decimal m.collector ∷ [])

-- what was written part by part is the line
pub measured_written : (text : Text) (m : Measured)
    → ((((((text ++ joined (event_words m.entry.event)) ++ codes " = ") ++ reply_text m.entry.reply) ++ (codes " units " ++ decimal m.mutator)) ++ (codes " " ++ decimal m.collector)) ++ codes "\n")
    ≡ text ++ line_text (measured_line m)
measured_written text m = rw (measured_parts m) (simp append_assoc)
