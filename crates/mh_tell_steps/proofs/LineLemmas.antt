-- Lines that are added to a text piece by piece.
use Rattle.std.proofs.Common.{◌≡◌, ◌∙◌, ℕ, List, ◌∷◌, ◌++◌, refl, ap, codes, decimal, append_assoc}
use Rattle.mh_model.specs.{declared.command.Event.Event, declared.history.Entry.Entry, declared.reply.Reply.Reply}
use Rattle.mh_model.specs.{Bytes.{Text, joined, line_text}, Forms.{command_phrase, control_phrase, phrase_words}}
use Rattle.mh_model.specs.{HistoryTexts.{entry_words, event_words}, Replies.{reply_text, reply_words}}
use Rattle.mh_model.proofs.TextLemmas.{joined-append}
use Rattle.mh_tell_steps.specs.Lines.{quoted}

-- Entries ----------------------------------------------------------------------------------------

-- each reply has a word at least
reply_part : (r : Reply) → joined (codes "=" ∷ reply_words r) ≡ codes "= " ++ reply_text r
reply_part Reply.Done = refl
reply_part other = refl

event_part : (e : Event) (next : Text) (more : List Text) → joined (event_words e ++ next ∷ more) ≡ joined (event_words e) ++ 32 ∷ joined (next ∷ more)
event_part (Event.Session who command) next more = joined-append (115 ∷ decimal who) (phrase_words (command_phrase command)) next more
event_part (Event.Control control) next more = joined-append (codes "*") (phrase_words (control_phrase control)) next more

-- what was added part by part is the number and the entry
pub entry_written : (old : Text) (number : ℕ) (entry : Entry)
    → (((((old ++ decimal number) ++ codes " ") ++ joined (event_words entry.event)) ++ codes " = ") ++ reply_text entry.reply) ++ codes "\n" ≡ old ++ (decimal number ++ 32 ∷ line_text (joined (entry_words entry)))
entry_written old number entry =
    let parts : joined (entry_words entry) ≡ joined (event_words entry.event) ++ (codes " = " ++ reply_text entry.reply) =
    event_part entry.event (codes "=") (reply_words entry.reply) ∙ ap (λ (text : Text). joined (event_words entry.event) ++ 32 ∷ text) (reply_part entry.reply) in
    rw parts (simp append_assoc)

-- Objects ----------------------------------------------------------------------------------------

-- what was added part by part is the object of an entry
pub object_written : (old a b c d e f g h last head event reply at mutator : Text) → a ≡ old ++ head → b ≡ a ++ codes ",\"text\":\"" → c ≡ b ++ event → d ≡ c ++ codes "\",\"reply\":\"" → e ≡ d ++ reply → f ≡ e ++ codes "\""
    → g ≡ f ++ (codes ",\"at\":" ++ at) → h ≡ g ++ (codes ",\"mutator\":" ++ mutator) → last ≡ h ++ codes "}\n"
    → last ≡ old ++ (head ++ (codes ",\"text\":" ++ (quoted event ++ (codes ",\"reply\":" ++ (quoted reply ++ ((codes ",\"at\":" ++ at) ++ ((codes ",\"mutator\":" ++ mutator) ++ codes "}\n")))))))
object_written old a b c d e f g h last head event reply at mutator a_is b_is c_is d_is e_is f_is g_is h_is last_is =
    last_is ∙ rw (h_is, g_is, f_is, e_is, d_is, c_is, b_is, a_is) (simp append_assoc)
