-- The texts of replies by their words.
use Rattle.std.proofs.{Common.{◌≡◌, List, [], ◌∷◌, ◌++◌, flat_map, ap, sym, append_assoc}, lemmas.List.append-nil}
use Rattle.std.specs.Prelude.{codes}
use Rattle.mh_model.specs.{declared.reply.Reply.Reply, declared.dump.DumpItem.DumpItem, declared.report.Report.Report}
use Rattle.mh_model.specs.{Bytes.{Text, joined}, Replies.{item_words, reply_text}}
use Rattle.mh_text.specs.ReplyWords.{spaced, counts_words, window_words}

-- the first word, and each other with a space before it
pub joined_spaced : (word : Text) (words : List Text) → joined (word ∷ words) ≡ word ++ spaced words
joined_spaced word [] = sym (append-nil word)
joined_spaced word (next ∷ words) = ap (λ (text : Text). word ++ 32 ∷ text) (joined_spaced next words)

pub dump_text : (items : List DumpItem) → reply_text (Reply.Dump items) ≡ codes "dump" ++ spaced (flat_map item_words items)
dump_text items = joined_spaced (codes "dump") (flat_map item_words items)

pub report_parts : (report : Report) → reply_text (Reply.Report report) ≡ joined (counts_words report) ++ (codes " " ++ joined (window_words report))
report_parts report = simp append_assoc
