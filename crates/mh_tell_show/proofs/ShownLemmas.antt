-- An event's text that is added piece by piece.
use Rattle.std.proofs.Common.{◌≡◌, ◌∙◌, Bool, if◌then◌else◌, ◌++◌, ◌∷◌, ap, codes, decimal, append_assoc}
use Rattle.mh_model.specs.{declared.history.Measured.Measured, Bytes.{Text, joined}, HistoryTexts.event_words}
use Rattle.mh_model.specs.Replies.{reply_text}
use Rattle.mh_tell_show.specs.{Page.{Shown, ran_text, shown_text}, Rows.{deed_rows_text, listed, root_rows, row_text}}

-- what an event was, up to what it did
abbrev pub measured_text : Bool → Measured → Text
measured_text is_whole measured =
    codes "[\"" ++ (joined (event_words measured.entry.event) ++ (codes "\",\"" ++ (reply_text measured.entry.reply ++ (codes "\"," ++ (decimal measured.mutator ++ codes (if is_whole then ",1," else ",0,"))))))

pieces : (old event reply units mark command roots ran : Text)
    → ((((((old ++ (codes "[\"" ++ (event ++ (codes "\",\"" ++ (reply ++ (codes "\"," ++ (units ++ mark))))))) ++ command) ++ codes ",") ++ roots) ++ codes ",") ++ ran) ++ codes "]"
    ≡ old ++ (codes "[\"" ++ (event ++ (codes "\",\"" ++ (reply ++ (codes "\"," ++ (units ++ (mark ++ (command ++ 44 ∷ (roots ++ 44 ∷ (ran ++ codes "]"))))))))))
pieces old event reply units mark command roots ran = simp append_assoc

-- what was added piece by piece is the event
pub shown_written : (old measured command comma roots comma_after ran new : Text) (is_whole : Bool) (shown : Shown)
    → measured ≡ old ++ measured_text is_whole shown.measured
    → command ≡ measured ++ deed_rows_text is_whole shown.account.command
    → comma ≡ command ++ codes ","
    → roots ≡ comma ++ listed row_text (root_rows 0 shown.before shown.after)
    → comma_after ≡ roots ++ codes ","
    → ran ≡ comma_after ++ ran_text is_whole shown.account.quantum
    → new ≡ ran ++ codes "]"
    → new ≡ old ++ shown_text is_whole shown
shown_written old measured command comma roots comma_after ran new is_whole shown measured_is command_is comma_is roots_are comma_after_is ran_is new_is =
    let roots_shown : Text = listed row_text (root_rows 0 shown.before shown.after) in
    let deeds_shown : Text = deed_rows_text is_whole shown.account.command in
    let ran_shown : Text = ran_text is_whole shown.account.quantum in
    let command_all = command_is ∙ ap (λ (text : Text). text ++ deeds_shown) measured_is in
    let roots_all = roots_are ∙ ap (λ (text : Text). text ++ roots_shown) (comma_is ∙ ap (λ (text : Text). text ++ codes ",") command_all) in
    let ran_all = ran_is ∙ ap (λ (text : Text). text ++ ran_shown) (comma_after_is ∙ ap (λ (text : Text). text ++ codes ",") roots_all) in
    new_is ∙ ap (λ (text : Text). text ++ codes "]") ran_all
    ∙ pieces old (joined (event_words shown.measured.entry.event)) (reply_text shown.measured.entry.reply) (decimal shown.measured.mutator) (codes (if is_whole then ",1," else ",0,")) deeds_shown roots_shown ran_shown
