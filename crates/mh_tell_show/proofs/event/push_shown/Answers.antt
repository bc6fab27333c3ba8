use Rattle.std.proofs.Common.{◌∙◌, ◌++◌, List, ap}
use Rattle.std.specs.String.{string_bytes}
use Rattle.mh_model.specs.declared.deed.Deed.{Deed}
use Rattle.mh_deeds.specs.Accounts.{account_in}
use Rattle.mh_tell_show.specs.Rows.{deed_rows_text}
use Rattle.mh_tell_show.proofs.ShownLemmas.{shown_written}
use Rattle.mh_tell_show.proofs.event.push_shown.Goals as goal

pub returns : goal.returns
returns c =
    let command_is = c.in_ok-push_deeds.ensures ∙ ap (λ (deeds : List Deed). string_bytes c.push_measured.new.text ++ deed_rows_text c.args.is_whole deeds) c.deeds.ensures in
    shown_written _ _ _ _ _ _ _ _ c.args.is_whole (record { measured = c.args.measured.now; account = account_in c.args.account.now; before = c.args.before.now; after = c.args.after.now })
    c.in_ok-push_measured.ensures command_is c.in_ok-push_str.ensures.bytes c.in_ok-push_roots.ensures c.in_ok-push_str-2.ensures.bytes c.in_ok-push_ran.ensures c.in_ok-push_str-3.ensures.bytes
