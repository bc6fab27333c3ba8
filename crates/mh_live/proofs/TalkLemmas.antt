-- What a client has sent after more was read, and that all of its whole lines are answered.
use Rattle.std.proofs.Common.{◌≡◌, ◌∙◌, Option, None, Some, List, [], ◌++◌, append_assoc, ap, refl, sym, subst}
use Rattle.std.proofs.lemmas.List.{append-nil}
use Rattle.mh_model.specs.{Bytes.Text, Live.Live}
use Rattle.mh_script.specs.declared.end.LineRefusal.{LineRefusal}
use Rattle.mh_live.specs.{Auxiliary.IsFed, Talks.{Talk, IsPrompt, IsSilent, Sends}, declared.feed.Feed.Feed}
use Rattle.mh_live.proofs.TurnLemmas.{are_turns}

-- a client that sent this text
abbrev with_sent : Talk → Text → Option Talk
with_sent talk text = Some (record { opened = talk.opened; sent = text; before = talk.before })

pub sends_none : (talk : Option Talk) → Sends talk talk []
sends_none None = refl
sends_none (Some talk) = ap (with_sent talk) (sym (append-nil talk.sent))

pub sends_more : (first mid last : Option Talk) (text more : Text) → Sends first mid text → Sends mid last more → Sends first last (text ++ more)
sends_more None mid last text more before after = subst (λ t. Sends t last more) before after
sends_more (Some talk) mid last text more before after =
    let last_is : Sends (with_sent talk (talk.sent ++ text)) last more = subst (λ t. Sends t last more) before after in
    last_is ∙ ap (with_sent talk) (append_assoc talk.sent text more)

pub prompt_fed : (opened : Live) (Hears : List LineRefusal → Type 0) (first talk : Option Talk) (text : Text) (start written : Option Text) (feed : Feed) → IsSilent first opened start → Sends first talk text → IsFed opened Hears text start written feed → IsPrompt talk written
prompt_fed opened Hears None talk text start written feed silent sent fed = subst (λ t. IsPrompt t written) (sym sent) tt
prompt_fed opened Hears (Some first) talk text start written feed silent sent fed =
    let is : talk ≡ Some (record { opened = opened; sent = text; before = start }) = sent ∙ ap (λ (t : Talk). with_sent t (t.sent ++ text)) silent in
    subst (λ t. IsPrompt t written) (sym is) (fed.answers, feed.live, are_turns fed.turns, fed.wrote)
