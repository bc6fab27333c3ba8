-- What has been answered and told after one line more, and after bytes that end no line.
use Rattle.std.proofs.Common.{◌≡◌, ◌<◌, ◌∙◌, ℕ, suc, List, [], ◌∷◌, ◌++◌, Option, length, length-append, take, ap, refl, sym, subst, append_assoc, arith}
use Rattle.std.proofs.{lemmas.List.append-nil, KnownBytes.{Appends-nil, Appends-trans, Consumes-trans}}
use Rattle.std.specs.{Io.KnownBytes.{Appends, Consumes, IsAtEnd}, Option.option_to_list, Prelude.{Err, IsErrOf}}
use Rattle.mh_model.specs.{Bytes.{Text, Cut, cut_after}, Live.{Live, Turn, IsTurn, IsLive, Taken, turn, unended_text}}
use Rattle.mh_text.specs.Devices.{AppendsBeginning}
use Rattle.mh_reasons.specs.declared.reason.LineReason.{LineReason}
use Rattle.mh_script.specs.{declared.end.LineRefusal.LineRefusal, declared.fault.ScriptFault.ScriptFault}
use Rattle.mh_script.specs.declared.fault.ScriptFault.TheVariants.{Read, Write, NoMemory}
use Rattle.mh_script.specs.{declared.fault.WriteError.WriteError, Texts.IsWriteFault}
use Rattle.mh_live.specs.declared.feed.Feed.{Feed}
use Rattle.mh_live.specs.Feeding.{AnswersAll, AnswersFront, AnswersSome, AnswersWhole, BeginsAnswer, MayEndWith}
use Rattle.mh_live.specs.Auxiliary.{HasAnswered, IsFed, MayBegin, TakesTurn, TurnsPartly, WritesPrefix, HeardRefusal, refusal_of}
use Rattle.mh_live.specs.Heard.{AreHeard, Ended, IsHeard, IsLiveHeard, IsWhy, unended_refusal}
use Rattle.mh_live.proofs.CutLemmas.{EndsNoLine, cut_line, cut_rest, front_line, front_of, line_cut}
use Rattle.mh_live.proofs.TurnLemmas.{are_turns, heard_more, heard_why, one_more}

-- One answer -------------------------------------------------------------------------------------

may_begin_none : (error : WriteError) → MayBegin error []
may_begin_none WriteError.Device = tt
may_begin_none WriteError.NoMemory = refl

-- nothing of it was written
pub none_written : (text : Text) (written : Option Text) (error : WriteError) → WritesPrefix text written written error
none_written text written error = ([], text, refl, Appends-nil written, may_begin_none error)

-- the sink failed at it
pub part_written : (text : Text) (old new : Option Text) (error : WriteError) → error ≡ WriteError.Device → AppendsBeginning old new text → WritesPrefix text old new error
part_written text old new error is part = (part.0, part.1, part.2, part.3, rw is tt)

pub no_part : (feed : Feed) (written : Option Text) (error : WriteError) → TurnsPartly feed written written error
no_part feed written error = record {
  turn = turn feed.number feed.live feed.begun.items;
  is = Taken;
  wrote = none_written (turn feed.number feed.live feed.begun.items).text written error;
}

pub turns_partly : (old : Feed) (written written' : Option Text) (error : WriteError) (line answer : Text) (live : Live) → line ≡ old.begun.items → IsTurn old.number old.live line (record { text = answer; live = live }) → WritesPrefix answer written written' error
    → TurnsPartly old written written' error
turns_partly old written written' error line answer live same is part = record { turn = record { text = answer; live = live }; is = rw same at is; wrote = part }

-- the turn of a line that was answered, with why it is refused
pub takes_turn : (Told : Option LineRefusal → Type 0) (old new : Feed) (written written' : Option Text) (line answer : Text) (live : Live) (why : Option LineReason) → line ≡ old.begun.items → IsTurn old.number old.live line (record { text = answer; live = live })
    → IsWhy old.live line why → Told (refusal_of old.number why) → new.live ≡ live → new.number ≡ suc old.number → new.begun.items ≡ [] → Appends written written' answer → TakesTurn Told old new written written'
takes_turn Told old new written written' line answer live why same is is_why told after number begun wrote = record {
  turn = record { text = answer; live = live };
  is = rw same at is;
  heard = refusal_of old.number why;
  why = heard_why old.number old.live old.begun.items why (rw same at is_why);
  told = told;
  live = after;
  number = number;
  begun = begun;
  wrote = wrote;
}

begins_none : (n : ℕ) (live : Live) (lines : List Text) (rest : Text) → BeginsAnswer n live lines rest []
begins_none n live [] rest = (unended_text n rest, refl)
begins_none n live (line ∷ lines) rest = (turn n live line, Taken, ((turn n live line).text, refl))

-- Bytes, and how a source ends -------------------------------------------------------------------

-- a line that was taken of what is left
pub taken_line : (bytes taken rest piece next : Text) → bytes ≡ taken ++ rest → rest ≡ piece ++ 10 ∷ next → bytes ≡ (taken ++ (piece ++ 10 ∷ [])) ++ next
taken_line bytes taken rest piece next is left = is ∙ ap (λ t. taken ++ t) (left ∙ sym (append_assoc piece (10 ∷ []) next)) ∙ sym (append_assoc taken (piece ++ 10 ∷ []) next)

-- what a write error leaves of an answer, its fault does too
may_end : (error : WriteError) (fault : ScriptFault) (begun : Text) → IsWriteFault error fault → MayBegin error begun → MayEndWith fault begun
may_end WriteError.Device fault begun is may = rw is tt
may_end WriteError.NoMemory fault begun is may = rw is may

-- a write error is no failed read
pub no_read : (error : WriteError) (fault : ScriptFault) → IsWriteFault error fault → IsErrOf {T = Unit {0}} (Err fault) Read → ⊥
no_read WriteError.Device fault is read = let told : Write ≡ Read = cc in cc
no_read WriteError.NoMemory fault is read = let told : NoMemory ≡ Read = cc in cc

-- the source has lost these bytes, and then no more
pub read_ended : (source mid source' : Option Text) (text more : Text) (count : ℕ) → Consumes source mid text → Consumes mid source' (take count more) → count ≡ 0 → Consumes source source' text
read_ended source mid source' text more count before last none =
    let all : Consumes source source' (text ++ take 0 more) = Consumes-trans source mid source' text (take 0 more) before (rw none at last) in
    subst (Consumes source source') (append-nil text) all

-- For a run that stood there before its first line
module _ {opened : Live} where
  -- After a line, and after bytes that end none ---------------------------------------------------

  answered_by : (Hears : List LineRefusal → Type 0) (text : Text) (first new : Option Text) (number : ℕ) (live : Live) (begun : Text) (cut : Cut) (answers : Text) (refusals : List LineRefusal) → cut_after 10 text ≡ cut → AreHeard 1 opened cut.pieces refusals answers live
      → number ≡ suc (length cut.pieces) → cut.rest ≡ begun → Appends first new answers → Hears refusals → HasAnswered opened Hears text first new number live begun
  answered_by Hears text first new number live begun cut answers refusals is turns numbered kept wrote heard = record {
    answers = answers;
    refusals = refusals;
    turns = subst (λ c. AreHeard 1 opened c.pieces refusals answers live) (sym is) turns;
    numbered = numbered ∙ ap (λ c. suc (length c.pieces)) (sym is);
    kept = ap (λ c. c.rest) is ∙ kept;
    wrote = wrote;
    heard = heard;
  }

  module _ (Hears : List LineRefusal → Type 0) (text : Text) (first old : Option Text) (number : ℕ) (live : Live) (begun : Text) (has : HasAnswered opened Hears text first old number live begun) where
    -- the turns with that of the line that ends now
    line_turns : (piece : Text) (turn : Turn) (heard : Option LineRefusal) → IsTurn number live (begun ++ piece) turn → IsHeard number live (begun ++ piece) heard
        → AreHeard 1 opened (line_cut text piece).pieces (has.refusals ++ option_to_list heard) (has.answers ++ turn.text) turn.live
    line_turns piece turn heard is why =
        let line : IsTurn number live ((cut_after 10 text).rest ++ piece) turn = subst (λ b. IsTurn number live (b ++ piece) turn) (sym has.kept) is in
        let told : IsHeard number live ((cut_after 10 text).rest ++ piece) heard = subst (λ (b : Text). IsHeard number live (b ++ piece) heard) (sym has.kept) why in
        one_more 1 opened (cut_after 10 text).pieces has.refusals has.answers live number ((cut_after 10 text).rest ++ piece) turn heard has.turns (omega (arith, has.numbered)) line told

    pub after_line : (Hears' : List LineRefusal → Type 0) (piece : Text) (turn : Turn) (heard : Option LineRefusal) (new : Option Text) → EndsNoLine piece → IsTurn number live (begun ++ piece) turn → IsHeard number live (begun ++ piece) heard
        → Appends old new turn.text → Hears' (has.refusals ++ option_to_list heard) → HasAnswered opened Hears' (text ++ (piece ++ 10 ∷ [])) first new (suc number) turn.live []
    after_line Hears' piece turn heard new plain is why wrote told =
        answered_by Hears' (text ++ (piece ++ 10 ∷ [])) first new (suc number) turn.live [] (line_cut text piece) (has.answers ++ turn.text) (has.refusals ++ option_to_list heard) (cut_line text piece plain) (line_turns piece turn heard is why)
        (let count = length-append (cut_after 10 text).pieces (((cut_after 10 text).rest ++ piece) ∷ []) in omega (arith, has.numbered, count))
        refl (Appends-trans first old new has.answers turn.text has.wrote wrote) told

    pub after_rest : (more : Text) → EndsNoLine more → HasAnswered opened Hears (text ++ more) first old number live (begun ++ more)
    after_rest more plain =
        answered_by Hears (text ++ more) first old number live (begun ++ more) _ has.answers has.refusals (cut_rest text more plain) has.turns has.numbered (ap (λ b. b ++ more) has.kept) has.wrote has.heard

    -- what was answered is some of what a longer text is answered
    pub some_of_more : (May : Text → Type 0) (more : Text) → May [] → AnswersSome opened Hears May (text ++ more) first old
    some_of_more May more may =
        let front = front_of text more in
        record {
          lines = (cut_after 10 text).pieces;
          later = front.later;
          parts = front.parts;
          answers = has.answers;
          refusals = has.refusals;
          after = live;
          turns = has.turns;
          begun = [];
          begins = begins_none _ live front.later (cut_after 10 (text ++ more)).rest;
          may = may;
          wrote = subst (λ t. Appends first old t) (sym (append-nil has.answers)) has.wrote;
          heard = has.heard;
        }

    pub some_of_line : (error : WriteError) (piece next : Text) (turn : Turn) (new : Option Text) → EndsNoLine piece → IsTurn number live (begun ++ piece) turn → WritesPrefix turn.text old new error
        → AnswersSome opened Hears (MayBegin error) (text ++ (piece ++ 10 ∷ next)) first new
    some_of_line error piece next turn new plain is part =
        let front = front_line text piece next plain in
        let numbered : IsTurn (suc (length (cut_after 10 text).pieces)) live (begun ++ piece) turn = subst (λ n. IsTurn n live (begun ++ piece) turn) has.numbered is in
        let line : IsTurn (suc (length (cut_after 10 text).pieces)) live ((cut_after 10 text).rest ++ piece) turn = subst (λ (b : Text). IsTurn (suc (length (cut_after 10 text).pieces)) live (b ++ piece) turn) (sym has.kept) numbered in
        record {
          lines = (cut_after 10 text).pieces;
          later = ((cut_after 10 text).rest ++ piece) ∷ front.later;
          parts = front.parts ∙ append_assoc (cut_after 10 text).pieces (((cut_after 10 text).rest ++ piece) ∷ []) front.later;
          answers = has.answers;
          refusals = has.refusals;
          after = live;
          turns = has.turns;
          begun = part.0;
          begins = (turn, line, (part.1, part.2));
          may = part.4;
          wrote = Appends-trans first old new has.answers part.0 has.wrote part.3;
          heard = has.heard;
        }

  -- Bytes that come -------------------------------------------------------------------------------

  -- no byte came yet
  pub fed_none : (Hears : List LineRefusal → Type 0) (written : Option Text) (feed : Feed) → feed.live ≡ opened → feed.number ≡ 1 → feed.begun.items ≡ [] → Hears [] → IsFed opened Hears [] written written feed
  fed_none Hears written feed waits first none heard = rw (waits, first, none) (record { answers = []; refusals = []; turns = Ended 1 opened; numbered = refl; kept = refl; wrote = Appends-nil written; heard = heard })

  -- what was taken of the bytes was answered, and no more
  pub some_stopped : (Hears : List LineRefusal → Type 0) (May : Text → Type 0) (text : Text) (first written : Option Text) (feed : Feed) (bytes taken rest : Text) → May [] → bytes ≡ taken ++ rest → IsFed opened Hears (text ++ taken) first written feed
      → AnswersSome opened Hears May (text ++ bytes) first written
  some_stopped Hears May text first written feed bytes taken rest may is fed =
      subst (λ t. AnswersSome opened Hears May t first written) (append_assoc text taken rest ∙ ap (λ t. text ++ t) (sym is)) (some_of_more Hears (text ++ taken) first written feed.number feed.live feed.begun.items fed May rest may)

  -- the same, and a prefix of the answer to the next line was written
  pub some_in_line : (Hears : List LineRefusal → Type 0) (error : WriteError) (text : Text) (first old new : Option Text) (feed mid : Feed) (bytes taken rest piece next : Text) → bytes ≡ taken ++ rest → rest ≡ piece ++ 10 ∷ next → EndsNoLine piece
      → IsFed opened Hears (text ++ taken) first old feed → mid.number ≡ feed.number → mid.live ≡ feed.live → mid.begun.items ≡ feed.begun.items ++ piece → TurnsPartly mid old new error → AnswersSome opened Hears (MayBegin error) (text ++ bytes) first new
  some_in_line Hears error text first old new feed mid bytes taken rest piece next is left plain fed number live begun part =
      let turn : IsTurn feed.number feed.live (feed.begun.items ++ piece) part.turn = rw (sym number, sym live, sym begun) part.is in
      let whole = append_assoc text taken (piece ++ 10 ∷ next) ∙ ap (λ t. text ++ (taken ++ t)) (sym left) ∙ ap (λ t. text ++ t) (sym is) in
      subst (λ t. AnswersSome opened Hears (MayBegin error) t first new) whole (some_of_line Hears (text ++ taken) first old feed.number feed.live feed.begun.items fed error piece next part.turn new plain turn part.wrote)

  module _ {X : Type 0} (hears : X → List LineRefusal → X → Type 0) (onward : (first mid last : X) (before : List LineRefusal) (refusal : LineRefusal) → hears first before mid → hears mid (refusal ∷ []) last → hears first (before ++ refusal ∷ []) last) where
    -- nothing was told
    pub fed_untold : (start listener listener' : X) (text : Text) (first written : Option Text) (feed : Feed) → listener' ≡ listener → IsFed opened (λ refusals. hears start refusals listener) text first written feed → IsFed opened (λ refusals. hears start refusals listener') text first written feed
    fed_untold start listener listener' text first written feed same fed = subst (λ x. IsFed opened (λ refusals. hears start refusals x) text first written feed) (sym same) fed

    -- the next line was answered too, and told if it is refused
    pub fed_line : (start listener listener' : X) (text : Text) (first old new : Option Text) (feed mid after : Feed) (taken piece : Text) → EndsNoLine piece → IsFed opened (λ refusals. hears start refusals listener) (text ++ taken) first old feed → mid.number ≡ feed.number
        → mid.live ≡ feed.live → mid.begun.items ≡ feed.begun.items ++ piece → TakesTurn (λ heard. HeardRefusal hears listener heard listener') mid after old new → IsFed opened (λ refusals. hears start refusals listener') (text ++ (taken ++ (piece ++ 10 ∷ []))) first new after
    fed_line start listener listener' text first old new feed mid after taken piece plain fed number live begun takes =
        let turn : IsTurn feed.number feed.live (feed.begun.items ++ piece) takes.turn = rw (sym number, sym live, sym begun) takes.is in
        let why : IsHeard feed.number feed.live (feed.begun.items ++ piece) takes.heard = rw (sym number, sym live, sym begun) takes.why in
        let told : hears start (fed.refusals ++ option_to_list takes.heard) listener' = heard_more hears onward start listener listener' fed.refusals takes.heard fed.heard takes.told in
        let all = after_line (λ refusals. hears start refusals listener) (text ++ taken) first old feed.number feed.live feed.begun.items fed (λ refusals. hears start refusals listener') piece takes.turn takes.heard new plain turn why takes.wrote told in
        rw (takes.number, takes.live, takes.begun, number) (subst (λ t. HasAnswered opened (λ refusals. hears start refusals listener') t first new (suc feed.number) takes.turn.live []) (append_assoc text taken (piece ++ 10 ∷ [])) all)

  -- what follows the last line is kept
  pub fed_rest : (Hears : List LineRefusal → Type 0) (text : Text) (first written : Option Text) (feed : Feed) (bytes taken rest begun : Text) → bytes ≡ taken ++ rest → EndsNoLine rest → IsFed opened Hears (text ++ taken) first written feed → begun ≡ feed.begun.items ++ rest
      → HasAnswered opened Hears (text ++ bytes) first written feed.number feed.live begun
  fed_rest Hears text first written feed bytes taken rest begun is plain fed same =
      let all = after_rest Hears (text ++ taken) first written feed.number feed.live feed.begun.items fed rest plain in
      let whole = append_assoc text taken rest ∙ ap (λ t. text ++ t) (sym is) in
      rw same (subst (λ t. HasAnswered opened Hears t first written feed.number feed.live (feed.begun.items ++ rest)) whole all)

  -- To the end of a source ------------------------------------------------------------------------

  -- a line that has begun came of some bytes
  pub fed_some : (Hears : List LineRefusal → Type 0) (text : Text) (first written : Option Text) (number : ℕ) (live : Live) (begun : Text) → HasAnswered opened Hears text first written number live begun → 0 < length begun → 0 < length text
  fed_some Hears [] first written number live begun has some = absurd (omega (arith, some, ap length has.kept))
  fed_some Hears (byte ∷ text) first written number live begun has some = omega arith

  pub front_of_fed : (Hears : List LineRefusal → Type 0) (fault : ScriptFault) (source source' first written : Option Text) (text : Text) (feed : Feed) → MayEndWith fault [] → Consumes source source' text → IsFed opened Hears text first written feed
      → AnswersFront opened Hears source source' first written fault
  front_of_fed Hears fault source source' first written text feed may read has = record {
    text = text;
    read = read;
    some = subst (λ t. AnswersSome opened Hears (MayEndWith fault) t first written) (append-nil text) (some_of_more Hears text first written feed.number feed.live feed.begun.items has (MayEndWith fault) [] may);
  }

  -- all whole lines of what was read were answered
  pub whole_of_fed : (Hears : List LineRefusal → Type 0) (source source' first written : Option Text) (text : Text) (feed : Feed) → Consumes source source' text → IsFed opened Hears text first written feed → AnswersWhole opened Hears source source' first written
  whole_of_fed Hears source source' first written text feed read has = record { text = text; read = read; answers = has.answers; refusals = has.refusals; after = feed.live; turns = has.turns; wrote = has.wrote; heard = has.heard }

  pub front_of_some : (Hears : List LineRefusal → Type 0) (error : WriteError) (fault : ScriptFault) (source mid source' first written : Option Text) (text more : Text) → IsWriteFault error fault → Consumes source mid text → Consumes mid source' more
      → AnswersSome opened Hears (MayBegin error) (text ++ more) first written → AnswersFront opened Hears source source' first written fault
  front_of_some Hears error fault source mid source' first written text more is before last some = record {
    text = text ++ more;
    read = Consumes-trans source mid source' text more before last;
    some = record {
      lines = some.lines;
      later = some.later;
      parts = some.parts;
      answers = some.answers;
      refusals = some.refusals;
      after = some.after;
      turns = some.turns;
      begun = some.begun;
      begins = some.begins;
      may = may_end error fault some.begun is some.may;
      wrote = some.wrote;
      heard = some.heard;
    };
  }

  module _ (Hears : List LineRefusal → Type 0) (source mid source' first old new : Option Text) (text more : Text) (count : ℕ) (feed : Feed) (before : Consumes source mid text) (last : Consumes mid source' (take count more)) (none : count ≡ 0) (has : IsFed opened Hears text first old feed) where
    -- all answers, with that to a last line without its end, and all refusals
    abbrev all_text : Text
    all_text = has.answers ++ unended_text feed.number feed.begun.items

    abbrev all_refusals : List LineRefusal
    all_refusals = has.refusals ++ option_to_list (unended_refusal feed.number feed.begun.items)

    -- what holds of what is left of the feed holds of what is left of the text
    by_feed : (P : ℕ → Text → Type 0) → P feed.number feed.begun.items → P (suc (length (cut_after 10 text).pieces)) (cut_after 10 text).rest
    by_feed P is = subst (λ begun. P (suc (length (cut_after 10 text).pieces)) begun) (sym has.kept) (subst (λ n. P n feed.begun.items) has.numbered is)

    whole_text : all_text ≡ has.answers ++ unended_text (suc (length (cut_after 10 text).pieces)) (cut_after 10 text).rest
    whole_text = by_feed (λ n begun. all_text ≡ has.answers ++ unended_text n begun) refl

    all_is_live : IsLive opened text all_text
    all_is_live = record { answers = has.answers; after = feed.live; turns = are_turns has.turns; whole = whole_text }

    all_is_heard : IsLiveHeard opened text all_text all_refusals
    all_is_heard = record {
      answers = has.answers;
      heard = has.refusals;
      after = feed.live;
      turns = has.turns;
      whole = whole_text;
      all = by_feed (λ n begun. all_refusals ≡ has.refusals ++ option_to_list (unended_refusal n begun)) refl;
    }

    pub all_answered : (Hears' : List LineRefusal → Type 0) → IsAtEnd source' → Appends old new (unended_text feed.number feed.begun.items) → Hears' (has.refusals ++ option_to_list (unended_refusal feed.number feed.begun.items)) → AnswersAll opened Hears' source source' first new
    all_answered Hears' ended wrote heard = record {
      text = text;
      read = read_ended source mid source' text more count before last none;
      ended = ended;
      written = all_text;
      refusals = all_refusals;
      live = all_is_live;
      told = all_is_heard;
      wrote = Appends-trans first old new has.answers _ has.wrote wrote;
      heard = heard;
    }

    pub front_of_end : (error : WriteError) (fault : ScriptFault) → IsWriteFault error fault → WritesPrefix (unended_text feed.number feed.begun.items) old new error → AnswersFront opened Hears source source' first new fault
    front_of_end error fault is part = record {
      text = text;
      read = read_ended source mid source' text more count before last none;
      some = record {
        lines = (cut_after 10 text).pieces;
        later = [];
        parts = sym (append-nil (cut_after 10 text).pieces);
        answers = has.answers;
        refusals = has.refusals;
        after = feed.live;
        turns = has.turns;
        begun = part.0;
        begins = by_feed (λ n begun. BeginsAnswer n feed.live [] begun part.0) (part.1, part.2);
        may = may_end error fault part.0 is part.4;
        wrote = Appends-trans first old new has.answers part.0 has.wrote part.3;
        heard = has.heard;
      };
    }
