-- What the lines that came so far were answered, and what was told of them.
use Rattle.std.specs.Prelude.{◌≡◌, ℕ, suc, Option, List, [], ◌∷◌, ◌++◌, length, Result, Ok, Err, IfErr, OnOk, IsErrOf}
use Rattle.std.specs.Io.KnownBytes.{Appends, Consumes, IsAtEnd}
use Rattle.mh_model.specs.{Bytes.{Text, cut_after}, Live.{Live, Turn, Waits, IsTurn, IsLive, unended_text}}
use Rattle.mh_text.specs.Devices.{Device, Fails, GivesSome, Works}
use Rattle.mh_live.specs.{Heard.{AreHeard, IsLiveHeard}, Promised.ArePromisedAnswers}
use Rattle.mh_script.specs.declared.{end.LineRefusal.LineRefusal, fault.ScriptFault.ScriptFault}
use Rattle.mh_script.specs.declared.fault.ScriptFault.TheVariants.{Read, Write, NoMemory}

-- Faults -----------------------------------------------------------------------------------------

abbrev pub MayEndWith : ScriptFault → Text → Type 0
MayEndWith Write begun = Unit {0}
MayEndWith fault begun = begun ≡ []

-- a prefix of what the first of these lines, line n, may be answered; if there is none, of the answer to a last line without its end
abbrev pub BeginsAnswer : ℕ → Live → List Text → Text → Text → Type 0
BeginsAnswer n live [] rest begun = (left : Text) × (begun ++ left ≡ unended_text n rest)
BeginsAnswer n live (line ∷ lines) rest begun = (turn : Turn) × IsTurn n live line turn × ((left : Text) × (begun ++ left ≡ turn.text))

-- The first lines of a text were answered, and the refused ones of them heard of. Of the answer to the next line a prefix was written that may stand there; that line was not heard of
pub record AnswersSome (opened : Live) (Hears : List LineRefusal → Type 0) (May : Text → Type 0) (text : Text) (old new : Option Text) : Type 0 where
  pub lines : List Text
  pub later : List Text
  pub parts : (cut_after 10 text).pieces ≡ lines ++ later
  pub answers : Text
  pub refusals : List LineRefusal
  pub after : Live
  pub turns : AreHeard 1 opened lines refusals answers after
  pub begun : Text
  pub begins : BeginsAnswer (suc (length lines)) after later (cut_after 10 text).rest begun
  pub may : May begun
  pub wrote : Appends old new (answers ++ begun)
  pub heard : Hears refusals

-- Runs -------------------------------------------------------------------------------------------

-- a source was read to its end, each line answered, and each refused one told
pub record AnswersAll (opened : Live) (Hears : List LineRefusal → Type 0) (source source' sink sink' : Option Text) : Type 0 where
  pub text : Text
  pub read : Consumes source source' text
  pub ended : IsAtEnd source'
  pub written : Text
  pub refusals : List LineRefusal
  pub live : IsLive opened text written
  pub told : IsLiveHeard opened text written refusals
  pub wrote : Appends sink sink' written
  pub heard : Hears refusals

-- some bytes of a source were read before this fault, and some of the lines in them answered and told
pub record AnswersFront (opened : Live) (Hears : List LineRefusal → Type 0) (source source' sink sink' : Option Text) (fault : ScriptFault) : Type 0 where
  pub text : Text
  pub read : Consumes source source' text
  pub some : AnswersSome opened Hears (MayEndWith fault) text sink sink'

-- some bytes of a source were read, each whole line in them answered, and each refused one told
pub record AnswersWhole (opened : Live) (Hears : List LineRefusal → Type 0) (source source' sink sink' : Option Text) : Type 0 where
  pub text : Text
  pub read : Consumes source source' text
  pub answers : Text
  pub refusals : List LineRefusal
  pub after : Live
  pub turns : AreHeard 1 opened (cut_after 10 text).pieces refusals answers after
  pub wrote : Appends sink sink' answers
  pub heard : Hears refusals

-- What was written after the answers to some lines, by how a run ended. At the end of the source it is the refusal of a last line without its end.
-- A failed source leaves none. Another fault leaves a prefix of the next answer, and may leave lines unanswered
abbrev pub FollowsAnswers : Result Unit ScriptFault → ℕ → Live → List Text → Text → Text → Type 0
FollowsAnswers (Ok ended) n after later rest last = (later ≡ []) × (last ≡ unended_text n rest)
FollowsAnswers (Err Read) n after later rest last = (later ≡ []) × (last ≡ [])
FollowsAnswers (Err fault) n after later rest last = BeginsAnswer n after later rest last × MayEndWith fault last

-- A run that waited for its configuration kept the promise, and ended so. These lines of the text that was read were answered, and their answers show
-- replies that keep it. What else was written follows them
pub record KeepsLivePromise (source source' sink sink' : Option Text) (ended : Result Unit ScriptFault) : Type 0 where
  pub text : Text
  pub read : Consumes source source' text
  pub lines : List Text
  pub later : List Text
  pub parts : (cut_after 10 text).pieces ≡ lines ++ later
  pub answers : Text
  pub after : Live
  pub promise : ArePromisedAnswers 1 lines answers after
  pub last : Text
  pub follows : FollowsAnswers ended (suc (length lines)) after later (cut_after 10 text).rest last
  pub wrote : Appends sink sink' (answers ++ last)

-- by their counts of failures a device failed just if it is blamed
abbrev pub Blames : (source source' sink sink' : Device) → Result Unit ScriptFault → Type 0
Blames source source' sink sink' (Err Read) = Fails source source' × Works sink sink'
Blames source source' sink sink' (Err Write) = Works source source' × Fails sink sink'
Blames source source' sink sink' ended = Works source source' × Works sink sink'

-- Lines of a source were answered as they came and the refused ones told, and how that ended
pub record IsLiveRun (opened : Live) (Hears : List LineRefusal → Type 0) (source source' sink sink' : Device) (ended : Result Unit ScriptFault) : Type 0 where
  pub promise : opened ≡ Waits → KeepsLivePromise source.bytes source'.bytes sink.bytes sink'.bytes ended
  pub answered : OnOk ended (AnswersAll opened Hears source.bytes source'.bytes sink.bytes sink'.bytes)
  pub begun : IfErr ended (AnswersFront opened Hears source.bytes source'.bytes sink.bytes sink'.bytes)
  pub prompt : IsErrOf ended Read → AnswersWhole opened Hears source.bytes source'.bytes sink.bytes sink'.bytes
  pub memory : IsErrOf ended NoMemory → GivesSome source source'
  pub blames : Blames source source' sink sink' ended
