-- Reading the lines of a script one after another.
use Rattle.std.proofs.Common.{◌≡◌, ℕ, suc, ◌+◌, ◌<◌, ◌≤◌, nat_lt, Bool, true, false, Some, Result, Ok, Err, List, [], ◌∷◌, ◌++◌, length, take, map, ap, sym, refl, ◌∙◌, append_assoc, arith}
use Rattle.std.proofs.{lemmas.Bool.Decides.nat_tests, lemmas.List.{append-nil, length-append}}
use Rattle.std.specs.{Prelude.{if◌then◌else◌, IfOk}, Result.result_ok}
use Rattle.mh_model.specs.{declared.config.Config.Config, declared.command.Command.Command}
use Rattle.mh_model.specs.{declared.command.Control.Control, declared.command.Event.Event}
use Rattle.mh_model.specs.Bytes.{Text, words, cut_after}
use Rattle.mh_model.specs.Script.{Reading, BadLine, Means, Blank, Calls, Asks, Wrong, line_of, is_blank, config_words, session_number, with_name, with_event, at_end, events_from, script_from, reading}
use Rattle.mh_text.specs.{declared.text_error.TextError.TextError, Pieces.{Lines, TakesLine, lines_from}}
use Rattle.mh_text.specs.Auxiliary.{TakesEvent, script_left, events_left, with_config, TakesConfig, HasEvent}
use Rattle.mh_text.specs.Reading.{BeginsWithEvent}

-- Readings ---------------------------------------------------------------------------------------

-- a reading after events
abbrev pub with_events : List Event → Reading (List Event) → Reading (List Event)
with_events [] r = r
with_events (e ∷ es) r = with_event e (with_events es r)

with_events-push : (es : List Event) (e : Event) (r : Reading (List Event)) → with_events (es ++ e ∷ []) r ≡ with_events es (with_event e r)
with_events-push [] e r = refl
with_events-push (x ∷ es) e r = ap (with_event x) (with_events-push es e r)

with_events-bad : (es : List Event) (n : ℕ) → with_events es (BadLine n) ≡ BadLine n
with_events-bad [] n = refl
with_events-bad (e ∷ es) n = rw (with_events-bad es n) refl

with_events-means : (es : List Event) → with_events es (Means []) ≡ Means es
with_events-means [] = refl
with_events-means (e ∷ es) = rw (with_events-means es) refl

-- The configuration ------------------------------------------------------------------------------

-- lines that were read were blank
pub record Blanks (old new : Lines) : Type 0 where
  pub head : List Text
  pub lines : old.lines ≡ head ++ new.lines
  pub after : new.rest ≡ old.rest
  pub reads : (more : List Text) (rest : Text) → script_from old.number (head ++ more) rest ≡ script_from new.number more rest

-- one more line is taken from the lines after a head
pub lines_more : (old mid new : Lines) (head : List Text) (n : ℕ) (line : Text) → old.lines ≡ head ++ mid.lines → TakesLine mid new n line → old.lines ≡ (head ++ line ∷ []) ++ new.lines
lines_more old mid new head n line lines takes = lines ∙ rw takes.taken (sym (append_assoc head (line ∷ []) new.lines))

blank_line : (n : ℕ) (line : Text) (more : List Text) (rest : Text) → is_blank line ≡ true → script_from n (line ∷ more) rest ≡ script_from (suc n) more rest
blank_line n line more rest is = rw is refl

pub blanks_more : (old mid new : Lines) (n : ℕ) (line : Text) → Blanks old mid → TakesLine mid new n line → is_blank line ≡ true → Blanks old new
blanks_more old mid new n line done takes is = record {
  head = done.head ++ line ∷ [];
  lines = lines_more old mid new done.head n line done.lines takes;
  after = takes.after ∙ done.after;
  reads = λ more rest. rw append_assoc (done.reads (line ∷ more) rest ∙ rw takes.counted (blank_line mid.number line more rest is));
}

config_good : (n : ℕ) (line : Text) (config : Config) (more : List Text) (rest : Text) → is_blank line ≡ false → config_words (words line) ≡ Some config
    → script_from n (line ∷ more) rest ≡ with_config config (events_from [] (suc n) (map line_of more) rest)
config_good n line config more rest full is = rw (full, is) refl

pub blanks_config : (old mid new : Lines) (n : ℕ) (line : Text) (config : Config) → Blanks old mid → TakesLine mid new n line → is_blank line ≡ false → config_words (words line) ≡ Some config → TakesConfig old new config
blanks_config old mid new n line config done takes full is = record {
  head = done.head ++ line ∷ [];
  lines = lines_more old mid new done.head n line done.lines takes;
  after = takes.after ∙ done.after;
  reads = λ more rest. rw append_assoc (done.reads (line ∷ more) rest ∙ rw takes.counted (config_good mid.number line config more rest full is));
}

pub blanks_found : (old mid new : Lines) (n : ℕ) (line : Text) (found : Result Config TextError) → Blanks old mid → TakesLine mid new n line → is_blank line ≡ false → config_words (words line) ≡ result_ok found → IfOk found (TakesConfig old new)
blanks_found old mid new n line (Ok config) done takes full is = blanks_config old mid new n line config done takes full is
blanks_found old mid new n line (Err error) done takes full is = tt

-- The events -------------------------------------------------------------------------------------

-- lines that were read have these events, after which these names are seen
pub record Walks (old new : Lines) (names : List Text) (es : List Event) : Type 0 where
  pub head : List Text
  pub lines : old.lines ≡ head ++ new.lines
  pub after : new.rest ≡ old.rest
  pub reads : (more : List Text) (rest : Text) → events_from [] old.number (map line_of (head ++ more)) rest ≡ with_events es (events_from names new.number (map line_of more) rest)

walks_line : (old mid new : Lines) (names seen : List Text) (es fs : List Event) (n : ℕ) (line : Text) → Walks old mid names es → TakesLine mid new n line
    → ((more : List Text) (rest : Text) → with_events es (events_from names mid.number (map line_of (line ∷ more)) rest) ≡ with_events fs (events_from seen (suc mid.number) (map line_of more) rest))
    → Walks old new seen fs
walks_line old mid new names seen es fs n line done takes step = record {
  head = done.head ++ line ∷ [];
  lines = lines_more old mid new done.head n line done.lines takes;
  after = takes.after ∙ done.after;
  reads = λ more rest. rw append_assoc (done.reads (line ∷ more) rest ∙ rw takes.counted (step more rest));
}

pub walks_blank : (old mid new : Lines) (names : List Text) (es : List Event) (n : ℕ) (line : Text) → Walks old mid names es → TakesLine mid new n line → line_of line ≡ Blank → Walks old new names es
walks_blank old mid new names es n line done takes is = walks_line old mid new names names es es n line done takes (λ more rest. rw is refl)

pub walks_calls : (old mid new : Lines) (names : List Text) (es : List Event) (n : ℕ) (line name : Text) (command : Command) → Walks old mid names es → TakesLine mid new n line → line_of line ≡ Calls name command
    → Walks old new (with_name names name) (es ++ Event.Session (session_number names name) command ∷ [])
walks_calls old mid new names es n line name command done takes is = grind (arith, walks_line, with_events-push)

pub walks_called : (old mid new : Lines) (names seen : List Text) (es fs : List Event) (n : ℕ) (line name : Text) (command : Command) (who : ℕ) → Walks old mid names es → TakesLine mid new n line → line_of line ≡ Calls name command
    → who ≡ session_number names name → seen ≡ with_name names name → fs ≡ es ++ Event.Session who command ∷ [] → Walks old new seen fs
walks_called old mid new names seen es fs n line name command who done takes is number added pushed = grind (arith, walks_calls)

pub walks_known : (old mid new : Lines) (names : List Text) (es : List Event) (taken : Event) → Walks old mid names es → TakesEvent names mid new taken → Walks old new names (es ++ taken ∷ [])
walks_known old mid new names es taken done takes = grind (arith, walks_called)

pub event_fewer : (old new : Lines) (names : List Text) (taken : Event) → TakesEvent names old new taken → length new.lines < length old.lines
event_fewer old new names taken takes = let one : length old.lines ≡ suc (length new.lines) = ap length takes.takes.taken in omega arith

pub walks_asks : (old mid new : Lines) (names : List Text) (es : List Event) (n : ℕ) (line : Text) (control : Control) → Walks old mid names es → TakesLine mid new n line → line_of line ≡ Asks control
    → Walks old new names (es ++ Event.Control control ∷ [])
walks_asks old mid new names es n line control done takes is =
    walks_line old mid new names names es (es ++ Event.Control control ∷ []) n line done takes (λ more rest. rw (is, with_events-push) refl)

walks_whole : (old mid : Lines) (names : List Text) (es : List Event) → Walks old mid names es → events_left old ≡ with_events es (events_from names mid.number (map line_of mid.lines) mid.rest)
walks_whole old mid names es done = rw (done.lines, ← done.after) (done.reads mid.lines mid.rest)

pub walks_wrong : (old mid new : Lines) (names : List Text) (es : List Event) (n : ℕ) (line : Text) → Walks old mid names es → TakesLine mid new n line → line_of line ≡ Wrong → events_left old ≡ BadLine n
walks_wrong old mid new names es n line done takes is = walks_whole old mid names es done ∙ rw (takes.taken, is, takes.numbered) (with_events-bad es mid.number)

pub walks_end : (old mid : Lines) (names : List Text) (es : List Event) → Walks old mid names es → mid.lines ≡ [] → mid.rest ≡ [] → events_left old ≡ Means es
walks_end old mid names es done no_lines no_rest = walks_whole old mid names es done ∙ rw (no_lines, no_rest) (with_events-means es)

bad_rest : (n : ℕ) (rest : Text) → (rest ≡ [] → ⊥) → at_end {X = List Event} [] n rest ≡ BadLine n
bad_rest n [] some = absurd (some refl)
bad_rest n (byte ∷ bytes) some = refl

pub walks_rest : (old mid : Lines) (names : List Text) (es : List Event) → Walks old mid names es → mid.lines ≡ [] → (mid.rest ≡ [] → ⊥) → events_left old ≡ BadLine mid.number
walks_rest old mid names es done no_lines some = walks_whole old mid names es done ∙ rw (no_lines, bad_rest mid.number mid.rest some) (with_events-bad es mid.number)

take_head : (head more : List Text) → take (length head) (head ++ more) ≡ head
take_head [] more = refl
take_head (x ∷ head) more = ap (λ (l : List Text). x ∷ l) (take_head head more)

pub walks_event : (old new : Lines) (names : List Text) (es : List Event) (e : Event) → Walks old new names (es ++ e ∷ []) → HasEvent old
walks_event old new names es e done =
    let head : take (length done.head) old.lines ≡ done.head ++ [] = rw (done.lines, take_head) (sym (append-nil done.head)) in
    record {
      count = length done.head;
      events = es ++ e ∷ [];
      read = rw head (done.reads [] [] ∙ with_events-means (es ++ e ∷ []));
      some = rw length-append (omega arith);
    }

-- The text ---------------------------------------------------------------------------------------

reading_by : (is : Bool) (text : Text) → nat_lt 67108864 (length text) ≡ is → reading text ≡ (if is then BadLine 0 else script_left (lines_from 1 text))
unfolding reading
reading_by is text same = rw same refl

pub reading_left : (text : Text) → length text ≤ 67108864 → reading text ≡ script_left (lines_from 1 text)
reading_left text short = reading_by false text (grind (arith, nat_tests))

take_past : (count : ℕ) (head more : List Text) → take (length head + count) (head ++ more) ≡ head ++ take count more
take_past count [] more = let none : 0 + count ≡ count = omega arith in rw none refl
take_past count (x ∷ head) more = let next : suc (length head) + count ≡ suc (length head + count) = omega arith in rw next (ap (λ (l : List Text). x ∷ l) (take_past count head more))

pub begins_with_event : (text : Text) (new : Lines) (config : Config) → length text ≤ 67108864 → TakesConfig (lines_from 1 text) new config → HasEvent new → BeginsWithEvent text
begins_with_event text new config short takes has =
    let lines : take (length takes.head + has.count) (cut_after 10 text).pieces ≡ takes.head ++ take has.count new.lines = rw takes.lines (take_past has.count takes.head new.lines) in
    record {
      short = short;
      count = length takes.head + has.count;
      script = record { config = config; events = has.events };
      read = rw lines (takes.reads (take has.count new.lines) [] ∙ rw has.read refl);
      some = has.some;
    }
