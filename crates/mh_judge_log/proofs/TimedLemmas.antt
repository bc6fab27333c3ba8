-- Lines that are commands with their times.
use Rattle.std.proofs.Common.{◌≡◌, ◌∙◌, ℕ, ◌<◌, ◌≤◌, nat_le, Bool, true, false, not, ◌&&◌, if◌then◌else◌, Option, Some, None, IsSome, option_map, option_and_then, List, [], ◌∷◌, ◌++◌, ap, sym, refl, arith}
use Rattle.std.proofs.lemmas.Bool.Decides.{nat_tests}
use Rattle.std.specs.Prelude.{codes}
use Rattle.mh_model.specs.{declared.command.Command.Command, declared.command.Control.Control}
use Rattle.mh_model.specs.{declared.command.Event.Event, declared.history.Entry.Entry}
use Rattle.mh_model.specs.declared.history.Version.TheVariants.{One}
use Rattle.mh_model.specs.{Bytes.{Text, Cut, cut_after, is_text, number, words}, Forms.within}
use Rattle.mh_model.specs.{HistoryTexts.{Halves, entry_by, entry_of, event_of, halves_at}, Replies.reply_of}
use Rattle.mh_text.specs.Pieces.{with_piece}
use Rattle.mh_judge_log.specs.{Beginnings.{HasTimes, begins_with_star}, Logs.{is_command, timed_by, timed_of}}

-- Words ------------------------------------------------------------------------------------------

pub words_split : (line word rest : Text) → cut_after 32 line ≡ with_piece word (cut_after 32 rest) → words line ≡ word ∷ words rest
words_split line word rest is = ap (λ (cut : Cut). cut.pieces ++ cut.rest ∷ []) is

pub words_whole : (line : Text) → cut_after 32 line ≡ record { pieces = []; rest = line } → words line ≡ line ∷ []
words_whole line is = ap (λ (cut : Cut). cut.pieces ++ cut.rest ∷ []) is

-- Times ------------------------------------------------------------------------------------------

none_after : {X Y : Type 0} (f : X → Option Y) (o : Option X) → ((x : X) → f x ≡ None) → option_and_then f o ≡ None
none_after f None none = refl
none_after f (Some x) none = none x

-- a line without two times and a word after them
abbrev pub LacksTimes : List Text → Type 0
LacksTimes line = (begin end : ℕ) (word : Text) (more : List Text) → HasTimes line begin end (word ∷ more) → ⊥

pub one_word : (line : List Text) (only : Text) → line ≡ only ∷ [] → LacksTimes line
one_word line only is begin end word more has = let two : only ∷ [] ≡ has.first ∷ has.second ∷ word ∷ more = sym is ∙ has.is in cc

pub two_words : (line : List Text) (first second : Text) → line ≡ first ∷ second ∷ [] → LacksTimes line
two_words line first second is begin end word more has = let three : first ∷ second ∷ [] ≡ has.first ∷ has.second ∷ word ∷ more = sym is ∙ has.is in cc

pub no_begin : (line : List Text) (first second : Text) (rest : List Text) → line ≡ first ∷ second ∷ rest → number first ≡ None → LacksTimes line
no_begin line first second rest is none begin end word more has =
    let same : first ∷ second ∷ rest ≡ has.first ∷ has.second ∷ word ∷ more = sym is ∙ has.is in
    let one : first ≡ has.first = cc in
    let both : None ≡ Some begin = sym none ∙ (ap number one ∙ has.begins) in
    cc

pub no_end : (line : List Text) (first second : Text) (rest : List Text) → line ≡ first ∷ second ∷ rest → number second ≡ None → LacksTimes line
no_end line first second rest is none begin end word more has =
    let same : first ∷ second ∷ rest ≡ has.first ∷ has.second ∷ word ∷ more = sym is ∙ has.is in
    let one : second ≡ has.second = cc in
    let both : None ≡ Some end = sym none ∙ (ap number one ∙ has.ends) in
    cc

pub no_times : (line : List Text) → LacksTimes line → timed_of line ≡ None
no_times [] lacks = refl
no_times (first ∷ []) lacks = refl
no_times (first ∷ second ∷ []) lacks = none_after _ (number first) (λ begin. none_after _ (number second) (λ end. refl))
no_times (first ∷ second ∷ word ∷ more) lacks = by (number first) (number second) refl refl where
  by : (begin end : Option ℕ) → number first ≡ begin → number second ≡ end → option_and_then (λ b. option_and_then (λ e. option_and_then (timed_by b e) (entry_of One (word ∷ more))) end) begin ≡ None
  by None end begins ends = refl
  by (Some begin) None begins ends = refl
  by (Some begin) (Some end) begins ends = absurd (lacks begin end word more (record { first = first; second = second; is = refl; begins = begins; ends = ends }))

pub timed_is : (line rest : List Text) (begin end : ℕ) → HasTimes line begin end rest → timed_of line ≡ option_and_then (timed_by begin end) (entry_of One rest)
timed_is line rest begin end has = rw (has.is, has.begins, has.ends) refl

-- Events -----------------------------------------------------------------------------------------

-- what an option comes from
and_then_some : {X Y : Type 0} (f : X → Option Y) (o : Option X) (y : Y) → option_and_then f o ≡ Some y → (x : X) × (o ≡ Some x) × (f x ≡ Some y)
and_then_some f None y is = cc
and_then_some f (Some x) y is = (x, refl, is)

map_some : {X Y : Type 0} (f : X → Y) (o : Option X) (y : Y) → option_map f o ≡ Some y → (x : X) × (o ≡ Some x) × (f x ≡ y)
map_some f None y is = cc
map_some f (Some x) y is = (x, refl, cc)

kind_by : (star : Bool) (control : Option Control) (who : Option ℕ) (command : Option Command) (asked : Event)
    → (if star then option_map (λ control. Event.Control control) control else option_and_then (λ who. option_map (λ command. Event.Session who command) command) who) ≡ Some asked
    → is_command asked ≡ not star
kind_by true control who command asked is = ap is_command (sym (map_some _ control asked is).2)
kind_by false control who command asked is =
    let session = and_then_some _ who asked is in
    ap is_command (sym (map_some _ command asked session.2).2)

event_kind : (event : List Text) (asked : Event) → event_of One event ≡ Some asked → is_command asked ≡ not (begins_with_star event)
event_kind [] asked is = cc
event_kind (word ∷ more) asked is = kind_by (is_text word (codes "*")) _ _ _ asked is

event_by : (halves : Halves) (entry : Entry) → entry_by One halves ≡ Some entry → event_of One halves.before ≡ Some entry.event
event_by halves entry is =
    let found = and_then_some _ (event_of One halves.before) entry is in
    let reply = map_some _ (reply_of One halves.after) entry found.2 in
    found.1 ∙ ap Some (ap (λ (e : Entry). e.event) reply.2)

before_words : (line : List Text) (halves : Halves) (entry : Entry) → halves_at (codes "=") line ≡ Some halves → event_of One halves.before ≡ Some entry.event → begins_with_star line ≡ begins_with_star halves.before
before_words [] halves entry is event = cc
before_words (word ∷ more) halves entry is event = by (is_text word (codes "=")) (halves_at (codes "=") more) is where
  by : (equals : Bool) (later : Option Halves) → (if equals then Some (record { before = []; after = more }) else option_map (λ (h : Halves). record { before = word ∷ h.before; after = h.after }) later) ≡ Some halves
      → is_text word (codes "*") ≡ begins_with_star halves.before
  by true later same = let none : event_of One [] ≡ Some entry.event = ap (λ (h : Halves). event_of One h.before) (let e : record { before = []; after = more } ≡ halves = cc in e) ∙ event in cc
  by false later same = ap (λ (h : Halves). begins_with_star h.before) (map_some _ later halves same).2

-- an entry is a command exactly if it doesn't begin with `*`
pub entry_kind : (line : List Text) (entry : Entry) → entry_of One line ≡ Some entry → is_command entry.event ≡ not (begins_with_star line)
entry_kind line entry is =
    let halves = and_then_some _ (halves_at (codes "=") line) entry is in
    let event = event_by halves.0 entry halves.2 in
    event_kind halves.0.before entry.event event ∙ ap not (sym (before_words line halves.0 entry halves.1 event))

-- Commands ---------------------------------------------------------------------------------------

within_not : {X : Type 0} (b c : Bool) (x : X) → c ≡ false → within (b && c) x ≡ None
within_not true c x is = rw is refl
within_not false c x is = refl

within_both : {X : Type 0} (b c : Bool) (x : X) → b ≡ true → c ≡ true → within (b && c) x ≡ Some x
within_both b c x is also = rw (is, also) refl

pub backwards : (line rest : List Text) (begin end : ℕ) → HasTimes line begin end rest → end < begin → timed_of line ≡ None
backwards line rest begin end has later =
    let test : nat_le begin end ≡ false = grind (arith, nat_tests) in
    timed_is line rest begin end has ∙ none_after _ (entry_of One rest) (λ entry. rw test refl)

pub of_control : (line rest : List Text) (begin end : ℕ) → HasTimes line begin end rest → begins_with_star rest ≡ true → timed_of line ≡ None
of_control line rest begin end has star = timed_is line rest begin end has ∙ by (entry_of One rest) refl where
  by : (read : Option Entry) → entry_of One rest ≡ read → option_and_then (timed_by begin end) read ≡ None
  by None is = refl
  by (Some entry) is = within_not (nat_le begin end) (is_command entry.event) _ (entry_kind rest entry is ∙ ap not star)

pub no_entry : (line rest : List Text) (begin end : ℕ) → HasTimes line begin end rest → entry_of One rest ≡ None → timed_of line ≡ None
no_entry line rest begin end has none = timed_is line rest begin end has ∙ rw none refl

pub some_entry : (line rest : List Text) (begin end : ℕ) (entry : Entry) → HasTimes line begin end rest → begin ≤ end → begins_with_star rest ≡ false → entry_of One rest ≡ Some entry
    → timed_of line ≡ Some (record { begin = begin; end = end; entry = entry })
some_entry line rest begin end entry has ordered star is =
    let test : nat_le begin end ≡ true = grind (arith, nat_tests) in
    timed_is line rest begin end has ∙ (ap (option_and_then (timed_by begin end)) is ∙ within_both (nat_le begin end) (is_command entry.event) _ test (entry_kind rest entry is ∙ ap not star))

pub entry_memory : (line rest : List Text) (begin end : ℕ) → HasTimes line begin end rest → begin ≤ end → begins_with_star rest ≡ false → IsSome (entry_of One rest) → IsSome (timed_of line)
entry_memory line rest begin end has ordered star some = by (entry_of One rest) refl some where
  by : (read : Option Entry) → entry_of One rest ≡ read → IsSome read → IsSome (timed_of line)
  by None is some = cc
  by (Some entry) is some = rw (some_entry line rest begin end entry has ordered star is) refl
