-- Reading a script up to its first bad line.
use Rattle.std.proofs.Common.{◌≡◌, ◌≢◌, ℕ, suc, ◌≤◌, ◌||◌, not, ◌&&◌, Bool, true, false, Option, None, List, [], ◌∷◌, ◌++◌, length, map, inl, inr, ◌⊎◌, refl, sym, ◌∙◌, append_assoc, length-append, arith}
use Rattle.std.specs.List.{list_all}
use Rattle.mh_model.specs.{declared.config.Config.Config, Bytes.{Text, words, cut_after}}
use Rattle.mh_model.specs.Script.{Reading, BadLine, reading_map, Line, Wrong, line_of, is_blank, config_words, at_end, events_from, script_from, reading}
use Rattle.mh_text.specs.Pieces.{Lines, TakesLine, lines_from}
use Rattle.mh_text.proofs.ScriptLemmas.{reading_left}
use Rattle.mh_reasons.specs.{declared.reason.LineReason.LineReason, Reasons.{IsWrong, IsLineReason, IsReason}}
use Rattle.mh_reasons.specs.declared.reason.ScriptReason.{ScriptReason}

-- Bad lines --------------------------------------------------------------------------------------

pub map_bad : {X Y : Type 0} (f : X → Y) (r : Reading X) (n : ℕ) → reading_map f r ≡ BadLine n → r ≡ BadLine n
map_bad f r n bad = grind arith

pub at_end_bad : {X : Type 0} (x : X) (k n : ℕ) (rest : Text) → at_end x k rest ≡ BadLine n → (k ≡ n) × (rest ≢ [])
at_end_bad x k n rest bad = grind arith

-- the lines after the configuration, from line k on, the first bad one of which is line n
pub record EventsBad (k n : ℕ) (lines : List Text) (rest : Text) : Type 0 where
  pub names : List Text
  pub bad : events_from names k (map line_of lines) rest ≡ BadLine n

-- what a first line that isn't wrong leaves
events_next : (names : List Text) (k n : ℕ) (line : Line) (lines : List Text) (rest : Text) → events_from names k (line ∷ map line_of lines) rest ≡ BadLine n
    → ((line ≡ Wrong) × (k ≡ n)) ⊎ EventsBad (suc k) n lines rest
events_next names k n line lines rest bad = grind arith

later_by : (k n : ℕ) (line : Line) (lines : List Text) (rest : Text) → ((line ≡ Wrong) × (k ≡ n)) ⊎ EventsBad (suc k) n lines rest
    → ((names : List Text) → events_from names (suc k) (map line_of lines) rest ≡ BadLine n → suc k ≤ n) → k ≤ n
later_by k n line lines rest is more = grind arith

-- a bad line is none before those that are read
events_later : (names : List Text) (k n : ℕ) (lines : List Text) (rest : Text) → events_from names k (map line_of lines) rest ≡ BadLine n → k ≤ n
events_later names k n [] rest bad = grind arith
events_later names k n (line ∷ lines) rest bad = later_by k n (line_of line) lines rest (events_next names k n (line_of line) lines rest bad) (λ seen. events_later seen (suc k) n lines rest)

script_blank : (k n : ℕ) (line : Text) (lines : List Text) (rest : Text) → is_blank line ≡ true → script_from k (line ∷ lines) rest ≡ BadLine n → script_from (suc k) lines rest ≡ BadLine n
script_blank k n line lines rest is bad = rw is at bad

script_full : (k n : ℕ) (line : Text) (lines : List Text) (rest : Text) → is_blank line ≡ false → script_from k (line ∷ lines) rest ≡ BadLine n
    → ((config_words (words line) ≡ None) × (k ≡ n)) ⊎ EventsBad (suc k) n lines rest
script_full k n line lines rest is bad = grind arith

full_later : (k n : ℕ) (o : Option Config) (lines : List Text) (rest : Text) → ((o ≡ None) × (k ≡ n)) ⊎ EventsBad (suc k) n lines rest → k ≤ n
full_later k n o lines rest is = grind (arith, events_later)

script_later_by : (is : Bool) (k n : ℕ) (line : Text) (lines : List Text) (rest : Text) → is_blank line ≡ is → script_from k (line ∷ lines) rest ≡ BadLine n
    → (script_from (suc k) lines rest ≡ BadLine n → suc k ≤ n) → k ≤ n
script_later_by true k n line lines rest is bad more = omega (arith, more (script_blank k n line lines rest is bad))
script_later_by false k n line lines rest is bad more = full_later k n (config_words (words line)) lines rest (script_full k n line lines rest is bad)

script_later : (k n : ℕ) (lines : List Text) (rest : Text) → script_from k lines rest ≡ BadLine n → k ≤ n
script_later k n [] rest bad = let same : k ≡ n = cc in omega (arith, same)
script_later k n (line ∷ lines) rest bad = script_later_by (is_blank line) k n line lines rest refl bad (script_later (suc k) n lines rest)

-- Before and after the configuration -------------------------------------------------------------

-- of these lines, from line k on, line n is the first bad one, before and after the configuration
abbrev pub IsBadFrom : Bool → ℕ → List Text → Text → ℕ → Type 0
IsBadFrom false k lines rest n = script_from k lines rest ≡ BadLine n
IsBadFrom true k lines rest n = EventsBad k n lines rest

script_wrong : (is : Bool) (k n : ℕ) (line : Text) (lines : List Text) (rest : Text) → is_blank line ≡ is → script_from k (line ∷ lines) rest ≡ BadLine n → k ≡ n → IsWrong false line
script_wrong true k n line lines rest is bad here = absurd (omega (arith, script_later (suc k) n lines rest (script_blank k n line lines rest is bad)))
script_wrong false k n line lines rest is bad here = (is, none_here (script_full k n line lines rest is bad)) where
  none_here : ((config_words (words line) ≡ None) × (k ≡ n)) ⊎ EventsBad (suc k) n lines rest → config_words (words line) ≡ None
  none_here (inl none) = none.0
  none_here (inr after) = absurd (omega (arith, events_later after.names (suc k) n lines rest after.bad))

event_wrong : (k n : ℕ) (line : Line) (lines : List Text) (rest : Text) → ((line ≡ Wrong) × (k ≡ n)) ⊎ EventsBad (suc k) n lines rest → k ≡ n → line ≡ Wrong
event_wrong k n line lines rest is here = grind (arith, events_later)

-- the bad line is wrong
bad_wrong : (configured : Bool) (k n : ℕ) (line : Text) (lines : List Text) (rest : Text) → IsBadFrom configured k (line ∷ lines) rest n → k ≡ n → IsWrong configured line
bad_wrong false k n line lines rest bad here = script_wrong (is_blank line) k n line lines rest refl bad here
bad_wrong true k n line lines rest bad here = event_wrong k n (line_of line) lines rest (events_next bad.names k n (line_of line) lines rest bad.bad) here

pub wrong_nonblank : (configured : Bool) (line : Text) → IsWrong configured line → is_blank line ≡ false
wrong_nonblank configured line wrong = grind arith

script_on : (is : Bool) (k n : ℕ) (line : Text) (lines : List Text) (rest : Text) → is_blank line ≡ is → script_from k (line ∷ lines) rest ≡ BadLine n → (k ≡ n → ⊥) → IsBadFrom (not is) (suc k) lines rest n
script_on is k n line lines rest e bad other = grind arith

event_on : (k n : ℕ) (line : Line) (lines : List Text) (rest : Text) → ((line ≡ Wrong) × (k ≡ n)) ⊎ EventsBad (suc k) n lines rest → (k ≡ n → ⊥) → EventsBad (suc k) n lines rest
event_on k n line lines rest is other = grind arith

-- before the bad line one more line is read
bad_on : (configured : Bool) (k n : ℕ) (line : Text) (lines : List Text) (rest : Text) → IsBadFrom configured k (line ∷ lines) rest n → (k ≡ n → ⊥) → IsBadFrom (configured || not (is_blank line)) (suc k) lines rest n
bad_on configured k n line lines rest bad other = grind (arith, script_on, event_on, events_next)

-- A text -----------------------------------------------------------------------------------------

-- a text was read up to here: which lines were read, whether one of them was the configuration, and that the bad line is still to come
pub record Reached (text : Text) (bad : ℕ) (configured : Bool) (left : Lines) : Type 0 where
  pub before : List Text
  pub lines : (cut_after 10 text).pieces ≡ before ++ left.lines
  pub after : left.rest ≡ (cut_after 10 text).rest
  pub numbered : left.number ≡ suc (length before)
  pub first : list_all is_blank before ≡ not configured
  pub coming : IsBadFrom configured left.number left.lines left.rest bad

pub reached_none : (text : Text) (bad : ℕ) → length text ≤ 67108864 → reading text ≡ BadLine bad → Reached text bad false (lines_from 1 text)
reached_none text bad short is = grind (arith, reading_left)

all_blank : (xs : List Text) (line : Text) → list_all is_blank (xs ++ line ∷ []) ≡ list_all is_blank xs && is_blank line
all_blank [] line = all_one (is_blank line) where
  all_one : (is : Bool) → is && true ≡ is
  all_one true = refl
  all_one false = refl
all_blank (x ∷ xs) line = rw (all_blank xs line) (grouped (is_blank x) (list_all is_blank xs) (is_blank line)) where
  grouped : (a b c : Bool) → a && (b && c) ≡ (a && b) && c
  grouped true b c = refl
  grouped false b c = refl

none_more : (configured is : Bool) → not configured && is ≡ not (configured || not is)
none_more configured is = grind arith

pub reached_more : (text : Text) (bad : ℕ) (configured : Bool) (mid new : Lines) (n : ℕ) (line : Text) → Reached text bad configured mid → TakesLine mid new n line → (n ≡ bad → ⊥)
    → Reached text bad (configured || not (is_blank line)) new
reached_more text bad configured mid new n line done takes other =
    let coming : IsBadFrom configured mid.number (line ∷ new.lines) mid.rest bad = rw takes.taken at done.coming in
    record {
      before = done.before ++ line ∷ [];
      lines = done.lines ∙ rw takes.taken (sym (append_assoc done.before (line ∷ []) new.lines));
      after = takes.after ∙ done.after;
      numbered = rw (takes.counted, done.numbered) (rw length-append (omega arith));
      first = all_blank done.before line ∙ rw done.first (none_more configured (is_blank line));
      coming = rw (takes.counted, takes.after) (bad_on configured mid.number bad line new.lines mid.rest coming (λ same. other (takes.numbered ∙ same)));
    }

pub reached_wrong : (text : Text) (bad : ℕ) (configured : Bool) (mid new : Lines) (n : ℕ) (line : Text) → Reached text bad configured mid → TakesLine mid new n line → n ≡ bad → IsWrong configured line
reached_wrong text bad configured mid new n line done takes here = grind (arith, bad_wrong)

pub reached_line : (text : Text) (bad : ℕ) (configured : Bool) (mid new : Lines) (n : ℕ) (line : Text) (r : LineReason) → Reached text bad configured mid → TakesLine mid new n line → n ≡ bad
    → IsLineReason configured line r → IsReason text bad (ScriptReason.Line r)
reached_line text bad configured mid new n line r done takes here is = (
  configured,
  line,
  record {
    before = done.before;
    after = new.lines;
    lines = done.lines ∙ rw takes.taken refl;
    numbered = sym here ∙ (takes.numbered ∙ done.numbered);
    first = done.first;
    full = wrong_nonblank configured line (reached_wrong text bad configured mid new n line done takes here);
  },
  is,
)

pub reached_after : (text : Text) (bad : ℕ) (configured : Bool) (mid new : Lines) (n : ℕ) (line : Text) → configured ≡ true → Reached text bad configured mid → TakesLine mid new n line → (n ≡ bad → ⊥) → Reached text bad configured new
reached_after text bad true mid new n line is done takes other = reached_more text bad true mid new n line done takes other
reached_after text bad false mid new n line is done takes other = cc

pub reached_before : (text : Text) (bad : ℕ) (configured blank : Bool) (mid new : Lines) (n : ℕ) (line : Text) → configured ≡ false → blank ≡ is_blank line → Reached text bad configured mid → TakesLine mid new n line → (n ≡ bad → ⊥)
    → Reached text bad (not blank) new
reached_before text bad true blank mid new n line is same done takes other = cc
reached_before text bad false blank mid new n line is same done takes other = rw same (reached_more text bad false mid new n line done takes other)

pub bad_same : (text : Text) (m n : ℕ) → reading text ≡ BadLine m → reading text ≡ BadLine n → m ≡ n
bad_same text m n one other = cc
