-- The words before and after `=` in a line, by its bytes.
use Rattle.std.proofs.Common.{◌≡◌, ℕ, zero, suc, ◌+◌, ◌-◌, ◌<◌, ◌==◌, not, cond, Bool, true, false, Option, Some, None, IsSome, option_map, option_and_then, List, [], ◌∷◌, ◌++◌, length, take, drop, get_or, refl, sym, ap, ◌∙◌, append_assoc, arith, take-append-drop}
use Rattle.std.proofs.{lemmas.List.{append-nil, take_rest}, lemmas.Bool.{and_parts, and_from}}
use Rattle.std.specs.Prelude.{codes}
use Rattle.mh_model.specs.{declared.history.Entry.Entry, declared.history.Version.Version}
use Rattle.mh_model.specs.declared.history.Version.TheVariants.{Two}
use Rattle.mh_model.specs.Bytes.{Text, Cut, cut_after, with_byte, words, numbers, is_text}
use Rattle.mh_model.specs.HistoryTexts.{Halves, halves_at, entry_by, entry_of, measured_with, measured_by, measured_of}
use Rattle.mh_model.proofs.TextLemmas.{text_is}
use Rattle.mh_text.proofs.HalfLemmas.{words_then, after_words}
use Rattle.mh_history.specs.Auxiliary.{lacks, all_lack, IsAroundEquals}

-- Bytes that a text lacks ------------------------------------------------------------------------

abbrev cut_of : List Text → Text → Cut
cut_of pieces rest = record { pieces = pieces; rest = rest }

abbrev NoPiece : ℕ → Text → Type 0
NoPiece byte text = cut_after byte text ≡ record { pieces = []; rest = text }

rest_of : (byte b : ℕ) (text : Text) (pieces : List Text) (rest : Text) → with_byte b (record { pieces = pieces; rest = rest }) ≡ record { pieces = []; rest = b ∷ text }
    → cut_of pieces rest ≡ cut_of [] text
rest_of byte b text [] rest same = grind arith
rest_of byte b text (piece ∷ pieces) rest same = grind arith

lacks_by : (byte b : ℕ) (text : Text) (is : Bool) → (b == byte) ≡ is → (NoPiece byte text → lacks byte text ≡ true)
    → cond is (record { pieces = [] ∷ (cut_after byte text).pieces; rest = (cut_after byte text).rest }) (with_byte b (cut_after byte text)) ≡ record { pieces = []; rest = b ∷ text }
    → lacks byte (b ∷ text) ≡ true
lacks_by byte b text true same more none = grind arith
lacks_by byte b text false same more none = rw same (more (rest_of byte b text (cut_after byte text).pieces (cut_after byte text).rest none))

pub lacks_of : (byte : ℕ) (text : Text) → NoPiece byte text → lacks byte text ≡ true
lacks_of byte [] none = refl
lacks_of byte (b ∷ text) none = lacks_by byte b text (b == byte) refl (lacks_of byte text) none

pub lacks_first : (byte : ℕ) (front back : Text) → lacks byte (front ++ back) ≡ true → lacks byte front ≡ true
lacks_first byte [] back all = refl
lacks_first byte (b ∷ front) back all = let both = and_parts _ _ all in and_from _ _ both.0 (lacks_first byte front back both.1)

words_lack_by : (byte b : ℕ) (is : Bool) (pieces : List Text) (rest : Text) → not (b == byte) ≡ true → all_lack byte (pieces ++ rest ∷ []) ≡ true
    → all_lack byte ((cond is (record { pieces = [] ∷ pieces; rest = rest }) (with_byte b (record { pieces = pieces; rest = rest }))).pieces
    ++ (cond is (record { pieces = [] ∷ pieces; rest = rest }) (with_byte b (record { pieces = pieces; rest = rest }))).rest ∷ []) ≡ true
words_lack_by byte b true pieces rest other all = all
words_lack_by byte b false [] rest other all = let both = and_parts _ _ all in and_from _ _ (and_from _ _ other both.0) refl
words_lack_by byte b false (piece ∷ pieces) rest other all = let both = and_parts _ _ all in and_from _ _ (and_from _ _ other both.0) both.1

pub words_lack : (byte : ℕ) (text : Text) → lacks byte text ≡ true → all_lack byte (words text) ≡ true
words_lack byte [] none = refl
words_lack byte (b ∷ text) none =
    let both = and_parts _ _ none in
    words_lack_by byte b (b == 32) (cut_after 32 text).pieces (cut_after 32 text).rest both.0 (words_lack byte text both.1)

-- Words that are no mark -------------------------------------------------------------------------

other_by : (byte : ℕ) (word mark : Text) (is : Bool) → is_text word mark ≡ is → lacks byte word ≡ true → lacks byte mark ≡ false → is_text word mark ≡ false
other_by byte word mark true same none some =
    let one : word ≡ mark = text_is word mark same in
    grind arith
other_by byte word mark false same none some = same

cons_halves : (word : Text) (words : List Text) (halves : Option Halves)
    → option_map (λ (h : Halves). record { before = word ∷ h.before; after = h.after }) (option_map (after_words words) halves) ≡ option_map (after_words (word ∷ words)) halves
cons_halves word words None = refl
cons_halves word words (Some halves) = refl

no_words : (halves : Option Halves) → halves ≡ option_map (after_words []) halves
no_words None = refl
no_words (Some halves) = refl

skipped : (byte : ℕ) (mark : Text) (front more : List Text) → lacks byte mark ≡ false → all_lack byte front ≡ true → halves_at mark (front ++ more) ≡ option_map (after_words front) (halves_at mark more)
skipped byte mark [] more some all = no_words (halves_at mark more)
skipped byte mark (word ∷ front) more some all =
    let both = and_parts _ _ all in
    let other : is_text word mark ≡ false = other_by byte word mark (is_text word mark) refl both.0 some in
    rw (other, skipped byte mark front more some both.1) (cons_halves word front (halves_at mark more))

-- Entries ----------------------------------------------------------------------------------------

abbrev halves_of : List Text → List Text → Halves
halves_of before after = record { before = before; after = after }

equals_after : (front after : List Text) → all_lack 61 front ≡ true → halves_at (codes "=") (front ++ codes "=" ∷ after) ≡ Some (record { before = front; after = after })
equals_after front after all = skipped 61 (codes "=") front (codes "=" ∷ after) refl all ∙ ap (λ (before : List Text). Some (halves_of before after)) (append-nil front)

pub entry_is : (version : Version) (front after : List Text) → all_lack 61 front ≡ true → entry_of version (front ++ codes "=" ∷ after) ≡ entry_by version (record { before = front; after = after })
entry_is version front after all = ap (option_and_then (entry_by version)) (equals_after front after all)

units_after : (front rest : List Text) → all_lack 105 front ≡ true
    → halves_at (codes "units") (front ++ codes "=" ∷ rest) ≡ option_map (after_words front) (option_map (λ (h : Halves). record { before = codes "=" ∷ h.before; after = h.after }) (halves_at (codes "units") rest))
units_after front rest all = skipped 105 (codes "units") front (codes "=" ∷ rest) refl all

mapped_none : (front : List Text) (halves : Option Halves) → halves ≡ None → option_map (after_words front) (option_map (λ (h : Halves). record { before = codes "=" ∷ h.before; after = h.after }) halves) ≡ None
mapped_none front halves none = rw none refl

mapped_some : (front reply units : List Text) (halves : Option Halves) → halves ≡ Some (halves_of reply units)
    → option_map (after_words front) (option_map (λ (h : Halves). record { before = codes "=" ∷ h.before; after = h.after }) halves) ≡ Some (halves_of (front ++ codes "=" ∷ reply) units)
mapped_some front reply units halves found = rw found refl

read_none : (halves : Option Halves) → halves ≡ None → option_and_then measured_by halves ≡ None
read_none halves none = rw none refl

read_some : (halves : Option Halves) (before units : List Text) → halves ≡ Some (halves_of before units) → option_and_then measured_by halves ≡ option_and_then (λ entry. option_and_then (measured_with entry) (numbers units)) (entry_of Two before)
read_some halves before units found = rw found refl

pub no_units_in : (front rest : List Text) → all_lack 105 front ≡ true → halves_at (codes "units") rest ≡ None → measured_of (front ++ codes "=" ∷ rest) ≡ None
no_units_in front rest all none = grind (arith, units_after, mapped_none, read_none)

with_units : (front rest reply units : List Text) → all_lack 105 front ≡ true → halves_at (codes "units") rest ≡ Some (record { before = reply; after = units })
    → measured_of (front ++ codes "=" ∷ rest) ≡ option_and_then (λ entry. option_and_then (measured_with entry) (numbers units)) (entry_of Two (front ++ codes "=" ∷ reply))
with_units front rest reply units no_units found = grind (arith, units_after, mapped_some, read_some)

none_by : (entry : Option Entry) (units : List Text) → ((entry : Entry) → option_and_then (measured_with entry) (numbers units) ≡ None) → option_and_then (λ entry. option_and_then (measured_with entry) (numbers units)) entry ≡ None
none_by None units none = refl
none_by (Some entry) units none = none entry

pub wrong_units : (front rest reply units : List Text) → all_lack 105 front ≡ true → halves_at (codes "units") rest ≡ Some (record { before = reply; after = units })
    → ((entry : Entry) → option_and_then (measured_with entry) (numbers units) ≡ None) → measured_of (front ++ codes "=" ∷ rest) ≡ None
wrong_units front rest reply units no_units found none = with_units front rest reply units no_units found ∙ none_by (entry_of Two (front ++ codes "=" ∷ reply)) units none

entry_read : (front reply : List Text) (entry : Option Entry) → all_lack 61 front ≡ true → entry_by Two (record { before = front; after = reply }) ≡ entry → entry_of Two (front ++ codes "=" ∷ reply) ≡ entry
entry_read front reply entry all is = entry_is Two front reply all ∙ is

some_by : (entry : Entry) (found : Option Entry) (units : List Text) (a b : ℕ) → found ≡ Some entry → numbers units ≡ Some (a ∷ b ∷ [])
    → option_and_then (λ entry. option_and_then (measured_with entry) (numbers units)) found ≡ Some (record { entry = entry; mutator = a; collector = b })
some_by entry found units a b is two = rw (is, two) refl

missing_by : (found : Option Entry) (units : List Text) → found ≡ None → option_and_then (λ entry. option_and_then (measured_with entry) (numbers units)) found ≡ None
missing_by found units is = rw is refl

pub measured_some : (front rest reply units : List Text) (entry : Entry) (a b : ℕ) → all_lack 61 front ≡ true → all_lack 105 front ≡ true → halves_at (codes "units") rest ≡ Some (record { before = reply; after = units })
    → entry_by Two (record { before = front; after = reply }) ≡ Some entry → numbers units ≡ Some (a ∷ b ∷ []) → measured_of (front ++ codes "=" ∷ rest) ≡ Some (record { entry = entry; mutator = a; collector = b })
measured_some front rest reply units entry a b no_equals no_units found is two =
    with_units front rest reply units no_units found ∙ some_by entry (entry_of Two (front ++ codes "=" ∷ reply)) units a b (entry_read front reply (Some entry) no_equals is) two

pub measured_none : (front rest reply units : List Text) → all_lack 61 front ≡ true → all_lack 105 front ≡ true → halves_at (codes "units") rest ≡ Some (record { before = reply; after = units })
    → entry_by Two (record { before = front; after = reply }) ≡ None → measured_of (front ++ codes "=" ∷ rest) ≡ None
measured_none front rest reply units no_equals no_units found is =
    with_units front rest reply units no_units found ∙ missing_by (entry_of Two (front ++ codes "=" ∷ reply)) units (entry_read front reply None no_equals is)

has_some : {X : Type 0} (found : Option X) (x : X) → found ≡ Some x → IsSome found
has_some found x is = rw is refl

pub measured_memory : (front rest reply units : List Text) (a b : ℕ) → all_lack 61 front ≡ true → all_lack 105 front ≡ true → halves_at (codes "units") rest ≡ Some (record { before = reply; after = units })
    → IsSome (entry_by Two (record { before = front; after = reply })) → numbers units ≡ Some (a ∷ b ∷ []) → IsSome (measured_of (front ++ codes "=" ∷ rest))
measured_memory front rest reply units a b no_equals no_units found some two = memory_by (entry_by Two (record { before = front; after = reply })) refl some where
  memory_by : (entry : Option Entry) → entry_by Two (record { before = front; after = reply }) ≡ entry → IsSome entry → IsSome (measured_of (front ++ codes "=" ∷ rest))
  memory_by None is none = absurd cc
  memory_by (Some entry) is none = has_some (measured_of (front ++ codes "=" ∷ rest)) (record { entry = entry; mutator = a; collector = b }) (measured_some front rest reply units entry a b no_equals no_units found is two)

-- the same of an entry that is done
pub done_some : (front units : List Text) (entry : Entry) (a b : ℕ) → all_lack 61 front ≡ true → all_lack 105 front ≡ true → entry_by Two (record { before = front; after = codes "ok" ∷ [] }) ≡ Some entry → numbers units ≡ Some (a ∷ b ∷ [])
    → measured_of (front ++ codes "=" ∷ codes "ok" ∷ codes "units" ∷ units) ≡ Some (record { entry = entry; mutator = a; collector = b })
done_some front units entry a b no_equals no_units is two = measured_some front (codes "ok" ∷ codes "units" ∷ units) (codes "ok" ∷ []) units entry a b no_equals no_units refl is two

pub done_none : (front units : List Text) → all_lack 61 front ≡ true → all_lack 105 front ≡ true → entry_by Two (record { before = front; after = codes "ok" ∷ [] }) ≡ None
    → measured_of (front ++ codes "=" ∷ codes "ok" ∷ codes "units" ∷ units) ≡ None
done_none front units no_equals no_units is = measured_none front (codes "ok" ∷ codes "units" ∷ units) (codes "ok" ∷ []) units no_equals no_units refl is

pub done_wrong : (front units : List Text) → all_lack 105 front ≡ true → ((entry : Entry) → option_and_then (measured_with entry) (numbers units) ≡ None)
    → measured_of (front ++ codes "=" ∷ codes "ok" ∷ codes "units" ∷ units) ≡ None
done_wrong front units no_units none = wrong_units front (codes "ok" ∷ codes "units" ∷ units) (codes "ok" ∷ []) units no_units refl none

-- Lines ------------------------------------------------------------------------------------------

pub line_words : (line before after : Text) → IsAroundEquals line before after → words line ≡ words before ++ codes "=" ∷ words after
line_words line before after around = grind (arith, words_then)

pub lacks_equals : (line before after : Text) → IsAroundEquals line before after → all_lack 61 (words before) ≡ true
lacks_equals line before after around = words_lack 61 before around.first

pub lacks_units : (text : Text) → cut_after 105 text ≡ record { pieces = []; rest = text } → all_lack 105 (words text) ≡ true
lacks_units text none = words_lack 105 text (lacks_of 105 text none)

pub entry_around : (version : Version) (line before after : Text) → IsAroundEquals line before after → entry_of version (words line) ≡ entry_by version (record { before = words before; after = words after })
entry_around version line before after around =
    ap (entry_of version) (line_words line before after around) ∙ entry_is version (words before) (words after) (lacks_equals line before after around)

pub measured_around : (line before after : Text) → IsAroundEquals line before after → measured_of (words line) ≡ measured_of (words before ++ codes "=" ∷ words after)
measured_around line before after around = ap measured_of (line_words line before after around)

pub entry_ok : (version : Version) (line before after : Text) → IsAroundEquals line before after → is_text after (codes "ok") ≡ true → entry_of version (words line) ≡ entry_by version (record { before = words before; after = codes "ok" ∷ [] })
entry_ok version line before after around is =
    let ok : after ≡ codes "ok" = text_is after (codes "ok") is in
    entry_around version line before after around ∙ ap (λ (t : Text). entry_by version (halves_of (words before) (words t))) ok

pub units_after_ok : (rest : Text) → is_text (take 9 rest) (codes "ok units ") ≡ true → words rest ≡ codes "ok" ∷ codes "units" ∷ words (take (length rest - 9) (drop 9 rest))
units_after_ok rest is =
    let front : take 9 rest ≡ codes "ok units " = text_is (take 9 rest) (codes "ok units ") is in
    let whole : rest ≡ codes "ok units " ++ drop 9 rest = sym (take-append-drop 9 rest) ∙ ap (λ (t : Text). t ++ drop 9 rest) front in
    let cut : words (codes "ok units " ++ drop 9 rest) ≡ codes "ok" ∷ codes "units" ∷ words (drop 9 rest) =
    words_then (codes "ok") (codes "units " ++ drop 9 rest) ∙ ap (λ (more : List Text). codes "ok" ∷ more) (words_then (codes "units") (drop 9 rest)) in
    rw take_rest (ap words whole ∙ cut)

-- a text that ends with a space
ends_at : (text : Text) (n : ℕ) → length text ≡ suc n → get_or text n 0 ≡ 32 → text ≡ take n text ++ 32 ∷ []
ends_at [] n long is = absurd (omega arith)
ends_at (b ∷ []) zero long is = ap (λ (c : ℕ). c ∷ []) is
ends_at (b ∷ []) (suc n) long is = absurd (omega arith)
ends_at (b ∷ next ∷ text) zero long is = absurd (omega arith)
ends_at (b ∷ next ∷ text) (suc n) long is = ap (λ (t : Text). b ∷ t) (ends_at (next ∷ text) n (omega arith) is)

begins_with : (text : Text) → 0 < length text → get_or text 0 0 ≡ 32 → text ≡ 32 ∷ drop 1 text
begins_with [] some is = absurd (omega arith)
begins_with (b ∷ text) some is = ap (λ (c : ℕ). c ∷ text) is

around_equals : (line front back : Text) (n : ℕ) → line ≡ front ++ 61 ∷ back → cut_after 61 front ≡ record { pieces = []; rest = front } → length front ≡ suc n → get_or front n 0 ≡ 32
    → 0 < length back → get_or back 0 0 ≡ 32 → IsAroundEquals line (take n front) (drop 1 back)
around_equals line front back n whole first long ends some begins =
    let front_is = ends_at front n long ends in
    let all : lacks 61 (take n front ++ 32 ∷ []) ≡ true = ap (lacks 61) (sym front_is) ∙ lacks_of 61 front first in
    grind (arith, begins_with, append_assoc, lacks_first)

one_less : (text : Text) → 0 < length text → length text ≡ suc (length text - 1)
one_less text some = omega arith

pub around_cut : (line front back : Text) → line ≡ front ++ 61 ∷ back → cut_after 61 front ≡ record { pieces = []; rest = front } → 0 < length front → get_or front (length front - 1) 0 ≡ 32
    → 0 < length back → get_or back 0 0 ≡ 32 → IsAroundEquals line (take (length front - 1) front) (take (length back - 1) (drop 1 back))
around_cut line front back whole first full ends some begins = rw take_rest (around_equals line front back (length front - 1) whole first (one_less front full) ends some begins)

pub some_of : (text : Text) → (length text == 0) ≡ false → 0 < length text
some_of [] is = absurd cc
some_of (b ∷ text) is = omega arith
