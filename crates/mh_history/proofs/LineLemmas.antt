-- Lines that are entries, one after another.
use Rattle.std.proofs.Common.{◌≡◌, ℕ, suc, ◌+◌, Option, Some, None, IsSome, List, [], ◌∷◌, ◌++◌, length, take, ap, sym, refl, ◌∙◌, append_assoc, arith}
use Rattle.std.proofs.{lemmas.List.length-append, Math.Seq.take-append-add}
use Rattle.mh_model.specs.{Bytes.Text, Script.{Reading, BadLine, Means, reading_map, at_end}, HistoryTexts.entries_from}
use Rattle.mh_text.specs.Pieces.{Lines, TakesLine}
use Rattle.mh_history.specs.Beginnings.{entries_left, entry_before, HasEntry, TakesEntry}

-- One line ---------------------------------------------------------------------------------------

entry_line : {X : Type 0} (read : Text → Option X) (n : ℕ) (line : Text) (lines : List Text) (rest : Text) (entry : X) → read line ≡ Some entry
    → entries_from read n (line ∷ lines) rest ≡ entry_before entry (entries_from read (suc n) lines rest)
entry_line read n line lines rest entry is = rw (is, entries_from) refl

bad_line : {X : Type 0} (read : Text → Option X) (n : ℕ) (line : Text) (lines : List Text) (rest : Text) → read line ≡ None → entries_from read n (line ∷ lines) rest ≡ BadLine n
bad_line read n line lines rest is = rw (is, entries_from) refl

pub line_taken : {X : Type 0} (read : Text → Option X) (old new : Lines) (n : ℕ) (line : Text) (entry : X) → TakesLine old new n line → read line ≡ Some entry → TakesEntry read old new entry
line_taken read old new n line entry takes is = grind arith

pub entry_taken : {X : Type 0} (read : Text → Option X) (old new : Lines) (entry : X) → TakesEntry read old new entry → entries_left read old ≡ entry_before entry (entries_left read new)
entry_taken read old new entry took = grind (arith, entry_line)

pub line_bad : {X : Type 0} (read : Text → Option X) (old new : Lines) (n : ℕ) (line : Text) → TakesLine old new n line → read line ≡ None → entries_left read old ≡ BadLine n
line_bad read old new n line takes is = grind (arith, bad_line)

pub lines_end : {X : Type 0} (read : Text → Option X) (old : Lines) → old.lines ≡ [] → old.rest ≡ [] → entries_left read old ≡ Means []
lines_end read old no_lines no_rest = rw (no_lines, no_rest) refl

bad_rest : {X : Type 0} (n : ℕ) (rest : Text) → (rest ≡ [] → ⊥) → at_end {X = List X} [] n rest ≡ BadLine n
bad_rest n [] some = absurd (some refl)
bad_rest n (byte ∷ rest) some = refl

pub rest_bad : {X : Type 0} (read : Text → Option X) (old : Lines) → old.lines ≡ [] → (old.rest ≡ [] → ⊥) → entries_left read old ≡ BadLine old.number
rest_bad {X} read old no_lines some = rw no_lines (bad_rest {X = X} old.number old.rest some)

-- Lines ------------------------------------------------------------------------------------------

-- a reading after entries
abbrev pub with_entries : {X : Type 0} → List X → Reading (List X) → Reading (List X)
with_entries entries r = reading_map (λ more. entries ++ more) r

-- lines that were read are these entries
pub record Walked {X : Type 0} (read : Text → Option X) (old new : Lines) (entries : List X) : Type 0 where
  pub head : List Text
  pub lines : old.lines ≡ head ++ new.lines
  pub after : new.rest ≡ old.rest
  pub reads : (more : List Text) (rest : Text) → entries_from read old.number (head ++ more) rest ≡ with_entries entries (entries_from read new.number more rest)

same_reading : {X : Type 0} (r : Reading (List X)) → r ≡ with_entries [] r
same_reading (BadLine n) = refl
same_reading (Means entries) = refl

pub walked_start : {X : Type 0} (read : Text → Option X) (old : Lines) → Walked read old old []
walked_start read old = record { head = []; lines = refl; after = refl; reads = λ more rest. same_reading (entries_from read old.number more rest) }

entries_twice : {X : Type 0} (entries : List X) (entry : X) (r : Reading (List X)) → with_entries entries (entry_before entry r) ≡ with_entries (entries ++ entry ∷ []) r
entries_twice entries entry (BadLine n) = refl
entries_twice entries entry (Means more) = ap Means (sym (append_assoc entries (entry ∷ []) more))

pub walked_more : {X : Type 0} (read : Text → Option X) (old mid new : Lines) (entries kept : List X) (entry : X) → Walked read old mid entries → TakesEntry read mid new entry → kept ≡ entries ++ entry ∷ []
    → Walked read old new kept
walked_more read old mid new entries kept entry done took pushed = record {
  head = done.head ++ took.line ∷ [];
  lines = done.lines ∙ rw took.takes.taken (sym (append_assoc done.head (took.line ∷ []) new.lines));
  after = took.takes.after ∙ done.after;
  reads = λ more rest. rw (append_assoc, pushed)
      (done.reads (took.line ∷ more) rest
      ∙ (ap (with_entries entries) (entry_line read mid.number took.line more rest entry took.reads) ∙ rw took.takes.counted (entries_twice entries entry (entries_from read (suc mid.number) more rest))));
}

pub walked_whole : {X : Type 0} (read : Text → Option X) (old mid : Lines) (entries : List X) → Walked read old mid entries → entries_left read old ≡ with_entries entries (entries_left read mid)
walked_whole read old mid entries done = rw (done.lines, ← done.after) (done.reads mid.lines mid.rest)

-- Memory -----------------------------------------------------------------------------------------

-- lines that begin with an entry, after lines that are entries, do so too
pub walked_entry : {X : Type 0} (read : Text → Option X) (old mid : Lines) (entries : List X) → Walked read old mid entries → HasEntry read mid → HasEntry read old
walked_entry read old mid entries done has = record {
  count = length done.head + has.count;
  entries = entries ++ has.entries;
  reads = rw (done.lines, take-append-add done.head mid.lines has.count) (done.reads (take has.count mid.lines) [] ∙ ap (with_entries entries) has.reads);
  some = omega (arith, length-append entries has.entries, has.some);
}

pub taken_entry : {X : Type 0} (read : Text → Option X) (old new : Lines) (entry : X) → TakesEntry read old new entry → HasEntry read old
taken_entry read old new entry took = record {
  count = 1;
  entries = entry ∷ [];
  reads = rw took.takes.taken (entry_line read old.number took.line [] [] entry took.reads);
  some = omega arith;
}

pub line_entry : {X : Type 0} (read : Text → Option X) (old new : Lines) (n : ℕ) (line : Text) → TakesLine old new n line → IsSome (read line) → HasEntry read old
line_entry {X} read old new n line takes some = by_read (read line) refl some where
  by_read : (found : Option X) → read line ≡ found → IsSome found → HasEntry read old
  by_read None is some = cc
  by_read (Some entry) is some = taken_entry read old new entry (line_taken read old new n line entry takes is)
