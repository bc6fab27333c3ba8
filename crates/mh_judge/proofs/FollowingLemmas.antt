-- Entries that are followed as they are read.
use Rattle.std.proofs.Common.{◌≡◌, ◌∙◌, ℕ, suc, ◌+◌, ◌-◌, Option, Some, None, List, [], ◌∷◌, ◌++◌, length, take, ap, sym, refl, subst, append_assoc, length-append, arith}
use Rattle.std.proofs.lemmas.List.{length_push, take-append-le, take_at}
use Rattle.mh_history.proofs.LineLemmas.{Walked, entry_taken, line_bad, taken_entry, walked_entry, walked_more, walked_start, walked_whole, with_entries}
use Rattle.mh_history.specs.Beginnings.{HasEntry, TakesEntry, entries_left, entry_before}
use Rattle.mh_model.specs.{Bytes.Text, History.IsFirstBadOf, HistoryTexts.entries_from}
use Rattle.mh_model.specs.Script.{Reading, BadLine, Means, at_end, reading_map}
use Rattle.mh_text.specs.Pieces.{Lines, TakesLine}
use Rattle.mh_judge.specs.{declared.bad_entry.BadEntry.BadEntry, declared.entry_fault.EntryFault.EntryFault}
use Rattle.mh_judge.specs.{Faults.HasFault, Judgements.HistoryJudgement, Following.{AreRead, IsBadEntry, whole}}
use Rattle.mh_judge.specs.Auxiliary.{IsJudgement}

-- Lines ------------------------------------------------------------------------------------------

takes_whole : (old new : Lines) (n : ℕ) (line : Text) → TakesLine old new n line → TakesLine (whole old) (whole new) n line
takes_whole old new n line takes = record { numbered = takes.numbered; taken = takes.taken; after = refl; counted = takes.counted }

pub whole_bad : {X : Type 0} (read : Text → Option X) (old new : Lines) (n : ℕ) (line : Text) → TakesLine old new n line → read line ≡ None → entries_left read (whole old) ≡ BadLine n
whole_bad read old new n line takes is = line_bad read (whole old) (whole new) n line (takes_whole old new n line takes) is

entry_whole : {X : Type 0} (read : Text → Option X) (old new : Lines) (entry : X) → TakesEntry read old new entry → TakesEntry read (whole old) (whole new) entry
entry_whole read old new entry took = record { line = took.line; takes = takes_whole old new old.number took.line took.takes; reads = took.reads }

walked_lines : {X : Type 0} (read : Text → Option X) (old mid : Lines) (entries : List X) → Walked read old mid entries → entries_left read (whole old) ≡ with_entries entries (entries_left read (whole mid))
walked_lines read old mid entries done = rw done.lines (done.reads mid.lines [])

-- what stands after the last line makes one bad, whatever entries come before
end_with : {X : Type 0} (entries : List X) (more : List X) (n : ℕ) (rest : Text) → with_entries entries (at_end more n rest) ≡ at_end (entries ++ more) n rest
end_with entries more n [] = refl
end_with entries more n (byte ∷ rest) = refl

end_after : {X : Type 0} (entry : X) (more : List X) (n : ℕ) (rest : Text) → entry_before entry (at_end more n rest) ≡ at_end (entry ∷ more) n rest
end_after entry more n [] = refl
end_after entry more n (byte ∷ rest) = refl

-- lines were read
pub record HasRead {X : Type 0} (read : Text → Option X) (old new : Lines) : Type 0 where
  pub entries : List X
  pub walked : Walked read old new entries

pub read_none : {X : Type 0} (read : Text → Option X) (old : Lines) → HasRead read old old
read_none read old = record { entries = []; walked = walked_start read old }

pub read_more : {X : Type 0} {read : Text → Option X} {old mid : Lines} (has : HasRead read old mid) (new : Lines) (entry : X) → TakesEntry read mid new entry → HasRead read old new
read_more {read = read} {old = old} {mid = mid} has new entry took = record { entries = has.entries ++ entry ∷ []; walked = walked_more read old mid new has.entries (has.entries ++ entry ∷ []) entry has.walked took refl }

-- an entry was read, and then all lines after it
module _ {X : Type 0} (read : Text → Option X) (old mid : Lines) (entries : List X) (done : Walked read old mid entries) (next : Lines) (entry : X) (took : TakesEntry read mid next entry) where
  pub are_read_on : (last : Lines) (more : List X) → AreRead read next last more → AreRead read old last (entries ++ entry ∷ more)
  are_read_on last more others = record {
    whole = walked_lines read old mid entries done ∙ ap (with_entries entries) (entry_taken read (whole mid) (whole next) entry (entry_whole read mid next entry took) ∙ ap (entry_before entry) others.whole);
    left = walked_whole read old mid entries done
        ∙ (ap (with_entries entries) (entry_taken read mid next entry took ∙ (ap (entry_before entry) others.left ∙ end_after entry more last.number last.rest))
        ∙ end_with entries (entry ∷ more) last.number last.rest);
    all = others.all;
  }

-- Followers --------------------------------------------------------------------------------------

-- lines were read, and their entries followed
pub record Following {X S : Type 0} (read : Text → Option X) (reading : S → Text → Option X) (Follows : List X → S → Type 0) (old new : Lines) (state : S) : Type 0 where
  pub entries : List X
  pub walked : Walked read old new entries
  pub follows : Follows entries state
  pub reads : reading state ≡ read

module _ {X S : Type 0} {read : Text → Option X} {reading : S → Text → Option X} {Follows : List X → S → Type 0} {old mid : Lines} {state : S} (following : Following read reading Follows old mid state) where
  pub took_by : (next : Lines) (entry : X) → TakesEntry (reading state) mid next entry → TakesEntry read mid next entry
  took_by next entry took = subst (λ r. TakesEntry r mid next entry) following.reads took

  pub following_more : (next : Lines) (entry : X) (after : S) → TakesEntry (reading state) mid next entry → reading after ≡ reading state → (Follows following.entries state → Follows (following.entries ++ entry ∷ []) after)
      → Following read reading Follows old next after
  following_more next entry after took same right = record {
    entries = following.entries ++ entry ∷ [];
    walked = walked_more read old mid next following.entries (following.entries ++ entry ∷ []) entry following.walked (took_by next entry took) refl;
    follows = right following.follows;
    reads = same ∙ following.reads;
  }

  pub begins_by : HasEntry (reading state) mid → HasEntry read old
  begins_by has = walked_entry read old mid following.entries following.walked (subst (λ r. HasEntry r mid) following.reads has)

  pub begins_taken : (next : Lines) (entry : X) → TakesEntry (reading state) mid next entry → HasEntry read old
  begins_taken next entry took = walked_entry read old mid following.entries following.walked (taken_entry read mid next entry (took_by next entry took))

-- The first bad one ------------------------------------------------------------------------------

module _ {X : Type 0} (entries : List X) (entry : X) (more : List X) where
  split : (entries ++ entry ∷ []) ++ more ≡ entries ++ entry ∷ more
  split = append_assoc entries (entry ∷ []) more

  pub front_with : (number : ℕ) → number ≡ length entries + 1 → take number (entries ++ entry ∷ more) ≡ entries ++ entry ∷ []
  front_with number is = ap (take number) (sym split) ∙ take_at (entries ++ entry ∷ []) more number (omega (arith, is, length_push entries entry))

  pub bad_stays : (Lawful : List X → Type 0) (Wrong : List X → X → EntryFault → Type 0) (bad : BadEntry) → IsBadEntry Lawful Wrong (entries ++ entry ∷ []) bad → IsBadEntry Lawful Wrong (entries ++ entry ∷ more) bad
  bad_stays Lawful Wrong bad is = subst (λ all. IsBadEntry Lawful Wrong all bad) split (record { first = first; fault = fault }) where
    xs : List X
    xs = entries ++ entry ∷ []

    first : IsFirstBadOf Lawful (xs ++ more) bad.number
    first =
        let before : take (bad.number - 1) (xs ++ more) ≡ take (bad.number - 1) xs = take-append-le (bad.number - 1) xs more (omega (arith, is.first.within)) in
        let with : take bad.number (xs ++ more) ≡ take bad.number xs = take-append-le bad.number xs more is.first.within in
        record {
          counted = is.first.counted;
          within = omega (arith, is.first.within, length-append xs more);
          before = subst Lawful (sym before) is.first.before;
          bad = λ lawful. is.first.bad (subst Lawful with lawful);
        }

    fault : HasFault Wrong (xs ++ more) bad.number bad.fault
    fault = record {
      before = is.fault.before;
      entry = is.fault.entry;
      after = is.fault.after ++ more;
      history_is = ap (λ (all : List X). all ++ more) is.fault.history_is ∙ append_assoc is.fault.before (is.fault.entry ∷ is.fault.after) more;
      numbered = is.fault.numbered;
      fault = is.fault.fault;
    }

-- one that was found after entries that were followed, and the lines after it
module _ {X S : Type 0} {read : Text → Option X} {reading : S → Text → Option X} {Follows : List X → S → Type 0} {old mid : Lines} {state : S} (following : Following read reading Follows old mid state) where
  pub found_bad : (Lawful : List X → Type 0) (Wrong : List X → X → EntryFault → Type 0) (Looks : List X → S → Type 0) (next last : Lines) (entry : X) (after : S) (bad : BadEntry) → TakesEntry (reading state) mid next entry → reading after ≡ reading state
      → IsBadEntry Lawful Wrong (following.entries ++ entry ∷ []) bad × (bad.number ≡ length following.entries + 1) × Looks (following.entries ++ entry ∷ []) after → (more : List X) × AreRead (reading after) next last more
      → (all : List X) × AreRead read old last all × (IsBadEntry Lawful Wrong all bad × Looks (take bad.number all) after)
  found_bad Lawful Wrong Looks next last entry after bad took same wrong more = (
    following.entries ++ entry ∷ more.0,
    are_read_on read old mid following.entries following.walked next entry (took_by following next entry took) last more.0 (subst (λ r. AreRead r next last more.0) (same ∙ following.reads) more.1),
    (
      bad_stays following.entries entry more.0 Lawful Wrong bad wrong.0,
      subst (λ es. Looks es after) (sym (front_with following.entries entry more.0 bad.number wrong.1)) wrong.2,
    ),
  )

-- What is found ----------------------------------------------------------------------------------

-- a bad whole line is bad whatever stands after the last
pub bad_whole : {X : Type 0} (read : Text → Option X) (n : ℕ) (lines : List Text) (rest : Text) (m : ℕ) → entries_from read n lines [] ≡ BadLine m → entries_from read n lines rest ≡ BadLine m
bad_whole read n [] rest m is = cc
bad_whole {X} read n (line ∷ lines) rest m is = by (read line) refl (bad_whole read (suc n) lines rest m) where
  after : (r : Reading (List X)) (entry : X) → reading_map (λ es. entry ∷ es) r ≡ BadLine m → r ≡ BadLine m
  after (BadLine k) entry same = cc
  after (Means es) entry same = cc

  by : (found : Option X) → read line ≡ found → (entries_from read (suc n) lines [] ≡ BadLine m → entries_from read (suc n) lines rest ≡ BadLine m) → entries_from read n (line ∷ lines) rest ≡ BadLine m
  by None none again = let bad : BadLine n ≡ BadLine m = rw (none, entries_from) at is in rw (none, entries_from) bad
  by (Some entry) some again = rw (some, entries_from) (ap (reading_map (λ es. entry ∷ es)) (again (after (entries_from read (suc n) lines []) entry (rw (some, entries_from) at is))))

pub bad_line : {X : Type 0} (read : Text → Option X) (left : Lines) (m : ℕ) → entries_left read (whole left) ≡ BadLine m → entries_left read left ≡ BadLine m
bad_line read left m is = bad_whole read left.number left.lines left.rest m is

module _ {X : Type 0} (read : Text → Option X) (old last : Lines) (entries : List X) (are : AreRead read old last entries) where
  pub left_whole : last.rest ≡ [] → entries_left read old ≡ Means entries
  left_whole none = are.left ∙ ap (at_end entries last.number) none

  pub left_cut : (last.rest ≡ [] → ⊥) → entries_left read old ≡ BadLine last.number
  left_cut some = are.left ∙ by last.rest some where
    by : (rest : Text) → (rest ≡ [] → ⊥) → at_end entries last.number rest ≡ BadLine last.number
    by [] none = absurd (none refl)
    by (byte ∷ rest) some = refl

module _ {X : Type 0} (Refusal : ℕ → HistoryJudgement → Type 0) (Lawful : List X → Type 0) (Wrong : List X → X → EntryFault → Type 0) (r : Reading (List X)) where
  pub judged_refused : (line : ℕ) (found : HistoryJudgement) → r ≡ BadLine line → Refusal line found → IsJudgement Refusal Lawful Wrong r found
  judged_refused line found is refusal = rw is refusal
