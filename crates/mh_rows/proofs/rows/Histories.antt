-- Histories of two sessions that are legal, verdicts that are none, who owns entries, and what a race may write.
use Rattle.std.proofs.Common.{◌≡◌, ◌==◌, ap, arith, codes, List, [], ◌∷◌, length, map, take, lit≤, refl, Bool, true, false, get_or, suc, zero, ℕ}
use Rattle.std.proofs.lemmas.Bool.{ne_eqb}
use Rattle.mh_model.specs.declared.command.Command.TheVariants.{Clear, New, Write, Post, Take, Shape}
use Rattle.mh_model.specs.{declared.command.Event.Event, declared.history.Entry.Entry}
use Rattle.mh_model.specs.declared.history.Measured.{Measured}
use Rattle.mh_model.specs.{declared.history.Verdict.TheVariants.{Refused, Legal, FirstBad}, declared.reply.Reply.Reply}
use Rattle.mh_model.specs.{declared.reply.Refusal.TheVariants.Null, History.{IsLegal, IsFirstBadOf, owner_of, owned_by}}
use Rattle.mh_model.specs.HistoryTexts.{history_reading, IsChecked, IsLegalRecord, machine_record}
use Rattle.mh_model.specs.{Limits.most_entries, Machine.{first_machine, machine_replies}}
use Rattle.mh_model.specs.{Races.{HasTheCalls, BeginsTheCalls, IsRaced, IsRaceBegun}, Script.Meaning}
use Rattle.mh_rows.proofs.rows.Worked.{a, b, four_pages, session, stat, worked}

abbrev entry : Event → Reply → Entry
entry event reply = record { event = event; reply = reply }

-- an object that the one session posts and the other takes, and what the other is answered of its shape
abbrev posted : Reply → List Entry
posted told = entry (a (New 0 0 1)) Reply.Done ∷ entry (a (Write 0 0 5)) Reply.Done ∷ entry (a (Post 0 0)) Reply.Done ∷ entry (b (Take 0 0)) Reply.Done ∷ entry (b (Shape 0)) told ∷ []

-- Legal ------------------------------------------------------------------------------------------

-- a history of two sessions is legal
-- refuses: the heap's Shape gives fields the other way round; a number is tested by references
pub legal : IsLegal four_pages (posted (Reply.Shape (record { references = 0; numbers = 1 })))
unfolding worked
legal = record { few = lit≤ tt; replies = refl }

abbrev is_shape : Reply → Bool
is_shape (Reply.Shape shape) = true
is_shape _ = false

told_of : List Reply → Bool
told_of replies = is_shape (get_or replies 4 Reply.Done)

-- the history with another last reply is not legal
-- refuses: every short history is legal
pub illegal : ¬ IsLegal four_pages (posted (Reply.Refused Null))
unfolding worked told_of
illegal legal = let bad : false ≡ true = ap told_of legal.replies in cc

-- the last entry of that history is the first bad one
-- refuses: the first bad entry is counted from 0; a number is tested by references
pub bad_at_last : IsFirstBadOf (IsLegal four_pages) (posted (Reply.Refused Null)) 5
unfolding worked
bad_at_last = record { counted = lit≤ tt; within = lit≤ tt; before = record { few = lit≤ tt; replies = refl }; bad = illegal }

-- a legal history may have 1,000,000 entries
-- refuses: a history of a million entries is too long
pub all_entries : (entries : List Entry) → length entries ≡ 1000000 → map (λ entry. entry.reply) entries ≡ machine_replies (first_machine four_pages) (map (λ entry. entry.event) entries) → IsLegal four_pages entries
unfolding most_entries
all_entries entries count same = record { few = omega arith; replies = same }

-- a legal history has 1,000,000 entries at most
-- refuses: an entry more than a million is legal
pub one_entry_more : (entries : List Entry) → length entries ≡ 1000001 → IsLegal four_pages entries → ⊥
unfolding most_entries
one_entry_more entries count legal = let few = legal.few in omega arith

-- a legal history of version 2 may have 1,000,000 entries
-- refuses: a record of a million entries is too long
pub all_measured_entries : (entries : List Measured) → length entries ≡ 1000000 → entries ≡ machine_record (first_machine four_pages) (map (λ measured. measured.entry.event) entries) → IsLegalRecord four_pages entries
unfolding most_entries
all_measured_entries entries count same = record { few = omega arith; same = same }

-- a legal history of version 2 has 1,000,000 entries at most
-- refuses: a record with an entry more than a million is legal
pub one_measured_entry_more : (entries : List Measured) → length entries ≡ 1000001 → IsLegalRecord four_pages entries → ⊥
unfolding most_entries
one_measured_entry_more entries count legal = let few = legal.few in omega arith

-- No verdicts ------------------------------------------------------------------------------------

-- the count of entries is compared
-- refuses: any count may be reported
pub another_count : IsChecked four_pages (codes "history 1\n") (Legal 1) → ⊥
unfolding history_reading worked
another_count judged = let same : ◌≡◌ {A = ℕ} 1 0 = judged.1 in cc

-- a history without a bad line is not refused
-- refuses: any history may be refused
pub refused_without_a_bad_line : IsChecked four_pages (codes "history 1\n") (Refused 1) → ⊥
unfolding history_reading worked
refused_without_a_bad_line judged = judged

-- a text with a bad line is not judged
-- refuses: a text with a bad line may have any verdict
pub legal_with_a_bad_line : IsChecked four_pages (codes "") (Legal 0) → ⊥
unfolding history_reading worked
legal_with_a_bad_line judged = cc

-- a text with a bad line is refused with no other line
-- refuses: a text may be refused with any line
pub another_line : IsChecked four_pages (codes "") (Refused 2) → ⊥
unfolding history_reading worked
another_line judged = cc

-- a good entry is no first bad one
-- refuses: a first bad entry may be good
pub good_entry : IsChecked four_pages (codes "history 1\ns0 clear 0 = ok\n") (FirstBad 1) → ⊥
unfolding history_reading worked
good_entry judged = judged.bad (record { few = lit≤ tt; replies = refl })

-- a bad entry that follows another is not the first
-- refuses: the first bad entry may have bad ones before it
pub second_bad_entry : IsChecked four_pages (codes "history 1\ns0 clear 0 = yes\ns0 clear 0 = no\n") (FirstBad 2) → ⊥
unfolding history_reading worked
second_bad_entry judged = let same : Reply.Yes ∷ [] ≡ Reply.Done ∷ [] = judged.before.replies in cc

-- Owners -----------------------------------------------------------------------------------------

-- the entries of the first session
-- refuses: a seat owns the entries of the others
pub owned_by_first : owned_by (λ (entry : Entry). owner_of entry.event) 0 (posted Reply.Done) ≡ take 3 (posted Reply.Done)
owned_by_first = refl

-- the desk owns no entry of a session
-- refuses: a seat owns the entries of the others
pub owned_by_desk : owned_by (λ (entry : Entry). owner_of entry.event) 8 (posted Reply.Done) ≡ []
owned_by_desk = refl

-- the desk owns the controls and the commands of sessions past the eighth, and each session its own
-- refuses: session 8 owns what it asks; session 7 is the desk's
pub owned_by_the_desk : owner_of (session 8 (Clear 0)) ∷ owner_of (session 9 (Clear 0)) ∷ owner_of (session 7 (Clear 0)) ∷ owner_of (session 0 (Clear 0)) ∷ owner_of stat ∷ [] ≡ 8 ∷ 8 ∷ 7 ∷ 0 ∷ 8 ∷ []
owned_by_the_desk = refl

-- Races ------------------------------------------------------------------------------------------

-- the same commands in a script
abbrev two_sessions : Meaning
two_sessions = record { config = four_pages; events = map (λ (entry : Entry). entry.event) (posted Reply.Done) }

abbrev told : Event → Reply → Measured
told event answer = record { entry = entry event answer; mutator = 1; collector = 0 }

-- the two sessions are no others
first_is : (seat : ℕ) → 0 == suc (suc seat) ≡ false
first_is seat = ne_eqb 0 (suc (suc seat)) (λ e. omega (arith, e))

second_is : (seat : ℕ) → 1 == suc (suc seat) ≡ false
second_is seat = ne_eqb 1 (suc (suc seat)) (λ e. omega (arith, e))

-- the first session's calls, and then those of the second
abbrev in_turn : List Measured
in_turn = map (λ (entry : Entry). told entry.event entry.reply) (posted (Reply.Shape (record { references = 0; numbers = 1 })))

in_turn_calls : HasTheCalls two_sessions.events in_turn
in_turn_calls is = grind (arith, first_is, second_is)

-- the second session may find what the first has posted
-- refuses: a race writes the first version; a race is under the first rules
pub one_after_the_other : IsRaced two_sessions (codes "history 2 rules 2 4 209 0 0\ns0 new 0 0 1 = ok units 1 0\ns0 write 0 0 5 = ok units 1 0\ns0 post 0 0 = ok units 1 0\ns1 take 0 0 = ok units 1 0\ns1 shape 0 = shape 0 1 units 1 0\n")
unfolding machine_record worked
one_after_the_other = record { entries = in_turn; legal = record { few = lit≤ tt; same = refl }; calls = in_turn_calls; text = refl }

-- the same calls, the second session's among those of the first
abbrev mixed : List Measured
mixed = told (a (New 0 0 1)) Reply.Done ∷ told (b (Take 0 0)) Reply.Done ∷ told (a (Write 0 0 5)) Reply.Done ∷ told (b (Shape 0)) (Reply.Refused Null) ∷ told (a (Post 0 0)) Reply.Done ∷ []

mixed_calls : HasTheCalls two_sessions.events mixed
mixed_calls is = grind (arith, first_is, second_is)

-- the second session may find nothing, if its calls came earlier
-- refuses: all calls are in the order of the script
pub one_among_the_other : IsRaced two_sessions (codes "history 2 rules 2 4 209 0 0\ns0 new 0 0 1 = ok units 1 0\ns1 take 0 0 = ok units 1 0\ns0 write 0 0 5 = ok units 1 0\ns1 shape 0 = refused 2 null units 1 0\ns0 post 0 0 = ok units 1 0\n")
unfolding machine_record worked
one_among_the_other = record { entries = mixed; legal = record { few = lit≤ tt; same = refl }; calls = mixed_calls; text = refl }

-- the calls of a session stay in the script's order
-- refuses: only the numbers of calls count
pub calls_exchanged : ¬ HasTheCalls two_sessions.events (told (a (Write 0 0 5)) (Reply.Refused Null) ∷ told (a (New 0 0 1)) Reply.Done ∷ told (a (Post 0 0)) Reply.Done ∷ told (b (Take 0 0)) Reply.Done ∷ told (b (Shape 0)) (Reply.Refused Null) ∷ [])
calls_exchanged calls = let bad : a (Write 0 0 5) ∷ a (New 0 0 1) ∷ a (Post 0 0) ∷ [] ≡ a (New 0 0 1) ∷ a (Write 0 0 5) ∷ a (Post 0 0) ∷ [] = calls 0 in cc

-- no call is left out
-- refuses: a race may lack calls
pub call_left_out : ¬ HasTheCalls two_sessions.events (told (a (New 0 0 1)) Reply.Done ∷ told (a (Write 0 0 5)) Reply.Done ∷ told (a (Post 0 0)) Reply.Done ∷ told (b (Take 0 0)) Reply.Done ∷ [])
call_left_out calls = let bad : b (Take 0 0) ∷ [] ≡ b (Take 0 0) ∷ b (Shape 0) ∷ [] = calls 1 in cc

-- a seat without calls in the script makes none
-- refuses: the desk may have other calls
pub call_of_the_desk : ¬ HasTheCalls two_sessions.events (told (session 8 (Shape 0)) (Reply.Refused Null) ∷ in_turn)
call_of_the_desk calls = let bad : session 8 (Shape 0) ∷ [] ≡ [] = calls 8 in cc

-- a session that stopped has made the first of its calls
-- refuses: the last calls are made first
pub begun_calls : BeginsTheCalls two_sessions.events (told (b (Take 0 0)) Reply.Done ∷ told (a (New 0 0 1)) Reply.Done ∷ [])
begun_calls zero = (a (Write 0 0 5) ∷ a (Post 0 0) ∷ [], refl)
begun_calls (suc zero) = (b (Shape 0) ∷ [], refl)
begun_calls (suc (suc seat)) = ([], rw (first_is seat) (rw (second_is seat) refl))

-- what a race that stopped wrote may end anywhere
-- refuses: a prefix is the whole
pub race_begun : IsRaceBegun two_sessions (codes "history 2 rules 2 4 209 0 0\ns1 take 0 0 = ok units 1 0\ns0 ne")
unfolding machine_record worked
race_begun = record {
  entries = told (b (Take 0 0)) Reply.Done ∷ told (a (New 0 0 1)) Reply.Done ∷ [];
  legal = record { few = lit≤ tt; same = refl };
  calls = begun_calls;
  rest = codes "w 0 0 1 = ok units 1 0\n";
  text = refl;
}

-- a later call is not made without those before it
-- refuses: any of the calls may be made
pub later_call_alone : ¬ BeginsTheCalls two_sessions.events (told (b (Shape 0)) (Reply.Refused Null) ∷ [])
later_call_alone calls = let bad : b (Shape 0) ∷ (calls 1).0 ≡ b (Take 0 0) ∷ b (Shape 0) ∷ [] = (calls 1).1 in cc
