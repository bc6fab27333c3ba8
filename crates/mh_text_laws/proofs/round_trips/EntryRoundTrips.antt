-- Entries are read as they were written.
use Rattle.std.proofs.Common.{option_to_list, ◌≡◌, ℕ, ◌<◌, ◌^◌, nat_lt, nat_le, not, ◌&&◌, Bool, true, false, Option, Some, List, [], ◌∷◌, ◌++◌, length, map, flat_map, ap, ◌∙◌, refl, decimal, codes, arith, length-append, append-nil, subst}
use Rattle.std.proofs.lemmas.Bool.{and_parts, and_from, not-true, ltb-true, leb-true}
use Rattle.std.specs.List.{list_all}
use Rattle.mh_model.specs.{declared.command.Command.Command, declared.command.Control.Control}
use Rattle.mh_model.specs.{declared.command.Event.Event, declared.reply.Reply.Reply, declared.reply.Refusal.Refusal}
use Rattle.mh_model.specs.{declared.cycle.Phase.Phase, declared.dump.DumpItem.DumpItem, declared.history.Entry.Entry}
use Rattle.mh_model.specs.Bytes.{Text, is_text, is_digit, words, joined}
use Rattle.mh_model.specs.Forms.{u32, u64, Phrase, phrase_words, is_sayable, command_phrase, control_phrase}
use Rattle.mh_model.specs.{declared.history.Version.Version, declared.history.Version.TheVariants.{One, Two}}
use Rattle.mh_model.specs.Replies.{refusal_words, phase_word, flag_word, placed_word, item_words, optional_word, reply_words, are_u64, item_numbers, items_in_range, is_reply}
use Rattle.mh_model.specs.HistoryTexts.{event_words, entry_words, measured_words, is_event, is_entry, is_measured, event_of, halves_at, entry_of, measured_of}
use Rattle.mh_model.specs.declared.history.Measured.{Measured}
use Rattle.mh_text_laws.proofs.{PhraseLemmas.{command_passes, control_passes}, ListLemmas.{all_weaker, all-append}}
use Rattle.mh_text_laws.proofs.round_trips.WordRoundTrips.{number-decimal, numbers-decimal, decimal_word, is_word, are_words, words-joined, all-decimals, are_small, digit_other, is_numbered, numbered_first}
use Rattle.mh_text_laws.proofs.round_trips.ReplyRoundTrips.{small_numbers, command_of-words, control_of-words, reply_of-words}

-- Plain words ------------------------------------------------------------------------------------

-- a word that is no mark of an entry
abbrev is_plain : Text → Bool
is_plain word = is_word word && (not (is_text word (codes "=")) && not (is_text word (codes "units")))

abbrev are_plain : List Text → Bool
are_plain words = list_all is_plain words

abbrev are_not : Text → List Text → Bool
are_not mark words = list_all (λ word. not (is_text word mark)) words

plain_words : (ws : List Text) → are_plain ws ≡ true → are_words ws ≡ true
plain_words ws h = all_weaker is_plain is_word ws (λ w k. (and_parts _ _ k).0) h

plain_equals : (ws : List Text) → are_plain ws ≡ true → are_not (codes "=") ws ≡ true
plain_equals ws h = all_weaker is_plain (λ w. not (is_text w (codes "="))) ws (λ w k. (and_parts _ _ (and_parts _ _ k).1).0) h

plain_units : (ws : List Text) → are_plain ws ≡ true → are_not (codes "units") ws ≡ true
plain_units ws h = all_weaker is_plain (λ w. not (is_text w (codes "units"))) ws (λ w k. (and_parts _ _ (and_parts _ _ k).1).1) h

-- a word that begins with a digit is no mark
no_mark : (c : ℕ) (cs word : Text) → is_digit c ≡ false → is_numbered word ≡ true → not (is_text word (c ∷ cs)) ≡ true
no_mark c cs word no_digit numbered = grind (arith, digit_other)

plain_numbered : (word : Text) → is_word word ≡ true → is_numbered word ≡ true → is_plain word ≡ true
plain_numbered word is numbered = and_from _ _ is (and_from _ _ (no_mark 61 [] word refl numbered) (no_mark 117 (codes "nits") word refl numbered))

plain_decimal : (n : ℕ) → n < 2 ^ 64 → is_plain (decimal n) ≡ true
plain_decimal n small =
    let numbered : is_numbered (decimal n) ≡ true = subst (λ (word : Text). is_numbered word ≡ true) (append-nil (decimal n)) (numbered_first n [] small) in
    plain_numbered (decimal n) (decimal_word n small) numbered

plain_decimals : (ns : List ℕ) → are_u64 ns ≡ true → are_plain (map decimal ns) ≡ true
plain_decimals = all-decimals is_plain plain_decimal

-- a number before others
next_plain : (n : ℕ) (ns : List ℕ) (rest : Bool) → are_u64 (n ∷ ns) ≡ true → (are_u64 ns ≡ true → rest ≡ true) → (is_plain (decimal n) && rest) ≡ true
next_plain n ns rest h more = and_from _ _ (plain_decimal n (ltb-true n u64 (and_parts _ _ h).0)) (more (and_parts _ _ h).1)

-- Events -----------------------------------------------------------------------------------------

-- its verb is no mark, and its numbers have 64 bits at most
abbrev is_fine_form : Text → List ℕ → Bool
is_fine_form verb bounds = is_plain verb && list_all (λ bound. nat_le bound u64) bounds

abbrev is_fine : Phrase → Bool
is_fine said = is_fine_form said.verb said.bounds

phrase_plain : (said : Phrase) → is_fine said ≡ true → is_sayable said ≡ true → are_plain (phrase_words said) ≡ true
phrase_plain said fine h = grind (arith, and_parts, nat_le, and_from, plain_decimals, small_numbers)

fine_command : (c : Command) → is_fine (command_phrase c) ≡ true
fine_command c = command_passes is_fine_form refl c

fine_control : (c : Control) → is_fine (control_phrase c) ≡ true
fine_control c = control_passes is_fine_form refl c

small_who : (who : ℕ) → nat_le who 8 ≡ true → who < 2 ^ 64
small_who who h = omega (arith, leb-true who 8 h)

event_plain : (version : Version) (e : Event) → is_event version e ≡ true → are_plain (event_words e) ≡ true
event_plain version e h = grind (arith, and_parts, nat_le, and_from, decimal_word, small_who, phrase_plain, fine_command, fine_control)

pub event_of-words : (version : Version) (e : Event) → is_event version e ≡ true → event_of version (event_words e) ≡ Some e
event_of-words version e h = grind (arith, and_parts, nat_le, number-decimal, small_who, command_of-words, control_of-words)

-- Replies ----------------------------------------------------------------------------------------

placed_plain : (mark slot a b : ℕ) → nat_lt 32 mark ≡ true → are_u64 (slot ∷ a ∷ b ∷ []) ≡ true → is_plain (placed_word mark slot a b) ≡ true
placed_plain mark slot a b high h = grind (arith, are_small, is_word, and_from, all-append, decimal_word, plain_numbered, numbered_first)

flag_plain : (flag : Bool) → is_plain (flag_word flag) ≡ true
flag_plain flag = grind arith

phase_plain : (phase : Phase) → is_plain (phase_word phase) ≡ true
phase_plain other = grind arith

optional_plain : (n : Option ℕ) → are_u64 (option_to_list n) ≡ true → is_plain (optional_word n) ≡ true
optional_plain n h = grind (arith, plain_decimal, ltb-true, and_parts)

refusal_plain : (refusal : Refusal) → are_plain (refusal_words refusal) ≡ true
refusal_plain other = grind arith

item_plain : (i : DumpItem) → are_u64 (item_numbers i) ≡ true → are_plain (item_words i) ≡ true
item_plain i h = grind (arith, is_word, decimal_word, ltb-true, and_parts, flag_plain, and_from, placed_plain)

items_plain : (items : List DumpItem) → items_in_range items ≡ true → are_plain (flat_map item_words items) ≡ true
items_plain [] h = refl
items_plain (i ∷ items) h =
    all-append is_plain (item_words i) (flat_map item_words items) (item_plain i (and_parts _ _ h).0) (items_plain items (and_parts _ _ h).1)

reply_plain : (version : Version) (r : Reply) → is_reply version r ≡ true → are_plain (reply_words r) ≡ true
reply_plain version (Reply.Number n) h = plain_decimals (n ∷ []) h
reply_plain version (Reply.Shape shape) h = plain_decimals (shape.references ∷ shape.numbers ∷ []) (small_numbers (u32 ∷ u32 ∷ []) (shape.references ∷ shape.numbers ∷ []) h refl)
reply_plain version (Reply.Refused refusal) h = refusal_plain refusal
reply_plain version (Reply.Spent units phase) h = next_plain units [] _ h (λ end. and_from _ _ (phase_plain phase) refl)
reply_plain version (Reply.Stat stat) h =
    next_plain stat.free (stat.live ∷ stat.old ∷ stat.cycle ∷ []) _ h
    (search (arith, next_plain, and_from, phase_plain, plain_decimals))
reply_plain version (Reply.Dump items) h = items_plain items (and_parts _ _ h).0
reply_plain version (Reply.Report report) h =
    let both = and_parts (are_u64 (report.mutator ∷ report.collector ∷ report.quanta ∷ report.greatest ∷ report.window ∷ [])) (are_u64 (option_to_list report.least) && are_u64 (option_to_list report.floor)) h in
    next_plain report.mutator (report.collector ∷ report.quanta ∷ report.greatest ∷ report.window ∷ []) _ both.0
    (λ h1. next_plain report.collector (report.quanta ∷ report.greatest ∷ report.window ∷ []) _ h1
    (λ h2. next_plain report.quanta (report.greatest ∷ report.window ∷ []) _ h2
    (λ h3. next_plain report.greatest (report.window ∷ []) _ h3
    (λ h4. next_plain report.window [] _ h4
    (λ end. and_from _ _ (optional_plain report.least (and_parts _ _ both.1).0) (and_from _ _ (optional_plain report.floor (and_parts _ _ both.1).1) refl))))))
reply_plain One (Reply.Left quanta) h = cc
reply_plain Two (Reply.Left quanta) h = plain_decimals (quanta ∷ []) h
reply_plain version other h = refl

-- Entries ----------------------------------------------------------------------------------------

halves_at-words : (mark : Text) (xs ys : List Text) → is_text mark mark ≡ true → are_not mark xs ≡ true
    → halves_at mark (xs ++ mark ∷ ys) ≡ Some (record { before = xs; after = ys })
halves_at-words mark [] ys same h = rw same refl
halves_at-words mark (x ∷ xs) ys same h =
    let both = and_parts (not (is_text x mark)) (are_not mark xs) h in
    let other : is_text x mark ≡ false = not-true (is_text x mark) both.0 in
    rw (other, halves_at-words mark xs ys same both.1) refl

entry_of-words : (version : Version) (e : Entry) → is_entry version e ≡ true → entry_of version (entry_words e) ≡ Some e
entry_of-words version e h = grind (arith, and_parts, halves_at-words, plain_equals, event_plain, event_of-words, reply_of-words)

pub entry_are_words : (version : Version) (e : Entry) → is_entry version e ≡ true → are_words (entry_words e) ≡ true
entry_are_words version e h = grind (arith, all-append, is_word, plain_words, event_plain, and_parts, reply_plain)

entry_no_units : (version : Version) (e : Entry) → is_entry version e ≡ true → are_not (codes "units") (entry_words e) ≡ true
entry_no_units version e h = grind (arith, all-append, plain_units, event_plain, and_parts, reply_plain)

measured_of-words : (m : Measured) → is_measured m ≡ true → measured_of (measured_words m) ≡ Some m
measured_of-words m h =
    let both = and_parts (is_entry Two m.entry) (are_u64 (m.mutator ∷ m.collector ∷ [])) h in
    rw (
      halves_at-words (codes "units") (entry_words m.entry) (map decimal (m.mutator ∷ m.collector ∷ [])) refl (entry_no_units Two m.entry both.0),
      entry_of-words Two m.entry both.0,
      numbers-decimal (m.mutator ∷ m.collector ∷ []) both.1,
    ) refl

pub measured_are_words : (m : Measured) → is_measured m ≡ true → are_words (measured_words m) ≡ true
measured_are_words m h =
    all-append is_word (entry_words m.entry) (codes "units" ∷ decimal m.mutator ∷ decimal m.collector ∷ []) (entry_are_words Two m.entry (and_parts _ _ h).0)
    (plain_words (decimal m.mutator ∷ decimal m.collector ∷ []) (plain_decimals (m.mutator ∷ m.collector ∷ []) (and_parts _ _ h).1))

-- words of a line that isn't empty
words-line : (ws : List Text) → 0 < length ws → are_words ws ≡ true → words (joined ws) ≡ ws
words-line [] some h = absurd (omega arith)
words-line (w ∷ ws) some h = words-joined w ws h

some_event : (e : Event) → 0 < length (event_words e)
some_event e = grind arith

some_entry : (e : Entry) → 0 < length (entry_words e)
some_entry e = omega (arith, some_event e.event, length-append (event_words e.event) (codes "=" ∷ reply_words e.reply))

pub entry_of-line : (version : Version) (e : Entry) → is_entry version e ≡ true → entry_of version (words (joined (entry_words e))) ≡ Some e
entry_of-line version e h = ap (entry_of version) (words-line (entry_words e) (some_entry e) (entry_are_words version e h)) ∙ entry_of-words version e h

pub measured_of-line : (m : Measured) → is_measured m ≡ true → measured_of (words (joined (measured_words m))) ≡ Some m
measured_of-line m h = grind (arith, some_entry, length-append, words-line, measured_are_words, measured_of-words)
