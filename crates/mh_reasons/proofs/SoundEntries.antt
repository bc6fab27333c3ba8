-- The words of entries are sound: none is empty, and each byte is printable and no space.
use Rattle.std.proofs.Common.{option_to_list, ◌≡◌, ℕ, ◌<◌, ◌^◌, nat_lt, nat_le, ◌&&◌, Bool, true, false, Option, Some, None, List, [], ◌∷◌, ◌++◌, flat_map, map, refl, decimal, codes, arith}
use Rattle.std.proofs.{lemmas.Bool.{and_parts, and_from, ltb-true, leb-true}, lemmas.Bool.Decides.nat_tests}
use Rattle.std.specs.List.{list_all}
use Rattle.mh_model.specs.{declared.command.Command.Command, declared.command.Control.Control}
use Rattle.mh_model.specs.{declared.command.Event.Event, declared.reply.Reply.Reply, declared.reply.Refusal.Refusal}
use Rattle.mh_model.specs.{declared.reply.Refusal.TheVariants.BadSlot, declared.cycle.Phase.Phase}
use Rattle.mh_model.specs.{declared.cycle.Phase.TheVariants.Idle, declared.dump.DumpItem.DumpItem}
use Rattle.mh_model.specs.{declared.history.Entry.Entry, declared.history.Measured.Measured}
use Rattle.mh_model.specs.{declared.history.Version.Version, declared.history.Version.TheVariants.{One, Two}}
use Rattle.mh_model.specs.Bytes.{Text, is_digit, number}
use Rattle.mh_model.specs.Forms.{u32, u64, Phrase, phrase_words, is_sayable, command_phrase, control_phrase, knows_control}
use Rattle.mh_model.specs.Replies.{refusal_words, phase_word, flag_word, placed_word, item_words, optional_word, reply_words, are_u64, item_numbers, items_in_range, ascends, is_reply}
use Rattle.mh_model.specs.HistoryTexts.{event_words, entry_words, measured_words, is_event, is_entry, is_measured}
use Rattle.mh_text_laws.proofs.{PhraseLemmas.{command_passes, control_passes}, ListLemmas.all-append}
use Rattle.mh_text_laws.proofs.round_trips.WordRoundTrips.{number-decimal, all-decimals, are_small}
use Rattle.mh_text_laws.proofs.round_trips.ReplyRoundTrips.{small_numbers}
use Rattle.mh_reasons.specs.Lines.{is_stray}
use Rattle.mh_reasons.proofs.SoundWords.{is_full, is_sound, are_sound, unsound_number}

-- Bytes ------------------------------------------------------------------------------------------

-- printable, and no space
abbrev pub is_printable : ℕ → Bool
is_printable byte = nat_lt 32 byte && nat_lt byte 127

pub printable_digit : (byte : ℕ) → is_digit byte ≡ true → is_printable byte ≡ true
printable_digit byte is = grind (arith, nat_tests)

pub printable_stray : (byte : ℕ) → is_stray byte ≡ true → is_printable byte ≡ false
printable_stray byte is = grind (arith, nat_tests)

-- Words ------------------------------------------------------------------------------------------

sound_by : (is : Bool) (word : Text) (n : ℕ) → number word ≡ Some n → is_sound is_printable word ≡ is → is ≡ true
sound_by is word n read same = grind (arith, unsound_number, printable_digit)

sound_decimal : (n : ℕ) → n < 2 ^ 64 → is_sound is_printable (decimal n) ≡ true
sound_decimal n small = sound_by (is_sound is_printable (decimal n)) (decimal n) n (number-decimal n small) refl

sound_decimals : (ns : List ℕ) → are_u64 ns ≡ true → are_sound is_printable (map decimal ns) ≡ true
sound_decimals = all-decimals (is_sound is_printable) sound_decimal

-- the bytes of a number
decimal_bytes : (n : ℕ) → n < 2 ^ 64 → list_all is_printable (decimal n) ≡ true
decimal_bytes n small = (and_parts (is_full (decimal n)) (list_all is_printable (decimal n)) (sound_decimal n small)).1

-- a number after a byte
tagged_sound : (tag n : ℕ) → is_printable tag ≡ true → n < 2 ^ 64 → is_sound is_printable (tag ∷ decimal n) ≡ true
tagged_sound tag n is small = and_from _ _ is (decimal_bytes n small)

-- a number before others
next_sound : (n : ℕ) (ns : List ℕ) (rest : Bool) → are_u64 (n ∷ ns) ≡ true → (are_u64 ns ≡ true → rest ≡ true) → (is_sound is_printable (decimal n) && rest) ≡ true
next_sound n ns rest h more = and_from _ _ (sound_decimal n (ltb-true n u64 (and_parts _ _ h).0)) (more (and_parts _ _ h).1)

-- Events -----------------------------------------------------------------------------------------

-- its verb is sound, and its numbers have 64 bits at most
abbrev is_fine_form : Text → List ℕ → Bool
is_fine_form verb bounds = is_sound is_printable verb && list_all (λ bound. nat_le bound u64) bounds

abbrev is_fine : Phrase → Bool
is_fine said = is_fine_form said.verb said.bounds

phrase_sound : (said : Phrase) → is_fine said ≡ true → is_sayable said ≡ true → are_sound is_printable (phrase_words said) ≡ true
phrase_sound said fine h = grind (arith, and_parts, is_sound, nat_le, and_from, sound_decimals, small_numbers)

fine_command : (c : Command) → is_fine (command_phrase c) ≡ true
fine_command c = command_passes is_fine_form refl c

fine_control : (c : Control) → is_fine (control_phrase c) ≡ true
fine_control c = control_passes is_fine_form refl c

small_session : (who : ℕ) → nat_le who 8 ≡ true → who < 2 ^ 64
small_session who few = omega (arith, leb-true who 8 few)

event_sound : (version : Version) (e : Event) → is_event version e ≡ true → are_sound is_printable (event_words e) ≡ true
event_sound version (Event.Session who c) h =
    let both = and_parts (nat_le who 8) (is_sayable (command_phrase c)) h in
    and_from _ _ (tagged_sound 115 who refl (small_session who both.0)) (phrase_sound (command_phrase c) (fine_command c) both.1)
event_sound version (Event.Control c) h = grind (arith, phrase_sound, fine_control, and_parts)

-- Replies ----------------------------------------------------------------------------------------

full_first : (bytes more : Text) → is_full bytes ≡ true → is_full (bytes ++ more) ≡ true
full_first bytes more is = grind arith

placed_sound : (mark slot a b : ℕ) → is_printable mark ≡ true → are_u64 (slot ∷ a ∷ b ∷ []) ≡ true → is_sound is_printable (placed_word mark slot a b) ≡ true
placed_sound mark slot a b is h = search (arith, are_small, and_parts, is_full, sound_decimal, and_from, all-append, decimal_bytes, full_first)

flag_sound : (flag : Bool) → is_sound is_printable (flag_word flag) ≡ true
flag_sound flag = grind arith

phase_sound : (phase : Phase) → is_sound is_printable (phase_word phase) ≡ true
phase_sound other = grind arith

optional_sound : (n : Option ℕ) → are_u64 (option_to_list n) ≡ true → is_sound is_printable (optional_word n) ≡ true
optional_sound n h = grind (arith, sound_decimal, ltb-true, and_parts)

refusal_sound : (refusal : Refusal) → are_sound is_printable (refusal_words refusal) ≡ true
refusal_sound other = grind arith

item_sound : (i : DumpItem) → are_u64 (item_numbers i) ≡ true → are_sound is_printable (item_words i) ≡ true
item_sound (DumpItem.Page page class_size flag) h =
    let first = and_parts _ _ h in
    and_from _ _ (tagged_sound 80 page refl (ltb-true page u64 first.0))
    (and_from _ _ (tagged_sound 67 class_size refl (ltb-true class_size u64 (and_parts _ _ first.1).0)) (and_from _ _ (flag_sound flag) refl))
item_sound i h = grind (arith, and_from, placed_sound)

items_sound : (items : List DumpItem) → items_in_range items ≡ true → are_sound is_printable (flat_map item_words items) ≡ true
items_sound [] h = refl
items_sound (i ∷ items) h =
    all-append (is_sound is_printable) (item_words i) (flat_map item_words items) (item_sound i (and_parts _ _ h).0) (items_sound items (and_parts _ _ h).1)

reply_sound : (version : Version) (r : Reply) → is_reply version r ≡ true → are_sound is_printable (reply_words r) ≡ true
reply_sound version (Reply.Number n) h = sound_decimals (n ∷ []) h
reply_sound version (Reply.Shape shape) h = sound_decimals (shape.references ∷ shape.numbers ∷ []) (small_numbers (u32 ∷ u32 ∷ []) (shape.references ∷ shape.numbers ∷ []) h refl)
reply_sound version (Reply.Refused refusal) h = refusal_sound refusal
reply_sound version (Reply.Spent units phase) h = next_sound units [] _ h (λ end. and_from _ _ (phase_sound phase) refl)
reply_sound version (Reply.Stat stat) h = search (arith, next_sound, and_from, phase_sound, sound_decimals)
reply_sound version (Reply.Dump items) h = items_sound items (and_parts (items_in_range items) (ascends None None items) h).0
reply_sound version (Reply.Report report) h =
    let both = and_parts (are_u64 (report.mutator ∷ report.collector ∷ report.quanta ∷ report.greatest ∷ report.window ∷ [])) (are_u64 (option_to_list report.least) && are_u64 (option_to_list report.floor)) h in
    next_sound report.mutator (report.collector ∷ report.quanta ∷ report.greatest ∷ report.window ∷ []) _ both.0
    (λ h1. next_sound report.collector (report.quanta ∷ report.greatest ∷ report.window ∷ []) _ h1
    (λ h2. next_sound report.quanta (report.greatest ∷ report.window ∷ []) _ h2
    (λ h3. next_sound report.greatest (report.window ∷ []) _ h3
    (λ h4. next_sound report.window [] _ h4
    (λ end. and_from _ _ (optional_sound report.least (and_parts _ _ both.1).0) (and_from _ _ (optional_sound report.floor (and_parts _ _ both.1).1) refl))))))
reply_sound One (Reply.Left quanta) h = cc
reply_sound Two (Reply.Left quanta) h = sound_decimals (quanta ∷ []) h
reply_sound version other h = refl

-- Entries ----------------------------------------------------------------------------------------

pub entry_sound : (version : Version) (e : Entry) → is_entry version e ≡ true → are_sound is_printable (entry_words e) ≡ true
entry_sound version e h = grind (arith, and_parts, all-append, is_sound, event_sound, reply_sound)

pub measured_sound : (m : Measured) → is_measured m ≡ true → are_sound is_printable (measured_words m) ≡ true
measured_sound m h =
    let both = and_parts (is_entry Two m.entry) (are_u64 (m.mutator ∷ m.collector ∷ [])) h in
    search (arith, all-append, is_sound, entry_sound, sound_decimals)
