-- Commands, controls and replies are read as they were written.
use Rattle.std.proofs.Common.{option_to_list, ◌≡◌, ◌∙◌, ℕ, ◌<◌, ◌≤◌, ◌==◌, nat_lt, nat_le, not, ◌&&◌, Bool, true, false, Option, Some, None, List, [], ◌∷◌, ◌++◌, map, flat_map, refl, decimal, codes, arith}
use Rattle.std.proofs.lemmas.Bool.{and_parts, and_from, not_from_false, ltb-true, lt-ltb, leb-true}
use Rattle.std.specs.List.{list_all}
use Rattle.mh_model.specs.{declared.command.Command.Command, declared.command.Control.Control}
use Rattle.mh_model.specs.{declared.reply.Reply.Reply, declared.reply.Refusal.Refusal, declared.cycle.Phase.Phase}
use Rattle.mh_model.specs.{declared.dump.DumpItem.DumpItem, Bytes.{Text, parts_at, is_digit, number, tagged}}
use Rattle.mh_model.specs.Forms.{are_below, numbered, at, u32, u64, phrase_words, is_sayable, command_phrase, command_of, control_phrase, control_of, knows_control}
use Rattle.mh_model.specs.{declared.history.Version.Version, declared.history.Version.TheVariants.{One, Two}}
use Rattle.mh_model.specs.Replies.{refusal_words, phase_word, flag_word, placed_word, item_words, optional_word, reply_words, are_u64, items_in_range, is_reply, phase_of, flag_of, optional_of, placed_by, placed_of, Ready, HasPage, HasClass, items_from, reply_of}
use Rattle.mh_text_laws.proofs.ListLemmas.{all-append}
use Rattle.mh_text_laws.proofs.round_trips.WordRoundTrips.{number-decimal, numbers-decimal, are_small, is_free, cut-free, cut-piece, parts-joined, decimal_free, digit_other, is_numbered, numbered_first}

-- Numbers after a word ---------------------------------------------------------------------------

pub small_numbers : (bounds ns : List ℕ) → are_below bounds ns ≡ true → list_all (λ bound. nat_le bound u64) bounds ≡ true → are_u64 ns ≡ true
small_numbers (bound ∷ bounds) (n ∷ ns) h most =
    let below : n < bound = ltb-true n bound (and_parts _ _ h).0 in
    let within : bound ≤ u64 = leb-true bound u64 (and_parts _ _ most).0 in
    and_from _ _ (lt-ltb n u64 (omega arith)) (small_numbers bounds ns (and_parts _ _ h).1 (and_parts _ _ most).1)
small_numbers bounds ns h most = grind arith

numbered-words : {X : Type 0} (bounds : List ℕ) (made : List ℕ → X) (ns : List ℕ) → are_below bounds ns ≡ true → list_all (λ bound. nat_le bound u64) bounds ≡ true
    → numbered bounds made (map decimal ns) ≡ Some (made ns)
numbered-words bounds made ns h most = rw (numbers-decimal ns (small_numbers bounds ns h most), h) refl

-- Commands and controls --------------------------------------------------------------------------

pub command_of-words : (c : Command) → is_sayable (command_phrase c) ≡ true → command_of (phrase_words (command_phrase c)) ≡ Some c
command_of-words c h = grind (arith, numbered-words)

pub control_of-words : (version : Version) (c : Control) → knows_control version c ≡ true → is_sayable (control_phrase c) ≡ true
    → control_of version (phrase_words (control_phrase c)) ≡ Some c
control_of-words version other known h = grind (arith, numbered-words)

-- Parts of replies -------------------------------------------------------------------------------

phase_of-word : (phase : Phase) → phase_of (phase_word phase) ≡ Some phase
phase_of-word other = grind arith

flag_of-word : (flag : Bool) → flag_of (flag_word flag) ≡ Some flag
flag_of-word flag = grind arith

refused-words : (version : Version) (refusal : Refusal) → reply_of version (codes "refused" ∷ refusal_words refusal) ≡ Some (Reply.Refused refusal)
refused-words version other = grind arith

optional_of-word : (n : Option ℕ) → are_u64 (option_to_list n) ≡ true → optional_of (optional_word n) ≡ Some n
optional_of-word n h = grind (arith, number-decimal, ltb-true, and_parts)

-- Dumps ------------------------------------------------------------------------------------------

tagged-numbered : (tag : ℕ) (word : Text) → is_digit tag ≡ false → is_numbered word ≡ true → tagged tag word ≡ None
tagged-numbered tag word no_digit numbered = grind (arith, digit_other)

-- a block and a forwarder, with their mark
placed_by-word : (mark : ℕ) (made : List ℕ → DumpItem) (slot a b : ℕ) → is_digit mark ≡ false → (46 == mark) ≡ false → are_u64 (slot ∷ a ∷ b ∷ []) ≡ true
    → placed_by mark made (placed_word mark slot a b) ≡ Some (made (slot ∷ a ∷ b ∷ []))
placed_by-word mark made slot a b no_digit no_point h =
    let small = are_small slot a b h in
    let place : is_free mark (decimal a ++ 46 ∷ decimal b) ≡ true =
    all-append (λ c. not (c == mark)) (decimal a) (46 ∷ decimal b) (decimal_free mark a no_digit small.second)
    (and_from _ _ (not_from_false (46 == mark) no_point) (decimal_free mark b no_digit small.third)) in
    let outer : parts_at mark (placed_word mark slot a b) ≡ decimal slot ∷ (decimal a ++ 46 ∷ decimal b) ∷ [] =
    rw (cut-piece mark (decimal slot) (decimal a ++ 46 ∷ decimal b) (decimal_free mark slot no_digit small.first), cut-free mark (decimal a ++ 46 ∷ decimal b) place) refl in
    let inner : parts_at 46 (decimal a ++ 46 ∷ decimal b) ≡ decimal a ∷ decimal b ∷ [] =
    parts-joined 46 (decimal a) (decimal b ∷ []) (and_from _ _ (decimal_free 46 a refl small.second) (and_from _ _ (decimal_free 46 b refl small.third) refl)) in
    rw (outer, inner) (numbered-words (u64 ∷ u64 ∷ u64 ∷ []) made (slot ∷ a ∷ b ∷ []) h refl)

abbrev pub block : List ℕ → DumpItem
block ns = DumpItem.Block (at ns 0) (at ns 1) (at ns 2)

abbrev pub forwarder : List ℕ → DumpItem
forwarder ns = DumpItem.Forwarder (at ns 0) (at ns 1) (at ns 2)

-- a forwarder is no block
no_block : (slot a b : ℕ) → are_u64 (slot ∷ a ∷ b ∷ []) ≡ true → placed_by 61 block (placed_word 62 slot a b) ≡ None
no_block slot a b h = grind (arith, are_small, is_free, all-append, decimal_free, cut-free)

placed_of-block : (slot a b : ℕ) → are_u64 (slot ∷ a ∷ b ∷ []) ≡ true → placed_of (placed_word 61 slot a b) ≡ Some (DumpItem.Block slot a b)
placed_of-block slot a b h = rw (placed_by-word 61 block slot a b refl refl h) refl

placed_of-forwarder : (slot a b : ℕ) → are_u64 (slot ∷ a ∷ b ∷ []) ≡ true → placed_of (placed_word 62 slot a b) ≡ Some (DumpItem.Forwarder slot a b)
placed_of-forwarder slot a b h = rw (no_block slot a b h, placed_by-word 62 forwarder slot a b refl refl h) refl

step_page : (word : Text) (words : List Text) (page : ℕ) → tagged 80 word ≡ Some page → items_from Ready (word ∷ words) ≡ items_from (HasPage page) words
step_page word words page is = rw (is, items_from) refl

step_class : (word : Text) (words : List Text) (page class_size : ℕ) → tagged 67 word ≡ Some class_size
    → items_from (HasPage page) (word ∷ words) ≡ items_from (HasClass page class_size) words
step_class word words page class_size is = rw (is, items_from) refl

step_placed : (mark slot a b : ℕ) (words : List Text) (i : DumpItem) (items : List DumpItem) → are_u64 (slot ∷ a ∷ b ∷ []) ≡ true → placed_of (placed_word mark slot a b) ≡ Some i
    → items_from Ready words ≡ Some items → items_from Ready (placed_word mark slot a b ∷ words) ≡ Some (i ∷ items)
step_placed mark slot a b words i items h placed later = search (arith, are_small, tagged-numbered, numbered_first)

items_from-words : (items : List DumpItem) → items_in_range items ≡ true → items_from Ready (flat_map item_words items) ≡ Some items
items_from-words [] h = refl
items_from-words (DumpItem.Page page class_size flag ∷ items) h =
    let both = and_parts (are_u64 (page ∷ class_size ∷ [])) (items_in_range items) h in
    let two = and_parts (nat_lt page u64) (are_u64 (class_size ∷ [])) both.0 in
    let p : number (decimal page) ≡ Some page = number-decimal page (ltb-true page u64 two.0) in
    let c : number (decimal class_size) ≡ Some class_size = number-decimal class_size (ltb-true class_size u64 (and_parts _ _ two.1).0) in
    step_page (80 ∷ decimal page) ((67 ∷ decimal class_size) ∷ flag_word flag ∷ flat_map item_words items) page p
    ∙ step_class (67 ∷ decimal class_size) (flag_word flag ∷ flat_map item_words items) page class_size c
    ∙ rw (flag_of-word flag, items_from-words items both.1) refl
items_from-words (DumpItem.Block slot a b ∷ items) h =
    let both = and_parts (are_u64 (slot ∷ a ∷ b ∷ [])) (items_in_range items) h in
    step_placed 61 slot a b (flat_map item_words items) (DumpItem.Block slot a b) items both.0 (placed_of-block slot a b both.0) (items_from-words items both.1)
items_from-words (DumpItem.Forwarder slot a b ∷ items) h =
    let both = and_parts (are_u64 (slot ∷ a ∷ b ∷ [])) (items_in_range items) h in
    step_placed 62 slot a b (flat_map item_words items) (DumpItem.Forwarder slot a b) items both.0 (placed_of-forwarder slot a b both.0) (items_from-words items both.1)

-- Replies ----------------------------------------------------------------------------------------

pub reply_of-words : (version : Version) (r : Reply) → is_reply version r ≡ true → reply_of version (reply_words r) ≡ Some r
reply_of-words version (Reply.Number n) h = numbered-words (u64 ∷ []) _ (n ∷ []) h refl
reply_of-words version (Reply.Shape shape) h = numbered-words (u32 ∷ u32 ∷ []) _ (shape.references ∷ shape.numbers ∷ []) h refl
reply_of-words version (Reply.Refused refusal) h = refused-words version refusal
reply_of-words version (Reply.Spent units phase) h = grind (arith, number-decimal, ltb-true, and_parts, phase_of-word)
reply_of-words version (Reply.Stat stat) h = rw (numbers-decimal (stat.free ∷ stat.live ∷ stat.old ∷ stat.cycle ∷ []) h, phase_of-word stat.phase) refl
reply_of-words version (Reply.Dump items) h = grind (arith, and_parts, items_from-words)
reply_of-words version (Reply.Report report) h =
    let ns : List ℕ = report.mutator ∷ report.collector ∷ report.quanta ∷ report.greatest ∷ report.window ∷ [] in
    let both = and_parts (are_u64 ns) (are_u64 (option_to_list report.least) && are_u64 (option_to_list report.floor)) h in
    let two = and_parts (are_u64 (option_to_list report.least)) (are_u64 (option_to_list report.floor)) both.1 in
    rw (numbers-decimal (report.mutator ∷ report.collector ∷ report.quanta ∷ report.greatest ∷ report.window ∷ []) both.0, optional_of-word report.least two.0, optional_of-word report.floor two.1) refl
reply_of-words One (Reply.Left quanta) h = cc
reply_of-words Two (Reply.Left quanta) h = numbered-words (u64 ∷ []) _ (quanta ∷ []) h refl
reply_of-words version other h = refl
