-- Dumps by their words.
use Rattle.std.proofs.Common.{◌≡◌, ℕ, nat_lt, Bool, true, false, Option, Some, None, option_map, option_and_then, is_some, List, [], ◌∷◌, ◌++◌, length, refl, ap, sym, ◌∙◌, append_assoc, arith}
use Rattle.std.proofs.lemmas.List.{append-nil}
use Rattle.mh_model.specs.{declared.dump.DumpItem.DumpItem, declared.reply.Reply.Reply, Bytes.{Text, parts_at, number}}
use Rattle.mh_model.specs.Forms.{within, numbered, are_below, u64}
use Rattle.mh_model.specs.Replies.{placed_from, ascends, Ready, with_item, items_from}
use Rattle.mh_history.specs.{Auxiliary.{placed_made, placed_numbers}, declared.dump.Placed.Placed}
use Rattle.mh_history.proofs.PartLemmas.{numbered_other, number_small}

-- A slot and what stands after its mark ----------------------------------------------------------

no_place : (parts : List Text) → (length parts ≡ 2 → ⊥) → placed_from parts ≡ []
no_place [] other = refl
no_place (a ∷ []) other = refl
no_place (a ∷ b ∷ []) other = absurd (other refl)
no_place (a ∷ b ∷ d ∷ parts) other = refl

abbrev three : List Text → Option Placed
three words = numbered (u64 ∷ u64 ∷ u64 ∷ []) placed_made words

pub placed_unmarked : (mark : ℕ) (word : Text) → (length (parts_at mark word) ≡ 2 → ⊥) → placed_numbers mark word ≡ None
placed_unmarked mark word other = rw (no_place (parts_at mark word) other) refl

placed_parts : (parts : List Text) (slot place : Text) → parts ≡ slot ∷ place ∷ [] → three (placed_from parts) ≡ three (slot ∷ parts_at 46 place)
placed_parts parts slot place is = rw is refl

pub placed_unpointed : (mark : ℕ) (word slot place : Text) → parts_at mark word ≡ slot ∷ place ∷ [] → (length (parts_at 46 place) ≡ 2 → ⊥) → placed_numbers mark word ≡ None
placed_unpointed mark word slot place is other = grind (arith, placed_parts, numbered_other)

placed_words : (mark : ℕ) (word slot place first second : Text) → parts_at mark word ≡ slot ∷ place ∷ [] → parts_at 46 place ≡ first ∷ second ∷ [] → placed_numbers mark word ≡ three (slot ∷ first ∷ second ∷ [])
placed_words mark word slot place first second is pair = placed_parts (parts_at mark word) slot place is ∙ ap (λ (parts : List Text). three (slot ∷ parts)) pair

three_by : (a b d : ℕ) → nat_lt a u64 ≡ true → nat_lt b u64 ≡ true → nat_lt d u64 ≡ true → within (are_below (u64 ∷ u64 ∷ u64 ∷ []) (a ∷ b ∷ d ∷ [])) (placed_made (a ∷ b ∷ d ∷ [])) ≡ Some (record { slot = a; first = b; second = d })
three_by a b d x y z = rw (x, y, z) refl

three_is : (slot first second : Text) (a b d : ℕ) → number slot ≡ Some a → number first ≡ Some b → number second ≡ Some d → three (slot ∷ first ∷ second ∷ []) ≡ Some (record { slot = a; first = b; second = d })
three_is slot first second a b d x y z = rw (x, y, z) (three_by a b d (number_small slot a x) (number_small first b y) (number_small second d z))

pub placed_is : (mark : ℕ) (word slot place first second : Text) (a b d : ℕ) → parts_at mark word ≡ slot ∷ place ∷ [] → parts_at 46 place ≡ first ∷ second ∷ [] → number slot ≡ Some a → number first ≡ Some b → number second ≡ Some d
    → placed_numbers mark word ≡ Some (record { slot = a; first = b; second = d })
placed_is mark word slot place first second a b d is pair x y z = placed_words mark word slot place first second is pair ∙ three_is slot first second a b d x y z

three_no_slot : (slot first second : Text) → number slot ≡ None → three (slot ∷ first ∷ second ∷ []) ≡ None
three_no_slot slot first second x = rw x refl

pub placed_no_slot : (mark : ℕ) (word slot place first second : Text) → parts_at mark word ≡ slot ∷ place ∷ [] → parts_at 46 place ≡ first ∷ second ∷ [] → number slot ≡ None → placed_numbers mark word ≡ None
placed_no_slot mark word slot place first second is pair x = placed_words mark word slot place first second is pair ∙ three_no_slot slot first second x

three_no_first : (slot first second : Text) (a : ℕ) → number slot ≡ Some a → number first ≡ None → three (slot ∷ first ∷ second ∷ []) ≡ None
three_no_first slot first second a x y = rw (x, y) refl

pub placed_no_first : (mark : ℕ) (word slot place first second : Text) (a : ℕ) → parts_at mark word ≡ slot ∷ place ∷ [] → parts_at 46 place ≡ first ∷ second ∷ [] → number slot ≡ Some a → number first ≡ None → placed_numbers mark word ≡ None
placed_no_first mark word slot place first second a is pair x y = placed_words mark word slot place first second is pair ∙ three_no_first slot first second a x y

three_no_second : (slot first second : Text) (a b : ℕ) → number slot ≡ Some a → number first ≡ Some b → number second ≡ None → three (slot ∷ first ∷ second ∷ []) ≡ None
three_no_second slot first second a b x y z = rw (x, y, z) refl

pub placed_no_second : (mark : ℕ) (word slot place first second : Text) (a b : ℕ) → parts_at mark word ≡ slot ∷ place ∷ [] → parts_at 46 place ≡ first ∷ second ∷ [] → number slot ≡ Some a → number first ≡ Some b → number second ≡ None
    → placed_numbers mark word ≡ None
placed_no_second mark word slot place first second a b is pair x y z = placed_words mark word slot place first second is pair ∙ three_no_second slot first second a b x y z

-- Whether words are a dump -----------------------------------------------------------------------

-- the words that are left are items that may come after this page and this slot
abbrev pub goes_on : Option ℕ → Option ℕ → List Text → Bool
goes_on page slot words = is_some (option_and_then (λ items. within (ascends page slot items) (Reply.Dump items)) (items_from Ready words))

same_some : (is other : Bool) (a b : Reply) → is ≡ other → is_some (within is a) ≡ is_some (within other b)
same_some true other a b same = rw (← same) refl
same_some false other a b same = rw (← same) refl

step_by : (page slot next_page next_slot : Option ℕ) (item : DumpItem) (rest : Option (List DumpItem)) → ((items : List DumpItem) → ascends page slot (item ∷ items) ≡ ascends next_page next_slot items)
    → is_some (option_and_then (λ items. within (ascends page slot items) (Reply.Dump items)) (with_item (Some item) rest))
    ≡ is_some (option_and_then (λ items. within (ascends next_page next_slot items) (Reply.Dump items)) rest)
step_by page slot next_page next_slot item None same = refl
step_by page slot next_page next_slot item (Some items) same = same_some (ascends page slot (item ∷ items)) (ascends next_page next_slot items) (Reply.Dump (item ∷ items)) (Reply.Dump items) (same items)

pub dump_next : (all : Bool) (page slot next_page next_slot : Option ℕ) (item : DumpItem) (line words rest : List Text) (word : Text) → goes_on page slot line ≡ all → line ≡ word ∷ words
    → items_from Ready (word ∷ words) ≡ with_item (Some item) (items_from Ready rest) → ((items : List DumpItem) → ascends page slot (item ∷ items) ≡ ascends next_page next_slot items) → goes_on next_page next_slot rest ≡ all
dump_next all page slot next_page next_slot item line words rest word done is read same =
    sym (step_by page slot next_page next_slot item (items_from Ready rest) same)
    ∙ (ap (λ (read : Option (List DumpItem)). is_some (option_and_then (λ items. within (ascends page slot items) (Reply.Dump items)) read)) (sym read)
    ∙ (ap (goes_on page slot) (sym is) ∙ done))

low_by : (page slot : Option ℕ) (item : DumpItem) (rest : Option (List DumpItem)) → ((items : List DumpItem) → ascends page slot (item ∷ items) ≡ false)
    → is_some (option_and_then (λ items. within (ascends page slot items) (Reply.Dump items)) (with_item (Some item) rest)) ≡ false
low_by page slot item None low = refl
low_by page slot item (Some items) low = rw (low items) refl

pub dump_low : (all : Bool) (page slot : Option ℕ) (item : DumpItem) (line words rest : List Text) (word : Text) → goes_on page slot line ≡ all → line ≡ word ∷ words
    → items_from Ready (word ∷ words) ≡ with_item (Some item) (items_from Ready rest) → ((items : List DumpItem) → ascends page slot (item ∷ items) ≡ false) → false ≡ all
dump_low all page slot item line words rest word done is read low = grind (arith, low_by)

pub dump_wrong : (all : Bool) (page slot : Option ℕ) (line words : List Text) (word : Text) → goes_on page slot line ≡ all → line ≡ word ∷ words → items_from Ready (word ∷ words) ≡ None → false ≡ all
dump_wrong all page slot line words word done is none = grind arith

-- Items one after another ------------------------------------------------------------------------

kept_by : (front : List DumpItem) (item : DumpItem) (rest : Option (List DumpItem)) → option_map (λ more. front ++ more) (with_item (Some item) rest) ≡ option_map (λ more. (front ++ item ∷ []) ++ more) rest
kept_by front item None = refl
kept_by front item (Some more) = ap Some (sym (append_assoc front (item ∷ []) more))

pub items_next : (all : Option (List DumpItem)) (front kept : List DumpItem) (item : DumpItem) (line words rest : List Text) (word : Text) → option_map (λ more. front ++ more) (items_from Ready line) ≡ all → line ≡ word ∷ words
    → items_from Ready (word ∷ words) ≡ with_item (Some item) (items_from Ready rest) → kept ≡ front ++ item ∷ [] → option_map (λ more. kept ++ more) (items_from Ready rest) ≡ all
items_next all front kept item line words rest word done is read pushed =
    rw pushed (sym (kept_by front item (items_from Ready rest))
    ∙ (ap (λ (read : Option (List DumpItem)). option_map (λ more. front ++ more) read) (sym read) ∙ (ap (λ (ws : List Text). option_map (λ more. front ++ more) (items_from Ready ws)) (sym is) ∙ done)))

pub items_wrong : (all : Option (List DumpItem)) (front : List DumpItem) (line words : List Text) (word : Text) → option_map (λ more. front ++ more) (items_from Ready line) ≡ all → line ≡ word ∷ words
    → items_from Ready (word ∷ words) ≡ None → all ≡ None
items_wrong all front line words word done is none = grind arith

pub items_done : (all : Option (List DumpItem)) (front : List DumpItem) (line : List Text) → option_map (λ more. front ++ more) (items_from Ready line) ≡ all → line ≡ [] → all ≡ Some front
items_done all front line done none = sym done ∙ (ap (λ (ws : List Text). option_map (λ more. front ++ more) (items_from Ready ws)) none ∙ ap Some (append-nil front))

no_front : (read : Option (List DumpItem)) → option_map (λ (more : List DumpItem). [] ++ more) read ≡ read
no_front None = refl
no_front (Some more) = refl

pub items_start : (line : List Text) → option_map (λ (more : List DumpItem). [] ++ more) (items_from Ready line) ≡ items_from Ready line
items_start line = no_front (items_from Ready line)
