-- Words that are the items of a dump are what is written of these.
use Rattle.std.proofs.Common.{◌≡◌, ◌∙◌, ℕ, nat_lt, Bool, true, false, Option, Some, None, option_map, List, [], ◌∷◌, ◌++◌, map, flat_map, ap, sym, refl, codes, decimal, arith}
use Rattle.std.proofs.lemmas.Bool.{and_parts, and_from}
use Rattle.std.specs.Option.{option_or}
use Rattle.mh_model.specs.{declared.dump.DumpItem.DumpItem, Bytes.{Text, parts_at, joined_at, tagged}}
use Rattle.mh_model.specs.Forms.{are_below, u64}
use Rattle.mh_model.specs.Replies.{flag_word, placed_word, item_words, item_numbers, are_u64, items_in_range, flag_forms, flag_of, placed_from, placed_by, placed_of, Pending, Ready, HasPage, HasClass, with_item, items_from}
use Rattle.mh_text_laws.proofs.round_trips.ReplyRoundTrips.{block, forwarder}
use Rattle.mh_text_laws.proofs.rewritings.NumbersWrittenAgain.{mapped, numbered_is, of_each, length-below}
use Rattle.mh_text_laws.proofs.rewritings.WordsWrittenAgain.{joined-parts_at, tagged_is}
use Rattle.mh_text_laws.proofs.rewritings.FormsWrittenAgain.{IsOf, same_of, word-faithful, words-faithful}

-- Flags ------------------------------------------------------------------------------------------

flag_is : (word : Text) (flag : Bool) → flag_of word ≡ Some flag → flag_word flag ≡ word
flag_is = word-faithful flag_word flag_forms (words-faithful _ _ (codes "+") [] true refl refl, (words-faithful _ _ (codes "-") [] false refl refl, tt))

-- Blocks and forwarders --------------------------------------------------------------------------

-- three words of a slot and a place are a slot, and what the place is the words of
record IsPlace (parts : List Text) (slot a b : Text) : Type 0 where
  place : Text
  parts_are : parts ≡ slot ∷ place ∷ []
  place_is : parts_at 46 place ≡ a ∷ b ∷ []

place_of : (parts : List Text) (slot a b : Text) → placed_from parts ≡ slot ∷ a ∷ b ∷ [] → IsPlace parts slot a b
place_of parts slot a b h = grind arith

placed_written : (mark slot a b : ℕ) (word : Text) → placed_from (parts_at mark word) ≡ decimal slot ∷ decimal a ∷ decimal b ∷ [] → placed_word mark slot a b ≡ word
placed_written mark slot a b word h =
    let found = place_of (parts_at mark word) (decimal slot) (decimal a) (decimal b) h in
    let inner : joined_at 46 (decimal a ∷ decimal b ∷ []) ≡ found.place = ap (joined_at 46) (sym found.place_is) ∙ joined-parts_at 46 found.place in
    let outer : joined_at mark (decimal slot ∷ found.place ∷ []) ≡ word = ap (joined_at mark) (sym found.parts_are) ∙ joined-parts_at mark word in
    ap (λ (place : Text). joined_at mark (decimal slot ∷ place ∷ [])) inner ∙ outer

-- a word is what is written of an item alone, whose numbers are in range
abbrev item_passes : DumpItem → Bool
item_passes i = are_u64 (item_numbers i)

abbrev IsItem : List Text → DumpItem → Type 0
IsItem = IsOf item_words item_passes

-- a block or a forwarder
placed_is : (mark : ℕ) (made : List ℕ → DumpItem)
    → ((slot a b : ℕ) → (item_words (made (slot ∷ a ∷ b ∷ [])) ≡ placed_word mark slot a b ∷ []) × (item_passes (made (slot ∷ a ∷ b ∷ [])) ≡ are_u64 (slot ∷ a ∷ b ∷ [])))
    → (word : Text) (i : DumpItem) → placed_by mark made word ≡ Some i → IsItem (word ∷ []) i
placed_is mark made each word i h =
    let found = numbered_is (u64 ∷ u64 ∷ u64 ∷ []) made (placed_from (parts_at mark word)) i h in
    same_of item_words item_passes (word ∷ []) (made found.numbers) i found.same
    (of_each (u64 ∷ u64 ∷ u64 ∷ []) (λ ns. are_below (u64 ∷ u64 ∷ u64 ∷ []) ns ≡ true → map decimal ns ≡ placed_from (parts_at mark word) → IsItem (word ∷ []) (made ns))
    (λ slot a b small is. let known = each slot a b in (known.0 ∙ ap (λ (w : Text). w ∷ []) (placed_written mark slot a b word (sym is)), known.1 ∙ small))
    found.numbers (length-below (u64 ∷ u64 ∷ u64 ∷ []) found.numbers found.below) found.below found.written)

item_is : (word : Text) (i : DumpItem) → placed_of word ≡ Some i → IsItem (word ∷ []) i
item_is word i h = by (placed_by 61 block word) refl h where
  by : (first : Option DumpItem) → placed_by 61 block word ≡ first → option_or first (placed_by 62 forwarder word) ≡ Some i → IsItem (word ∷ []) i
  by (Some other) is k = grind (arith, same_of, placed_is, block)
  by None is k = placed_is 62 forwarder (λ slot a b. (refl, refl)) word i k

-- Items ------------------------------------------------------------------------------------------

-- the words that were read of an item that isn't whole, and their numbers
abbrev pending_words : Pending → List Text
pending_words Ready = []
pending_words (HasPage page) = (80 ∷ decimal page) ∷ []
pending_words (HasClass page class_size) = (80 ∷ decimal page) ∷ (67 ∷ decimal class_size) ∷ []

abbrev pending_numbers : Pending → List ℕ
pending_numbers Ready = []
pending_numbers (HasPage page) = page ∷ []
pending_numbers (HasClass page class_size) = page ∷ class_size ∷ []

abbrev AreItems : List Text → List DumpItem → Type 0
AreItems = IsOf (flat_map item_words) items_in_range

-- what words mean after any that were read of an item
abbrev AreLater : List Text → Type 0
AreLater words =
    (pending : Pending) (items : List DumpItem) → items_from pending words ≡ Some items → are_u64 (pending_numbers pending) ≡ true → AreItems (pending_words pending ++ words) items

-- an item and those after it
with_item_is : (first : Option DumpItem) (here words : List Text) (items : List DumpItem) → with_item first (items_from Ready words) ≡ Some items
    → ((i : DumpItem) → first ≡ Some i → IsItem here i) → AreLater words → AreItems (here ++ words) items
with_item_is None here words items h item later = cc
with_item_is (Some i) here words items h item later =
    let found = mapped (λ more. i ∷ more) (items_from Ready words) items h in
    let one = item i refl in
    let more = later Ready found.from found.is refl in
    grind (arith, same_of, and_from)

first_word_is : (word : Text) (words : List Text) (items : List DumpItem) (page : Option ℕ) → tagged 80 word ≡ page → AreLater words
    → elim page as (λ _. Option (List DumpItem)) [ Some page ↦ items_from (HasPage page) words | None ↦ with_item (placed_of word) (items_from Ready words) ] ≡ Some items
    → AreItems (word ∷ words) items
first_word_is word words items (Some page) is later h =
    let known = tagged_is 80 word page is in
    let found = later (HasPage page) items h (and_from _ _ known.1 refl) in
    (found.0 ∙ ap (λ (w : Text). w ∷ words) known.0, found.1)
first_word_is word words items None is later h = with_item_is (placed_of word) (word ∷ []) words items h (item_is word) later

class_is : (page : ℕ) (word : Text) (words : List Text) (items : List DumpItem) (class_size : Option ℕ) → tagged 67 word ≡ class_size → AreLater words → nat_lt page u64 ≡ true
    → elim class_size as (λ _. Option (List DumpItem)) [ Some class_size ↦ items_from (HasClass page class_size) words | None ↦ None ] ≡ Some items
    → AreItems ((80 ∷ decimal page) ∷ word ∷ words) items
class_is page word words items (Some class_size) is later small h =
    let known = tagged_is 67 word class_size is in
    let both : are_u64 (page ∷ class_size ∷ []) ≡ true = and_from _ _ small (and_from _ _ known.1 refl) in
    let found = later (HasClass page class_size) items h both in
    (found.0 ∙ ap (λ (w : Text). (80 ∷ decimal page) ∷ w ∷ words) known.0, found.1)
class_is page word words items None is later small h = cc

page_is : (page class_size : ℕ) (word : Text) (i : DumpItem) → are_u64 (page ∷ class_size ∷ []) ≡ true → option_map (λ flag. DumpItem.Page page class_size flag) (flag_of word) ≡ Some i
    → IsItem (pending_words (HasClass page class_size) ++ word ∷ []) i
page_is page class_size word i small h = grind (arith, mapped, same_of, flag_is)

pub items_are : (words : List Text) → AreLater words
items_are [] is items h small = grind (arith, same_of)
items_are (word ∷ words) Ready items h small = first_word_is word words items (tagged 80 word) refl (items_are words) h
items_are (word ∷ words) (HasPage page) items h small = class_is page word words items (tagged 67 word) refl (items_are words) (and_parts _ _ small).0 h
items_are (word ∷ words) (HasClass page class_size) items h small =
    with_item_is (option_map (λ flag. DumpItem.Page page class_size flag) (flag_of word)) (pending_words (HasClass page class_size) ++ word ∷ []) words items h
    (λ i is. page_is page class_size word i small is) (items_are words)
