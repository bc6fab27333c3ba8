-- The deeds of a command draw the picture after it. What its barriers shaded stands at the end of the grey list, and parts are placed in order.
-- Their references to children aren't drawn, and are as many as their parts have.
use Rattle.std.proofs.Common.{◌≡◌, ℕ, zero, suc, ◌+◌, Bool, if◌then◌else◌, inl, inr, Option, Some, None, option_map, option_and_then, unwrap_or, List, [], ◌∷◌, ◌++◌, length, map, drop, get_or, slice_get, ◌≤◌, arith, refl, sym, ap, ◌∙◌, subst, append_assoc}
use Rattle.std.proofs.lemmas.List.{append-nil, map-append, length-set, length-replicate}
use Rattle.std.proofs.{lemmas.Option.{none-some, same_Some}, Math.Seq.drop-append_seam}
use Rattle.mh_model.specs.{declared.command.Command.Command, declared.deed.Deed.Deed, declared.reply.Refusal.Refusal}
use Rattle.mh_model.specs.declared.reply.Reply.{Reply}
use Rattle.mh_model.specs.World.{Answer, own_slot, board_slot, refusal, unless_refused, done, says}
use Rattle.mh_model.specs.{Classes.{Part, class_of, part_words, parts}, Pages.{Table, block_at, with_taken}}
use Rattle.mh_model.specs.Table.{Block, Made, MadeParts, Position, new_block, made_in_class, made_part, made_parts, with_block_change, words_of, linked_block, linked_parts, group_of, made_group, loaded_reference}
use Rattle.mh_model.specs.Collector.{Collector, Marking, shade, marking_of, with_shade}
use Rattle.mh_model.specs.Mutator.{HeapState, in_roots, in_roots_or_mark, before_field, with_root, with_roots_cleared, with_session_cleared, with_reference_stored, with_number_stored, root_at, field_of, number_field, new_group, with_born, heap_sight, heap_effect, mutator_step}
use Rattle.mh_model.specs.Deeds.{made_deed, make_deeds, new_deeds, barrier_deeds, command_deeds}
use Rattle.mh_table_laws.specs.{Auxiliary.AreMade, TableMaps.table_map}
use Rattle.mh_table_laws.proofs.{marking.GreyList.cycle-shade, objects.MadeGroups.{length-words_of, made_parts-are}}
use Rattle.mh_table_laws.proofs.{objects.Parts.parts_fit, placing.Places.IsShaped}
use Rattle.mh_table_laws.proofs.TableMapLemmas.{unseen, seen_alike, with_taken-table_map}
use Rattle.mh_laws.proofs.commands.CommandAnswers.{new-done}
use Rattle.mh_tell_laws.specs.Picture.{Picture, Drawn, drawn_of, picture_of, with_table, drawn, drawn_all}
use Rattle.mh_tell_laws.specs.Auxiliary.{CommandsTellThePicture}
use Rattle.mh_tell_laws.proofs.picture.ShadingLemmas.{drawn_all-append, marking_picture, marked-picture, shade-case}
use Rattle.mh_tell_laws.proofs.picture.MarkLemmas.{written-unseen}

-- Barriers ---------------------------------------------------------------------------------------

abbrev shades : List ℕ → List Deed
shades places = map (λ place. Deed.Shade place) places

-- places were appended to the grey list, and nothing else is drawn that they don't shade
record IsShadedMore (old new : Collector) : Type 0 where
  pub added : List ℕ
  pub grey : new.grey ≡ old.grey ++ added
  pub picture : picture_of new ≡ drawn_all (picture_of old) (shades added)

nothing_more : (collector : Collector) → IsShadedMore collector collector
nothing_more collector = record { added = []; grey = sym (append-nil collector.grey); picture = refl }

then_more : (first second third : Collector) → IsShadedMore first second → IsShadedMore second third → IsShadedMore first third
then_more first second third one two = record {
  added = one.added ++ two.added;
  grey = two.grey ∙ ap (λ grey. grey ++ two.added) one.grey ∙ append_assoc first.grey one.added two.added;
  picture = two.picture
      ∙ ap (λ picture. drawn_all picture (shades two.added)) one.picture
      ∙ sym (drawn_all-append (shades one.added) (shades two.added) (picture_of first))
      ∙ ap (drawn_all (picture_of first)) (sym (map-append (λ place. Deed.Shade place) one.added two.added));
}

-- what is drawn alike
alike : (old new : Collector) → new.grey ≡ old.grey → picture_of new ≡ picture_of old → IsShadedMore old new
alike old new grey picture = record { added = []; grey = grey ∙ sym (append-nil old.grey); picture = picture }

shade-more : (collector : Collector) (reference : Option ℕ) → IsShadedMore collector (with_shade collector reference)
shade-more collector reference = elim (shade-case collector.phase (marking_of collector) reference).case [
  | inl same ↦ alike collector (with_shade collector reference) (ap (λ (m : Marking). m.grey) same) (is ∙ ap (marking_picture collector.phase) same)
  | inr found ↦ record { added = found.0 ∷ []; grey = found.2; picture = is ∙ found.3 }
]
  where
    is : picture_of (with_shade collector reference) ≡ marking_picture collector.phase (shade (marking_of collector) reference)
    is = marked-picture collector (shade (marking_of collector) reference) (cycle-shade (marking_of collector) reference)

if-more : (test : Bool) (collector : Collector) (reference : Option ℕ) → IsShadedMore collector (if test then with_shade collector reference else collector)
if-more test collector reference = grind (arith, shade-more, nothing_more)

-- a slot written
root-more : (collector : Collector) (slot : ℕ) (reference : Option ℕ) → IsShadedMore collector (with_root collector slot reference)
root-more collector slot reference = let more = if-more (in_roots collector.phase) collector (get_or collector.slots slot None) in record { added = more.added; grey = more.grey; picture = more.picture }

roots_cleared-more : (collector : Collector) (slot count : ℕ) → IsShadedMore collector (with_roots_cleared collector slot count)
roots_cleared-more collector slot zero = nothing_more collector
roots_cleared-more collector slot (suc count) = then_more collector (with_root collector slot None) (with_roots_cleared (with_root collector slot None) (suc slot) count) (root-more collector slot None) (roots_cleared-more (with_root collector slot None) (suc slot) count)

-- a reference written
reference-more : (collector : Collector) (position : Position) (reference : Option ℕ) → IsShadedMore collector (with_reference_stored collector position reference)
reference-more collector position reference =
    let more = if-more (in_roots_or_mark collector.phase) collector _ in
    let shaded : Collector = before_field collector position in
    record {
      added = more.added;
      grey = more.grey;
      picture = ap (λ (table : Table Drawn). record (picture_of shaded) { table = table }) (written-unseen shaded.table position.place position.index reference) ∙ more.picture;
    }

-- a number written
number-more : (collector : Collector) (position : Position) (number : ℕ) → IsShadedMore collector (with_number_stored collector position number)
number-more collector position number = search (arith, alike, unseen, length-set)

-- What was shaded stands at the end of the grey list
barrier-drawn : (old new : Collector) → IsShadedMore old new → picture_of new ≡ drawn_all (picture_of old) (barrier_deeds old.grey new.grey)
barrier-drawn old new more = more.picture ∙ ap (λ places. drawn_all (picture_of old) (shades places)) (sym (ap (drop (length old.grey)) more.grey ∙ drop-append_seam old.grey more.added))

-- New objects ------------------------------------------------------------------------------------

-- the blocks at these places have as many references as their parts have references to children
abbrev HaveTheirReferences : List ℕ → Table Block → List ℕ → List Part → Type 0
HaveTheirReferences all table [] parts = Unit {0}
HaveTheirReferences all table (place ∷ places) [] = Unit {0}
HaveTheirReferences all table (place ∷ places) (part ∷ parts) = ((block : Block) → block_at table place ≡ Some block → length (words_of all part.references part.children) ≡ length block.references) × HaveTheirReferences all table places parts

have-same : (places : List ℕ) (parts : List Part) (all : List ℕ) (old new : Table Block) → table_map drawn_of new ≡ table_map drawn_of old → HaveTheirReferences all old places parts → HaveTheirReferences all new places parts
have-same [] parts all old new same have = tt
have-same (place ∷ places) [] all old new same have = tt
have-same (place ∷ places) (part ∷ parts) all old new same (here, after) = grind (arith, seen_alike, have-same places parts all old new same after)

-- references to children aren't drawn
linked-unseen : (places : List ℕ) (parts : List Part) (all : List ℕ) (table : Table Block) → HaveTheirReferences all table places parts → table_map drawn_of (linked_parts all table places parts) ≡ table_map drawn_of table
linked-unseen (place ∷ places) (part ∷ parts) all table (here, after) =
    let linked : Table Block = with_block_change table place (linked_block all part) in
    let same : table_map drawn_of linked ≡ table_map drawn_of table =
    unseen drawn_of table place (linked_block all part) (λ block at. ap (λ count. record (drawn_of block) { fields = record { references = count; numbers = length block.numbers } }) (here block at)) in
    linked-unseen places parts all linked (have-same places parts all table linked same after) ∙ same
linked-unseen places parts all table have = refl

-- blocks that were made as parts have as many
made-have : (places : List ℕ) (parts : List Part) (all : List ℕ) (table : Table Block) (birth stamp index : ℕ)
    → ((i place : ℕ) (part : Part) → slice_get places i ≡ Some place → slice_get parts i ≡ Some part → block_at table place ≡ Some (new_block birth stamp (index + i) part))
    → ((i : ℕ) (part : Part) (child : ℕ) → slice_get parts i ≡ Some part → part.children ≡ Some child → child + part.references ≤ length all) → HaveTheirReferences all table places parts
made-have (place ∷ places) (part ∷ parts) all table birth stamp index there inside = (
  λ block at.
      length-words_of all part.references part.children (λ child e. inside 0 part child refl e)
      ∙ sym (length-replicate part.references None)
      ∙ ap (λ (b : Block). length b.references) (same_Some (new_block birth stamp (index + 0) part) block (sym (there 0 place part refl refl) ∙ at)),
  made-have places parts all table birth stamp (suc index)
      (λ i other p at at'. let e : suc index + i ≡ index + suc i = omega arith in rw e (there (suc i) other p at at'))
      (λ i p child at e. inside (suc i) p child at e),
)
made-have places parts all table birth stamp index there inside = tt

-- one part placed, of its class
record IsPlaced (table : Table Block) (birth stamp index : ℕ) (part : Part) (made : Made) : Type 0 where
  pub size : ℕ
  pub class : class_of (part_words part) ≡ Some size
  pub table_is : made.table ≡ with_taken table size made.place (new_block birth stamp index part)

part-placed : (table : Table Block) (birth stamp index : ℕ) (part : Part) (made : Made) → made_part table birth stamp index part ≡ Some made → IsPlaced table birth stamp index part made
part-placed table birth stamp index part made e = by_class (class_of (part_words part)) refl e
  where
    by_place : (size : ℕ) → class_of (part_words part) ≡ Some size → (place : Option ℕ) → option_map (λ p. record { place = p; table = with_taken table size p (new_block birth stamp index part) }) place ≡ Some made → IsPlaced table birth stamp index part made
    by_place size is place h = grind (arith, none-some, same_Some, is)

    by_class : (size : Option ℕ) → class_of (part_words part) ≡ size → option_and_then (made_in_class table (new_block birth stamp index part)) size ≡ Some made → IsPlaced table birth stamp index part made
    by_class size is h = search (arith, none-some, by_place, is)

-- a new block as it is drawn
new-drawn : (birth stamp index : ℕ) (part : Part) → drawn_of (new_block birth stamp index part) ≡ record { name = record { birth = birth; part = index }; fields = record { references = part.references; numbers = part.numbers }; stamp = stamp; forward = None }
new-drawn birth stamp index part = grind (arith, length-replicate)

part-drawn : (picture : Picture) (table : Table Block) (birth index : ℕ) (part : Part) (made : Made) → IsPlaced table birth picture.cycle index part made
    → with_table picture (table_map drawn_of made.table) ≡ drawn (with_table picture (table_map drawn_of table)) (made_deed table birth index part made.place)
part-drawn picture table birth index part made placed =
    ap (with_table picture)
    (ap (table_map drawn_of) placed.table_is
    ∙ with_taken-table_map drawn_of table placed.size made.place (new_block birth picture.cycle index part)
    ∙ ap (λ size. with_taken (table_map drawn_of table) size made.place (drawn_of (new_block birth picture.cycle index part))) (sym (ap (λ size. unwrap_or size 0) placed.class))
    ∙ ap (with_taken (table_map drawn_of table) (unwrap_or (class_of (part_words part)) 0) made.place) (new-drawn birth picture.cycle index part))

make_deeds-more : (table : Table Block) (birth stamp index : ℕ) (part : Part) (parts : List Part) (made : Made) → made_part table birth stamp index part ≡ Some made
    → make_deeds table birth stamp index (part ∷ parts) ≡ made_deed table birth index part made.place ∷ make_deeds made.table birth stamp (suc index) parts
make_deeds-more table birth stamp index part parts made e = rw (e, make_deeds) refl

-- parts placed in order
parts-drawn : (parts : List Part) (picture : Picture) (table : Table Block) (birth index : ℕ) (made : MadeParts) → made_parts table birth picture.cycle index parts ≡ Some made
    → with_table picture (table_map drawn_of made.table) ≡ drawn_all (with_table picture (table_map drawn_of table)) (make_deeds table birth picture.cycle index parts)
parts-drawn [] picture table birth index made e = ap (λ (m : MadeParts). with_table picture (table_map drawn_of m.table)) (sym (same_Some (record { places = []; table = table }) made e))
parts-drawn (part ∷ parts) picture table birth index made e =
    by_first (made_part table birth picture.cycle index part) refl e (λ t rest is. parts-drawn parts picture t birth (suc index) rest is)
  where
    by_rest : (first : Made) → made_part table birth picture.cycle index part ≡ Some first → (rest : Option MadeParts) → made_parts first.table birth picture.cycle (suc index) parts ≡ rest
        → option_map (λ (r : MadeParts). record { places = first.place ∷ r.places; table = r.table }) rest ≡ Some made
        → ((m : MadeParts) → made_parts first.table birth picture.cycle (suc index) parts ≡ Some m → with_table picture (table_map drawn_of m.table) ≡ drawn_all (with_table picture (table_map drawn_of first.table)) (make_deeds first.table birth picture.cycle (suc index) parts))
        → with_table picture (table_map drawn_of made.table) ≡ drawn_all (with_table picture (table_map drawn_of table)) (make_deeds table birth picture.cycle index (part ∷ parts))
    by_rest first one rest is h more = search (arith, none-some, same_Some, is, part-drawn, part-placed, make_deeds-more)

    by_first : (first : Option Made) → made_part table birth picture.cycle index part ≡ first
        → option_and_then (λ (f : Made). option_map (λ (r : MadeParts). record { places = f.place ∷ r.places; table = r.table }) (made_parts f.table birth picture.cycle (suc index) parts)) first ≡ Some made
        → ((t : Table Block) (m : MadeParts) → made_parts t birth picture.cycle (suc index) parts ≡ Some m → with_table picture (table_map drawn_of m.table) ≡ drawn_all (with_table picture (table_map drawn_of t)) (make_deeds t birth picture.cycle (suc index) parts))
        → with_table picture (table_map drawn_of made.table) ≡ drawn_all (with_table picture (table_map drawn_of table)) (make_deeds table birth picture.cycle index (part ∷ parts))
    by_first first is h more = grind (arith, none-some, by_rest, is)

-- an object made
group-drawn : (picture : Picture) (table : Table Block) (birth references numbers : ℕ) (made : Made) → IsShaped table → made_group table birth picture.cycle (parts references numbers) ≡ Some made
    → with_table picture (table_map drawn_of made.table) ≡ drawn_all (with_table picture (table_map drawn_of table)) (make_deeds table birth picture.cycle 0 (parts references numbers))
group-drawn picture table birth references numbers made shaped e = by_parts (made_parts table birth picture.cycle 0 (parts references numbers)) refl e
  where
    by_places : (all : MadeParts) (places : List ℕ) → all.places ≡ places → AreMade table birth picture.cycle 0 (parts references numbers) all → group_of all.table places (parts references numbers) ≡ Some made → table_map drawn_of made.table ≡ table_map drawn_of all.table
    by_places all [] is are h = absurd (none-some made h)
    by_places all (place ∷ places) is are h =
        let inside = λ (i : ℕ) (part : Part) (child : ℕ) (at : slice_get (parts references numbers) i ≡ Some part) (has : part.children ≡ Some child). subst (λ count. child + part.references ≤ count) (sym are.count ∙ ap length is) (parts_fit.children references numbers i part child at has).1 in
        ap (λ (m : Made). table_map drawn_of m.table) (sym (same_Some (record { place = place; table = linked_parts (place ∷ places) all.table (place ∷ places) (parts references numbers) }) made h))
        ∙ linked-unseen (place ∷ places) (parts references numbers) (place ∷ places) all.table
        (made-have (place ∷ places) (parts references numbers) (place ∷ places) all.table birth picture.cycle 0 (λ i other part at at'. are.there i other part (ap (λ list. slice_get list i) is ∙ at) at') inside)

    by_parts : (all : Option MadeParts) → made_parts table birth picture.cycle 0 (parts references numbers) ≡ all → option_and_then (λ (m : MadeParts). group_of m.table m.places (parts references numbers)) all ≡ Some made
        → with_table picture (table_map drawn_of made.table) ≡ drawn_all (with_table picture (table_map drawn_of table)) (make_deeds table birth picture.cycle 0 (parts references numbers))
    by_parts all is h = grind (arith, none-some, by_places, made_parts-are, is, parts-drawn)

-- Commands ---------------------------------------------------------------------------------------

-- the deeds by which an answer came about draw what it left
abbrev IsTold : HeapState → Command → Answer HeapState → Type 0
IsTold heap command answer = picture_of answer.state.collector ≡ drawn_all (picture_of heap.collector) (new_deeds heap command answer.reply ++ barrier_deeds heap.collector.grey answer.state.collector.grey)

-- no part was placed
told-more : (heap : HeapState) (command : Command) (answer : Answer HeapState) → new_deeds heap command answer.reply ≡ [] → IsShadedMore heap.collector answer.state.collector → IsTold heap command answer
told-more heap command answer none more = grind (arith, barrier-drawn)

refused-places_nothing : (heap : HeapState) (c : Command) (refused : Refusal) → new_deeds heap c (Reply.Refused refused) ≡ []
refused-places_nothing heap c refused = grind arith

-- a new object that was born
born-told : (heap : HeapState) (slot references numbers : ℕ) (made : Made) → IsShaped heap.collector.table → new_group heap references numbers ≡ Some made → IsTold heap (Command.New slot references numbers) (done (with_born heap slot made))
born-told heap slot references numbers made shaped e =
    let placed : Collector = record (heap.collector) { table = made.table } in
    let makes : List Deed = make_deeds heap.collector.table heap.next_birth heap.collector.cycle 0 (parts references numbers) in
    let after : Collector = with_root placed slot (Some made.place) in
    barrier-drawn placed after (root-more placed slot (Some made.place))
    ∙ ap (λ picture. drawn_all picture (barrier_deeds heap.collector.grey after.grey)) (group-drawn (picture_of heap.collector) heap.collector.table heap.next_birth references numbers made shaped e)
    ∙ sym (drawn_all-append makes (barrier_deeds heap.collector.grey after.grey) (picture_of heap.collector))

new-told : (heap : HeapState) (who slot references numbers : ℕ) → IsShaped heap.collector.table → (mutator_step heap who (Command.New slot references numbers)).reply ≡ Reply.Done
    → IsTold heap (Command.New slot references numbers) (mutator_step heap who (Command.New slot references numbers))
new-told heap who slot references numbers shaped is =
    let born = new-done heap who slot references numbers is in
    grind (arith, is, born-told)

-- its effect places no part
told-by : (heap : HeapState) (who : ℕ) (c : Command) → mutator_step heap who c ≡ heap_effect heap who c → new_deeds heap c (heap_effect heap who c).reply ≡ [] → IsShadedMore heap.collector (heap_effect heap who c).state.collector → IsTold heap c (mutator_step heap who c)
told-by heap who c e none more = subst (IsTold heap c) (sym e) (told-more heap c (heap_effect heap who c) none more)

-- A command that isn't refused
effect-told : (heap : HeapState) (who : ℕ) (c : Command) → IsShaped heap.collector.table → mutator_step heap who c ≡ heap_effect heap who c → IsTold heap c (mutator_step heap who c)
unfolding heap_effect with_session_cleared
effect-told heap who (Command.New slot references numbers) shaped e = new-told heap who slot references numbers shaped (ap (λ (a : Answer HeapState). a.reply) e)
effect-told heap who (Command.Get slot source field) shaped e = told-by heap who (Command.Get slot source field) e refl (root-more heap.collector (own_slot who slot) (loaded_reference heap.collector.table (field_of heap (own_slot who source) field)))
effect-told heap who (Command.Put slot field value) shaped e = told-by heap who (Command.Put slot field value) e refl (reference-more heap.collector (field_of heap (own_slot who slot) field) (root_at heap (own_slot who value)))
effect-told heap who (Command.Copy slot source) shaped e = told-by heap who (Command.Copy slot source) e refl (root-more heap.collector (own_slot who slot) (root_at heap (own_slot who source)))
effect-told heap who (Command.Clear slot) shaped e = told-by heap who (Command.Clear slot) e refl (root-more heap.collector (own_slot who slot) None)
effect-told heap who (Command.Read slot index) shaped e = told-by heap who (Command.Read slot index) e refl (nothing_more heap.collector)
effect-told heap who (Command.Write slot index number) shaped e = told-by heap who (Command.Write slot index number) e refl (number-more heap.collector (number_field heap (own_slot who slot) index) number)
effect-told heap who (Command.Same left right) shaped e = told-by heap who (Command.Same left right) e refl (nothing_more heap.collector)
effect-told heap who (Command.Shape slot) shaped e = told-by heap who (Command.Shape slot) e refl (nothing_more heap.collector)
effect-told heap who (Command.Post board slot) shaped e = told-by heap who (Command.Post board slot) e refl (root-more heap.collector (board_slot board) (root_at heap (own_slot who slot)))
effect-told heap who (Command.Take slot board) shaped e = told-by heap who (Command.Take slot board) e refl (root-more heap.collector (own_slot who slot) (root_at heap (board_slot board)))
effect-told heap who Command.End shaped e = told-by heap who Command.End e refl (roots_cleared-more heap.collector (own_slot who 0) 16)

step-is : (heap : HeapState) (who : ℕ) (command : Command) (answer : Option Refusal) → refusal (heap_sight heap) who command ≡ answer → mutator_step heap who command ≡ unless_refused answer heap (heap_effect heap who command)
unfolding mutator_step
step-is heap who command answer e = ap (λ o. unless_refused o heap (heap_effect heap who command)) e

-- The deeds of a command
pub commands-tell : CommandsTellThePicture
unfolding command_deeds
commands-tell heap who command (snapshot, keeps) = go (refusal (heap_sight heap) who command) refl
  where
    go : (answer : Option Refusal) → refusal (heap_sight heap) who command ≡ answer → IsTold heap command (mutator_step heap who command)
    go None e = effect-told heap who command keeps.sound.narrow (step-is heap who command None e)
    go (Some refused) e =
        subst (IsTold heap command) (sym (step-is heap who command (Some refused) e))
        (told-more heap command (says (Reply.Refused refused) heap) (refused-places_nothing heap command refused) (nothing_more heap.collector))
