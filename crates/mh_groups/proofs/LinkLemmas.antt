-- Parts linked to their children: a block changed, the references of one part written in turn, and the parts in order.
use Rattle.std.proofs.Common.{◌≡◌, ◌≢◌, ℕ, zero, suc, ◌+◌, ◌<◌, ◌≤◌, inl, inr, List, [], ◌∷◌, ◌++◌, length, get_or, set, take, drop, map, slice_get, Option, Some, None, option_map, unwrap_or, IsSome, refl, sym, ap, ◌∙◌, subst, arith}
use Rattle.std.proofs.{Math.Seq.{drop-cons, drop-length}, lemmas.Bool.cases_eq}
use Rattle.std.proofs.lemmas.Option.{same_Some, slice_get_within}
use Rattle.std.proofs.lemmas.List.{length-take, length-drop, length-replicate}
use Rattle.mh_model.specs.{Classes.Part, Pages.{Table, block_at, with_block}}
use Rattle.mh_model.specs.Table.{Block, references_at, with_reference_at, with_block_change, words_of, linked_block, linked_parts}
use Rattle.mh_groups.specs.Auxiliary.{HaveTheirChildren, IsUnlinked, AreUnlinked}
use Rattle.mh_table_laws.proofs.Lists.{from_some, to_some}
use Rattle.mh_table_laws.proofs.placing.Places.{block_at-with_block_there, block_at-with_block_other, with_block-twice, with_block-self}
use Rattle.mh_table_laws.proofs.objects.Parts.{slice_there}
use Rattle.mh_groups.proofs.MadeLemmas.{drop-slice}

-- A block changed --------------------------------------------------------------------------------

module _ (table : Table Block) (place : ℕ) (block : Block) (there : block_at table place ≡ Some block) where
  pub changed_here : (change : Block → Block) → block_at (with_block_change table place change) place ≡ Some (change block)
  changed_here change = block_at-with_block_there table place (option_map change (block_at table place)) (to_some _ block there) ∙ ap (option_map change) there

  -- two changes that make the same of the block that is there
  pub changed_alike : (change other : Block → Block) → change block ≡ other block → with_block_change table place change ≡ with_block_change table place other
  changed_alike change other same = ap (with_block table place) (ap (option_map change) there ∙ ap Some same ∙ sym (ap (option_map other) there))

  pub changed_twice : (first second : Block → Block) → with_block_change (with_block_change table place first) place second ≡ with_block_change table place (λ b. second (first b))
  changed_twice first second = grind (arith, changed_here, with_block-twice)

  -- a change that changes nothing
  pub changed_nothing : (change : Block → Block) → change block ≡ block → with_block_change table place change ≡ table
  changed_nothing change same = ap (with_block table place) (ap (option_map change) there ∙ ap Some same ∙ sym there) ∙ with_block-self table place

-- a block is changed if one is, and each other stays
pub changed-there : (table : Table Block) (place other : ℕ) (change : Block → Block) → IsSome (block_at table other) → IsSome (block_at (with_block_change table place change) other)
changed-there table place other change is = elim (cases_eq other place) [
  | inl same ↦
      let (block, there) = from_some (block_at table place) (subst (λ q. IsSome (block_at table q)) same is) in
      to_some _ (change block) (ap (block_at (with_block_change table place change)) same ∙ changed_here table place block there change)
  | inr apart ↦ subst IsSome (sym (block_at-with_block_other table place other _ apart)) is
]

-- The children of one part -----------------------------------------------------------------------

-- a block whose first references are written
abbrev pub with_some_children : List ℕ → ℕ → Block → Block
with_some_children children count block = record block { references = map Some (take count children) ++ drop count block.references }

abbrev pub with_children : List ℕ → Block → Block
with_children children block = record block { references = map Some children }

length_linked : (count : ℕ) (children : List ℕ) (references : List (Option ℕ)) → length references ≡ length children → length (map Some (take count children) ++ drop count references) ≡ length children
length_linked zero children references same = same
length_linked (suc count) [] [] same = refl
length_linked (suc count) [] (r ∷ references) same = absurd (omega arith)
length_linked (suc count) (child ∷ children) [] same = absurd (omega arith)
length_linked (suc count) (child ∷ children) (r ∷ references) same = ap suc (length_linked count children references (omega arith))

one_written : (count : ℕ) (children : List ℕ) (references : List (Option ℕ)) → count < length children → length references ≡ length children
    → set (map Some (take count children) ++ drop count references) count (Some (get_or children count 0)) ≡ map Some (take (suc count) children) ++ drop (suc count) references
one_written count [] references below same = absurd (omega arith)
one_written count (child ∷ children) [] below same = absurd (omega arith)
one_written zero (child ∷ children) (r ∷ references) below same = refl
one_written (suc count) (child ∷ children) (r ∷ references) below same = ap (λ rest. Some child ∷ rest) (one_written count children references (omega arith) (omega arith))

-- So many of a part's references are written
pub record HasSomeChildren (old : Table Block) (place : ℕ) (children : List ℕ) (table : Table Block) (count : ℕ) : Type 0 where
  pub is : table ≡ with_block_change old place (with_some_children children count)

pub references-length : (table : Table Block) (place : ℕ) (block : Block) → block_at table place ≡ Some block → references_at table place ≡ block.references
references-length table place block there = ap (λ content. unwrap_or (option_map (λ (b : Block). b.references) content) []) there

module _ (old : Table Block) (place : ℕ) (children : List ℕ) (is : IsSome (block_at old place)) (count_is : length (references_at old place) ≡ length children) where
  abbrev block : Block
  block = (from_some (block_at old place) is).0

  there : block_at old place ≡ Some block
  there = (from_some (block_at old place) is).1

  size : length block.references ≡ length children
  size = sym (ap length (references-length old place block there)) ∙ count_is

  pub no_child : HasSomeChildren old place children old 0
  no_child = record { is = sym (changed_nothing old place block there (with_some_children children 0) refl) }

  pub child_within : (table : Table Block) (count : ℕ) → HasSomeChildren old place children table count → count < length children → count < length (references_at table place)
  child_within table count so_far below =
      let at = changed_here old place block there (with_some_children children count) in
      grind (arith, length_linked, size, references-length)

  pub child_there : (table : Table Block) (count other : ℕ) → HasSomeChildren old place children table count → IsSome (block_at old other) → IsSome (block_at table other)
  child_there table count other so_far some = subst (λ t. IsSome (block_at t other)) (sym so_far.is) (changed-there old place other (with_some_children children count) some)

  pub one_child : (table : Table Block) (count : ℕ) → HasSomeChildren old place children table count → count < length children → HasSomeChildren old place children (with_reference_at table place count (Some (get_or children count 0))) (suc count)
  one_child table count so_far below = record {
    is =
        ap (λ t. with_reference_at t place count (Some (get_or children count 0))) so_far.is
        ∙ changed_twice old place block there (with_some_children children count) (λ b. record b { references = set b.references count (Some (get_or children count 0)) })
        ∙ changed_alike old place block there _ (with_some_children children (suc count)) (ap (λ references. record block { references = references }) (one_written count children block.references below size));
  }

-- The parts in order -----------------------------------------------------------------------------

-- So many parts are linked: what is left of the model's linking, and the parts that aren't linked yet are as they were made
pub record AreLinkedSoFar (old : Table Block) (list : List Part) (places : List ℕ) (table : Table Block) (count : ℕ) : Type 0 where
  pub left : linked_parts places old places list ≡ linked_parts places table (drop count places) (drop count list)
  pub unlinked : AreUnlinked table places list count
  pub there : (number : ℕ) → number < length list → IsSome (block_at table (get_or places number 0))

pub none_linked : (old : Table Block) (list : List Part) (places : List ℕ) → AreUnlinked old places list 0 → AreLinkedSoFar old list places old 0
none_linked old list places unlinked = record {
  left = refl;
  unlinked = unlinked;
  there = λ number below. let (part, at) = slice_there list number below in let one = unlinked number part (omega arith) at in to_some _ one.block one.there;
}

module _ (old : Table Block) (list : List Part) (places : List ℕ) (table : Table Block) (count : ℕ) (part : Part) (so_far : AreLinkedSoFar old list places table count) (at : slice_get list count ≡ Some part) (same_length : length places ≡ length list) where
  here : IsUnlinked table (get_or places count 0) count part
  here = so_far.unlinked count part (omega arith) at

  -- a part later on is at another place
  places_apart : (number : ℕ) (later : Part) → suc count ≤ number → slice_get list number ≡ Some later → get_or places number 0 ≢ get_or places count 0
  places_apart number later after at' same =
      let other = so_far.unlinked number later (omega arith) at' in
      grind (arith, here, same_Some)

  pub one_linked : (new : Table Block) → new ≡ with_block_change table (get_or places count 0) (linked_block places part) → AreLinkedSoFar old list places new (suc count)
  one_linked new is = record {
    left =
        so_far.left
        ∙ ap (linked_parts places table (drop count places)) (drop-slice list count part at)
        ∙ ap (λ rest. linked_parts places table rest (part ∷ drop (suc count) list)) (drop-cons places count 0 (omega (arith, slice_get_within list count part at)))
        ∙ ap (λ t. linked_parts places t (drop (suc count) places) (drop (suc count) list)) (sym is);
    unlinked = λ number later after at'.
        let other = so_far.unlinked number later (omega arith) at' in
        record {
          block = other.block;
          there = ap (λ t. block_at t (get_or places number 0)) is ∙ block_at-with_block_other table (get_or places count 0) (get_or places number 0) _ (places_apart number later after at') ∙ other.there;
          number_is = other.number_is;
          references = other.references;
        };
    there = λ number below. subst (λ t. IsSome (block_at t (get_or places number 0))) (sym is) (changed-there table (get_or places count 0) (get_or places number 0) (linked_block places part) (so_far.there number below));
  }

  -- a part without children has its references already
  pub childless_linked : part.children ≡ None → AreLinkedSoFar old list places table (suc count)
  childless_linked none =
      let words : words_of places part.references part.children ≡ here.block.references = ap (words_of places part.references) none ∙ sym here.references in
      one_linked table (sym (changed_nothing table (get_or places count 0) here.block here.there (linked_block places part) (ap (λ references. record here.block { references = references }) words)))

  -- and one with children has them once they are written
  pub children_linked : (child : ℕ) (new : Table Block) → part.children ≡ Some child → new ≡ with_block_change table (get_or places count 0) (with_children (take part.references (drop child places))) → AreLinkedSoFar old list places new (suc count)
  children_linked child new some is = one_linked new (is ∙ ap (λ children. with_block_change table (get_or places count 0) (λ b. record b { references = words_of places part.references children })) (sym some))

  -- its block has a reference for each child
  pub children_count : (child : ℕ) → part.children ≡ Some child → HaveTheirChildren list → length (references_at table (get_or places count 0)) ≡ length (take part.references (drop child places))
  children_count child some have = grind (arith, references-length, here, length-replicate, length-take, length-drop)

pub all_linked : (old : Table Block) (list : List Part) (places : List ℕ) (table : Table Block) → length places ≡ length list → AreLinkedSoFar old list places table (length list) → table ≡ linked_parts places old places list
all_linked old list places table same so_far = grind (arith, drop-length)

-- nothing is left to do from a part without children on
pub rest_linked : (left count : ℕ) (old : Table Block) (list : List Part) (places : List ℕ) (table : Table Block) → HaveTheirChildren list → length places ≡ length list → count + left ≡ length list
    → ((number : ℕ) (part : Part) → count ≤ number → slice_get list number ≡ Some part → part.children ≡ None) → AreLinkedSoFar old list places table count → table ≡ linked_parts places old places list
rest_linked zero count old list places table have same all childless so_far =
    let end : count ≡ length list = omega arith in
    all_linked old list places table same (subst (AreLinkedSoFar old list places table) end so_far)
rest_linked (suc left) count old list places table have same all childless so_far =
    let (part, at) = slice_there list count (omega arith) in
    rest_linked left (suc count) old list places table have same (omega arith) (λ number other after at'. childless number other (omega arith) at')
    (childless_linked old list places table count part so_far at same (childless count part (omega arith) at))
