-- The runs of 60 fields of an object's blocks, one or two spines below its first part, join to its fields.
use Rattle.std.proofs.Common.{◌≡◌, ℕ, zero, suc, ◌+◌, ◌-◌, ◌*◌, ◌/◌, ◌%◌, ◌<◌, ◌≤◌, min, nat_lt, Bool, true, false, if◌then◌else◌, ◌⊎◌, inl, inr, List, [], ◌∷◌, ◌++◌, length, get_or, set, map, flat_map, slice_get, Option, Some, None, option_map, unwrap_or, refl, sym, ap, ap₂, ◌∙◌, subst, arith}
use Rattle.std.proofs.{lemmas.Bool.{ltb-true, ltb-false}, lemmas.Option.{none-some, same_Some}}
use Rattle.std.proofs.lemmas.List.{length-map, length-append, get_or_append_left}
use Rattle.std.specs.Prelude.{option_to_list}
use Rattle.mh_model.specs.{declared.shape.Shape.Shape, World.shape_of}
use Rattle.mh_model.specs.{Classes.{Part, run_count, middle_count, child_count, parts}, Pages.{Table, block_at}}
use Rattle.mh_model.specs.Table.{Block, Position, resolve, is_spine, is_tall, is_at, child_place, spine_place, arraylet_place, position_of}
use Rattle.mh_model.specs.Collector.{Collector}
use Rattle.mh_model.specs.View.{block_named, blocks_named, birth_named, arraylet_words, field_blocks, object_of}
use Rattle.mh_model.specs.Invariant.{IsPlainAt, IsSound, HasFieldsAt, first_child}
use Rattle.mh_table_laws.proofs.objects.{Parts.{IsFirst, counts, later_part, child_is}, Headers.{first_is, header_is}}

-- Lists ------------------------------------------------------------------------------------------

pub read_right : {X : Type 0} (xs ys : List X) (i j : ℕ) (d : X) → i ≡ length xs + j → get_or (xs ++ ys) i d ≡ get_or ys j d
read_right (x ∷ xs) ys (suc i) j d e = read_right xs ys i j d (omega (arith, e))
read_right xs ys i j d e = grind arith

-- Runs -------------------------------------------------------------------------------------------

-- a block has as many fields as the run of this number of an object with so many references and numbers
pub record IsRun (r n k : ℕ) (y : Block) : Type 0 where
  pub references : length y.references ≡ min 60 (r - 60 * k)
  pub numbers : length y.numbers ≡ min 60 (r + n - 60 * k) - min 60 (r - 60 * k)

-- these blocks are the runs from this one on
abbrev pub AreRuns : ℕ → ℕ → ℕ → List Block → Type 0
AreRuns r n k [] = r + n ≤ 60 * k
AreRuns r n k (y ∷ ys) = IsRun r n k y × AreRuns r n (suc k) ys

-- what is taken of each block for each of its references joins to as many as the object has
pub count_words : {X : Type 0} (w : Block → List X) → ((y : Block) → length (w y) ≡ length y.references) → (r n k : ℕ) (ys : List Block) → AreRuns r n k ys → length (flat_map w ys) ≡ r - 60 * k
count_words w size r n k [] runs = omega (arith, runs)
count_words w size r n k (y ∷ ys) (run, runs) = grind (arith, length-append, count_words w size r n (suc k) ys runs)

pub count_numbers : (r n k : ℕ) (ys : List Block) → AreRuns r n k ys → length (flat_map (λ (y : Block). y.numbers) ys) ≡ (r + n - 60 * k) - (r - 60 * k)
count_numbers r n k [] runs = omega (arith, runs)
count_numbers r n k (y ∷ ys) (run, runs) = grind (arith, length-append, count_numbers r n (suc k) ys runs)

-- Where a field lies -------------------------------------------------------------------------------

-- what is taken for a reference is read in its run
pub read_words : {X : Type 0} (d : X) (w : Block → List X) → ((y : Block) → length (w y) ≡ length y.references) → (r n k : ℕ) (ys : List Block) → AreRuns r n k ys → (f : ℕ) → f < r - 60 * k → (y : Block) → slice_get ys (f / 60) ≡ Some y → get_or (flat_map w ys) f d ≡ get_or (w y) (f % 60) d
read_words d w size r n k [] runs f below y e = absurd (none-some y e)
read_words d w size r n k (x ∷ ys) (run, runs) f below y e = go (nat_lt f 60) refl (λ j below_j e_j. read_words d w size r n (suc k) ys runs j below_j y e_j)
  where
    rest : (m : ℕ) → f ≡ 60 + m → 60 ≤ r - 60 * k → ((j : ℕ) → j < r - 60 * suc k → slice_get ys (j / 60) ≡ Some y → get_or (flat_map w ys) j d ≡ get_or (w y) (j % 60) d) → get_or (w x ++ flat_map w ys) f d ≡ get_or (w y) (f % 60) d
    rest m f_is long ih =
        let run_size = run.references in
        let remainder : m % 60 ≡ f % 60 = omega (arith, f_is) in
        grind (arith, read_right)

    go : (b : Bool) → nat_lt f 60 ≡ b → ((j : ℕ) → j < r - 60 * suc k → slice_get ys (j / 60) ≡ Some y → get_or (flat_map w ys) j d ≡ get_or (w y) (j % 60) d) → get_or (w x ++ flat_map w ys) f d ≡ get_or (w y) (f % 60) d
    go true small ih = grind (arith, ltb-true, get_or_append_left, same_Some)
    go false large ih =
        rest (f - 60) (omega (arith, ltb-false)) (omega (arith, ltb-false, below)) ih

-- a number is read in its run, after its references
read_numbers : (r n k : ℕ) (ys : List Block) → AreRuns r n k ys → (f : ℕ) → r - 60 * k ≤ f → f < r + n - 60 * k → (y : Block) → slice_get ys (f / 60) ≡ Some y → get_or (flat_map (λ (x : Block). x.numbers) ys) (f - (r - 60 * k)) 0 ≡ get_or y.numbers (f % 60 - length y.references) 0
read_numbers r n k [] runs f from below y e = absurd (none-some y e)
read_numbers r n k (x ∷ ys) (run, runs) f from below y e = go (nat_lt f 60) refl (λ j from_j below_j e_j. read_numbers r n (suc k) ys runs j from_j below_j y e_j)
  where
    rest : (m : ℕ) → f ≡ 60 + m → ((j : ℕ) → r - 60 * suc k ≤ j → j < r + n - 60 * suc k → slice_get ys (j / 60) ≡ Some y → get_or (flat_map (λ (x : Block). x.numbers) ys) (j - (r - 60 * suc k)) 0 ≡ get_or y.numbers (j % 60 - length y.references) 0) → get_or (x.numbers ++ flat_map (λ (x : Block). x.numbers) ys) (f - (r - 60 * k)) 0 ≡ get_or y.numbers (f % 60 - length y.references) 0
    rest m f_is ih =
        let run_size = run.numbers in
        let remainder : m % 60 ≡ f % 60 = omega (arith, f_is) in
        grind (arith, read_right)

    go : (b : Bool) → nat_lt f 60 ≡ b → ((j : ℕ) → r - 60 * suc k ≤ j → j < r + n - 60 * suc k → slice_get ys (j / 60) ≡ Some y → get_or (flat_map (λ (x : Block). x.numbers) ys) (j - (r - 60 * suc k)) 0 ≡ get_or y.numbers (j % 60 - length y.references) 0) → get_or (x.numbers ++ flat_map (λ (x : Block). x.numbers) ys) (f - (r - 60 * k)) 0 ≡ get_or y.numbers (f % 60 - length y.references) 0
    go true small ih = grind (arith, ltb-true, get_or_append_left, same_Some)
    go false large ih =
        rest (f - 60) (omega (arith, ltb-false)) ih

-- The fields of an object -------------------------------------------------------------------------

-- blocks that are named in order and are runs
runs_named : (table : Table Block) (r n : ℕ) (rs : List (Option ℕ)) (k : ℕ) → ((i : ℕ) → i < length rs → (w : ℕ) × (y : Block) × (get_or rs i None ≡ Some w) × (block_at table (resolve table w) ≡ Some y) × IsRun r n (k + i) y) → r + n ≤ 60 * (k + length rs) → AreRuns r n k (blocks_named table rs)
runs_named table r n [] k each end = omega (arith, end)
runs_named table r n (o ∷ rs) k each end =
    let (w, y, e, there, run) = each 0 (omega arith) in
    let k_is : k + 0 ≡ k = omega arith in
    subst (λ b. AreRuns r n k (option_to_list b ++ blocks_named table rs)) (sym (ap (block_named table) e ∙ there))
    (subst (λ m. IsRun r n m y) k_is run, runs_named table r n rs (suc k) (λ i below. let (w', y', e', there', run') = each (suc i) (omega (arith, below)) in let m : k + suc i ≡ suc k + i = omega arith in (w', y', e', there', subst (λ m. IsRun r n m y') m run')) (omega (arith, end)))

pub named_at : (table : Table Block) (rs : List (Option ℕ)) → ((i : ℕ) → i < length rs → (r : ℕ) × (y : Block) × (get_or rs i None ≡ Some r) × (block_at table (resolve table r) ≡ Some y)) → (i r : ℕ) (y : Block) → get_or rs i None ≡ Some r → block_at table (resolve table r) ≡ Some y
    → slice_get (blocks_named table rs) i ≡ Some y
named_at table (o ∷ rs) each (suc i) r y e there =
    let (r', y', e', there') = each 0 (omega arith) in
    ap (λ b. slice_get (option_to_list b ++ blocks_named table rs) (suc i)) (ap (block_named table) e' ∙ there')
    ∙ named_at table rs (λ j below. each (suc j) (omega (arith, below))) i r y e there
named_at table rs each i r y e there = grind (arith, none-some)

-- if a reference of a plain block leads
pub child_place-is : (c : Collector) (q : ℕ) (y : Block) (i r : ℕ) → IsPlainAt c q y → get_or y.references i None ≡ Some r → child_place c.table q i ≡ resolve c.table r
child_place-is c q y i r plain e = grind arith

-- a test of the block at a place
pub is_at-is : (c : Collector) (q : ℕ) (y : Block) (test : Block → Bool) (b : Bool) → IsPlainAt c q y → test y ≡ b → is_at test c.table q ≡ b
is_at-is c q y test b plain e = ap (λ o. unwrap_or (option_map test o) false) plain.there ∙ e

module _ (n : ℕ) (c : Collector) (h : IsSound n c) (p : ℕ) (z : Block) (plain : IsPlainAt c p z) (first : z.part ≡ 0) where
  abbrev s : Shape
  s = h.shapes z.birth

  abbrev refs : ℕ
  refs = z.header.references

  abbrev nums : ℕ
  nums = z.header.numbers

  abbrev size : ℕ
  size = z.header.references + z.header.numbers

  head : IsFirst s.references s.numbers (h.parts p z plain.there).part
  head = first_is n c h p z plain.there first

  header : z.header ≡ record { references = s.references; numbers = s.numbers }
  header = header_is n c h p z plain.there first

  references_is : refs ≡ s.references
  references_is = ap (λ (x : Shape). x.references) header

  numbers_is : nums ≡ s.numbers
  numbers_is = ap (λ (x : Shape). x.numbers) header

  sum_is : s.references + s.numbers ≡ size
  sum_is = ap (λ (x : Shape). x.references + x.numbers) (sym header)

  pub many : is_spine z ≡ true → 60 < size
  many spine = ltb-true 60 size spine

  -- the first part of many fields has children from part 1 on
  pub has_children : 60 < size → first_child (h.shapes z.birth) z.part ≡ Some 1
  has_children more = grind (arith, child_is, sum_is)

  pub has_none : size ≤ 60 → first_child (h.shapes z.birth) z.part ≡ None
  has_none few = grind (arith, child_is, sum_is)

  pub own_count : 60 < size → length z.references ≡ child_count size
  own_count more = grind (arith, (h.parts p z plain.there).references)

  -- a block of the object, by its part
  record IsPartAt (y : Block) (number : ℕ) : Type 0 where
    part : Part
    at : slice_get (parts s.references s.numbers) number ≡ Some part
    references : length y.references ≡ part.references
    numbers : length y.numbers ≡ part.numbers
    children : first_child (h.shapes y.birth) y.part ≡ part.children

  part_at : (q : ℕ) (y : Block) (number : ℕ) → IsPlainAt c q y → y.birth ≡ z.birth → y.part ≡ number → IsPartAt y number
  part_at q y number plain_y birth is = grind (arith, h.shapes y.birth, h.parts q y plain_y.there)

  -- the middle spine of each run of arraylets, if the object is tall
  pub record IsMiddle (i : ℕ) : Type 0 where
    pub reference : ℕ
    pub word : get_or z.references i None ≡ Some reference
    pub block : Block
    pub leads : IsPlainAt c (resolve c.table reference) block
    pub birth : block.birth ≡ z.birth
    pub children : first_child (h.shapes block.birth) block.part ≡ Some (1 + middle_count size + 60 * i)
    pub run : IsRun (run_count size) 0 i block

  pub a_middle : 3600 < size → (i : ℕ) → i < length z.references → IsMiddle i
  a_middle tall i below =
      let (r, e, (y, plain_y, birth, part)) = h.spines p z 1 plain (has_children (omega (arith, tall))) i below in
      let of = part_at (resolve c.table r) y (suc i) plain_y birth (part ∙ omega arith) in
      grind (arith, own_count, later_part, counts, sum_is)

  abbrev spines_below : List Block
  spines_below = blocks_named c.table z.references

  middle_runs : 3600 < size → AreRuns (run_count size) 0 0 spines_below
  middle_runs tall =
      let own = own_count (omega (arith, tall)) in
      elim (counts size).case [
        | inl k ↦ absurd (omega (arith, tall, k.0))
        | inr k ↦ runs_named c.table (run_count size) 0 z.references 0 (λ i below. let m = a_middle tall i below in let j : i ≡ 0 + i = omega arith in (m.reference, m.block, m.word, m.leads.there, subst (λ x. IsRun (run_count size) 0 x m.block) j m.run)) (omega (arith, own, k.2))
      ]

  -- the arraylet of each run, if the block is a spine, and the spine that refers to it
  pub record IsArraylet (i : ℕ) : Type 0 where
    pub reference : ℕ
    pub word : get_or (arraylet_words c.table z) i None ≡ Some reference
    pub block : Block
    pub leads : IsPlainAt c (resolve c.table reference) block
    pub birth : block.birth ≡ z.birth
    pub number : block.part ≡ 1 + middle_count size + i
    pub flat : first_child (h.shapes block.birth) block.part ≡ None
    pub run : IsRun refs nums i block
    pub spine : ℕ
    pub spine_block : Block
    pub spine_plain : IsPlainAt c spine spine_block
    pub index : ℕ
    pub own : get_or spine_block.references index None ≡ Some reference
    pub spine_is : (field : ℕ) → field / 60 ≡ i → spine_place c.table p field ≡ spine
    pub index_is : (field : ℕ) → field / 60 ≡ i → field / 60 % 60 ≡ index
    pub way : ((spine ≡ p) × (spine_block ≡ z)) ⊎ ((j : ℕ) × (r : ℕ) × (get_or z.references j None ≡ Some r) × (resolve c.table r ≡ spine))

  -- a block with the number of an arraylet is one
  leaf : (q : ℕ) (y : Block) (i : ℕ) → IsPlainAt c q y → y.birth ≡ z.birth → y.part ≡ 1 + middle_count size + i → (first_child (h.shapes y.birth) y.part ≡ None) × IsRun refs nums i y
  leaf q y i plain_y birth number =
      let of = part_at q y (suc (middle_count size + i)) plain_y birth (number ∙ omega arith) in
      grind (arith, later_part, references_is, numbers_is)

  pub an_arraylet : is_spine z ≡ true → (i : ℕ) → i < run_count size → IsArraylet i
  an_arraylet spine i below = go (is_tall z) refl
    where
      go : (b : Bool) → is_tall z ≡ b → IsArraylet i
      go false low =
          let few : size ≤ 3600 = omega (arith, ltb-false 3600 size low) in
          let more : 60 < size = many spine in
          elim (counts size).case [
            | inr k ↦ absurd (omega (arith, few, k.0))
            | inl k ↦
                let own = own_count more in
                let (r, e, (y, plain_y, birth, part)) = h.spines p z 1 plain (has_children more) i (omega (arith, below, own, k.2)) in
                let number : y.part ≡ 1 + middle_count size + i = part ∙ omega (arith, k.1) in
                let (flat, run) = leaf (resolve c.table r) y i plain_y birth number in
                grind arith
          ]
      go true high =
          let tall : 3600 < size = ltb-true 3600 size high in
          let own = own_count (omega (arith, tall)) in
          elim (counts size).case [
            | inl k ↦ absurd (omega (arith, tall, k.0))
            | inr k ↦
                let m = a_middle tall (i / 60) (omega (arith, below, own, k.2)) in
                let run_size = m.run.references in
                let (r, e, (y, plain_y, birth, part)) = h.spines (resolve c.table m.reference) m.block (1 + middle_count size + 60 * (i / 60)) m.leads m.children (i % 60) (omega (arith, run_size, below)) in
                let number : y.part ≡ 1 + middle_count size + i = part ∙ omega arith in
                let (flat, run) = leaf (resolve c.table r) y i plain_y (birth ∙ m.birth) number in
                let here : is_at is_tall c.table p ≡ true = is_at-is c p z is_tall true plain high in
                let slot : slice_get spines_below (i / 60) ≡ Some m.block = named_at c.table z.references (λ j inside. let w = a_middle tall j inside in (w.reference, w.block, w.word, w.leads.there)) (i / 60) m.reference m.block m.word m.leads.there in
                record {
                  reference = r;
                  word = ap (λ b. get_or (if b then flat_map (λ (x : Block). x.references) spines_below else z.references) i None) high
                      ∙ read_words None (λ (x : Block). x.references) (λ x. refl) (run_count size) 0 0 spines_below (middle_runs tall) i (omega (arith, below)) m.block slot ∙ e;
                  block = y;
                  leads = plain_y;
                  birth = birth ∙ m.birth;
                  number = number;
                  flat = flat;
                  run = run;
                  spine = resolve c.table m.reference;
                  spine_block = m.block;
                  spine_plain = m.leads;
                  index = i % 60;
                  own = e;
                  spine_is = λ field at.
                      let quotient : field / 3600 ≡ i / 60 = omega (arith, at) in
                      ap (λ b. if b then child_place c.table p (field / 3600) else p) here ∙ ap (child_place c.table p) quotient ∙ child_place-is c p z (i / 60) m.reference plain m.word;
                  index_is = λ field at. ap (λ k. k % 60) at;
                  way = inr (i / 60, m.reference, m.word, refl);
                }
          ]

  -- it has as many references to arraylets as it has runs
  pub arraylet_count : is_spine z ≡ true → length (arraylet_words c.table z) ≡ run_count size
  arraylet_count spine = go (is_tall z) refl
    where
      go : (b : Bool) → is_tall z ≡ b → length (if b then flat_map (λ (x : Block). x.references) spines_below else z.references) ≡ run_count size
      go false low = grind (arith, ltb-false, counts, own_count, many)
      go true high = count_words (λ (x : Block). x.references) (λ x. refl) (run_count size) 0 0 spines_below (middle_runs (ltb-true 3600 size high)) ∙ omega arith

  pub are_runs : AreRuns refs nums 0 (field_blocks c.table z)
  are_runs = go (is_spine z) refl
    where
      go : (b : Bool) → is_spine z ≡ b → AreRuns refs nums 0 (if b then blocks_named c.table (arraylet_words c.table z) else z ∷ [])
      go true spine =
          let count = arraylet_count spine in
          runs_named c.table refs nums (arraylet_words c.table z) 0 (λ i below. let a = an_arraylet spine i (omega (arith, below, count)) in let m : i ≡ 0 + i = omega arith in (a.reference, a.block, a.word, a.leads.there, subst (λ m. IsRun refs nums m a.block) m a.run)) (omega (arith, count))
      go false flat = grind (arith, ltb-false 60 (refs + nums) flat, (h.parts p z plain.there).references, (h.parts p z plain.there).numbers)

  -- the object has the shape that its header says
  pub shape_is : shape_of (object_of c.table z) ≡ z.header
  shape_is = grind (arith, count_words, length-map, are_runs, count_numbers)

module _ (n : ℕ) (c : Collector) (h : IsSound n c) (p : ℕ) (z : Block) (plain : IsPlainAt c p z) (first : z.part ≡ 0) where
  -- the block in which a field lies, among the blocks that have the object's fields
  pub record IsLaid (field : ℕ) : Type 0 where
    pub block : Block
    pub lies : IsPlainAt c (position_of c.table p field).place block
    pub at : slice_get (field_blocks c.table z) (field / 60) ≡ Some block
    pub index : (position_of c.table p field).index ≡ field % 60
    pub birth : block.birth ≡ z.birth
    pub flat : first_child z.header block.part ≡ None

  -- if a field lies, by whether the block is a spine
  abbrev position_by : ℕ → Bool → Position
  position_by field spine = if spine then record { place = arraylet_place c.table p field; index = field % 60 } else record { place = p; index = field }

  -- the children of a part of the object, by the header of its first part
  pub by_header : (y : Block) → y.birth ≡ z.birth → first_child (h.shapes y.birth) y.part ≡ None → first_child z.header y.part ≡ None
  by_header y birth flat = grind (arith, header_is n c h p z plain.there first)

  pub laid : (field : ℕ) → field < z.header.references + z.header.numbers → IsLaid field
  laid field below = go (is_spine z) refl
    where
      go : (b : Bool) → is_spine z ≡ b → IsLaid field
      go false flat = grind arith
      go true spine =
          let count = arraylet_count n c h p z plain first spine in
          let a = an_arraylet n c h p z plain first spine (field / 60) (omega (arith, below)) in
          let position : position_of c.table p field ≡ position_by field true = ap (position_by field) (is_at-is c p z is_spine true plain spine) in
          let place : (position_of c.table p field).place ≡ resolve c.table a.reference =
          ap (λ (x : Position). x.place) position ∙ ap₂ (child_place c.table) (a.spine_is field refl) (a.index_is field refl) ∙ child_place-is c a.spine a.spine_block a.index a.reference a.spine_plain a.own in
          record {
            block = a.block;
            lies = subst (λ q. IsPlainAt c q a.block) (sym place) a.leads;
            at = ap (λ b. slice_get (if b then blocks_named c.table (arraylet_words c.table z) else z ∷ []) (field / 60)) spine
                ∙ named_at c.table (arraylet_words c.table z) (λ i inside. let b = an_arraylet n c h p z plain first spine i (omega (arith, inside, count)) in (b.reference, b.block, b.word, b.leads.there)) (field / 60) a.reference a.block a.word a.leads.there;
            index = ap (λ (x : Position). x.index) position;
            birth = a.birth;
            flat = by_header a.block a.birth a.flat;
          }

  -- what lies there has fields itself
  pub has_fields : (field : ℕ) (l : IsLaid field) → HasFieldsAt c (position_of c.table p field).place l.block
  has_fields field l = grind arith

  -- a reference and a number of the object are what lies there
  pub reference_read : (field : ℕ) (below : field < z.header.references) (l : IsLaid field) → get_or (object_of c.table z).references field None ≡ get_or (map (birth_named c.table) l.block.references) (position_of c.table p field).index None
  reference_read field below l =
      read_words None (λ (x : Block). map (birth_named c.table) x.references) (λ x. length-map x.references (birth_named c.table)) z.header.references z.header.numbers 0 (field_blocks c.table z) (are_runs n c h p z plain first) field (omega (arith, below)) l.block l.at
      ∙ ap (λ j. get_or (map (birth_named c.table) l.block.references) j None) (sym l.index)

  pub number_read : (index : ℕ) (below : index < z.header.numbers) (l : IsLaid (z.header.references + index)) → get_or (object_of c.table z).numbers index 0 ≡ get_or l.block.numbers ((position_of c.table p (z.header.references + index)).index - length l.block.references) 0
  number_read index below l =
      ap (λ j. get_or (object_of c.table z).numbers j 0) (omega arith)
      ∙ read_numbers z.header.references z.header.numbers 0 (field_blocks c.table z) (are_runs n c h p z plain first) (z.header.references + index) (omega arith) (omega (arith, below)) l.block l.at
      ∙ ap (λ j. get_or l.block.numbers (j - length l.block.references) 0) (sym l.index)

-- Writing a field ----------------------------------------------------------------------------------

set_left : {X : Type 0} (xs ys : List X) (i : ℕ) (v : X) → i < length xs → set (xs ++ ys) i v ≡ set xs i v ++ ys
set_left (x ∷ xs) ys (suc i) v below = ap (λ zs. x ∷ zs) (set_left xs ys i v (omega (arith, below)))
set_left xs ys i v below = grind arith

set_right : {X : Type 0} (xs ys : List X) (i j : ℕ) (v : X) → i ≡ length xs + j → set (xs ++ ys) i v ≡ xs ++ set ys j v
set_right (x ∷ xs) ys (suc i) j v e = ap (λ zs. x ∷ zs) (set_right xs ys i j v (omega (arith, e)))
set_right xs ys i j v e = grind arith

-- lists of blocks that are the same but for the one of this number
abbrev pub AreSameBut : (Block → Block → Type 0) → ℕ → List Block → List Block → Type 0
AreSameBut Changes i [] ys' = ⊥
AreSameBut Changes i (x ∷ ys) [] = ⊥
AreSameBut Changes zero (x ∷ ys) (x' ∷ ys') = Changes x x' × (ys' ≡ ys)
AreSameBut Changes (suc i) (x ∷ ys) (x' ∷ ys') = (x' ≡ x) × AreSameBut Changes i ys ys'

-- a number of a block is another
abbrev pub SetsNumber : ℕ → ℕ → Block → Block → Type 0
SetsNumber field number x x' = x'.numbers ≡ set x.numbers (field - length x.references) number

-- a number is written in its run, after its references
pub write_numbers : (r n k : ℕ) (ys ys' : List Block) → AreRuns r n k ys → (i j : ℕ) (number : ℕ) → j < 60 → r - 60 * k ≤ 60 * i + j → 60 * i + j < r + n - 60 * k → AreSameBut (SetsNumber j number) i ys ys'
    → flat_map (λ (x : Block). x.numbers) ys' ≡ set (flat_map (λ (x : Block). x.numbers) ys) (60 * i + j - (r - 60 * k)) number
write_numbers r n k (x ∷ ys) (x' ∷ ys') (run, runs) (suc i) j number small from below (is, same) =
    let run_size = run.numbers in
    let rest = write_numbers r n (suc k) ys ys' runs i j number small (omega (arith, from)) (omega (arith, below)) same in
    grind (arith, rest, set_right)
write_numbers r n k ys ys' runs i j number small from below same = grind (arith, set_left)

-- a reference of a block is another
abbrev pub SetsReference : (Option ℕ → Option ℕ) → ℕ → Option ℕ → Block → Block → Type 0
SetsReference g field name x x' = map g x'.references ≡ set (map g x.references) field name

-- a reference is written in its run
pub write_references : (r n : ℕ) (g : Option ℕ → Option ℕ) (k : ℕ) (ys ys' : List Block) → AreRuns r n k ys → (i j : ℕ) (name : Option ℕ) → j < 60 → 60 * i + j < r - 60 * k → AreSameBut (SetsReference g j name) i ys ys'
    → flat_map (λ (x : Block). map g x.references) ys' ≡ set (flat_map (λ (x : Block). map g x.references) ys) (60 * i + j) name
write_references r n g k (x ∷ ys) (x' ∷ ys') (run, runs) (suc i) j name small below (is, same) =
    let run_size = run.references in
    let rest = write_references r n g (suc k) ys ys' runs i j name small (omega (arith, below)) same in
    grind (arith, rest, set_right, length-map)
write_references r n g k ys ys' runs i j name small below same = grind (arith, set_left, length-map)
