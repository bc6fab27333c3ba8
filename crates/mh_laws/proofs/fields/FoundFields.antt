-- Where the fields of objects lie, what lies there, and what references lead to.
-- In a kept heap a root slot holds an object. Each of its fields is found behind no spine, one or two, and its references lead on to objects.
use Rattle.std.proofs.Common.{◌≡◌, ℕ, suc, ◌+◌, ◌/◌, ◌%◌, ◌<◌, Bool, true, inl, inr, List, ◌∷◌, get_or, slice_get, Option, Some, None, option_map, option_and_then, refl, sym, ap, ◌∙◌, subst, arith}
use Rattle.std.proofs.{lemmas.Bool.ltb-true, lemmas.Option.{none-some, same_Some}}
use Rattle.mh_model.specs.{declared.shape.Shape.Shape, Pages.block_at}
use Rattle.mh_model.specs.Table.{Block, references_at, numbers_at, resolve, target_of, is_spine, is_tall, is_at, spine_place, position_of, reference_in}
use Rattle.mh_model.specs.{Collector.Collector, View.field_blocks}
use Rattle.mh_model.specs.Invariant.{IsPlainAt, LeadsToObject, IsSound, IsObjectAt, HasChild, IsFindable, HasField}
use Rattle.mh_laws.specs.Fields.{LeadsThere, SlotsHoldObjects, FieldsAreFound, ReferencesLeadOn}
use Rattle.mh_table_laws.proofs.{Lists.below_length, marking.BatchMarking.there_before, objects.Headers.flat_of}
use Rattle.mh_table_laws.proofs.objects.JoinedFields.{IsRun, AreRuns, child_place-is, own_count, a_middle, an_arraylet, are_runs, laid, has_fields}
use Rattle.mh_table_laws.proofs.objects.Parts.{counts}
use Rattle.mh_laws.proofs.{marking.MarkSteps.leads, snapshots.SessionCommands.held_by}

leads_there : (c : Collector) (o : Option ℕ) → ((reference : ℕ) → o ≡ Some reference → (x : Block) × IsPlainAt c (resolve c.table reference) x) → LeadsThere c o
leads_there c o led = grind arith

references-of : (c : Collector) (q : ℕ) (y : Block) → IsPlainAt c q y → references_at c.table q ≡ y.references
references-of c q y plain = grind arith

numbers-of : (c : Collector) (q : ℕ) (y : Block) → IsPlainAt c q y → numbers_at c.table q ≡ y.numbers
numbers-of c q y plain = grind arith

-- a reference of a plain block that leads to one
has_child : (c : Collector) (q : ℕ) (y : Block) (i r : ℕ) (x : Block) → IsPlainAt c q y → get_or y.references i None ≡ Some r → IsPlainAt c (resolve c.table r) x → HasChild c.table q i
has_child c q y i r x plain word led = grind (arith, references-of, below_length, leads, there_before, child_place-is)

-- the run of a number among the blocks of an object
run-at : (r n k : ℕ) (ys : List Block) → AreRuns r n k ys → (i : ℕ) (y : Block) → slice_get ys i ≡ Some y → IsRun r n (k + i) y
run-at r n k (x ∷ ys) (run, runs) (suc i) y e =
    let z : suc k + i ≡ k + suc i = omega arith in
    subst (λ m. IsRun r n m y) z (run-at r n (suc k) ys runs i y e)
run-at r n k ys runs i y e = grind (arith, none-some, same_Some)

-- the object of part 0 at a place
module _ (n : ℕ) (c : Collector) (h : IsSound n c) (p : ℕ) (z : Block) (plain : IsPlainAt c p z) (first : z.part ≡ 0) (field : ℕ) (below : field < z.header.references + z.header.numbers) where
  test-at : (test : Block → Bool) → is_at test c.table p ≡ true → test z ≡ true
  test-at test e = grind arith

  upper-found : is_tall z ≡ true → HasChild c.table p (field / 3600)
  upper-found tall =
      let many : 3600 < z.header.references + z.header.numbers = ltb-true 3600 (z.header.references + z.header.numbers) tall in
      let own = own_count n c h p z plain first (omega (arith, many)) in
      elim (counts (z.header.references + z.header.numbers)).case [
        | inl k ↦ absurd (omega (arith, many, k.0))
        | inr k ↦ let m = a_middle n c h p z plain first many (field / 3600) (omega (arith, own, k.2, below)) in has_child c p z (field / 3600) m.reference m.block plain m.word m.leads
      ]

  lower-found : is_spine z ≡ true → HasChild c.table (spine_place c.table p field) (field / 60 % 60)
  lower-found spine =
      let a = an_arraylet n c h p z plain first spine (field / 60) (omega (arith, below)) in
      let at : HasChild c.table a.spine a.index = has_child c a.spine a.spine_block a.index a.reference a.block a.spine_plain a.own a.leads in
      subst (λ q. HasChild c.table q (field / 60 % 60)) (sym (a.spine_is field refl)) (subst (HasChild c.table a.spine) (sym (a.index_is field refl)) at)

  pub findable : IsFindable c.table p field
  findable = grind (arith, upper-found, test-at, lower-found)

  pub has_field : HasField c p z.header field
  has_field =
      let l = laid n c h p z plain first field below in
      let at : ℕ = (position_of c.table p field).place in
      let run = run-at z.header.references z.header.numbers 0 (field_blocks c.table z) (are_runs n c h p z plain first) (field / 60) l.block l.at in
      grind (arith, references-of, numbers-of, has_fields)

  -- what a reference there leads to
  pub field_leads : field < z.header.references → (reference : ℕ) → reference_in c.table (position_of c.table p field) ≡ Some reference → LeadsToObject c reference
  field_leads small reference e =
      let l = laid n c h p z plain first field below in
      let at : ℕ = (position_of c.table p field).place in
      let index : ℕ = (position_of c.table p field).index in
      let word : get_or l.block.references index None ≡ Some reference = ap (λ rs. get_or rs index None) (sym (references-of c at l.block l.lies)) ∙ e in
      h.fields at l.block l.lies (flat_of n c h at l.block (has_fields n c h p z plain first field l)) index reference word

pub slots-hold : SlotsHoldObjects
slots-hold = record {
  held = λ heap keeping slot place root.
      let (x, plain, first) = keeping.1.sound.slots slot place root in
      (x.header, record { block = x; plain = plain; first = first; header = refl }, ap (λ o. option_map (λ (b : Block). b.header) (option_and_then (block_at heap.collector.table) o)) root ∙ ap (option_map (λ (b : Block). b.header)) plain.there);
  seen = λ heap keeping slot shape e.
      let o = held_by keeping.0 heap keeping.1 slot shape e in
      (o.place, o.root, record { block = o.block; plain = o.plain; first = o.first; header = o.header });
}

pub fields-found : FieldsAreFound
fields-found = record {
  findable = λ c (snapshot, n, keeps) place shape o field below. findable n c keeps.sound place o.block o.plain o.first field (subst (λ (s : Shape). field < s.references + s.numbers) (sym o.header) below);
  lies = λ c (snapshot, n, keeps) place shape o field below. subst (λ (s : Shape). HasField c place s field) o.header (has_field n c keeps.sound place o.block o.plain o.first field (subst (λ (s : Shape). field < s.references + s.numbers) (sym o.header) below));
}

-- a reference of an object leads to one
leads-to : (n : ℕ) (c : Collector) → IsSound n c → (place : ℕ) (shape : Shape) → IsObjectAt c place shape → (field : ℕ) → field < shape.references → (reference : ℕ) → reference_in c.table (position_of c.table place field) ≡ Some reference → LeadsToObject c reference
leads-to n c h place shape o field below reference e =
    let small : field < (o.block).header.references = subst (λ (s : Shape). field < s.references) (sym o.header) below in
    field_leads n c h place o.block o.plain o.first field (omega (arith, small)) small reference e

pub references-lead : ReferencesLeadOn
references-lead = record {
  slots = λ c (snapshot, n, keeps) slot. leads_there c (get_or c.slots slot None) (grind arith);
  words = λ c (snapshot, n, keeps) place block plain index. subst (λ rs. LeadsThere c (get_or rs index None)) (sym (references-of c place block plain)) (leads_there c (get_or block.references index None) (λ reference e. leads n c keeps.sound place block plain index reference e));
  objects = λ c (snapshot, n, keeps) slot place e. let (x, plain, first) = keeps.sound.slots slot place e in (x.header, record { block = x; plain = plain; first = first; header = refl });
  fields = λ c (snapshot, n, keeps) place shape o field below reference e. leads-to n c keeps.sound place shape o field below reference e;
  loaded = λ c (snapshot, n, keeps) place shape o field below target e. loaded n c keeps.sound place shape o field below target (reference_in c.table (position_of c.table place field)) refl e;
  grey = λ c (snapshot, n, keeps) place is. let (x, there, live, stamp) = keeps.sound.grey place is in (x, record { there = there; original = live; surviving = λ s. stamp }, stamp);
}
  where
    loaded : (n : ℕ) (c : Collector) → IsSound n c → (place : ℕ) (shape : Shape) → IsObjectAt c place shape → (field : ℕ) → field < shape.references → (target : ℕ) → (o : Option ℕ) → reference_in c.table (position_of c.table place field) ≡ o → target_of c.table o ≡ Some target
        → (other : Shape) × IsObjectAt c target other
    loaded n c h place shape o field below target None at e = absurd (none-some target e)
    loaded n c h place shape o field below target (Some r) at e =
        let (x, plain, first) = leads-to n c h place shape o field below r at in
        (x.header, record { block = x; plain = subst (λ q. IsPlainAt c q x) (same_Some (resolve c.table r) target e) plain; first = first; header = refl })
