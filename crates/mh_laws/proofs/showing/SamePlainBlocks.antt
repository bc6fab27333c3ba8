-- Two states show the same if each has the plain blocks of the other, with references that lead to the same blocks.
use Rattle.std.proofs.Common.{◌≡◌, ℕ, zero, suc, nat_le, if◌then◌else◌, Bool, true, false, inl, inr, List, [], ◌∷◌, ◌++◌, get_or, map, flat_map, Option, Some, None, option_map, refl, sym, ap, ◌∙◌, subst, eq-eqb, eqb-true, arith}
use Rattle.std.proofs.{lemmas.Bool.{false≢true, leb-false}, lemmas.Option.same_Some}
use Rattle.std.specs.Prelude.{option_to_list}
use Rattle.mh_model.specs.{Pages.{Table, block_at}, Table.{Block, resolve, is_spine, is_tall}, Collector.Collector}
use Rattle.mh_model.specs.View.{is_held, block_named, blocks_named, birth_named, arraylet_words, field_blocks, object_of, object_shown}
use Rattle.mh_model.specs.Invariant.{IsPlainAt, IsSound}
use Rattle.mh_laws.proofs.marking.MarkSteps.{leads}
use Rattle.mh_laws.proofs.showing.ObjectsShown.{Has, IsFieldBlock, arraylet_word-back, field_block-back}
use Rattle.mh_laws.proofs.showing.FoundBlocks.{IsShownAs, IsHeldIn, held_live, shown-same}

-- Held blocks are the plain ones -----------------------------------------------------------------

pub plain-held : (c : Collector) (p : ℕ) (x : Block) → IsPlainAt c p x → is_held c p x ≡ true
plain-held c p x plain = grind (arith, eq-eqb, nat_le)

pub held-plain : (n : ℕ) (c : Collector) → IsSound n c → (p : ℕ) (x : Block) → block_at c.table p ≡ Some x → is_held c p x ≡ true → IsPlainAt c p x
held-plain n c h p x there held = grind (arith, held_live, nat_le, eqb-true, false≢true, leb-false)

-- Objects ----------------------------------------------------------------------------------------

map-at : {Y : Type 0} (f g : Option ℕ → Y) (xs : List (Option ℕ)) → f None ≡ g None → ((i r : ℕ) → get_or xs i None ≡ Some r → f (Some r) ≡ g (Some r)) → map f xs ≡ map g xs
map-at f g [] none some = refl
map-at f g (None ∷ xs) none some = ap (λ y. y ∷ map f xs) none ∙ ap (λ ys. g None ∷ ys) (map-at f g xs none (λ i. some (suc i)))
map-at f g (Some r ∷ xs) none some = ap (λ y. y ∷ map f xs) (some zero r refl) ∙ ap (λ ys. g (Some r) ∷ ys) (map-at f g xs none (λ i. some (suc i)))

flat_map-at : {X Y : Type 0} (f g : X → List Y) (xs : List X) → ((x : X) → Has xs x → f x ≡ g x) → flat_map f xs ≡ flat_map g xs
flat_map-at f g [] same = refl
flat_map-at f g (x ∷ xs) same = ap (λ ys. ys ++ flat_map f xs) (same x (zero, refl)) ∙ ap (λ ys. g x ++ ys) (flat_map-at f g xs (λ y at. same y (suc at.0, at.1)))

flat_map-words : {Y : Type 0} (f g : Option ℕ → List Y) (xs : List (Option ℕ)) → f None ≡ g None → ((i r : ℕ) → get_or xs i None ≡ Some r → f (Some r) ≡ g (Some r)) → flat_map f xs ≡ flat_map g xs
flat_map-words f g [] none some = refl
flat_map-words f g (None ∷ xs) none some = ap (λ y. y ++ flat_map f xs) none ∙ ap (λ ys. g None ++ ys) (flat_map-words f g xs none (λ i. some (suc i)))
flat_map-words f g (Some r ∷ xs) none some = ap (λ y. y ++ flat_map f xs) (some zero r refl) ∙ ap (λ ys. g (Some r) ++ ys) (flat_map-words f g xs none (λ i. some (suc i)))

-- references of plain blocks lead in one state to the plain blocks to which they lead in the other
abbrev pub Follows : Collector → Collector → Type 0
Follows c d = (p : ℕ) (x : Block) → IsPlainAt c p x → (i r : ℕ) → get_or x.references i None ≡ Some r → (y : Block) → IsPlainAt c (resolve c.table r) y → block_at d.table (resolve d.table r) ≡ Some y

module _ (n : ℕ) (c d : Collector) (h : IsSound n c) (follows : Follows c d) where
  named-same : (p : ℕ) (x : Block) → IsPlainAt c p x → (i r : ℕ) → get_or x.references i None ≡ Some r → block_named d.table (Some r) ≡ block_named c.table (Some r)
  named-same p x plain i r e = let (y, plain') = leads n c h p x plain i r e in follows p x plain i r e y plain' ∙ sym plain'.there

  births-same : (p : ℕ) (x : Block) → IsPlainAt c p x → map (birth_named d.table) x.references ≡ map (birth_named c.table) x.references
  births-same p x plain = map-at (birth_named d.table) (birth_named c.table) x.references refl (λ i r e. ap (option_map (λ (z : Block). z.birth)) (named-same p x plain i r e))

  named-all : (rs : List (Option ℕ)) → ((i r : ℕ) → get_or rs i None ≡ Some r → block_named d.table (Some r) ≡ block_named c.table (Some r)) → blocks_named d.table rs ≡ blocks_named c.table rs
  named-all rs same = flat_map-words (λ o. option_to_list (block_named d.table o)) (λ o. option_to_list (block_named c.table o)) rs refl (λ i r e. ap option_to_list (same i r e))

  words-same : (p : ℕ) (x : Block) → IsPlainAt c p x → arraylet_words d.table x ≡ arraylet_words c.table x
  words-same p x plain = ap (λ ys. if is_tall x then flat_map (λ (y : Block). y.references) ys else x.references) (named-all x.references (named-same p x plain))

  -- a block to which a plain block leads is plain
  led-plain : (p : ℕ) (x y : Block) (k r : ℕ) → IsPlainAt c p x → get_or x.references k None ≡ Some r → block_at c.table (resolve c.table r) ≡ Some y → IsPlainAt c (resolve c.table r) y
  led-plain p x y k r plain e there =
      let (z, plain') = leads n c h p x plain k r e in
      subst (IsPlainAt c (resolve c.table r)) (same_Some z y (sym plain'.there ∙ there)) plain'

  -- the spine that has a reference to an arraylet
  word-plain : (p : ℕ) (x : Block) (k r : ℕ) → IsPlainAt c p x → get_or (arraylet_words c.table x) k None ≡ Some r → (q : ℕ) × (y : Block) × (i : ℕ) × IsPlainAt c q y × (get_or y.references i None ≡ Some r)
  word-plain p x k r plain e = grind (arith, arraylet_word-back, inl, inr, led-plain)

  fields-same : (p : ℕ) (x : Block) → IsPlainAt c p x → field_blocks d.table x ≡ field_blocks c.table x
  fields-same p x plain = go (is_spine x)
    where
      go : (b : Bool) → (if b then blocks_named d.table (arraylet_words d.table x) else x ∷ []) ≡ (if b then blocks_named c.table (arraylet_words c.table x) else x ∷ [])
      go true = ap (blocks_named d.table) (words-same p x plain) ∙ named-all (arraylet_words c.table x) (λ k r e. let (q, y, i, plain_y, own) = word-plain p x k r plain e in named-same q y plain_y i r own)
      go false = refl

  field-plain : (p : ℕ) (x y : Block) → IsPlainAt c p x → IsFieldBlock c.table x y → (q : ℕ) × IsPlainAt c q y
  field-plain p x y plain (inl (flat, same)) = (p, subst (IsPlainAt c p) (sym same) plain)
  field-plain p x y plain (inr (spine, (k, r, e, there))) = grind (arith, word-plain, led-plain)

  -- the object of a plain block is the same in both
  pub object-same : (p : ℕ) (x : Block) → IsPlainAt c p x → object_of d.table x ≡ object_of c.table x
  object-same p x plain =
      ap (λ parts. record { references = flat_map (λ (part : Block). map (birth_named d.table) part.references) parts; numbers = flat_map (λ (part : Block). part.numbers) parts }) (fields-same p x plain)
      ∙ ap (λ xs. record { references = xs; numbers = flat_map (λ (part : Block). part.numbers) (field_blocks c.table x) })
      (flat_map-at (λ (part : Block). map (birth_named d.table) part.references) (λ (part : Block). map (birth_named c.table) part.references) (field_blocks c.table x) (λ y at. let (q, plain') = field-plain p x y plain (field_block-back c.table x y at) in births-same q y plain'))

-- each plain block of one state is one of the other
abbrev pub IsCarriedTo : Collector → Collector → Type 0
IsCarriedTo c d = (p : ℕ) (x : Block) → IsPlainAt c p x → (q : ℕ) × IsPlainAt d q x

-- Two sound states with the same plain blocks, whose references lead to the same, show the same objects
pub plain-shown : (n : ℕ) (c d : Collector) → IsSound n c → IsSound n d → Follows c d → IsCarriedTo c d → IsCarriedTo d c → (birth : ℕ) → object_shown d birth ≡ object_shown c birth
plain-shown n c d h k follows forth back birth = shown-same n n c d h k birth shown_forth shown_back
  where
    shown_forth : IsShownAs (λ object. object) c d birth
    shown_forth p x at =
        let plain = held-plain n c h p x at.there at.held in
        let (q, plain') = forth p x plain in
        (q, x, record { there = plain'.there; held = plain-held d q x plain'; birth_is = at.birth_is; first = at.first }, object-same n c d h follows p x plain)

    shown_back : IsHeldIn d c birth
    shown_back p x at =
        let plain = held-plain n d k p x at.there at.held in
        let (q, plain') = back p x plain in
        (q, x, record { there = plain'.there; held = plain-held c q x plain'; birth_is = at.birth_is; first = at.first })

-- roots lead to the same blocks
pub roots-same : (table table' : Table Block) (slots : List (Option ℕ)) → ((i r : ℕ) → get_or slots i None ≡ Some r → block_at table' (resolve table' r) ≡ block_at table (resolve table r)) → map (birth_named table') slots ≡ map (birth_named table) slots
roots-same table table' slots same = map-at (birth_named table') (birth_named table) slots refl (λ i r e. ap (option_map (λ (z : Block). z.birth)) (same i r e))
