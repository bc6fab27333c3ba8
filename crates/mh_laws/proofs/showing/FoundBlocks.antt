-- The block that the search for a birth finds, and when two collectors show the same.
use Rattle.std.proofs.Common.{◌≡◌, ℕ, ◌+◌, ◌*◌, ◌/◌, ◌%◌, ◌<◌, ◌==◌, true, false, not, ◌&&◌, Option, Some, None, is_some, option_map, option_and_then, IsSome, refl, sym, ap, ◌∙◌, subst, arith, eqb-true, eq-eqb}
use Rattle.std.proofs.{lemmas.Bool.{false≢true, and_parts}, lemmas.Option.none-some}
use Rattle.mh_model.specs.{World.Object, Classes.tabulate, Pages.{page_at, block_in, block_at}}
use Rattle.mh_model.specs.{Table.{Block, is_forwarder}, Collector.Collector}
use Rattle.mh_model.specs.{View.{in_sweep, is_held, block_of_birth, object_of, object_shown}, Invariant.IsSound}
use Rattle.mh_model.proofs.TabulateLemmas.{tabulate_same}
use Rattle.mh_laws.proofs.showing.ObjectsShown.{first_block-is, first_block-some}
use Rattle.mh_table_laws.proofs.Lists.{below_length}

-- a held part 0 of a birth is at a place
pub record IsFirstAt (c : Collector) (birth place : ℕ) (block : Block) : Type 0 where
  pub there : block_at c.table place ≡ Some block
  pub held : is_held c place block ≡ true
  pub birth_is : block.birth ≡ birth
  pub first : block.part ≡ 0

no_forward : (o : Option ℕ) → not (is_some o) ≡ true → o ≡ None
no_forward o e = grind (arith, false≢true)

pub held_live : (c : Collector) (place : ℕ) (block : Block) → is_held c place block ≡ true → block.forward ≡ None
held_live c place block held = no_forward block.forward (and_parts (not (is_forwarder block)) _ held).0

-- out of the sweep what is no forwarder is held
pub live_held : (c : Collector) (place : ℕ) (block : Block) → in_sweep c.phase ≡ false → block.forward ≡ None → is_held c place block ≡ true
live_held c place block no_sweep live = rw (live, no_sweep) refl

module _ (n : ℕ) (c : Collector) (h : IsSound n c) where
  slot_below : (m s : ℕ) (y : Block) → option_and_then (block_in s) (page_at c.table m) ≡ Some y → s < 64
  slot_below m s y e = grind (arith, none-some, below_length)

  -- what the search finds is at a place
  pub found-first : (birth : ℕ) (y : Block) → block_of_birth c birth ≡ Some y → (place : ℕ) × IsFirstAt c birth place y
  found-first birth y e =
      let (m, s, at, pass) = first_block-is (λ place block. is_held c place block && ((block.birth == birth) && (block.part == 0))) 0 c.table y e in
      grind (arith, slot_below, and_parts, eqb-true)

  -- and what is held at a place is found
  pub first-found : (birth place : ℕ) (z : Block) → IsFirstAt c birth place z → block_of_birth c birth ≡ Some z
  first-found birth place z at = go (block_of_birth c birth) refl found
    where
      divided : 64 * (0 + place / 64) + place % 64 ≡ place
      divided = omega arith

      passes : (is_held c place z && ((z.birth == birth) && (z.part == 0))) ≡ true
      passes = ap (λ b. b && ((z.birth == birth) && (z.part == 0))) at.held ∙ ap (λ b. b && (z.part == 0)) (eq-eqb z.birth birth at.birth_is) ∙ eq-eqb z.part 0 at.first

      found : IsSome (block_of_birth c birth)
      found = first_block-some (λ place block. is_held c place block && ((block.birth == birth) && (block.part == 0))) 0 c.table (place / 64) (place % 64) z at.there (subst (λ k. (is_held c k z && ((z.birth == birth) && (z.part == 0))) ≡ true) (sym divided) passes)

      go : (o : Option Block) → block_of_birth c birth ≡ o → IsSome o → o ≡ Some z
      go o e some = grind (arith, false≢true, found-first, held_live)

-- what is held of a birth in one state is held in another, and shows its object changed so
abbrev pub IsShownAs : (Object → Object) → Collector → Collector → ℕ → Type 0
IsShownAs change c d birth = (place : ℕ) (block : Block) → IsFirstAt c birth place block → (other : ℕ) × (same : Block) × IsFirstAt d birth other same × (object_of d.table same ≡ change (object_of c.table block))

abbrev pub IsHeldIn : Collector → Collector → ℕ → Type 0
IsHeldIn c d birth = (place : ℕ) (block : Block) → IsFirstAt c birth place block → (other : ℕ) × (same : Block) × IsFirstAt d birth other same

module _ (n m : ℕ) (c d : Collector) (h : IsSound n c) (k : IsSound m d) (birth : ℕ) where
  -- two sound states of which each holds what the other does: the object that is shown is changed so
  pub shown-changed : (change : Object → Object) → IsShownAs change c d birth → IsHeldIn d c birth → object_shown d birth ≡ option_map change (object_shown c birth)
  shown-changed change forth back = go (block_of_birth c birth) (block_of_birth d birth) refl refl
    where
      go : (o p : Option Block) → block_of_birth c birth ≡ o → block_of_birth d birth ≡ p → object_shown d birth ≡ option_map change (object_shown c birth)
      go None None e f = ap (option_map (object_of d.table)) f ∙ ap (λ b. option_map change (option_map (object_of c.table) b)) (sym e)
      go None (Some y) e f =
          let (q, at) = found-first m d k birth y f in
          let (p, x, at') = back q y at in
          absurd (none-some x (sym e ∙ first-found n c h birth p x at'))
      go (Some x) p e f =
          let (q, at) = found-first n c h birth x e in
          let (r, y, at', same) = forth q x at in
          ap (option_map (object_of d.table)) (first-found m d k birth r y at') ∙ ap Some same ∙ ap (λ b. option_map change (option_map (object_of c.table) b)) (sym e)

  -- or it is the same
  pub shown-same : IsShownAs (λ object. object) c d birth → IsHeldIn d c birth → object_shown d birth ≡ object_shown c birth
  shown-same forth back = shown-changed (λ object. object) forth back ∙ by (object_shown c birth)
    where
      by : (o : Option Object) → option_map (λ object. object) o ≡ o
      by o = grind arith

pub tabulate-same : {X : Type 0} (f f' : ℕ → X) → ((i : ℕ) → f' i ≡ f i) → (first count : ℕ) → tabulate f' first count ≡ tabulate f first count
tabulate-same f f' same first count = tabulate_same f' f first count (λ i from below. same i)
