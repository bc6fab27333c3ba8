-- Shading by cases.
use Rattle.std.proofs.Common.{arith, ◌≡◌, ◌≢◌, ℕ, ◌⊎◌, Bool, true, false, inl, inr, List, [], ◌∷◌, ◌++◌, Option, Some, None, option_map, unwrap_or, IsSome, refl, eq-eqb}
use Rattle.std.proofs.lemmas.Bool.{cases_eq, false≢true, ne_eqb}
use Rattle.mh_model.specs.{Pages.{Table, block_at}, Table.{Block, resolve, stamp_at, with_stamp_at, LeadsOn}}
use Rattle.mh_model.specs.Collector.{Marking, shade_block, shade_place, shade}
use Rattle.mh_grey.specs.{Queue.is_in, Shading.{IsApart, AreMarked}}

-- a marked block stays as it is
same_block : (m : Marking) (place : ℕ) (content : Option Block) → IsSome content → unwrap_or (option_map (λ b. b.stamp) content) 0 ≡ m.cycle → shade_block m place content ≡ m
same_block m place None there is = absurd (false≢true there)
same_block m place (Some block) there is = rw (eq-eqb block.stamp m.cycle is) refl

pub place-marked : (m : Marking) (place : ℕ) → IsSome (block_at m.table place) → stamp_at m.table place ≡ m.cycle → shade_place m place ≡ m
place-marked m place there is = same_block m place (block_at m.table place) there is

pub shade-marked : (m : Marking) (reference : ℕ) → IsSome (block_at m.table (resolve m.table reference)) → stamp_at m.table (resolve m.table reference) ≡ m.cycle → shade m (Some reference) ≡ m
shade-marked m reference there is = place-marked m (resolve m.table reference) there is

-- one that isn't becomes marked and grey
new_block : (m : Marking) (place : ℕ) (content : Option Block) → block_at m.table place ≡ content → IsSome content → unwrap_or (option_map (λ b. b.stamp) content) 0 ≢ m.cycle
    → shade_block m place content ≡ record m { table = with_stamp_at m.table place m.cycle; grey = m.grey ++ place ∷ [] }
new_block m place None at there apart = absurd (false≢true there)
new_block m place (Some block) at there apart = rw (ne_eqb block.stamp m.cycle apart, at) refl

pub place-new : (m : Marking) (place : ℕ) → IsSome (block_at m.table place) → stamp_at m.table place ≢ m.cycle
    → shade_place m place ≡ record m { table = with_stamp_at m.table place m.cycle; grey = m.grey ++ place ∷ [] }
place-new m place there apart = new_block m place (block_at m.table place) refl there apart

pub shade-new : (m : Marking) (reference : ℕ) → IsSome (block_at m.table (resolve m.table reference)) → stamp_at m.table (resolve m.table reference) ≢ m.cycle
    → shade m (Some reference) ≡ record m { table = with_stamp_at m.table (resolve m.table reference) m.cycle; grey = m.grey ++ resolve m.table reference ∷ [] }
shade-new m reference there apart = place-new m (resolve m.table reference) there apart

-- if the grey places are marked, a reference may be shaded
pub marked-apart : (table : Table Block) (cycle : ℕ) (grey : List ℕ) (reference : Option ℕ) → AreMarked table cycle grey → IsApart table cycle grey reference
marked-apart table cycle grey reference marked place is unmarked = go (is_in place grey) refl
  where
    go : (there : Bool) → is_in place grey ≡ there → is_in place grey ≡ false
    go true at = absurd (unmarked (marked place at))
    go false at = at

-- Shading a reference: nothing, or a stamp and one more grey place
pub record IsStamped (m : Marking) (new : Marking) (place : ℕ) : Type 0 where
  pub there : IsSome (block_at m.table place)
  pub is : new ≡ record m { table = with_stamp_at m.table place m.cycle; grey = m.grey ++ place ∷ [] }

pub place-cases : (m : Marking) (place : ℕ) → IsSome (block_at m.table place) → (shade_place m place ≡ m) ⊎ IsStamped m (shade_place m place) place
place-cases m place there = elim (cases_eq (stamp_at m.table place) m.cycle) [
  | inl same ↦ inl (place-marked m place there same)
  | inr apart ↦ inr (record { there = there; is = place-new m place there apart })
]

pub shade-cases : (m : Marking) (reference : Option ℕ) → LeadsOn m.table reference → (shade m reference ≡ m) ⊎ ((place : ℕ) × IsStamped m (shade m reference) place)
shade-cases m None leads = inl refl
shade-cases m (Some reference) leads = grind (arith, place-cases, inl, inr)
