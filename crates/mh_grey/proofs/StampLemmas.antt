-- What shading keeps.
use Rattle.std.proofs.Common.{arith, ◌≡◌, ℕ, inl, inr, [], ◌∷◌, ◌++◌, length, set, Option, Some, None, option_map, option_and_then, unwrap_or, is_some, IsSome, refl, sym, ap, ◌∙◌, subst}
use Rattle.std.proofs.{lemmas.Bool.{cases_eq, false≢true}, lemmas.List.length-set}
use Rattle.mh_model.specs.Pages.{Table, page_number, slot_number, page_at, block_at, page_with, with_block}
use Rattle.mh_model.specs.Table.{Block, resolve, references_at, with_reference_at, stamp_at, with_stamp_at, forward_at, LeadsOn, LeadsHome}
use Rattle.mh_model.specs.Collector.{Marking, shade_place, shade}
use Rattle.mh_table_laws.proofs.Lists.{to_some}
use Rattle.mh_table_laws.proofs.placing.Places.{block_at-with_block_there, block_at-with_block_other, with_block-self}
use Rattle.mh_grey.specs.Shading.{AreMarked}
use Rattle.mh_grey.proofs.{QueueLemmas.in-push, ShadeLemmas.{place-cases, place-marked, place-new}}

-- One block exchanged ----------------------------------------------------------------------------

module _ {X : Type 0} where
  kept_view : {A : Type 0} (see : Option X → A) (g : X → X) → ((x : X) → see (Some (g x)) ≡ see (Some x)) → (content : Option X) → see (option_map g content) ≡ see content
  kept_view see g keeps None = refl
  kept_view see g keeps (Some x) = keeps x

  -- what is seen of the block at any place stays, if the change keeps it
  pub change-view : {A : Type 0} (see : Option X → A) (g : X → X) → ((x : X) → see (Some (g x)) ≡ see (Some x)) → (table : Table X) (place q : ℕ) → see (block_at (with_block table place (option_map g (block_at table place))) q) ≡ see (block_at table q)
  change-view see g keeps table place q = elim (cases_eq q place) [
    | inr apart ↦ ap see (block_at-with_block_other table place q (option_map g (block_at table place)) apart)
    | inl same ↦ rw same (at_place (block_at table place) refl)
  ]
    where
      at_place : (content : Option X) → block_at table place ≡ content → see (block_at (with_block table place (option_map g (block_at table place))) place) ≡ see (block_at table place)
      at_place None at = ap see (ap (λ c. block_at (with_block table place c) place) (ap (option_map g) at ∙ sym at) ∙ ap (λ t. block_at t place) (with_block-self table place))
      at_place (Some x) at = ap see (block_at-with_block_there table place (option_map g (block_at table place)) (to_some _ x at)) ∙ kept_view see g keeps (block_at table place)

  -- as many pages as before
  pub length-with_block : (table : Table X) (place : ℕ) (content : Option X) → length (with_block table place content) ≡ length table
  length-with_block table place content = length-set table (page_number place) (option_map (page_with (slot_number place) content) (page_at table (page_number place)))

-- Tables that are alike --------------------------------------------------------------------------

-- a table in which each block is where it was, and leads where it led
pub record IsLike (table new : Table Block) : Type 0 where
  pub there : (place : ℕ) → is_some (block_at new place) ≡ is_some (block_at table place)
  pub forwards : (place : ℕ) → forward_at new place ≡ forward_at table place
  pub long : length new ≡ length table

pub like-trans : (a b c : Table Block) → IsLike a b → IsLike b c → IsLike a c
like-trans a b c ab bc = record { there = λ q. bc.there q ∙ ab.there q; forwards = λ q. bc.forwards q ∙ ab.forwards q; long = bc.long ∙ ab.long }

pub like-refl : (a : Table Block) → IsLike a a
like-refl a = record { there = λ q. refl; forwards = λ q. refl; long = refl }

pub like-reference : (table : Table Block) (place index : ℕ) (reference : Option ℕ) → IsLike table (with_reference_at table place index reference)
like-reference table place index reference =
    let change = λ (block : Block). record block { references = set block.references index reference } in
    record {
      there = λ q. change-view is_some change (λ b. refl) table place q;
      forwards = λ q. change-view (λ (o : Option Block). option_and_then (λ b. b.forward) o) change (λ b. refl) table place q;
      long = length-with_block table place (option_map change (block_at table place));
    }

pub like-stamp : (table : Table Block) (place stamp : ℕ) → IsLike table (with_stamp_at table place stamp)
like-stamp table place stamp =
    let change = λ (block : Block). record block { stamp = stamp } in
    record {
      there = λ q. change-view is_some change (λ b. refl) table place q;
      forwards = λ q. change-view (λ (o : Option Block). option_and_then (λ b. b.forward) o) change (λ b. refl) table place q;
      long = length-with_block table place (option_map change (block_at table place));
    }

-- and lead home
pub home-like : (table new : Table Block) (reference : Option ℕ) → IsLike table new → LeadsHome table reference → LeadsHome new reference
home-like table new None like home = tt
home-like table new (Some place) like home = grind arith

-- Shading ----------------------------------------------------------------------------------------

-- What shading keeps
pub record IsShaded (m new : Marking) : Type 0 where
  pub like : IsLike m.table new.table
  pub references : (place : ℕ) → references_at new.table place ≡ references_at m.table place
  pub cycle : new.cycle ≡ m.cycle
  pub marked : AreMarked m.table m.cycle m.grey → AreMarked new.table m.cycle new.grey
  pub stamps : (place : ℕ) → stamp_at m.table place ≡ m.cycle → stamp_at new.table place ≡ m.cycle

stamp_here : (table : Table Block) (place stamp : ℕ) → IsSome (block_at table place) → stamp_at (with_stamp_at table place stamp) place ≡ stamp
stamp_here table place stamp there =
    ap (λ (o : Option Block). unwrap_or (option_map (λ b. b.stamp) o) 0) (block_at-with_block_there table place (option_map (λ (b : Block). record b { stamp = stamp }) (block_at table place)) there)
    ∙ of (block_at table place) there
  where
    of : (o : Option Block) → IsSome o → unwrap_or (option_map (λ (b : Block). b.stamp) (option_map (λ (b : Block). record b { stamp = stamp }) o)) 0 ≡ stamp
    of None i = absurd (false≢true i)
    of (Some b) i = refl

stamp_kept : (table : Table Block) (place stamp other : ℕ) → IsSome (block_at table place) → stamp_at table other ≡ stamp → stamp_at (with_stamp_at table place stamp) other ≡ stamp
stamp_kept table place stamp other there is = elim (cases_eq other place) [
  | inl same ↦ rw same (stamp_here table place stamp there)
  | inr apart ↦ ap (λ (o : Option Block). unwrap_or (option_map (λ b. b.stamp) o) 0) (block_at-with_block_other table place other _ apart) ∙ is
]

pub stamped-shaded : (m : Marking) (place : ℕ) → IsSome (block_at m.table place) → IsShaded m (record m { table = with_stamp_at m.table place m.cycle; grey = m.grey ++ place ∷ [] })
stamped-shaded m place there = record {
  like = like-stamp m.table place m.cycle;
  references = λ q. change-view (λ (o : Option Block). unwrap_or (option_map (λ b. b.references) o) []) (λ (b : Block). record b { stamp = m.cycle }) (λ b. refl) m.table place q;
  cycle = refl;
  marked = λ marked other is. elim (in-push m.grey place other is) [
    | inl old ↦ stamp_kept m.table place m.cycle other there (marked other old)
    | inr new ↦ rw new (stamp_here m.table place m.cycle there)
  ];
  stamps = λ other is. stamp_kept m.table place m.cycle other there is;
}

pub place-shaded : (m : Marking) (place : ℕ) → IsSome (block_at m.table place) → IsShaded m (shade_place m place)
place-shaded m place there = elim (place-cases m place there) [
  | inl same ↦ subst (IsShaded m) (sym same) (record { like = like-refl m.table; references = λ q. refl; cycle = refl; marked = λ marked. marked; stamps = λ q is. is })
  | inr new ↦ subst (IsShaded m) (sym new.is) (stamped-shaded m place new.there)
]

-- and a block that is shaded is marked
pub place-stamped : (m : Marking) (place : ℕ) → IsSome (block_at m.table place) → stamp_at (shade_place m place).table place ≡ m.cycle
place-stamped m place there = elim (cases_eq (stamp_at m.table place) m.cycle) [
  | inl same ↦ rw (place-marked m place there same) same
  | inr apart ↦ rw (place-new m place there apart) (stamp_here m.table place m.cycle there)
]

pub shaded : (m : Marking) (reference : Option ℕ) → LeadsOn m.table reference → IsShaded m (shade m reference)
shaded m None leads = record { like = like-refl m.table; references = λ q. refl; cycle = refl; marked = λ marked. marked; stamps = λ q is. is }
shaded m (Some reference) leads = place-shaded m (resolve m.table reference) leads.1
