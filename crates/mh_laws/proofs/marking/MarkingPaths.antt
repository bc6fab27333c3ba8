-- Ways of marking, the heart of the proof that a snapshot is kept. Each block that the snapshot reached is marked or *promised*:
-- a path through unmarked blocks leads to it from a grey block, or from a root that isn't scanned.
-- The record `Keeps` says what a change has to keep so that each block that is promised is marked or promised still.
use Rattle.std.proofs.Common.{◌≡◌, ℕ, ◌⊎◌, inl, inr, None, List, [], ◌∷◌, ◌++◌, Some, refl, sym, ap, ◌∙◌, subst, arith}
use Rattle.std.proofs.lemmas.Option.{same_Some}
use Rattle.mh_model.specs.{Pages.block_at, Table.Block, Collector.Collector}
use Rattle.mh_model.specs.Invariant.{IsIn, IsMarkedAt, Links, IsFromRoot, IsFromGrey, IsWay, WillBeMarked}

-- what becomes of a block: it stays but for its stamp and its fields, and if it is marked anew it is grey
abbrev pub StaysAt : Collector → Collector → ℕ → Block → Type 0
StaysAt c d place block = (new : Block) × (block_at d.table place ≡ Some new) × (new.birth ≡ block.birth) × (new.forward ≡ block.forward) × ((new.stamp ≡ block.stamp) ⊎ ((new.stamp ≡ c.cycle) × IsIn place d.grey))

-- Blocks stay or are new and marked, and what a root, a grey block or an unmarked block led to is marked or led to still
pub record Keeps (c d : Collector) : Type 0 where
  pub cycle : d.cycle ≡ c.cycle
  pub blocks : (place : ℕ) (block : Block) → block_at c.table place ≡ Some block → StaysAt c d place block
  pub back : (place : ℕ) (new : Block) → block_at d.table place ≡ Some new → ((block : Block) × (block_at c.table place ≡ Some block)) ⊎ (new.stamp ≡ d.cycle)
  pub roots : (target : ℕ) (block : Block) → block_at c.table target ≡ Some block → IsFromRoot c target → IsMarkedAt d target ⊎ WillBeMarked d target
  pub grey : (target : ℕ) (block : Block) → block_at c.table target ≡ Some block → IsFromGrey c target → IsMarkedAt d target ⊎ WillBeMarked d target
  pub links : (place target : ℕ) (block : Block) → block_at c.table target ≡ Some block → Links c.table place target → IsMarkedAt d target ⊎ Links d.table place target

-- what is marked stays so
pub marked_stays : (c d : Collector) → Keeps c d → (place : ℕ) → IsMarkedAt c place → IsMarkedAt d place
marked_stays c d keeps place (block, there, stamp) = grind arith

pub promise_stays : (c d : Collector) → Keeps c d → (way : List ℕ) (target : ℕ) (block : Block) → block_at c.table target ≡ Some block → IsWay c target way → IsMarkedAt d target ⊎ WillBeMarked d target
promise_stays c d keeps [] target block there (inl from) = keeps.roots target block there from
promise_stays c d keeps [] target block there (inr from) = keeps.grey target block there from
promise_stays c d keeps (near ∷ way) target block there ((white, at_white, live, unmarked), links, after) =
    go (keeps.blocks near white at_white) (keeps.links near target block there links) (promise_stays c d keeps way near white at_white after)
  where
    go : StaysAt c d near white → IsMarkedAt d target ⊎ Links d.table near target → IsMarkedAt d near ⊎ WillBeMarked d near → IsMarkedAt d target ⊎ WillBeMarked d target
    go stays (inl marked) before = inl marked
    go (new, at_new, birth, forward, inr anew) (inr link) before = inr ([], inr (near, anew.1, link))
    go (new, at_new, birth, forward, inl same) (inr link) (inl (other, at_other, stamp)) = grind arith
    go (new, at_new, birth, forward, inl same) (inr link) (inr (before, is_way)) =
        inr (near ∷ before, ((new, at_new, forward ∙ live, λ stamp. unmarked (sym same ∙ stamp ∙ keeps.cycle)), link, is_way))

-- Each block of some births is marked or promised: it stays so
abbrev pub PromisesEach : (ℕ → Type 0) → Collector → Type 0
PromisesEach Of c = (place : ℕ) (block : Block) → block_at c.table place ≡ Some block → block.forward ≡ None → Of block.birth → IsMarkedAt c place ⊎ WillBeMarked c place

pub promises_stay : (Of : ℕ → Type 0) (c d : Collector) → Keeps c d → PromisesEach Of c → PromisesEach Of d
promises_stay Of c d keeps each place new there live of = elim (keeps.back place new there) [ inr marked ↦ inl (new, there, marked) | inl old ↦ go old.0 old.1 ]
  where
    go : (block : Block) → block_at c.table place ≡ Some block → IsMarkedAt d place ⊎ WillBeMarked d place
    go block at_block =
        let (other, at_other, birth, forward, marks) = keeps.blocks place block at_block in
        let one : other ≡ new = same_Some other new (sym at_other ∙ there) in
        elim (each place block at_block (sym forward ∙ ap (λ x. x.forward) one ∙ live) (subst Of (sym (ap (λ x. x.birth) one) ∙ birth) of)) [
          | inl marked ↦ inl (marked_stays c d keeps place marked)
          | inr promised ↦ promise_stays c d keeps promised.0 place block at_block promised.1
        ]

-- Where no root that isn't scanned and no grey block is left, nothing is promised
pub nothing_promised : (c : Collector) → c.grey ≡ [] → ((target : ℕ) → IsFromRoot c target → ⊥) → (target : ℕ) → WillBeMarked c target → ⊥
nothing_promised c no_grey no_root target promised = go promised.0 target promised.1
  where
    go : (way : List ℕ) (target : ℕ) → IsWay c target way → ⊥
    go [] target (inl from) = no_root target from
    go [] target (inr from) = subst (IsIn from.0) no_grey from.1
    go (near ∷ way) target (unmarked, links, after) = go way near after

-- Lists of places --------------------------------------------------------------------------------

pub is_in-left : (place : ℕ) (places more : List ℕ) → IsIn place places → IsIn place (places ++ more)
is_in-left place [] more is = absurd is
is_in-left place (first ∷ places) more (inl is) = inl is
is_in-left place (first ∷ places) more (inr is) = inr (is_in-left place places more is)

pub is_in-last : (place : ℕ) (places : List ℕ) → IsIn place (places ++ place ∷ [])
is_in-last place [] = inl refl
is_in-last place (first ∷ places) = inr (is_in-last place places)

pub is_in-either : (place last : ℕ) (places : List ℕ) → IsIn place (places ++ last ∷ []) → IsIn place places ⊎ (place ≡ last)
is_in-either place last [] is = grind arith
is_in-either place last (first ∷ places) (inl is) = inl (inl is)
is_in-either place last (first ∷ places) (inr is) = elim (is_in-either place last places is) [ inl before ↦ inl (inr before) | inr same ↦ inr same ]
