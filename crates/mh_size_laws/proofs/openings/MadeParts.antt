-- Parts that are made open few pages: of each class no page is opened while an unflagged page has room.
-- This is the heart: the slots of the pages that its blocks opened are no more than these blocks and that room.
use Rattle.std.proofs.Common.{◌≡◌, ◌≢◌, inl, inr, ℕ, suc, ◌+◌, ◌-◌, ◌*◌, ◌==◌, ◌<◌, ◌≤◌, ◌||◌, not, Bool, true, false, if◌then◌else◌, Option, Some, None, option_map, unwrap_or, List, [], ◌∷◌, cond, refl, sym, ap, ◌∙◌, subst, arith, add-one, eq-eqb}
use Rattle.std.proofs.Math.Nat.{mul-suc, mul_comm, mul-le-mul_left}
use Rattle.std.proofs.{lemmas.Bool.{and_parts, cases_eq, cases_lt, eqb-true, false≢true}, lemmas.Grind.div_ceil_times}
use Rattle.std.proofs.{lemmas.Option.{none-some, same_Some}, lemmas.List.Sums.{sum_by-cons, sum_by-le-sum_by}}
use Rattle.std.specs.{Int.div_ceil, List.{sum_by, list_any}}
use Rattle.mh_model.specs.Classes.{Part, class_sizes, class_of, part_words, slots_in, is_class_size}
use Rattle.mh_model.specs.Pages.{Page, Table, page_number, slot_number, page_at, free_pages, is_dense, is_sparse, open_slot, fresh_slot, least_place, with_taken, HaveTheirSlots}
use Rattle.mh_model.specs.Table.{Block, MadeParts, new_block, made_parts}
use Rattle.mh_model.specs.Openings.{is_of_class, class_parts, pages_for}
use Rattle.mh_table_laws.specs.Auxiliary.{IsFound}
use Rattle.mh_table_laws.proofs.placing.Places.{shaped-slots, open_slot-is, least_place-least}
use Rattle.mh_table_laws.proofs.tables.PageSlots.{slots_in-class_size, class_of-class_size}
use Rattle.mh_laws.proofs.rooms.Rooms.{dense_room, dense_room-none, TakesRoom, taken-in_use, OpensPage, taken-fresh}
use Rattle.mh_laws.proofs.rooms.FirstParts.{first-made, taken-slots}

-- Sums over classes ------------------------------------------------------------------------------

-- 1 for one class, and 0 for the others
abbrev pub one_of : ℕ → ℕ → ℕ
one_of size other = if size == other then 1 else 0

pub one_of-same : (size other : ℕ) → other ≡ size → one_of size other ≡ 1
one_of-same size other same = ap (λ b. if b then 1 else 0) (eq-eqb size other (sym same))

pub one_of-other : (size other : ℕ) → other ≢ size → one_of size other ≡ 0
one_of-other size other apart = grind (arith, eqb-true)

-- a class is among these
abbrev pub IsAmong : ℕ → List ℕ → Type 0
IsAmong size sizes = list_any (λ other. other == size) sizes ≡ true

among-later : (size first : ℕ) (sizes : List ℕ) → IsAmong size sizes → IsAmong size (first ∷ sizes)
among-later size first sizes among = grind arith

among-first : (size : ℕ) (sizes : List ℕ) → IsAmong size (size ∷ sizes)
among-first size sizes = ap (λ b. b || list_any (λ other. other == size) sizes) (eq-eqb size size refl)

-- a sum of larger numbers is larger
pub sum-larger : (f g : ℕ → ℕ) (sizes : List ℕ) → ((size : ℕ) → IsAmong size sizes → f size ≤ g size) → sum_by f sizes ≤ sum_by g sizes
sum-larger f g [] larger = omega arith
sum-larger f g (size ∷ sizes) larger =
    omega (arith, sum_by-cons f size sizes, sum_by-cons g size sizes, larger size (among-first size sizes), sum-larger f g sizes (λ other among. larger other (among-later other size sizes among)))

-- and of one more for a class that is among these
pub sum-one_more : (f : ℕ → ℕ) (size : ℕ) (sizes : List ℕ) → IsAmong size sizes → sum_by f sizes + 1 ≤ sum_by (λ k. f k + one_of size k) sizes
sum-one_more f size [] among = absurd (false≢true among)
sum-one_more f size (k ∷ sizes) among = go (k == size) refl among (sum-one_more f size sizes)
  where
    more : ℕ → ℕ
    more other = f other + one_of size other

    rest : sum_by f sizes ≤ sum_by (λ other. f other + one_of size other) sizes
    rest = sum_by-le-sum_by f (λ other. f other + one_of size other) sizes (λ other. omega arith)

    whole : sum_by (λ other. f other + one_of size other) (k ∷ sizes) ≡ f k + one_of size k + sum_by (λ other. f other + one_of size other) sizes
    whole = sum_by-cons (λ other. f other + one_of size other) k sizes

    go : (same : Bool) → (k == size) ≡ same → (same || list_any (λ other. other == size) sizes) ≡ true → (IsAmong size sizes → sum_by f sizes + 1 ≤ sum_by (λ other. f other + one_of size other) sizes)
        → sum_by f (k ∷ sizes) + 1 ≤ sum_by (λ other. f other + one_of size other) (k ∷ sizes)
    go same is h after = grind (arith, sum_by-cons, whole, rest, one_of-same, eqb-true)

-- Pages opened -----------------------------------------------------------------------------------

-- From one table to another pages were opened by so many blocks of each class: a class that has room opens none, and the last page that was opened has a block
pub record IsOpened (sizes : List ℕ) (asked : ℕ → ℕ) (start now : Table Block) : Type 0 where
  pub opened : ℕ → ℕ
  pub free : free_pages start ≤ free_pages now + sum_by opened sizes
  pub room : (size : ℕ) → slots_in size * opened size ≤ asked size + dense_room now size
  pub last : (size : ℕ) → slots_in size * opened size ≤ asked size + (slots_in size - 1)

-- the slots of one page more
pub one_page_more : (slots pages one : ℕ) → one ≡ 1 → slots * (pages + one) ≡ slots * pages + slots
one_page_more slots pages one is = rw (is, add-one) (mul-suc slots pages)

no_page_more : (slots pages one : ℕ) → one ≡ 0 → slots * (pages + one) ≡ slots * pages
no_page_more slots pages one is = ap (λ n. slots * n) (omega (arith, is))

module _ (sizes : List ℕ) where
  pub opened-none : (asked : ℕ → ℕ) (table : Table Block) → IsOpened sizes asked table table
  opened-none asked table = record { opened = λ size. 0; free = omega arith; room = λ size. omega arith; last = λ size. omega arith }

  -- more blocks may be asked for
  pub opened-more : (asked more : ℕ → ℕ) (start now : Table Block) → ((size : ℕ) → asked size ≤ more size) → IsOpened sizes asked start now → IsOpened sizes more start now
  opened-more asked more start now larger is = record { opened = is.opened; free = is.free; room = λ size. omega (arith, is.room size, larger size); last = λ size. omega (arith, is.last size, larger size) }

  opened-in_use : (asked : ℕ → ℕ) (start now new : Table Block) (size : ℕ) → TakesRoom size now new → IsOpened sizes asked start now → IsOpened sizes (λ k. asked k + one_of size k) start new
  opened-in_use asked start now new size takes is = grind (arith, taken)
    where
      taken : (k : ℕ) → dense_room now k ≤ dense_room new k + one_of size k
      taken k = elim (cases_eq k size) [
        | inl same ↦ rw same (omega (arith, takes.own, one_of-same size size refl))
        | inr apart ↦ omega (arith, takes.others k apart)
      ]

  opened-fresh : (asked : ℕ → ℕ) (start now new : Table Block) (size : ℕ) → IsAmong size sizes → dense_room now size ≡ 0 → OpensPage size now new → IsOpened sizes asked start now → IsOpened sizes (λ k. asked k + one_of size k) start new
  opened-fresh asked start now new size among none opens is = record {
    opened = λ k. is.opened k + one_of size k;
    free = omega (arith, is.free, opens.free, sum-one_more is.opened size sizes among);
    room = λ k. elim (cases_eq k size) [
      | inl same ↦ omega (arith, one_page_more (slots_in k) (is.opened k) (one_of size k) (one_of-same size k same), one_of-same size k same, is.room k, empty k same, own k same)
      | inr apart ↦ omega (arith, no_page_more (slots_in k) (is.opened k) (one_of size k) (one_of-other size k apart), is.room k, opens.others k)
    ];
    last = λ k. grind (arith, cases_eq, one_page_more, one_of-same, empty, no_page_more, one_of-other);
  }
    where
      empty : (k : ℕ) → k ≡ size → dense_room now k ≡ 0
      empty k same = ap (dense_room now) same ∙ none

      own : (k : ℕ) → k ≡ size → slots_in k ≤ dense_room new k + 1
      own k same = rw same (omega (arith, opens.own))

  -- One block put into the least place of its class, before which free pages are taken only if there is no room
  pub opened-taken : (asked : ℕ → ℕ) (start now : Table Block) (size place : ℕ) (block : Block) → HaveTheirSlots now → is_class_size size ≡ true → IsAmong size sizes → least_place now size ≡ Some place
      → IsOpened sizes asked start now → IsOpened sizes (λ k. asked k + one_of size k) start (with_taken now size place block)
  opened-taken asked start now size place block slots class among least is = elim (least_place-least now size (shaped-slots now slots) place least) [
    | inl dense ↦ in_use (is_dense size) (λ page passes. eqb-true page.class_size size (and_parts (page.class_size == size) (not page.is_flagged) passes).0) dense
    | inr later ↦ elim later [
      | inl (none, fresh) ↦ opened-fresh asked start now new size among (dense_room-none now size none) (taken-fresh now size place block fresh.inside (fresh_page (page_at now (page_number place)) fresh.gives)) is
      | inr (none, none_fresh, sparse) ↦ in_use (is_sparse size) (λ page passes. eqb-true page.class_size size (and_parts (page.class_size == size) page.is_flagged passes).0) sparse
    ]
  ]
    where
      new : Table Block
      new = with_taken now size place block

      in_use : (test : Page Block → Bool) → ((page : Page Block) → test page ≡ true → page.class_size ≡ size) → IsFound (open_slot test) now place → IsOpened sizes (λ k. asked k + one_of size k) start new
      in_use test of_class found = grind (arith, open_slot-is, opened-in_use, new, taken-in_use)

      fresh_page : (content : Option (Page Block)) → fresh_slot content ≡ Some (slot_number place) → content ≡ None
      fresh_page content gives = grind (arith, none-some)

-- Parts in order ---------------------------------------------------------------------------------

pub class_parts-cons : (size other : ℕ) (part : Part) (list : List Part) → class_of (part_words part) ≡ Some size → class_parts other (part ∷ list) ≡ one_of size other + class_parts other list
class_parts-cons size other part list class =
    sum_by-cons (λ p. cond (is_of_class other p) 1 0) part list
    ∙ ap (λ (o : Option ℕ). cond (unwrap_or (option_map (λ c. c == other) o) false) 1 0 + class_parts other list) class

-- a class is among the classes
pub among-classes : (size : ℕ) → is_class_size size ≡ true → IsAmong size class_sizes
unfolding is_class_size
among-classes size member = member

pub among-is_class : (size : ℕ) → IsAmong size class_sizes → is_class_size size ≡ true
unfolding is_class_size
among-is_class size member = member

-- Parts that are made open pages by their classes
pub made_parts-opened : (list : List Part) (asked : ℕ → ℕ) (start now : Table Block) (birth stamp index : ℕ) (made : MadeParts) → HaveTheirSlots now → made_parts now birth stamp index list ≡ Some made
    → IsOpened class_sizes asked start now → IsOpened class_sizes (λ k. asked k + class_parts k list) start made.table
made_parts-opened [] asked start now birth stamp index made slots e is = grind (arith, same_Some, opened-more)
made_parts-opened (part ∷ list) asked start now birth stamp index made slots e is =
    let first = first-made now birth stamp index part list made e in
    let size : ℕ = first.size in
    let class : is_class_size size ≡ true = class_of-class_size (part_words part) size first.class in
    let block : Block = new_block birth stamp index part in
    let next : Table Block = with_taken now size first.place block in
    let one = opened-taken class_sizes asked start now size first.place block slots class (among-classes size class) first.least is in
    let rest = made_parts-opened list (λ k. asked k + one_of size k) start next birth stamp (suc index) first.rest (taken-slots now size first.place block class slots) first.rest_is one in
    opened-more class_sizes (λ k. asked k + one_of size k + class_parts k list) (λ k. asked k + class_parts k (part ∷ list)) start made.table (λ k. omega (arith, class_parts-cons size k part list first.class))
    (subst (IsOpened class_sizes (λ k. asked k + one_of size k + class_parts k list) start) first.table_is rest)

-- How many pages that may be ----------------------------------------------------------------------

-- the pages of so many blocks of each class
abbrev pub pages_of : (ℕ → ℕ) → List ℕ → ℕ
pages_of asked sizes = sum_by (λ size. pages_for size (asked size)) sizes

-- so many slots are in no more pages than that
pub least-pages : (slots pages count : ℕ) → 0 < slots → slots * pages ≤ count + (slots - 1) → pages ≤ div_ceil count slots
least-pages slots pages count some room = grind (arith, cases_lt, mul-le-mul_left, mul-suc, mul_comm, div_ceil_times)

-- more blocks are in more pages
pub more-pages : (slots count more : ℕ) → 0 < slots → count ≤ more → div_ceil count slots ≤ div_ceil more slots
more-pages slots count more some larger = grind (arith, least-pages, more, mul_comm, div_ceil_times)

pub pages_of-more : (asked more : ℕ → ℕ) → ((size : ℕ) → asked size ≤ more size) → pages_of asked class_sizes ≤ pages_of more class_sizes
pages_of-more asked more larger = sum-larger (λ size. pages_for size (asked size)) (λ size. pages_for size (more size)) class_sizes (λ size among. more-pages (slots_in size) (asked size) (more size) (slots_in-class_size size (among-is_class size among)).0 (larger size))

-- No more pages are opened than hold the blocks of each class
pub opened-few : (asked : ℕ → ℕ) (start now : Table Block) → IsOpened class_sizes asked start now → free_pages start ≤ free_pages now + pages_of asked class_sizes
opened-few asked start now is = omega (arith, is.free, sum-larger is.opened (λ size. pages_for size (asked size)) class_sizes few)
  where
    few : (size : ℕ) → IsAmong size class_sizes → is.opened size ≤ pages_for size (asked size)
    few size among = least-pages (slots_in size) (is.opened size) (asked size) (slots_in-class_size size (among-is_class size among)).0 (is.last size)

-- If a class has no room and one more block of it would open no more pages than were free, then a page is free
pub room-left : (asked : ℕ → ℕ) (start now : Table Block) (size : ℕ) → is_class_size size ≡ true → IsOpened class_sizes asked start now → dense_room now size ≡ 0 → pages_of (λ k. asked k + one_of size k) class_sizes ≤ free_pages start → 0 < free_pages now
room-left asked start now size class is none fits =
    omega (arith, is.free, sum-one_more is.opened size class_sizes (among-classes size class), sum-larger (λ k. is.opened k + one_of size k) (λ k. pages_for k (asked k + one_of size k)) class_sizes few, fits)
  where
    few : (k : ℕ) → IsAmong k class_sizes → is.opened k + one_of size k ≤ pages_for k (asked k + one_of size k)
    few k among = elim (cases_eq k size) [
      | inl same ↦
          let empty : dense_room now k ≡ 0 = ap (dense_room now) same ∙ none in
          least-pages (slots_in k) (is.opened k + one_of size k) (asked k + one_of size k) (slots_in-class_size k (among-is_class k among)).0
          (omega (arith, one_page_more (slots_in k) (is.opened k) (one_of size k) (one_of-same size k same), one_of-same size k same, is.room k, empty))
      | inr apart ↦
          least-pages (slots_in k) (is.opened k + one_of size k) (asked k + one_of size k) (slots_in-class_size k (among-is_class k among)).0
          (omega (arith, no_page_more (slots_in k) (is.opened k) (one_of size k) (one_of-other size k apart), is.last k))
    ]
