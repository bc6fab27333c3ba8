-- Deeds that are added up as they come: how large that becomes, and that it is what all of them count.
use Rattle.std.proofs.Common.{◌≡◌, ℕ, ◌+◌, ◌*◌, ◌-◌, ◌==◌, ◌≤◌, ◌<◌, max, Bool, true, false, if◌then◌else◌, List, [], ◌∷◌, ◌++◌, length, take, get_or, refl, sym, ap, ◌∙◌, subst, arith}
use Rattle.std.proofs.{lemmas.List.take_more, lemmas.List.Sums.sum_by-cons}
use Rattle.std.specs.List.{sum_by}
use Rattle.mh_model.specs.declared.cycle.Phase.{Phase}
use Rattle.mh_model.specs.{declared.cycle.Phase.TheVariants.{Idle, Roots, Mark, Sweep, Defrag}, declared.deed.Deed.Deed}
use Rattle.mh_model.specs.{declared.deed.Edge.Edge, declared.deed.Fate.Fate, declared.deed.Tier.Tier}
use Rattle.mh_model.specs.{declared.deed.Tier.TheVariants.Dense, Deeds.{deed_units, units_of}, Pages.slot_number}
use Rattle.mh_model.specs.declared.stat.Stat.{Stat}
use Rattle.mh_tell_laws.specs.Cycles.{marks, makes, opens, opens_by, shades, frees, frees_by, drops, drops_by, empties, comes_to_sparse, begins_page, moves, words_moved, is_phase, units_in, grey_after_deed, grey_after_edge, longest_grey}
use Rattle.mh_tell_cycles.specs.{declared.tally.DeedCounts.DeedCounts, declared.tally.Tally.Tally}
use Rattle.mh_tell_cycles.specs.{declared.tally.Units.Units, declared.underway.BlockCounts.BlockCounts}
use Rattle.mh_tell_cycles.specs.Tallies.{blocks_after, counts_of, counts_sum, counts_total, units_with, tally_with, tally_all, first_tally, HasRoom}

-- Room -------------------------------------------------------------------------------------------

units_total : Units → ℕ
units_total units = units.roots + units.mark + units.sweep + units.defrag

opens-few : (tier : Tier) → opens_by tier ≤ 1
opens-few Dense = omega arith
opens-few other = omega arith

begins-few : (place : ℕ) → begins_page place ≤ 1
begins-few place = go (slot_number place == 0)
  where
    go : (first : Bool) → (if first then 1 else 0) ≤ 1
    go true = omega arith
    go false = omega arith

fates-few : (fate : Fate) → frees_by fate + drops_by fate ≤ 1
fates-few Fate.Empty = omega arith
fates-few other = omega arith

counts-few : (d : Deed) → counts_total (counts_of d) ≤ 4 + 2 * deed_units d
counts-few (Deed.Make place name class_size fields tier) = omega (arith, opens-few tier)
counts-few (Deed.Sweep place fate) = omega (arith, fates-few fate)
counts-few (Deed.Stay place) = omega (arith, begins-few place)
counts-few (Deed.Move place to name class_size) = omega (arith, begins-few place)
counts-few d = omega arith

edge-few : (grey : ℕ) (edge : Edge) → grey_after_edge grey edge ≤ grey + 1
edge-few grey edge = go edge.is_shaded
  where
    go : (is_shaded : Bool) → (if is_shaded then grey + 1 else grey) ≤ grey + 1
    go true = omega arith
    go false = omega arith

grey-few : (grey : ℕ) (d : Deed) → grey_after_deed grey d ≤ grey + 1
grey-few grey (Deed.Root slot edge) = edge-few grey edge
grey-few grey (Deed.Reference index edge) = edge-few grey edge
grey-few grey d = omega arith

units-few : (units : Units) (phase : Phase) (more : ℕ) → units_total (units_with units phase more) ≤ units_total units + more
unfolding units_total
units-few units Idle more = omega arith
units-few units other more = omega arith

room-with : (limit : ℕ) (tally : Tally) (d : Deed) → HasRoom limit tally → HasRoom (limit + (4 + 2 * deed_units d)) (tally_with tally d)
unfolding units_total
room-with limit tally d room = record {
  grey = omega (arith, room.grey, grey-few tally.grey d);
  longest = omega (arith, room.longest, room.grey, grey-few tally.grey d);
  units = omega (arith, room.units, units-few tally.units tally.phase (deed_units d));
  counts = omega (arith, room.counts, counts-few d);
}

-- deeds in order
pub room-all : (deeds : List Deed) (limit : ℕ) (tally : Tally) → HasRoom limit tally → HasRoom (limit + (4 * length deeds + 2 * units_of deeds)) (tally_all tally deeds)
room-all [] limit tally room = record { grey = omega (arith, room.grey); longest = omega (arith, room.longest); units = omega (arith, room.units); counts = omega (arith, room.counts) }
room-all (d ∷ deeds) limit tally room =
    let e : limit + (4 + 2 * deed_units d) + (4 * length deeds + 2 * units_of deeds) ≡ limit + (4 * length (d ∷ deeds) + 2 * units_of (d ∷ deeds)) = omega (arith, sum_by-cons deed_units d deeds) in
    subst (λ n. HasRoom n (tally_all (tally_with tally d) deeds)) e (room-all deeds (limit + (4 + 2 * deed_units d)) (tally_with tally d) (room-with limit tally d room))

pub room-less : (limit more : ℕ) (tally : Tally) → limit ≤ more → HasRoom limit tally → HasRoom more tally
room-less limit more tally less room = record { grey = omega (arith, room.grey); longest = omega (arith, room.longest); units = omega (arith, room.units); counts = omega (arith, room.counts) }

-- Lists ------------------------------------------------------------------------------------------

pub tally_all-append : (xs ys : List Deed) (tally : Tally) → tally_all tally (xs ++ ys) ≡ tally_all (tally_all tally xs) ys
tally_all-append [] ys tally = refl
tally_all-append (d ∷ xs) ys tally = tally_all-append xs ys (tally_with tally d)

-- Sums -------------------------------------------------------------------------------------------

module _ (get : DeedCounts → ℕ) (weight : Deed → ℕ) (one : (counts : DeedCounts) (d : Deed) → get (counts_sum counts (counts_of d)) ≡ get counts + weight d) where
  counted-all : (deeds : List Deed) (tally : Tally) → get (tally_all tally deeds).counts ≡ get tally.counts + sum_by weight deeds
  counted-all [] tally = omega arith
  counted-all (d ∷ deeds) tally = omega (arith, counted-all deeds (tally_with tally d), one tally.counts d, sum_by-cons weight d deeds)

module _ (get : Units → ℕ) (wanted : Phase) (one : (units : Units) (phase : Phase) (more : ℕ) → get (units_with units phase more) ≡ get units + (if is_phase wanted phase then more else 0)) where
  spent-all : (deeds : List Deed) (tally : Tally) → get (tally_all tally deeds).units ≡ get tally.units + units_in wanted tally.phase deeds
  spent-all [] tally = omega arith
  spent-all (d ∷ deeds) tally = omega (arith, spent-all deeds (tally_with tally d), one tally.units tally.phase (deed_units d))

one-roots : (units : Units) (phase : Phase) (more : ℕ) → (units_with units phase more).roots ≡ units.roots + (if is_phase Roots phase then more else 0)
one-roots units Roots more = refl
one-roots units other more = omega arith

one-mark : (units : Units) (phase : Phase) (more : ℕ) → (units_with units phase more).mark ≡ units.mark + (if is_phase Mark phase then more else 0)
one-mark units Mark more = refl
one-mark units other more = omega arith

one-sweep : (units : Units) (phase : Phase) (more : ℕ) → (units_with units phase more).sweep ≡ units.sweep + (if is_phase Sweep phase then more else 0)
one-sweep units Sweep more = refl
one-sweep units other more = omega arith

one-defrag : (units : Units) (phase : Phase) (more : ℕ) → (units_with units phase more).defrag ≡ units.defrag + (if is_phase Defrag phase then more else 0)
one-defrag units Defrag more = refl
one-defrag units other more = omega arith

grey-least : (grey : ℕ) (deeds : List Deed) → grey ≤ longest_grey grey deeds
grey-least grey [] = omega arith
grey-least grey (d ∷ deeds) = omega arith

longest-all : (deeds : List Deed) (tally : Tally) → tally.grey ≤ tally.longest → (tally_all tally deeds).longest ≡ max tally.longest (longest_grey tally.grey deeds)
longest-all [] tally less = omega (arith, less)
longest-all (d ∷ deeds) tally less = omega (arith, less, longest-all deeds (tally_with tally d) (omega arith), grey-least (grey_after_deed tally.grey d) deeds)

-- What deeds come to from the start of a cycle
pub counts-are : (deeds : List Deed) → (tally_all first_tally deeds).counts ≡ record {
  marked = sum_by marks deeds;
  made = sum_by makes deeds;
  opened = sum_by opens deeds;
  shaded = sum_by shades deeds;
  freed = sum_by frees deeds;
  dropped = sum_by drops deeds;
  emptied = sum_by empties deeds;
  sparse = sum_by comes_to_sparse deeds;
  moved = sum_by moves deeds;
  words = sum_by words_moved deeds;
}
counts-are deeds =
    let marked : (tally_all first_tally deeds).counts.marked ≡ sum_by marks deeds = omega (arith, counted-all (λ (c : DeedCounts). c.marked) marks (λ c d. refl) deeds first_tally) in
    let made : (tally_all first_tally deeds).counts.made ≡ sum_by makes deeds = omega (arith, counted-all (λ (c : DeedCounts). c.made) makes (λ c d. refl) deeds first_tally) in
    let opened : (tally_all first_tally deeds).counts.opened ≡ sum_by opens deeds = omega (arith, counted-all (λ (c : DeedCounts). c.opened) opens (λ c d. refl) deeds first_tally) in
    let shaded : (tally_all first_tally deeds).counts.shaded ≡ sum_by shades deeds = omega (arith, counted-all (λ (c : DeedCounts). c.shaded) shades (λ c d. refl) deeds first_tally) in
    let freed : (tally_all first_tally deeds).counts.freed ≡ sum_by frees deeds = omega (arith, counted-all (λ (c : DeedCounts). c.freed) frees (λ c d. refl) deeds first_tally) in
    let dropped : (tally_all first_tally deeds).counts.dropped ≡ sum_by drops deeds = omega (arith, counted-all (λ (c : DeedCounts). c.dropped) drops (λ c d. refl) deeds first_tally) in
    let emptied : (tally_all first_tally deeds).counts.emptied ≡ sum_by empties deeds = omega (arith, counted-all (λ (c : DeedCounts). c.emptied) empties (λ c d. refl) deeds first_tally) in
    let sparse : (tally_all first_tally deeds).counts.sparse ≡ sum_by comes_to_sparse deeds = omega (arith, counted-all (λ (c : DeedCounts). c.sparse) comes_to_sparse (λ c d. refl) deeds first_tally) in
    let moved : (tally_all first_tally deeds).counts.moved ≡ sum_by moves deeds = omega (arith, counted-all (λ (c : DeedCounts). c.moved) moves (λ c d. refl) deeds first_tally) in
    let words : (tally_all first_tally deeds).counts.words ≡ sum_by words_moved deeds = omega (arith, counted-all (λ (c : DeedCounts). c.words) words_moved (λ c d. refl) deeds first_tally) in
    λ i. record { marked = marked i; made = made i; opened = opened i; shaded = shaded i; freed = freed i; dropped = dropped i; emptied = emptied i; sparse = sparse i; moved = moved i; words = words i }

pub units-are : (deeds : List Deed) → (tally_all first_tally deeds).units ≡ record { roots = units_in Roots Idle deeds; mark = units_in Mark Idle deeds; sweep = units_in Sweep Idle deeds; defrag = units_in Defrag Idle deeds }
units-are deeds =
    let roots : (tally_all first_tally deeds).units.roots ≡ units_in Roots Idle deeds = omega (arith, spent-all (λ (u : Units). u.roots) Roots one-roots deeds first_tally) in
    let mark : (tally_all first_tally deeds).units.mark ≡ units_in Mark Idle deeds = omega (arith, spent-all (λ (u : Units). u.mark) Mark one-mark deeds first_tally) in
    let sweep : (tally_all first_tally deeds).units.sweep ≡ units_in Sweep Idle deeds = omega (arith, spent-all (λ (u : Units). u.sweep) Sweep one-sweep deeds first_tally) in
    let defrag : (tally_all first_tally deeds).units.defrag ≡ units_in Defrag Idle deeds = omega (arith, spent-all (λ (u : Units). u.defrag) Defrag one-defrag deeds first_tally) in
    λ i. record { roots = roots i; mark = mark i; sweep = sweep i; defrag = defrag i }

pub longest-is : (deeds : List Deed) → (tally_all first_tally deeds).longest ≡ longest_grey 0 deeds
longest-is deeds = omega (arith, longest-all deeds first_tally (omega arith))

-- a deed more of those that are gone through
pub tally-more : (deeds : List Deed) (i : ℕ) (first now next : Tally) (d : Deed) → i < length deeds → d ≡ get_or deeds i d → now ≡ tally_all first (take i deeds) → next ≡ tally_with now d → next ≡ tally_all first (take (i + 1) deeds)
tally-more deeds i first now next d inside there is more =
    let cut : take (i + 1) deeds ≡ take i deeds ++ d ∷ [] = take_more deeds i d inside ∙ ap (λ x. take i deeds ++ x ∷ []) (sym there) in
    more ∙ ap (λ t. tally_with t d) is ∙ sym (ap (tally_all first) cut ∙ tally_all-append (take i deeds) (d ∷ []) first)

-- what the deeds of a command made and opened, and how much that can be
pub record IsCommand (deeds : List Deed) (tally : Tally) : Type 0 where
  pub made : tally.counts.made ≡ sum_by makes deeds
  pub opened : tally.counts.opened ≡ sum_by opens deeds
  pub few : tally.counts.made ≤ 4 * length deeds + 2 * units_of deeds

pub command-is : (deeds : List Deed) (tally : Tally) → tally ≡ tally_all first_tally deeds → IsCommand deeds tally
command-is deeds tally is =
    let room = room-all deeds 0 first_tally (record { grey = omega arith; longest = omega arith; units = omega arith; counts = omega arith }) in
    let same = ap (λ (t : Tally). t.counts) is in
    record {
      made = ap (λ (c : DeedCounts). c.made) (same ∙ counts-are deeds);
      opened = ap (λ (c : DeedCounts). c.opened) (same ∙ counts-are deeds);
      few = omega (arith, ap counts_total same, room.counts);
    }

pub command-from : (deeds given : List Deed) (first tally : Tally) → tally ≡ tally_all first given → first ≡ first_tally → given ≡ deeds → IsCommand deeds tally
command-from deeds given first tally is begins same = command-is deeds tally (is ∙ ap (λ t. tally_all t given) begins ∙ ap (tally_all first_tally) same)

-- what is in a heap after a command
pub blocks-are : (stat : Stat) (deeds : List Deed) (tally : Tally) (blocks : BlockCounts) → blocks.free ≡ stat.free → blocks.live ≡ stat.live → blocks.old ≡ stat.old → IsCommand deeds tally
    → record { free = blocks.free - tally.counts.opened; live = blocks.live + tally.counts.made; old = blocks.old } ≡ blocks_after stat deeds
blocks-are stat deeds tally blocks free live old command =
    let free_is : blocks.free - tally.counts.opened ≡ stat.free - sum_by opens deeds = omega (arith, free, command.opened) in
    let live_is : blocks.live + tally.counts.made ≡ stat.live + sum_by makes deeds = omega (arith, live, command.made) in
    λ i. record { free = free_is i; live = live_is i; old = old i }
