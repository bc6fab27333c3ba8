use Rattle.std.proofs.Common.{◌≡◌, ◌*◌, ◌≤◌, take}
use Rattle.mh_pages.specs.FreePlaces.{free_places}
use Rattle.mh_pages.proofs.pages.Pages.free_places.Given as goal

abbrev pub invariant-loop-page : goal.invariant-loop-page
invariant-loop-page l = record { so_far : l.count ≡ free_places (take l.page l.self) l.class; few : l.count ≤ 64 * l.page }
