-- How many pages are free after one page has changed.
use Rattle.std.proofs.Common.{◌≡◌, ℕ, zero, suc, ◌<◌, ◌≤◌, [], ◌∷◌, Some, None, length, set, replicate, refl, ap, sym, arith}
use Rattle.std.proofs.lemmas.Option.{none-some}
use Rattle.mh_model.specs.Pages.{Page, Table, page_at, free_pages}

module _ {X : Type 0} where
  -- a free page taken
  pub free_pages-taken : (table : Table X) (number : ℕ) (page : Page X) → number < length table → page_at table number ≡ None → suc (free_pages (set table number (Some page))) ≡ free_pages table
  free_pages-taken (None ∷ table) (suc number) page h e = ap suc (free_pages-taken table number page (omega arith) e)
  free_pages-taken (Some p ∷ table) (suc number) page h e = free_pages-taken table number page (omega arith) e
  free_pages-taken table number page h e = grind (arith, none-some)

  -- a page in use changed
  pub free_pages-same : (table : Table X) (number : ℕ) (page old : Page X) → page_at table number ≡ Some old → free_pages (set table number (Some page)) ≡ free_pages table
  free_pages-same (None ∷ table) (suc number) page old e = ap suc (free_pages-same table number page old e)
  free_pages-same (Some p ∷ table) (suc number) page old e = free_pages-same table number page old e
  free_pages-same table number page old e = grind (arith, none-some)

  -- a page in use freed
  pub free_pages-freed : (table : Table X) (number : ℕ) (old : Page X) → page_at table number ≡ Some old → free_pages (set table number None) ≡ suc (free_pages table)
  free_pages-freed (None ∷ table) (suc number) old e = ap suc (free_pages-freed table number old e)
  free_pages-freed (Some p ∷ table) (suc number) old e = free_pages-freed table number old e
  free_pages-freed table number old e = grind (arith, none-some)

  pub free_pages-few : (table : Table X) → free_pages table ≤ length table
  free_pages-few [] = omega arith
  free_pages-few (None ∷ table) = omega (arith, free_pages-few table)
  free_pages-few (Some p ∷ table) = omega (arith, free_pages-few table)

  -- a free page is counted
  pub free_pages-some : (table : Table X) (number : ℕ) → number < length table → page_at table number ≡ None → 0 < free_pages table
  free_pages-some (Some p ∷ table) (suc number) h e = free_pages-some table number (omega arith) e
  free_pages-some table number h e = grind (arith, none-some)

pub free_pages-all : (X : Type 0) (count : ℕ) → free_pages {X = X} (replicate count None) ≡ count
free_pages-all X zero = refl
free_pages-all X (suc count) = ap suc (free_pages-all X count)
