-- The grey list as callers see it.
use Rattle.std.specs.{Prelude.{ℕ, ◌==◌, Bool, List}, List.list_any}

-- the grey places in order, and of how many pages they may be
pub record Queue : Type 0 where
  pub places : List ℕ
  pub pages : ℕ

-- a place stands in a list
abbrev pub is_in : ℕ → List ℕ → Bool
is_in place places = list_any (λ other. place == other) places
