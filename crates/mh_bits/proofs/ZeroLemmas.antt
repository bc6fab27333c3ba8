-- Words set to 0 one after another.
use Rattle.std.proofs.Common.{ℕ, ◌+◌, ◌<◌, ◌≤◌, List, length, set, inl, inr, refl, ◌∙◌, arith, get_or-set_same, get_or-set_other}
use Rattle.std.proofs.{lemmas.Bool.cases_eq, lemmas.List.length-set}
use Rattle.mh_bits.specs.Bits.{IsZeroed}

pub zeroed_none : (words : List ℕ) (first : ℕ) → IsZeroed words words first first
zeroed_none words first = grind arith

pub zeroed_more : (old words : List ℕ) (first at : ℕ) → IsZeroed old words first at → first ≤ at → at < length words → IsZeroed old (set words at 0) first (at + 1)
zeroed_more old words first at so start within = grind (arith, length-set, cases_eq, get_or-set_same, get_or-set_other)
