-- Blocks of trace events, one after another: what holds of two holds of both.
use Rattle.std.proofs.Common.{◌≡◌, ℕ, ◌+◌, ◌-◌, ◌≤◌, Bool, List, [], ◌∷◌, ◌++◌, sym, subst, arith}
use Rattle.mh_tell_chrome.specs.TraceEvents.{TraceEvent, Process, Thread, Rank, Begin, End, Instant, Counter}
use Rattle.mh_tell_chrome.specs.Laws.{AreWithin, Nests, counted_on}

-- Times ------------------------------------------------------------------------------------------

pub within-earlier : (a b c : ℕ) (events : List TraceEvent) → a ≤ b → AreWithin b c events → AreWithin a c events
within-earlier a b c [] less h = omega arith
within-earlier a b c (Process name ∷ events) less h = within-earlier a b c events less h
within-earlier a b c (Thread thread name ∷ events) less h = within-earlier a b c events less h
within-earlier a b c (Rank thread ∷ events) less h = within-earlier a b c events less h
within-earlier a b c (other ∷ events) less h = (omega (arith, h.0), h.1)

pub within-then : (a b c : ℕ) (first next : List TraceEvent) → AreWithin a b first → AreWithin b c next → AreWithin a c (first ++ next)
within-then a b c [] next h more = within-earlier a b c next h more
within-then a b c (Begin time thread name arguments ∷ events) next h more = (h.0, within-then time b c events next h.1 more)
within-then a b c (End time thread ∷ events) next h more = (h.0, within-then time b c events next h.1 more)
within-then a b c (Instant time thread name arguments ∷ events) next h more = (h.0, within-then time b c events next h.1 more)
within-then a b c (Counter time name series ∷ events) next h more = (h.0, within-then time b c events next h.1 more)
within-then a b c (other ∷ events) next h more = within-then a b c events next h more

-- Quanta -----------------------------------------------------------------------------------------

-- events within two times, of which none begins or ends a slice on another thread than those of cycles and quanta
abbrev pub IsBlock : (from to : ℕ) → List TraceEvent → Type 0
IsBlock from to [] = from ≤ to
IsBlock from to (Begin time thread name arguments ∷ events) = (from ≤ time) × ((thread ≤ 2) × IsBlock time to events)
IsBlock from to (End time thread ∷ events) = (from ≤ time) × ((thread ≤ 2) × IsBlock time to events)
IsBlock from to (Counter time name series ∷ events) = (from ≤ time) × IsBlock time to events
IsBlock from to (_ ∷ events) = ⊥

pub block-earlier : (a b c : ℕ) (events : List TraceEvent) → a ≤ b → IsBlock b c events → IsBlock a c events
block-earlier a b c [] less h = omega arith
block-earlier a b c (Begin time thread name arguments ∷ events) less h = (omega (arith, h.0), h.1)
block-earlier a b c (End time thread ∷ events) less h = (omega (arith, h.0), h.1)
block-earlier a b c (Counter time name series ∷ events) less h = (omega (arith, h.0), h.1)
block-earlier a b c (other ∷ events) less h = h

pub block-then : (a b c : ℕ) (first next : List TraceEvent) → IsBlock a b first → IsBlock b c next → IsBlock a c (first ++ next)
block-then a b c [] next h more = block-earlier a b c next h more
block-then a b c (Begin time thread name arguments ∷ events) next h more = (h.0, (h.1.0, block-then time b c events next h.1.1 more))
block-then a b c (End time thread ∷ events) next h more = (h.0, (h.1.0, block-then time b c events next h.1.1 more))
block-then a b c (Counter time name series ∷ events) next h more = (h.0, block-then time b c events next h.1 more)
block-then a b c (other ∷ events) next h more = absurd h

pub within-block : (a b : ℕ) (events : List TraceEvent) → IsBlock a b events → AreWithin a b events
within-block a b [] h = h
within-block a b (Begin time thread name arguments ∷ events) h = (h.0, within-block time b events h.1.1)
within-block a b (End time thread ∷ events) h = (h.0, within-block time b events h.1.1)
within-block a b (Counter time name series ∷ events) h = (h.0, within-block time b events h.1)
within-block a b (other ∷ events) h = absurd h

-- Nesting ----------------------------------------------------------------------------------------

-- the same with other names of the depths
pub nests-as : (is_on : ℕ → Bool) (a b c d : ℕ) (events : List TraceEvent) → a ≡ c → b ≡ d → Nests is_on a b events → Nests is_on c d events
nests-as is_on a b c d events from to h = subst (λ n. Nests is_on n d events) from (subst (λ n. Nests is_on a n events) to h)

pub nests-then : (is_on : ℕ → Bool) (a b c : ℕ) (first next : List TraceEvent) → Nests is_on a b first → Nests is_on b c next → Nests is_on a c (first ++ next)
nests-then is_on a b c [] next h more = subst (λ n. Nests is_on n c next) (sym h) more
nests-then is_on a b c (Begin time thread name arguments ∷ events) next h more = nests-then is_on (a + counted_on is_on thread) b c events next h more
nests-then is_on a b c (End time thread ∷ events) next h more = (h.0, nests-then is_on (a - counted_on is_on thread) b c events next h.1 more)
nests-then is_on a b c (other ∷ events) next h more = nests-then is_on a b c events next h more
