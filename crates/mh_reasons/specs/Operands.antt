-- What is wrong with the words after a verb.
use Rattle.std.specs.Prelude.{◌≡◌, ◌≢◌, ℕ, ◌<◌, Bool, false, Option, Some, None, List, length, slice_index, slice_index_or, []}
use Rattle.mh_model.specs.{Bytes.{Text, numbers}, Forms.are_below}
use Rattle.mh_reasons.specs.{declared.quoted.Quoted.Quoted, declared.number_fault.NumberFault.NumberFault}
use Rattle.mh_reasons.specs.{declared.verb.Verb.Verb, declared.reason.LineReason.LineReason, Quotes.Quotes}
use Rattle.mh_reasons.specs.Numbers.{HasNumberFault, IsNumberBelow}

-- numbers that are below bounds, if there are any
abbrev pub are_numbers_below : List ℕ → Option (List ℕ) → Bool
are_numbers_below bounds None = false
are_numbers_below bounds (Some ns) = are_below bounds ns

-- as many words as bounds, each a number below its own
abbrev pub fit : List ℕ → List Text → Bool
fit bounds words = are_numbers_below bounds (numbers words)

-- of as many words as bounds, the first that has a fault is quoted
pub record HasOperandFault (bounds : List ℕ) (words : List Text) (quoted : Quoted) (fault : NumberFault) : Type 0 where
  pub place : ℕ
  pub counted : length words ≡ length bounds
  pub within : place < length words
  pub quotes : Quotes (slice_index_or words place []) quoted
  pub earlier : (k : ℕ) → k < place → IsNumberBelow (slice_index bounds k) (slice_index_or words k [])
  pub faulty : HasNumberFault (slice_index bounds place) (slice_index_or words place []) fault

-- What a reason says of the words after this verb
abbrev pub IsOperandReason : Verb → List ℕ → List Text → LineReason → Type 0
IsOperandReason verb bounds words (LineReason.Operands of) = (of ≡ verb) × (length words ≢ length bounds)
IsOperandReason verb bounds words (LineReason.Operand quoted fault) = HasOperandFault bounds words quoted fault
IsOperandReason verb bounds words _ = ⊥
