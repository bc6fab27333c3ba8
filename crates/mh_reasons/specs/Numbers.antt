-- What makes a word no number, or none that may stand at its place.
use Rattle.std.specs.Prelude.{◌≡◌, ℕ, suc, ◌<◌, Bool, true, false, ◌&&◌, Some, [], ◌∷◌, length, slice_index}
use Rattle.std.specs.List.{list_all}
use Rattle.mh_model.specs.Bytes.{Text, is_digit, is_numeral, value_after, number}
use Rattle.mh_reasons.specs.declared.number_fault.NumberFault.{NumberFault, TheVariants.{NotDigits, LeadingZero, Above}}

-- one digit or more
abbrev pub is_digits : Text → Bool
is_digits [] = false
is_digits (byte ∷ bytes) = is_digit byte && list_all is_digit bytes

-- What is wrong with a word that is to be a number below a bound: it isn't digits; it is digits, a needless 0 first; or it is a number, and not below the bound
abbrev pub HasNumberFault : ℕ → Text → NumberFault → Type 0
HasNumberFault bound word NotDigits = is_digits word ≡ false
HasNumberFault bound word LeadingZero = (is_digits word ≡ true) × (1 < length word) × (slice_index word 0 ≡ 48)
HasNumberFault bound word (Above most) = (is_numeral word ≡ true) × (most < value_after 0 word) × (bound ≡ suc most)

-- a word that is a number below a bound
pub record IsNumberBelow (bound : ℕ) (word : Text) : Type 0 where
  pub value : ℕ
  pub is : number word ≡ Some value
  pub below : value < bound
