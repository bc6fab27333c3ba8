-- Lines with bytes out of place have a word that isn't sound.
use Rattle.std.proofs.Common.{◌≡◌, ℕ, suc, ◌-◌, ◌<◌, ◌==◌, ◌&&◌, ◌||◌, Bool, true, false, Some, List, [], ◌∷◌, ◌++◌, length, get_or, refl, arith}
use Rattle.std.proofs.{lemmas.Bool.{and_parts, and_from}, lemmas.Bool.Decides.nat_tests, Math.Bool.and-false}
use Rattle.std.specs.{Prelude.{if◌then◌else◌, find}, List.list_all}
use Rattle.mh_model.specs.Bytes.{Text, cut_after, words}
use Rattle.mh_reasons.specs.{declared.byte_fault.ByteFault.ByteFault, declared.byte_fault.SpacePlace.SpacePlace}
use Rattle.mh_reasons.specs.declared.byte_fault.SpacePlace.TheVariants.{Start, End}
use Rattle.mh_reasons.specs.Lines.{HasSpace, HasByteFault, is_stray}
use Rattle.mh_reasons.proofs.SoundWords.{is_full, is_sound, are_sound}

-- Bytes ------------------------------------------------------------------------------------------

-- what stands in a word, or the space between two
abbrev pub is_line_byte : (ℕ → Bool) → ℕ → Bool
is_line_byte p byte = p byte || byte == 32

-- the words of a text that begins with another byte than a space
pub record Begun (byte : ℕ) (bytes : Text) : Type 0 where
  pub first : Text
  pub more : List Text
  pub rest : words bytes ≡ first ∷ more
  pub whole : words (byte ∷ bytes) ≡ (byte ∷ first) ∷ more

begun_by : (byte : ℕ) (bytes : Text) (pieces : List Text) (rest : Text) → cut_after 32 bytes ≡ record { pieces = pieces; rest = rest } → (byte == 32) ≡ false → Begun byte bytes
begun_by byte bytes [] rest same other = record { first = rest; more = []; rest = rw same refl; whole = rw other (rw same refl) }
begun_by byte bytes (piece ∷ pieces) rest same other = record { first = piece; more = pieces ++ rest ∷ []; rest = rw same refl; whole = rw other (rw same refl) }

begun : (byte : ℕ) (bytes : Text) → (byte == 32) ≡ false → Begun byte bytes
begun byte bytes other = begun_by byte bytes (cut_after 32 bytes).pieces (cut_after 32 bytes).rest refl other

spaced : (byte : ℕ) (bytes : Text) → (byte == 32) ≡ true → words (byte ∷ bytes) ≡ [] ∷ words bytes
spaced byte bytes is = rw is refl

-- if the bytes of its words stand in words, those of a line stand in lines
bytes_by : (p : ℕ → Bool) (is : Bool) (byte : ℕ) (bytes : Text) → (byte == 32) ≡ is → (list_all (list_all p) (words bytes) ≡ true → list_all (is_line_byte p) bytes ≡ true) → list_all (list_all p) (words (byte ∷ bytes)) ≡ true
    → list_all (is_line_byte p) (byte ∷ bytes) ≡ true
bytes_by p is byte bytes same more all = grind arith

bytes_stand : (p : ℕ → Bool) (line : Text) → list_all (list_all p) (words line) ≡ true → list_all (is_line_byte p) line ≡ true
bytes_stand p [] all = refl
bytes_stand p (byte ∷ bytes) all = bytes_by p (byte == 32) byte bytes refl (bytes_stand p bytes) all

sound_bytes : (p : ℕ → Bool) (words : List Text) → are_sound p words ≡ true → list_all (list_all p) words ≡ true
sound_bytes p [] is = refl
sound_bytes p (word ∷ words) is =
    let parts = and_parts (is_sound p word) (are_sound p words) is in
    and_from _ _ (and_parts (is_full word) (list_all p word) parts.0).1 (sound_bytes p words parts.1)

bytes_unsound_by : (p : ℕ → Bool) (is : Bool) (line : Text) → are_sound p (words line) ≡ is → list_all (is_line_byte p) line ≡ false → is ≡ false
bytes_unsound_by p is line same none = grind (arith, bytes_stand, sound_bytes)

bytes_unsound : (p : ℕ → Bool) (line : Text) → list_all (is_line_byte p) line ≡ false → are_sound p (words line) ≡ false
bytes_unsound p line none = bytes_unsound_by p (are_sound p (words line)) line refl none

byte_at : (p : ℕ → Bool) (line : Text) (place : ℕ) → place < length line → is_line_byte p (get_or line place 0) ≡ false → list_all (is_line_byte p) line ≡ false
byte_at p (byte ∷ bytes) (suc place) below none = rw (byte_at p bytes place (omega arith) none) (and-false (is_line_byte p byte))
byte_at p line place below none = grind arith

-- a byte that stands in no line
pub byte_unsound : (p : ℕ → Bool) (line : Text) (place : ℕ) → place < length line → is_line_byte p (get_or line place 0) ≡ false → are_sound p (words line) ≡ false
byte_unsound p line place below none = bytes_unsound p line (byte_at p line place below none)

-- no stray byte passes
abbrev pub TakesNoStray : (ℕ → Bool) → Type 0
TakesNoStray p = (byte : ℕ) → is_stray byte ≡ true → p byte ≡ false

no_space : (byte : ℕ) → is_stray byte ≡ true → (byte == 32) ≡ false
no_space byte is = grind (arith, nat_tests)

stray_by : (p : ℕ → Bool) (none : TakesNoStray p) (is : Bool) (byte found : ℕ) (bytes : Text) → is_stray byte ≡ is → (if is then Some byte else find is_stray bytes) ≡ Some found
    → (find is_stray bytes ≡ Some found → list_all (is_line_byte p) bytes ≡ false) → list_all (is_line_byte p) (byte ∷ bytes) ≡ false
stray_by p none is byte found bytes same e more = grind arith

stray_bytes : (p : ℕ → Bool) (none : TakesNoStray p) (line : Text) (found : ℕ) → find is_stray line ≡ Some found → list_all (is_line_byte p) line ≡ false
stray_bytes p none [] found is = cc
stray_bytes p none (byte ∷ bytes) found is = stray_by p none (is_stray byte) byte found bytes refl is (stray_bytes p none bytes found)

-- Spaces -----------------------------------------------------------------------------------------

-- the words after the first
abbrev after_first : List Text → List Text
after_first [] = []
after_first (word ∷ words) = words

gap_by : (is : Bool) (byte : ℕ) (bytes : Text) → (byte == 32) ≡ is → list_all is_full (after_first (words bytes)) ≡ false → list_all is_full (after_first (words (byte ∷ bytes))) ≡ false
gap_by is byte bytes same gap = grind arith

gap_more : (byte : ℕ) (bytes : Text) → list_all is_full (after_first (words bytes)) ≡ false → list_all is_full (after_first (words (byte ∷ bytes))) ≡ false
gap_more byte bytes gap = gap_by (byte == 32) byte bytes refl gap

space_byte : (byte : ℕ) → byte ≡ 32 → (byte == 32) ≡ true
space_byte byte is = rw is refl

pair_gap : (line : Text) (place : ℕ) → suc place < length line → get_or line place 0 ≡ 32 → get_or line (suc place) 0 ≡ 32 → list_all is_full (after_first (words line)) ≡ false
pair_gap (byte ∷ next ∷ bytes) (suc place) below left right = gap_more byte (next ∷ bytes) (pair_gap (next ∷ bytes) place (omega arith) left right)
pair_gap line place below left right = grind (arith, spaced, space_byte)

end_gap : (line : Text) (place : ℕ) → suc place ≡ length line → get_or line place 0 ≡ 32 → list_all is_full (after_first (words line)) ≡ false
end_gap (byte ∷ next ∷ bytes) (suc place) last is = gap_more byte (next ∷ bytes) (end_gap (next ∷ bytes) place (omega arith) is)
end_gap line place last is = grind (arith, spaced, space_byte)

full_by : (full bytes all_full all_sound : Bool) → full && all_full ≡ false → (all_full ≡ false → all_sound ≡ false) → (full && bytes) && all_sound ≡ false
full_by full bytes all_full all_sound gap more = grind arith

full_sound : (p : ℕ → Bool) (all : List Text) → list_all is_full all ≡ false → are_sound p all ≡ false
full_sound p [] gap = cc
full_sound p (word ∷ all) gap = full_by (is_full word) (list_all p word) (list_all is_full all) (are_sound p all) gap (full_sound p all)

gap_unsound : (p : ℕ → Bool) (words : List Text) → list_all is_full (after_first words) ≡ false → are_sound p words ≡ false
gap_unsound p words gap = grind (arith, full_sound, and-false, is_sound)

space_unsound : (p : ℕ → Bool) (line : Text) (place : SpacePlace) → HasSpace line place → are_sound p (words line) ≡ false
space_unsound p (byte ∷ bytes) Start is = rw (spaced byte bytes (space_byte byte is)) refl
space_unsound p (byte ∷ bytes) End is = gap_unsound p (words (byte ∷ bytes)) (end_gap (byte ∷ bytes) (length (byte ∷ bytes) - 1) (omega arith) is)
space_unsound p line place is = grind (arith, gap_unsound, pair_gap)

-- bytes that are out of place
pub fault_unsound : (p : ℕ → Bool) (none : TakesNoStray p) (line : Text) (fault : ByteFault) → HasByteFault line fault → are_sound p (words line) ≡ false
fault_unsound p none line fault is = grind (arith, bytes_unsound, stray_bytes, space_unsound)
