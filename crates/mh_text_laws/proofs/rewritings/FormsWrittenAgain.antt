-- Words that are read by a table of forms, as commands and controls are, are what is written of what they mean.
use Rattle.std.proofs.Common.{◌≡◌, ◌∙◌, ℕ, ◌&&◌, cond, Bool, true, false, Option, Some, option_and_then, List, [], ◌∷◌, map, ap, sym, refl, codes, decimal, arith}
use Rattle.std.proofs.lemmas.Bool.{and_parts}
use Rattle.mh_model.specs.{declared.command.Command.Command, declared.command.Control.Control, Bytes.{Text, is_text}}
use Rattle.mh_model.specs.Forms.{Form, form_of, formed, are_below, with_numbers, row, row_form, phrase_words, is_sayable, command_forms, command_phrase, command_of, control_forms, control_phrase, control_of, knows_control, where_known}
use Rattle.mh_model.specs.{declared.history.Version.Version, declared.history.Version.TheVariants.One}
use Rattle.mh_model.specs.Replies.{are_texts, with_words}
use Rattle.mh_text_laws.proofs.rewritings.NumbersWrittenAgain.{within_is, numbered_is, OfEach, of_each, length-below}
use Rattle.mh_model.proofs.TextLemmas.{text_is}

-- these words are written of something, which passes a test
abbrev pub IsOf : {X : Type 0} → (X → List Text) → (X → Bool) → List Text → X → Type 0
IsOf written passes words x = (written x ≡ words) × (passes x ≡ true)

pub same_of : {X : Type 0} (written : X → List Text) (passes : X → Bool) (words : List Text) (made x : X) → made ≡ x → IsOf written passes words made → IsOf written passes words x
same_of written passes words made x same h = (ap written (sym same) ∙ h.0, ap passes (sym same) ∙ h.1)

-- what a form reads is written with its word and the words that it read, and passes
pub record IsFaithful {X : Type 0} (written : X → List Text) (passes : X → Bool) (form : Form X) : Type 0 where
  pub read : (words : List Text) (x : X) → form.meaning words ≡ Some x → IsOf written passes (form.verb ∷ words) x

abbrev pub AreFaithful : {X : Type 0} → (X → List Text) → (X → Bool) → List (Form X) → Type 0
AreFaithful written passes [] = Unit {0}
AreFaithful written passes (form ∷ forms) = IsFaithful written passes form × AreFaithful written passes forms

-- Tables -----------------------------------------------------------------------------------------

form_or_later : {X : Type 0} (written : X → List Text) (passes : X → Bool) (form : Form X) (verb : Text) (words : List Text) (x : X) (later : Option (Form X)) (is : Bool)
    → IsFaithful written passes form → is_text verb form.verb ≡ is → (option_and_then (λ form. form.meaning words) later ≡ Some x → IsOf written passes (verb ∷ words) x)
    → option_and_then (λ form. form.meaning words) (cond is (Some form) later) ≡ Some x → IsOf written passes (verb ∷ words) x
form_or_later written passes form verb words x later true faithful is next h =
    let found = faithful.read words x h in
    let same : form.verb ≡ verb = sym (text_is verb form.verb is) in
    (found.0 ∙ ap (λ (v : Text). v ∷ words) same, found.1)
form_or_later written passes form verb words x later false faithful is next h = next h

found-faithful : {X : Type 0} (written : X → List Text) (passes : X → Bool) (forms : List (Form X)) (verb : Text) (words : List Text) (x : X)
    → AreFaithful written passes forms → option_and_then (λ form. form.meaning words) (form_of verb forms) ≡ Some x → IsOf written passes (verb ∷ words) x
found-faithful written passes [] verb words x all h = cc
found-faithful written passes (form ∷ forms) verb words x all h =
    form_or_later written passes form verb words x (form_of verb forms) (is_text verb form.verb) all.0 refl (λ k. found-faithful written passes forms verb words x all.1 k) h

pub formed-faithful : {X : Type 0} (written : X → List Text) (passes : X → Bool) (forms : List (Form X)) → AreFaithful written passes forms
    → (words : List Text) (x : X) → formed forms words ≡ Some x → IsOf written passes words x
formed-faithful written passes forms all words x h = grind (arith, found-faithful)

-- of one word
pub word-faithful : {X : Type 0} (written : X → Text) (forms : List (Form X)) → AreFaithful (λ x. written x ∷ []) (λ x. true) forms → (word : Text) (x : X)
    → formed forms (word ∷ []) ≡ Some x → written x ≡ word
word-faithful written forms all word x h = first (written x) (formed-faithful (λ x. written x ∷ []) (λ x. true) forms all (word ∷ []) x h).0 where
  first : (other : Text) → other ∷ [] ≡ word ∷ [] → other ≡ word
  first other same = cc

-- Forms of numbers -------------------------------------------------------------------------------

-- what these numbers make is written with them, and passes if they are below the bounds
abbrev pub IsOfNumbers : {X : Type 0} → (X → List Text) → (X → Bool) → Text → List ℕ → (List ℕ → X) → List ℕ → Type 0
IsOfNumbers written passes verb bounds made ns = (written (made ns) ≡ verb ∷ map decimal ns) × (passes (made ns) ≡ are_below bounds ns)

pub numbers-faithful : {X : Type 0} (written : X → List Text) (passes : X → Bool) (verb : Text) (bounds : List ℕ) (made : List ℕ → X)
    → OfEach bounds (IsOfNumbers written passes verb bounds made) → IsFaithful written passes (with_numbers verb bounds made)
numbers-faithful written passes verb bounds made each = record {
  read = λ words x h.
      let found = numbered_is bounds made words x h in
      let known = of_each bounds (IsOfNumbers written passes verb bounds made) each found.numbers (length-below bounds found.numbers found.below) in
      same_of written passes (verb ∷ words) (made found.numbers) x found.same (known.0 ∙ ap (λ (ws : List Text). verb ∷ ws) found.written, known.1 ∙ found.below);
}

-- Forms of words ---------------------------------------------------------------------------------

pub texts_are : (xs ys : List Text) → are_texts xs ys ≡ true → xs ≡ ys
texts_are (x ∷ xs) (y ∷ ys) h =
    let both = and_parts _ _ h in
    let one : x ≡ y = text_is x y both.0 in
    let more : xs ≡ ys = texts_are xs ys both.1 in
    cc
texts_are xs ys h = grind arith

pub words-faithful : {X : Type 0} (written : X → List Text) (passes : X → Bool) (verb : Text) (more : List Text) (made : X) → written made ≡ verb ∷ more → passes made ≡ true
    → IsFaithful written passes (with_words verb more made)
words-faithful written passes verb more made is good = record {
  read = λ words x h.
      let found = within_is (are_texts words more) made x h in
      same_of written passes (verb ∷ words) made x found.1 (is ∙ ap (λ (ws : List Text). verb ∷ ws) (sym (texts_are words more found.0)), good);
}

-- Commands and controls --------------------------------------------------------------------------

abbrev command_words : Command → List Text
command_words c = phrase_words (command_phrase c)

abbrev command_passes : Command → Bool
command_passes c = is_sayable (command_phrase c)

pub command_is : (words : List Text) (c : Command) → command_of words ≡ Some c → IsOf command_words command_passes words c
command_is = formed-faithful command_words command_passes command_forms (grind (arith, numbers-faithful))

abbrev control_words : Control → List Text
control_words c = phrase_words (control_phrase c)

abbrev control_passes : Version → Control → Bool
control_passes version c = knows_control version c && is_sayable (control_phrase c)

-- what version 1 knows is known
known : (version : Version) (c : Control) (test : Bool) → knows_control One c ≡ true → (knows_control version c && test) ≡ test
known version c test h = grind arith

left_control-faithful : (version : Version) → AreFaithful control_words (control_passes version) (map row_form (where_known version (row (codes "left") [] (λ ns. Control.Left))))
left_control-faithful version = grind (arith, numbers-faithful)

pub control_is : (version : Version) (words : List Text) (c : Control) → control_of version words ≡ Some c → IsOf control_words (control_passes version) words c
control_is version = formed-faithful control_words (control_passes version) (control_forms version) (
  numbers-faithful _ _ (codes "quantum") [] _ (refl, known version Control.Quantum true refl),
  (grind (arith, numbers-faithful, known, left_control-faithful)),
)

pub control_again : (version : Version) (words : List Text) (c : Control) → control_of version words ≡ Some c
    → (phrase_words (control_phrase c) ≡ words) × (knows_control version c ≡ true) × (is_sayable (control_phrase c) ≡ true)
control_again version words c h = search (arith, control_is, and_parts)
