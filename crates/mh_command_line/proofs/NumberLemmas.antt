-- The numbers of the options, as they are read and held.
use Rattle.std.proofs.Common.{◌≡◌, ◌∙◌, ◌≤◌, ◌<◌, ℕ, Bool, true, false, List, [], ◌∷◌, Option, Some, None, refl, sym, ap, inl, inr, arith, codes}
use Rattle.std.proofs.lemmas.Bool.{ltb-true, leb-false, leb-true, le-leb, lt-ltb}
use Rattle.std.specs.{Prelude.{IsSomeAnd, nat_le}, Char.{digit_value, is_digit}, List.list_all, Str.Parse.AllDigits}
use Rattle.clap.proofs.WalkLemmas.{both}
use Rattle.clap.specs.{Matches.ReadsOne, Walk.{Row, Text, one_of}}
use Rattle.mh_model.specs.{Configs.{configured_by, configured_under}, Limits.{is_configuration, least_quantum}}
use Rattle.mh_model.specs.{declared.config.Config.Config, declared.config.Rules.Rules}
use Rattle.mh_command_line.specs.Auxiliary.{HoldsNumber, IsBlamed}
use Rattle.mh_command_line.specs.Values.{IsHeld, IsNumber, ReadsNumber, number_in_digits}
use Rattle.mh_command_line.specs.Orders.{AreOutside, HasNumbers, IsOutsideBy, MakesConfig, ConfigNumbers, config_under}
use Rattle.mh_command_line.specs.declared.options.OptionNumber.{OptionNumber}
use Rattle.mh_orders.specs.declared.order.ConfigOption.{ConfigOption, TheVariants.{Pages, Quantum, Trigger, Every}}

-- Digits -----------------------------------------------------------------------------------------

pub digits-from : (ds : List ℕ) → list_all (λ d. is_digit d 10) ds ≡ true → AllDigits 10 ds
digits-from [] e = tt
digits-from (d ∷ ds) e =
    let parts = both _ _ e in
    (ltb-true _ _ parts.0, digits-from ds parts.1)

pub digits-back : (ds : List ℕ) → AllDigits 10 ds → list_all (λ d. is_digit d 10) ds ≡ true
digits-back [] h = refl
digits-back (d ∷ ds) h = rw (lt-ltb (digit_value d) 10 h.0) (digits-back ds h.1)

some-none : {A : Type 0} {x : A} → Some x ≡ None → ⊥
some-none e = cc

-- What the option of the matches is read as ----------------------------------------------------------

pub number-held : (found : Option Text) (number : OptionNumber) → (found ≡ None → Some number ≡ None) → ((t : Text) → found ≡ Some t → ReadsOne ReadsNumber t (Some number)) → IsSomeAnd found (λ text. IsNumber text × IsHeld (number_in_digits text) number.value)
number-held None number none reads = absurd (some-none (none refl))
number-held (Some text) number none reads = reads text refl

pub number-lacking : (found : Option Text) (text : Text) → found ≡ Some text → ((t : Text) → found ≡ Some t → ReadsOne ReadsNumber t None) → IsSomeAnd found (λ text. IsNumber text → ⊥)
number-lacking None text there reads = absurd (some-none (sym there))
number-lacking (Some other) text there reads = (reads other refl).1

-- Held numbers make what the numbers make -------------------------------------------------------------

abbrev IsWithin : ℕ → ℕ → ℕ → ℕ → Type 0
IsWithin p q t e = (p ≤ 4096) × (q ≤ 1000000) × (t ≤ p) × (e ≤ 1000000)

within : (p q t e : ℕ) → is_configuration p q t e ≡ true → IsWithin p q t e
within p q t e w =
    let a = both _ _ w in
    let b = both _ _ a.1 in
    let c = both _ _ b.1 in
    let d = both _ _ c.1 in
    let f = both _ _ d.1 in
    (leb-true _ _ b.0, leb-true _ _ d.0, leb-true _ _ f.0, leb-true _ _ f.1)

none_by : (rules : Rules) (p q t e : ℕ) (b : Bool) (is : is_configuration p q t e ≡ b) → (b ≡ true → ⊥) → configured_by rules p q t e b is ≡ None
none_by rules p q t e true is never = absurd (never refl)
none_by rules p q t e false is never = refl

none_outside : (rules : Rules) (p q t e : ℕ) → (IsWithin p q t e → ⊥) → configured_under rules p q t e ≡ None
none_outside rules p q t e never = none_by rules p q t e (is_configuration p q t e) refl (λ w. never (within p q t e w))

same_config : (rules : Rules) (p q t e p' q' t' e' : ℕ) → IsHeld p p' → IsHeld q q' → IsHeld t t' → IsHeld e e' → configured_under rules p q t e ≡ configured_under rules p' q' t' e'
same_config rules p q t e p' q' t' e' (inr a) b c d = none_outside rules p q t e (λ (w : IsWithin p q t e). omega arith) ∙ sym (none_outside rules p' q' t' e' (λ (w : IsWithin p' q' t' e'). omega arith))
same_config rules p q t e p' q' t' e' (inl a) (inr b) c d = none_outside rules p q t e (λ (w : IsWithin p q t e). omega arith) ∙ sym (none_outside rules p' q' t' e' (λ (w : IsWithin p' q' t' e'). omega arith))
same_config rules p q t e p' q' t' e' (inl a) (inl b) (inr c) d = none_outside rules p q t e (λ (w : IsWithin p q t e). omega arith) ∙ sym (none_outside rules p' q' t' e' (λ (w : IsWithin p' q' t' e'). omega arith))
same_config rules p q t e p' q' t' e' (inl a) (inl b) (inl c) (inr d) = none_outside rules p q t e (λ (w : IsWithin p q t e). omega arith) ∙ sym (none_outside rules p' q' t' e' (λ (w : IsWithin p' q' t' e'). omega arith))
same_config rules p q t e p' q' t' e' (inl a) (inl b) (inl c) (inl d) =
    ap (λ n. configured_under rules n q t e) (sym a.1) ∙ ap (λ n. configured_under rules p' n t e) (sym b.1)
    ∙ ap (λ n. configured_under rules p' q' n e) (sym c.1) ∙ ap (λ n. configured_under rules p' q' t' n) (sym d.1)

-- the number that is held
record IsExact (found : Option Text) (held : ℕ) : Type 0 where
  number : ℕ
  given : IsSomeAnd found (λ text. IsNumber text × (number_in_digits text ≡ number))
  is_held : IsHeld number held

exact : (found : Option Text) (held : ℕ) → IsSomeAnd found (λ text. IsNumber text × IsHeld (number_in_digits text) held) → IsExact found held
exact None held h = absurd h
exact (Some text) held h = record { number = number_in_digits text; given = (h.0, refl); is_held = h.1 }

-- the numbers that are held as these
record AreHeld (rows : List Row) (p q t e : ℕ) : Type 0 where
  numbers : ConfigNumbers
  has : HasNumbers rows numbers
  pages : IsHeld numbers.pages p
  quantum : IsHeld numbers.quantum q
  trigger : IsHeld numbers.trigger t
  every : IsHeld numbers.every e

held : (rows : List Row) (p q t e : ℕ) → HoldsNumber rows (codes "pages") p → HoldsNumber rows (codes "quantum") q → HoldsNumber rows (codes "trigger") t → HoldsNumber rows (codes "every") e → AreHeld rows p q t e
held rows p q t e hp hq ht he =
    let a = exact (one_of (codes "pages") rows) p hp in
    let b = exact (one_of (codes "quantum") rows) q hq in
    let c = exact (one_of (codes "trigger") rows) t ht in
    let d = exact (one_of (codes "every") rows) e he in
    record {
      numbers = record { pages = a.number; quantum = b.number; trigger = c.number; every = d.number };
      has = record { pages = a.given; quantum = b.given; trigger = c.given; every = d.given };
      pages = a.is_held;
      quantum = b.is_held;
      trigger = c.is_held;
      every = d.is_held;
    }

same_under : (rules : Rules) (rows : List Row) (p q t e : ℕ) (are : AreHeld rows p q t e) → config_under rules are.numbers ≡ configured_under rules p q t e
same_under rules rows p q t e are = same_config rules _ _ _ _ p q t e are.pages are.quantum are.trigger are.every

pub makes : (rules : Rules) (rows : List Row) (p q t e : ℕ) (config : Config) → HoldsNumber rows (codes "pages") p → HoldsNumber rows (codes "quantum") q → HoldsNumber rows (codes "trigger") t → HoldsNumber rows (codes "every") e
    → configured_under rules p q t e ≡ Some config → MakesConfig rules rows config
makes rules rows p q t e config hp hq ht he is =
    let are = held rows p q t e hp hq ht he in
    record { numbers = are.numbers; has = are.has; makes = same_under rules rows p q t e are ∙ is }

-- The option that is blamed ------------------------------------------------------------------------

-- the trigger, if these are no configuration and all else is within its limits
trigger_outside : (p q t e : ℕ) → (is_configuration p q t e ≡ true → ⊥) → 1 ≤ p → p ≤ 4096 → least_quantum ≤ q → q ≤ 1000000 → e ≤ 1000000 → p < t
trigger_outside p q t e never a b c d f = go (nat_le t p) refl where
  go : (x : Bool) → nat_le t p ≡ x → p < t
  go true is = absurd (never (rw (le-leb 1 p a, le-leb p 4096 b, le-leb least_quantum q c, le-leb q 1000000 d, is, le-leb e 1000000 f) refl))
  go false is = leb-false t p is

beyond : (option : ConfigOption) (n : ConfigNumbers) (p' q' t' e' : ℕ) → IsHeld n.pages p' → IsHeld n.quantum q' → IsHeld n.trigger t' → IsHeld n.every e' → (is_configuration p' q' t' e' ≡ true → ⊥) → IsBlamed p' q' e' option → IsOutsideBy option n
beyond Pages n p' q' t' e' (inl a) b c d never (inl low) = inl (omega (arith, a.1, low))
beyond Pages n p' q' t' e' (inl a) b c d never (inr high) = inr (omega (arith, a.1, high))
beyond Pages n p' q' t' e' (inr a) b c d never is = inr (omega (arith, a.0))
beyond Quantum n p' q' t' e' a (inl b) c d never (inl low) = inl (omega (arith, b.1, low))
beyond Quantum n p' q' t' e' a (inl b) c d never (inr high) = inr (omega (arith, b.1, high))
beyond Quantum n p' q' t' e' a (inr b) c d never is = inr (omega (arith, b.0))
beyond Every n p' q' t' e' a b c (inl d) never is = omega (arith, d.1, is)
beyond Every n p' q' t' e' a b c (inr d) never is = omega (arith, d.0)
beyond Trigger n p' q' t' e' (inr a) b c d never is = absurd (omega (arith, a.1, is.1))
beyond Trigger n p' q' t' e' (inl a) b c d never is = go c (trigger_outside p' q' t' e' never is.0 is.1 is.2 is.3 is.4) where
  go : IsHeld n.trigger t' → p' < t' → n.pages < n.trigger
  go (inl c) above = omega (arith, a.1, c.1, above)
  go (inr c) above = omega (arith, a.1, is.1, c.0)

pub lies_outside : (rows : List Row) (p q t e : ℕ) (option : ConfigOption) → HoldsNumber rows (codes "pages") p → HoldsNumber rows (codes "quantum") q → HoldsNumber rows (codes "trigger") t → HoldsNumber rows (codes "every") e
    → (is_configuration p q t e ≡ true → ⊥) → IsBlamed p q e option → AreOutside rows option
lies_outside rows p q t e option hp hq ht he never is =
    let are = held rows p q t e hp hq ht he in
    record {
      numbers = are.numbers;
      has = are.has;
      none = λ rules. same_under rules rows p q t e are ∙ none_by rules p q t e (is_configuration p q t e) refl never;
      outside = beyond option are.numbers p q t e are.pages are.quantum are.trigger are.every never is;
    }
