-- What the options of the matches are read as.
use Rattle.std.proofs.Common.{◌≡◌, ◌∙◌, ◌≤◌, ◌<◌, ◌+◌, ◌^◌, ℕ, zero, suc, Bool, true, false, not, if◌then◌else◌, ◌||◌, List, [], ◌∷◌, length, take, get_or, Option, Some, None, option_map, refl, sym, ap, subst, arith, codes}
use Rattle.std.proofs.{lemmas.Bool.true≢false, lemmas.Slice.Eq.bytes_eq-Decides}
use Rattle.std.specs.Prelude.{IfSome, MatchOption, is_some, is_err, IsSomeAnd, find, option_and_then, slice_get, unwrap_or, Result, Ok, Err}
use Rattle.std.specs.{List.list_any, Option.option_map_or, Str.bytes_eq}
use Rattle.std.specs.Str.Parse.{IsNumeral, ParsesBool, ParsesUnsigned, without_leading_plus}
use Rattle.clap.proofs.WalkLemmas.{first_value-rows}
use Rattle.clap.specs.{Matches.{ReadsOne, TriesOne, first_value}, Values.{IsUnsignedIn, read_as}}
use Rattle.clap.specs.{Walk.{Row, Text, one_of, row_text, rows_of}, declared.parser.matches.Found.Found}
use Rattle.mh_orders.specs.{Profiles.{NamesProfile, profile_name}, declared.profile.Profile.Profile}
use Rattle.mh_orders.specs.declared.profile.Profile.TheVariants.{Churn, Lists, Trees, Wide, Large, Fragments, Refusals, Barriers, Comb, Fans, Race, Cycles, Mixed}
use Rattle.mh_orders.specs.declared.profile.UnknownProfile.{UnknownProfile}
use Rattle.mh_command_line.specs.{Rates.{ReadsRates, rates_in}, Shares.{ReadsShare, asked_share}}
use Rattle.mh_command_line.specs.Values.{IsNumber, names_one, number_in_digits, profiles}
use Rattle.mh_command_line.specs.{declared.rates.AskedRates.AskedRates, declared.rates.NotRates.NotRates}
use Rattle.mh_command_line.specs.{declared.share.AskedShare.AskedShare, declared.share.NotShare.NotShare}

other_bytes : (a b : Text) → (a ≡ b → ⊥) → bytes_eq a b ≡ false
other_bytes a b other = go (bytes_eq a b) refl where
  go : (is : Bool) → bytes_eq a b ≡ is → is ≡ false
  go true e = absurd (other ((bytes_eq-Decides a b).0 e))
  go false e = refl

-- a flag's text is read
pub flag-read : (E : Type 0) (found : Option Text) (got : Option Bool) → (found ≡ None → got ≡ None) → ((t : Text) → found ≡ Some t → ReadsOne {E = E} ParsesBool t got) → unwrap_or got false ≡ option_map_or (λ text. bytes_eq text (codes "true")) found false
flag-read E None got none some = ap (λ got. unwrap_or got false) (none refl)
flag-read E (Some text) None none some = sym (other_bytes text (codes "true") (some text refl).1.0)
flag-read E (Some text) (Some true) none some = sym (ap (λ t. bytes_eq t (codes "true")) (some text refl))
flag-read E (Some text) (Some false) none some = sym (ap (λ t. bytes_eq t (codes "true")) (some text refl))

-- Numbers ----------------------------------------------------------------------------------------

-- a number that fits is read
module _ {E : Type 0} (k : ℕ) (gives : Text → Result ℕ E → Type 0) (parses : (text : Text) (r : Result ℕ E) → gives text r → ParsesUnsigned k 10 text r) where
  number-read : (text : Text) (got : Option ℕ) → IsNumeral 10 (without_leading_plus text) → number_in_digits text < 2 ^ k → ReadsOne gives text got → got ≡ Some (number_in_digits text)
  number-read text None numeral fits reads = absurd (parses text (Err reads.0) reads.1 (numeral, fits))
  number-read text (Some n) numeral fits reads = ap Some (parses text (Ok n) reads).1

  pub optional-read : (least most : ℕ) (found : Option Text) (got : Option ℕ) → most < 2 ^ k → IfSome found (IsUnsignedIn least most) → (found ≡ None → got ≡ None) → ((t : Text) → found ≡ Some t → ReadsOne gives t got) → got ≡ option_map number_in_digits found
  optional-read least most None got below given none some = none refl
  optional-read least most (Some text) got below given none some = number-read text got given.0 (omega (arith, given.3, below)) (some text refl)

-- and so is one that is given
pub has-number : (least most other n : ℕ) (found : Option Text) → IsSomeAnd found (IsUnsignedIn least most) → n ≡ unwrap_or (option_map number_in_digits found) other → IsSomeAnd found (λ text. IsNumber text × (number_in_digits text ≡ n))
has-number least most other n None given is = absurd given
has-number least most other n (Some text) given is = (given.0, sym is)

pub if_given : (P : Text → Type 0) (found : Option Text) → IsSomeAnd found P → IfSome found P
if_given P None is = absurd is
if_given P (Some text) is = is

pub is-within : (least most : ℕ) (found : Option Text) → IfSome found (IsUnsignedIn least most) → IfSome (option_map number_in_digits found) (λ n. (least ≤ n) × (n ≤ most))
is-within least most None given = tt
is-within least most (Some text) given = (given.2, given.3)

-- Texts ------------------------------------------------------------------------------------------

some-none : {A : Type 0} {x : A} → Some x ≡ None → ⊥
some-none e = cc

abbrev first_text : Option Row → Option Text
first_text row = option_and_then (λ r. slice_get r.values 0) row

none-given : (row : Option Row) → first_text row ≡ None → option_and_then row_text row ≡ None
none-given None e = refl
none-given (Some row) e = ap (option_map (read_as row.reading)) e

some-given : (row : Option Row) (text : Text) → first_text row ≡ Some text → (t : Text) × (option_and_then row_text row ≡ Some t)
some-given None text e = absurd (some-none (sym e))
some-given (Some row) text e = (read_as row.reading text, ap (option_map (read_as row.reading)) e)

-- an option that is read as nothing is not given
pub not_given : (f : Found) (name : Text) → first_value f name ≡ None → one_of name (rows_of f) ≡ None
not_given f name e = none-given (find (λ r. bytes_eq r.id name) (rows_of f)) (sym (first_value-rows f name) ∙ e)

pub is_given : (f : Found) (name text : Text) → first_value f name ≡ Some text → (t : Text) × (one_of name (rows_of f) ≡ Some t)
is_given f name text e = some-given (find (λ r. bytes_eq r.id name) (rows_of f)) text (sym (first_value-rows f name) ∙ e)

-- whether an option is given is whether it is read as something
pub is_some-given : (f : Found) (name : Text) → is_some (first_value f name) ≡ is_some (one_of name (rows_of f))
is_some-given f name = go (first_value f name) refl where
  go : (read : Option Text) → first_value f name ≡ read → is_some read ≡ is_some (one_of name (rows_of f))
  go None e = sym (ap is_some (not_given f name e))
  go (Some text) e = sym (ap is_some (is_given f name text e).1)

pub is_some-mapped : {A B : Type 0} (f : A → B) (o : Option A) → is_some (option_map f o) ≡ is_some o
is_some-mapped f None = refl
is_some-mapped f (Some x) = refl

-- what the text of an option is read as, if it can be read
module _ {A E : Type 0} (reads : Text → Result A E → Type 0) where
  pub text-read : (P : Text → A → Type 0) (found : Option Text) (asked : A) → ((t : Text) → reads t (Ok asked) → P t asked) → (found ≡ None → Some asked ≡ None) → ((t : Text) → found ≡ Some t → ReadsOne reads t (Some asked)) → IsSomeAnd found (λ text. P text asked)
  text-read P None asked is none read = absurd (some-none (none refl))
  text-read P (Some text) asked is none read = is text (read text refl)

  -- a test says whether it can
  module _ (can : Text → Bool) (oks : (t : Text) (a : A) → reads t (Ok a) → can t ≡ true) (errs : (t : Text) (e : E) → reads t (Err e) → can t ≡ false) where
    pub text-lacking : (found : Option Text) (got : Result (Option A) E) → (found ≡ None → got ≡ Ok None) → ((t : Text) → found ≡ Some t → TriesOne reads t got) → is_err got ≡ option_map_or (λ text. not (can text)) found false
    text-lacking None got none some = ap is_err (none refl)
    text-lacking (Some text) (Ok None) none some = absurd (some text refl)
    text-lacking (Some text) (Ok (Some asked)) none some = ap not (sym (oks text asked (some text refl)))
    text-lacking (Some text) (Err fault) none some = ap not (sym (errs text fault (some text refl)))

    -- one that is read as nothing isn't given, if its text can be read
    pub no-text : (found : Option Text) → ((t : Text) → found ≡ Some t → ReadsOne reads t None) → option_map_or (λ text. not (can text)) found false ≡ false → found ≡ None
    no-text None some has = refl
    no-text (Some text) some has = let r = some text refl in absurd (true≢false (ap not (sym (errs text r.0 r.1)) ∙ has))

pub share-can : (t : Text) (asked : AskedShare) → ReadsShare t (Ok asked) → is_some (asked_share t) ≡ true
share-can t asked is = ap is_some is

pub share-cannot : (t : Text) (fault : NotShare) → ReadsShare t (Err fault) → is_some (asked_share t) ≡ false
share-cannot t fault is = ap is_some is

pub rates-can : (t : Text) (asked : AskedRates) → ReadsRates t (Ok asked) → is_some (rates_in t) ≡ true
rates-can t asked is = ap is_some is

pub rates-cannot : (t : Text) (fault : NotRates) → ReadsRates t (Err fault) → is_some (rates_in t) ≡ false
rates-cannot t fault is = ap is_some is

pub profile-can : (t : Text) (profile : Profile) → NamesProfile t (Ok profile) → names_one t ≡ true
profile-can t profile is = ap names_one is ∙ named profile where
  named : (profile : Profile) → names_one (profile_name profile) ≡ true
  named Churn = refl
  named Lists = refl
  named Trees = refl
  named Wide = refl
  named Large = refl
  named Fragments = refl
  named Refusals = refl
  named Barriers = refl
  named Comb = refl
  named Fans = refl
  named Race = refl
  named Cycles = refl
  named Mixed = refl

pub profile-read : (found : Option Text) (profile : Profile) → (found ≡ None → Some profile ≡ None) → ((t : Text) → found ≡ Some t → ReadsOne NamesProfile t (Some profile)) → MatchOption found (profile ≡ Mixed) (λ text. text ≡ profile_name profile)
profile-read None profile none reads = absurd (some-none (none refl))
profile-read (Some text) profile none reads = reads text refl

pub profile-mixed : (found : Option Text) → found ≡ None → MatchOption found (Mixed ≡ Mixed) (λ text. text ≡ profile_name Mixed)
profile-mixed None none = refl
profile-mixed (Some text) none = absurd (some-none none)

pub profile-cannot : (t : Text) (fault : UnknownProfile) → NamesProfile t (Err fault) → names_one t ≡ false
profile-cannot t fault other = none profiles where
  none : (among : List Profile) → list_any (λ profile. bytes_eq t (profile_name profile)) among ≡ false
  none [] = refl
  none (profile ∷ among) = ap (λ b. b || list_any (λ profile. bytes_eq t (profile_name profile)) among) (other_bytes t (profile_name profile) (other profile)) ∙ none among

-- Rules ------------------------------------------------------------------------------------------

module _ {X : Type 0} (f : X → Bool) where
  find-suc : (xs : List X) (i : ℕ) (d : X) → i < length xs → find f (take i xs) ≡ None → f (get_or xs i d) ≡ false → find f (take (suc i) xs) ≡ None
  find-suc [] i d below none misses = absurd (omega (arith, below))
  find-suc (x ∷ xs) zero d below none misses = rw misses refl
  find-suc (x ∷ xs) (suc i) d below none misses = go (f x) none (find-suc xs i d (omega (arith, below))) where
    go : (b : Bool) → (if b then Some x else find f (take i xs)) ≡ None → (find f (take i xs) ≡ None → f (get_or xs i d) ≡ false → find f (take (suc i) xs) ≡ None) → (if b then Some x else find f (take (suc i) xs)) ≡ None
    go true none more = absurd (some-none none)
    go false none more = more none misses

  pub find_next : (xs : List X) (i : ℕ) (d : X) → i < length xs → find f (take i xs) ≡ None → f (get_or xs i d) ≡ false → find f (take (i + 1) xs) ≡ None
  find_next xs i d below none misses =
      let e : suc i ≡ i + 1 = omega arith in
      subst (λ n. find f (take n xs) ≡ None) e (find-suc xs i d below none misses)

  pub find_stop : (xs : List X) (i : ℕ) (d : X) → i < length xs → find f (take i xs) ≡ None → f (get_or xs i d) ≡ true → find f xs ≡ Some (get_or xs i d)
  find_stop [] i d below none hits = absurd (omega (arith, below))
  find_stop (x ∷ xs) zero d below none hits = rw hits refl
  find_stop (x ∷ xs) (suc i) d below none hits = go (f x) none (find_stop xs i d (omega (arith, below))) where
    go : (b : Bool) → (if b then Some x else find f (take i xs)) ≡ None → (find f (take i xs) ≡ None → f (get_or xs i d) ≡ true → find f xs ≡ Some (get_or xs i d)) → (if b then Some x else find f xs) ≡ Some (get_or xs i d)
    go true none more = absurd (some-none none)
    go false none more = more none hits
