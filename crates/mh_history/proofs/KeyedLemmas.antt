-- Words between keys.
use Rattle.std.proofs.Common.{◌≡◌, ℕ, zero, suc, ◌+◌, ◌<◌, Bool, true, false, if◌then◌else◌, Option, Some, None, option_map, option_and_then, List, [], ◌∷◌, ◌++◌, length, get_or, drop, refl, ap, sym, ◌∙◌, append_assoc, arith}
use Rattle.std.proofs.lemmas.List.{map-append}
use Rattle.std.specs.Borrow.{Bor}
use Rattle.mh_model.specs.{Bytes.{Text, is_text}, Replies.{values, stat_of}}
use Rattle.mh_text.specs.Names.{names_shown}
use Rattle.mh_history.proofs.PartLemmas.{shown_next}

pub values_empty : (keys : List Text) → values keys [] ≡ None
values_empty [] = refl
values_empty (key ∷ keys) = refl

-- values were found up to a key, of which the last is still to be kept
pub record Valued (all : Option (List Text)) (keys : List (Bor (List ℕ))) (i : ℕ) (found : List (Bor (List ℕ))) (value : Text) (words : List Text) : Type 0 where
  pub reads : option_map (λ more. names_shown found ++ more) (values (names_shown (drop i keys)) (value ∷ words)) ≡ all
  pub count : length found ≡ i

kept_by : (is : Bool) (found : List Text) (value : Text) (rest : Option (List Text)) → is ≡ true
    → option_map (λ more. found ++ more) (if is then option_map (λ more. value ∷ more) rest else None) ≡ option_map (λ more. (found ++ value ∷ []) ++ more) rest
kept_by true found value None same = refl
kept_by true found value (Some more) same = ap Some (sym (append_assoc found (value ∷ []) more))
kept_by false found value rest same = cc

-- the values so far, before a key and what follows it
valued_key : (all : Option (List Text)) (keys : List (Bor (List ℕ))) (i : ℕ) (found : List (Bor (List ℕ))) (value : Text) (key : Text) (missing : Bor (List ℕ)) (line : List Text) → Valued all keys i found value line → i < length keys
    → key ≡ (get_or keys i missing).now → option_map (λ more. names_shown found ++ more) (values (key ∷ names_shown (drop (i + 1) keys)) (value ∷ line)) ≡ all
valued_key all keys i found value key missing line done below at = ap (λ (ks : List Text). option_map (λ more. names_shown found ++ more) (values ks (value ∷ line))) (sym (shown_next keys i key missing below at)) ∙ done.reads

shown_more : (found : List (Bor (List ℕ))) (value : Bor (List ℕ)) → names_shown (found ++ value ∷ []) ≡ names_shown found ++ value.now ∷ []
shown_more found value = map-append (λ (seen : Bor (List ℕ)). seen.now) found (value ∷ [])

none_kept : (all : Option (List Text)) (found : List Text) (rest : Option (List Text)) → option_map (λ more. found ++ more) rest ≡ all → rest ≡ None → all ≡ None
none_kept all found rest same none = sym same ∙ rw none refl

one_value : (keys : List Text) (value : Text) → 0 < length keys → values keys (value ∷ []) ≡ None
one_value [] value some = absurd (omega arith)
one_value (key ∷ keys) value some = refl

more_keys : (keys : List (Bor (List ℕ))) (i : ℕ) → i < length keys → 0 < length (names_shown (drop i keys))
more_keys [] i below = absurd (omega arith)
more_keys (key ∷ keys) zero below = omega arith
more_keys (key ∷ keys) (suc i) below = more_keys keys i (omega arith)

pub valued_ends : (all : Option (List Text)) (keys : List (Bor (List ℕ))) (i : ℕ) (found : List (Bor (List ℕ))) (value : Text) (line : List Text) → Valued all keys i found value line → i < length keys → line ≡ [] → all ≡ None
valued_ends all keys i found value line done below none = grind (arith, none_kept, one_value, more_keys)

key_wrong : (keys : List Text) (value key word : Text) (words : List Text) → is_text word key ≡ false → values (key ∷ keys) (value ∷ word ∷ words) ≡ None
key_wrong keys value key word words is = rw is refl

pub valued_wrong : (all : Option (List Text)) (keys : List (Bor (List ℕ))) (i : ℕ) (found : List (Bor (List ℕ))) (value : Text) (key : Text) (missing : Bor (List ℕ)) (line rest : List Text) (word : Text) → Valued all keys i found value line → i < length keys
    → key ≡ (get_or keys i missing).now → line ≡ word ∷ rest → is_text word key ≡ false → all ≡ None
valued_wrong all keys i found value key missing line rest word done below at is other =
    none_kept all (names_shown found) (values (key ∷ names_shown (drop (i + 1) keys)) (value ∷ line)) (valued_key all keys i found value key missing line done below at)
    (rw is (key_wrong (names_shown (drop (i + 1) keys)) value key word rest other))

key_last : (keys : List Text) (value key word : Text) → is_text word key ≡ true → values (key ∷ keys) (value ∷ word ∷ []) ≡ None
key_last keys value key word is = rw (is, values_empty keys) refl

pub valued_short : (all : Option (List Text)) (keys : List (Bor (List ℕ))) (i : ℕ) (found : List (Bor (List ℕ))) (value : Text) (key : Text) (missing : Bor (List ℕ)) (line rest : List Text) (word : Text) → Valued all keys i found value line → i < length keys
    → key ≡ (get_or keys i missing).now → line ≡ word ∷ rest → is_text word key ≡ true → rest ≡ [] → all ≡ None
valued_short all keys i found value key missing line rest word done below at is same none =
    none_kept all (names_shown found) (values (key ∷ names_shown (drop (i + 1) keys)) (value ∷ line)) (valued_key all keys i found value key missing line done below at)
    (rw (is, none) (key_last (names_shown (drop (i + 1) keys)) value key word same))

-- Five values ------------------------------------------------------------------------------------

five_shown : (items : List (Bor (List ℕ))) (none : Bor (List ℕ)) → length items ≡ 5
    → names_shown items ≡ (get_or items 0 none).now ∷ (get_or items 1 none).now ∷ (get_or items 2 none).now ∷ (get_or items 3 none).now ∷ (get_or items 4 none).now ∷ []
five_shown [] none five = absurd (omega arith)
five_shown (a ∷ []) none five = absurd (omega arith)
five_shown (a ∷ b ∷ []) none five = absurd (omega arith)
five_shown (a ∷ b ∷ c ∷ []) none five = absurd (omega arith)
five_shown (a ∷ b ∷ c ∷ d ∷ []) none five = absurd (omega arith)
five_shown (a ∷ b ∷ c ∷ d ∷ e ∷ []) none five = refl
five_shown (a ∷ b ∷ c ∷ d ∷ e ∷ f ∷ items) none five = absurd (omega arith)

pub stat_five : (found : Option (List Text)) (items : List (Bor (List ℕ))) (none : Bor (List ℕ)) → found ≡ Some (names_shown items) → length items ≡ 5
    → option_and_then stat_of found ≡ stat_of ((get_or items 0 none).now ∷ (get_or items 1 none).now ∷ (get_or items 2 none).now ∷ (get_or items 3 none).now ∷ (get_or items 4 none).now ∷ [])
stat_five found items none is five = rw (is, five_shown items none five) refl
