-- What the options in the matches of `clap` say, and which rules of the table they break.
use Rattle.std.specs.Prelude.{◌≡◌, ◌⊎◌, ◌<◌, ◌≤◌, ◌==◌, ◌&&◌, not, if◌then◌else◌, ℕ, Bool, false, List, [], ◌∷◌, Option, Result, Ok, Err, codes, is_some, option_map, unwrap_or, IsSomeAnd}
use Rattle.std.specs.{List.list_any, Option.option_map_or, Str.bytes_eq}
use Rattle.std.specs.Str.Parse.{IsNumeral, digits_value, without_leading_plus}
use Rattle.clap.specs.Words.{Row, Text, one_of}
use Rattle.mh_model.specs.declared.config.Rules.{Rules, TheVariants.{First, Second}}
use Rattle.mh_orders.specs.{Profiles.profile_name, declared.profile.Profile.Profile}
use Rattle.mh_orders.specs.declared.profile.Profile.TheVariants.{Churn, Lists, Trees, Wide, Large, Fragments, Refusals, Barriers, Comb, Fans, Race, Cycles, Mixed}
use Rattle.mh_command_line.specs.{Rates.rates_in, Shares.asked_share, Table.OptionRule}
use Rattle.mh_command_line.specs.{declared.options.NotNumber.NotNumber, declared.options.OptionNumber.OptionNumber}
use Rattle.mh_command_line.specs.{declared.table.Kind.Kind, declared.table.Rule.Rule}

-- Numbers ----------------------------------------------------------------------------------------

-- the number that a text of digits is, after a plus if it has one
abbrev pub number_in_digits : Text → ℕ
number_in_digits text = digits_value 10 (without_leading_plus text)

-- the number of an option that may be left out, if the matches say
abbrev pub optional_number : Text → List Row → Option ℕ
optional_number name rows = option_map number_in_digits (one_of name rows)

-- the number of an option, which is this other one if the matches don't say
abbrev pub number_or : ℕ → Text → List Row → ℕ
number_or other name rows = unwrap_or (optional_number name rows) other

-- how many workers the matches ask for, which is 1 if they don't say
abbrev pub workers_of : List Row → ℕ
workers_of rows = number_or 1 (codes "workers") rows

-- the rules with a number: the first with 1
abbrev pub rules_numbered : ℕ → Rules
rules_numbered number = if number == 1 then First else Second

-- the rules that the matches ask for, if they say
abbrev pub rules_given : List Row → Option Rules
rules_given rows = option_map rules_numbered (optional_number (codes "rules") rows)

-- and these others if they don't
abbrev pub rules_chosen : Rules → List Row → Rules
rules_chosen other rows = unwrap_or (rules_given rows) other

-- the text is digits, after a plus if it has one
abbrev pub IsNumber : Text → Type 0
IsNumber text = IsNumeral 10 (without_leading_plus text)

-- the option is given with this number
abbrev pub HasNumber : List Row → Text → ℕ → Type 0
HasNumber rows name n = IsSomeAnd (one_of name rows) (λ text. IsNumber text × (number_in_digits text ≡ n))

-- the option is given with a text that is no number
abbrev pub LacksNumber : List Row → Text → Type 0
LacksNumber rows name = IsSomeAnd (one_of name rows) (λ text. ¬ (IsNumber text))

-- the name is that of an option of a configuration
abbrev pub IsConfigOption : Text → Type 0
IsConfigOption name = (name ≡ codes "pages") ⊎ (name ≡ codes "quantum") ⊎ (name ≡ codes "trigger") ⊎ (name ≡ codes "every")

-- a number as 32 bits hold it: itself, or the largest if it is larger
abbrev pub IsHeld : ℕ → ℕ → Type 0
IsHeld n held = ((n ≤ 4294967295) × (held ≡ n)) ⊎ ((4294967295 < n) × (held ≡ 4294967295))

-- what a text is read as, if it is a number
abbrev pub ReadsNumber : Text → Result OptionNumber NotNumber → Type 0
ReadsNumber text (Ok number) = IsNumber text × IsHeld (number_in_digits text) number.value
ReadsNumber text (Err fault) = ¬ (IsNumber text)

-- Rules ------------------------------------------------------------------------------------------

-- the flag is given
abbrev pub is_flagged : Text → List Row → Bool
is_flagged name rows = option_map_or (λ text. bytes_eq text (codes "true")) (one_of name rows) false

-- the option of this kind is given
abbrev pub is_given : Kind → Text → List Row → Bool
is_given Kind.Flag name rows = is_flagged name rows
is_given Kind.Text name rows = is_some (one_of name rows)
is_given (Kind.Number least most) name rows = is_some (one_of name rows)
is_given (Kind.Needed least most) name rows = is_some (one_of name rows)

-- an option has a text that can't be read so
abbrev pub lacks : (Text → Bool) → Text → List Row → Bool
lacks can_be_read name rows = option_map_or (λ text. not (can_be_read text)) (one_of name rows) false

-- one that is no share, one without rates, and one that names no profile
abbrev pub lacks_share : Text → List Row → Bool
lacks_share name rows = lacks (λ text. is_some (asked_share text)) name rows

abbrev pub lacks_rates : Text → List Row → Bool
lacks_rates name rows = lacks (λ text. is_some (rates_in text)) name rows

abbrev pub profiles : List Profile
profiles = Churn ∷ Lists ∷ Trees ∷ Wide ∷ Large ∷ Fragments ∷ Refusals ∷ Barriers ∷ Comb ∷ Fans ∷ Race ∷ Cycles ∷ Mixed ∷ []

abbrev pub names_one : Text → Bool
names_one text = list_any (λ profile. bytes_eq text (profile_name profile)) profiles

abbrev pub lacks_profile : Text → List Row → Bool
lacks_profile name rows = lacks names_one name rows

-- the options break the rule
abbrev pub breaks : List Row → OptionRule → Bool
breaks rows (Rule.Wants, kind, name, other_kind, other, third) = is_given kind name rows && not (is_given other_kind other rows)
breaks rows (Rule.WantsWith, kind, name, other_kind, other, third) = (is_given kind name rows && not (is_given other_kind other rows)) && is_given other_kind third rows
breaks rows (Rule.WantsUnless, kind, name, other_kind, other, third) = (is_given kind name rows && not (is_given other_kind other rows)) && not (is_given other_kind third rows)
breaks rows (Rule.Beside, kind, name, other_kind, other, third) = is_given kind name rows && is_given other_kind other rows
breaks rows (Rule.BesideWith, kind, name, other_kind, other, third) = (is_given kind name rows && is_given other_kind other rows) && is_given other_kind third rows
breaks rows (Rule.Share, kind, name, other_kind, other, third) = lacks_share name rows
breaks rows (Rule.Rates, kind, name, other_kind, other, third) = lacks_rates name rows
breaks rows (Rule.Profile, kind, name, other_kind, other, third) = lacks_profile name rows
