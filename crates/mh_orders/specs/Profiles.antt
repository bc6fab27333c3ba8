-- Profiles, by their names.
use Rattle.std.specs.Prelude.{◌≡◌, ◌≢◌, Result, Ok, Err, codes}
use Rattle.mh_model.specs.Bytes.{Text}
use Rattle.mh_orders.specs.declared.profile.Profile.{Profile}
use Rattle.mh_orders.specs.declared.profile.Profile.TheVariants.{Churn, Lists, Trees, Wide, Large, Fragments, Refusals, Barriers, Comb, Fans, Race, Cycles, Mixed}
use Rattle.mh_orders.specs.declared.profile.UnknownProfile.{UnknownProfile}

-- the name of a profile
abbrev pub profile_name : Profile → Text
profile_name Churn = codes "churn"
profile_name Lists = codes "lists"
profile_name Trees = codes "trees"
profile_name Wide = codes "wide"
profile_name Large = codes "large"
profile_name Fragments = codes "frag"
profile_name Refusals = codes "refusals"
profile_name Barriers = codes "barriers"
profile_name Comb = codes "comb"
profile_name Fans = codes "fans"
profile_name Race = codes "race"
profile_name Cycles = codes "cycles"
profile_name Mixed = codes "mixed"

-- what a text is read as, if it names a profile
abbrev pub NamesProfile : Text → Result Profile UnknownProfile → Type 0
NamesProfile text (Ok profile) = text ≡ profile_name profile
NamesProfile text (Err unknown) = (profile : Profile) → text ≢ profile_name profile
