mod AskedLemmas
mod NumberLemmas
mod OptionLemmas
mod OrderLemmas
mod ReadingLemmas
mod SoundLemmas
mod TableLemmas
mod WordLemmas
