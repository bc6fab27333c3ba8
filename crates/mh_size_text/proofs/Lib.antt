pub mod SizingLemmas
