pub mod EventLemmas
pub mod FigureLemmas
pub mod LetterLemmas
pub mod LineLemmas
