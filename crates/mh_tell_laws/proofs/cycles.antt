pub mod Balances
pub mod CountLemmas
pub mod CycleLemmas
pub mod EventLemmas
pub mod UnitLemmas
