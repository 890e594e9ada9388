-- The laws that the crates above cite.
pub mod Tests
pub mod FirstLaws
pub mod EveryLaws
pub mod ChainLaws
pub mod Parts
pub mod Loans
pub mod ClearLaws
