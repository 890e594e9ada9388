-- What the contracts of this crate are written with, and what they mean.
pub mod Types
pub mod Definitions
pub mod Uses
pub mod Names
pub mod Tallies
pub mod Verdict
pub mod Rules
