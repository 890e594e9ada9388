-- The laws that several proofs cite, and that a crate above may.
pub mod Lists
pub mod Widths
pub mod Innermost
pub mod OneType
pub mod Faults
pub mod Tidy
pub mod ShownKinds
pub mod Counts
pub mod Ranges
pub mod Part
pub mod ColumnLaws
pub mod Computing
