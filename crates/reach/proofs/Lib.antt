-- The laws that the proofs cite, and that a crate above may.
pub mod WalkLaws
pub mod Marks
pub mod ReachMeaning
pub mod Theorems
pub mod WorklistLaws
