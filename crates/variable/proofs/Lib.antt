-- The laws that the proofs cite, and that a crate above may.
pub mod FoundLaws
pub mod TypeLaws
pub mod TypeMeaning
pub mod NameLaws
pub mod UseLaws
pub mod TallyLaws
pub mod VerdictLaws
pub mod Covers
pub mod UseMeaning
pub mod PassMeaning
pub mod VerdictMeaning
pub mod Specimens
pub mod Theorems
