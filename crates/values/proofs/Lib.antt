-- The laws that several proofs cite, and that a crate above may.
pub mod SameCases
pub mod ListLaws
pub mod SetLaws
pub mod ValueLaws
pub mod ShapeCases
pub mod ShapeLaws
pub mod ShapeMeaning
pub mod FieldLaws
pub mod SameMeaning
