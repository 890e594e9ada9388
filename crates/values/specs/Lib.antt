-- What the contracts and the laws cite.
pub mod Same
pub mod Identical
pub mod Shape
pub mod ResponseShape
pub mod Fields
pub mod Equivalence
pub mod Specimens
