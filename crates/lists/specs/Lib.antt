-- What the contracts of this and of every other crate are written with.
pub mod First
pub mod Every
pub mod Part
