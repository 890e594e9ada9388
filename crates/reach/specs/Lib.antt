-- What the contracts of this crate are written with, and what they mean.
pub mod Turns
pub mod Reach
pub mod Marks
pub mod Worklists
