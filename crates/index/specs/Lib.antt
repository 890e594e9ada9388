-- What the contracts of the search by key are written with.
pub mod Indexed
