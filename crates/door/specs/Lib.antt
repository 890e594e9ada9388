-- What the contracts of the door cite.
pub mod Spelling
pub mod Door
