-- What the contracts cite.
pub mod Layout
pub mod Image
pub mod Header
pub mod Tidy
pub mod Columns
pub mod Keys
pub mod Numbering
pub mod Good
pub mod TypeOf
pub mod Lookup
