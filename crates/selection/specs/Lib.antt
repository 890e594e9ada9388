-- What the contracts cite.
pub mod Regions
pub mod Passes
pub mod Parents
pub mod Places
pub mod Classes
pub mod Linking
pub mod Classing
pub mod Standing
pub mod Grouping
pub mod Following
pub mod Refining
pub mod Comparing
pub mod Validating
