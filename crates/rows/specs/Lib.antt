-- What the contracts cite.
pub mod Rows
pub mod Selections
pub mod Values
pub mod SelectionPass
pub mod RowFault
pub mod Meaning
pub mod Specimens
