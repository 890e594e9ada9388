-- The laws of known lists: how they are found, what stays, and one list more.
pub mod KnownLaws
