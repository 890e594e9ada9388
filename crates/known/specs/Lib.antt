-- What the contracts cite.
pub mod KnownLists
