-- The laws behind the search by key.
pub mod SearchLaws
pub mod IndexLaws
pub mod FewPlaces
pub mod FirstsLaws
