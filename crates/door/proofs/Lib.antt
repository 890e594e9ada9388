-- The laws that the proofs of the door cite.
pub mod DoorLaws
