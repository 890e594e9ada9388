-- What the contract of the check cites.
pub mod Needed
pub mod Reply
pub mod Stages
pub mod Refusing
pub mod Given
pub mod Right
pub mod Specimens
pub mod Operation
pub mod Judging
pub mod Outcome
pub mod Faults
