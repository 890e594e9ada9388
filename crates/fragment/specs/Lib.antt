-- What the contracts of kinds 5 to 9 cite.
pub mod Chains
pub mod Heights
pub mod Rounds
pub mod Order
pub mod Rise
pub mod Rules
pub mod Walks
pub mod Meaning
pub mod Specimens
