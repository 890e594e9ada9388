-- How an image is a document, and what expanding promises. ImageDocument is to be believed; Expanding is the contract, ExpandSteps the loops', Worklists that of each step.
pub mod ImageDocument
pub mod Expanding
pub mod ExpandSteps
pub mod Worklists
