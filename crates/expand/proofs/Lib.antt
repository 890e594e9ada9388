-- The laws of expanding.
--     OnceLaws      lists without repetition, and the pigeonhole
--     DocumentLaws  rows of a good image as the document has them
--     QueueRows     what the queue holds: each set once
--     ExpandedLaws  what a caller takes from the contracts
--     StepLaws      a row done, by its kind, and rows in order
--     ExpandWalk    the loop over the queue
--     WorklistLaws  what stays the same step by step
pub mod OnceLaws
pub mod DocumentLaws
pub mod QueueRows
pub mod ExpandedLaws
pub mod StepLaws
pub mod ExpandWalk
pub mod WorklistLaws
