-- The laws of the crate.
--     RegionLaws    where the regions of the words begin
--     ParentsLaws   the parents' loops
--     PlaceLaws     searches for a place of a list
--     LinkLaws      links between the places of a list
--     ClassLaws     classes of rows, by name and by name and parent
--     PrepareLaws   parents and classes, written one after the other
--     FollowLaws    a link leads where a search would end
--     StandLaws     a list that stands in the words, with its links
--     PartLaws      the places of groups and subgroups are those of the merge theory
--     RefineLaws    steps of the code put together
--     MeetLaws      merged sets expanded and met
--     CompareLaws   a field against those of a segment
--     QueueingLaws  the sets of a part are queued
--     BelowLaws     the sets below a part
--     PartMeets     one part compared, and its sets met
--     PassLaws      a pass over the parts of a list
--     LoopLaws      the loop of a pass, its turns and its ends
--     ShapeLaws     the loop of the shape pass
--     ParentLaws    the loop of the parent pass
--     StepLaws      the loop of either
--     OperationLaws the check of an operation
--     ValidateLaws  its reply is the merge theory's
pub mod RegionLaws
pub mod ParentsLaws
pub mod PlaceLaws
pub mod LinkLaws
pub mod ClassLaws
pub mod PrepareLaws
pub mod FollowLaws
pub mod StandLaws
pub mod PartLaws
pub mod RefineLaws
pub mod MeetLaws
pub mod CompareLaws
pub mod QueueingLaws
pub mod BelowLaws
pub mod PartMeets
pub mod PassLaws
pub mod LoopLaws
pub mod ShapeLaws
pub mod ParentLaws
pub mod StepLaws
pub mod OperationLaws
pub mod ValidateLaws
