-- The theorems of the merge walk and their proofs. Theorems says all that is proved; the rest is how, in this order.
--     Engines       k, m: the check decides; engines that decide agree, and order does not matter
--     Witnesses     what the theorems assume can be had
--     ListLaws      ExpandLaws  QueueLaws  GroupLaws  LinkLaws: laws of the definitions of those names
--     Levels        the fields one level below a part
--     Outcome       what holds of a walk's result, carried through its steps
--     Passes        what the theorems ask of a pass
--     Carried       one induction over the walk, for all that is shown of its steps
--     Found         what is done with a conflict
--     Stopping      where a walk stops at a conflict; Conflict: T1
--     Height        a number that falls from level to level
--     Gone          a pass that is gone through has compared everything; Clean: what that means; Complete: T2
--     KindLaws      15 and 16: no conflict in shape
--     Entries       B1, B4; ListingLaws: B2, B3, B5
--     Sizes         T3, B6: the budget and the room; NoRoom: the check is the listing with no room
--     Units         the units pay for the known lists; Charges: exactly what they pay for
--     Distinct      the rule over two different fields at a time
--     RuleMeaning   the rule over tests is the rule over what they decide
--     Order         the rule does not depend on order; OrderLinks: nor do links and reach
--     Equivalences  comparisons, for whoever shows that a document is sound
--     Loops         laws for code that goes up a list
pub mod Theorems
pub mod Engines
pub mod Witnesses
pub mod ListLaws
pub mod ExpandLaws
pub mod QueueLaws
pub mod GroupLaws
pub mod LinkLaws
pub mod Levels
pub mod Outcome
pub mod Passes
pub mod Carried
pub mod Found
pub mod Stopping
pub mod Conflict
pub mod Height
pub mod Gone
pub mod Clean
pub mod Complete
pub mod KindLaws
pub mod Entries
pub mod Sizes
pub mod NoRoom
pub mod ListingLaws
pub mod Units
pub mod Charges
pub mod Distinct
pub mod RuleMeaning
pub mod Order
pub mod OrderLinks
pub mod Equivalences
pub mod Loops
