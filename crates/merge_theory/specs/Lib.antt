-- The merge walk and the rule that it decides: all that a reader must believe. The theorems are in proofs/Theorems.antt.
-- What stands in quotation marks in these files is in the words of the check's description.
--     Lists         membership, and the list functions below
--     Document      an abstract document, and what is assumed of it
--     Expand        expanding, as a relation and by the queue
--     Groups        groups and subgroups
--     Steps         what a walk is made of: where it stands, charges, what is done with a conflict
--     Walk          the two passes, known lists, charges; the listing
--     Named         which pair is named
--     Rule          the specification's pairwise rule (October 2021, 5.3.2)
--     RuleBy        the same rule over relations in place of tests
--     TrueConflict  two fields truly conflict
--     Links         kind 7: the links of a chain
--     Units         what the units pay for
--     Engine        what an engine must show
--     Specimens     specimens, computed
pub mod Lists
pub mod Document
pub mod Expand
pub mod Groups
pub mod Steps
pub mod Walk
pub mod Named
pub mod Rule
pub mod RuleBy
pub mod TrueConflict
pub mod Links
pub mod Units
pub mod Engine
pub mod Specimens
pub mod Reordered
