-- The theorems about the reply, and the laws that they and the proofs of the check cite. Theorems says all that is proved of the reply; the
-- rest is how, in this order.
--     Theorems       the visitor's page: the three promises of docs/STATEMENTS.md, with one-line proofs
--     SpecimensHold  specimens, by computation; SpecimenRows: those of the crates below break no row rule
--     Cases          every reply has a cause; Once: a cause determines the reply
--     Answers        what each cause says of the reply and of the image
--     Covering       the budget covers the walk
--     Meanings       the merge rule with the specification's own comparisons, and of each set
--     Soundness      an image is a sound document at each operation
--     ShownKinds     the kinds that the rules can show
--     Sizes          OneOperation  EachOperation  Lending  Judges: laws that the code's proofs cite
pub mod Theorems
pub mod SpecimensHold
pub mod SpecimenRows
pub mod Cases
pub mod Once
pub mod Answers
pub mod Covering
pub mod Meanings
pub mod Soundness
pub mod ShownKinds
pub mod Sizes
pub mod OneOperation
pub mod EachOperation
pub mod Lending
pub mod Judges
