-- Loops that may not run: which are listed, and that whichever are skipped each dependence that they are foreign to is
-- still cut; cases of the definitions.
pub mod Some
pub mod Foreign
pub mod Listed
pub mod Members
pub mod Reached
pub mod SkippingCases
-- for the code: loops as bits, passed one after the other; the barriers of a range that they cover
pub mod Apart
pub mod Passing
pub mod Covering
-- what one dependence has listed
pub mod Stretches
pub mod Listing
pub mod Gathering
-- the call
pub mod Missing
