-- Proofs that the calls keep the pages of the requests, and what each page excludes.
pub mod Papers
pub mod Sittings
pub mod SittingsKept
pub mod FirstKeys
pub mod Blocking
pub mod Tries
pub mod TextbookKept
pub mod BarredTexts
pub mod BarredKept
pub mod BarredCases
pub mod TextbookCases
pub mod FirstCases
pub mod SittingCases
