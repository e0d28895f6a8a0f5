-- Laws that the runs share.
pub mod ByModulus
pub mod Beginning
pub mod Ran
