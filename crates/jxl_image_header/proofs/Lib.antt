pub mod GroupLaws
pub mod HeaderLaws
pub mod Refusals
pub mod SummedLoop
