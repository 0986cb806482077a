pub mod BitLists
pub mod Blocks
pub mod FieldLaws
pub mod HeldBits
pub mod WriteLaws
