pub mod Filling
pub mod Arithmetic
pub mod Inverse
pub mod ClauseLaws
pub mod Places
pub mod Heads
pub mod Starts
pub mod Ready
pub mod ArgumentLaws
pub mod ExternLaws
pub mod ExternLeaves
pub mod Statements
pub mod Fields
pub mod FormLaws
pub mod AfterLaws
pub mod RunLaws
pub mod AcceptedLaws
mod Part
