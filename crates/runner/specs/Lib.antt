pub mod Given
pub mod Head
pub mod Running
pub mod Extern
pub mod Shown
pub mod Endings
pub mod Lent
