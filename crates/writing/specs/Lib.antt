pub mod Room
pub mod Texts
pub mod Pages
