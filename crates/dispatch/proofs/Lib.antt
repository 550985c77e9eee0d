pub mod Choice
pub mod Rows
pub mod Wants
pub mod Tables
pub mod Walk
pub mod Idle
pub mod Keeping
