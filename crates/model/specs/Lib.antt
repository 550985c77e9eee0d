pub mod Limits
pub mod Faults
pub mod Names
pub mod Tables
pub mod Lawful
