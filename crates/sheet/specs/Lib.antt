pub mod Faults
pub mod Tokens
pub mod Heads
pub mod Forms
pub mod Sheets
pub mod Printed
pub mod Exact
