mod Heads
mod Values
mod Lexing
mod Lines
mod Back
mod Behind
pub mod Forth
mod Reading
mod Lengths
mod Writing
