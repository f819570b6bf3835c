pub mod Answers
pub mod Banded
pub mod Cold
pub mod Halving
pub mod Lengths
pub mod Many
pub mod Worked
