pub mod Answers
pub mod Exact
pub mod Sizes
pub mod Faults
pub mod Single
pub mod Pair
