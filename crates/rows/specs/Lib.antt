pub mod Row
pub mod Fault
pub mod Tally
pub mod Block
pub mod Wide
