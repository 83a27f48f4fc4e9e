pub mod Matrix
pub mod Step
pub mod StepList
pub mod Count
pub mod Width
pub mod Witness
pub mod Turn
pub mod KnownSums
