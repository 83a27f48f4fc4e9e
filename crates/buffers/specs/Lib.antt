pub mod Buffer
pub mod Fault
pub mod Shows
