pub mod PayloadFaults
pub mod Finding
