pub mod FileFaults
pub mod FormFaults
