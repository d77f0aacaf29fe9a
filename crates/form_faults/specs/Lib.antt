pub mod FormFaults
