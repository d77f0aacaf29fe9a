-- What the contracts settle, and that an answer tells the whole reply.
pub mod Settled
pub mod PointSettled
pub mod ListSettled
pub mod RouteSettled
pub mod MissionSettled
pub mod UnpackSettled
pub mod MendSettled
pub mod MissionAgreed
pub mod Whole
