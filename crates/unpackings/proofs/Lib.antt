-- A form's network keeps the ranges; a form is framed.
pub mod Kept
pub mod Framing
-- Bytes give back slots, records rows, and so one network.
pub mod Cutting
pub mod Rows
pub mod OneNetwork
-- One network has one form.
pub mod OneForm
-- What the contract of unpacking settles.
pub mod Settled
-- There and back.
pub mod Placing
pub mod Trip
-- Cases.
pub mod Cases
