-- What the contracts of `perform_request` cite.
pub mod HardwareAlone
