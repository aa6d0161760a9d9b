-- What the contracts on printing cite.
pub mod Printed
