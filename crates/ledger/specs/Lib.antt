-- The log, the rows worked out from it, and what is stated of them.
pub mod Log
pub mod WorkedOut
pub mod Statement
pub mod Example
