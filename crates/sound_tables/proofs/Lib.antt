-- What belongs to no one function of `sound_tables`.
pub mod JudgeLaws
