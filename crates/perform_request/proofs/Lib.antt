-- What belongs to no one function of `perform_request`.
mod ArmLaws
