pub mod Inputs
pub mod Options
pub mod Requests
pub mod Colors
pub mod ErrorWords
pub mod RunHints
pub mod ReadRequests
