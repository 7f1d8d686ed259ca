-- for callers
pub mod Listing
pub mod EventsAt
pub mod Payloads
-- for private functions
pub mod Following
