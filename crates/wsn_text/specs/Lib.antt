-- Definitions of UTF-8, of the state of a validator, and of the body of a Close.
pub mod Utf8
pub mod CloseBody
pub mod Validated
pub mod Expected
