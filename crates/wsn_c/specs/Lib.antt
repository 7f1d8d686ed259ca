pub mod Asking
pub mod Calls
pub mod Numbers
pub mod Recuts
pub mod Sides
