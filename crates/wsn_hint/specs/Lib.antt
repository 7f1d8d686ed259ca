-- When an input has a hint.
pub mod Accusations
pub mod Hints
pub mod Comments
pub mod SideHints
