mod FirstReads
mod Prefixes
pub mod PutTexts
pub mod Received
