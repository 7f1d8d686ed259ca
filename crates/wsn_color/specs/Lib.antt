-- Definitions of the codes that colour a text, of a text in colours, and of what a painter has written.
pub mod Codes
pub mod Choices
pub mod Tones
pub mod PaintedText
pub mod Painting
