pub mod CodeLemmas
pub mod PaintingLemmas
pub mod TextLemmas
pub mod PaintedTexts
