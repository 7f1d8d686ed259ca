pub mod CharacterPieces
pub mod HeldViews
pub mod VisibleTexts
pub mod TextFronts
pub mod Entries
pub mod PeopleTexts
pub mod PlacedItems
pub mod DifferingParts
