-- Definitions of what is shown of streams and captures, in reading order.
pub mod Views
pub mod AsciiText
pub mod Members
pub mod ShownText
pub mod CharacterText
pub mod ShownObjects
pub mod PeopleText
pub mod EntryFormats
pub mod ShownItems
pub mod QuotedTexts
pub mod DifferingText
pub mod DifferenceText
