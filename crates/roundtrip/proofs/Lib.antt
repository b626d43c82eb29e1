-- Listing and assembling undo each other. Demand2 has the theorem.
pub mod WrittenTokens
pub mod WrittenNames
pub mod WrittenNumbers
pub mod ListedLine
pub mod ListedText
pub mod RoundTrip
pub mod Demand2
