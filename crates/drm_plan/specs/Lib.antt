pub mod Touches
pub mod Legs
pub mod Right
pub mod Plan
pub mod Truthful
pub mod AskLaws
