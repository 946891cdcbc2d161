pub mod CallText
pub mod CredentialsText
pub mod Gives
pub mod JournalText
pub mod Laws
pub mod Ranges
pub mod Reading
pub mod RuleNames
