-- Expressions: Places, Sound, Calls, Sources. Statements: Parts, Externs. Declarations: Types, Tables, Controls. The whole:
-- Program. What names and types mean, and what T12 counts: Found, Names, Layouts, Groups. What is spelt: Spelt, SpeltParts. Lists and
-- Trees are for all rules together; Sample meets all premises.
pub mod Lists
pub mod Trees
pub mod Found
pub mod Places
pub mod Sound
pub mod Calls
pub mod Parts
pub mod Sources
pub mod Externs
pub mod Types
pub mod Tables
pub mod Names
pub mod Controls
pub mod Program
pub mod Layouts
pub mod Spelt
pub mod SpeltParts
pub mod Groups
pub mod Sample
pub mod TermsSound
pub mod Stepping
pub mod Acts
pub mod Bodies
pub mod BodySample
pub mod SpeltActs
pub mod SpeltBodies
