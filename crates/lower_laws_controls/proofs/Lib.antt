-- Conditions and keys: Sorted, Keys. Tables: Tables, Applying, Written, Fills, Listing. Statements: Branches, Labels, Statements, Expanding.
-- Guards, and whole controls: Guards, Beginning, Control, Whole.
pub mod Holding
pub mod Branches
pub mod Joined
pub mod Labels
pub mod Statements
pub mod Order
pub mod Applying
pub mod Keys
pub mod Listing
pub mod Tables
pub mod Guards
pub mod Whole
pub mod Beginning
pub mod Control
pub mod Written
pub mod Fills
pub mod Expanding
pub mod Sorted
