-- Read First first, which rule is the first that something among these uses breaks; then Found.
pub mod First
pub mod Found
pub mod Seen
pub mod internal
