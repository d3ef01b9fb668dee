pub mod Splitting
pub mod Walks
pub mod ListLaws
pub mod Stating
