pub mod Forms
pub mod Judging
