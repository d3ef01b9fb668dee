pub mod Table
pub mod Steps
pub mod Lookahead
pub mod Named
