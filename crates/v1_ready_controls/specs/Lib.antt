-- Program says what the parts of a program are that its controls are made ready from.
pub mod internal
pub mod Program
