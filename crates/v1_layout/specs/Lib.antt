-- Left says what is left to be laid out, while a layout is made.
pub mod Left
