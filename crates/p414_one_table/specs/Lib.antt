-- Form     the program of the one-table form that a syntax is, if it is one
-- Programs which names and numbers such a program may have
pub mod Form
pub mod Programs
