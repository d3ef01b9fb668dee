-- Preserving: the lists that calls preserve, by the calls. Marking: their marks. FieldMarks: the marks of each field, in a
-- table by instance and field.
pub mod Preserving
pub mod Marking
pub mod FieldMarks
