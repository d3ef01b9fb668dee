-- RenamedSorts: the new names of what is declared, as they are handed on. FieldNames: those of the fields of instances.
-- Picked: names that are picked out of declarations, each once.
pub mod RenamedSorts
pub mod FieldNames
pub mod Picked
