mod ActionNames
mod FieldSets
mod Walking
