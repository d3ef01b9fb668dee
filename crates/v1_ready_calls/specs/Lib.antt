-- Assigned says which of an assignment ask for tables alone. All else that the contracts cite stands below.
pub mod internal
pub mod Assigned
