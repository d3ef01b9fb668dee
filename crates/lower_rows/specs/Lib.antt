-- Named: which instances, fields and objects rows are. Calculations: which calculation a row is.
pub mod Named
pub mod Calculations
