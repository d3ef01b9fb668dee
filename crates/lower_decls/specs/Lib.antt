-- Lowered: what the lowering of types answers. Table: what the rows of instances mean. Tops: the declarations, by what tables
-- say of them. Using: which header types have headers.
pub mod Lowered
pub mod Table
pub mod Tops
pub mod Using
