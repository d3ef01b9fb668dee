-- Erring says where evaluating raises an error, Controls what is asked of the statements of a control that have none within them, and
-- Laws has the laws of controls. Strict says at which places values are asked for, Plain which scopes have such kinds alone as types
-- name, Testing what is asked of scopes in which tables are applied, Tables what is asked of a table and of what fills it, and TableLaws
-- has the laws of tables.
pub mod Erring
pub mod Controls
pub mod Laws
pub mod Strict
pub mod Plain
pub mod Testing
pub mod Tables
pub mod TableLaws
