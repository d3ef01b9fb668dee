-- Read Shown first: how a state stands in a frame. Agrees says when they agree; Lowered and Tables have the forms of P4_16 that
-- the laws speak of; Laws states these.
pub mod Shown
pub mod Agrees
pub mod Lowered
pub mod Tables
pub mod Laws
