-- Showing: how rows are shown. Same: what is written by tables is what the definitions say. Used: which header types have
-- headers. Lowering: the parts of what is answered. Egress: the tables that egress applies are those that its statements apply. Accepted: programs that break no rule.
pub mod Showing
pub mod Same
pub mod Used
pub mod Lowering
pub mod Egress
pub mod Accepted
