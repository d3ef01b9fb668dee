-- Read Asked first: what is asked of a value. Operands has the widths of operands that the rules on types allow, Kinds which
-- values are of a kind, Rules the expressions that keep the rules, Widths the widths of the slots of a layout, and Laws the laws.
pub mod Asked
pub mod Operands
pub mod Kinds
pub mod Rules
pub mod Widths
pub mod Laws
