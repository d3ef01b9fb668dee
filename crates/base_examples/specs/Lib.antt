-- Of the small grammar read Syntax first: the items, and the tokens that they are written with. Items is their grammar, as the
-- parser reads it. Of the two small runners Steps has what both do with an item, by its first octet, Machines the two machines,
-- and Same when their states correspond.
pub mod Syntax
pub mod Items
pub mod Steps
pub mod Machines
pub mod Same
