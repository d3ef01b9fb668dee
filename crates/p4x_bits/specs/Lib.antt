-- Read BitLists first: what a bit list and its number are. Then Lending: what becomes of a list that is lent for
-- writing.
pub mod BitLists
pub mod Lending
