-- Read Alike first: what fills tables. Then Parts: which parts of a block tables ask for. Then Applying: what parts of an application
-- come to.
pub mod Alike
pub mod Parts
pub mod Applying
