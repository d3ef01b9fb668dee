-- Of the new names, and of the declarations that stand at the top. All that is defined here is this project's own; each
-- file names the sections of both standards that it is about. Read Made first: which names of P4_14 stay, and what the
-- others become. Words: the words that no new name is. NewNames: the new names of a program. Reaches: what stands in
-- reach of what. NameLaws: what is proved of them. Then Instances: how the instances are shown. Types: the declarations
-- of types. Objects: those of objects. Marks: the preserved lists. Copies: the copies of actions. Declared: what the
-- declarations say in a text. DeclarationLaws: what is proved of these.
pub mod Words
pub mod Made
pub mod NewNames
pub mod Reaches
pub mod NameLaws
pub mod Instances
pub mod Marks
pub mod Types
pub mod Objects
pub mod Declared
pub mod Copies
pub mod DeclarationLaws
