-- Of ingress and egress: conditions, tables, statements. All that is defined here is this project's own; each file
-- names the sections of both standards that it is about. Conditions, Controls, Keys, Guards and Written say what is
-- written for conditions, statements, keys, guards and whole tables. Alike says what statements ask of tables, Tables
-- and Listing what makes two tables alike, Blocks how a block begins and ends, Expanding what is asked of the controls
-- of a program, Whole what is asked of a control as it is written. Laws: what is proved.
pub mod Conditions
pub mod Controls
pub mod Alike
pub mod Tables
pub mod Keys
pub mod Guards
pub mod Blocks
pub mod Listing
pub mod Written
pub mod Expanding
pub mod Whole
pub mod Laws
