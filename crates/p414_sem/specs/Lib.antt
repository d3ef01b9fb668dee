-- What a P4_14 program does with a packet. Read State first, then Meanings and Passes, which name what the rest defines:
--     Wholes            whole numbers, and what a field keeps of one
--     Slots             what names of instances and fields mean by number
--     State             the state of a packet
--     Packing           the bits of a header's fields
--     Expanded          what a program comes to when it is expanded
--     Calculations      field lists as bits, and calculations over them
--     Parsing           how a packet is parsed, and in which of four ways that ends
--     Operations        what each call of a primitive writes, moves, counts or asks for
--     Effects           what an action does under both rules
--     Conditions        the conditions of `if`
--     Signatures        what a control plane sees of the program
--     Controls          tables and controls
--     CalculatedFields  how calculated fields are verified and updated
--     Passes            ingress, a second parsing, egress, and what is preserved
--     Runs              what a list of packets leaves
--     Meanings          Parse14, Act14, ListBits14, Control14, Verify14 and Update14, the meanings by their names
--     Fitting           which states, settings, preserved sets and held values are those of a program
--     Stages            how much a program asks of what runs or translates it
pub mod Wholes
pub mod Slots
pub mod State
pub mod Packing
pub mod Expanded
pub mod Calculations
pub mod Parsing
pub mod Operations
pub mod Effects
pub mod Conditions
pub mod Signatures
pub mod Controls
pub mod CalculatedFields
pub mod Passes
pub mod Runs
pub mod Meanings
pub mod Fitting
pub mod Stages
