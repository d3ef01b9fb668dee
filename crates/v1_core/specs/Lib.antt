-- What a P4_16 program does with a packet, on v1model. Read Values and Frames first, then Expressions, Statements, and
-- Passes, which names what the rest defines:
--     Values        values, their parts, and what they start as
--     Numbers       operators on values
--     Frames        the frame of a packet, what a block works on, l-values, requests
--     Signatures    what a control plane sees of the program
--     Surroundings  what stands around the statements of a block
--     Expressions   the values of expressions, and what l-values mean
--     HeaderCalls   what the calls of headers and stacks do
--     Externs       what each extern does
--     Calls         calls as statements: arguments, copied in and out
--     Statements    what statements do, and the count of work
--     Tables        keys, the entry that is hit, and the action that runs
--     Blocks        the blocks that are controls
--     Parsing       how a packet is parsed, and which error ends that
--     Passes        ingress, a second parsing, egress, and what is preserved
--     Runs          a list of packets
--     Slots         the parts of a frame by number
--     Numbered      what stands at a number, read and written, and who is in scope
--     Fitting       which frames are those of a program
--     Reentry       whether a program asks for further passes
--     Meanings      the meanings of a program by their names
-- Which parts frames have (Layouts), what stands in them (Cells), and how that is kept (internal).
-- What packed frames mean: where the parts of a value stand (Seats), the values that parts make up (Values), that parts are
-- where a layout has them (Laid), the parts and the values of a program's frames (Programs), and
-- which variables may be in scope together (Scopes). Frames says what a packed frame of a program is.
-- What a ready expression is and gives: single values (Scalars), expressions whose names are slots, headers and stacks, with
-- their values over a packed frame (Ready), the nodes that they are kept in (Nodes, Kept), and what results of code say (Results).
pub mod Values
pub mod Numbers
pub mod Frames
pub mod Signatures
pub mod Surroundings
pub mod Expressions
pub mod HeaderCalls
pub mod Externs
pub mod Calls
pub mod Statements
pub mod Tables
pub mod Blocks
pub mod Parsing
pub mod Passes
pub mod Runs
pub mod Slots
pub mod Numbered
pub mod Fitting
pub mod Reentry
pub mod Meanings
pub mod Layouts
pub mod Cells
pub mod internal
pub mod Seats
pub mod PackedValues
pub mod Laid
pub mod Programs
pub mod Scopes
pub mod PackedFrames
pub mod Scalars
pub mod Ready
pub mod Nodes
pub mod Kept
pub mod Results
