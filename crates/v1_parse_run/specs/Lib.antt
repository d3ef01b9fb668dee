-- Read Made: what a parser is made of. Then Working: when its machine works on a packet, and which moment that is. What it does is
-- said in v1_ready_states.
pub mod Made
pub mod Working
