-- Read Seen first: which names and seats those of code are. The definitions of ready expressions are those of v1_ready_forms.
pub mod Seen
pub mod internal
