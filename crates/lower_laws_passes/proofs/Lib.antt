-- What is preserved: Standards, Fresh, Preserving, Preserved14, KeptAlike, Held. The passes: Begins, Cloned, Guard, Ingress, Egress, Passes. Any list
-- of packets: Carries.
pub mod Standards
pub mod Fresh
pub mod Preserving
pub mod Preserved14
pub mod KeptAlike
pub mod Guard
pub mod Held
pub mod Begins
pub mod Cloned
pub mod Ingress
pub mod Egress
pub mod Passes
pub mod Carries
