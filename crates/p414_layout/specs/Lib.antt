-- What instances are made of (Shapes), and how their fields lie side by side (Placed).
pub mod Placed
pub mod Shapes
