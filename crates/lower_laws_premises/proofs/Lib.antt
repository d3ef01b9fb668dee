-- Numbers and widths: Literals, Bits, Widths, Sources, Registers. Objects, marks and the layout: Objects, Marks, LayoutFits. Primitives: Counting,
-- Hashes, Standing, Fits. Actions: Parameters, ActionScope, Whole, Laws, Controls, Translation, Spelt. Sample meets what is asked.
pub mod Literals
pub mod Sources
pub mod Bits
pub mod Counting
pub mod LayoutFits
pub mod Objects
pub mod Rules
pub mod Hashes
pub mod Fits
pub mod Registers
pub mod Standing
pub mod Parameters
pub mod Widths
pub mod Whole
pub mod Marks
pub mod Laws
pub mod Sample
pub mod ActionScope
pub mod Controls
pub mod Translation
pub mod Spelt
