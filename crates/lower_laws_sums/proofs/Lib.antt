-- One field after another: Chain, Calls, Items, Telling. Verifying and Updating; the blocks: Blocks. From rules: Ruled. Programs and Sample: a
-- pair of programs that meets all that is asked of controls.
pub mod Items
pub mod Chain
pub mod Calls
pub mod Kept
pub mod Telling
pub mod Amid
pub mod Verifying
pub mod Updating
pub mod Blocks
pub mod Ruled
pub mod Programs
pub mod Sample
