-- Types and scopes: Tops, Layouts, Zeros, Types, Scopes, Sequential, Checksums, Clear, Frames. Blocks: States, Source, Parser, Order, Deparser,
-- Controls, Blocks, Fit. The whole: Standing, Stores, Carries. Samples: Sample, SampleActions, SampleBlocks.
pub mod Tops
pub mod Layouts
pub mod Zeros
pub mod Types
pub mod Scopes
pub mod Clear
pub mod Parser
pub mod Standing
pub mod Order
pub mod States
pub mod Deparser
pub mod Stores
pub mod Source
pub mod Carries
pub mod Sample
pub mod Controls
pub mod Sequential
pub mod Checksums
pub mod Frames
pub mod Blocks
pub mod Fit
pub mod SampleActions
pub mod SampleBlocks
