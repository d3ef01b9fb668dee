-- Of the program that is put together. All that is defined here is this project's own; each file names the sections of
-- both standards that it is about. Program is what is put together; TypesFit what the types give; Fits what all parts
-- give, and what a program carries. Scopes, Controls and Frames: what blocks see. Laws: what is proved.
pub mod Program
pub mod TypesFit
pub mod Scopes
pub mod Fits
pub mod Controls
pub mod Frames
pub mod Laws
