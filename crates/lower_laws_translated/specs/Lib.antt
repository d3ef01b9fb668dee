-- Of the whole program that is written. All that is defined here is this project's own; each file names the sections of
-- both standards that it is about. Read Translated first, the whole program that is written; Given says what a
-- translation is given, Owed what the rules ask of its pipelines, Laws what is proved.
pub mod Given
pub mod Translated
pub mod Laws
pub mod Owed
