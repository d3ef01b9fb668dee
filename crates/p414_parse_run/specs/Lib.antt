-- Read Fits first: which rows a layout keeps. Then Shown: how what is kept while rows run is seen.
pub mod Fits
pub mod Shown
