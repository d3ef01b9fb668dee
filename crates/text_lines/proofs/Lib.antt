mod LineLaws
mod WordLaws
mod DigitLaws
