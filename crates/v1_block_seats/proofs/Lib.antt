mod Before
mod Numbering
mod Seating
