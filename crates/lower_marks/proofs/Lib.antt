-- Listing: which lists calls preserve. Marking: marks of lists. Tables: tables that grow, and in which a row is changed. Holding:
-- the marks of a field are those of the lists that hold it.
pub mod Listing
pub mod Marking
pub mod Tables
pub mod Holding
