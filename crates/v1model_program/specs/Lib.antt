-- Laws: that what is made ready does what the program does. Ran: what a run answers.
pub mod Laws
pub mod Ran
