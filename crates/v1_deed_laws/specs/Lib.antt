-- Read Forms first: values of one form, and what is emitted. Laws says what deeds do by themselves, Externs what each extern does.
pub mod Forms
pub mod Laws
pub mod Externs
