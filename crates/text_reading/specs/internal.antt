-- What only proofs and the functions below a reader name: nothing here needs to be believed.
pub mod Machine
