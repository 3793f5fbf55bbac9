-- What only the contracts of the inner functions cite. Assumes nothing.
pub mod Reliabilities
