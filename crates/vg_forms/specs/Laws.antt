-- That terms are compared as values. The laws of an impl are proved here, since it can cite nothing in proofs/.
pub mod Equal
