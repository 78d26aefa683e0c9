-- Equal contents are one value, and a hash is given the same by them. The laws of an impl are
-- proved here, since it can cite nothing in proofs/.
pub mod Equal
