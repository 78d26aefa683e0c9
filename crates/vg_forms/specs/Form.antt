-- Terms that many places share, with what is told of them without a walk.
use Rattle.std.specs.Prelude.{◌≡◌, ℕ, ◌-◌, ◌^◌, min}
use Rattle.vg_terms.specs.Term.{Tree, WellFormed, node_count}
use Rattle.vg_forms.specs.Digest.{digest}

-- a term is well-formed, has so many nodes, as far as they can be told, and this digest
pub record IsForm (t : Tree) (size number : ℕ) : Type 0 where
  pub formed : WellFormed t
  pub counts : size ≡ min (node_count t) (2 ^ 64 - 1)
  pub digests : number ≡ digest t
