-- Pieces of constants over the nodes of a pool.
use Rattle.std.specs.Prelude.{◌≡◌, List}
use Rattle.vg_pool.specs.declared.content.Content.{Content}
use Rattle.vg_terms.specs.Term.{constant}
use Rattle.vg_lift.specs.Gather.{bits_from}
use Rattle.vg_lift.specs.Views.{BitsFit, bits_of}
use Rattle.vg_lift.specs.declared.constant.Piece.{Piece}

-- the bits of a piece are those of the constant that it tells
pub record IsPiece (pool : List Content) (p : Piece) : Type 0 where
  pub is : bits_of pool p.bits ≡ bits_from (constant p.count p.value) 0 p.count
  pub fit : BitsFit pool p.bits
