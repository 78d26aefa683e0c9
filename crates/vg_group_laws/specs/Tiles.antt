-- Aligned store groups: what they are, by the stores of a kernel.
use Rattle.std.specs.Prelude.{◌≡◌, ◌+◌, ◌*◌, ◌<◌, ℕ, List, length, Some, slice_get}
use Rattle.vg_base.specs.declared.address.Address.{Address}
use Rattle.vg_base.specs.declared.width.Width.{Width}
use Rattle.vg_base.specs.Width.{size_of}
use Rattle.vg_kernel_plans.specs.Groups.{ahead}
use Rattle.vg_shapes.specs.declared.ssa.Ssa.{Ssa}
use Rattle.vg_shapes.specs.declared.ssa_unit.SsaUnit.TheVariants.{Store}
use Rattle.vg_shapes.specs.declared.wanted.Wanted.{Wanted}
use Rattle.vg_shapes.specs.Pack.{behind, stores_before}
use Rattle.vg_shapes.specs.Units.{unit_at}

-- a store of a width to a place, of this rank: so many of its width to that place stand before it
pub record IsStoreOf (ssa : Ssa) (a : Address) (w : Width) (rank v : ℕ) : Type 0 where
  pub value : Wanted
  pub store : unit_at ssa v ≡ Some (Store a w value)
  pub before : stores_before ssa a w v ≡ rank

abbrev pub IsStored : Ssa → Width → ℕ → Address → Type 0
IsStored ssa w rank a = (v : ℕ) × IsStoreOf ssa a w rank v

-- Stores of one width and rank beside each other, which begin a multiple of as many places behind the place
-- where their run begins: there is a store of the rank to each place from there up to them, and to none
-- right ahead of it.
pub record IsTile (ssa : Ssa) (us : List ℕ) : Type 0 where
  pub width : Width
  pub rank : ℕ
  pub start : Address
  pub turns : ℕ
  pub some : 0 < length us
  pub none_ahead : IsStored ssa width rank (ahead start (size_of width)) → ⊥
  pub between :
      (j : ℕ) → j < turns * length us → IsStored ssa width rank (behind start (j * size_of width))
  pub stores :
      (i v : ℕ) → slice_get us i ≡ Some v
      → IsStoreOf ssa (behind start ((turns * length us + i) * size_of width)) width rank v
