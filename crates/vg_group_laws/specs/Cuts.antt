-- Groups cut from a run of loads: what they are.
use Rattle.std.specs.Prelude.{◌≡◌, ◌+◌, ◌*◌, ◌≤◌, ℕ, true, List, ◌∷◌, ◌++◌, length}
use Rattle.std.specs.List.{flat_map}
use Rattle.vg_base.specs.declared.width.Width.{Width}
use Rattle.vg_base.specs.Width.{size_of}
use Rattle.vg_kernel_plans.specs.Taken.{register_of_bytes}
use Rattle.vg_shapes.specs.declared.pack.Pack.{Pack}
use Rattle.vg_shapes.specs.declared.pack.Pack.TheVariants.{Loads}
use Rattle.vg_shapes.specs.Pack.{is_pack_size, units_of}

-- so many bytes are what a line loads into a register of this width, at least two loads of this width, and
-- no more than so many loads
pub record IsPart (register : ℕ) (w : Width) (left size : ℕ) : Type 0 where
  pub loaded : is_pack_size size ≡ true
  pub in_register : register_of_bytes size ≡ register
  pub two : 2 * size_of w ≤ size
  pub fits : size ≤ left * size_of w

-- loads that are the largest part of so many
pub record IsLargestPart (register : ℕ) (w : Width) (left : ℕ) (g : Pack) : Type 0 where
  pub units : List ℕ
  pub loads : g ≡ Loads units
  pub part : IsPart register w left (length units * size_of w)
  pub largest : (size : ℕ) → IsPart register w left size → size ≤ length units * size_of w

-- The groups of a run: their units, one group after the other, are its front; each group is the largest
-- part of what is left of the run at its place; and nothing of what is left behind the last is a part.
pub record AreCutFrom (register : ℕ) (w : Width) (run : List ℕ) (groups : List Pack) : Type 0 where
  pub left : List ℕ
  pub front : run ≡ flat_map units_of groups ++ left
  pub largest :
      (before after : List Pack) (g : Pack) → groups ≡ before ++ g ∷ after
      → IsLargestPart register w (length (flat_map units_of (g ∷ after)) + length left) g
  pub none_left : (size : ℕ) → IsPart register w (length left) size → ⊥
