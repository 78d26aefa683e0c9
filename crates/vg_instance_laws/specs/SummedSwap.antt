-- Two words that are stored turned, one of them five times, and a program that turns them in a register by a
-- call and adds four times a word to it.
use Rattle.std.specs.Prelude.{◌≡◌, true, false, is_some, [], ◌∷◌, codes, None}
use Rattle.vg_base.specs.declared.width.Width.TheVariants.{W64}
use Rattle.vg_scalar.specs.declared.shift.Shift.TheVariants.{Shl}
use Rattle.vg_scalar.specs.declared.two_op.TwoOp.TheVariants.{Add, Mul}
use Rattle.vg_catalog.specs.Called.{called_by, headers_of}
use Rattle.vg_kernel.specs.declared.value_type.ValueType.TheVariants.{Integer}
use Rattle.vg_kernel.specs.Tree.{assign, assigned, literal, load, store, Tree, two}
use Rattle.vg_kernel.specs.WellFormed.{IsWellFormed}
use Rattle.vg_program.specs.declared.line.Line.TheVariants as line
use Rattle.vg_program.specs.declared.operand.Operand.TheVariants.{Register}
use Rattle.vg_program.specs.declared.program.Program.{Program}
use Rattle.vg_program.specs.declared.vector_size.VectorSize.TheVariants.{B16}
use Rattle.vg_program.specs.Valid.{KeepsRules}
use Rattle.vg_compile.specs.Means.{Means}
use Rattle.vg_check.specs.Compared.{told_difference}
use Rattle.vg_instance_laws.specs.Swap.{at, swap_entries, swap_kernel, swap_program}

-- ---- the kernel: both words are loaded, and then stored turned, the second of them five times

abbrev pub summed_kernel : Tree
summed_kernel = record swap_kernel {
  statements =
      assign (load W64 (at 1 0))
      ∷ assign (load W64 (at 1 8))
      ∷ store W64 (at 0 0) (two Mul W64 (assigned 1 (Integer W64)) (literal W64 5))
      ∷ store W64 (at 0 8) (assigned 0 (Integer W64))
      ∷ [];
}

-- ---- the program: the word and four times the word make a sum

abbrev pub summed_program : Program
summed_program = record swap_program {
  lines =
      line.VectorLoad B16 (at 1 0)
      ∷ line.Call (codes "swap") (0 ∷ []) None 128 1
      ∷ line.Extract 1 0 W64
      ∷ line.Shift Shl W64 (Register 0) 2
      ∷ line.Two Add W64 (Register 0) (Register 1)
      ∷ line.Store W64 (at 0 0) (Register 2)
      ∷ line.Extract 1 1 W64
      ∷ line.Store W64 (at 0 8) (Register 3)
      ∷ [];
  cost = 8;
}

-- The kernel is well formed, the program keeps the rules over the entry of the swap, and there is a difference,
-- but no wider one: so the program means the kernel, the call giving what the text of the entry means.
pub record SummedSwapIsSame : Type 0 where
  pub formed : IsWellFormed summed_kernel
  pub rules : KeepsRules (headers_of swap_entries) summed_program
  pub differs : is_some (told_difference swap_entries summed_kernel summed_program false) ≡ true
  pub same : told_difference swap_entries summed_kernel summed_program true ≡ None
  pub means : Means (called_by swap_entries) summed_program summed_kernel
