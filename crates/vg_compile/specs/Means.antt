-- What a kernel may be run on, and when a program means it.
use Rattle.std.specs.Prelude.{◌≡◌, ℕ, ◌<◌, ◌^◌, List, length, map, Option, Some, None, All}
use Rattle.std.specs.List.{AllZip, filter_map}
use Rattle.vg_base.specs.Width.{bits_of}
use Rattle.vg_kernel.specs.declared.parameter.KParam.{KParam}
use Rattle.vg_kernel.specs.declared.parameter.KParamKind.{KParamKind}
use Rattle.vg_kernel.specs.declared.parameter.KParamKind.TheVariants as kernel_kind
use Rattle.vg_kernel.specs.Tree.{Tree}
use Rattle.vg_kernel.specs.WellFormed.{pointers}
use Rattle.vg_kernel.specs.Layout.{Respects}
use Rattle.vg_kernel.specs.Meaning as kernel
use Rattle.vg_program.specs.declared.param.Param.{Param}
use Rattle.vg_program.specs.declared.param_kind.ParamKind.{ParamKind}
use Rattle.vg_program.specs.declared.param_kind.ParamKind.TheVariants as program_kind
use Rattle.vg_program.specs.declared.program.Program.{Program}
use Rattle.vg_program.specs.Meaning as program
use Rattle.vg_program.specs.Meaning.{Instructions}

-- a program does not write `noalias`
abbrev pub kind_of : KParamKind → ParamKind
kind_of (kernel_kind.Pointer noalias) = program_kind.Pointer
kind_of (kernel_kind.Integer w) = program_kind.Integer w

abbrev pub param_of : KParam → Param
param_of p = record { name = p.name; kind = kind_of p.kind }

-- the width of an integer parameter in bits
abbrev pub integer_bits : KParamKind → Option ℕ
integer_bits (kernel_kind.Pointer noalias) = None
integer_bits (kernel_kind.Integer w) = Some (bits_of w)

-- of the integer parameters, in order
abbrev pub widths : Tree → List ℕ
widths k = filter_map (λ p. integer_bits p.kind) k.params

-- What a kernel may be run on: any memory, any place of 64 bits for each pointer, any number of its
-- width for each integer parameter, so that the layout keeps what `noalias` says.
pub record IsInput (k : Tree) (memory places args : List ℕ) : Type 0 where
  pub bytes : All (λ b. b < 2 ^ 8) memory
  pub pointers : length places ≡ length (pointers k.params)
  pub near : All (λ place. place < 2 ^ 64) places
  pub integers : AllZip (λ w n. n < 2 ^ w) (widths k) args
  pub layout : Respects k places

-- The program, where calls give this, has the kernel's name and parameters, and on everything that the
-- kernel may be run on it leaves the same memory, or traps where the kernel traps.
pub record Means (called : Instructions) (p : Program) (k : Tree) : Type 0 where
  pub name : p.name ≡ k.name
  pub params : p.params ≡ map param_of k.params
  pub same : (memory places args : List ℕ) → IsInput k memory places args
      → program.meaning called p memory places args ≡ kernel.meaning k memory places args
