-- Two words that are stored turned, and a program that turns them in a register by a call.
use Rattle.std.specs.Prelude.{◌≡◌, ℕ, true, false, is_ok, List, [], ◌∷◌, pos, codes, None}
use Rattle.vg_base.specs.declared.address.Address.{Address}
use Rattle.vg_base.specs.declared.width.Width.TheVariants.{W64}
use Rattle.vg_text.specs.Place.{first_place}
use Rattle.vg_pseudo.specs.declared.header.Header.{Header}
use Rattle.vg_pseudo.specs.Spots.{spot_at}
use Rattle.vg_pseudo.specs.Tree.{Expression, number, slice, stop, assign as set, Operation}
use Rattle.vg_range.specs.Acceptance.{checked}
use Rattle.vg_catalog.specs.Called.{called_by, headers_of}
use Rattle.vg_catalog.specs.Entries.{Entry}
use Rattle.vg_kernel.specs.declared.parameter.KParam.{KParam}
use Rattle.vg_kernel.specs.declared.parameter.KParamKind.TheVariants.{Pointer}
use Rattle.vg_kernel.specs.declared.value_type.ValueType.TheVariants.{Integer}
use Rattle.vg_kernel.specs.Tree.{assign, assigned, load, store, Tree}
use Rattle.vg_kernel.specs.WellFormed.{IsWellFormed}
use Rattle.vg_program.specs.declared.line.Line.TheVariants as line
use Rattle.vg_program.specs.declared.param_kind.ParamKind.TheVariants as kind
use Rattle.vg_program.specs.declared.program.Program.{Program}
use Rattle.vg_program.specs.declared.vector_size.VectorSize.TheVariants.{B16}
use Rattle.vg_program.specs.Valid.{KeepsRules}
use Rattle.vg_compile.specs.Means.{Means}
use Rattle.vg_check.specs.Compared.{told_difference}

-- ---- the instruction, of which the upper word of `a` is the lower one of `dst`

abbrev pub bits_of : List ℕ → ℕ → ℕ → Expression
bits_of register high low =
    slice (spot_at first_place) register (number (spot_at first_place) high) (number (spot_at first_place) low)

abbrev pub swap_header : Header
swap_header = record {
  name = codes "swap";
  params = record { name = codes "a"; register = 128; lane_width = 64; is_signed = false } ∷ [];
  imm = None;
  register = 128;
  lane_width = 64;
  extension = 0;
  cost = 1;
}

abbrev pub swap_operation : Operation
swap_operation = record {
  defines = [];
  body =
      set first_place (bits_of (codes "dst") 63 0) (bits_of (codes "a") 127 64)
      (set first_place (bits_of (codes "dst") 127 64) (bits_of (codes "a") 63 0) stop);
}

abbrev pub swap_entries : List Entry
swap_entries = record { header = swap_header; operation = swap_operation } ∷ []

-- ---- the kernel, of which nothing is noalias: both words are loaded, and then stored turned

abbrev pub at : ℕ → ℕ → Address
at pointer offset = record { pointer = pointer; offset = pos offset }

abbrev pub swap_kernel : Tree
swap_kernel = record {
  name = codes "turn";
  params =
      record { name = codes "d"; kind = Pointer false }
      ∷ record { name = codes "p"; kind = Pointer false }
      ∷ [];
  statements =
      assign (load W64 (at 1 0))
      ∷ assign (load W64 (at 1 8))
      ∷ store W64 (at 0 0) (assigned 1 (Integer W64))
      ∷ store W64 (at 0 8) (assigned 0 (Integer W64))
      ∷ [];
}

-- ---- the program

abbrev pub swap_program : Program
swap_program = record {
  name = codes "turn";
  params =
      record { name = codes "d"; kind = kind.Pointer }
      ∷ record { name = codes "p"; kind = kind.Pointer }
      ∷ [];
  lines =
      line.VectorLoad B16 (at 1 0)
      ∷ line.Call (codes "swap") (0 ∷ []) None 128 1
      ∷ line.VectorStore B16 (at 0 0) 1
      ∷ [];
  cost = 3;
  scalar = 4;
}

-- The entry is accepted, the kernel is well formed, the program keeps the rules, and there is no difference:
-- so the program means the kernel, the call giving what the text of the entry means.
pub record SwapIsSame : Type 0 where
  pub accepted : is_ok (checked swap_header swap_operation) ≡ true
  pub formed : IsWellFormed swap_kernel
  pub rules : KeepsRules (headers_of swap_entries) swap_program
  pub same : told_difference swap_entries swap_kernel swap_program false ≡ None
  pub means : Means (called_by swap_entries) swap_program swap_kernel
