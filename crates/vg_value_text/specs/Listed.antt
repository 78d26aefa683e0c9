-- The lines on the values of a kernel: what has each number, and the terms that stand for it.
use Rattle.std.specs.Prelude.{ℕ, ◌+◌, List, [], ◌∷◌, ◌++◌, map, Bool, Option, Some, None, codes, if◌then◌else◌}
use Rattle.std.specs.Fmt.{decimal}
use Rattle.vg_base.specs.Width.{bits_of}
use Rattle.vg_kernel.specs.Tree.{Tree as Kernel}
use Rattle.vg_program.specs.declared.param.Param.{Param}
use Rattle.vg_program.specs.declared.param_kind.ParamKind.{ParamKind}
use Rattle.vg_program.specs.declared.param_kind.ParamKind.TheVariants.{Pointer, Integer}
use Rattle.vg_program.specs.Text.{address_text}
use Rattle.vg_shapes.specs.declared.ssa_unit.SsaUnit.{SsaUnit}
use Rattle.vg_shapes.specs.declared.ssa_unit.SsaUnit.TheVariants.{Load, Store, Operation}
use Rattle.vg_shapes.specs.declared.wanted.Wanted.{Wanted}
use Rattle.vg_shapes.specs.declared.wanted.Wanted.TheVariants.{Value}
use Rattle.vg_shapes.specs.Sound.{result_bits}
use Rattle.vg_ssa.specs.Cuts.{cut_terms, whole_terms}
use Rattle.vg_ssa.specs.Numbering.{first_unit, units_of}
use Rattle.vg_ssa.specs.ValueTerm.{operand_term}
use Rattle.vg_terms.specs.declared.text.Names.{Names}
use Rattle.vg_terms.specs.Term.{Tree}
use Rattle.vg_terms.specs.Text.{text}
use Rattle.vg_compile.specs.Means.{param_of}
use Rattle.vg_value_text.specs.Names.{names_of}

-- for each number the term of its value, and its cut term where cut terms are shown
pub record Terms : Type 0 where
  pub whole : List Tree
  pub cut : Option (List Tree)

abbrev pub newline : List ℕ
newline = 10 ∷ []

-- `value 3 `
abbrev pub number_text : ℕ → List ℕ
number_text v = codes "value " ++ decimal v ++ codes " "

-- `i16 `
abbrev pub bits_text : ℕ → List ℕ
bits_text bits = codes "i" ++ decimal bits ++ codes " "

-- ` cut TERM`, where cut terms are shown
abbrev pub cut_text : Names → Option (List Tree) → Wanted → List ℕ
cut_text names None x = []
cut_text names (Some cuts) x = codes " cut " ++ text names (operand_term cuts x)

-- the terms of an operand, or of a value by its number
abbrev pub terms_text : Names → Terms → Wanted → List ℕ
terms_text names ts x = text names (operand_term ts.whole x) ++ cut_text names ts.cut x

-- `value 0 i32 parameter k`; pointers have no numbers
abbrev pub argument_line : ℕ → ParamKind → List ℕ → List ℕ
argument_line v Pointer name = []
argument_line v (Integer w) name =
    number_text v ++ bits_text (bits_of w) ++ codes "parameter " ++ name ++ newline

-- the number behind that of a parameter
abbrev pub number_behind : ℕ → ParamKind → ℕ
number_behind v Pointer = v
number_behind v (Integer w) = v + 1

-- the lines on integer parameters, of which the first has this number
abbrev pub argument_lines : ℕ → List Param → List ℕ
argument_lines v [] = []
argument_lines v (p ∷ ps) =
    argument_line v p.kind p.name ++ argument_lines (number_behind v p.kind) ps

-- `value 1 i8 load p+4`, `value 2 i32 TERM` or `value 3 store 32 d+0 TERM`, with the cut term behind the
-- terms of operations and of what is stored
abbrev pub unit_line : List Param → Terms → ℕ → SsaUnit → List ℕ
unit_line ps ts v (Load a w) =
    number_text v ++ bits_text (bits_of w) ++ codes "load " ++ address_text ps a ++ newline
unit_line ps ts v (Store a w x) =
    number_text v ++ codes "store " ++ decimal (bits_of w) ++ codes " " ++ address_text ps a
    ++ codes " " ++ terms_text (names_of ps) ts x ++ newline
unit_line ps ts v (Operation op w k xs) =
    number_text v ++ bits_text (result_bits op w) ++ terms_text (names_of ps) ts (Value v) ++ newline

-- the lines on units, of which the first has this number
abbrev pub unit_lines : List Param → Terms → ℕ → List SsaUnit → List ℕ
unit_lines ps ts v [] = []
unit_lines ps ts v (u ∷ us) = unit_line ps ts v u ++ unit_lines ps ts (v + 1) us

abbrev pub terms_shown : Kernel → Bool → Terms
terms_shown k more =
    record { whole = whole_terms k; cut = if more then Some (cut_terms k) else None }

-- the lines on the values of a kernel, by rising number; with cut terms where more is asked for
unfoldable pub values_text : Kernel → Bool → List ℕ
values_text k more =
    let ps = map param_of k.params in
    argument_lines 0 ps ++ unit_lines ps (terms_shown k more) (first_unit k) (units_of k)
