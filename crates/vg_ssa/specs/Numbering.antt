-- A kernel as numbered values: the integer parameters have the first numbers, then its loads,
-- operations and stores have theirs in the order in which they run.
use Rattle.std.specs.Prelude.{◌≡◌, ℕ, ◌+◌, List, [], ◌∷◌, ◌++◌, length, map, slice_index_or}
use Rattle.vg_base.specs.Width.{bits_of}
use Rattle.vg_kernel.specs.declared.parameter.KParam.{KParam}
use Rattle.vg_kernel.specs.declared.parameter.KParamKind.{KParamKind}
use Rattle.vg_kernel.specs.declared.parameter.KParamKind.TheVariants as kinds
use Rattle.vg_kernel.specs.Tree.{Expression, argument, assigned, literal, load, two, shift, resize, compare, select, Statement, assign, store, Tree}
use Rattle.vg_kernel.specs.WellFormed.{integer_widths}
use Rattle.vg_shapes.specs.declared.ssa.SsaParam.{SsaParam}
use Rattle.vg_shapes.specs.declared.ssa.SsaParamKind.{SsaParamKind}
use Rattle.vg_shapes.specs.declared.ssa.SsaParamKind.TheVariants.{Pointer, Integer}
use Rattle.vg_shapes.specs.declared.ssa.Ssa.{Ssa}
use Rattle.vg_shapes.specs.declared.ssa_unit.Operands.{Operands}
use Rattle.vg_shapes.specs.declared.ssa_unit.Operator.TheVariants.{Two, Shift, Resize, Compare, Select}
use Rattle.vg_shapes.specs.declared.ssa_unit.SsaUnit.{SsaUnit}
use Rattle.vg_shapes.specs.declared.ssa_unit.SsaUnit.TheVariants.{Load, Store, Operation}
use Rattle.vg_shapes.specs.declared.wanted.Wanted.{Wanted}
use Rattle.vg_shapes.specs.declared.wanted.Wanted.TheVariants.{Value, Constant, Nothing}
use Rattle.vg_shapes.specs.Sound.{terms_of}
use Rattle.vg_ssa.specs.declared.value_terms.Depth.TheVariants.{Whole}
use Rattle.vg_ssa.specs.ValueTerm.{argument_terms, terms_behind}

-- units, and what stands for the value that they find
pub record Numbered : Type 0 where
  pub units : List SsaUnit
  pub value : Wanted

abbrev pub operands : Wanted → Wanted → Wanted → Operands
operands x y z = record { first = x; second = y; third = z }

-- one unit after others, which finds a value; the first of them has this number
abbrev pub found : ℕ → List SsaUnit → SsaUnit → Numbered
found n us u = record { units = us ++ u ∷ []; value = Value (n + length us) }

-- the units of an expression, of which the first has this number, where these stand for the names that
-- statements gave; operands are found from left to right
abbrev pub numbered : ℕ → List Wanted → Expression → Numbered
numbered n names (argument k w) = record { units = []; value = Value k }
numbered n names (assigned k t) = record { units = []; value = slice_index_or names k Nothing }
numbered n names (literal w v) = record { units = []; value = Constant (bits_of w) v }
numbered n names (load w a) = found n [] (Load a w)
numbered n names (two op w x y) =
    let p = numbered n names x in
    let q = numbered (n + length p.units) names y in
    found n (p.units ++ q.units) (Operation (Two op) w 0 (operands p.value q.value Nothing))
numbered n names (shift op w k x) =
    let p = numbered n names x in
    found n p.units (Operation (Shift op) w k (operands p.value Nothing Nothing))
numbered n names (resize op w v x) =
    let p = numbered n names x in
    found n p.units (Operation (Resize op v) w 0 (operands p.value Nothing Nothing))
numbered n names (compare op w x y) =
    let p = numbered n names x in
    let q = numbered (n + length p.units) names y in
    found n (p.units ++ q.units) (Operation (Compare op) w 0 (operands p.value q.value Nothing))
numbered n names (select w c x y) =
    let o = numbered n names c in
    let p = numbered (n + length o.units) names x in
    let q = numbered (n + length (o.units ++ p.units)) names y in
    found n ((o.units ++ p.units) ++ q.units)
    (Operation Select w 0 (operands o.value p.value q.value))

-- the units of statements, of which the first has this number
abbrev pub units_from : ℕ → List Wanted → List Statement → List SsaUnit
units_from n names [] = []
units_from n names (assign e ∷ ss) =
    let p = numbered n names e in
    p.units ++ units_from (n + length p.units) (names ++ p.value ∷ []) ss
units_from n names (store w a e ∷ ss) =
    let p = numbered n names e in
    (p.units ++ Store a w p.value ∷ []) ++ units_from (n + length p.units + 1) names ss

-- how many integer parameters there are
abbrev pub first_unit : Tree → ℕ
first_unit k = length (integer_widths k.params)

abbrev pub units_of : Tree → List SsaUnit
units_of k = units_from (first_unit k) [] k.statements

abbrev pub kind_of : KParamKind → SsaParamKind
kind_of (kinds.Pointer noalias) = Pointer noalias
kind_of (kinds.Integer w) = Integer w

abbrev pub param_of : KParam → SsaParam
param_of p = record { name = p.name; kind = kind_of p.kind }

-- the numbered values of a kernel
pub record IsNumbering (k : Tree) (ssa : Ssa) : Type 0 where
  pub name : ssa.name ≡ k.name
  pub params : ssa.params ≡ map param_of k.params
  pub units : ssa.units ≡ units_of k
  pub terms :
      terms_of ssa
      ≡ terms_behind Whole (first_unit k) (argument_terms 0 (integer_widths k.params)) (units_of k)
