-- When numbered values stand for a kernel.
use Rattle.std.specs.Prelude.{◌≡◌, ◌<◌, ◌≤◌, ◌+◌, ◌^◌, ℕ, List, [], ◌∷◌, ◌++◌, length, map, filter, take, drop, Bool, true, false, not, ◌⊎◌, Option, Some, None, slice_get, slice_index, nat_eq, nat_lt, pos, IsTrue, if◌then◌else◌}
use Rattle.std.specs.List.{AllByRecursion, IsDistinct}
use Rattle.std.specs.Option.{option_map}
use Rattle.std.specs.Str.{bytes_eq}
use Rattle.vg_base.specs.Offset.{IsAddress}
use Rattle.vg_base.specs.Trap.{◌>>=◌}
use Rattle.vg_base.specs.declared.address.Address.{Address}
use Rattle.vg_base.specs.declared.width.Width.{Width}
use Rattle.vg_base.specs.Width.{bits_of}
use Rattle.vg_bits.specs.BitList.{IsBytes}
use Rattle.vg_scalar.specs.declared.resize.Resize.{Resize}
use Rattle.vg_scalar.specs.declared.resize.Resize.TheVariants.{Sext, Zext, Trunc}
use Rattle.vg_text.specs.Byte.{is_name_text}
use Rattle.vg_terms.specs.declared.term.LeafKey.{LeafKey}
use Rattle.vg_terms.specs.declared.value.Env.{Env}
use Rattle.vg_terms.specs.Term.{Tree, leaf, constant, tree, width_of, WellFormed}
use Rattle.vg_terms.specs.Value.{value}
use Rattle.vg_shapes.specs.declared.ssa.SsaParam.{SsaParam}
use Rattle.vg_shapes.specs.declared.ssa.SsaParamKind.{SsaParamKind}
use Rattle.vg_shapes.specs.declared.ssa.SsaParamKind.TheVariants.{Pointer, Integer}
use Rattle.vg_shapes.specs.declared.ssa.Ssa.{Ssa}
use Rattle.vg_shapes.specs.declared.ssa_unit.Operands.{Operands}
use Rattle.vg_shapes.specs.declared.ssa_unit.Operator.{Operator}
use Rattle.vg_shapes.specs.declared.ssa_unit.Operator.TheVariants.{Two, Shift, Resize as ToWidth, Compare, Select}
use Rattle.vg_shapes.specs.declared.ssa_unit.SsaUnit.{SsaUnit}
use Rattle.vg_shapes.specs.declared.ssa_unit.SsaUnit.TheVariants.{Load, Store, Operation}
use Rattle.vg_shapes.specs.declared.wanted.Wanted.{Wanted}
use Rattle.vg_shapes.specs.declared.wanted.Wanted.TheVariants.{Value, Constant, Nothing}
use Rattle.vg_shapes.specs.RunUnits.{Reached, run_units, start_of}
use Rattle.vg_shapes.specs.Units.{arguments, integers, is_integer, unit_at}

-- ---- widths of values

-- the width of a parameter in bits; a pointer has none
abbrev pub kind_bits : SsaParamKind → ℕ
kind_bits (Pointer noalias) = 0
kind_bits (Integer w) = bits_of w

-- the width of what an operation gives: a comparison gives a bit
abbrev pub result_bits : Operator → Width → ℕ
result_bits (Two op) w = bits_of w
result_bits (Shift op) w = bits_of w
result_bits (ToWidth op v) w = bits_of w
result_bits (Compare op) w = 1
result_bits Select w = bits_of w

-- the width of the value of a unit; a store has no value
abbrev pub unit_bits : SsaUnit → Option ℕ
unit_bits (Load a w) = Some (bits_of w)
unit_bits (Store a w x) = None
unit_bits (Operation op w k xs) = Some (result_bits op w)

-- the width of the value of a number
abbrev pub value_bits : Ssa → ℕ → Option ℕ
value_bits ssa v =
    if nat_lt v (arguments ssa) then option_map (λ p. kind_bits p.kind) (slice_get (integers ssa) v)
    else unit_at ssa v >>= unit_bits

-- ---- the rules on units

-- a constant, or a value below this number
abbrev pub IsEarlier : ℕ → Wanted → Type 0
IsEarlier n (Value v) = v < n
IsEarlier n (Constant w k) = Unit {0}
IsEarlier n Nothing = Unit {0}

abbrev pub TakesEarlier : ℕ → SsaUnit → Type 0
TakesEarlier n (Load a w) = Unit {0}
TakesEarlier n (Store a w x) = IsEarlier n x
TakesEarlier n (Operation op w k xs) =
    IsEarlier n xs.first × IsEarlier n xs.second × IsEarlier n xs.third

-- each unit takes values before it alone, the first unit having this number
abbrev pub TakeEarlier : ℕ → List SsaUnit → Type 0
TakeEarlier n [] = Unit {0}
TakeEarlier n (u ∷ us) = TakesEarlier n u × TakeEarlier (n + 1) us

-- an integer of this width: a value, or a constant below 2 to the width
abbrev pub IsNumber : Ssa → Width → Wanted → Type 0
IsNumber ssa w (Value v) = value_bits ssa v ≡ Some (bits_of w)
IsNumber ssa w (Constant m k) = (m ≡ bits_of w) × (k < 2 ^ m)
IsNumber ssa w Nothing = ⊥

-- a bit is a value
abbrev pub IsBit : Ssa → Wanted → Type 0
IsBit ssa (Value v) = value_bits ssa v ≡ Some 1
IsBit ssa (Constant m k) = ⊥
IsBit ssa Nothing = ⊥

-- a change from the second width to the first
abbrev pub IsChange : Resize → Width → Width → Type 0
IsChange Sext w v = bits_of v < bits_of w
IsChange Zext w v = bits_of v < bits_of w
IsChange Trunc w v = bits_of w < bits_of v

-- the operands and the amount that an operation of a width may have
abbrev pub IsOperation : Ssa → Operator → Width → ℕ → Operands → Type 0
IsOperation ssa (Two op) w k xs =
    (k ≡ 0) × IsNumber ssa w xs.first × IsNumber ssa w xs.second × (xs.third ≡ Nothing)
IsOperation ssa (Shift op) w k xs =
    (k < bits_of w) × IsNumber ssa w xs.first × (xs.second ≡ Nothing) × (xs.third ≡ Nothing)
IsOperation ssa (ToWidth op v) w k xs =
    (k ≡ 0)
    × IsChange op w v
    × IsNumber ssa v xs.first
    × (xs.second ≡ Nothing)
    × (xs.third ≡ Nothing)
IsOperation ssa (Compare op) w k xs =
    (k ≡ 0) × IsNumber ssa w xs.first × IsNumber ssa w xs.second × (xs.third ≡ Nothing)
IsOperation ssa Select w k xs =
    (k ≡ 0) × IsBit ssa xs.first × IsNumber ssa w xs.second × IsNumber ssa w xs.third

-- the pointers, in order
abbrev pub pointers : Ssa → List SsaParam
pointers ssa = filter (λ p. not (is_integer p.kind)) ssa.params

abbrev pub IsUnit : Ssa → SsaUnit → Type 0
IsUnit ssa (Load a w) = IsAddress (length (pointers ssa)) a
IsUnit ssa (Store a w x) = IsAddress (length (pointers ssa)) a × IsNumber ssa w x
IsUnit ssa (Operation op w k xs) = IsOperation ssa op w k xs

abbrev pub is_store : SsaUnit → Bool
is_store (Load a w) = false
is_store (Store a w x) = true
is_store (Operation op w k xs) = false

-- ---- terms

-- the leaf of an integer parameter, and that of a load, whose value has this number
abbrev pub argument_key : ℕ → LeafKey
argument_key v = record { kind = 2; first = v; second = pos 0; third = 0 }

abbrev pub load_key : Address → ℕ → LeafKey
load_key a v = record { kind = 1; first = a.pointer; second = a.offset; third = v }

-- the leaf of a value whose term is not looked into
abbrev pub cut_key : ℕ → LeafKey
cut_key v = record { kind = 3; first = v; second = pos 0; third = 0 }

-- the keys by which terms name the value of a unit
abbrev pub keys_of : ℕ → SsaUnit → List LeafKey
keys_of v (Load a w) = load_key a v ∷ cut_key v ∷ []
keys_of v (Store a w x) = []
keys_of v (Operation op w k xs) = cut_key v ∷ []

-- these keys stand for this number
abbrev pub paired : ℕ → List LeafKey → List (LeafKey × ℕ)
paired n keys = map (λ key. (key, n)) keys

-- the values from this one on
abbrev pub argument_pairs : ℕ → List ℕ → List (LeafKey × ℕ)
argument_pairs v [] = []
argument_pairs v (n ∷ ns) =
    paired n (argument_key v ∷ cut_key v ∷ []) ++ argument_pairs (v + 1) ns

abbrev pub unit_pairs : ℕ → List SsaUnit → List ℕ → List (LeafKey × ℕ)
unit_pairs v [] ns = []
unit_pairs v (u ∷ us) [] = []
unit_pairs v (u ∷ us) (n ∷ ns) = paired n (keys_of v u) ++ unit_pairs (v + 1) us ns

-- the environment in which the leaves of terms stand for these numbers of the values
abbrev pub environment : Ssa → List ℕ → Env
environment ssa numbers =
    record {
      pairs =
          argument_pairs 0 (take (arguments ssa) numbers)
          ++ unit_pairs (arguments ssa) ssa.units (drop (arguments ssa) numbers);
    }

-- for each number the term of its value
abbrev pub terms_of : Ssa → List Tree
terms_of ssa = map tree ssa.terms

abbrev pub term_at : Ssa → ℕ → Option Tree
term_at ssa v = slice_get (terms_of ssa) v

-- for each number the cut term of its value, where there are cut terms
abbrev pub cuts_of : Ssa → List Tree
cuts_of ssa = map tree ssa.cuts

abbrev pub cut_at : Ssa → ℕ → Option Tree
cut_at ssa v = slice_get (cuts_of ssa) v

-- The name by which cut terms speak of the value of a unit that has this number and this cut term: a
-- bit is written out, any other value is a leaf of its own. A store has none.
abbrev pub unit_name : ℕ → Tree → SsaUnit → Option Tree
unit_name v t (Load a w) = Some (leaf (bits_of w) (cut_key v))
unit_name v t (Store a w x) = None
unit_name v t (Operation op w k xs) =
    Some (if nat_eq (width_of t) 1 then t else leaf (width_of t) (cut_key v))

-- the same of any value; that of an integer parameter is its cut term
abbrev pub name_of : Ssa → ℕ → Tree → Option Tree
name_of ssa v t = if nat_lt v (arguments ssa) then Some t else unit_at ssa v >>= unit_name v t

abbrev pub name_at : Ssa → ℕ → Option Tree
name_at ssa v = cut_at ssa v >>= name_of ssa v

-- the terms of parameters from this number on
abbrev pub AreArgumentTerms : ℕ → List SsaParam → List Tree → Type 0
AreArgumentTerms v [] ts = ts ≡ []
AreArgumentTerms v (p ∷ ps) [] = ⊥
AreArgumentTerms v (p ∷ ps) (t ∷ ts) =
    (t ≡ leaf (kind_bits p.kind) (argument_key v)) × AreArgumentTerms (v + 1) ps ts

-- the term of a unit of this number; a store has the constant 0 of width 8 in its place
abbrev pub IsUnitTerm : ℕ → SsaUnit → Tree → Type 0
IsUnitTerm v (Load a w) t = t ≡ leaf (bits_of w) (load_key a v)
IsUnitTerm v (Store a w x) t = t ≡ constant 8 0
IsUnitTerm v (Operation op w k xs) t = WellFormed t × (width_of t ≡ result_bits op w)

abbrev pub AreUnitTerms : ℕ → List SsaUnit → List Tree → Type 0
AreUnitTerms v [] ts = ts ≡ []
AreUnitTerms v (u ∷ us) [] = ⊥
AreUnitTerms v (u ∷ us) (t ∷ ts) = IsUnitTerm v u t × AreUnitTerms (v + 1) us ts

-- a number for each integer parameter, below 2 to its width
abbrev pub AreArguments : List SsaParam → List ℕ → Type 0
AreArguments [] ns = ns ≡ []
AreArguments (p ∷ ps) [] = ⊥
AreArguments (p ∷ ps) (n ∷ ns) = (n < 2 ^ kind_bits p.kind) × AreArguments ps ns

-- where a run reaches a value, the term that this gives for it has its number
abbrev pub HaveNumbers : Ssa → (ℕ → Option Tree) → Type 0
HaveNumbers ssa given =
    (places memory args : List ℕ) (k : ℕ) (r : Reached) →
    IsBytes memory → AreArguments (integers ssa) args →
    run_units places (take k ssa.units) (start_of memory args) ≡ Some r →
    (v : ℕ) (t : Tree) → v < length r.numbers → given v ≡ Some t →
    value (environment ssa r.numbers) t ≡ slice_index r.numbers v

abbrev pub TermsMean : Ssa → Type 0
TermsMean ssa = HaveNumbers ssa (term_at ssa)

-- Each value has a cut term: those of parameters, loads and stores are their terms, that of an
-- operation is well-formed and has the width of its value. Cut terms and names mean their values.
pub record AreCuts (ssa : Ssa) : Type 0 where
  pub argument_terms : AreArgumentTerms 0 (integers ssa) (take (arguments ssa) (cuts_of ssa))
  pub unit_terms : AreUnitTerms (arguments ssa) ssa.units (drop (arguments ssa) (cuts_of ssa))
  pub meaning : HaveNumbers ssa (cut_at ssa)
  pub names : HaveNumbers ssa (name_at ssa)

-- The names and the limits are those of kernels, units take earlier values of the widths that they
-- want, and terms mean their values. There are no cut terms, or they mean their values too.
pub record IsSound (ssa : Ssa) : Type 0 where
  pub name : IsTrue (is_name_text ssa.name)
  pub names : AllByRecursion (λ p. IsTrue (is_name_text p.name)) ssa.params
  pub distinct : IsDistinct bytes_eq (map (λ p. p.name) ssa.params)
  pub params : length ssa.params ≤ 16
  pub stores : length (filter is_store ssa.units) ≤ 4096
  pub uses : length (filter (λ u. not (is_store u)) ssa.units) ≤ 8192
  pub units : AllByRecursion (IsUnit ssa) ssa.units
  pub earlier : TakeEarlier (arguments ssa) ssa.units
  pub argument_terms : AreArgumentTerms 0 (integers ssa) (take (arguments ssa) (terms_of ssa))
  pub unit_terms : AreUnitTerms (arguments ssa) ssa.units (drop (arguments ssa) (terms_of ssa))
  pub meaning : TermsMean ssa
  pub cuts : (ssa.cuts ≡ []) ⊎ AreCuts ssa
