-- The values of the parameters of a kernel or a program, which words bind.
use Rattle.std.specs.Prelude.{ℕ, ◌≡◌, ◌-◌, ◌%◌, ◌^◌, ◌<◌, Bool, true, false, not, ◌&&◌, ◌||◌, List, [], ◌∷◌, length, filter, count_by, Option, Some, None, ◌==◌, nat_lt, nat_le, if◌then◌else◌}
use Rattle.std.specs.List.{list_all, list_any, find, AllZip}
use Rattle.std.specs.Option.{option_map, option_and_then}
use Rattle.std.specs.Str.{bytes_eq}
use Rattle.vg_base.specs.Width.{bits_of}
use Rattle.vg_program.specs.Params.{pointers, integers, is_pointer_kind, is_integer_kind, kind_bits}
use Rattle.vg_program.specs.declared.param.Param.{Param}
use Rattle.vg_program.specs.declared.param_kind.ParamKind.{ParamKind}
use Rattle.vg_program.specs.declared.param_kind.ParamKind.TheVariants.{Pointer, Integer}
use Rattle.vg_request.specs.Binding.{Signed, Binding}
use Rattle.vg_top.specs.declared.inputs.Inputs.{Inputs}

-- the number of a place: 0 up to 2 ^ 64 - 1
abbrev pub place_of : Signed → Option ℕ
place_of n =
    if nat_lt n.distance (2 ^ 64) && (not n.negative || n.distance == 0)
    then Some n.distance else None

-- the value of an integer of a width w: -2 ^ (w - 1) up to 2 ^ w - 1, modulo 2 ^ w
abbrev pub integer_of : ℕ → Signed → Option ℕ
integer_of w n =
    if n.negative
    then (if nat_le n.distance (2 ^ (w - 1)) then Some ((2 ^ w - n.distance) % 2 ^ w) else None)
    else (if nat_lt n.distance (2 ^ w) then Some n.distance else None)

-- the number of a parameter of this kind, in its range
abbrev pub value_of : ParamKind → Signed → Option ℕ
value_of Pointer n = place_of n
value_of (Integer w) n = integer_of (bits_of w) n

-- the number of a name that exactly one word binds
abbrev pub number_of : List Binding → List ℕ → Option Signed
number_of bs name =
    if count_by (λ b. bytes_eq b.name name) bs == 1
    then option_map (λ b. b.number) (find (λ b. bytes_eq b.name name) bs) else None

-- the value of a parameter that exactly one word binds, in its range
abbrev pub param_value : List Binding → Param → Option ℕ
param_value bs p = option_and_then (value_of p.kind) (number_of bs p.name)

-- the values of parameters in their order, where each has one
abbrev pub values : List Binding → List Param → Option (List ℕ)
values bs [] = Some []
values bs (p ∷ ps) =
    option_and_then (λ v. option_map (λ vs. v ∷ vs) (values bs ps)) (param_value bs p)

-- whether a parameter is one of those that are asked for: the pointers or the integers
abbrev pub is_asked : Bool → ParamKind → Bool
is_asked true kind = is_pointer_kind kind
is_asked false kind = is_integer_kind kind

-- the parameters that are asked for, in order
abbrev pub asked : Bool → List Param → List Param
asked pointers ps = filter (λ q. is_asked pointers q.kind) ps

-- some parameter has the name
abbrev pub is_named : List ℕ → List Param → Bool
is_named name ps = list_any (λ p. bytes_eq p.name name) ps

-- each word names a parameter
abbrev pub all_named : List Binding → List Param → Bool
all_named bs ps = list_all (λ b. is_named b.name ps) bs

-- the places of the pointers and the values of the integers, each in their order
pub record InputLists : Type 0 where
  pub places : List ℕ
  pub args : List ℕ

-- none where some word names no parameter, or some parameter has no value
unfoldable pub inputs_of : List Binding → List Param → Option InputLists
inputs_of bs ps =
    if all_named bs ps
    then option_and_then (λ places.
    option_map (λ args. record { places = places; args = args })
    (values bs (integers ps))) (values bs (pointers ps))
    else None

-- one place for each pointer and one value in its range for each integer
pub record FitParams (ps : List Param) (i : InputLists) : Type 0 where
  pub places : length i.places ≡ length (pointers ps)
  pub arg_count : length i.args ≡ length (integers ps)
  pub args : AllZip (λ p n. n < 2 ^ kind_bits p.kind) (integers ps) i.args

-- the lists that the code's value stands for
abbrev pub inputs_seen : Inputs → InputLists
inputs_seen i = record { places = i.places.items; args = i.args.items }
