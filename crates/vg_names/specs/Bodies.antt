-- The registers and the variables of a body, one local after the other.
use Rattle.std.specs.Prelude.{ℕ, ◌+◌, Bool, true, false, List, [], ◌∷◌, ◌++◌, get_or, if◌then◌else◌}
use Rattle.vg_pseudo.specs.Names.{Register, has_name}
use Rattle.vg_names.specs.declared.forms.Forms.{Forms}
use Rattle.vg_names.specs.declared.forms.Forms.TheVariants.{Unseen}
use Rattle.vg_names.specs.Distinct.{with_name}
use Rattle.vg_names.specs.Gathered.{span_of_forms}

-- a local that is a register, by whether it is signed and the forms in which it is assigned
abbrev pub new_register : List ℕ → Bool → Forms → Register
new_register n is_signed forms = record {
  name = n;
  width = 512;
  is_variable = true;
  signed_slices = false;
  signed_whole = is_signed;
  span = span_of_forms forms;
}

-- a local, where it is marked as a register
abbrev pub registers_of_local : List (List ℕ) → List ℕ → Bool → Forms → List Register
registers_of_local marked n is_signed forms =
    if has_name marked n then new_register n is_signed forms ∷ [] else []

-- the variables, and this local, where it is not
abbrev pub with_variable : List (List ℕ) → List (List ℕ) → List ℕ → List (List ℕ)
with_variable marked before n = if has_name marked n then before else with_name before n

-- those of the locals from this number on
abbrev pub registers_from : List (List ℕ) → List Bool → List Forms → ℕ → List (List ℕ) → List Register
registers_from marked flags forms k [] = []
registers_from marked flags forms k (n ∷ ns) =
    registers_of_local marked n (get_or flags k false) (get_or forms k Unseen)
    ++ registers_from marked flags forms (k + 1) ns

abbrev pub variables_behind : List (List ℕ) → List (List ℕ) → List (List ℕ) → List (List ℕ)
variables_behind marked before [] = before
variables_behind marked before (n ∷ ns) = variables_behind marked (with_variable marked before n) ns
