-- Layouts that respect noalias, as a test.
use Rattle.std.specs.Prelude.{ℕ, ◌||◌, not, Bool, true, List, pos, ◌+ℤ◌, nat_eq, int_lt}
use Rattle.std.specs.List.{list_all}
use Rattle.std.specs.Option.{option_map_or}
use Rattle.vg_base.specs.Address.{place_of}
use Rattle.vg_shapes.specs.declared.access.Access.{Access}
use Rattle.vg_shapes.specs.declared.ssa_unit.SsaUnit.{SsaUnit}
use Rattle.vg_shapes.specs.Layout.{access_of, is_noalias}

-- the bytes of two accesses are apart
abbrev pub are_apart : List ℕ → Access → Access → Bool
are_apart places x y =
    not (int_lt (place_of places y.address) (place_of places x.address +ℤ pos x.size))
    || not (int_lt (place_of places x.address) (place_of places y.address +ℤ pos y.size))

-- an access through a pointer that is noalias keeps apart from another
abbrev pub keeps_apart : List ℕ → Access → Access → Bool
keeps_apart places x y =
    nat_eq x.address.pointer y.address.pointer
    || (not (x.writes || y.writes) || are_apart places x y)

-- it keeps apart from those of all units
abbrev pub keeps_apart_from : List ℕ → Access → List SsaUnit → Bool
keeps_apart_from places x us =
    list_all (λ u. option_map_or (keeps_apart places x) (access_of u) true) us

-- each access through a pointer that is noalias does
abbrev pub is_respected_by : List Bool → List ℕ → List SsaUnit → Access → Bool
is_respected_by flags places us x = not (is_noalias flags x) || keeps_apart_from places x us

abbrev pub are_respected : List Bool → List ℕ → List SsaUnit → Bool
are_respected flags places us =
    list_all (λ u. option_map_or (is_respected_by flags places us) (access_of u) true) us
