-- A kernel and a program with loads more that nothing uses, so that both load a byte equally often which no store
-- of the kernel may touch.
use Rattle.std.specs.Prelude.{ℕ, ◌+◌, ◌-◌, ◌^◌, max, pos, negsuc, ℤ, Bool, true, false, not, ◌&&◌, ◌||◌, nat_eq, nat_le, nat_lt, List, [], ◌∷◌, ◌++◌, length, map, replicate, slice_get, Option, unwrap_or, if◌then◌else◌}
use Rattle.std.specs.List.{list_all, list_any}
use Rattle.std.specs.Option.{is_some, option_map_or}
use Rattle.vg_base.specs.declared.address.Address.{Address}
use Rattle.vg_base.specs.declared.width.Width.TheVariants.{W8}
use Rattle.vg_program.specs.declared.line.Line.{Line}
use Rattle.vg_program.specs.declared.line.Line.TheVariants as line
use Rattle.vg_program.specs.declared.program.Program.{Program}
use Rattle.vg_shapes.specs.declared.access.Access.{Access}
use Rattle.vg_shapes.specs.declared.ssa.Ssa.{Ssa}
use Rattle.vg_shapes.specs.declared.ssa_unit.SsaUnit.{SsaUnit}
use Rattle.vg_shapes.specs.declared.ssa_unit.SsaUnit.TheVariants.{Load, Store, Operation}
use Rattle.vg_shapes.specs.Layout.{access_of, noalias_flags}
use Rattle.vg_shapes.specs.Order.{numbers_from}
use Rattle.vg_rewrite.specs.Rewritten.{are_few, over}
use Rattle.vg_catalog.specs.Entries.{Entry}
use Rattle.vg_events.specs.Events.{kernel_labels, Label, labels_of, unit_labels}
use Rattle.vg_events.specs.Lines.{line_labels}
use Rattle.vg_events.specs.Ranks.{count_label}
use Rattle.vg_known.specs.Difference.{Difference, uneven_label}
use Rattle.vg_known.specs.WiderDifference.{wider_difference}

-- ---- bytes that stores may touch

abbrev pub flag_of : List Bool → ℕ → Bool
flag_of flags p = unwrap_or (slice_get flags p) false

-- a store through another pointer, where neither is noalias, may write any byte of this one
abbrev pub may_meet : List Bool → ℕ → SsaUnit → Bool
may_meet flags p (Load a w) = false
may_meet flags p (Store a w x) =
    not (nat_eq a.pointer p) && (not (flag_of flags p) && not (flag_of flags a.pointer))
may_meet flags p (Operation op w k xs) = false

abbrev pub is_met : List Bool → List SsaUnit → ℕ → Bool
is_met flags us p = list_any (may_meet flags p) us

-- of each pointer, whether one of the stores may write any of its bytes
abbrev pub met_pointers : List Bool → List SsaUnit → List Bool
met_pointers flags us = map (is_met flags us) (numbers_from 0 (length flags))

abbrev pub store_at : Address → Label
store_at a = record { writes = true; address = a }

-- how many of these events each label has
abbrev pub counts : List Label → Label → ℕ
counts ls l = count_label l ls

-- by a store of the kernel, which has so many events of each label: at this byte, or through another pointer
abbrev pub is_touched : List Bool → (Label → ℕ) → Address → Bool
is_touched met k a = unwrap_or (slice_get met a.pointer) true || nat_lt 0 (k (store_at a))

-- ---- loads more of the kernel

-- no store touches the byte, and the program loads it, which has so many events of each label
abbrev pub is_common : List Bool → (Label → ℕ) → (Label → ℕ) → Label → Bool
is_common met k p l = not (is_touched met k l.address) && nat_lt 0 (p l)

-- the most loads that the program has more of one of these bytes
abbrev pub most_lacking : (Label → ℕ) → (Label → ℕ) → List Label → ℕ
most_lacking k p [] = 0
most_lacking k p (l ∷ ls) = max (p l - k l) (most_lacking k p ls)

-- how often a load is made once more: until the program loads none of its bytes more often
abbrev pub copies_for : List Bool → (Label → ℕ) → (Label → ℕ) → Access → ℕ
copies_for met k p x =
    if not x.writes && list_all (is_common met k p) (labels_of x) then most_lacking k p (labels_of x)
    else 0

abbrev pub copies_of : List Bool → (Label → ℕ) → (Label → ℕ) → SsaUnit → ℕ
copies_of met k p u = option_map_or (copies_for met k p) (access_of u) 0

-- the loads that are made once more for units, where these are the events of the kernel so far, and those of
-- the program
abbrev pub added_units : List Bool → List Label → List Label → List SsaUnit → List SsaUnit
added_units met ks ps [] = []
added_units met ks ps (u ∷ us) =
    let copies = replicate (copies_of met (counts ks) (counts ps) u) u in
    copies ++ added_units met (ks ++ unit_labels copies) ps us

-- ---- loads more of the program

-- the kernel loads the byte more often
abbrev pub is_missing : List Bool → (Label → ℕ) → (Label → ℕ) → Label → Bool
is_missing met k p l = not l.writes && (is_common met k p l && nat_lt (p l) (k l))

-- the labels of the loads that the program lacks among these, where these are the events of the kernel and
-- of the program so far
abbrev pub missing : List Bool → List Label → List Label → List Label → List Label
missing met ks ps [] = []
missing met ks ps (l ∷ ls) =
    if is_missing met (counts ks) (counts ps) l
    then l ∷ missing met ks (ps ++ l ∷ []) ls
    else missing met ks ps ls

abbrev pub is_offset : ℤ → Bool
is_offset (pos n) = nat_lt n (2 ^ 31)
is_offset (negsuc n) = nat_lt n (2 ^ 31)

abbrev pub has_offset : Label → Bool
has_offset l = is_offset l.address.offset

-- a load of one byte
abbrev pub byte_load : Label → Line
byte_load l = line.Load W8 l.address

-- ---- both

-- what is added to a kernel and to a program
pub record Added : Type 0 where
  pub units : List SsaUnit
  pub loads : List Label

abbrev pub added : Ssa → Program → Added
added ssa p =
    let met = met_pointers (noalias_flags ssa) ssa.units in
    let units = added_units met (kernel_labels ssa) (line_labels p.lines) ssa.units in
    record {
      units = units;
      loads =
          missing met (unit_labels (ssa.units ++ units)) (line_labels p.lines)
          (unit_labels (ssa.units ++ units));
    }

-- a kernel has at most 8,192 loads and operations, a program costs less than 2 ^ 32, and an offset has 32
-- bits with a sign
abbrev pub fits : Ssa → Program → Added → Bool
fits ssa p x =
    nat_le (length x.units) 8192
    && (are_few (ssa.units ++ x.units) && (list_all has_offset x.loads && nat_lt (p.cost + length x.loads) (2 ^ 32)))

-- a kernel and a program
pub record Sides : Type 0 where
  pub ssa : Ssa
  pub program : Program

-- a program with loads of these bytes at its end
abbrev pub with_loads : Program → List Label → Program
with_loads p loads = record {
  name = p.name;
  params = p.params;
  lines = p.lines ++ map byte_load loads;
  cost = p.cost + length loads;
  scalar = p.scalar;
}

abbrev pub with_added : Ssa → Program → Added → Sides
with_added ssa p x =
    record { ssa = over ssa (ssa.units ++ x.units); program = with_loads p x.loads }

-- both with their loads more; as they are where each byte is accessed equally often, and where what is added
-- does not fit
abbrev pub levelled : Ssa → Program → Sides
levelled ssa p =
    if is_some (uneven_label (kernel_labels ssa) (line_labels p.lines)) && fits ssa p (added ssa p)
    then with_added ssa p (added ssa p)
    else record { ssa = ssa; program = p }

-- ---- the first difference of the two

unfoldable pub levelled_difference : List Entry → Ssa → Program → Option Difference
levelled_difference entries ssa p =
    wider_difference entries (levelled ssa p).ssa (levelled ssa p).program
