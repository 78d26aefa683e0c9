-- The first difference between a kernel and a program.
use Rattle.std.specs.Prelude.{ℕ, ◌+◌, Bool, false, not, nat_eq, List, [], ◌∷◌, ◌++◌, length, map, filter, position, take, Option, Some, None, if◌then◌else◌}
use Rattle.std.specs.List.{find}
use Rattle.std.specs.Option.{option_map, option_or}
use Rattle.vg_base.specs.Trap.{◌>>=◌}
use Rattle.vg_base.specs.Width.{bits_of}
use Rattle.vg_terms.specs.Term.{Tree}
use Rattle.vg_terms.specs.Order.{is_same_term}
use Rattle.vg_program.specs.declared.line.Line.{Line}
use Rattle.vg_program.specs.declared.line.Line.TheVariants.{Load, Store, Two, Shift, Resize, Compare, Select, VectorLoad, VectorStore, Constant, Insert, Extract, Call}
use Rattle.vg_program.specs.declared.program.Program.{Program}
use Rattle.vg_shapes.specs.declared.ssa.Ssa.{Ssa}
use Rattle.vg_shapes.specs.declared.ssa_unit.SsaUnit.{SsaUnit}
use Rattle.vg_shapes.specs.declared.ssa_unit.SsaUnit.TheVariants as unit
use Rattle.vg_shapes.specs.Order.{numbers_from}
use Rattle.vg_shapes.specs.Units.{arguments, unit_at}
use Rattle.vg_ssa.specs.ValueTerm as kernel
use Rattle.vg_lift.specs.Gather.{bits_from}
use Rattle.vg_catalog.specs.Entries.{Entry}
use Rattle.vg_events.specs.Events.{kernel_labels, Label}
use Rattle.vg_events.specs.Lines.{line_access, line_labels}
use Rattle.vg_events.specs.Ranks.{by_rank, count_label}
use Rattle.vg_events.specs.UnitOrder.{is_out_of_order, unit_events}
use Rattle.vg_known.specs.Calls.{calls_opaque}
use Rattle.vg_known.specs.Cuts.{gathered}
use Rattle.vg_known.specs.Kernels.{bits_at, kernel_reads, kernel_terms}
use Rattle.vg_known.specs.Known.{event_bits, Known, know_all}
use Rattle.vg_known.specs.Labels.{least_label}
use Rattle.vg_known.specs.Params.{same_head}

-- The name or a parameter; a line that calls an instance whose lanes have no terms, by its number in the
-- text; a label, with the numbers of its events in the kernel and in the program; two units by their
-- numbers; a store by its number, with the terms of the kernel and of the program.
pub data Difference : Type 0 where
  params : Difference
  opaque : ℕ → Difference
  access : Label → ℕ → ℕ → Difference
  order : ℕ → ℕ → Difference
  value : ℕ → Tree → Tree → Difference

-- ---- opaque calls

abbrev pub is_opaque_call : List Entry → Line → Bool
is_opaque_call entries (Call name vs imm bits cost) = calls_opaque entries name imm
is_opaque_call entries (Load w a) = false
is_opaque_call entries (Store w a v) = false
is_opaque_call entries (Two op w l r) = false
is_opaque_call entries (Shift op w v n) = false
is_opaque_call entries (Resize op w from v) = false
is_opaque_call entries (Compare op w l r) = false
is_opaque_call entries (Select w c x y) = false
is_opaque_call entries (VectorLoad z a) = false
is_opaque_call entries (VectorStore z a v) = false
is_opaque_call entries (Constant bs) = false
is_opaque_call entries (Insert v bits n w x) = false
is_opaque_call entries (Extract v n w) = false

-- the first line of the text has the number 1, and the lines stand after it
abbrev pub opaque_line : List Entry → Program → Option Difference
opaque_line entries p =
    option_map (λ i. opaque (i + 2)) (position (is_opaque_call entries) p.lines)

-- ---- counts of events

abbrev pub is_uneven : List Label → List Label → Label → Bool
is_uneven ls ms l = not (nat_eq (count_label l ls) (count_label l ms))

-- the least label of which the two sides have other numbers of events
abbrev pub uneven_label : List Label → List Label → Option Difference
uneven_label ls ms =
    option_map (λ l. access l (count_label l ls) (count_label l ms))
    (least_label (filter (is_uneven ls ms) (ls ++ ms)))

-- ---- order

-- the numbers of units, each with every later one
abbrev pub unit_pairs : List ℕ → List (ℕ × ℕ)
unit_pairs [] = []
unit_pairs (v ∷ vs) = map (λ w. (v, w)) vs ++ unit_pairs vs

abbrev pub unit_numbers : Ssa → List ℕ
unit_numbers ssa = numbers_from (arguments ssa) (length ssa.units)

-- the least two units that are out of order
abbrev pub turned_units : Ssa → List (List ℕ) → Option Difference
turned_units ssa lines =
    option_map (λ p. order p.0 p.1)
    (find (λ p. is_out_of_order ssa lines p.0 p.1) (unit_pairs (unit_numbers ssa)))

-- ---- values

-- whether two terms count as equal, where these terms were met
abbrev pub Equality : Type 0
Equality = List Tree → Tree → Tree → Bool

-- as they stand
abbrev pub equal_terms : Equality
equal_terms met t u = is_same_term t u

-- what is known of both sides: the terms of the kernel, and what the walk over the program leaves
pub record Sides : Type 0 where
  pub terms : List Tree
  pub known : Known

abbrev pub sides_of : List Entry → Ssa → Program → List (List ℕ) → Sides
sides_of entries ssa p lines =
    let kernel = kernel_terms ssa in
    record {
      terms = kernel.terms;
      known = know_all
          (record {
            entries = entries;
            arguments = take (arguments ssa) kernel.terms;
            reads = kernel_reads ssa kernel.terms;
          })
          p.lines lines (record { scalars = []; vectors = []; met = kernel.met; puts = [] });
    }

-- the term of what a store of the kernel writes, and that of what the program writes there
abbrev pub own_term : Sides → SsaUnit → Option Tree
own_term s (unit.Store a w x) =
    Some (gathered s.known.met (bits_from (kernel.operand_term s.terms x) 0 (bits_of w)))
own_term s (unit.Load a w) = None
own_term s (unit.Operation op w k xs) = None

abbrev pub put_term : Sides → Ssa → ℕ → Tree
put_term s ssa v =
    gathered s.known.met (event_bits (bits_at s.known.puts) (unit_events ssa v))

abbrev pub value_by : Equality → Sides → Ssa → ℕ → Option Difference
value_by equal s ssa v =
    (unit_at ssa v >>= own_term s) >>= λ own.
    if equal s.known.met own (put_term s ssa v) then None else Some (value v own (put_term s ssa v))

-- the first that there is
abbrev pub first_of : {A : Type 0} → List (Option A) → Option A
first_of [] = None
first_of (x ∷ xs) = option_or x (first_of xs)

abbrev pub other_value : Equality → List Entry → Ssa → Program → List (List ℕ) → Option Difference
other_value equal entries ssa p lines =
    first_of (map (value_by equal (sides_of entries ssa p lines) ssa) (unit_numbers ssa))

-- ---- the first difference

-- for each line of a program the numbers of its events in the kernel
abbrev pub lines_by_rank : Ssa → Program → List (List ℕ)
lines_by_rank ssa p = by_rank (kernel_labels ssa) (map line_access p.lines)

-- where terms are told to differ that do not count as equal
unfoldable pub difference_by : Equality → List Entry → Ssa → Program → Option Difference
difference_by equal entries ssa p =
    if same_head ssa p
    then first_of
    (opaque_line entries p
    ∷ uneven_label (kernel_labels ssa) (line_labels p.lines)
    ∷ turned_units ssa (lines_by_rank ssa p)
    ∷ other_value equal entries ssa p (lines_by_rank ssa p)
    ∷ [])
    else Some params

abbrev pub difference : List Entry → Ssa → Program → Option Difference
difference entries ssa p = difference_by equal_terms entries ssa p
