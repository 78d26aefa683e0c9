-- No unit is in two load groups of a register: groups are parts of runs, and runs have no unit in common.
use Rattle.std.proofs.Common.{ℕ, List, sym, subst}
use Rattle.std.specs.List.{flat_map}
use Rattle.vg_group_laws.specs.Laws.{AreApart}
use Rattle.vg_group_laws.specs.Runs.{PlacedLoad}
use Rattle.vg_group_laws.proofs.Cutting.{groups-cut}
use Rattle.vg_group_laws.proofs.Listed.{begins-unique}
use Rattle.vg_group_laws.proofs.Runs.{run-unique, run-whole}
use Rattle.vg_group_laws.proofs.Starts.{one-run}
use Rattle.vg_group_laws.proofs.Unrepeated.{flat-flat, one-of, one-place, unique-flat, unique-front, unique-of}
use Rattle.vg_kernel_plans.specs.LoadGroups.{first_loads, groups_in, load_groups, run_begins, run_of}
use Rattle.vg_plans.specs.Members.{Has}
use Rattle.vg_plans.proofs.Members.{Unique, has-left}
use Rattle.vg_shapes.specs.declared.ssa.Ssa.{Ssa}
use Rattle.vg_shapes.specs.Pack.{units_of}

-- the units of the groups of a run, one after the other
abbrev group_units : Ssa → ℕ → PlacedLoad → List ℕ
group_units ssa register l = flat_map units_of (groups_in register (first_loads ssa) l)

groups-in-run : (ssa : Ssa) (register : ℕ) (l : PlacedLoad) (v : ℕ) → Has v (group_units ssa register l) → Has v (run_of (first_loads ssa) l)
groups-in-run ssa register l v h =
    let c = groups-cut register (first_loads ssa) l in
    subst (Has v) (sym c.front) (has-left v (group_units ssa register l) c.left h)

groups-unique : (ssa : Ssa) (register : ℕ) (l : PlacedLoad) → Unique (group_units ssa register l)
groups-unique ssa register l =
    let c = groups-cut register (first_loads ssa) l in
    unique-front (group_units ssa register l) c.left (subst Unique c.front (run-unique ssa l.width l.address (run_of (first_loads ssa) l) (run-whole ssa l)))

all-unique : (ssa : Ssa) (register : ℕ) → Unique (flat_map units_of (load_groups ssa register))
all-unique ssa register =
    subst Unique (sym (flat-flat units_of (groups_in register (first_loads ssa)) (run_begins (first_loads ssa))))
    (unique-flat (group_units ssa register) (run_begins (first_loads ssa)) (begins-unique ssa) (λ l h. groups-unique ssa register l)
    (λ l m v h k p q. one-run ssa l m v h k (groups-in-run ssa register l v p) (groups-in-run ssa register m v q)))

pub groups-apart : (ssa : Ssa) (register : ℕ) → AreApart (load_groups ssa register)
groups-apart ssa register =
    let u = all-unique ssa register in
    record {
      one_group = one-of units_of (load_groups ssa register) u;
      once = λ p i j v h e g. one-place (units_of p) (unique-of units_of p (load_groups ssa register) u h) i j v e g;
    }
