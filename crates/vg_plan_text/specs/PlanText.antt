-- The lines on a plan: its packs in order, and what it costs.
use Rattle.std.specs.Prelude.{ℕ, ◌*◌, List, [], ◌∷◌, ◌++◌, length, filter, flat_map, Option, Some, None, codes, slice_get}
use Rattle.std.specs.Fmt.{decimal}
use Rattle.std.specs.Option.{is_some}
use Rattle.vg_base.specs.Trap.{◌>>=◌}
use Rattle.vg_program.specs.declared.param.Param.{Param}
use Rattle.vg_program.specs.Text.{address_text, imm_text}
use Rattle.vg_shapes.specs.declared.access.Access.{Access}
use Rattle.vg_shapes.specs.declared.pack.Pack.{Pack}
use Rattle.vg_shapes.specs.declared.pack.Pack.TheVariants.{Stores, Loads, Call}
use Rattle.vg_shapes.specs.declared.ssa.Ssa.{Ssa}
use Rattle.vg_shapes.specs.declared.ssa_unit.SsaUnit.{SsaUnit}
use Rattle.vg_shapes.specs.Description.{Description}
use Rattle.vg_plan_text.specs.declared.costs.Costs.{Costs}
use Rattle.vg_shapes.specs.Layout.{access_of}
use Rattle.vg_shapes.specs.Units.{unit_at}

abbrev pub newline : List ℕ
newline = 10 ∷ []

-- what a unit reads or writes, if it is there and does
abbrev pub accessed : Option SsaUnit → Option Access
accessed unit = unit >>= access_of

-- what the first of these units reads or writes
abbrev pub first_access : Ssa → List ℕ → Option Access
first_access ssa [] = None
first_access ssa (v ∷ vs) = accessed (unit_at ssa v)

-- `pack load 16 p+4`: how many bytes so many accesses as this one have, and where the first stands
abbrev pub access_line : List Param → List ℕ → ℕ → Option Access → List ℕ
access_line params word count None = []
access_line params word count (Some a) =
    codes "pack " ++ word ++ codes " " ++ decimal (count * a.size) ++ codes " "
    ++ address_text params a.address ++ newline

-- `pack call NAME imm 27 lanes 4`: an instance, and how many lanes it computes
abbrev pub call_line : Option Description → ℕ → List ℕ
call_line None count = []
call_line (Some d) count =
    codes "pack call " ++ d.name ++ imm_text d.imm ++ codes " lanes " ++ decimal count ++ newline

abbrev pub pack_line : List Param → List Description → Ssa → Pack → List ℕ
pack_line params ds ssa (Stores us) =
    access_line params (codes "store") (length us) (first_access ssa us)
pack_line params ds ssa (Loads us) =
    access_line params (codes "load") (length us) (first_access ssa us)
pack_line params ds ssa (Call d lanes) =
    call_line (slice_get ds d) (length (filter is_some lanes))

-- `plan cost 2 plain 4 scalar 2`
abbrev pub cost_line : Costs → List ℕ
cost_line costs =
    codes "plan cost " ++ decimal costs.plan ++ codes " plain " ++ decimal costs.plain
    ++ codes " scalar " ++ decimal costs.scalar ++ newline

-- a line for each pack, and the line on costs
abbrev pub plan_text : List Param → List Description → Ssa → List Pack → Costs → List ℕ
plan_text params ds ssa plan costs =
    flat_map (pack_line params ds ssa) plan ++ cost_line costs
