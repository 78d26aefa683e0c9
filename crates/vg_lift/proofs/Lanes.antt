-- The value of the term of a lane is the lane.
use Rattle.std.proofs.Common.{◌≡◌, ◌+◌, ◌*◌, ap, arith, [], ◌∷◌, ◌++◌, length, get_or}
use Rattle.std.specs.Prelude.{map, take}
use Rattle.vg_base.specs.Bits.{num}
use Rattle.vg_shapes.specs.Registers.{env_of}
use Rattle.vg_shapes.proofs.Readings.{leaves-read}
use Rattle.vg_script.specs.Cells.{after}
use Rattle.vg_lift.specs.LaneTerm.{lifted, first_state, of_number, parameters_from}
use Rattle.vg_lift.specs.Means.{first_cells, LaneTermsMeanTheirLanes}
use Rattle.vg_lift.proofs.Holding.{slice-lifts}
use Rattle.vg_lift.proofs.Entering.{begun-lifts, parameters-passed}
use Rattle.vg_lift.proofs.Lifting.{lifted-lifts}

pub lane-terms-mean-their-lanes : LaneTermsMeanTheirLanes
lane-terms-mean-their-lanes i formed static regs imm given width lane some inside =
    let reads = leaves-read regs given.bits in
    let ns = map num regs ++ imm ∷ [] in
    let start = begun-lifts (env_of regs) regs i.widths i.variables (take i.parameters (parameters_from 0 (length regs) ++ of_number imm ∷ [])) (take i.parameters ns) given.bits
    (parameters-passed (env_of regs) regs i.widths i.parameters 0 imm regs (λ j. let e : 0 + j ≡ j = omega arith in ap (λ k. get_or regs k []) e) given.widths) in
    let left = lifted-lifts i.script (env_of regs) regs i.widths (first_state i (length regs) imm) (first_cells i ns) reads given.bits formed static start in
    let p = slice-lifts (env_of regs) regs i.widths (lifted i.script (first_state i (length regs) imm)) (after i.script (first_cells i ns)) i.result (lane * width) width reads left some inside in
    record { formed = p.formed; wide = p.width; means = p.same }
