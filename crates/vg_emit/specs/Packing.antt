-- The lines of a pack without those of its operands.
use Rattle.std.specs.Prelude.{ℕ, List, ◌∷◌}
use Rattle.vg_shapes.specs.declared.pack.Pack.{Pack}
use Rattle.vg_shapes.specs.Operands.{lanes_of}
use Rattle.vg_kernel_plans.specs.Held.{lane_width_of}
use Rattle.vg_emission.specs.Draft.{Draft, Made}
use Rattle.vg_emission.specs.Emission.{extracts, Job, pack_line, width_for, with_pack}

-- its line on the registers of its operands, and what is taken out of its register
abbrev pub own_lines : Job → Draft → ℕ → Pack → List ℕ → Made
own_lines j d k p registers =
    let width = width_for (lane_width_of j.descriptions j.ssa p) in
    let rest = extracts j (with_pack d k p) d.vectors width 0 (lanes_of p) in
    record { lines = pack_line j p registers ∷ rest.lines; draft = rest.draft }
