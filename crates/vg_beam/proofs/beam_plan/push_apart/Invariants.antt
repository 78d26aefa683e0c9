use Rattle.std.proofs.Common.{◌≡◌, ◌++◌, take}
use Rattle.std.specs.Prelude.{filter}
use Rattle.vg_beam.specs.BeamPlan.{is_apart}
use Rattle.vg_beam.specs.PackTable.{pack_at}
use Rattle.vg_beam.proofs.beam_plan.push_apart.Given as goal

abbrev pub invariant-numbers : goal.invariant-numbers
invariant-numbers l =
    l.apart.items ≡ l.initial.apart.items ++ filter (λ n. is_apart l.plan (pack_at l.pack_table.packs.items n)) (take l.number-index l.numbers)
