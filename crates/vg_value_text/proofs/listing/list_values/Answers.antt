use Rattle.std.proofs.Common.{rules, ◌≡◌, ◌++◌, map}
use Rattle.vg_compile.specs.Means.{param_of}
use Rattle.vg_kernel.specs.Tree.{tree_of}
use Rattle.vg_shapes.specs.Units.{arguments}
use Rattle.vg_value_text.specs.Listed.{argument_lines, unit_lines}
use Rattle.vg_value_text.proofs.Shown.{few-arguments, few-values, shown, values-listed}
use Rattle.vg_value_text.proofs.listing.list_values.Goals as goal

pub first_unit-first-requires : goal.first_unit-first-requires
first_unit-first-requires c = few-arguments c.in_ok-ssa.ssa c.in_ok-ssa.ensures.sound

pub put_units-requires-clause-few : goal.put_units-requires-clause-few
put_units-requires-clause-few c =
    let ssa = c.in_ok-ssa.ssa in
    rw c.first_unit-first.ensures (few-values ssa c.in_ok-ssa.ensures.sound)

pub returns : goal.returns
returns c =
    let ssa = c.in_ok-ssa.ssa in
    let more = c.args.more in
    let params = c.in_ok-params.params in
    let lines : c.put_units.new.to.items ≡ argument_lines 0 params.items ++ unit_lines params.items (shown ssa more) (arguments ssa) ssa.units
    = search (rules, c.in_ok-put_units.ensures, c.in_ok-put_arguments.ensures, c.new-lines.ensures, c.first_unit-first.ensures, c.as_slice-3.ensures) in
    let over : params.items ≡ map param_of (tree_of c.args.kernel.now).params = search (rules, c.in_ok-params.ensures, c.as_slice.ensures) in
    values-listed (tree_of c.args.kernel.now) ssa more params.items _ over c.in_ok-ssa.ensures.exact c.in_ok-ssa.ensures.cuts lines
