use Rattle.std.proofs.Common.{map, sym, ap, subst, ◌∙◌}
use Rattle.vg_pool.specs.Pool.{tree_at}
use Rattle.vg_lift.specs.Join.{join_registers, join_variables}
use Rattle.vg_lift.specs.Views.{bits_of}
use Rattle.vg_lift.specs.States.{AreNodes}
use Rattle.vg_lift.proofs.StateSteps.{nodes_kept, trees_kept, registers_kept, all_kept, state_at}
use Rattle.vg_lift.proofs.join_states.join_states.Goals as goal

pub join_all_variables-requires-clause-xs : goal.join_all_variables-requires-clause-xs
join_all_variables-requires-clause-xs c =
    subst (AreNodes c.join_all_registers.new.pool) (sym c.as_slice-3.ensures.value) (nodes_kept c.args.pool.now c.join_all_registers.new.pool c.args.first.now.variables.items c.join_all_registers.ensures.keeps c.requires.first.variables)

pub join_all_variables-requires-clause-ys : goal.join_all_variables-requires-clause-ys
join_all_variables-requires-clause-ys c =
    subst (AreNodes c.join_all_registers.new.pool) (sym c.as_slice-4.ensures.value) (nodes_kept c.args.pool.now c.join_all_registers.new.pool c.args.second.now.variables.items c.join_all_registers.ensures.keeps c.requires.second.variables)

pub returns-clause-is : goal.returns-clause-is
returns-clause-is c =
    let old = c.args.pool.now in
    let mid = c.join_all_registers.new.pool in
    let new = c.join_all_variables.new.pool in
    let f = c.args.first.now in
    let s = c.args.second.now in
    let k = c.join_all_registers.ensures.keeps in
    let t = tree_at old c.args.c in
    state_at _ _ _ _
    (all_kept mid new c.in_ok-registers.registers.items c.join_all_variables.ensures.keeps c.in_ok-registers.ensures.fit ∙ c.in_ok-registers.ensures.is
    ∙ ap (λ l. join_registers t (map (bits_of old) l) (map (bits_of old) c.as_slice-2.result.now)) c.as_slice.ensures.value
    ∙ ap (λ l. join_registers t (map (bits_of old) f.registers.items) (map (bits_of old) l)) c.as_slice-2.ensures.value)
    (c.in_ok-variables.ensures.is
    ∙ ap (λ u. join_variables u (map (tree_at mid) c.as_slice-3.result.now) (map (tree_at mid) c.as_slice-4.result.now)) (k.trees c.args.c c.requires.condition.within)
    ∙ ap (λ l. join_variables t (map (tree_at mid) l) (map (tree_at mid) c.as_slice-4.result.now)) c.as_slice-3.ensures.value
    ∙ ap (λ l. join_variables t (map (tree_at mid) f.variables.items) (map (tree_at mid) l)) c.as_slice-4.ensures.value
    ∙ ap (λ l. join_variables t l (map (tree_at mid) s.variables.items)) (trees_kept old mid f.variables.items k c.requires.first.variables)
    ∙ ap (λ l. join_variables t (map (tree_at old) f.variables.items) l) (trees_kept old mid s.variables.items k c.requires.second.variables))

pub returns-clause-fits : goal.returns-clause-fits
returns-clause-fits c = record {
  registers = registers_kept c.join_all_registers.new.pool c.join_all_variables.new.pool c.in_ok-registers.registers.items c.join_all_variables.ensures.keeps c.in_ok-registers.ensures.fit;
  variables = c.in_ok-variables.ensures.nodes;
}
