use Rattle.std.proofs.Common.{◌≡◌, ◌+◌, ◌++◌, [], ◌∷◌, length, map, drop, get_or, sym, ap, subst, ◌∙◌, arith}
use Rattle.vg_pool.specs.Pool.{tree_at}
use Rattle.vg_lift.specs.Join.{join, join_registers}
use Rattle.vg_lift.specs.Views.{bits_of}
use Rattle.vg_lift.specs.States.{AllFit}
use Rattle.vg_lift.proofs.StateSteps.{registers_step, registers_kept, register_behind, width_behind}
use Rattle.vg_lift.proofs.join_states.join_all_registers.Goals as goal

pub registers-preserved : goal.registers-preserved
registers-preserved c =
    let old = c.args.pool.now in
    let now = c.registers.pool in
    let new = c.join.new.pool in
    let done = c.registers.done.items in
    let bits = c.in_ok-bits.bits.items in
    let xs = c.args.xs.now in
    let ys = c.args.ys.now in
    let i = c.registers.place in
    let t = tree_at now c.args.c in
    let inv = c.registers.invariant in
    let pushed : c.push.new.self.items ≡ done ++ bits ∷ [] = c.in_ok-push.ensures.items ∙ ap (λ v. done ++ v ∷ []) c.from_vec.ensures in
    let joined : bits_of new bits ≡ join t (bits_of now (get_or xs i [])) (bits_of now (get_or ys i [])) =
    c.in_ok-bits.ensures.is ∙ ap (λ b. join t (bits_of now b) (bits_of now c.bits_at-in-registers.result.now)) c.bits_at.ensures
    ∙ ap (λ b. join t (bits_of now (get_or xs i [])) (bits_of now b)) c.bits_at-in-registers.ensures in
    let same = registers_step old now new c.args.c i bits xs ys done c.registers-test.true c.requires.same inv.keeps c.join.ensures.keeps c.requires.condition c.requires.xs c.requires.ys inv.fit joined in
    record {
      same = ap (λ l. map (bits_of new) l ++ join_registers (tree_at old c.args.c) (map (bits_of old) (drop (i + 1) xs)) (map (bits_of old) (drop (i + 1) ys))) pushed ∙ same ∙ inv.same;
      fit = subst (AllFit new) (sym pushed) (register_behind new done bits (registers_kept now new done c.join.ensures.keeps inv.fit) c.in_ok-bits.ensures.fit);
      widths = ap (map length) pushed ∙ width_behind old now new t xs ys done bits i c.registers-test.true c.requires.same joined inv.widths;
      keeps = record { nodes = omega (arith, inv.keeps.nodes, c.join.ensures.keeps.nodes); trees = λ n h. c.join.ensures.keeps.trees n (omega (arith, inv.keeps.nodes)) ∙ inv.keeps.trees n h };
    }
