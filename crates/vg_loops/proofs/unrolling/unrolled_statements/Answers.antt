use Rattle.std.proofs.Common.{◌≡◌, ◌+◌, ◌-◌, ◌*◌, ◌≤◌, ◌<◌, ◌^◌, ◌++◌, ℕ, List, [], length, map, refl, sym, ap, subst, ◌∙◌, arith, append_assoc, append-nil}
use Rattle.vg_kernel.specs.Tree.{Statement, statement_of}
use Rattle.vg_loop_laws.specs.Unrolled.{moved_statement, names_given, turn_statements, unrolled_from}
use Rattle.vg_loops.specs.MayMove.{MayAllMove}
use Rattle.vg_loops.specs.View.{loop_of}
use Rattle.vg_loops.proofs.MayTurn.{few-before, turn-may, turns-from, turns-over}
use Rattle.vg_loops.proofs.unrolling.unrolled_statements.Goals as goal

pub overflow_mul-turn : goal.overflow_mul-turn
overflow_mul-turn c =
    let l = loop_of c.args.source.now in
    let names = c.names_given-names.ensures ∙ ap (λ ss. names_given (map statement_of ss)) c.as_slice-statements.ensures in
    let few : c.turns.turn * c.names_given-names.result < 2 ^ 32 = subst (λ (k : ℕ). c.turns.turn * k < 2 ^ 32) (sym names)
    (few-before l c.args.turns c.turns.turn c.requires.limits c.turns-test.true) in
    omega (arith, few)

pub put_turn-requires : goal.put_turn-requires
put_turn-requires c =
    let l = loop_of c.args.source.now in
    let names = c.names_given-names.ensures ∙ ap (λ ss. names_given (map statement_of ss)) c.as_slice-statements.ensures in
    let may = turn-may l c.args.turns c.turns.turn c.requires.well_formed c.requires.limits c.turns-test.true in
    rw (c.as_slice-steps.ensures, c.as_slice-statements.ensures, names) may

pub turns-preserved : goal.turns-preserved
turns-preserved c =
    let l = loop_of c.args.source.now in
    let ss = l.kernel.statements in
    let names = c.names_given-names.ensures ∙ ap (λ ss. names_given (map statement_of ss)) c.as_slice-statements.ensures in
    let more = unrolled_from l.steps ss (c.args.turns - (c.turns.turn + 1)) (c.turns.turn + 1) in
    let less = c.turns-test.true in
    let old = map statement_of c.turns.unrolled.items in
    let put : map statement_of c.put_turn.new.to.items ≡ old ++ turn_statements l.steps ss c.turns.turn =
    c.in_ok-put_turn.ensures
    ∙ (λ i. old ++ map (moved_statement (c.as_slice-steps.ensures i) c.turns.turn (c.turns.turn * names i)) (map statement_of (c.as_slice-statements.ensures i))) in
    record {
      room = omega (arith, less);
      same =
          ap (λ (xs : List Statement). xs ++ more) put
          ∙ append_assoc old (turn_statements l.steps ss c.turns.turn) more
          ∙ ap (λ (xs : List Statement). old ++ xs) (sym (turns-from l.steps ss c.args.turns c.turns.turn less))
          ∙ c.turns.invariant.same;
    }

pub returns : goal.returns
returns c =
    let l = loop_of c.args.source.now in
    sym (append-nil (map statement_of c.turns.unrolled.items))
    ∙ ap (λ (xs : List Statement). map statement_of c.turns.unrolled.items ++ xs)
    (sym (turns-over l.steps l.kernel.statements c.args.turns c.turns.turn (let over = c.turns-test.false in omega (arith, over))))
    ∙ c.turns.invariant.same
