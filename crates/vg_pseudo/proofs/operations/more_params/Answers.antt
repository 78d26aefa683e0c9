use Rattle.std.proofs.Common.{◌≡◌, [], Ok, subst, arith}
use Rattle.std.specs.Prelude.{codes, List}
use Rattle.vg_text.specs.Lexing.{reading}
use Rattle.vg_pseudo.specs.declared.operation.DefineParam.{DefineParam}
use Rattle.vg_pseudo.specs.Reads.{Fails}
use Rattle.vg_pseudo.specs.Reader.{accept_at, items_behind}
use Rattle.vg_pseudo.specs.Operations.{param_at}
use Rattle.vg_pseudo.proofs.ItemLists.{test-fails, ends, item-fails, goes_on}
use Rattle.vg_pseudo.proofs.Taking.{accepted-fewer}
use Rattle.vg_pseudo.proofs.operations.more_params.Goals as goal

pub returns-in-Err-clause-read : goal.returns-in-Err-clause-read
returns-in-Err-clause-read c =
    let comma = accept_at (codes ",") in
    let r = reading c.args.lexer.now in
    subst (λ (ps : List DefineParam). Fails c.in-Err.fault (items_behind comma param_at ps r)) c.params.invariant.start
    (test-fails comma param_at (items_behind comma param_at c.push.new.self.items r) c.params.done.items (reading c.params.lexer) c.in-Err.fault c.params.invariant.goes c.in-Err.ensures.read)

pub returns-then-not-more-clause-read : goal.returns-then-not-more-clause-read
returns-then-not-more-clause-read c =
    let comma = accept_at (codes ",") in
    let r = reading c.args.lexer.now in
    subst (λ (ps : List DefineParam). items_behind comma param_at ps r ≡ Ok (c.params.done.items, reading c.accept.new.lexer)) c.params.invariant.start
    (ends comma param_at (items_behind comma param_at c.push.new.self.items r) c.params.done.items (reading c.params.lexer) (reading c.accept.new.lexer) c.in-Ok.more c.params.invariant.goes c.in-Ok.ensures.read c.if-not-more.true)

pub params-smaller : goal.params-smaller
params-smaller c =
    let taken = accepted-fewer 44 [] (reading c.params.lexer) (reading c.accept.new.lexer) c.in-Ok.more c.in-Ok.ensures.read c.if-not-more.false in
    omega (arith, taken, c.in-Ok-param.ensures.fewer)

pub params-preserved : goal.params-preserved
params-preserved c =
    let comma = accept_at (codes ",") in
    let r = reading c.args.lexer.now in
    let fewer = params-smaller c in
    record {
      goes = rw c.in_ok-push-in-Ok-param.ensures.items (goes_on comma param_at (items_behind comma param_at c.push.new.self.items r) c.params.done.items (reading c.params.lexer) (reading c.accept.new.lexer) (reading c.param.new.lexer) c.in-Ok.more c.in-Ok-param.param c.params.invariant.goes c.in-Ok.ensures.read c.if-not-more.false c.in-Ok-param.ensures.read fewer);
      start = c.params.invariant.start;
      fewer = omega (arith, fewer, c.params.invariant.fewer);
    }

pub returns-in-Err-param-clause-read : goal.returns-in-Err-param-clause-read
returns-in-Err-param-clause-read c =
    let comma = accept_at (codes ",") in
    let r = reading c.args.lexer.now in
    subst (λ (ps : List DefineParam). Fails c.in-Err-param.fault (items_behind comma param_at ps r)) c.params.invariant.start
    (item-fails comma param_at (items_behind comma param_at c.push.new.self.items r) c.params.done.items (reading c.params.lexer) (reading c.accept.new.lexer) c.in-Ok.more c.in-Err-param.fault c.params.invariant.goes c.in-Ok.ensures.read c.if-not-more.false c.in-Err-param.ensures.read)
