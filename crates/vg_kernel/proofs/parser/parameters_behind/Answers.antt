use Rattle.std.proofs.Common.{◌≡◌, ◌+◌, ◌-◌, ◌∙◌, sym, subst, vec_len, arith}
use Rattle.vg_text.specs.Lexing.{reading}
use Rattle.vg_kernel.specs.Gives.{Fails}
use Rattle.vg_kernel.proofs.ParameterLists.{comma-fails, parameters-end, parameters-more, parameter-fails}
use Rattle.vg_kernel.proofs.parser.parameters_behind.Goals as goal

pub returns-in-Err-clause-read : goal.returns-in-Err-clause-read
returns-in-Err-clause-read c = subst (Fails c.in-Err.fault) c.parameters.invariant.read (comma-fails (16 - vec_len c.parameters.done) c.parameters.done.items (reading c.parameters.lexer) c.in-Err.fault c.in-Err.ensures.read)

pub returns-then-not-more-clause-read : goal.returns-then-not-more-clause-read
returns-then-not-more-clause-read c =
    sym c.parameters.invariant.read ∙ parameters-end (16 - vec_len c.parameters.done) c.parameters.done.items (reading c.parameters.lexer) (reading c.in-Ok.found.1) c.in-Ok.found.0 c.in-Ok.ensures.read c.if-not-more.true

pub parameters-preserved : goal.parameters-preserved
parameters-preserved c =
    let room : (16 - vec_len c.parameters.done) ≡ (16 - vec_len c.push.new.self) + 1 = omega (arith, c.in_ok-push-in-Ok-parameter.ensures.len) in
    record {
      room = omega (arith, c.in_ok-push-in-Ok-parameter.ensures.len);
      read = rw (c.in_ok-push-in-Ok-parameter.ensures.items) (parameters-more (16 - vec_len c.parameters.done) (16 - vec_len c.push.new.self) c.parameters.done.items c.in-Ok-parameter.next (reading c.parameters.lexer) (reading c.in-Ok.found.1) (reading c.in-Ok-parameter.behind) c.in-Ok.found.0 room c.in-Ok.ensures.read c.if-not-more.false (rw c.as_slice.ensures.value at c.in-Ok-parameter.ensures.read)
          ∙ c.parameters.invariant.read);
    }

pub returns-in-Err-parameter-clause-read : goal.returns-in-Err-parameter-clause-read
returns-in-Err-parameter-clause-read c =
    subst (Fails c.in-Err-parameter.fault) c.parameters.invariant.read
    (parameter-fails (16 - vec_len c.parameters.done) c.parameters.done.items (reading c.parameters.lexer) (reading c.in-Ok.found.1) c.in-Ok.found.0 c.in-Err-parameter.fault (omega arith) c.in-Ok.ensures.read c.if-not-more.false (rw c.as_slice.ensures.value at c.in-Err-parameter.ensures.read))
