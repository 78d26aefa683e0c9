use Rattle.std.proofs.Common.{◌≡◌, ◌+◌, ◌-◌, ◌∙◌, sym, subst, vec_len, arith}
use Rattle.vg_catalog.specs.Lexing.{left_of}
use Rattle.vg_catalog.specs.Gives.{Fails}
use Rattle.vg_catalog.proofs.ParamLists.{word-fails, params-end, params-full, params-more, param-fails}
use Rattle.vg_catalog.proofs.header_reading.more_params.Goals as goal

pub returns-in-Err : goal.returns-in-Err
returns-in-Err c = record {
  read = subst (Fails c.in-Err.fault) c.params.invariant.read
      (word-fails (4 - vec_len c.params.done) c.params.done.items (left_of c.params.reader) c.in-Err.fault (omega arith) c.in-Err.ensures.read);
}

pub returns-then-not-more : goal.returns-then-not-more
returns-then-not-more c = record {
  read = sym c.params.invariant.read
      ∙ params-end (4 - vec_len c.params.done) c.params.done.items (left_of c.params.reader) (left_of c.accept.new.self) c.in-Ok.more (omega arith) c.in-Ok.ensures.read c.if-not-more.true;
}

pub params-preserved : goal.params-preserved
params-preserved c =
    let one_less : (4 - vec_len c.params.done) ≡ (4 - vec_len c.push-in-Ok-param.new.self) + 1 = omega (arith, c.in_ok-push-in-Ok-param.ensures.len) in
    record {
      room = omega (arith, c.in_ok-push-in-Ok-param.ensures.len);
      read = rw c.in_ok-push-in-Ok-param.ensures.items (params-more (4 - vec_len c.params.done) (4 - vec_len c.push-in-Ok-param.new.self) c.params.done.items c.in-Ok-param.param (left_of c.params.reader) (left_of c.accept.new.self) (left_of c.param.new.reader) c.in-Ok.more one_less c.in-Ok.ensures.read c.if-not-more.false (rw c.as_slice.ensures.value at c.in-Ok-param.ensures.read)
          ∙ c.params.invariant.read);
    }

pub returns-in-Err-param : goal.returns-in-Err-param
returns-in-Err-param c = record {
  read = subst (Fails c.in-Err-param.fault) c.params.invariant.read
      (param-fails (4 - vec_len c.params.done) c.params.done.items (left_of c.params.reader) (left_of c.accept.new.self) c.in-Ok.more c.in-Err-param.fault (omega arith) c.in-Ok.ensures.read c.if-not-more.false (rw c.as_slice.ensures.value at c.in-Err-param.ensures.read));
}

pub returns : goal.returns
returns c = record {
  read = sym c.params.invariant.read ∙ params-full (4 - vec_len c.params.done) c.params.done.items (left_of c.params.reader) (omega arith);
}
