use Rattle.std.proofs.Common.{◌≡◌, ◌+◌, ◌-◌, ◌∙◌, sym, subst, map, vec_len, arith}
use Rattle.std.proofs.lemmas.List.{map-append}
use Rattle.vg_text.specs.Lexing.{reading, spelled_of}
use Rattle.vg_kernel.specs.Gives.{Fails}
use Rattle.vg_kernel.specs.Scanning.{scan_of, step_of}
use Rattle.vg_kernel.specs.Tree.{statement_of}
use Rattle.vg_kernel.proofs.Lists.{word-fails, statements-end, statement-fails, statements-more, statements-full, full-fails}
use Rattle.vg_kernel.proofs.statements.statements.Goals as goal

pub returns-in-Err : goal.returns-in-Err
returns-in-Err c = record {
  read = subst (Fails c.in-Err.fault) c.statements.invariant.read
      (word-fails (4096 - vec_len c.statements.done) c.statements.names (map statement_of c.statements.done.items) (scan_of c.statements.scan) c.in-Err.fault (omega arith) c.in-Err.ensures.read);
}

pub returns-then-is_text : goal.returns-then-is_text
returns-then-is_text c = record {
  read = sym c.statements.invariant.read
      ∙ statements-end (4096 - vec_len c.statements.done) c.statements.names (map statement_of c.statements.done.items) (scan_of c.statements.scan) (spelled_of c.in-Ok.found.0, reading c.in-Ok.found.1) (omega arith) c.in-Ok.ensures.read (sym c.is_text.ensures ∙ c.if-is_text.true);
}

pub statements-preserved : goal.statements-preserved
statements-preserved c =
    let len : vec_len c.push.new.self ≡ vec_len c.statements.done + 1 = c.in_ok-push-in-Ok-statement.ensures.len in
    let left : 4096 - vec_len c.push.new.self ≡ 4096 - vec_len c.statements.done - 1 = omega (arith, len) in
    record {
      room = omega (arith, len);
      params = c.in-Ok-statement.ensures.params ∙ c.statements.invariant.params;
      assigned = omega (arith, len, c.in-Ok-statement.ensures.assigned);
      read = rw (left, c.in_ok-push-in-Ok-statement.ensures.items, map-append) (sym (statements-more (4096 - vec_len c.statements.done) c.statements.names (map statement_of c.statements.done.items) (scan_of c.statements.scan) (spelled_of c.in-Ok.found.0, reading c.in-Ok.found.1) (step_of c.statement.new.names (c.in-Ok-statement.step, c.in-Ok-statement.behind)) (omega arith) c.in-Ok.ensures.read (sym c.is_text.ensures ∙ c.if-is_text.false) c.in-Ok-statement.ensures.read)
          ∙ c.statements.invariant.read);
    }

pub returns-in-Err-statement : goal.returns-in-Err-statement
returns-in-Err-statement c = record {
  read = subst (Fails c.in-Err-statement.fault) c.statements.invariant.read
      (statement-fails (4096 - vec_len c.statements.done) c.statements.names (map statement_of c.statements.done.items) (scan_of c.statements.scan) (spelled_of c.in-Ok.found.0, reading c.in-Ok.found.1) c.in-Err-statement.fault (omega arith) c.in-Ok.ensures.read (sym c.is_text.ensures ∙ c.if-is_text.false) c.in-Err-statement.ensures.read);
}

pub returns-in-Ok-closing : goal.returns-in-Ok-closing
returns-in-Ok-closing c =
    let none : 4096 - vec_len c.statements.done ≡ 0 = omega arith in
    record { read = sym c.statements.invariant.read ∙ rw none (statements-full c.statements.names (map statement_of c.statements.done.items) (scan_of c.statements.scan) (c.in-Ok-closing.place, reading c.in-Ok-closing.rest) c.in-Ok-closing.ensures) }

pub returns : goal.returns
returns c =
    let none : 4096 - vec_len c.statements.done ≡ 0 = omega arith in
    record { read = subst (Fails c.in-Err-closing.fault) c.statements.invariant.read (rw none (full-fails c.statements.names (map statement_of c.statements.done.items) (scan_of c.statements.scan) c.in-Err-closing.fault c.in-Err-closing.ensures)) }
