use Rattle.std.proofs.Common.{◌≡◌, ◌≤◌, [], map, Ok, sym, ◌∙◌, subst, arith}
use Rattle.std.specs.Prelude.{codes, List}
use Rattle.std.proofs.lemmas.List.{map-append}
use Rattle.std.proofs.lemmas.List.Elements.{All-push}
use Rattle.vg_text.specs.Lexing.{reading}
use Rattle.vg_pseudo.specs.declared.parts.Part as code_part
use Rattle.vg_pseudo.specs.Reads.{Fails}
use Rattle.vg_pseudo.specs.Reader.{accept_at, items_behind}
use Rattle.vg_pseudo.specs.Expressions.{Part, expression_at}
use Rattle.vg_pseudo.specs.Views.{part_of}
use Rattle.vg_pseudo.proofs.ItemLists.{test-fails, ends, item-fails, goes_on}
use Rattle.vg_pseudo.proofs.Joins.{joined-stops, joined-fails, joined-more}
use Rattle.vg_pseudo.proofs.Taking.{accepted-fewer}
use Rattle.vg_pseudo.proofs.expressions.+expressions.Goals as goal

pub joined-returns-in_default-clause-read : goal.joined-returns-in_default-clause-read
joined-returns-in_default-clause-read t c =
    let inner = expression_at c.args.definitions.now c.args.whole c.args.room in
    sym c.joins.invariant.read
    ∙ joined-stops c.args.whole inner c.args.room c.args.level (part_of c.joins.left) (reading c.joins.lexer) c.in-Ok.found (reading c.operator.new.lexer) c.in-Ok.ensures.read c.joins.joins c.in_default.is

pub joined-returns-in-Err-joined_one-clause-read :
    goal.joined-returns-in-Err-joined_one-clause-read
joined-returns-in-Err-joined_one-clause-read t c =
    let inner = expression_at c.args.definitions.now c.args.whole c.args.room in
    subst (λ r. Fails c.in-Err-joined_one.fault r) c.joins.invariant.read
    (joined-fails c.args.whole inner c.args.room c.args.level (part_of c.joins.left) (reading c.joins.lexer) c.in-Ok.found (reading c.operator.new.lexer) c.in-Ok.ensures.read c.joins.joins c.in-Some.op c.in-Err-joined_one.fault c.in-Some.is c.joins-test.true c.in-Err-joined_one.ensures.read)

pub joined-joins-preserved : goal.joined-joins-preserved
joined-joins-preserved t c =
    let inner = expression_at c.args.definitions.now c.args.whole c.args.room in
    record {
      read = sym (joined-more c.args.whole inner c.args.room c.args.level (part_of c.joins.left) (reading c.joins.lexer) c.in-Ok.found (reading c.operator.new.lexer) c.in-Ok.ensures.read c.joins.joins c.in-Some.op (part_of c.in-Ok-joined_one.next) (reading c.joined_one.new.lexer) c.in-Some.is c.joins-test.true c.in-Ok-joined_one.ensures.read)
          ∙ c.joins.invariant.read;
      fewer = omega (arith, c.joins.invariant.fewer, c.in-Ok.ensures.fewer, c.in-Ok-joined_one.ensures.fewer);
      shallow = c.in-Ok-joined_one.ensures.deep;
    }

pub more_arguments-returns-in-Err-clause-read : goal.more_arguments-returns-in-Err-clause-read
more_arguments-returns-in-Err-clause-read t c =
    let comma = accept_at (codes ",") in
    let item = expression_at c.args.definitions.now c.args.whole c.args.room 8 in
    let r = reading c.args.lexer.now in
    subst (λ (ps : List Part). Fails c.in-Err.fault (items_behind comma item ps r)) c.more.invariant.start
    (test-fails comma item (items_behind comma item (map part_of c.push.new.self.items) r) (map part_of c.more.done.items) (reading c.more.lexer) c.in-Err.fault c.more.invariant.goes c.in-Err.ensures.read)

pub more_arguments-returns-then-not-more-clause-read :
    goal.more_arguments-returns-then-not-more-clause-read
more_arguments-returns-then-not-more-clause-read t c =
    let comma = accept_at (codes ",") in
    let item = expression_at c.args.definitions.now c.args.whole c.args.room 8 in
    let r = reading c.args.lexer.now in
    subst (λ (ps : List Part). items_behind comma item ps r ≡ Ok (map part_of c.more.done.items, reading c.accept.new.lexer)) c.more.invariant.start
    (ends comma item (items_behind comma item (map part_of c.push.new.self.items) r) (map part_of c.more.done.items) (reading c.more.lexer) (reading c.accept.new.lexer) c.in-Ok.more c.more.invariant.goes c.in-Ok.ensures.read c.if-not-more.true)

pub more_arguments-more-smaller : goal.more_arguments-more-smaller
more_arguments-more-smaller t c =
    let taken = accepted-fewer 44 [] (reading c.more.lexer) (reading c.accept.new.lexer) c.in-Ok.more c.in-Ok.ensures.read c.if-not-more.false in
    omega (arith, taken, c.in-Ok-expression.ensures.fewer)

pub more_arguments-more-preserved : goal.more_arguments-more-preserved
more_arguments-more-preserved t c =
    let comma = accept_at (codes ",") in
    let item = expression_at c.args.definitions.now c.args.whole c.args.room 8 in
    let r = reading c.args.lexer.now in
    let taken = accepted-fewer 44 [] (reading c.more.lexer) (reading c.accept.new.lexer) c.in-Ok.more c.in-Ok.ensures.read c.if-not-more.false in
    record {
      goes = rw (c.in_ok-push-in-Ok-expression.ensures.items, map-append) (goes_on comma item (items_behind comma item (map part_of c.push.new.self.items) r) (map part_of c.more.done.items) (reading c.more.lexer) (reading c.accept.new.lexer) (reading c.expression.new.lexer) c.in-Ok.more (part_of c.in-Ok-expression.part) c.more.invariant.goes c.in-Ok.ensures.read c.if-not-more.false c.in-Ok-expression.ensures.read (omega (arith, taken, c.in-Ok-expression.ensures.fewer)));
      start = c.more.invariant.start;
      fewer = omega (arith, taken, c.in-Ok-expression.ensures.fewer, c.more.invariant.fewer);
      shallow = rw c.in_ok-push-in-Ok-expression.ensures.items (All-push (λ (p : code_part.Part). p.depth ≤ c.args.room) c.more.done.items c.in-Ok-expression.part c.more.invariant.shallow c.in-Ok-expression.ensures.deep);
    }

pub more_arguments-returns-in-Err-expression-clause-read :
    goal.more_arguments-returns-in-Err-expression-clause-read
more_arguments-returns-in-Err-expression-clause-read t c =
    let comma = accept_at (codes ",") in
    let item = expression_at c.args.definitions.now c.args.whole c.args.room 8 in
    let r = reading c.args.lexer.now in
    subst (λ (ps : List Part). Fails c.in-Err-expression.fault (items_behind comma item ps r)) c.more.invariant.start
    (item-fails comma item (items_behind comma item (map part_of c.push.new.self.items) r) (map part_of c.more.done.items) (reading c.more.lexer) (reading c.accept.new.lexer) c.in-Ok.more c.in-Err-expression.fault c.more.invariant.goes c.in-Ok.ensures.read c.if-not-more.false c.in-Err-expression.ensures.read)
