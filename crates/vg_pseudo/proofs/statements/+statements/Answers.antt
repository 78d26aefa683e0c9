use Rattle.std.proofs.Common.{◌≡◌, map, Ok, ap, subst, arith}
use Rattle.std.specs.Prelude.{List}
use Rattle.std.proofs.lemmas.List.{map-append}
use Rattle.vg_text.specs.Lexing.{reading}
use Rattle.vg_pseudo.specs.Reads.{Fails}
use Rattle.vg_pseudo.specs.Reader.{items_behind, unread}
use Rattle.vg_pseudo.specs.Statements.{Block, statement_follows, statement_at, block_at, else_if_follows, way_at, arm_follows, arm_at}
use Rattle.vg_pseudo.specs.Views.{block_of}
use Rattle.vg_pseudo.proofs.ItemLists.{test-fails, ends, item-fails, goes_on}
use Rattle.vg_pseudo.proofs.Taking.{statement-some, arm-some, else_if-fewer}
use Rattle.vg_pseudo.proofs.statements.+statements.Goals as goal

pub block_items-returns-in-Err-clause-read : goal.block_items-returns-in-Err-clause-read
block_items-returns-in-Err-clause-read t c =
    let item = statement_at c.args.definitions.now c.args.room in
    let r = reading c.args.lexer.now in
    subst (λ (bs : List Block). Fails c.in-Err.fault (items_behind statement_follows item bs r)) c.statements.invariant.start
    (test-fails statement_follows item (items_behind statement_follows item (map block_of c.new-done.result.items) r) (map block_of c.statements.done.items) (reading c.statements.lexer) c.in-Err.fault c.statements.invariant.goes c.in-Err.ensures.read)

pub block_items-returns-then-not-more-clause-read : goal.block_items-returns-then-not-more-clause-read
block_items-returns-then-not-more-clause-read t c =
    let item = statement_at c.args.definitions.now c.args.room in
    let r = reading c.args.lexer.now in
    subst (λ (bs : List Block). items_behind statement_follows item bs r ≡ Ok (map block_of c.statements.done.items, reading c.statement_follows.new.lexer)) c.statements.invariant.start
    (ends statement_follows item (items_behind statement_follows item (map block_of c.new-done.result.items) r) (map block_of c.statements.done.items) (reading c.statements.lexer) (reading c.statement_follows.new.lexer) c.in-Ok.more c.statements.invariant.goes c.in-Ok.ensures.read c.if-not-more.true)

pub block_items-statements-smaller : goal.block_items-statements-smaller
block_items-statements-smaller t c =
    let some = statement-some (reading c.statements.lexer) (reading c.statement_follows.new.lexer) c.in-Ok.more c.in-Ok.ensures.read c.if-not-more.false in
    omega (arith, some.0, ap unread some.1, c.in-Ok-statement.ensures.fewer)

pub block_items-statements-preserved : goal.block_items-statements-preserved
block_items-statements-preserved t c =
    let item = statement_at c.args.definitions.now c.args.room in
    let r = reading c.args.lexer.now in
    let fewer = block_items-statements-smaller t c in
    record {
      goes = rw (c.in_ok-push-in-Ok-statement.ensures.items, map-append) (goes_on statement_follows item (items_behind statement_follows item (map block_of c.new-done.result.items) r) (map block_of c.statements.done.items) (reading c.statements.lexer) (reading c.statement_follows.new.lexer) (reading c.statement.new.lexer) c.in-Ok.more (block_of c.in-Ok-statement.block) c.statements.invariant.goes c.in-Ok.ensures.read c.if-not-more.false c.in-Ok-statement.ensures.read fewer);
      start = c.statements.invariant.start;
      fewer = omega (arith, fewer, c.statements.invariant.fewer);
    }

pub block_items-returns-in-Err-statement-clause-read : goal.block_items-returns-in-Err-statement-clause-read
block_items-returns-in-Err-statement-clause-read t c =
    let item = statement_at c.args.definitions.now c.args.room in
    let r = reading c.args.lexer.now in
    subst (λ (bs : List Block). Fails c.in-Err-statement.fault (items_behind statement_follows item bs r)) c.statements.invariant.start
    (item-fails statement_follows item (items_behind statement_follows item (map block_of c.new-done.result.items) r) (map block_of c.statements.done.items) (reading c.statements.lexer) (reading c.statement_follows.new.lexer) c.in-Ok.more c.in-Err-statement.fault c.statements.invariant.goes c.in-Ok.ensures.read c.if-not-more.false c.in-Err-statement.ensures.read)

pub more_ways-returns-in-Err-clause-read : goal.more_ways-returns-in-Err-clause-read
more_ways-returns-in-Err-clause-read t c =
    let item = way_at c.args.definitions.now (block_at (statement_at c.args.definitions.now c.args.room)) in
    let r = reading c.args.lexer.now in
    subst (λ (bs : List Block). Fails c.in-Err.fault (items_behind else_if_follows item bs r)) c.ways.invariant.start
    (test-fails else_if_follows item (items_behind else_if_follows item (map block_of c.push.new.self.items) r) (map block_of c.ways.done.items) (reading c.ways.lexer) c.in-Err.fault c.ways.invariant.goes c.in-Err.ensures.read)

pub more_ways-returns-then-not-more-clause-read : goal.more_ways-returns-then-not-more-clause-read
more_ways-returns-then-not-more-clause-read t c =
    let item = way_at c.args.definitions.now (block_at (statement_at c.args.definitions.now c.args.room)) in
    let r = reading c.args.lexer.now in
    subst (λ (bs : List Block). items_behind else_if_follows item bs r ≡ Ok (map block_of c.ways.done.items, reading c.else_if_follows.new.lexer)) c.ways.invariant.start
    (ends else_if_follows item (items_behind else_if_follows item (map block_of c.push.new.self.items) r) (map block_of c.ways.done.items) (reading c.ways.lexer) (reading c.else_if_follows.new.lexer) c.in-Ok.more c.ways.invariant.goes c.in-Ok.ensures.read c.if-not-more.true)

pub more_ways-ways-smaller : goal.more_ways-ways-smaller
more_ways-ways-smaller t c =
    let fewer = else_if-fewer (reading c.ways.lexer) (reading c.else_if_follows.new.lexer) c.in-Ok.more c.in-Ok.ensures.read c.if-not-more.false in
    omega (arith, fewer, c.in-Ok-way.ensures.fewer)

pub more_ways-ways-preserved : goal.more_ways-ways-preserved
more_ways-ways-preserved t c =
    let item = way_at c.args.definitions.now (block_at (statement_at c.args.definitions.now c.args.room)) in
    let r = reading c.args.lexer.now in
    let fewer = more_ways-ways-smaller t c in
    record {
      goes = rw (c.in_ok-push-in-Ok-way.ensures.items, map-append) (goes_on else_if_follows item (items_behind else_if_follows item (map block_of c.push.new.self.items) r) (map block_of c.ways.done.items) (reading c.ways.lexer) (reading c.else_if_follows.new.lexer) (reading c.way.new.lexer) c.in-Ok.more (block_of c.in-Ok-way.block) c.ways.invariant.goes c.in-Ok.ensures.read c.if-not-more.false c.in-Ok-way.ensures.read fewer);
      start = c.ways.invariant.start;
      fewer = omega (arith, fewer, c.ways.invariant.fewer);
    }

pub more_ways-returns-in-Err-way-clause-read : goal.more_ways-returns-in-Err-way-clause-read
more_ways-returns-in-Err-way-clause-read t c =
    let item = way_at c.args.definitions.now (block_at (statement_at c.args.definitions.now c.args.room)) in
    let r = reading c.args.lexer.now in
    subst (λ (bs : List Block). Fails c.in-Err-way.fault (items_behind else_if_follows item bs r)) c.ways.invariant.start
    (item-fails else_if_follows item (items_behind else_if_follows item (map block_of c.push.new.self.items) r) (map block_of c.ways.done.items) (reading c.ways.lexer) (reading c.else_if_follows.new.lexer) c.in-Ok.more c.in-Err-way.fault c.ways.invariant.goes c.in-Ok.ensures.read c.if-not-more.false c.in-Err-way.ensures.read)

pub arm_items-returns-in-Err-clause-read : goal.arm_items-returns-in-Err-clause-read
arm_items-returns-in-Err-clause-read t c =
    let item = arm_at (block_at (statement_at c.args.definitions.now c.args.room)) in
    let r = reading c.args.lexer.now in
    subst (λ (bs : List Block). Fails c.in-Err.fault (items_behind arm_follows item bs r)) c.arms.invariant.start
    (test-fails arm_follows item (items_behind arm_follows item (map block_of c.new-done.result.items) r) (map block_of c.arms.done.items) (reading c.arms.lexer) c.in-Err.fault c.arms.invariant.goes c.in-Err.ensures.read)

pub arm_items-returns-then-not-more-clause-read : goal.arm_items-returns-then-not-more-clause-read
arm_items-returns-then-not-more-clause-read t c =
    let item = arm_at (block_at (statement_at c.args.definitions.now c.args.room)) in
    let r = reading c.args.lexer.now in
    subst (λ (bs : List Block). items_behind arm_follows item bs r ≡ Ok (map block_of c.arms.done.items, reading c.arm_follows.new.lexer)) c.arms.invariant.start
    (ends arm_follows item (items_behind arm_follows item (map block_of c.new-done.result.items) r) (map block_of c.arms.done.items) (reading c.arms.lexer) (reading c.arm_follows.new.lexer) c.in-Ok.more c.arms.invariant.goes c.in-Ok.ensures.read c.if-not-more.true)

pub arm_items-arms-smaller : goal.arm_items-arms-smaller
arm_items-arms-smaller t c =
    let some = arm-some (reading c.arms.lexer) (reading c.arm_follows.new.lexer) c.in-Ok.more c.in-Ok.ensures.read c.if-not-more.false in
    omega (arith, some.0, ap unread some.1, c.in-Ok-arm.ensures.fewer)

pub arm_items-arms-preserved : goal.arm_items-arms-preserved
arm_items-arms-preserved t c =
    let item = arm_at (block_at (statement_at c.args.definitions.now c.args.room)) in
    let r = reading c.args.lexer.now in
    let fewer = arm_items-arms-smaller t c in
    record {
      goes = rw (c.in_ok-push-in-Ok-arm.ensures.items, map-append) (goes_on arm_follows item (items_behind arm_follows item (map block_of c.new-done.result.items) r) (map block_of c.arms.done.items) (reading c.arms.lexer) (reading c.arm_follows.new.lexer) (reading c.arm.new.lexer) c.in-Ok.more (block_of c.in-Ok-arm.block) c.arms.invariant.goes c.in-Ok.ensures.read c.if-not-more.false c.in-Ok-arm.ensures.read fewer);
      start = c.arms.invariant.start;
      fewer = omega (arith, fewer, c.arms.invariant.fewer);
    }

pub arm_items-returns-in-Err-arm-clause-read : goal.arm_items-returns-in-Err-arm-clause-read
arm_items-returns-in-Err-arm-clause-read t c =
    let item = arm_at (block_at (statement_at c.args.definitions.now c.args.room)) in
    let r = reading c.args.lexer.now in
    subst (λ (bs : List Block). Fails c.in-Err-arm.fault (items_behind arm_follows item bs r)) c.arms.invariant.start
    (item-fails arm_follows item (items_behind arm_follows item (map block_of c.new-done.result.items) r) (map block_of c.arms.done.items) (reading c.arms.lexer) (reading c.arm_follows.new.lexer) c.in-Ok.more c.in-Err-arm.fault c.arms.invariant.goes c.in-Ok.ensures.read c.if-not-more.false c.in-Err-arm.ensures.read)
