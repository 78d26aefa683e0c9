use Rattle.std.proofs.Common.{◌≡◌, map, Ok, ◌∙◌, ap, subst, arith}
use Rattle.std.specs.Prelude.{codes}
use Rattle.std.proofs.lemmas.List.{map-append}
use Rattle.vg_text.specs.Lexing.{reading}
use Rattle.vg_pseudo.specs.Definitions.{Context}
use Rattle.vg_pseudo.specs.Reads.{Fails}
use Rattle.vg_pseudo.specs.Tree.{define_of}
use Rattle.vg_pseudo.specs.Views.{defined_of}
use Rattle.vg_pseudo.specs.Operations.{define_at, defines_at}
use Rattle.vg_pseudo.proofs.DefineLists.{as_inside, test-fails, ends, item-fails, goes_on}
use Rattle.vg_pseudo.proofs.Taking.{accepted-fewer}
use Rattle.vg_pseudo.proofs.operations.defines.Goals as goal

pub returns-in-Err : goal.returns-in-Err
returns-in-Err c = record {
  read = test-fails (defines_at (reading c.args.lexer.now)) (record { defines = map define_of c.defines.done.items; known = c.defines.definitions.known }) (reading c.defines.lexer) c.in-Err.fault c.defines.invariant.goes c.in-Err.ensures.read;
}

pub returns-then-not-more : goal.returns-then-not-more
returns-then-not-more c = record {
  read = ends (defines_at (reading c.args.lexer.now)) (record { defines = map define_of c.defines.done.items; known = c.defines.definitions.known }) (reading c.defines.lexer) (reading c.accept.new.lexer) c.in-Ok.more c.defines.invariant.goes c.in-Ok.ensures.read c.if-not-more.true;
}

pub defines-smaller : goal.defines-smaller
defines-smaller c =
    let taken = accepted-fewer 68 (codes "EFINE") (reading c.defines.lexer) (reading c.accept.new.lexer) c.in-Ok.more c.in-Ok.ensures.read c.if-not-more.false in
    omega (arith, taken, c.in-Ok-define.ensures.fewer)

pub defines-preserved : goal.defines-preserved
defines-preserved c =
    let taken = accepted-fewer 68 (codes "EFINE") (reading c.defines.lexer) (reading c.accept.new.lexer) c.in-Ok.more c.in-Ok.ensures.read c.if-not-more.false in
    let read = subst (λ (x : Context). define_at x (reading c.accept.new.lexer) ≡ Ok (defined_of c.in-Ok-define.defined, reading c.define.new.lexer)) (as_inside c.defines.definitions c.defines.invariant.inside) c.in-Ok-define.ensures.read in
    let more = goes_on (defines_at (reading c.args.lexer.now)) (record { defines = map define_of c.defines.done.items; known = c.defines.definitions.known }) (reading c.defines.lexer) (reading c.accept.new.lexer) (reading c.define.new.lexer) c.in-Ok.more (defined_of c.in-Ok-define.defined) c.defines.invariant.goes c.in-Ok.ensures.read c.if-not-more.false read (omega (arith, taken, c.in-Ok-define.ensures.fewer)) in
    let known = ap (λ (x : Context). x.known) c.in_ok-register-in-Ok-define.ensures.ok in
    record {
      goes = rw (c.in_ok-push-in-Ok-define.ensures.items, map-append, known) more;
      inside = ap (λ (x : Context). x.inside) c.in_ok-register-in-Ok-define.ensures.ok ∙ c.defines.invariant.inside;
    }

pub returns-in-Err-define : goal.returns-in-Err-define
returns-in-Err-define c = record {
  read = item-fails (defines_at (reading c.args.lexer.now)) (record { defines = map define_of c.defines.done.items; known = c.defines.definitions.known }) (reading c.defines.lexer) (reading c.accept.new.lexer) c.in-Ok.more c.in-Err-define.fault c.defines.invariant.goes c.in-Ok.ensures.read c.if-not-more.false
      (subst (λ (x : Context). Fails c.in-Err-define.fault (define_at x (reading c.accept.new.lexer))) (as_inside c.defines.definitions c.defines.invariant.inside) c.in-Err-define.ensures.read);
}
