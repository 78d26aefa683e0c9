use Rattle.std.proofs.Common.{List, ℕ, ◌∙◌, subst, sym}
use Rattle.vg_text.proofs.Lexing.{after_gap, after_lexeme, at_bad, at_end}
use Rattle.vg_text.specs.Place.{end_place}
use Rattle.vg_text.specs.Cut.{IsTokenOf}
use Rattle.vg_text.proofs.Cutting.{token_of}
use Rattle.vg_text.proofs.lexer.Lexer.pass.Goals as goal

pub gaps-preserved : goal.gaps-preserved
gaps-preserved c =
    let old = c.gaps.self in
    let new = c.advance.new.self in
    let moved = c.advance.ensures in
    let front = c.in-Gap.ensures in
    record {
      source = moved.text ∙ c.gaps.invariant.source;
      left = after_gap old.text.now new.text.now c.rest.result.now old.at c.in-Gap.len new.at old.place new.place c.gaps-test.true c.rest.ensures front.front front.within moved.at moved.text moved.place ∙ c.gaps.invariant.left;
    }

pub returns-in-Lexeme-clause-token : goal.returns-in-Lexeme-clause-token
returns-in-Lexeme-clause-token c =
    let old = c.gaps.self in
    let new = c.take.new.self in
    let moved = c.take.ensures in
    let front = c.in-Lexeme.ensures in
    rw (sym c.gaps.invariant.left) (after_lexeme old.text.now new.text.now c.rest.result.now c.in-Lexeme.kind c.take.result old.at c.in-Lexeme.len new.at old.place new.place c.gaps-test.true c.rest.ensures front.front front.within moved.token moved.at moved.text moved.place)

pub returns-in-Bad-clause-token : goal.returns-in-Bad-clause-token
returns-in-Bad-clause-token c =
    let old = c.gaps.self in
    rw (sym c.gaps.invariant.left) (at_bad (end_place old.text.now) old.text.now c.rest.result.now old.at old.place c.gaps-test.true c.rest.ensures c.in-Bad.ensures.front)

pub returns-clause-token : goal.returns-clause-token
returns-clause-token c =
    let old = c.gaps.self in
    rw (sym c.gaps.invariant.left) (at_end (end_place old.text.now) old.text.now c.end.result old.at old.place c.gaps-test.false c.end.ensures)

pub returns-in-Lexeme-clause-slice : goal.returns-in-Lexeme-clause-slice
returns-in-Lexeme-clause-slice c =
    let old = c.gaps.self in
    let is = token_of old.text.now c.rest.result.now c.in-Lexeme.kind c.take.result old.at c.in-Lexeme.len old.place c.gaps-test.true c.rest.ensures c.in-Lexeme.ensures.front c.take.ensures.token in
    subst (λ (text : List ℕ). IsTokenOf text c.take.result) c.gaps.invariant.source is
