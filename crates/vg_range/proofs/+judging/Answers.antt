use Rattle.std.proofs.Common.{◌≡◌, ◌∙◌, map, ◌∷◌, ◌++◌, [], arith, refl, rules, subst, sym, ap, to_z, of_z, Ok, Some, None}
use Rattle.std.specs.Option.{option_map}
use Rattle.std.proofs.lemmas.Int.{to_z-of_z}
use Rattle.std.proofs.lemmas.List.{map-append}
use Rattle.std.proofs.lemmas.Result.{err_from_is_err_and}
use Rattle.std.specs.Int.{w128}
use Rattle.std.specs.Prelude.{FitsSigned}
use Rattle.vg_base.specs.Gives.{FailsBy}
use Rattle.vg_interval.specs.Found.{known}
use Rattle.vg_interval.specs.Judge.{element_at, judge, judge_all, settled, slice_at, spot_of}
use Rattle.vg_interval.specs.Views.{Gives, told, count_view, found_view, kept_view, passed_view}
use Rattle.vg_names.specs.Views.{code_view, expr_of, list_of, target_view}
use Rattle.vg_pseudo.specs.Resolved.{binary, choice, element, more, slice, way}
use Rattle.vg_script.specs.Views.{number_of}
use Rattle.vg_range.specs.Steps.{arm_of, arms_view, final, first_way, further, how_many, way_step_view, picked, selector_view, turns_left, ways_view}
use Rattle.vg_range.specs.Estimates.{estimate_of, given_at}
use Rattle.vg_range.specs.Folding.{IsNumber}
use Rattle.vg_range.specs.Seen.{argument_of, behind_passed, context_view, goal_view, sight_view, state_view}
use Rattle.vg_range.specs.Walk.{assigned}
use Rattle.vg_range.specs.Weight.{weight, list_weight}
use Rattle.vg_range.proofs.Arguments.{passed_none, passed_next, passed_done, passed_fails}
use Rattle.vg_range.proofs.ArmsLeft.{arms_fail, arms_next, one_taken, none_taken}
use Rattle.vg_range.proofs.CallsAt.{called_is, none_called, reaches}
use Rattle.vg_range.proofs.Choosing.{choice_at}
use Rattle.vg_range.proofs.Estimated.{filled_is, joined_is, way_is}
use Rattle.vg_range.proofs.Folded.{element_is, given_is, slice_is}
use Rattle.vg_range.proofs.Stepping.{walk_fails, walk_next}
use Rattle.vg_range.proofs.TurnsLeft.{fewer, turns_are, turns_next}
use Rattle.vg_range.proofs.WaysLeft.{ways_close, ways_fail, ways_next}
use Rattle.vg_range.proofs.+judging.Goals as goal

pub judging::judge-slice_of-requires : goal.judging::judge-slice_of-requires
judging::judge-slice_of-requires t c =
    omega (arith, c.decreases, ap (λ e. weight (expr_of e)) c.in-Slice.is, ap (λ e. weight (expr_of e)) c.deref-in-Slice.ensures, ap (λ e. weight (expr_of e)) c.deref.ensures)

pub judging::judge-binary-requires : goal.judging::judge-binary-requires
judging::judge-binary-requires t c =
    omega (arith, c.decreases, ap (λ e. weight (expr_of e)) c.in-Binary.is, ap (λ e. weight (expr_of e)) c.deref-in-Binary.ensures, ap (λ e. weight (expr_of e)) c.deref-in-Binary-2.ensures)

pub judging::judge-choice-requires : goal.judging::judge-choice-requires
judging::judge-choice-requires t c =
    omega (arith, c.decreases, ap (λ e. weight (expr_of e)) c.in-Choice.is, ap (λ e. weight (expr_of e)) c.deref-in-Choice.ensures, ap (λ e. weight (expr_of e)) c.deref-in-Choice-2.ensures, ap (λ e. weight (expr_of e)) c.deref-in-Choice-3.ensures)

pub judging::judge-returns-in-Choice : goal.judging::judge-returns-in-Choice
judging::judge-returns-in-Choice t c =
    let s = sight_view c.args.context.now in
    let ks = map kept_view c.args.numbers.now in
    let d = count_view c.args.count in
    let x = c.deref-in-Choice.result.now in
    let y = c.deref-in-Choice-2.result.now in
    let z = c.deref-in-Choice-3.result.now in
    let p = c.in-Choice.spot in
    let whole : choice p (expr_of x) (expr_of y) (expr_of z) ≡ expr_of c.args.expr.now =
    rw (c.deref-in-Choice.ensures, c.deref-in-Choice-2.ensures, c.deref-in-Choice-3.ensures, c.in-Choice.is) refl in
    subst (λ r. Gives (λ f. (found_view f.0.value, count_view f.1)) c.choice.result r)
    (choice_at s ks d p (expr_of x) (expr_of y) (expr_of z) ∙ ap (λ e. judge s ks e d) whole) c.choice.ensures

pub judging::judge_all-arguments-init : goal.judging::judge_all-arguments-init
judging::judge_all-arguments-init t c = record {
  same = rw c.new-given.ensures.items (passed_none (judge_all (sight_view c.args.context.now) (map kept_view c.args.numbers.now) (list_of c.args.arguments.now) (count_view c.args.count)));
  inside = omega arith;
}

pub judging::judge_all-returns-in-End : goal.judging::judge_all-returns-in-End
judging::judge_all-returns-in-End t c =
    let s = sight_view c.args.context.now in
    let ks = map kept_view c.args.numbers.now in
    let d = count_view c.arguments.count in
    let done = map passed_view c.arguments.given.items in
    let all = judge_all s ks (list_of c.args.arguments.now) (count_view c.args.count) in
    passed_done s ks d done all
    (subst (λ a. behind_passed done (judge_all s ks (list_of a) d) ≡ all) c.in-End.is c.arguments.invariant.same)

pub judging::judge_all-returns-in_err-passed-in-More : goal.judging::judge_all-returns-in_err-passed-in-More
judging::judge_all-returns-in_err-passed-in-More t c =
    let s = sight_view c.args.context.now in
    let ks = map kept_view c.args.numbers.now in
    let d = count_view c.arguments.count in
    let done = map passed_view c.arguments.given.items in
    let all = judge_all s ks (list_of c.args.arguments.now) (count_view c.args.count) in
    let x = expr_of c.in-More.first.value in
    let xs = list_of c.in-More.rest.value in
    let fault = told c.in_err-passed-in-More.field-0.0 in
    let before : behind_passed done (judge_all s ks (more x xs) d) ≡ all =
    subst (λ a. behind_passed done (judge_all s ks (list_of a) d) ≡ all) c.in-More.is c.arguments.invariant.same in
    let failed : FailsBy fault (argument_of s ks x d) =
    subst (λ e. FailsBy fault (argument_of s ks (expr_of e) d)) c.deref.ensures c.in_err-passed-in-More.ensures in
    let error = err_from_is_err_and c.from_residual.result c.from_residual.ensures.1 in
    rw (error.1, error.2) (passed_fails s ks x xs d done fault all before failed)

pub judging::judge_all-arguments-preserved : goal.judging::judge_all-arguments-preserved
judging::judge_all-arguments-preserved t c =
    let s = sight_view c.args.context.now in
    let ks = map kept_view c.args.numbers.now in
    let d = count_view c.arguments.count in
    let behind = count_view c.in_ok-passed-in-More.behind in
    let given = c.arguments.given.items in
    let done = map passed_view given in
    let p = c.in_ok-passed-in-More.passed.value in
    let all = judge_all s ks (list_of c.args.arguments.now) (count_view c.args.count) in
    let x = expr_of c.in-More.first.value in
    let rest = c.in-More.rest.value in
    let before : behind_passed done (judge_all s ks (more x (list_of rest)) d) ≡ all =
    subst (λ a. behind_passed done (judge_all s ks (list_of a) d) ≡ all) c.in-More.is c.arguments.invariant.same in
    let judged : argument_of s ks x d ≡ Ok (passed_view p, behind) =
    subst (λ e. argument_of s ks (expr_of e) d ≡ Ok (passed_view p, behind)) c.deref.ensures c.in_ok-passed-in-More.ensures in
    let left : c.deref-left.result.now ≡ rest = c.deref-left.ensures in
    record {
      same =
          ap (λ g. behind_passed (map passed_view g) (judge_all s ks (list_of c.deref-left.result.now) behind)) c.in_ok-give-in-More.ensures
          ∙ ap (λ g. behind_passed g (judge_all s ks (list_of c.deref-left.result.now) behind)) (map-append passed_view given (p ∷ []))
          ∙ ap (λ a. behind_passed (done ++ passed_view p ∷ []) (judge_all s ks (list_of a) behind)) left
          ∙ passed_next s ks x (list_of rest) d behind done (passed_view p) judged
          ∙ before;
      inside = omega (arith, ap (λ e. list_weight (list_of e)) c.in-More.is, ap (λ e. list_weight (list_of e)) left, c.arguments.invariant.inside);
    }

pub calling::called_at-returns-then-number-functions : goal.calling::called_at-returns-then-number-functions
calling::called_at-returns-then-number-functions t c =
    subst (λ w. Gives (λ f. (found_view f.0.value, count_view f.1)) c.called.result (w c.args.spot (map passed_view c.args.given.items) (count_view c.args.count)))
    (called_is c.args.is_kept c.args.functions.now c.args.number c.index-functions-number.result c.if-number-functions.true c.index-functions-number.is)
    c.called.ensures

pub calling::called_at-returns-else-number-functions : goal.calling::called_at-returns-else-number-functions
calling::called_at-returns-else-number-functions t c =
    subst (λ w. Gives (λ f. (found_view f.0.value, count_view f.1)) c.boxed.result (w c.args.spot (map passed_view c.args.given.items) (count_view c.args.count)))
    (sym (none_called c.args.is_kept c.args.functions.now c.args.number c.if-number-functions.false))
    c.boxed.ensures

pub calling::called_at-called-requires : goal.calling::called_at-called-requires
calling::called_at-called-requires t c =
    omega (arith, c.decreases, reaches c.args.functions.now c.args.number c.index-functions-number.result c.if-number-functions.true c.index-functions-number.is)

pub code_walk::arms_found-returns-in_err-more-in-Some : goal.code_walk::arms_found-returns-in_err-more-in-Some
code_walk::arms_found-returns-in_err-more-in-Some t c =
    let x = context_view c.args.context.now in
    let l = code_view c.arms.left.now in
    let w = state_view c.args.state.now in
    let found = arms_view c.arms.found.value in
    let n = count_view c.arms.count in
    let fault = told c.in_err-more-in-Some.field-0.0 in
    let error = err_from_is_err_and c.from_residual-in_err-more-in-Some.result c.from_residual-in_err-more-in-Some.ensures.1 in
    rw (error.1, error.2) (subst (FailsBy fault) c.arms.invariant.same
    (arms_fail x l (code_view c.in-Some.others.now) w found n fault (sym c.in-Some.ensures.is) c.in_err-more-in-Some.ensures))

pub code_walk::arms_found-arms-preserved : goal.code_walk::arms_found-arms-preserved
code_walk::arms_found-arms-preserved t c =
    let x = context_view c.args.context.now in
    let l = code_view c.arms.left.now in
    let w = state_view c.args.state.now in
    let found = arms_view c.arms.found.value in
    let n = count_view c.arms.count in
    let more = arms_view c.in_ok-more-in-Some.more.value in
    let m = count_view c.in_ok-more-in-Some.behind in
    record {
      same =
          arms_next x l (code_view c.in-Some.others.now) w found more n m (sym c.in-Some.ensures.is) c.in_ok-more-in-Some.ensures
          ∙ c.arms.invariant.same;
      inside = omega (arith, c.in-Some.ensures.inside, c.arms.invariant.inside);
    }

pub code_walk::choose_at-returns-in_err-all-in-Some : goal.code_walk::choose_at-returns-in_err-all-in-Some
code_walk::choose_at-returns-in_err-all-in-Some t c =
    let x = context_view c.args.context.now in
    let l = code_view c.ways.left.now in
    let w = state_view c.args.state.value in
    let found = ways_view c.ways.found.value in
    let n = count_view c.ways.count in
    let fault = told c.in_err-all-in-Some.field-0.0 in
    let failed : FailsBy fault (first_way x l w found n) =
    subst (λ v. FailsBy fault (first_way x l (state_view v) found n)) c.deref-in-Some.ensures c.in_err-all-in-Some.ensures in
    let error = err_from_is_err_and c.from_residual-in_err-all-in-Some.result c.from_residual-in_err-all-in-Some.ensures.1 in
    rw (error.1, error.2) (subst (FailsBy fault) c.ways.invariant.same
    (ways_fail x l (code_view c.in-Some.others.now) w found n fault (sym c.in-Some.ensures.is) failed))

pub code_walk::choose_at-returns-in-Final : goal.code_walk::choose_at-returns-in-Final
code_walk::choose_at-returns-in-Final t c =
    let x = context_view c.args.context.now in
    let l = code_view c.ways.left.now in
    let w = state_view c.args.state.value in
    let found = ways_view c.ways.found.value in
    let n = count_view c.ways.count in
    let all = ways_view c.in-Final.all.value in
    let v = state_view c.in-Final.last.value in
    let met : first_way x l w found n ≡ Ok (final all v) =
    subst (λ u. first_way x l (state_view u) found n ≡ Ok (final all v)) c.deref-in-Some.ensures
    (c.in_ok-all-in-Some.ensures ∙ ap (λ m. Ok (way_step_view m)) c.in-Final.is) in
    sym c.ways.invariant.same
    ∙ ways_close x l (code_view c.in-Some.others.now) w v found all n (sym c.in-Some.ensures.is) met
    ∙ ap (λ u. Ok u) (sym c.in_ok-closed-in-Final.ensures)

pub code_walk::choose_at-ways-preserved : goal.code_walk::choose_at-ways-preserved
code_walk::choose_at-ways-preserved t c =
    let x = context_view c.args.context.now in
    let l = code_view c.ways.left.now in
    let w = state_view c.args.state.value in
    let found = ways_view c.ways.found.value in
    let n = count_view c.ways.count in
    let more = ways_view c.in-Further.more.value in
    let m = count_view c.in-Further.behind in
    let met : first_way x l w found n ≡ Ok (further more m) =
    subst (λ u. first_way x l (state_view u) found n ≡ Ok (further more m)) c.deref-in-Some.ensures
    (c.in_ok-all-in-Some.ensures ∙ ap (λ k. Ok (way_step_view k)) c.in-Further.is) in
    record {
      same = ways_next x l (code_view c.in-Some.others.now) w found more n m (sym c.in-Some.ensures.is) met ∙ c.ways.invariant.same;
      inside = omega (arith, c.in-Some.ensures.inside, c.ways.invariant.inside);
    }

pub code_walk::picked-returns-in-Some : goal.code_walk::picked-returns-in-Some
code_walk::picked-returns-in-Some t c =
    let x = context_view c.args.context.now in
    let arms = code_view c.args.arms.now in
    let w = state_view c.args.state.value in
    let z = c.in-Fixed.number in
    let fits : FitsSigned w128 z = search rules in
    let found : arm_of z arms ≡ Some (code_view c.in-Some.body.now) =
    ap (λ n. arm_of n arms) (sym (to_z-of_z w128 z fits)) ∙ sym c.in-Some.ensures.is in
    subst (λ r. Gives (λ u. state_view u.value) c.walk.result r)
    (one_taken x arms (code_view c.in-Some.body.now) w z found
    ∙ ap (λ a. picked x arms w (selector_view a)) (sym c.in-Fixed.is))
    c.walk.ensures

pub code_walk::picked-returns-in-None : goal.code_walk::picked-returns-in-None
code_walk::picked-returns-in-None t c =
    let x = context_view c.args.context.now in
    let arms = code_view c.args.arms.now in
    let w = state_view c.args.state.value in
    let z = c.in-Fixed.number in
    let fits : FitsSigned w128 z = search rules in
    let found : arm_of z arms ≡ None = ap (λ n. arm_of n arms) (sym (to_z-of_z w128 z fits)) ∙ sym c.in-None.ensures.is in
    ap (λ a. picked x arms w (selector_view a)) c.in-Fixed.is
    ∙ none_taken x arms w z found

pub code_walk::turns_through-turns-init : goal.code_walk::turns_through-turns-init
code_walk::turns_through-turns-init t c =
    let x = context_view c.args.context.now in
    let body = code_view c.args.body.now in
    let l = number_of c.args.last in
    let w = state_view c.args.state.value in
    ap (λ o. turns_left x c.args.place body l o w) c.first_turn-left.ensures
    ∙ turns_are x c.args.place body (number_of c.args.first) l w

pub code_walk::turns_through-turns-smaller : goal.code_walk::turns_through-turns-smaller
code_walk::turns_through-turns-smaller t c =
    let l = number_of c.args.last in
    omega (arith, fewer (number_of c.in-Some.turn) l, ap (how_many l) c.next_turn-left.ensures, ap (λ o. how_many l (option_map number_of o)) c.in-Some.is)

pub code_walk::turns_through-turns-preserved : goal.code_walk::turns_through-turns-preserved
code_walk::turns_through-turns-preserved t c =
    let x = context_view c.args.context.now in
    let body = code_view c.args.body.now in
    let l = number_of c.args.last in
    let z = number_of c.in-Some.turn in
    let w = state_view c.turns.state.value in
    let v = state_view c.in_ok-state-in-Some.state.value in
    ap (λ o. turns_left x c.args.place body l o v) c.next_turn-left.ensures
    ∙ turns_next x c.args.place body z l w v c.in_ok-state-in-Some.ensures
    ∙ ap (λ o. turns_left x c.args.place body l (option_map number_of o) w) (sym c.in-Some.is)
    ∙ c.turns.invariant

pub code_walk::walk-returns-in_err-state-in-Some : goal.code_walk::walk-returns-in_err-state-in-Some
code_walk::walk-returns-in_err-state-in-Some t c =
    let fault = told c.in_err-state-in-Some.field-0.0 in
    let error = err_from_is_err_and c.from_residual.result c.from_residual.ensures.1 in
    rw (error.1, error.2) (subst (FailsBy fault) c.statements.invariant.same
    (walk_fails (context_view c.args.context.now) (code_view c.statements.left.now) (code_view c.in-Some.rest.now)
    (state_view c.statements.state.value) fault (sym c.in-Some.ensures.is) c.in_err-state-in-Some.ensures))

pub code_walk::walk-statements-preserved : goal.code_walk::walk-statements-preserved
code_walk::walk-statements-preserved t c = record {
  same =
      walk_next (context_view c.args.context.now) (code_view c.statements.left.now) (code_view c.in-Some.rest.now)
      (state_view c.statements.state.value) (state_view c.in_ok-state-in-Some.state.value)
      (sym c.in-Some.ensures.is) c.in_ok-state-in-Some.ensures
      ∙ c.statements.invariant.same;
  inside = omega (arith, c.in-Some.ensures.inside, c.statements.invariant.inside);
}

pub estimating::estimate-returns-else-is_shift : goal.estimating::estimate-returns-else-is_shift
estimating::estimate-returns-else-is_shift t c =
    let s = sight_view c.args.context.now in
    let ks = map kept_view c.args.numbers.now in
    let d = count_view c.args.count in
    let x = expr_of c.deref-else-is_shift.result.now in
    let y = expr_of c.deref-else-is_shift-2.result.now in
    let p = c.in-Binary.spot in
    let op = c.in-Binary.op in
    let whole : estimate_of p (judge s ks (binary p op x y) d) ≡ estimate_of (spot_of (expr_of c.args.expr.now)) (judge s ks (expr_of c.args.expr.now) d) =
    rw (c.deref-else-is_shift.ensures, c.deref-else-is_shift-2.ensures, c.in-Binary.is) refl in
    subst (λ r. Gives (λ k. (kept_view k.0, count_view k.1)) c.joined.result r)
    (joined_is s ks p op x y d (sym c.is_shift.ensures ∙ c.if-is_shift.false) ∙ whole) c.joined.ensures

pub giving::given_unwritten-returns-then-is_joined : goal.giving::given_unwritten-returns-then-is_joined
giving::given_unwritten-returns-then-is_joined t c =
    let x = context_view c.args.context.now in
    let a = target_view c.args.target.now in
    let e = expr_of c.args.value.now in
    let w = state_view c.args.state.value in
    subst (λ r. Gives (λ v. state_view v.value) c.bits_given.result r)
    (filled_is x a (goal_view c.in-Some.goal) e w c.requires (sym c.is_joined.ensures ∙ c.if-is_joined.true)
    ∙ ap (λ o. given_at x a (option_map goal_view o) e w) (sym c.in-Some.is)) c.bits_given.ensures

pub code_walk::first_way-returns-in-Way : goal.code_walk::first_way-returns-in-Way
code_walk::first_way-returns-in-Way t c =
    let x = context_view c.args.context.now in
    let w = state_view c.args.state.now in
    let found = ways_view c.args.found.value in
    let n = count_view c.args.count in
    let e = expr_of c.deref.result.now in
    let body = code_view c.deref-in-Way.result.now in
    let whole : first_way x (way e body (code_view c.in-Way.ways.value)) w found n ≡ first_way x (code_view c.args.code.now) w found n =
    rw (c.deref.ensures, c.deref-in-Way.ensures, c.in-Way.is) refl in
    subst (λ r. Gives way_step_view c.way_at.result r) (way_is x e body w found n ∙ whole) c.way_at.ensures

pub estimating::estimate-returns-in-Some : goal.estimating::estimate-returns-in-Some
estimating::estimate-returns-in-Some t c =
    let s = sight_view c.args.context.now in
    let ks = map kept_view c.args.numbers.now in
    let d = count_view c.args.count in
    let p = c.in-Element.spot in
    let g = c.in-Element.is_signed in
    let r = c.in-Element.register in
    let n = c.in-Element.size in
    let k = expr_of c.deref-in-Element.result.now in
    let z = c.in-Some.number in
    let fits : FitsSigned w128 z = search rules in
    let found : element_at s p.inner g r n (settled (to_z w128 (of_z w128 z))) d ≡ judge s ks (element p g r n k) d =
    rw (to_z-of_z w128 z fits) (element_is s ks p g r n k z d c.in-Some.ensures) in
    let whole : estimate_of p (judge s ks (element p g r n k) d) ≡ estimate_of (spot_of (expr_of c.args.expr.now)) (judge s ks (expr_of c.args.expr.now) d) =
    rw (c.deref-in-Element.ensures, c.in-Element.is) refl in
    subst (λ v. Gives (λ k. (kept_view k.0, count_view k.1)) c.element_at_constant.result v)
    (ap (estimate_of p) found ∙ whole) c.element_at_constant.ensures

pub estimating::slice-returns-in-Some-constant_number : goal.estimating::slice-returns-in-Some-constant_number
estimating::slice-returns-in-Some-constant_number t c =
    let s = sight_view c.args.context.now in
    let ks = map kept_view c.args.numbers.now in
    let d = count_view c.args.count in
    let p = c.args.spot.now in
    let g = c.args.is_signed in
    let r = c.args.register in
    let n = c.args.spread.now in
    let h = expr_of c.args.high.now in
    let l = expr_of c.args.low.now in
    let y = c.in-Some.last in
    let z = c.in-Some-constant_number.first in
    let fits : FitsSigned w128 y = search rules in
    let fits-too : FitsSigned w128 z = search rules in
    let found : slice_at s p.inner g r n (settled (to_z w128 (of_z w128 y))) (settled (to_z w128 (of_z w128 z))) d ≡ judge s ks (slice p g r n h l) d =
    rw (to_z-of_z w128 y fits, to_z-of_z w128 z fits-too) (slice_is s ks p g r n h l y z d c.in-Some.ensures c.in-Some-constant_number.ensures) in
    subst (λ v. Gives (λ k. (kept_view k.0, count_view k.1)) c.slice_at_numbers.result v) (ap (estimate_of p) found) c.slice_at_numbers.ensures

pub giving::given-returns-in-Some : goal.giving::given-returns-in-Some
giving::given-returns-in-Some t c =
    let x = context_view c.args.context.now in
    let a = target_view c.args.target.now in
    let g = option_map goal_view c.args.goal in
    let e = expr_of c.args.value.now in
    let w = state_view c.args.state.value in
    let z = c.in-Some.number in
    let fits : FitsSigned w128 z = search rules in
    let same : number_of c.whole.result ≡ z = c.whole.ensures ∙ to_z-of_z w128 z fits in
    let numbers : c.as_slice.result.now ≡ c.args.state.value.numbers.items = c.as_slice.ensures.value ∙ ap (λ v. v.numbers.items) c.deref.ensures in
    let is : IsNumber x.sight w.numbers e z = subst (λ l. IsNumber x.sight (map kept_view l) e z) numbers c.in-Some.ensures in
    subst (λ v. Gives (λ u. state_view u.value) c.assigned.result v)
    (ap (λ p. assigned x p a g (known (number_of c.whole.result) None) w) c.spot_of.ensures
    ∙ ap (λ v. assigned x (spot_of e) a g (known v None) w) same
    ∙ given_is x a g e w z is) c.assigned.ensures

pub judging::slice_of-returns-in-Some-constant_number : goal.judging::slice_of-returns-in-Some-constant_number
judging::slice_of-returns-in-Some-constant_number t c =
    let s = sight_view c.args.context.now in
    let ks = map kept_view c.args.numbers.now in
    let d = count_view c.args.count in
    let p = c.args.spot.now in
    let g = c.args.is_signed in
    let r = c.args.register in
    let n = c.args.spread.now in
    let h = expr_of c.args.high.now in
    let l = expr_of c.args.low.now in
    let y = c.in-Some.last in
    let z = c.in-Some-constant_number.first in
    let fits : FitsSigned w128 y = search rules in
    let fits-too : FitsSigned w128 z = search rules in
    let found : slice_at s p.inner g r n (settled (to_z w128 (of_z w128 y))) (settled (to_z w128 (of_z w128 z))) d ≡ judge s ks (slice p g r n h l) d =
    rw (to_z-of_z w128 y fits, to_z-of_z w128 z fits-too) (slice_is s ks p g r n h l y z d c.in-Some.ensures c.in-Some-constant_number.ensures) in
    subst (λ v. Gives (λ f. (found_view f.0.value, count_view f.1)) c.slice_at_numbers.result v) found c.slice_at_numbers.ensures
