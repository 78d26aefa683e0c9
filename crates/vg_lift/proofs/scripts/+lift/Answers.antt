use Rattle.std.proofs.Common.{◌≡◌, refl, get_or, ◌++◌, ◌<◌, ◌≤◌, subst, sym, arith, ap, ◌∙◌, [], ◌∷◌, length, map, rules}
use Rattle.std.specs.Prelude.{max, option_to_list}
use Rattle.vg_terms.specs.Term.{constant, two}
use Rattle.vg_terms.specs.declared.term.TwoOp.TheVariants.{Eq}
use Rattle.vg_pool.specs.Pool.{tree_at}
use Rattle.vg_script.specs.Formed.{Formed, GivenFormed, ScriptFormed}
use Rattle.vg_script.specs.Script.{arm, moved, number, way, width_of, word}
use Rattle.vg_script.specs.Views.{given_of, low_of, script_of, word_of}
use Rattle.vg_script.specs.declared.script.Given.{size-Given}
use Rattle.vg_script.specs.declared.script.Script.{size-Script}
use Rattle.vg_script.specs.declared.script.Word.{size-Word}
use Rattle.vg_range_laws.specs.Static.{IsStatic, IsStaticGiven, IsStaticWord}
use Rattle.vg_bits.specs.Range.{range}
use Rattle.vg_lift.specs.Gather.{bits_from}
use Rattle.vg_lift.specs.LaneTerm.{first_bit, lifted, lifted_arm, of_bits, of_number, passed, term}
use Rattle.vg_lift.specs.States.{state_of, widths_in}
use Rattle.vg_lift.specs.Turns.{TurnsFit, taken, turns_size}
use Rattle.vg_lift.specs.Passed.{passed_of}
use Rattle.vg_lift.specs.Views.{IsNode, bits_of}
use Rattle.vg_lift.proofs.Nodes.{node_kept, onok}
use Rattle.vg_lift.proofs.Puts.{kept_twice, state_fits, state_kept}
use Rattle.vg_lift.proofs.Sizes.{second_smaller, first_selected, second_selected, word_given, behind_word, behind_number, behind_moved, condition_smaller, way_smaller, behind_way, arm_smaller, behind_arm}
use Rattle.vg_lift.proofs.Taking.{arm_next, copied, given_step, passed_more, keeps_itself, last_fits, last_size, leaves_as, leaves_behind, more_size, pushed_first, rest_fit, rest_size, taken_kept, turns_behind, turns_kept, turns_step, way_next, way_step}
use Rattle.vg_lift.proofs.scripts.+lift.Goals as goal

pub lift_assignment-put_bits-requires-in-CopyFrom-clause-fits : goal.lift_assignment-put_bits-requires-in-CopyFrom-clause-fits
lift_assignment-put_bits-requires-in-CopyFrom-clause-fits t c =
    state_fits c.args.pool.now c.handed.new.pool c.args.state.now c.handed.ensures.keeps c.requires.fits

pub lift_assignment-give-requires-clause-fits : goal.lift_assignment-give-requires-clause-fits
lift_assignment-give-requires-clause-fits t c =
    state_fits c.args.pool.now c.term.new.pool c.args.state.now c.term.ensures.keeps c.requires.fits

pub lift_put-put_node-requires-clause-fits : goal.lift_put-put_node-requires-clause-fits
lift_put-put_node-requires-clause-fits t c =
    state_fits c.args.pool.now c.term.new.pool c.args.state.now c.term.ensures.keeps c.requires.fits

pub lift_turn-join_states-requires-clause-second : goal.lift_turn-join_states-requires-clause-second
lift_turn-join_states-requires-clause-second t c =
    state_fits c.args.pool.now c.lift.new.pool c.args.state.now c.lift.ensures.keeps c.requires.fits

pub passed-moved_bits-requires : goal.passed-moved_bits-requires
passed-moved_bits-requires t c =
    state_fits c.args.pool.now c.registers.pool c.args.state.now c.registers.invariant.keeps c.requires.fits

pub term-term-requires-in-Two-2 : goal.term-term-requires-in-Two-2
term-term-requires-in-Two-2 t c =
    let less : size-Word c.deref-in-Two-2.result.now < size-Word c.args.word.now =
    second_smaller c.args.word.now c.in-Two.op c.in-Two.width c.in-Two.x c.in-Two.y c.deref-in-Two-2.result.now c.in-Two.is c.deref-in-Two-2.ensures in (
      omega (arith, c.decreases, less),
      (
        state_fits c.args.pool.now c.term-in-Two.new.pool c.args.state.now c.term-in-Two.ensures.keeps c.requires.fits,
        (
          subst (λ r. Formed (word_of r)) (sym c.deref-in-Two-2.ensures) (subst (λ e. Formed (word_of e)) c.in-Two.is c.requires.formed).3,
          subst (λ r. IsStaticWord (word_of r)) (sym c.deref-in-Two-2.ensures) (subst (λ e. IsStaticWord (word_of e)) c.in-Two.is c.requires.is_static).1,
        ),
      ),
    )

pub term-term-requires-in-Sel-2 : goal.term-term-requires-in-Sel-2
term-term-requires-in-Sel-2 t c =
    let less : size-Word c.deref-in-Sel-2.result.now < size-Word c.args.word.now =
    first_selected c.args.word.now c.in-Sel.width c.in-Sel.c c.in-Sel.x c.in-Sel.y c.deref-in-Sel-2.result.now c.in-Sel.is c.deref-in-Sel-2.ensures in (
      omega (arith, c.decreases, less),
      (
        state_fits c.args.pool.now c.term-in-Sel.new.pool c.args.state.now c.term-in-Sel.ensures.keeps c.requires.fits,
        (
          subst (λ r. Formed (word_of r)) (sym c.deref-in-Sel-2.ensures) (subst (λ e. Formed (word_of e)) c.in-Sel.is c.requires.formed).3,
          subst (λ r. IsStaticWord (word_of r)) (sym c.deref-in-Sel-2.ensures) (subst (λ e. IsStaticWord (word_of e)) c.in-Sel.is c.requires.is_static).1,
        ),
      ),
    )

pub term-term-requires-in-Sel-3 : goal.term-term-requires-in-Sel-3
term-term-requires-in-Sel-3 t c =
    let less : size-Word c.deref-in-Sel-3.result.now < size-Word c.args.word.now =
    second_selected c.args.word.now c.in-Sel.width c.in-Sel.c c.in-Sel.x c.in-Sel.y c.deref-in-Sel-3.result.now c.in-Sel.is c.deref-in-Sel-3.ensures in (
      omega (arith, c.decreases, less),
      (
        state_fits c.args.pool.now c.term-in-Sel-2.new.pool c.args.state.now
            (kept_twice c.args.pool.now c.term-in-Sel.new.pool c.term-in-Sel-2.new.pool c.term-in-Sel.ensures.keeps c.term-in-Sel-2.ensures.keeps) c.requires.fits,
        (
          subst (λ r. Formed (word_of r)) (sym c.deref-in-Sel-3.ensures) (subst (λ e. Formed (word_of e)) c.in-Sel.is c.requires.formed).4,
          subst (λ r. IsStaticWord (word_of r)) (sym c.deref-in-Sel-3.ensures) (subst (λ e. IsStaticWord (word_of e)) c.in-Sel.is c.requires.is_static).2,
        ),
      ),
    )

-- ---- ways one after the other

pub lift_turns-lift_turn-requires : goal.lift_turns-lift_turn-requires
lift_turns-lift_turn-requires t c =
    let inv = c.turns.invariant in
    let ts = c.turns.turns.items in
    let rest = c.pop.new.self.items in
    let turn = c.in-Some.turn in
    let popped : ts ≡ rest ++ turn ∷ [] = c.pop.ensures.items ∙ ap (λ r. rest ++ option_to_list r) c.in-Some.is in (
      omega (arith, c.decreases, last_size ts rest turn popped, inv.small),
      (
        state_fits c.args.pool.now c.turns.pool c.args.before.now inv.keeps c.requires.before,
        (inv.fits, (inv.widths, (inv.count, last_fits c.turns.pool (widths_in c.args.before.now) ts rest turn inv.turns popped))),
      ),
    )

pub lift_turns-turns-preserved : goal.lift_turns-turns-preserved
lift_turns-turns-preserved t c =
    let inv = c.turns.invariant in
    let old = c.args.pool.now in
    let now = c.turns.pool in
    let new = c.lift_turn.new.pool in
    let b = c.args.before.now in
    let ws = widths_in b in
    let ts = c.turns.turns.items in
    let rest = c.pop.new.self.items in
    let turn = c.in-Some.turn in
    let popped : ts ≡ rest ++ turn ∷ [] = c.pop.ensures.items ∙ ap (λ r. rest ++ option_to_list r) c.in-Some.is in
    let left = c.in_ok-lift_turn.ensures.leaves in
    let k = c.lift_turn.ensures.keeps in
    record {
      is = turns_step old now new ws b ts rest turn c.turns.state c.lift_turn.new.state inv.keeps c.requires.before inv.turns popped k left ∙ inv.is;
      fits = left.fits;
      widths = left.widths ∙ inv.widths;
      count = left.count ∙ inv.count;
      turns = turns_kept now new ws rest k (rest_fit now ws ts rest turn inv.turns popped);
      keeps = kept_twice old now new inv.keeps k;
      small = omega (arith, rest_size ts rest turn popped, inv.small);
    }

-- ---- a CASE

pub lift_pick-arms-init : goal.lift_pick-arms-init
lift_pick-arms-init t c =
    let b = c.in_ok-before.before in
    let new = c.term.new.pool in
    let s = state_of c.args.pool.now b in
    let same : widths_in b ≡ widths_in c.args.state.now = ap (λ l. map length l) c.in_ok-before.ensures.registers in
    record {
      is = ap (λ ts. taken new s ts (lifted_arm (term s (word_of c.args.selector.now)) (script_of c.args.arms.now) s)) c.new-turns.ensures.items;
      selected = c.in_ok-selected.ensures.node.is;
      node = subst (λ w. IsNode new c.in_ok-selected.selected w) c.requires.formed.0 c.in_ok-selected.ensures.wide;
      turns = subst (TurnsFit new (widths_in b)) (sym c.new-turns.ensures.items) tt;
      formed = subst (λ ws. ScriptFormed ws (script_of c.args.arms.now)) (sym same) c.requires.formed.2;
      is_static = c.requires.is_static.1;
      keeps = c.term.ensures.keeps;
      less = omega arith;
      small = omega (arith, ap turns_size c.new-turns.ensures.items);
    }

pub lift_pick-arms-preserved : goal.lift_pick-arms-preserved
lift_pick-arms-preserved t c =
    let b = c.in_ok-before.before in
    let old = c.args.pool.now in
    let now = c.arms.pool in
    let new = c.equal_node.new.pool in
    let s = state_of old b in
    let ws = widths_in b in
    let inv = c.arms.invariant in
    let ts = c.arms.turns.items in
    let more = c.push.new.self.items in
    let left = c.arms.left.now in
    let body = c.deref.result.now in
    let rest = c.deref-left.result.now in
    let n = c.in-Arm.number in
    let k = c.equal_node.ensures.keeps in
    let x = term s (word_of c.args.selector.now) in
    let form : script_of left ≡ arm n (script_of body) (script_of rest) =
    ap script_of c.in-Arm.is ∙ ap (λ d. arm n (script_of d) (script_of c.in-Arm.arms.value)) (sym c.deref.ensures) ∙ ap (λ d. arm n (script_of body) (script_of d)) (sym c.deref-left.ensures) in
    let formed = subst (ScriptFormed ws) form inv.formed in
    let static = subst IsStatic form inv.is_static in
    let rest_less : size-Script rest < size-Script left = behind_arm left n c.in-Arm.body c.in-Arm.arms rest c.in-Arm.is c.deref-left.ensures in
    let body_less : size-Script body < size-Script left = arm_smaller left n c.in-Arm.body c.in-Arm.arms body c.in-Arm.is c.deref.ensures in
    let body_small : size-Script body ≤ size-Script c.args.arms.now = omega (arith, inv.less, body_less) in
    record {
      is =
          arm_next now new ws s ts more _ x n left rest k inv.turns (omega arith) c.in_ok-push.ensures.items
          (c.in_ok-node.ensures.node.is ∙ ap (λ y. two Eq 1 y (constant 128 n)) inv.selected) form ∙ inv.is;
      selected = k.trees c.in_ok-selected.selected inv.node.within ∙ inv.selected;
      node = node_kept now new c.in_ok-selected.selected 128 k inv.node;
      turns = turns_behind now new ws ts more _ k inv.turns c.in_ok-push.ensures.items (record { node = c.in_ok-node.ensures.wide; formed = formed.0; is_static = static.0 });
      formed = formed.1;
      is_static = static.1;
      keeps = kept_twice old now new inv.keeps k;
      less = omega (arith, inv.less, rest_less);
      small = more_size ts more _ (size-Script c.args.arms.now) c.in_ok-push.ensures.items inv.small body_small;
    }

pub lift_pick-lift_turns-requires : goal.lift_pick-lift_turns-requires
lift_pick-lift_turns-requires t c =
    let b = c.in_ok-before.before in
    let old = c.args.pool.now in
    let now = c.arms.pool in
    let inv = c.arms.invariant in
    let before = copied old c.args.state.now b c.in_ok-before.ensures.registers c.in_ok-before.ensures.variables c.requires.fits in (
      omega (arith, c.decreases, inv.small),
      (
        state_fits old now b inv.keeps before.fits,
        (state_fits old now c.args.state.now inv.keeps c.requires.fits, (sym before.widths, (sym before.count, inv.turns))),
      ),
    )

pub lift_pick-returns : goal.lift_pick-returns
lift_pick-returns t c =
    let b = c.in_ok-before.before in
    let old = c.args.pool.now in
    let now = c.arms.pool in
    let new = c.lift_turns.new.pool in
    let state = c.args.state.now in
    let inv = c.arms.invariant in
    let ts = c.arms.turns.items in
    let before = copied old state b c.in_ok-before.ensures.registers c.in_ok-before.ensures.variables c.requires.fits in
    let s = state_of old b in
    let x = term s (word_of c.args.selector.now) in
    let arms = script_of c.args.arms.now in
    let none : lifted_arm x (script_of c.arms.left.now) s ≡ s = search rules in
    let whole : taken now (state_of now b) ts (state_of now state) ≡ lifted_arm (term (state_of old state) (word_of c.args.selector.now)) arms (state_of old state) =
    ap (λ p. taken now p ts (state_of now state)) (state_kept old now b inv.keeps before.fits)
    ∙ ap (taken now s ts) (state_kept old now state inv.keeps c.requires.fits ∙ sym before.is)
    ∙ ap (taken now s ts) (sym none)
    ∙ inv.is
    ∙ ap (λ p. lifted_arm (term p (word_of c.args.selector.now)) arms p) before.is in
    record {
      leaves = onok c.lift_turns.result (leaves_as new state c.lift_turns.new.state _ _ whole) c.lift_turns.ensures.leaves;
      keeps = kept_twice old now new inv.keeps c.lift_turns.ensures.keeps;
    }

-- ---- an IF

pub lift_ways-ways-init : goal.lift_ways-ways-init
lift_ways-ways-init t c =
    let b = c.in_ok-before.before in
    let new = c.term.new.pool in
    let s = state_of c.args.pool.now b in
    let ws = widths_in b in
    let state = c.args.state.now in
    let more = c.push.new.self.items in
    let same : ws ≡ widths_in state = ap (λ l. map length l) c.in_ok-before.ensures.registers in
    let pushed = pushed_first _ _ _ c.in_ok-push.ensures.items c.new-turns.ensures.items in
    let x = word_of c.args.condition.now in
    let rest = lifted (script_of c.args.ways.now) s in
    record {
      is = way_step new new ws s [] more _ (term s x) rest (keeps_itself new) tt pushed c.in_ok-first.ensures.node.is;
      turns = turns_behind new new ws [] more _ (keeps_itself new) tt pushed (record {
        node = subst (λ w. IsNode new c.in_ok-first.first w) c.requires.formed.0 c.in_ok-first.ensures.wide;
        formed = subst (λ v. ScriptFormed v (script_of c.args.body.now)) (sym same) c.requires.formed.2;
        is_static = c.requires.is_static.1;
      });
      formed = subst (λ v. ScriptFormed v (script_of c.args.ways.now)) (sym same) c.requires.formed.3;
      is_static = c.requires.is_static.2;
      keeps = c.term.ensures.keeps;
      less = omega arith;
      small = more_size [] more _ _ pushed (omega arith) (omega arith);
    }

pub lift_ways-term-requires-in-Way : goal.lift_ways-term-requires-in-Way
lift_ways-term-requires-in-Way t c =
    let b = c.in_ok-before.before in
    let old = c.args.pool.now in
    let ws = widths_in b in
    let inv = c.ways.invariant in
    let before = copied old c.args.state.now b c.in_ok-before.ensures.registers c.in_ok-before.ensures.variables c.requires.fits in
    let formed = subst (λ d. ScriptFormed ws (script_of d)) c.in-Way.is inv.formed in
    let static = subst (λ d. IsStatic (script_of d)) c.in-Way.is inv.is_static in
    let less : size-Word c.deref.result.now < size-Script c.ways.left.now =
    condition_smaller c.ways.left.now c.in-Way.condition c.in-Way.body c.in-Way.ways c.deref.result.now c.in-Way.is c.deref.ensures in (
      omega (arith, c.decreases, inv.less, less),
      (
        state_fits old c.ways.pool b inv.keeps before.fits,
        (
          subst (λ r. Formed (word_of r)) (sym c.deref.ensures) formed.1,
          subst (λ r. IsStaticWord (word_of r)) (sym c.deref.ensures) static.0,
        ),
      ),
    )

pub lift_ways-ways-preserved : goal.lift_ways-ways-preserved
lift_ways-ways-preserved t c =
    let b = c.in_ok-before.before in
    let old = c.args.pool.now in
    let now = c.ways.pool in
    let new = c.term-in-Way.new.pool in
    let s = state_of old b in
    let ws = widths_in b in
    let inv = c.ways.invariant in
    let ts = c.ways.turns.items in
    let more = c.push-in-Way.new.self.items in
    let left = c.ways.left.now in
    let body = c.deref-in-Way.result.now in
    let rest = c.deref-left.result.now in
    let x = word_of c.in-Way.condition.value in
    let k = c.term-in-Way.ensures.keeps in
    let before = copied old c.args.state.now b c.in_ok-before.ensures.registers c.in_ok-before.ensures.variables c.requires.fits in
    let form : script_of left ≡ way x (script_of body) (script_of rest) =
    ap script_of c.in-Way.is ∙ ap (λ d. way x (script_of d) (script_of c.in-Way.ways.value)) (sym c.deref-in-Way.ensures) ∙ ap (λ d. way x (script_of body) (script_of d)) (sym c.deref-left.ensures) in
    let formed = subst (ScriptFormed ws) form inv.formed in
    let static = subst IsStatic form inv.is_static in
    let node : tree_at new c.in_ok-node.node ≡ term s x =
    c.in_ok-node.ensures.node.is ∙ ap (λ p. term p (word_of c.deref.result.now)) (state_kept old now b inv.keeps before.fits) ∙ ap (λ d. term s (word_of d)) c.deref.ensures in
    let rest_less : size-Script rest < size-Script left = behind_way left c.in-Way.condition c.in-Way.body c.in-Way.ways rest c.in-Way.is c.deref-left.ensures in
    let body_less : size-Script body < size-Script left = way_smaller left c.in-Way.condition c.in-Way.body c.in-Way.ways body c.in-Way.is c.deref-in-Way.ensures in
    let body_small : size-Script body ≤ max (size-Script c.args.body.now) (size-Script c.args.ways.now) = omega (arith, inv.less, body_less) in
    record {
      is = way_next now new ws s ts more _ x left rest k inv.turns c.in_ok-push-2.ensures.items node form ∙ inv.is;
      turns = turns_behind now new ws ts more _ k inv.turns c.in_ok-push-2.ensures.items (record {
        node = subst (λ w. IsNode new c.in_ok-node.node w) (ap (λ d. width_of (word_of d)) c.deref.ensures ∙ formed.0) c.in_ok-node.ensures.wide;
        formed = formed.2;
        is_static = static.1;
      });
      formed = formed.3;
      is_static = static.2;
      keeps = kept_twice old now new inv.keeps k;
      less = omega (arith, inv.less, rest_less);
      small = more_size ts more _ (max (size-Script c.args.body.now) (size-Script c.args.ways.now)) c.in_ok-push-2.ensures.items inv.small body_small;
    }

pub lift_ways-lift-requires : goal.lift_ways-lift-requires
lift_ways-lift-requires t c =
    let inv = c.ways.invariant in
    let same = ap (λ l. map length l) c.in_ok-before.ensures.registers in (
      omega (arith, c.decreases, inv.less),
      (
        state_fits c.args.pool.now c.ways.pool c.args.state.now inv.keeps c.requires.fits,
        (subst (λ v. ScriptFormed v (script_of c.ways.left.now)) same inv.formed, inv.is_static),
      ),
    )

pub lift_ways-lift_turns-requires : goal.lift_ways-lift_turns-requires
lift_ways-lift_turns-requires t c =
    let b = c.in_ok-before.before in
    let old = c.args.pool.now in
    let now = c.ways.pool in
    let then_pool = c.lift.new.pool in
    let inv = c.ways.invariant in
    let left = c.in_ok-lift.ensures.leaves in
    let before = copied old c.args.state.now b c.in_ok-before.ensures.registers c.in_ok-before.ensures.variables c.requires.fits in (
      omega (arith, c.decreases, inv.small),
      (
        state_fits old then_pool b (kept_twice old now then_pool inv.keeps c.lift.ensures.keeps) before.fits,
        (left.fits, (left.widths ∙ sym before.widths, (left.count ∙ sym before.count, turns_kept now then_pool (widths_in b) c.ways.turns.items c.lift.ensures.keeps inv.turns))),
      ),
    )

pub lift_ways-returns : goal.lift_ways-returns
lift_ways-returns t c =
    let b = c.in_ok-before.before in
    let old = c.args.pool.now in
    let now = c.ways.pool in
    let mid = c.lift.new.pool in
    let new = c.lift_turns.new.pool in
    let state = c.args.state.now in
    let inv = c.ways.invariant in
    let ts = c.ways.turns.items in
    let left = c.in_ok-lift.ensures.leaves in
    let before = copied old state b c.in_ok-before.ensures.registers c.in_ok-before.ensures.variables c.requires.fits in
    let s = state_of old b in
    let l = script_of c.ways.left.now in
    let whole_script = way (word_of c.args.condition.now) (script_of c.args.body.now) (script_of c.args.ways.now) in
    let kept = kept_twice old now mid inv.keeps c.lift.ensures.keeps in
    let last : state_of mid c.lift.new.state ≡ lifted l s =
    left.is ∙ ap (lifted l) (state_kept old now state inv.keeps c.requires.fits ∙ sym before.is) in
    let whole : taken mid (state_of mid b) ts (state_of mid c.lift.new.state) ≡ lifted whole_script (state_of old state) =
    ap (λ p. taken mid p ts (state_of mid c.lift.new.state)) (state_kept old mid b kept before.fits)
    ∙ ap (taken mid s ts) last
    ∙ taken_kept now mid (widths_in b) s ts _ c.lift.ensures.keeps inv.turns
    ∙ inv.is
    ∙ ap (lifted whole_script) before.is in
    record {
      leaves = onok c.lift_turns.result (λ h. leaves_behind new state c.lift.new.state c.lift_turns.new.state _ left.widths left.count (leaves_as new c.lift.new.state c.lift_turns.new.state _ _ whole h)) c.lift_turns.ensures.leaves;
      keeps = kept_twice old mid new kept c.lift_turns.ensures.keeps;
    }

-- ---- what is given

pub passed-passed_word-requires : goal.passed-passed_word-requires
passed-passed_word-requires t c =
    let inv = c.registers.invariant in
    let less : size-Word c.deref.result.now < size-Given c.registers.left.now =
    word_given c.registers.left.now c.in-Word.word c.in-Word.rest c.deref.result.now c.in-Word.is c.deref.ensures in
    let formed = subst (λ d. GivenFormed (given_of d)) c.in-Word.is inv.formed in
    let static = subst (λ d. IsStaticGiven (given_of d)) c.in-Word.is inv.is_static in (
      omega (arith, c.decreases, inv.less, less),
      (
        state_fits c.args.pool.now c.registers.pool c.args.state.now inv.keeps c.requires.fits,
        (
          subst (λ d. Formed (word_of d)) (sym c.deref.ensures) formed.1,
          (
            subst (λ d. width_of (word_of d) ≡ 128) (sym c.deref.ensures) formed.0,
            subst (λ d. IsStaticWord (word_of d)) (sym c.deref.ensures) static.0,
          ),
        ),
      ),
    )

pub passed-registers-preserved-in-Word : goal.passed-registers-preserved-in-Word
passed-registers-preserved-in-Word t c =
    let old = c.args.pool.now in
    let state = c.args.state.now in
    let now = c.registers.pool in
    let new = c.passed_word.new.pool in
    let s = state_of old state in
    let inv = c.registers.invariant in
    let all = c.registers.all.items in
    let rest = c.deref-left.result.now in
    let x = word_of c.in-Word.word.value in
    let k = c.passed_word.ensures.keeps in
    let form : given_of c.registers.left.now ≡ word x (given_of rest) =
    ap given_of c.in-Word.is ∙ ap (λ g. word x (given_of g)) (sym c.deref-left.ensures) in
    let formed = subst GivenFormed form inv.formed in
    let static = subst IsStaticGiven form inv.is_static in
    let first : passed_of new c.in_ok-first-in-Word.first ≡ of_bits (bits_from (term s x) 0 128) =
    c.in_ok-first-in-Word.ensures.is
    ∙ ap (λ p. of_bits (bits_from (term p (word_of c.deref.result.now)) 0 128)) (state_kept old now state inv.keeps c.requires.fits)
    ∙ ap (λ d. of_bits (bits_from (term s (word_of d)) 0 128)) c.deref.ensures in
    let rest_less : size-Given rest < size-Given c.registers.left.now = behind_word c.registers.left.now c.in-Word.word c.in-Word.rest rest c.in-Word.is c.deref-left.ensures in
    record {
      is = given_step now new s all _ _ (of_bits (bits_from (term s x) 0 128)) (given_of c.registers.left.now) (given_of rest) k inv.fit c.in_ok-push-in-Word.ensures.items first (ap (passed s) form) ∙ inv.is;
      fit = passed_more now new all _ _ k inv.fit c.in_ok-push-in-Word.ensures.items c.in_ok-first-in-Word.ensures.fits;
      formed = formed.2;
      is_static = static.1;
      keeps = kept_twice old now new inv.keeps k;
      less = omega (arith, inv.less, rest_less);
    }

pub passed-registers-preserved-in-Number : goal.passed-registers-preserved-in-Number
passed-registers-preserved-in-Number t c =
    let old = c.args.pool.now in
    let state = c.args.state.now in
    let now = c.registers.pool in
    let s = state_of old state in
    let inv = c.registers.invariant in
    let all = c.registers.all.items in
    let rest = c.deref-left-in-Number.result.now in
    let n = c.in-Number.number in
    let form : given_of c.registers.left.now ≡ number n (given_of rest) =
    ap given_of c.in-Number.is ∙ ap (λ g. number n (given_of g)) (sym c.deref-left-in-Number.ensures) in
    let formed = subst GivenFormed form inv.formed in
    let static = subst IsStaticGiven form inv.is_static in
    let rest_less : size-Given rest < size-Given c.registers.left.now = behind_number c.registers.left.now n c.in-Number.rest rest c.in-Number.is c.deref-left-in-Number.ensures in
    record {
      is = given_step now now s all _ _ (of_number n) (given_of c.registers.left.now) (given_of rest) (keeps_itself now) inv.fit c.in_ok-push-in-Number.ensures.items refl (ap (passed s) form) ∙ inv.is;
      fit = passed_more now now all _ _ (keeps_itself now) inv.fit c.in_ok-push-in-Number.ensures.items tt;
      formed = formed;
      is_static = static;
      keeps = inv.keeps;
      less = omega (arith, inv.less, rest_less);
    }

pub passed-registers-preserved : goal.passed-registers-preserved
passed-registers-preserved t c =
    let old = c.args.pool.now in
    let state = c.args.state.now in
    let now = c.registers.pool in
    let s = state_of old state in
    let inv = c.registers.invariant in
    let all = c.registers.all.items in
    let rest = c.deref-left-in-Moved.result.now in
    let r = c.in-Moved.register in
    let l = low_of c.in-Moved.low in
    let w = c.in-Moved.width in
    let bits = range (first_bit l) w (get_or s.registers r []) in
    let form : given_of c.registers.left.now ≡ moved r l w (given_of rest) =
    ap given_of c.in-Moved.is ∙ ap (λ g. moved r l w (given_of g)) (sym c.deref-left-in-Moved.ensures) in
    let formed = subst GivenFormed form inv.formed in
    let static = subst IsStaticGiven form inv.is_static in
    let first : bits_of now c.in_ok-bits-in-Moved.bits ≡ bits =
    c.in_ok-bits-in-Moved.ensures.is
    ∙ ap (λ p. range c.first_bit.result w (get_or p.registers r [])) (state_kept old now state inv.keeps c.requires.fits)
    ∙ ap (λ n. range n w (get_or s.registers r [])) c.first_bit.ensures in
    let rest_less : size-Given rest < size-Given c.registers.left.now = behind_moved c.registers.left.now r c.in-Moved.low w c.in-Moved.rest rest c.in-Moved.is c.deref-left-in-Moved.ensures in
    record {
      is = given_step now now s all _ _ (of_bits bits) (given_of c.registers.left.now) (given_of rest) (keeps_itself now) inv.fit c.in_ok-push-in-Moved.ensures.items (ap of_bits first) (ap (passed s) form) ∙ inv.is;
      fit = passed_more now now all _ _ (keeps_itself now) inv.fit c.in_ok-push-in-Moved.ensures.items c.in_ok-bits-in-Moved.ensures.fit;
      formed = formed.1;
      is_static = static.1;
      keeps = inv.keeps;
      less = omega (arith, inv.less, rest_less);
    }
