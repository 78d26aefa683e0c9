use Rattle.std.proofs.Common.{[], ◌∷◌, ◌++◌, arith}
use Rattle.vg_kernel.specs.Tree.{expression_of}
use Rattle.vg_shapes.specs.declared.ssa_unit.Operator.TheVariants.{Select}
use Rattle.vg_shapes.specs.declared.ssa_unit.SsaUnit.TheVariants.{Operation}
use Rattle.vg_shapes.specs.declared.wanted.Wanted.TheVariants.{Nothing}
use Rattle.vg_ssa.specs.Built.{built, numbered_in}
use Rattle.vg_ssa.specs.Numbering.{operands}
use Rattle.vg_ssa.proofs.Building.{behind_units, can-number, can-push, further, ok-both, pushed, take-front}
use Rattle.vg_ssa.proofs.values.Values.+number.Goals as goal

pub number_single-number-requires : goal.number_single-number-requires
number_single-number-requires t c =
    let b = built c.args.self.now in
    let p = numbered_in b (expression_of c.args.x.now) in
    (omega (arith, c.decreases), take-front b p.units (Operation c.args.op c.args.width c.args.amount (operands p.value Nothing Nothing) ∷ []) c.requires)

pub number_single-push-requires : goal.number_single-push-requires
number_single-push-requires t c =
    let b = built c.args.self.now in
    let p = numbered_in b (expression_of c.args.x.now) in
    let g = c.in_ok-first.ensures in
    can-push b (built c.number.new.self) p.units (Operation c.args.op c.args.width c.args.amount (operands p.value Nothing Nothing))
    (Operation c.args.op c.args.width c.args.amount (operands c.in_ok-first.first Nothing Nothing)) g.built (λ i. Operation c.args.op c.args.width c.args.amount (operands (g.value i) Nothing Nothing)) c.requires

pub number_single-returns : goal.number_single-returns
number_single-returns t c =
    let b = built c.args.self.now in
    let p = numbered_in b (expression_of c.args.x.now) in
    let g = c.in_ok-first.ensures in
    ok-both c.push.result _ _ _ (λ v e f. pushed b (built c.number.new.self) (built c.push.new.self) p.units (Operation c.args.op c.args.width c.args.amount (operands p.value Nothing Nothing))
    (Operation c.args.op c.args.width c.args.amount (operands c.in_ok-first.first Nothing Nothing)) v g.built (λ i. Operation c.args.op c.args.width c.args.amount (operands (g.value i) Nothing Nothing)) e f) c.push.ensures.built c.push.ensures.value

pub number_pair-number-requires : goal.number_pair-number-requires
number_pair-number-requires t c =
    let b = built c.args.self.now in
    let p = numbered_in b (expression_of c.args.x.now) in
    let q = behind_units b p.units (expression_of c.args.y.now) in
    (omega (arith, c.decreases), take-front b p.units q.units (take-front b (p.units ++ q.units) (Operation c.args.op c.args.width 0 (operands p.value q.value Nothing) ∷ []) c.requires))

pub number_pair-number-requires-2 : goal.number_pair-number-requires-2
number_pair-number-requires-2 t c =
    let b = built c.args.self.now in
    let p = numbered_in b (expression_of c.args.x.now) in
    let q = behind_units b p.units (expression_of c.args.y.now) in
    let g = c.in_ok-first.ensures in
    (omega (arith, c.decreases), can-number b (built c.number.new.self) p.units (expression_of c.args.y.now) g.built (take-front b (p.units ++ q.units) (Operation c.args.op c.args.width 0 (operands p.value q.value Nothing) ∷ []) c.requires))

pub number_pair-push-requires : goal.number_pair-push-requires
number_pair-push-requires t c =
    let b = built c.args.self.now in
    let p = numbered_in b (expression_of c.args.x.now) in
    let q = behind_units b p.units (expression_of c.args.y.now) in
    let g = c.in_ok-first.ensures in
    let f = further b (built c.number.new.self) (built c.number-2.new.self) p.units (expression_of c.args.y.now) c.in_ok-second.second g.built c.in_ok-second.ensures in
    can-push b (built c.number-2.new.self) (p.units ++ q.units) (Operation c.args.op c.args.width 0 (operands p.value q.value Nothing))
    (Operation c.args.op c.args.width 0 (operands c.in_ok-first.first c.in_ok-second.second Nothing)) f.0 (λ i. Operation c.args.op c.args.width 0 (operands (g.value i) (f.1 i) Nothing)) c.requires

pub number_pair-returns : goal.number_pair-returns
number_pair-returns t c =
    let b = built c.args.self.now in
    let p = numbered_in b (expression_of c.args.x.now) in
    let q = behind_units b p.units (expression_of c.args.y.now) in
    let g = c.in_ok-first.ensures in
    let f = further b (built c.number.new.self) (built c.number-2.new.self) p.units (expression_of c.args.y.now) c.in_ok-second.second g.built c.in_ok-second.ensures in
    ok-both c.push.result _ _ _ (λ v e h. pushed b (built c.number-2.new.self) (built c.push.new.self) (p.units ++ q.units) (Operation c.args.op c.args.width 0 (operands p.value q.value Nothing))
    (Operation c.args.op c.args.width 0 (operands c.in_ok-first.first c.in_ok-second.second Nothing)) v f.0 (λ i. Operation c.args.op c.args.width 0 (operands (g.value i) (f.1 i) Nothing)) e h) c.push.ensures.built c.push.ensures.value

pub number_choice-number-requires : goal.number_choice-number-requires
number_choice-number-requires t c =
    let b = built c.args.self.now in
    let o = numbered_in b (expression_of c.args.c.now) in
    let p = behind_units b o.units (expression_of c.args.x.now) in
    let q = behind_units b (o.units ++ p.units) (expression_of c.args.y.now) in
    (omega (arith, c.decreases), take-front b o.units p.units (take-front b (o.units ++ p.units) q.units (take-front b ((o.units ++ p.units) ++ q.units) (Operation Select c.args.width 0 (operands o.value p.value q.value) ∷ []) c.requires)))

pub number_choice-number-requires-2 : goal.number_choice-number-requires-2
number_choice-number-requires-2 t c =
    let b = built c.args.self.now in
    let o = numbered_in b (expression_of c.args.c.now) in
    let p = behind_units b o.units (expression_of c.args.x.now) in
    let q = behind_units b (o.units ++ p.units) (expression_of c.args.y.now) in
    let g = c.in_ok-first.ensures in (
      omega (arith, c.decreases),
      can-number b (built c.number.new.self) o.units (expression_of c.args.x.now) g.built
          (take-front b (o.units ++ p.units) q.units (take-front b ((o.units ++ p.units) ++ q.units) (Operation Select c.args.width 0 (operands o.value p.value q.value) ∷ []) c.requires)),
    )

pub number_choice-number-requires-3 : goal.number_choice-number-requires-3
number_choice-number-requires-3 t c =
    let b = built c.args.self.now in
    let o = numbered_in b (expression_of c.args.c.now) in
    let p = behind_units b o.units (expression_of c.args.x.now) in
    let q = behind_units b (o.units ++ p.units) (expression_of c.args.y.now) in
    let g = c.in_ok-first.ensures in
    let f = further b (built c.number.new.self) (built c.number-2.new.self) o.units (expression_of c.args.x.now) c.in_ok-second.second g.built c.in_ok-second.ensures in (
      omega (arith, c.decreases),
      can-number b (built c.number-2.new.self) (o.units ++ p.units) (expression_of c.args.y.now) f.0
          (take-front b ((o.units ++ p.units) ++ q.units) (Operation Select c.args.width 0 (operands o.value p.value q.value) ∷ []) c.requires),
    )

pub number_choice-push-requires : goal.number_choice-push-requires
number_choice-push-requires t c =
    let b = built c.args.self.now in
    let o = numbered_in b (expression_of c.args.c.now) in
    let p = behind_units b o.units (expression_of c.args.x.now) in
    let q = behind_units b (o.units ++ p.units) (expression_of c.args.y.now) in
    let g = c.in_ok-first.ensures in
    let f = further b (built c.number.new.self) (built c.number-2.new.self) o.units (expression_of c.args.x.now) c.in_ok-second.second g.built c.in_ok-second.ensures in
    let h = further b (built c.number-2.new.self) (built c.number-3.new.self) (o.units ++ p.units) (expression_of c.args.y.now) c.in_ok-third.third f.0 c.in_ok-third.ensures in
    can-push b (built c.number-3.new.self) ((o.units ++ p.units) ++ q.units) (Operation Select c.args.width 0 (operands o.value p.value q.value))
    (Operation Select c.args.width 0 (operands c.in_ok-first.first c.in_ok-second.second c.in_ok-third.third)) h.0 (λ i. Operation Select c.args.width 0 (operands (g.value i) (f.1 i) (h.1 i))) c.requires

pub number_choice-returns : goal.number_choice-returns
number_choice-returns t c =
    let b = built c.args.self.now in
    let o = numbered_in b (expression_of c.args.c.now) in
    let p = behind_units b o.units (expression_of c.args.x.now) in
    let q = behind_units b (o.units ++ p.units) (expression_of c.args.y.now) in
    let g = c.in_ok-first.ensures in
    let f = further b (built c.number.new.self) (built c.number-2.new.self) o.units (expression_of c.args.x.now) c.in_ok-second.second g.built c.in_ok-second.ensures in
    let h = further b (built c.number-2.new.self) (built c.number-3.new.self) (o.units ++ p.units) (expression_of c.args.y.now) c.in_ok-third.third f.0 c.in_ok-third.ensures in
    ok-both c.push.result _ _ _ (λ v e k. pushed b (built c.number-3.new.self) (built c.push.new.self) ((o.units ++ p.units) ++ q.units) (Operation Select c.args.width 0 (operands o.value p.value q.value))
    (Operation Select c.args.width 0 (operands c.in_ok-first.first c.in_ok-second.second c.in_ok-third.third)) v h.0 (λ i. Operation Select c.args.width 0 (operands (g.value i) (f.1 i) (h.1 i))) e k) c.push.ensures.built c.push.ensures.value
