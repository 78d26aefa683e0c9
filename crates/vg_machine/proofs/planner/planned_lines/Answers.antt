use Rattle.std.proofs.Common.{◌≡◌, List, ℕ, sym, ap, subst, ◌∙◌, map, ◌-◌, length, take, drop}
use Rattle.vg_program.specs.declared.line.Line.{Line}
use Rattle.vg_catalog.specs.Entries.{Entry, entry_of}
use Rattle.vg_catalog.specs.Written.{AllWritten}
use Rattle.vg_machine.specs.declared.instances.KeptInstance.{KeptInstance}
use Rattle.vg_machine.specs.ReadyInstance.{Instances, ArePlanned, IsCalled, kept_of}
use Rattle.vg_machine.specs.Planner.{planned_of}
use Rattle.vg_machine.proofs.Planning.{PlannedUpTo, planned_begins, planned_turn, planned_ends, called_first, called_rest}
use Rattle.vg_machine.proofs.planner.planned_lines.Goals as goal

pub lines-init : goal.lines-init
lines-init c = record {
  entries = ap (λ (i : Instances). i.entries) c.in_ok-planner.ensures.planned;
  sound = c.in_ok-planner.ensures.sound;
  called = c.requires.called;
  planned = planned_begins (planned_of c.in_ok-planner.planner) c.new-plan.result.items c.args.lines.now c.new-plan.ensures.items;
}

pub plan-requires-clause-written : goal.plan-requires-clause-written
plan-requires-clause-written c = subst (λ (es : List Entry). AllWritten es) (sym c.lines.invariant.entries) c.requires.written

pub plan-requires-clause-called : goal.plan-requires-clause-called
plan-requires-clause-called c =
    subst (λ (es : List Entry). IsCalled es c.line-item.result) (sym c.lines.invariant.entries)
    (called_first (map entry_of c.args.entries.now) c.lines.left.now c.line-item.result c.in-len1-up.len_at_least c.line-item.is c.lines.invariant.called)

pub lines-preserved : goal.lines-preserved
lines-preserved c =
    let p = c.in_ok-place.ensures.planned in
    record {
      entries = p.same ∙ c.lines.invariant.entries;
      sound = c.in_ok-place.ensures.sound;
      called = called_rest (map entry_of c.args.entries.now) c.lines.left.now c.in-len1-up.len_at_least c.lines.invariant.called;
      planned = subst (λ (ps : List ℕ). PlannedUpTo (planned_of c.plan.new.self) ps (take (length c.lines.left.now - 1) (drop 1 c.lines.left.now)) c.args.lines.now) (sym c.in_ok-push.ensures.items)
          (planned_turn (planned_of c.lines.planner) (planned_of c.plan.new.self) c.lines.plan.items c.in_ok-place.place c.lines.left.now c.line-item.result c.args.lines.now c.in-len1-up.len_at_least c.line-item.is p c.lines.invariant.planned);
    }

pub returns-clause-planned : goal.returns-clause-planned
returns-clause-planned c =
    let all = planned_ends (planned_of c.lines.planner) c.lines.plan.items c.lines.left.now c.args.lines.now c.in_default.len_below c.lines.invariant.planned in
    let same : planned_of c.lines.planner ≡ record { entries = map entry_of c.args.entries.now; kept = map kept_of c.into_kept-kept.result.items } =
    λ i. record { entries = c.lines.invariant.entries i; kept = map kept_of (sym c.into_kept-kept.ensures i) } in
    subst (λ (x : Instances). ArePlanned x c.lines.plan.items 0 c.args.lines.now) same all
