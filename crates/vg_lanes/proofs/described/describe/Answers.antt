use Rattle.std.proofs.Common.{sym, ap, ◌∙◌, subst, map}
use Rattle.vg_shapes.specs.Lane.{lane_of}
use Rattle.vg_lanes.specs.Described.{IsKept, cause_of, not_packable, packable}
use Rattle.vg_lanes.proofs.Kept.{described-kept}
use Rattle.vg_lanes.proofs.Lanes.{formed-lanes, made-by}
use Rattle.vg_lanes.proofs.described.describe.Goals as goal

pub canonical_lanes-requires : goal.canonical_lanes-requires
canonical_lanes-requires c = formed-lanes c.args.header.now c.args.lanes.items c.requires.each

pub returns-in_ok-found-in-None-clause-is : goal.returns-in_ok-found-in-None-clause-is
returns-in_ok-found-in-None-clause-is c =
    ap packable c.in_ok-found-in-None.ensures
    ∙ made-by c.args.header.now c.args.imm c.args.lanes.items c.in_ok-forms.forms.items _ c.in_ok-forms.ensures
    (sym c.in-None.is ∙ c.in_ok-first_cause.ensures ∙ ap (λ fs. cause_of (map lane_of fs)) c.as_slice.ensures.value)

pub returns-in_ok-found-in-None-clause-kept : goal.returns-in_ok-found-in-None-clause-kept
returns-in_ok-found-in-None-clause-kept c =
    subst IsKept (sym (returns-in_ok-found-in-None-clause-is c))
    (described-kept c.args.header.now c.args.imm (map lane_of c.args.lanes.items) c.requires)

pub returns-in-Some-clause-is : goal.returns-in-Some-clause-is
returns-in-Some-clause-is c =
    ap (λ ls. not_packable (map lane_of ls) c.in-Some.cause) c.from_vec.ensures
    ∙ made-by c.args.header.now c.args.imm c.args.lanes.items c.in_ok-forms.forms.items _ c.in_ok-forms.ensures
    (sym c.in-Some.is ∙ c.in_ok-first_cause.ensures ∙ ap (λ fs. cause_of (map lane_of fs)) c.as_slice.ensures.value)
