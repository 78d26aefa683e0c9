use Rattle.std.proofs.Common.{subst, ap, ◌∙◌, length}
use Rattle.std.specs.Prelude.{Ok}
use Rattle.vg_range.specs.Checks.{header_in, operation_in}
use Rattle.vg_range.specs.Immediates.{immediate_of}
use Rattle.vg_range.specs.Unrolled.{IsFormedEntry, MeansEntry, OnInstance, Unrolls}
use Rattle.vg_script.specs.Views.{whole_of}
use Rattle.vg_lift.proofs.Entries.{static_there}
use Rattle.vg_lift.proofs.InstanceLanes.{is_dynamic_there, leaves_dst}
use Rattle.vg_lift.proofs.entry.lift_entry.Goals as goal

pub returns-then-whole-clause-lifts : goal.returns-then-whole-clause-lifts
returns-then-whole-clause-lifts c =
    let entry = c.args.checked.now in
    let at = c.immediate_of-at.result in
    let found = subst (λ x. Unrolls entry at (Ok x)) c.in-Some.is c.in_ok-unroll.ensures.is in
    let same = c.immediate_of-at.ensures ∙ ap (λ g. immediate_of g.imm c.args.imm) c.header-2.ensures.header in
    is_dynamic_there (header_in entry) (operation_in entry) c.args.imm at (whole_of c.in-Some.whole) same found.1 c.if-whole.true

pub lift_instance-requires-clause-is_static : goal.lift_instance-requires-clause-is_static
lift_instance-requires-clause-is_static c =
    let entry = c.args.checked.now in
    let at = c.immediate_of-at.result in
    let found = subst (λ x. Unrolls entry at (Ok x)) c.in-Some.is c.in_ok-unroll.ensures.is in
    static_there (header_in entry) (operation_in entry) at (whole_of c.in-Some.whole) found.1 c.if-whole.false

pub returns-clause-lifts : goal.returns-clause-lifts
returns-clause-lifts c =
    let entry = c.args.checked.now in
    let h = header_in entry in
    let o = operation_in entry in
    let at = c.immediate_of-at.result in
    let found = subst (λ x. Unrolls entry at (Ok x)) c.in-Some.is c.in_ok-unroll.ensures.is in
    let formed = subst (λ x. OnInstance (IsFormedEntry h o) (Ok x)) c.in-Some.is c.in_ok-unroll.ensures.formed in
    let means = subst (λ x. OnInstance (MeansEntry h o at) (Ok x)) c.in-Some.is c.in_ok-unroll.ensures.means in
    let same = c.immediate_of-at.ensures ∙ ap (λ g. immediate_of g.imm c.args.imm) c.header-2.ensures.header in
    let count = c.in_ok-parameters.ensures ∙ ap (λ l. length l) c.as_slice.ensures ∙ ap (λ g. length g.params) c.header.ensures.header in
    let lifted = c.in_ok-lifted-in-Some.ensures in
    leaves_dst c.lift_instance.new.pool h o c.args.imm c.in_ok-parameters.parameters at (whole_of c.in-Some.whole) c.in_ok-lifted-in-Some.lifted same count found.1 c.if-whole.false
    formed means c.requires.written lifted.is lifted.fit lifted.width
