use Rattle.std.proofs.Common.{◌≡◌, ap, sym, subst, ◌∙◌, true, Ok}
use Rattle.vg_base.specs.Gives.{FailsBy}
use Rattle.vg_interval.specs.Views.{told}
use Rattle.vg_names.specs.Views.{resolved_of}
use Rattle.vg_range.specs.Seen.{state_view}
use Rattle.vg_range.specs.Checks.{header_in, operation_in}
use Rattle.vg_range.specs.Immediates.{has_instance}
use Rattle.vg_range.specs.Unrolled.{IsFormedEntry, MeansEntry, unrolled}
use Rattle.vg_range.specs.Walk.{instance_at}
use Rattle.vg_range.proofs.Unrolled.{only_memory_there, unrolled_there, formed_there, means_there}
use Rattle.vg_range.proofs.checked.Checked.unroll.Goals as goal

pub memory_error-requires : goal.memory_error-requires
memory_error-requires c =
    let entry = c.args.self.now in
    let r = resolved_of entry.resolved in
    let fault = c.in-Err.fault in
    let has =
    ap (λ h. has_instance h.imm c.args.imm) (sym c.header.ensures.header)
    ∙ sym c.has_instance.ensures ∙ c.if-not-has_instance.false in
    only_memory_there (header_in entry) (operation_in entry) r c.args.imm fault entry.accepted has
    (subst (λ i. FailsBy (told fault) (instance_at true r i)) c.wide.ensures.is c.in-Err.ensures)

pub returns-clause-is : goal.returns-clause-is
returns-clause-is c =
    let entry = c.args.self.now in
    let r = resolved_of entry.resolved in
    let w = state_view c.in-Ok.state.value in
    let has =
    ap (λ h. has_instance h.imm c.args.imm) (sym c.header.ensures.header)
    ∙ sym c.has_instance.ensures ∙ c.if-not-has_instance.false in
    let is = subst (λ i. instance_at true r i ≡ Ok w) c.wide.ensures.is c.in-Ok.ensures in (
      has,
      subst (λ i. ∥ unrolled (header_in entry) (operation_in entry) c.args.imm ≡ Ok i ∥₁) (sym c.in_ok-whole.ensures)
          (unrolled_there (header_in entry) (operation_in entry) r c.args.imm w entry.accepted is),
    )

pub returns-clause-formed : goal.returns-clause-formed
returns-clause-formed c =
    let entry = c.args.self.now in
    let r = resolved_of entry.resolved in
    let w = state_view c.in-Ok.state.value in
    let has =
    ap (λ h. has_instance h.imm c.args.imm) (sym c.header.ensures.header)
    ∙ sym c.has_instance.ensures ∙ c.if-not-has_instance.false in
    let is = subst (λ i. instance_at true r i ≡ Ok w) c.wide.ensures.is c.in-Ok.ensures in
    subst (IsFormedEntry (header_in entry) (operation_in entry)) (sym c.in_ok-whole.ensures)
    (formed_there c.resolved_operations_are_proper.ensures (header_in entry) (operation_in entry) r c.args.imm w entry.accepted has c.wide.ensures.small is)

pub returns-clause-means : goal.returns-clause-means
returns-clause-means c =
    let entry = c.args.self.now in
    let r = resolved_of entry.resolved in
    let w = state_view c.in-Ok.state.value in
    let has =
    ap (λ h. has_instance h.imm c.args.imm) (sym c.header.ensures.header)
    ∙ sym c.has_instance.ensures ∙ c.if-not-has_instance.false in
    let is = subst (λ i. instance_at true r i ≡ Ok w) c.wide.ensures.is c.in-Ok.ensures in
    subst (MeansEntry (header_in entry) (operation_in entry) c.args.imm) (sym c.in_ok-whole.ensures)
    (means_there c.resolved_operations_are_proper.ensures (header_in entry) (operation_in entry) r c.args.imm w entry.accepted has c.wide.ensures.small is)
