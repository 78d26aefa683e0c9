use Rattle.std.proofs.Common.{ap, ◌∙◌, subst, Ok, ◌++◌, ◌∷◌, []}
use Rattle.vg_range.specs.Checks.{header_in, operation_in}
use Rattle.vg_range.specs.Immediates.{immediate_of}
use Rattle.vg_pmean.specs.Entries.{InstanceForOne}
use Rattle.vg_pmean.proofs.Answering.{one_ready}
use Rattle.vg_pmean.proofs.prepared.Prepared.for_one.Goals as goal

pub returns : goal.returns
returns c =
    let h = header_in c.args.checked.now in
    let o = operation_in c.args.checked.now in
    let imm = c.immediate_of-imm.result in
    let i = c.in-Some.instance in
    let found = subst (λ x. InstanceForOne h o imm (Ok x)) c.in-Some.is c.in_ok-instance.ensures in
    record {
      means = one_ready h o c.args.imm imm i c.push.new.self.items c.in_ok-prepared.prepared
          (c.immediate_of-imm.ensures ∙ ap (λ g. immediate_of g.imm c.args.imm) c.header.ensures.header)
          c.in_ok-prepared.ensures
          (c.in_ok-push.ensures.items ∙ ap (λ l. l ++ i ∷ []) c.new-instances.ensures.items) found;
    }
