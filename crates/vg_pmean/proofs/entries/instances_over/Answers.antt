use Rattle.std.proofs.Common.{subst, Some, Ok}
use Rattle.vg_range.specs.Checks.{header_in, operation_in}
use Rattle.vg_pmean.specs.Entries.{InstanceForOne}
use Rattle.vg_pmean.proofs.Answering.{one_more_instance}
use Rattle.vg_pmean.proofs.entries.instances_over.Goals as goal

pub immediates-preserved : goal.immediates-preserved
immediates-preserved c =
    let h = header_in c.args.checked.now in
    let o = operation_in c.args.checked.now in
    let imm = c.immediate_at-imm.result in
    let found = subst (λ x. InstanceForOne h o (Some imm) (Ok x)) c.in-Some.is c.in_ok-instance.ensures in
    let more =
    one_more_instance h o c.args.range.now.lo c.immediates.step imm c.immediates.instances.items c.push.new.self.items c.in-Some.instance
    c.immediates.invariant.all c.immediates.invariant.count c.immediate_at-imm.ensures found.1 c.in_ok-push.ensures.items in
    record { all = more.0; count = more.1 }
