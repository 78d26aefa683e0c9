use Rattle.std.proofs.Common.{ap, ◌∙◌}
use Rattle.vg_range.specs.Checks.{header_in, operation_in}
use Rattle.vg_pmean.specs.Entries.{least_of}
use Rattle.vg_pmean.proofs.Answering.{all_ready}
use Rattle.vg_pmean.proofs.prepared.Prepared.new.Goals as goal

pub returns : goal.returns
returns c = record {
  means = all_ready (header_in c.args.checked.now) (operation_in c.args.checked.now) c.least_of.result c.in_ok-instances.instances.items
      c.from_instances.result c.from_instances.ensures
      (c.least_of.ensures ∙ ap (λ h. least_of h.imm) c.header.ensures.header) c.in_ok-instances.ensures;
}
