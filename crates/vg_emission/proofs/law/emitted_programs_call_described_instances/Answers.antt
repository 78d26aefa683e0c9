use Rattle.vg_emission.proofs.Described.{emitted-calls-described}
use Rattle.vg_emission.proofs.law.emitted_programs_call_described_instances.Goals as goal

pub returns : goal.returns
returns c = emitted-calls-described
