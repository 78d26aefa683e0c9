use Rattle.std.proofs.Common.{◌≡◌, drop}
use Rattle.vg_emission.specs.Emission.{extracts}
use Rattle.vg_emit.specs.Views.{behind, job_of, known, made_of}
use Rattle.vg_emit.proofs.extracts.put_extracts.Given as goal

abbrev pub invariant-lanes : goal.invariant-lanes
invariant-lanes l = record {
  number : l.lane ≡ l.value-index;
  made : behind (made_of l.draft) (extracts (job_of l.job) (known l.draft) l.register l.width l.value-index (drop l.value-index l.lanes)) ≡ behind (made_of l.fn.draft) (extracts (job_of l.job) (known l.fn.draft) l.register l.width 0 l.lanes);
}
