use Rattle.std.proofs.Common.{refl}
use Rattle.vg_library.specs.Kept.{entries_kept}
use Rattle.vg_top.specs.Files.{second_file}
use Rattle.vg_top.specs.Kept.{choices_kept}
use Rattle.vg_top.specs.KernelFile.{file_seen, kernel_file, kernel_or_refusal}
use Rattle.vg_top.specs.OnKernel.{planned_of}
use Rattle.vg_top.proofs.Answers.{answered}
use Rattle.vg_top.proofs.kept.planned_of_text.Goals as goal

pub returns-in-Ok-planned : goal.returns-in-Ok-planned
returns-in-Ok-planned c =
    let l = c.args.library.now in
    record {
      told = answered file_seen (λ es. planned_of es (choices_kept l c.args.width c.args.more)) (entries_kept l) (entries_kept l)
          (kernel_or_refusal second_file (kernel_file c.args.text.now)) c.in-Ok.file c.in-Ok-planned.bytes refl c.in-Ok.ensures.told c.in-Ok-planned.ensures;
      refusal = tt;
    }
