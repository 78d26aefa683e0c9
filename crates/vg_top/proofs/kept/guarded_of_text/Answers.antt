use Rattle.std.proofs.Common.{refl}
use Rattle.vg_library.specs.Kept.{entries_kept}
use Rattle.vg_top.specs.Files.{second_file}
use Rattle.vg_top.specs.Kept.{choices_kept}
use Rattle.vg_top.specs.KernelFile.{file_seen, guardable, kernel_or_refusal}
use Rattle.vg_top.specs.OnKernel.{guarded_of}
use Rattle.vg_top.proofs.Answers.{answered}
use Rattle.vg_top.proofs.kept.guarded_of_text.Goals as goal

pub returns-in-Ok-guarded : goal.returns-in-Ok-guarded
returns-in-Ok-guarded c =
    let l = c.args.library.now in
    record {
      told = answered file_seen (λ es. guarded_of es (choices_kept l c.args.width c.args.more)) (entries_kept l) (entries_kept l)
          (kernel_or_refusal second_file (guardable c.args.more c.args.text.now)) c.in-Ok.file c.in-Ok-guarded.bytes refl c.in-Ok.ensures.told c.in-Ok-guarded.ensures;
      refusal = tt;
    }
