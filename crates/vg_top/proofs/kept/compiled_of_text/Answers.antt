use Rattle.std.proofs.Common.{refl}
use Rattle.vg_library.specs.Kept.{entries_kept}
use Rattle.vg_top.specs.Files.{second_file}
use Rattle.vg_top.specs.Kept.{choices_kept}
use Rattle.vg_top.specs.KernelFile.{file_seen, kernel_file, kernel_or_refusal}
use Rattle.vg_top.specs.OnKernel.{compiled_of}
use Rattle.vg_top.proofs.Answers.{answered}
use Rattle.vg_top.proofs.kept.compiled_of_text.Goals as goal

pub returns-in-Ok-compiled : goal.returns-in-Ok-compiled
returns-in-Ok-compiled c =
    let l = c.args.library.now in
    record {
      told = answered file_seen (λ es. compiled_of es (choices_kept l c.args.width c.args.more)) (entries_kept l) (entries_kept l)
          (kernel_or_refusal second_file (kernel_file c.args.text.now)) c.in-Ok.file c.in-Ok-compiled.bytes refl c.in-Ok.ensures.told c.in-Ok-compiled.ensures;
      refusal = tt;
    }
