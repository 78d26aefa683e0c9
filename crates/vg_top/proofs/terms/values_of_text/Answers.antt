use Rattle.vg_top.specs.Files.{first_file}
use Rattle.vg_top.specs.KernelFile.{kernel_file, kernel_or_refusal}
use Rattle.vg_top.proofs.Values.{values-answered}
use Rattle.vg_top.proofs.terms.values_of_text.Goals as goal

pub returns-in-Ok-values_in : goal.returns-in-Ok-values_in
returns-in-Ok-values_in c =
    record {
      told = values-answered c.args.more (kernel_or_refusal first_file (kernel_file c.args.text.now)) c.in-Ok.file c.in-Ok-values_in.lines
          c.in-Ok.ensures.told c.in-Ok-values_in.ensures;
      refusal = tt;
    }
