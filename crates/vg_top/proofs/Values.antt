-- What is written of the values of a kernel answers what is told of it.
use Rattle.std.proofs.Common.{◌≡◌, ℕ, Bool, Result, Ok, Err, subst}
use Rattle.std.specs.Prelude.{Vec}
use Rattle.std.specs.declared.alloc.Global.{Global}
use Rattle.vg_value_text.specs.Listed.{values_text}
use Rattle.vg_top.specs.declared.ending.Ending.{Ending}
use Rattle.vg_top.specs.declared.kernel_file.KernelFile as code
use Rattle.vg_top.specs.Files.{Tells}
use Rattle.vg_top.specs.KernelFile.{KernelFile, file_seen, IsFile}
use Rattle.vg_top.specs.Lift.{AreLines}
use Rattle.vg_top.specs.Terms.{kernel_in, values_told}

pub values-answered : (more : Bool) (told : Result KernelFile Ending) (file : code.KernelFile) (bytes : Vec ℕ Global)
    → Tells IsFile (Ok file) told → bytes.items ≡ values_text (kernel_in (file_seen file)) more
    → Tells AreLines (Ok bytes) (values_told more told)
values-answered more (Ok f) file bytes same is = subst (λ g. bytes.items ≡ values_text (kernel_in g) more) same is
values-answered more (Err e) file bytes none is = none
