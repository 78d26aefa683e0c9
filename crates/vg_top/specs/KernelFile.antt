-- What a kernel file of a request holds: a kernel, or a counted loop.
use Rattle.std.specs.Prelude.{◌≡◌, ℕ, Bool, true, false, List, Option, Some, None, Result, Ok, Err}
use Rattle.vg_base.specs.Bind.{◌>>=◌}
use Rattle.vg_text.specs.declared.place.Place.{Place}
use Rattle.vg_kernel.specs.declared.fault.KernelFault.{KernelFault}
use Rattle.vg_kernel.specs.declared.fault.KernelFault.TheVariants.{LoopHere}
use Rattle.vg_kernel.specs.declared.kernel.Kernel.{Kernel}
use Rattle.vg_kernel.specs.Statements.{kernel_of}
use Rattle.vg_kernel.specs.Tree.{Tree, tree_of}
use Rattle.vg_kernel.specs.WellFormed.{IsWellFormed}
use Rattle.vg_loop_laws.specs.Loops.{Loop}
use Rattle.vg_loops.specs.declared.counted.Loop as given
use Rattle.vg_loops.specs.Formed.{IsLoop}
use Rattle.vg_loops.specs.Reader.{loop_from, loop_place}
use Rattle.vg_loops.specs.View.{loop_of}
use Rattle.vg_top.specs.declared.ending.FileNumber.{FileNumber}
use Rattle.vg_top.specs.declared.ending.Ending.{Ending}
use Rattle.vg_top.specs.declared.ending.Ending.TheVariants.{Kernel as KernelRefused}
use Rattle.vg_top.specs.declared.kernel_file.KernelFile as code
use Rattle.vg_top.specs.declared.kernel_file.KernelFile.TheVariants as seen

pub data KernelFile : Type 0 where
  plain : Tree → KernelFile
  counted : Loop → KernelFile

-- where the first word of a text is `loop`, it is judged as a loop, else as a kernel
abbrev pub file_by : Option Place → List ℕ → Result KernelFile KernelFault
file_by (Some announced) text = loop_from text >>= λ l. Ok (counted l)
file_by None text = kernel_of text >>= λ k. Ok (plain k)

unfoldable pub kernel_file : List ℕ → Result KernelFile KernelFault
kernel_file text = file_by (loop_place text) text

-- where a kernel alone may stand, a loop without a fault is refused at its first word
abbrev pub alone_by : Option Place → List ℕ → Result Tree KernelFault
alone_by (Some announced) text = loop_from text >>= λ l. Err (LoopHere announced)
alone_by None text = kernel_of text

unfoldable pub kernel_alone : List ℕ → Result Tree KernelFault
kernel_alone text = alone_by (loop_place text) text

-- what guards are made of: with more plans a loop as well, without them a kernel alone
abbrev pub guardable : Bool → List ℕ → Result KernelFile KernelFault
guardable true text = kernel_file text
guardable false text = kernel_alone text >>= λ k. Ok (plain k)

-- a fault of the kernel file, which has this number
abbrev pub kernel_or_refusal : {K : Type 0} → FileNumber → Result K KernelFault → Result K Ending
kernel_or_refusal n (Ok k) = Ok k
kernel_or_refusal n (Err f) = Err (KernelRefused n f)

-- the rules on a kernel, and those on a loop
abbrev pub IsFormed : KernelFile → Type 0
IsFormed (plain k) = IsWellFormed k
IsFormed (counted l) = IsLoop l

-- what the code's value stands for
abbrev pub file_seen : code.KernelFile → KernelFile
file_seen (seen.Plain k) = plain (tree_of k)
file_seen (seen.Counted l) = counted (loop_of l)

-- the kernel, the loop or the file of the code is the one that is told
abbrev pub IsTree : Kernel → Tree → Type 0
IsTree t k = tree_of t ≡ k

abbrev pub IsLoopOf : given.Loop → Loop → Type 0
IsLoopOf source l = loop_of source ≡ l

abbrev pub IsFile : code.KernelFile → KernelFile → Type 0
IsFile file f = file_seen file ≡ f
