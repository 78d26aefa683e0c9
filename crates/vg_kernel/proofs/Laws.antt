-- What the reader answers, by the language of kernels.
use Rattle.std.proofs.Common.{ℕ, List, Result, Ok, Err, subst}
use Rattle.std.specs.Result.{IfOk}
use Rattle.vg_kernel.specs.declared.fault.KernelFault.{KernelFault}
use Rattle.vg_kernel.specs.declared.kernel.Kernel.{Kernel}
use Rattle.vg_kernel.specs.Gives.{Gives}
use Rattle.vg_kernel.specs.Tree.{Tree, tree_of}
use Rattle.vg_kernel.specs.Grammar.{IsKernelText}
use Rattle.vg_kernel.specs.WellFormed.{IsWellFormed}
use Rattle.vg_kernel.specs.Statements.{kernel_of}
use Rattle.vg_kernel.proofs.KernelsFound.{kernel_of-found}
use Rattle.vg_kernel.proofs.KernelsAgain.{kernel_of-again}
use Rattle.vg_kernel.proofs.WellFormed.{kernel-well_formed}

pub sound : (text : List ℕ) (r : Result Kernel KernelFault) → Gives tree_of r (kernel_of text) → IfOk r (λ k. IsKernelText text (tree_of k))
sound text (Ok k) e = kernel_of-found text (tree_of k) e
sound text (Err f) e = tt

pub complete : (text : List ℕ) (r : Result Kernel KernelFault) → Gives tree_of r (kernel_of text) → (k : Tree) → IsKernelText text k → Gives tree_of r (Ok k)
complete text r e k is = subst (Gives tree_of r) (kernel_of-again text k is) e

pub well_formed : (text : List ℕ) (r : Result Kernel KernelFault) → Gives tree_of r (kernel_of text) → IfOk r (λ k. IsWellFormed (tree_of k))
well_formed text (Ok k) e = kernel-well_formed text (tree_of k) (kernel_of-found text (tree_of k) e)
well_formed text (Err f) e = tt
