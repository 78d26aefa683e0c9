-- Accesses by the index of their first byte.
use Rattle.std.proofs.Common.{◌≡◌, ℕ, ℤ, pos, negsuc, Bool, true, false, List, length, Some, None, if◌then◌else◌, refl}
use Rattle.vg_base.specs.Bits.{bytes}
use Rattle.vg_base.specs.Memory.{stored}
use Rattle.vg_memory.specs.Access.{index_of}
use Rattle.vg_memory.proofs.ByteLaws.{length-bytes}

none_kept : {A B : Type 0} (b : Bool) (x : A) (y : B) → (if b then Some x else None) ≡ None → (if b then Some y else None) ≡ None
none_kept true x y e = cc
none_kept false x y e = refl

-- a store outside
pub stored-none : (memory : List ℕ) (address : ℤ) (size n : ℕ) → index_of (length memory) address size ≡ None → stored memory address (bytes size n) ≡ None
stored-none memory (pos a) size n e = rw (length-bytes size n) (none_kept _ a _ e)
stored-none memory (negsuc a) size n e = refl
