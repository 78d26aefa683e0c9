-- Rows that give something under a test.
use Rattle.std.proofs.Common.{◌≡◌, Bool, true, false, refl}
use Rattle.std.specs.Prelude.{Some, None, IsSome, if◌then◌else◌}
use Rattle.vg_terms.specs.Term.{Tree}

-- where it applies, it gives that
pub given : (b : Bool) (v : Tree) → IsSome (if b then Some v else None) → (if b then Some v else None) ≡ Some v
given true v h = refl
given false v h = absurd (cc)
