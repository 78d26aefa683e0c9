-- Parameters after commas, one step of reading them.
use Rattle.std.proofs.Common.{◌≡◌, ℕ, zero, suc, ◌+◌, ◌<◌, Bool, true, false, List, [], ◌∷◌, ◌++◌, Ok, refl, arith}
use Rattle.vg_text.specs.Words.{Reading}
use Rattle.vg_kernel.specs.declared.fault.KernelFault.{KernelFault}
use Rattle.vg_kernel.specs.declared.parameter.KParam.{KParam}
use Rattle.vg_kernel.specs.Gives.{Fails}
use Rattle.vg_kernel.specs.Statements.{comma_at, parameter_at, parameters_behind}
use Rattle.vg_kernel.proofs.Failing.{fails-bind}

pub comma-fails : (n : ℕ) (done : List KParam) (r : Reading) (fault : KernelFault) → Fails fault (comma_at r) → Fails fault (parameters_behind n done r)
unfolding parameters_behind
comma-fails zero done r fault e = fails-bind fault (comma_at r) _ e
comma-fails (suc n) done r fault e = fails-bind fault (comma_at r) _ e

pub parameters-end : (n : ℕ) (done : List KParam) (r r' : Reading) (c : Bool) → comma_at r ≡ Ok (c, r') → c ≡ false → parameters_behind n done r ≡ Ok (done, r')
unfolding parameters_behind
parameters-end zero done r r' c e t = rw (e, t) refl
parameters-end (suc n) done r r' c e t = rw (e, t) refl

pub parameters-more : (n m : ℕ) (done : List KParam) (p : KParam) (r r' r'' : Reading) (c : Bool) → n ≡ m + 1 → comma_at r ≡ Ok (c, r') → c ≡ true → parameter_at done r' ≡ Ok (p, r'')
    → parameters_behind m (done ++ p ∷ []) r'' ≡ parameters_behind n done r
unfolding parameters_behind
parameters-more zero m done p r r' r'' c k e t f = absurd (omega arith)
parameters-more (suc n) m done p r r' r'' c k e t f = let same : m ≡ n = omega arith in rw (e, t, f, same) refl

pub parameter-fails : (n : ℕ) (done : List KParam) (r r' : Reading) (c : Bool) (fault : KernelFault) → 0 < n → comma_at r ≡ Ok (c, r') → c ≡ true → Fails fault (parameter_at done r') → Fails fault (parameters_behind n done r)
unfolding parameters_behind
parameter-fails zero done r r' c fault h e t f = absurd (omega arith)
parameter-fails (suc n) done r r' c fault h e t f = rw (e, t) (fails-bind fault (parameter_at done r') _ f)
