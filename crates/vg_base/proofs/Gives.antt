-- A fault of a part is one of the whole.
use Rattle.std.proofs.Common.{Option, Some, None, Result, refl}
use Rattle.vg_base.specs.Bind.{◌>>=◌}
use Rattle.vg_base.specs.Gives.{FailsBy}

pub fails_bind : {A B F : Type 0} (fault : Option F) (r : Result A F) (f : A → Result B F) → FailsBy fault r → FailsBy fault (r >>= f)
fails_bind (Some fault) r f e = rw e refl
fails_bind None r f e = tt
