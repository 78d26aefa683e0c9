use Rattle.std.proofs.Common.{subst}
use Rattle.vg_emission.specs.Emission.{constants_of}
use Rattle.vg_gather.specs.Adding.{Adds}
use Rattle.vg_gather.proofs.Carries.{from_zeros}
use Rattle.vg_gather.proofs.constant_bytes.constant_bytes.Goals as goal

pub returns : goal.returns
returns c =
    from_zeros _ _ c.in_ok-made.made.len c.in_ok-made.made.items c.as_mut_slice.result.now c.add_constants.new.bytes
    c.in_ok-made.ensures.items c.in_ok-made.ensures.len c.as_mut_slice.ensures.value
    (subst (λ ss. Adds (constants_of ss) c.as_mut_slice.result.now c.add_constants.new.bytes) c.as_slice.ensures c.add_constants.ensures)
