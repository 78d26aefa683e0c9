-- Emitted programs mean their units.
use Rattle.std.proofs.Common.{refl}
use Rattle.vg_emission.specs.Laws.{EmittedMeansUnits}
use Rattle.vg_emission.specs.Program.{job_of, ordered, program_of}
use Rattle.vg_emission.proofs.Made.{job-made, ordered-legal}
use Rattle.vg_emission.proofs.Orders.{order-means}

pub emitted-means-units : EmittedMeansUnits
emitted-means-units called ds matches ssa packs recipes order planned is keep memory places args bytes arguments respects =
    let j = job_of ds matches ssa packs recipes in
    order-means j matches called (program_of ds matches ssa packs recipes order) (ordered ssa packs order) memory places args refl
    (job-made ds matches ssa packs recipes planned.sound.earlier) planned (ordered-legal ssa matches packs order is)
    (λ last runs. keep places memory args last (record { bytes = bytes; arguments = arguments; runs = runs })) respects bytes arguments
