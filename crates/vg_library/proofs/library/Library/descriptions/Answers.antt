use Rattle.std.proofs.Common.{ap, map}
use Rattle.vg_shapes.specs.Description.{description_of}
use Rattle.vg_compile.proofs.Described.{are-described, described-callable}
use Rattle.vg_library.specs.Kept.{entries_kept, set_kept}
use Rattle.vg_library.proofs.library.Library.descriptions.Goals as goal

pub returns-clause-described : goal.returns-clause-described
returns-clause-described c =
    let l = c.args.self.now in
    are-described l.catalog (set_kept l) (map description_of l.descriptions.items) (map description_of c.as_slice.result.now)
    (ap (map description_of) c.as_slice.ensures.value) l.all l.each

pub returns-clause-callable : goal.returns-clause-callable
returns-clause-callable c =
    let l = c.args.self.now in
    described-callable (entries_kept l) (set_kept l) (map description_of c.as_slice.result.now)
    (are-described l.catalog (set_kept l) (map description_of l.descriptions.items) (map description_of c.as_slice.result.now)
    (ap (map description_of) c.as_slice.ensures.value) l.all l.each)
