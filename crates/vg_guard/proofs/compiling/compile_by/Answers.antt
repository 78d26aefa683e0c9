use Rattle.std.proofs.Common.{ap, map}
use Rattle.std.proofs.lemmas.Result.{IfOk-weaker}
use Rattle.vg_catalog.specs.Catalogs.{entries_in}
use Rattle.vg_catalog.specs.Extensions.{bits_in}
use Rattle.vg_shapes.specs.Description.{description_of}
use Rattle.vg_compile.proofs.Described.{are-described, described-callable}
use Rattle.vg_guard.proofs.compiling.compile_by.Goals as goal

pub compile_guarded_described-requires-clause-callable : goal.compile_guarded_described-requires-clause-callable
compile_guarded_described-requires-clause-callable c =
    let found = c.in_ok-descriptions.ensures in
    let ds = map description_of c.in_ok-descriptions.descriptions.items in
    let xs = map description_of c.as_slice.result.now in
    described-callable (entries_in c.args.catalog.now) (bits_in c.args.allowed) xs
    (are-described c.args.catalog.now (bits_in c.args.allowed) ds xs (ap (map description_of) c.as_slice.ensures.value) found.is found.are_of)

pub returns : goal.returns
returns c =
    let found = c.in_ok-descriptions.ensures in
    let ds = map description_of c.in_ok-descriptions.descriptions.items in
    let xs = map description_of c.as_slice.result.now in
    IfOk-weaker c.compile_guarded_described.result _ _
    (λ p is. is (entries_in c.args.catalog.now) (bits_in c.args.allowed)
    (are-described c.args.catalog.now (bits_in c.args.allowed) ds xs (ap (map description_of) c.as_slice.ensures.value) found.is found.are_of))
    c.compile_guarded_described.ensures
