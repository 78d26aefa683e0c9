use Rattle.std.proofs.Common.{ap, map}
use Rattle.vg_catalog.specs.Catalogs.{entries_in}
use Rattle.vg_catalog.specs.Extensions.{bits_in}
use Rattle.vg_shapes.specs.Description.{description_of}
use Rattle.vg_compile.proofs.Described.{are-described, described-callable}
use Rattle.vg_compile.proofs.planning.plan_of.Goals as goal

pub plan_described-requires-clause-callable : goal.plan_described-requires-clause-callable
plan_described-requires-clause-callable c =
    let found = c.in_ok-descriptions.ensures in
    let ds = map description_of c.in_ok-descriptions.descriptions.items in
    let xs = map description_of c.as_slice.result.now in
    described-callable (entries_in c.args.catalog.now) (bits_in c.args.allowed) xs
    (are-described c.args.catalog.now (bits_in c.args.allowed) ds xs (ap (map description_of) c.as_slice.ensures.value) found.is found.are_of)

pub returns-clause-plan : goal.returns-clause-plan
returns-clause-plan c =
    let found = c.in_ok-descriptions.ensures in
    let ds = map description_of c.in_ok-descriptions.descriptions.items in
    let xs = map description_of c.as_slice.result.now in
    c.in_ok-priced.ensures.plan (entries_in c.args.catalog.now) (bits_in c.args.allowed)
    (are-described c.args.catalog.now (bits_in c.args.allowed) ds xs (ap (map description_of) c.as_slice.ensures.value) found.is found.are_of)
