use Rattle.std.proofs.Common.{◌≡◌, IfOk, ap, map, subst, sym}
use Rattle.vg_catalog.specs.Extensions.{bits_in}
use Rattle.vg_catalog.specs.Written.{AllWritten}
use Rattle.vg_catalog.proofs.Kept.{catalog-written}
use Rattle.vg_entry_lanes.specs.Laws.{HaveLanes}
use Rattle.vg_entry_lanes.proofs.Headers.{catalog-lanes}
use Rattle.vg_shapes.specs.Description.{description_of}
use Rattle.vg_descriptions.specs.Descriptions.{AreOf, descriptions}
use Rattle.vg_descriptions.specs.Proper.{AreProper}
use Rattle.vg_descriptions.proofs.Proper.{catalog-proper}
use Rattle.vg_descriptions.proofs.descriptions.descriptions_of.Goals as goal

pub all_descriptions-requires-clause-written : goal.all_descriptions-requires-clause-written
all_descriptions-requires-clause-written c = subst AllWritten (sym c.entries.ensures.entries) (catalog-written c.args.catalog.now)

pub all_descriptions-requires-clause-lanes : goal.all_descriptions-requires-clause-lanes
all_descriptions-requires-clause-lanes c = subst HaveLanes (sym c.entries.ensures.entries) (catalog-lanes c.args.catalog.now)

pub all_descriptions-requires-clause-proper : goal.all_descriptions-requires-clause-proper
all_descriptions-requires-clause-proper c = subst AreProper (sym c.entries.ensures.entries) (catalog-proper c.args.catalog.now)

pub returns-clause-is : goal.returns-clause-is
returns-clause-is c =
    subst (λ es. IfOk c.all_descriptions.result (λ ds. map description_of ds.items ≡ descriptions (bits_in c.args.allowed) es))
    c.entries.ensures.entries c.all_descriptions.ensures.is

pub returns-clause-are_of : goal.returns-clause-are_of
returns-clause-are_of c =
    subst (λ es. IfOk c.all_descriptions.result (λ ds. AreOf es (map description_of ds.items)))
    c.entries.ensures.entries c.all_descriptions.ensures.are_of
