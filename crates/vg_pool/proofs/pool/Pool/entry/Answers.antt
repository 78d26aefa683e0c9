use Rattle.std.proofs.Common.{◌<◌, length, List, sym, subst}
use Rattle.vg_pool.specs.declared.content.Content.{Content}
use Rattle.vg_pool.specs.Pool.{IsEntry}
use Rattle.vg_pool.proofs.Tables.{entry_at, width_read, present}
use Rattle.vg_pool.proofs.pool.Pool.entry.Goals as goal

pub unreachable-requires : goal.unreachable-requires
unreachable-requires c =
    let lt = subst (λ (p : List Content). c.args.node < length p) (sym c.self.view_is) c.requires in
    present c.self.inside.nodes c.self.inside.places.entries c.self.invariant c.args.node lt (c.in-None.ensures)

pub returns-clause-names : goal.returns-clause-names
returns-clause-names c =
    let lt = subst (λ (p : List Content). c.args.node < length p) (sym c.self.view_is) c.requires in
    (entry_at c.self.inside.nodes c.self.inside.places.entries c.self.invariant c.args.node lt c.in-Some.entry.now c.in-Some.ensures).names

pub returns-clause-is : goal.returns-clause-is
returns-clause-is c =
    let lt = subst (λ (p : List Content). c.args.node < length p) (sym c.self.view_is) c.requires in
    let entry = entry_at c.self.inside.nodes c.self.inside.places.entries c.self.invariant c.args.node lt c.in-Some.entry.now c.in-Some.ensures in
    (subst (λ (p : List Content). IsEntry p c.args.node c.in-Some.entry.now.content c.in-Some.entry.now.count) c.self.view_is entry).is

pub returns-clause-count : goal.returns-clause-count
returns-clause-count c =
    let lt = subst (λ (p : List Content). c.args.node < length p) (sym c.self.view_is) c.requires in
    let entry = entry_at c.self.inside.nodes c.self.inside.places.entries c.self.invariant c.args.node lt c.in-Some.entry.now c.in-Some.ensures in
    (subst (λ (p : List Content). IsEntry p c.args.node c.in-Some.entry.now.content c.in-Some.entry.now.count) c.self.view_is entry).counts

pub returns-clause-width : goal.returns-clause-width
returns-clause-width c =
    let lt = subst (λ (p : List Content). c.args.node < length p) (sym c.self.view_is) c.requires in
    width_read c.self.inside.nodes c.self.inside.places.entries c.self.invariant c.args.node lt c.in-Some.entry.now c.in-Some.ensures
