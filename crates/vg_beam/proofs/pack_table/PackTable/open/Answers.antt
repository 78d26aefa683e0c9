use Rattle.std.proofs.Common.{◌∙◌, ap, arith, refl, subst, sym}
use Rattle.vg_beam.specs.SearchSpace.{choice_of, described}
use Rattle.vg_beam.specs.PackTable.{AreNumbered, produced_by}
use Rattle.vg_beam.proofs.Boards.{open-new, open-there}
use Rattle.vg_beam.proofs.pack_table.PackTable.open.Goals as goal

pub is_open-requires : goal.is_open-requires
is_open-requires c = omega (arith, c.requires.number, c.requires.pack_table.long)

pub returns-then-is_open : goal.returns-then-is_open
returns-then-is_open c =
    open-there (choice_of c.args.space.now) (described c.args.space.now) c.args.space.now.table.now c.args.space.now.ssa.now c.args.self.now c.args.number
    c.requires.pack_table c.requires.number (sym c.is_open.ensures ∙ c.if-is_open.true)

pub returns : goal.returns
returns c =
    let packs =
    c.as_slice.ensures.value ∙ c.in_ok-packs.ensures ∙ ap (produced_by (choice_of c.args.space.now) (described c.args.space.now) c.args.space.now.table.now c.args.space.now.ssa.now) c.pack.ensures in
    let are = subst (AreNumbered (choice_of c.args.space.now) (described c.args.space.now) c.args.space.now.table.now c.args.space.now.ssa.now c.args.self.now c.number_all.new.self c.as_slice.result.now)
    (sym c.from_vec.ensures) c.in_ok-numbers.ensures in
    open-new (choice_of c.args.space.now) (described c.args.space.now) c.args.space.now.table.now c.args.space.now.ssa.now c.args.self.now c.number_all.new.self _ c.args.number c.as_slice.result.now c.from_vec.result
    c.requires.number are packs refl refl refl refl
