use Rattle.vg_beam.specs.SearchSpace.{choice_of, described}
use Rattle.vg_beam.proofs.Boards.{all-end, all-first, all-next}
use Rattle.vg_beam.proofs.pack_table.PackTable.number_all.Goals as goal

pub packs-init : goal.packs-init
packs-init c = all-first (choice_of c.args.space.now) (described c.args.space.now) c.args.space.now.table.now c.args.space.now.ssa.now c.args.self.now c.new-numbers.result.items c.new-numbers.ensures.items c.requires.pack_table

pub number-requires : goal.number-requires
number-requires c = record { near = c.requires.near; pack_table = c.packs.invariant.pack_table }

pub packs-preserved : goal.packs-preserved
packs-preserved c =
    all-next (choice_of c.args.space.now) (described c.args.space.now) c.args.space.now.table.now c.args.space.now.ssa.now c.args.self.now c.packs.self _ c.packs.numbers.items _ c.args.packs.now c.packs.pack-index c.pack-item.result c.in_ok-number.number
    c.packs-test.true c.pack-item.is c.packs.invariant c.in_ok-number.ensures c.in_ok-push.ensures.items

pub returns : goal.returns
returns c =
    all-end (choice_of c.args.space.now) (described c.args.space.now) c.args.space.now.table.now c.args.space.now.ssa.now c.args.self.now c.packs.self c.packs.numbers.items c.args.packs.now c.packs.pack-index c.packs-test.false c.packs.invariant
