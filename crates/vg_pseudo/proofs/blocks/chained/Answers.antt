use Rattle.std.proofs.Common.{vec_len, sym, ◌∙◌, ap, map}
use Rattle.vg_pseudo.specs.Views.{block_of}
use Rattle.vg_pseudo.specs.Statements.{chained}
use Rattle.vg_pseudo.proofs.Linking.{chained-nothing, chained-step, emptied}
use Rattle.vg_pseudo.proofs.blocks.chained.Goals as goal

pub chain-preserved : goal.chain-preserved
chain-preserved c =
    ap (chained (map block_of c.pop.new.self.items)) c.followed_by-behind.ensures ∙ sym (chained-step c.chain.left.items c.pop.new.self.items c.in-Some.block (block_of c.chain.behind) c.in-Some.ensures.items) ∙ c.chain.invariant

pub returns : goal.returns
returns c = sym (sym c.chain.invariant ∙ chained-nothing c.chain.left.items (block_of c.chain.behind) (emptied c.chain.left.items c.pop.new.self.items (vec_len c.chain.left) c.in_default.ensures.items c.in_default.ensures.rest c.in_default.ensures.cases.0))
