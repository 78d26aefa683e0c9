use Rattle.std.proofs.Common.{◌≡◌, ◌∙◌, ◌++◌, ◌∷◌, [], ap, get_or, subst, sym, true}
use Rattle.std.proofs.lemmas.List.{take_more}
use Rattle.vg_kernel_plans.specs.Packing.{packing}
use Rattle.vg_plans.proofs.Lists.{take-whole}
use Rattle.vg_plans.specs.World.{stays_plan}
use Rattle.vg_packs.proofs.Completion.{next-stays}
use Rattle.vg_packs.proofs.completing.growing.Goals as goal

pub push-requires-clause-stays : goal.push-requires-clause-stays
push-requires-clause-stays c =
    let w = packing [] c.args.table.now c.args.ssa.now c.args.deps.now in
    let h = next-stays w [] c.args.packs.now c.packs.pack-index c.pack-item.result c.packs-test.true c.requires.plan in
    subst (λ q. stays_plan w c.packs.plan.packs.items q ≡ true) (sym c.pack-item.is ∙ sym c.in_ok-copy.ensures)
    (subst (λ l. stays_plan w l (get_or c.args.packs.now c.packs.pack-index c.pack-item.result) ≡ true) (sym c.packs.invariant.packs) h)

pub packs-preserved : goal.packs-preserved
packs-preserved c = record {
  packs =
      c.in_ok-push.ensures.packs ∙ ap (λ q. c.packs.plan.packs.items ++ q ∷ []) (c.in_ok-copy.ensures ∙ c.pack-item.is)
      ∙ ap (λ l. l ++ get_or c.args.packs.now c.packs.pack-index c.pack-item.result ∷ []) c.packs.invariant.packs
      ∙ sym (take_more c.args.packs.now c.packs.pack-index c.pack-item.result c.packs-test.true);
  grown = c.in_ok-push.ensures.grown;
}

pub returns-clause-packs : goal.returns-clause-packs
returns-clause-packs c = c.packs.invariant.packs ∙ take-whole c.packs.pack-index c.args.packs.now c.packs-test.false
