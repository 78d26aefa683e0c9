use Rattle.std.proofs.Common.{◌≡◌, ◌↔◌, List, map, subst, sym}
use Rattle.std.specs.Prelude.{IfOk, IsTrue}
use Rattle.vg_kernel_plans.specs.Packing.{packing}
use Rattle.vg_plans.specs.Members.{Has}
use Rattle.vg_plans.specs.World.{follows, has_pack}
use Rattle.vg_shapes.specs.declared.pack.Pack.{Pack}
use Rattle.vg_shapes.specs.Description.{description_of}
use Rattle.vg_packs.specs.Walk.{IsFree}
use Rattle.vg_packs.proofs.follows.compatible.Goals as goal

pub may_follow-requires-clause-free : goal.may_follow-requires-clause-free
may_follow-requires-clause-free c =
    subst (λ (ps : List Pack). IsFree c.args.table.now c.args.ssa.now c.args.deps.now ps) (sym c.as_slice.ensures) c.requires.free

pub returns-clause-same : goal.returns-clause-same
returns-clause-same c =
    let world = packing (map description_of c.args.descriptions.now) c.args.table.now c.args.ssa.now c.args.deps.now in
    subst (λ (ps : List Pack). IfOk c.may_follow.result (λ b. b ≡ has_pack world (follows world ps) c.args.pack.now)) c.as_slice.ensures c.may_follow.ensures.same

pub returns-clause-member : goal.returns-clause-member
returns-clause-member c =
    let world = packing (map description_of c.args.descriptions.now) c.args.table.now c.args.ssa.now c.args.deps.now in
    subst (λ (ps : List Pack). IfOk c.may_follow.result (λ b. IsTrue b ↔ Has c.args.pack.now (follows world ps))) c.as_slice.ensures c.may_follow.ensures.member
