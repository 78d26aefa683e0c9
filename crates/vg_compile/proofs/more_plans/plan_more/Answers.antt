use Rattle.std.proofs.Common.{◌≡◌, ◌⊎◌, map}
use Rattle.std.specs.Prelude.{Some}
use Rattle.vg_kernel.specs.Tree.{tree_of}
use Rattle.vg_shapes.specs.declared.ssa.Ssa.{Ssa}
use Rattle.vg_shapes.specs.Description.{description_of}
use Rattle.vg_compile.specs.declared.rewriting.Rewriting.TheVariants.{Repeated, Narrowed, NarrowedRepeated}
use Rattle.vg_compile.specs.Rewritten.{units_by}
use Rattle.vg_compile.proofs.Listing.{listed-sound, more-is}
use Rattle.vg_compile.proofs.more_plans.plan_more.Goals as goal

pub or_cheaper-requires-clause-sound : goal.or_cheaper-requires-clause-sound
or_cheaper-requires-clause-sound c =
    let own = c.in_ok-lists.lists.own in
    listed-sound (tree_of c.args.kernel.now) own (λ (s : Ssa). s ≡ own) (units_by Repeated own)
    c.in_ok-lists.lists.repeated c.in_ok-lists.ensures.repeated

pub or_cheaper-requires-2-clause-sound : goal.or_cheaper-requires-2-clause-sound
or_cheaper-requires-2-clause-sound c =
    let own = c.in_ok-lists.lists.own in
    let repeated = c.in_ok-lists.lists.repeated in
    listed-sound (tree_of c.args.kernel.now) own (λ (s : Ssa). (s ≡ own) ⊎ (repeated ≡ Some s)) (units_by Narrowed own)
    c.in_ok-lists.lists.narrowed c.in_ok-lists.ensures.narrowed

pub or_cheaper-requires-3-clause-sound : goal.or_cheaper-requires-3-clause-sound
or_cheaper-requires-3-clause-sound c =
    let own = c.in_ok-lists.lists.own in
    let repeated = c.in_ok-lists.lists.repeated in
    let narrowed = c.in_ok-lists.lists.narrowed in
    listed-sound (tree_of c.args.kernel.now) own (λ (s : Ssa). ((s ≡ own) ⊎ (repeated ≡ Some s)) ⊎ (narrowed ≡ Some s)) (units_by NarrowedRepeated own)
    c.in_ok-lists.lists.both c.in_ok-lists.ensures.both

pub returns : goal.returns
returns c =
    more-is (map description_of c.args.descriptions.now) (tree_of c.args.kernel.now) c.args.width c.in_ok-lists.lists
    c.in_ok-list.list.values c.in_ok-list.list.plain c.in_ok-second.second c.in_ok-third.third c.in_ok-best.best
    c.in_ok-lists.ensures c.in_ok-list.ensures c.in_ok-second.ensures c.in_ok-third.ensures c.in_ok-best.ensures
