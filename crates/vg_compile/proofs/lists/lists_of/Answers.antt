use Rattle.vg_kernel.specs.Tree.{tree_of}
use Rattle.vg_compile.specs.declared.rewriting.Rewriting.TheVariants.{Repeated, Narrowed, NarrowedRepeated}
use Rattle.vg_compile.specs.Rewritten.{units_by}
use Rattle.vg_compile.proofs.Joined.{own-stand}
use Rattle.vg_compile.proofs.Listing.{lists-are}
use Rattle.vg_compile.proofs.lists.lists_of.Goals as goal

pub returns : goal.returns
returns c =
    let own = c.in_ok-own.ensures in
    let repeated = c.in_ok-all_repeated.ensures in
    let narrowed = c.in_ok-all_narrowed.ensures in
    let both = c.in_ok-all_both.ensures in
    lists-are (tree_of c.args.kernel.now) c.in_ok-own.own
    c.in_ok-all_repeated.all_repeated c.unless_same-repeated.result
    c.in_ok-all_narrowed.all_narrowed c.unless_same-some_narrowed.result c.unless_same_as-narrowed.result
    c.in_ok-all_both.all_both c.unless_same-some_both.result c.unless_same_as-more_both.result c.unless_same_as-both.result
    own.exact own.cuts own.sound (own-stand (tree_of c.args.kernel.now) c.in_ok-own.own own.exact own.stands_for)
    (record { made = repeated.exact; sound = repeated.sound; keeps = repeated.stands_for_apart })
    (record { made = narrowed.exact; sound = narrowed.sound; keeps = narrowed.stands_for_apart })
    (record { made = both.exact; sound = both.sound; keeps = both.stands_for_apart })
    c.unless_same-repeated.ensures c.unless_same-some_narrowed.ensures c.unless_same_as-narrowed.ensures
    c.unless_same-some_both.ensures c.unless_same_as-more_both.ensures c.unless_same_as-both.ensures
