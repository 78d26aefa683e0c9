use Rattle.std.proofs.Common.{◌≡◌, ◌++◌, drop, map}
use Rattle.vg_shapes.specs.Description.{description_of}
use Rattle.vg_packs.proofs.Matched.{calls_of}
use Rattle.vg_packs.proofs.producing.push_calls.Given as goal

abbrev pub invariant-matches : goal.invariant-matches
invariant-matches l =
    l.packs.items
    ++ calls_of (map description_of l.descriptions) l.table l.ssa l.operand l.next (drop l.found-index l.begun)
    ≡ l.initial.packs.items
    ++ calls_of (map description_of l.descriptions) l.table l.ssa l.operand 0 l.begun
