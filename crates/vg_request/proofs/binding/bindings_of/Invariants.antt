-- the bindings so far and those in what is left are all bindings
use Rattle.std.proofs.Common.{◌≡◌, ◌++◌, drop, map}
use Rattle.vg_request.specs.Binding.{bindings_in, binding_seen}
use Rattle.vg_request.proofs.binding.bindings_of.Given as goal

abbrev pub invariant-words : goal.invariant-words
invariant-words l = map binding_seen l.all.items ++ bindings_in (drop l.word-index l.words) ≡ bindings_in l.words
