use Rattle.vg_known.specs.Known.{know_all}
use Rattle.vg_verify.specs.Noting.{Walked}
use Rattle.vg_verify.specs.Views.{given_of, known_of}
use Rattle.vg_verify.proofs.known.Knowing.lines.Given as goal

abbrev pub invariant-lines : goal.invariant-lines
invariant-lines l = Walked (given_of l.fn.given) l.fn.lines l.fn.events l.place (known_of l.self) (know_all (given_of l.fn.given) l.fn.lines l.fn.events (known_of l.initial.self))
