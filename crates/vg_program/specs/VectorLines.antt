-- The lines that use or define a vector.
use Rattle.vg_program.specs.declared.line.Line.{Line}
use Rattle.vg_program.specs.declared.line.Line.TheVariants.{VectorLoad, VectorStore, Constant, Insert, Extract, Call}

abbrev pub HasVectors : Line → Type 0
HasVectors (VectorLoad z a) = Unit {0}
HasVectors (VectorStore z a v) = Unit {0}
HasVectors (Constant bs) = Unit {0}
HasVectors (Insert v bits n w x) = Unit {0}
HasVectors (Extract v n w) = Unit {0}
HasVectors (Call name vs imm bits cost) = Unit {0}
HasVectors _ = ⊥
