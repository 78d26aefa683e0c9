-- A word that is stored, and a program that stores it byte by byte.
use Rattle.std.specs.Prelude.{◌≡◌, ℕ, false, [], ◌∷◌, pos, codes, None}
use Rattle.vg_base.specs.declared.address.Address.{Address}
use Rattle.vg_base.specs.declared.width.Width.TheVariants.{W8, W16}
use Rattle.vg_program.specs.declared.line.Line.TheVariants as line
use Rattle.vg_program.specs.declared.operand.Operand.TheVariants.{Literal}
use Rattle.vg_program.specs.declared.param_kind.ParamKind.TheVariants as kind
use Rattle.vg_program.specs.declared.program.Program.{Program}
use Rattle.vg_program.specs.Meaning.{Instructions}
use Rattle.vg_shapes.specs.declared.ssa.Ssa.{Ssa}
use Rattle.vg_shapes.specs.declared.ssa.SsaParamKind.TheVariants.{Pointer}
use Rattle.vg_shapes.specs.declared.ssa_unit.SsaUnit.TheVariants.{Store}
use Rattle.vg_shapes.specs.declared.wanted.Wanted.TheVariants.{Constant}
use Rattle.vg_terms.specs.declared.term.Term.TheVariants.{Const}
use Rattle.vg_emission.specs.Laws.{MeansUnits}
use Rattle.vg_known.specs.Difference.{difference}

abbrev pub at : ℕ → Address
at offset = record { pointer = 0; offset = pos offset }

-- the number 513 of 16 bits is stored at d
abbrev pub one_word : Ssa
one_word = record {
  name = codes "put";
  params = record { name = codes "d"; kind = Pointer false } ∷ [];
  units = Store (at 0) W16 (Constant 16 513) ∷ [];
  terms = Const 8 0 ∷ [];
  cuts = [];
}

-- its upper byte is stored first, then the lower one
abbrev pub two_bytes : Program
two_bytes = record {
  name = codes "put";
  params = record { name = codes "d"; kind = kind.Pointer } ∷ [];
  lines =
      line.Store W8 (at 1) (Literal W8 2)
      ∷ line.Store W8 (at 0) (Literal W8 1)
      ∷ [];
  cost = 2;
  scalar = 1;
}

-- the two have no difference, so the bytes mean the word, whatever calls give
pub record BytesMeanTheWord : Type 0 where
  pub same : difference [] one_word two_bytes ≡ None
  pub means : (called : Instructions) → MeansUnits called two_bytes one_word
