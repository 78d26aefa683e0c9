-- What texts can say of numbers: those of arms and of highest bits are below 2 ^ 127, and the registers of an
-- instruction have at most so many bits.
use Rattle.std.specs.Prelude.{◌≡◌, ℕ, ◌^◌, ◌<◌, ◌≤◌, List, [], ◌∷◌, Option, Some, None, Ok}
use Rattle.vg_pseudo.specs.declared.header.Header.{Header}
use Rattle.vg_pseudo.specs.declared.header.Param.{Param}
use Rattle.vg_pseudo.specs.declared.operation.DefineParam.{DefineParam}
use Rattle.vg_pseudo.specs.Resolved.{Resolved}
use Rattle.vg_pseudo.specs.Resolve.{resolve}
use Rattle.vg_names.specs.Proper.{IsProper}
use Rattle.vg_pseudo.specs.Tree.{Statements, stop, assign, above, repeat, choose, way, last, pick, arm, Define, Operation}

abbrev pub AreWritten : Statements → Type 0
AreWritten stop = Unit {0}
AreWritten (assign p t e rest) = AreWritten rest
AreWritten (above p n l e rest) = AreWritten rest
AreWritten (repeat p n a b body rest) = AreWritten body × AreWritten rest
AreWritten (choose ways rest) = AreWritten ways × AreWritten rest
AreWritten (way c body ways) = AreWritten body × AreWritten ways
AreWritten (last body) = AreWritten body
AreWritten (pick e arms rest) = AreWritten arms × AreWritten rest
AreWritten (arm n body arms) = (n < 2 ^ 127) × AreWritten body × AreWritten arms

abbrev pub IsHigh : Option ℕ → Type 0
IsHigh (Some h) = h < 2 ^ 127
IsHigh None = Unit {0}

abbrev pub AreHigh : List DefineParam → Type 0
AreHigh [] = Unit {0}
AreHigh (p ∷ ps) = IsHigh p.high × AreHigh ps

abbrev pub AreDefined : List Define → Type 0
AreDefined [] = Unit {0}
AreDefined (d ∷ ds) = (AreHigh d.params × AreWritten d.body) × AreDefined ds

abbrev pub AreRegisters : List Param → Type 0
AreRegisters [] = Unit {0}
AreRegisters (p ∷ ps) = (p.register ≤ 2 ^ 127) × AreRegisters ps

pub record IsWritten (h : Header) (o : Operation) : Type 0 where
  pub params : AreRegisters h.params
  pub register : h.register ≤ 2 ^ 127
  pub defines : AreDefined o.defines
  pub body : AreWritten o.body

-- an operation that a text can say, its names resolved, is proper
abbrev pub ResolvedAreProper : Type 0
ResolvedAreProper =
    (h : Header) (o : Operation) (r : Resolved)
    → IsWritten h o → resolve h o ≡ Ok r → IsProper r
