-- What the operations that names are resolved in have, besides being read: registers that are
-- parameters are not written, the numbers of arms are those of a text, and registers are no wider
-- than a text can say.
use Rattle.std.specs.Prelude.{◌≡◌, ℕ, ◌^◌, ◌<◌, ◌≤◌, List, [], ◌∷◌}
use Rattle.vg_pseudo.specs.Resolved.{Target, bits, lane, whole, number, Code, stop, assign, skip, repeat, choose, way, last, pick, arm, Body, Function, Resolved}

-- a target is none of so many parameters
abbrev pub WritesPast : ℕ → Target → Type 0
WritesPast n (bits r h l) = n ≤ r
WritesPast n (lane r size k) = n ≤ r
WritesPast n (whole r width) = n ≤ r
WritesPast n (number k) = Unit {0}

abbrev pub IsProperCode : ℕ → Code → Type 0
IsProperCode n stop = Unit {0}
IsProperCode n (assign p t e rest) = WritesPast n t × IsProperCode n rest
IsProperCode n (skip p rest) = IsProperCode n rest
IsProperCode n (repeat p a b body rest) = IsProperCode n body × IsProperCode n rest
IsProperCode n (choose ways rest) = IsProperCode n ways × IsProperCode n rest
IsProperCode n (way c body ways) = IsProperCode n body × IsProperCode n ways
IsProperCode n (last body) = IsProperCode n body
IsProperCode n (pick e arms rest) = IsProperCode n arms × IsProperCode n rest
IsProperCode n (arm m body arms) = (m < 2 ^ 127) × IsProperCode n body × IsProperCode n arms

abbrev pub AllSmall : List ℕ → Type 0
AllSmall [] = Unit {0}
AllSmall (w ∷ ws) = (w ≤ 2 ^ 127) × AllSmall ws

pub record IsProperBody (b : Body) : Type 0 where
  pub small : AllSmall b.widths
  pub code : IsProperCode b.parameters b.code

abbrev pub AreProper : List Function → Type 0
AreProper [] = Unit {0}
AreProper (f ∷ rest) = IsProperBody f.body × AreProper rest

pub record IsProper (r : Resolved) : Type 0 where
  pub functions : AreProper r.functions
  pub body : IsProperBody r.body
  pub result : r.body.parameters ≡ r.result
