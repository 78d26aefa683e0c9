-- Looped texts: the program of a block of turns and that of one turn, under one first line.
use Rattle.std.specs.Prelude.{◌≡◌, ℕ, ◌+◌, ◌≤◌, ◌<◌, List, [], ◌∷◌, ◌++◌, length, Some, slice_get, codes}
use Rattle.std.specs.Fmt.{decimal}
use Rattle.std.specs.List.{AllByRecursion}
use Rattle.std.specs.Option.{option_map}
use Rattle.vg_pseudo.specs.declared.header.Header.{Header}
use Rattle.vg_program.specs.declared.param.Param.{Param}
use Rattle.vg_program.specs.Params.{pointers, integers, kind_bits, name_of}
use Rattle.vg_program.specs.Text.{line_end, signature_text, signature_of, body_text}
use Rattle.vg_program.specs.Valid.{KeepsRules}
use Rattle.vg_looped.specs.declared.looped.Looped.{Looped}
use Rattle.vg_looped.specs.Steps.{Pair, stepped}

-- `p 4`
abbrev pub pair_text : List Param → Pair → List ℕ
pair_text params x = name_of (slice_get (pointers params) x.0) ++ (codes " " ++ decimal x.1)

-- joined by `, `
unfoldable pub pairs_text : List Param → List Pair → List ℕ
pairs_text params [] = []
pairs_text params (x ∷ []) = pair_text params x
pairs_text params (x ∷ y ∷ xs) = pair_text params x ++ (codes ", " ++ pairs_text params (y ∷ xs))

-- ` times n step p 4 block 16`
abbrev pub turns_text : List Param → ℕ → List Pair → ℕ → List ℕ
turns_text params times xs turns =
    codes " times " ++ (name_of (slice_get (integers params) times)
    ++ (codes " step " ++ (pairs_text params xs ++ (codes " block " ++ decimal turns))))

-- `looped copy(d: ptr, n: i32) times n step d 4 block 16`, where these pointers have steps
abbrev pub first_text : Looped → List Pair → List ℕ
first_text l xs =
    codes "looped " ++ (signature_text (signature_of l.block)
    ++ (turns_text l.block.params l.times xs l.turns ++ line_end))

-- the lines of both programs, and the last line
abbrev pub programs_text : Looped → List ℕ
programs_text l =
    body_text l.block ++ (codes "rest" ++ (line_end ++ (body_text l.rest
    ++ (codes "end looped" ++ line_end))))

unfoldable pub looped_text : Looped → List ℕ
looped_text l =
    codes "looped " ++ (signature_text (signature_of l.block)
    ++ (turns_text l.block.params l.times (stepped 0 l.steps) l.turns ++ (line_end ++ (body_text l.block
    ++ (codes "rest" ++ (line_end ++ (body_text l.rest ++ (codes "end looped" ++ line_end))))))))

-- pointers from this one on that rise, with steps in their range
unfoldable pub ArePairs : List Param → ℕ → List Pair → Type 0
ArePairs params least [] = Unit {0}
ArePairs params least (x ∷ xs) =
    ((least ≤ x.0) × (x.0 < length (pointers params)) × (1 ≤ x.1) × (x.1 ≤ 65536)) × ArePairs params (x.0 + 1) xs

-- an integer parameter
abbrev pub IsTimes : List Param → ℕ → Type 0
IsTimes params times =
    (b : ℕ) × (option_map (λ q. kind_bits q.kind) (slice_get (integers params) times) ≡ Some b)

-- The rules on a looped text: both programs keep theirs and have one name and the same parameters,
-- the turns are counted by an integer parameter, at least one pointer moves, a block has 1 to 16
-- turns, and the text has at most 4 MiB.
pub record IsLooped (headers : List Header) (l : Looped) : Type 0 where
  pub block : KeepsRules headers l.block
  pub rest : KeepsRules headers l.rest
  pub signature : signature_of l.rest ≡ signature_of l.block
  pub times : IsTimes l.block.params l.times
  pub steps : length l.steps ≡ length (pointers l.block.params)
  pub near : AllByRecursion (λ s. s ≤ 65536) l.steps
  pub some_step : 0 < length (stepped 0 l.steps)
  pub some : 1 ≤ l.turns
  pub few : l.turns ≤ 16
  pub size : length (looped_text l) ≤ 4194304
