-- What an instance of an instruction means: the bits of dst after its operation.
use Rattle.std.specs.Prelude.{ℕ, zero, suc, ℤ, pos, List, [], ◌∷◌, ◌++◌, take, get_or, map, min}
use Rattle.vg_base.specs.Bits.{bits}
use Rattle.vg_pseudo.specs.Resolved.{Body, Function, Resolved}
use Rattle.vg_pseudo.specs.Value.{State, value, bits_in, answered}
use Rattle.vg_pseudo.specs.Run.{Functions, seen, run}

-- Registers of these widths as a body begins: the first have the low bits of these numbers, the
-- others are zeros.
abbrev pub entered : List ℕ → List ℕ → List (List ℕ)
entered [] ns = []
entered (w ∷ ws) [] = bits w 0 ∷ entered ws []
entered (w ∷ ws) (n ∷ ns) = bits w n ∷ entered ws ns

-- so many number variables as a body begins
abbrev pub zeros : ℕ → List ℤ
zeros zero = []
zeros (suc n) = pos 0 ∷ zeros n

-- a body as it begins, its parameters given
abbrev pub begun : Body → List ℕ → State
begun b given = record { registers = entered b.widths (take b.parameters given); numbers = zeros b.numbers }

-- a body after its statements
abbrev pub ended : Functions → Body → List ℕ → State
ended fs b given = run fs [] b.code (begun b given)

-- Of a register of a DEFINE at most 512 bits are kept. Those above are zeros: nothing writes them,
-- and no argument has more bits.
abbrev pub kept_widths : List ℕ → List ℕ
kept_widths ws = map (min 512) ws

abbrev pub kept : Body → Body
kept b = record { widths = kept_widths b.widths; parameters = b.parameters; numbers = b.numbers; code = b.code }

-- what a call gives for the numbers of its arguments
abbrev pub called : Functions → Function → List ℕ → ℤ
called fs f given =
    let sight = seen fs [] (ended fs (kept f.body) given) in
    answered (bits_in sight f.answer) (value sight f.answer)

-- the DEFINEs in their order, each with those before it
abbrev pub functions_from : Functions → List Function → Functions
functions_from fs [] = fs
functions_from fs (f ∷ rest) = functions_from (fs ++ called fs f ∷ []) rest

-- The bits of dst, where the parameters have these numbers and after them the immediate, if there
-- is one.
unfoldable pub meaning : Resolved → List ℕ → List ℕ
meaning r given = get_or (ended (functions_from [] r.functions) r.body given).registers r.result []
