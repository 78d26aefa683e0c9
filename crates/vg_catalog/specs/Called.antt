-- What the calls of instructions give where these entries may be called.
use Rattle.std.specs.Prelude.{ℕ, List, [], ◌∷◌, ◌++◌, map, Option, Some, None}
use Rattle.std.specs.List.{find}
use Rattle.std.specs.Option.{option_map_or}
use Rattle.std.specs.Str.{bytes_eq}
use Rattle.vg_base.specs.Bits.{bits, num}
use Rattle.vg_pseudo.specs.declared.header.Header.{Header}
use Rattle.vg_range.specs.Unrolled.{meant}
use Rattle.vg_catalog.specs.Entries.{Entry}

-- the headers, in the same order
abbrev pub headers_of : List Entry → List Header
headers_of entries = map (λ e. e.header) entries

-- the first entry of this name
abbrev pub entry_named : List Entry → List ℕ → Option Entry
entry_named entries name = find (λ e. bytes_eq e.header.name name) entries

-- an immediate as a number; 0 where there is none, where no operation reads it
abbrev pub imm_number : Option ℕ → ℕ
imm_number None = 0
imm_number (Some n) = n

-- the numbers of registers, and after them the immediate
abbrev pub numbers_given : List (List ℕ) → Option ℕ → List ℕ
numbers_given registers imm = map num registers ++ imm_number imm ∷ []

-- what an entry gives for registers and an immediate: what it means, as a register of its width
abbrev pub answer_of : Entry → List (List ℕ) → Option ℕ → List ℕ
answer_of e registers imm =
    bits e.header.register (num (meant e.header e.operation (numbers_given registers imm)))

-- What a call gives: by the name of an instruction, the registers that it takes, and its immediate,
-- if it has one, the bits of its result. There are none where no entry has the name.
abbrev pub called_by : List Entry → List ℕ → List (List ℕ) → Option ℕ → List ℕ
called_by entries name registers imm =
    option_map_or (λ e. answer_of e registers imm) (entry_named entries name) []
