-- The trial of a number: the text of its kernel, and its memory. They are functions of the number
-- alone.
use Rattle.std.specs.Prelude.{ℕ, zero, suc, ◌+◌, ◌-◌, ◌*◌, ◌/◌, ◌%◌, List, [], ◌∷◌, ◌++◌, codes, nat_lt, ◌==◌, if◌then◌else◌}
use Rattle.std.specs.Fmt.{decimal}
use Rattle.vg_trial.specs.declared.piece.Piece as code
use Rattle.vg_trial.specs.declared.piece.Piece.TheVariants as seen
use Rattle.vg_trial.specs.declared.shape.Shape.{Shape}
use Rattle.vg_trial.specs.declared.shape.Shape.TheVariants.{Sums, Products, Clamped, Averages, Pairs}

-- the number of groups of statements
abbrev pub groups : ℕ → ℕ
groups n = 1 + n % 40

-- what the statements of group k do
abbrev pub shape_numbered : ℕ → Shape
shape_numbered m =
    if m == 0 then Sums else if m == 1 then Products else if m == 2 then Clamped
    else if m == 3 then Averages else Pairs

abbrev pub shape_of : ℕ → ℕ → Shape
shape_of n k = shape_numbered ((n / 40 + k) % 5)

-- how many statements a group of the shape has
abbrev pub statements_in : Shape → ℕ
statements_in Sums = 4
statements_in Products = 4
statements_in Clamped = 8
statements_in Averages = 16
statements_in Pairs = 4

-- a piece of a line: words as they stand, or a number in decimal digits
pub data Piece : Type 0 where
  words : List ℕ → Piece
  number : ℕ → Piece

abbrev pub piece_text : Piece → List ℕ
piece_text (words text) = text
piece_text (number n) = decimal n

-- the text of a line in pieces
unfoldable pub line_text : List Piece → List ℕ
line_text [] = []
line_text (p ∷ ps) = piece_text p ++ line_text ps

-- the statements, each by the offset at d and by that at p and q

-- the sum of two dwords
abbrev pub sum_line : ℕ → ℕ → List Piece
sum_line to from =
    words (codes "store32(d + ") ∷ number to ∷ words (codes ", load32(p + ") ∷ number from
    ∷ words (codes ") + load32(q + ") ∷ number from ∷ words (codes "));\n") ∷ []

-- the sum of two products of words
abbrev pub product_line : ℕ → ℕ → List Piece
product_line to from =
    words (codes "store32(d + ") ∷ number to ∷ words (codes ", sext32(load16(p + ") ∷ number from
    ∷ words (codes ")) * sext32(load16(q + ") ∷ number from
    ∷ words (codes ")) + sext32(load16(p + ") ∷ number (from + 2)
    ∷ words (codes ")) * sext32(load16(q + ") ∷ number (from + 2) ∷ words (codes ")));\n") ∷ []

-- a dword, kept in the range of signed words
abbrev pub clamped_line : ℕ → ℕ → List Piece
clamped_line to from =
    words (codes "store16(d + ") ∷ number to ∷ words (codes ", trunc16(smin(smax(load32(p + ")
    ∷ number from ∷ words (codes "), -32768i32), 32767i32)));\n") ∷ []

-- the average of two bytes, rounded up
abbrev pub average_line : ℕ → ℕ → List Piece
average_line to from =
    words (codes "store8(d + ") ∷ number to ∷ words (codes ", trunc8(lshr(zext16(load8(p + ")
    ∷ number from ∷ words (codes ")) + zext16(load8(q + ") ∷ number from
    ∷ words (codes ")) + 1i16, 1)));\n") ∷ []

-- the sum of two consecutive dwords, at p or at q
abbrev pub pair_line : ℕ → List ℕ → ℕ → List Piece
pair_line to pointer from =
    words (codes "store32(d + ") ∷ number to ∷ words (codes ", load32(") ∷ words pointer
    ∷ words (codes " + ") ∷ number from ∷ words (codes ") + load32(") ∷ words pointer
    ∷ words (codes " + ") ∷ number (from + 4) ∷ words (codes "));\n") ∷ []

-- statement i of group k: a group stores 16 bytes at d, and reads 32 at p or q
abbrev pub statement : Shape → ℕ → ℕ → List Piece
statement Sums k i = sum_line (16 * k + 4 * i) (32 * k + 4 * i)
statement Products k i = product_line (16 * k + 4 * i) (32 * k + 4 * i)
statement Clamped k i = clamped_line (16 * k + 2 * i) (32 * k + 4 * i)
statement Averages k i = average_line (16 * k + i) (32 * k + i)
statement Pairs k i =
    if nat_lt i 2 then pair_line (16 * k + 4 * i) (codes "p") (32 * k + 8 * i)
    else pair_line (16 * k + 4 * i) (codes "q") (32 * k + 8 * (i - 2))

-- the first statements of a group, so many
unfoldable pub statements : Shape → ℕ → ℕ → List ℕ
statements shape k zero = []
statements shape k (suc i) = statements shape k i ++ line_text (statement shape k i)

abbrev pub group : ℕ → ℕ → List ℕ
group n k = statements (shape_of n k) k (statements_in (shape_of n k))

-- the first groups, so many
unfoldable pub groups_text : ℕ → ℕ → List ℕ
groups_text n zero = []
groups_text n (suc k) = groups_text n k ++ group n k

-- the text of the kernel
abbrev pub kernel_text : ℕ → List ℕ
kernel_text n =
    codes "kernel trial(d: noalias ptr, p: ptr, q: ptr) {\n" ++ groups_text n (groups n)
    ++ codes "}\n"

-- the first bytes of the memory, so many
unfoldable pub bytes_to : ℕ → ℕ → List ℕ
bytes_to n zero = []
bytes_to n (suc x) = bytes_to n x ++ (7 * x + n) % 256 ∷ []

-- the memory: 80 bytes for each group
abbrev pub memory : ℕ → List ℕ
memory n = bytes_to n (80 * groups n)

-- the piece that the code's value stands for
abbrev pub piece_seen : code.Piece → Piece
piece_seen (seen.Words text) = words text.now
piece_seen (seen.Number n) = number n
