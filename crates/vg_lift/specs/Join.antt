-- What is left after two ways, of which a condition takes one.
use Rattle.std.specs.Prelude.{ℕ, suc, ◌%◌, Bool, true, false, ◌&&◌, nat_eq, not, if◌then◌else◌, List, [], ◌∷◌, ◌++◌}
use Rattle.vg_terms.specs.Term.{Tree, sel}
use Rattle.vg_terms.specs.Order.{is_same_term}
use Rattle.vg_lift.specs.Gather.{Bit, clear, input, of_term, Run, start, size, longer, continues, whole, bits_from}

abbrev pub is_same_bit : Bit → Bit → Bool
is_same_bit clear clear = true
is_same_bit (input p i) (input q j) = nat_eq p q && nat_eq i j
is_same_bit (of_term t k) (of_term u j) = is_same_term t u && nat_eq k j
is_same_bit _ _ = false

-- what is open while two lists of bits are joined: nothing, or a range in which they differ, which
-- is one run on each side
pub data Open : Type 0 where
  shut : Open
  differ : Run → Run → Open

-- the bits of an open range: those of one selection between its two runs
abbrev pub closed : Tree → Open → List Bit
closed c shut = []
closed c (differ r q) = bits_from (sel (size r) c (whole r) (whole q)) 0 (size r)

-- the next two bits, at this place, go on with the open range; it ends at each multiple of 64
abbrev pub goes_on : Open → ℕ → Bit → Bit → Bool
goes_on shut i x y = false
goes_on (differ r q) i x y = continues r x && (continues q y && not (nat_eq (i % 64) 0))

abbrev pub opened : Open → Open
opened shut = shut
opened (differ r q) = differ (longer r) (longer q)

-- the bits from a place on: the first where the condition holds, else the second
abbrev pub join_from : Tree → Open → ℕ → List Bit → List Bit → List Bit
join_from c o i (x ∷ xs) (y ∷ ys) =
    if is_same_bit x y then closed c o ++ (x ∷ join_from c shut (suc i) xs ys)
    else if goes_on o i x y then join_from c (opened o) (suc i) xs ys
    else closed c o ++ join_from c (differ (start x) (start y)) (suc i) xs ys
join_from c o i _ _ = closed c o

abbrev pub join : Tree → List Bit → List Bit → List Bit
join c xs ys = join_from c shut 0 xs ys

abbrev pub join_registers : Tree → List (List Bit) → List (List Bit) → List (List Bit)
join_registers c (x ∷ xs) (y ∷ ys) = join c x y ∷ join_registers c xs ys
join_registers c _ _ = []

-- the terms of number variables, of 128 bits
abbrev pub join_variables : Tree → List Tree → List Tree → List Tree
join_variables c (x ∷ xs) (y ∷ ys) =
    (if is_same_term x y then x else sel 128 c x y) ∷ join_variables c xs ys
join_variables c _ _ = []
