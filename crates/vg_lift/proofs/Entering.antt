-- Registers as a body begins stand for the cells as it begins.
use Rattle.std.proofs.Common.{◌≡◌, ℕ, zero, suc, ◌+◌, ◌-◌, ◌*◌, ◌/◌, ◌%◌, ◌^◌, ◌<◌, ◌≤◌, refl, sym, ap, ◌∙◌, arith, lit<, List, [], ◌∷◌, ◌++◌, get_or, length, div-one, add-one, length-append, length-take}
use Rattle.std.specs.Prelude.{map, take, replicate}
use Rattle.std.proofs.lemmas.List.{map-append, length-map}
use Rattle.std.proofs.lemmas.Nat.{shr-shr}
use Rattle.vg_base.specs.Bits.{bits, num}
use Rattle.vg_bits.specs.BitList.{IsBits}
use Rattle.vg_bits.specs.Range.{range}
use Rattle.vg_bits.proofs.BitLists.{bits-zero, num-range}
use Rattle.vg_terms.specs.declared.value.Env.{Env}
use Rattle.vg_terms.specs.Term.{constant}
use Rattle.vg_terms.specs.Value.{value}
use Rattle.vg_shapes.specs.Registers.{AllBits}
use Rattle.vg_script.specs.Cells.{Cells}
use Rattle.vg_script.specs.Cells as cell
use Rattle.vg_lift.specs.Gather.{Bit, clear, inputs_from}
use Rattle.vg_lift.specs.LaneTerm.{Passed, of_bits, of_number, of_parameter, padded, bits_passed, entered, begun, parameters_from}
use Rattle.vg_lift.proofs.Stands.{bit_value, BitsFormed, RegistersFormed, VariablesFormed, bits_at}
use Rattle.vg_lift.proofs.Joining.{BitsFormed-append, bit_value-below}
use Rattle.vg_lift.proofs.Holding.{Lifting, formed-take, map-take, pieces-value, length-pieces, pieces-formed}

-- ---- one register

-- what is passed to a register of a width stands for this number
abbrev pub PassedFor : Env → List (List ℕ) → ℕ → Passed → ℕ → Type 0
PassedFor env ps w (of_bits bs) n = BitsFormed ps bs × (num (map (bit_value env ps) bs) ≡ n)
PassedFor env ps w (of_number m) n = m ≡ n
PassedFor env ps w (of_parameter p) n = (w ≡ length (get_or ps p [])) × (num (get_or ps p []) ≡ n)

abbrev pub AllPassed : Env → List (List ℕ) → List ℕ → List Passed → List ℕ → Type 0
AllPassed env ps [] gs ns = Unit {0}
AllPassed env ps (w ∷ ws) [] [] = Unit {0}
AllPassed env ps (w ∷ ws) (g ∷ gs) (n ∷ ns) = PassedFor env ps w g n × AllPassed env ps ws gs ns
AllPassed env ps (w ∷ ws) [] (n ∷ ns) = ⊥
AllPassed env ps (w ∷ ws) (g ∷ gs) [] = ⊥

clears : (env : Env) (ps : List (List ℕ)) (n : ℕ) → map (bit_value env ps) (replicate n clear) ≡ replicate n 0
clears env ps zero = refl
clears env ps (suc n) = ap (λ l. 0 ∷ l) (clears env ps n)

pub length-clears : {A : Type 0} (n : ℕ) (x : A) → length (replicate n x) ≡ n
length-clears zero x = refl
length-clears (suc n) x = ap suc (length-clears n x)

clears-formed : (ps : List (List ℕ)) (n : ℕ) → BitsFormed ps (replicate n clear)
clears-formed ps zero = tt
clears-formed ps (suc n) = (tt, clears-formed ps n)

zero-bits : (env : Env) (ps : List (List ℕ)) (n : ℕ) → map (bit_value env ps) (replicate n clear) ≡ bits n 0
zero-bits env ps n = clears env ps n ∙ sym (bits-zero n)

low_digit : (b n : ℕ) → b < 2 → (b + 2 * n) % 2 ≡ b
low_digit b n h = omega arith

other_digits : (b n : ℕ) → b < 2 → (b + 2 * n) / 2 ≡ n
other_digits b n h = omega arith

-- the bits of the number of a list are the list, cut or with zeros above it
number-bits : (w : ℕ) (l : List ℕ) → IsBits l → bits w (num l) ≡ take w l ++ replicate (w - length l) 0
unfolding bits num
number-bits zero [] h = refl
number-bits zero (b ∷ l) h = let e : 0 ≡ 0 - suc (length l) = omega arith in ap (λ n. replicate n 0) e
number-bits (suc w) [] h = let e : suc w ≡ suc w - 0 = omega arith in bits-zero (suc w) ∙ ap (λ n. replicate n 0) e
number-bits (suc w) (b ∷ l) h =
    let e : w - length l ≡ suc w - suc (length l) = omega arith in
    ap (λ v. v ∷ bits w ((b + 2 * num l) / 2)) (low_digit b (num l) h.0)
    ∙ ap (λ v. b ∷ bits w v) (other_digits b (num l) h.0)
    ∙ ap (λ v. b ∷ v) (number-bits w l h.1)
    ∙ ap (λ n. b ∷ (take w l ++ replicate n 0)) e

pub values-bits : (env : Env) (ps : List (List ℕ)) (bs : List Bit) → AllBits ps → IsBits (map (bit_value env ps) bs)
values-bits env ps [] h = tt
values-bits env ps (b ∷ bs) h = (bit_value-below env ps b h, values-bits env ps bs h)

one_bit : (l : List ℕ) (k : ℕ) → IsBits l → k < length l → num (range k 1 l) ≡ num l / 2 ^ k % 2
one_bit l k h f = num-range k 1 l h (omega arith)

inputs-value : (env : Env) (ps : List (List ℕ)) (p k n : ℕ) → AllBits ps → k + n ≤ length (get_or ps p []) → map (bit_value env ps) (inputs_from p k n) ≡ bits n (num (get_or ps p []) / 2 ^ k)
unfolding bits
inputs-value env ps p k zero h f = refl
inputs-value env ps p k (suc n) h f =
    let v = num (get_or ps p []) in
    let e : v / 2 ^ k / 2 ≡ v / 2 ^ suc k = shr-shr v k 1 ∙ ap (λ m. v / 2 ^ m) (add-one k) in
    ap (λ u. u ∷ map (bit_value env ps) (inputs_from p (suc k) n)) (one_bit (get_or ps p []) k (bits_at ps p h) (omega arith))
    ∙ ap (λ l. v / 2 ^ k % 2 ∷ l) (inputs-value env ps p (suc k) n h (omega arith) ∙ ap (bits n) (sym e))

length-inputs : (p k n : ℕ) → length (inputs_from p k n) ≡ n
length-inputs p k zero = refl
length-inputs p k (suc n) = ap suc (length-inputs p (suc k) n)

inputs-formed : (ps : List (List ℕ)) (p k n : ℕ) → k + n ≤ length (get_or ps p []) → BitsFormed ps (inputs_from p k n)
inputs-formed ps p k zero f = tt
inputs-formed ps p k (suc n) f = (omega arith, inputs-formed ps p (suc k) n (omega arith))

whole_width : (w m : ℕ) → w ≡ m → 0 + w ≤ m
whole_width w m e = omega arith

-- bits cut to a width, or with zeros above them, are those of their number
pub padded-value : (env : Env) (ps : List (List ℕ)) (w : ℕ) (bs : List Bit) → AllBits ps → map (bit_value env ps) (padded w bs) ≡ bits w (num (map (bit_value env ps) bs))
padded-value env ps w bs h =
    map-append (bit_value env ps) (take w bs) (replicate (w - length bs) clear)
    ∙ ap (λ l. l ++ map (bit_value env ps) (replicate (w - length bs) clear)) (map-take (bit_value env ps) w bs)
    ∙ ap (λ l. take w (map (bit_value env ps) bs) ++ l) (clears env ps (w - length bs))
    ∙ ap (λ k. take w (map (bit_value env ps) bs) ++ replicate (w - k) 0) (sym (length-map bs (bit_value env ps)))
    ∙ sym (number-bits w (map (bit_value env ps) bs) (values-bits env ps bs h))

pub padded-long : (w : ℕ) (bs : List Bit) → length (padded w bs) ≡ w
padded-long w bs = length-append (take w bs) (replicate (w - length bs) clear) ∙ ap (λ n. length (take w bs) + n) (length-clears (w - length bs) clear) ∙ simp (length-take) (omega arith)

pub padded-formed : (ps : List (List ℕ)) (w : ℕ) (bs : List Bit) → BitsFormed ps bs → BitsFormed ps (padded w bs)
padded-formed ps w bs h = BitsFormed-append ps _ _ (formed-take ps w bs h) (clears-formed ps (w - length bs))

passed-value : (env : Env) (ps : List (List ℕ)) (w : ℕ) (g : Passed) (n : ℕ) → AllBits ps → PassedFor env ps w g n → map (bit_value env ps) (bits_passed w g) ≡ bits w n
passed-value env ps w (of_bits bs) n h p = padded-value env ps w bs h ∙ ap (bits w) p.1
passed-value env ps w (of_number m) n h p = pieces-value env ps w m 0 w (omega arith) ∙ ap (bits w) (div-one m ∙ p)
passed-value env ps w (of_parameter q) n h p =
    inputs-value env ps q 0 w h (whole_width w (length (get_or ps q [])) p.0) ∙ ap (bits w) (div-one (num (get_or ps q [])) ∙ p.1)

pub passed-long : (w : ℕ) (g : Passed) → length (bits_passed w g) ≡ w
passed-long w (of_bits bs) = padded-long w bs
passed-long w (of_number m) = length-pieces w m 0 w
passed-long w (of_parameter q) = length-inputs q 0 w

passed-formed : (env : Env) (ps : List (List ℕ)) (w : ℕ) (g : Passed) (n : ℕ) → PassedFor env ps w g n → BitsFormed ps (bits_passed w g)
passed-formed env ps w (of_bits bs) n p = padded-formed ps w bs p.0
passed-formed env ps w (of_number m) n p = pieces-formed ps w m 0 w (omega arith)
passed-formed env ps w (of_parameter q) n p = inputs-formed ps q 0 w (whole_width w (length (get_or ps q [])) p.0)

-- ---- all registers

entered-value : (env : Env) (ps : List (List ℕ)) (ws : List ℕ) (gs : List Passed) (ns : List ℕ) → AllBits ps → AllPassed env ps ws gs ns
    → map (map (bit_value env ps)) (entered ws gs) ≡ cell.entered ws ns
entered-value env ps [] gs ns h p = refl
entered-value env ps (w ∷ ws) [] [] h p =
    ap (λ l. l ∷ map (map (bit_value env ps)) (entered ws [])) (zero-bits env ps w) ∙ ap (λ l. bits w 0 ∷ l) (entered-value env ps ws [] [] h (none ws))
  where
    none : (ws : List ℕ) → AllPassed env ps ws [] []
    none [] = tt
    none (w ∷ ws) = tt
entered-value env ps (w ∷ ws) [] (n ∷ ns) h p = absurd p
entered-value env ps (w ∷ ws) (g ∷ gs) [] h p = absurd p
entered-value env ps (w ∷ ws) (g ∷ gs) (n ∷ ns) h p =
    ap (λ l. l ∷ map (map (bit_value env ps)) (entered ws gs)) (passed-value env ps w g n h p.0)
    ∙ ap (λ l. bits w n ∷ l) (entered-value env ps ws gs ns h p.1)

entered-formed : (env : Env) (ps : List (List ℕ)) (ws : List ℕ) (gs : List Passed) (ns : List ℕ) → AllPassed env ps ws gs ns → RegistersFormed ps (entered ws gs)
entered-formed env ps [] gs ns p = tt
entered-formed env ps (w ∷ ws) [] [] p = (clears-formed ps w, entered-formed env ps ws [] [] (none ws))
  where
    none : (ws : List ℕ) → AllPassed env ps ws [] []
    none [] = tt
    none (w ∷ ws) = tt
entered-formed env ps (w ∷ ws) [] (n ∷ ns) p = absurd p
entered-formed env ps (w ∷ ws) (g ∷ gs) [] p = absurd p
entered-formed env ps (w ∷ ws) (g ∷ gs) (n ∷ ns) p = (passed-formed env ps w g n p.0, entered-formed env ps ws gs ns p.1)

entered-widths : (ws : List ℕ) (gs : List Passed) → ws ≡ map length (entered ws gs)
entered-widths [] gs = refl
entered-widths (w ∷ ws) [] = ap (λ v. w ∷ v) (entered-widths ws []) ∙ ap (λ v. v ∷ map length (entered ws [])) (sym (length-clears w clear))
entered-widths (w ∷ ws) (g ∷ gs) = ap (λ v. w ∷ v) (entered-widths ws gs) ∙ ap (λ v. v ∷ map length (entered ws gs)) (sym (passed-long w g))

no_numbers : (env : Env) (n : ℕ) → map (value env) (replicate n (constant 128 0)) ≡ replicate n 0
no_numbers env zero = refl
no_numbers env (suc n) = ap (λ v. 0 ∷ v) (no_numbers env n)

no_terms : (n : ℕ) → VariablesFormed (replicate n (constant 128 0))
no_terms zero = tt
no_terms (suc n) = ((((lit< tt, omega arith), lit< tt), refl), no_terms n)

pub begun-lifts : (env : Env) (ps : List (List ℕ)) (ws : List ℕ) (n : ℕ) (gs : List Passed) (ns : List ℕ) → AllBits ps → AllPassed env ps ws gs ns
    → Lifting env ps ws (begun ws n gs) (record { registers = cell.entered ws ns; variables = replicate n 0 })
begun-lifts env ps ws n gs ns h p = record {
  registers = entered-value env ps ws gs ns h p;
  variables = no_numbers env n;
  bits = entered-formed env ps ws gs ns p;
  terms = no_terms n;
  widths = entered-widths ws gs;
}

-- ---- the parameters of an instance

none-passed : (env : Env) (ps : List (List ℕ)) (ws : List ℕ) (m : ℕ) → AllPassed env ps ws (take m []) (take m [])
none-passed env ps [] m = tt
none-passed env ps (w ∷ ws) zero = tt
none-passed env ps (w ∷ ws) (suc m) = tt

none-taken : (env : Env) (ps : List (List ℕ)) (ws : List ℕ) (gs : List Passed) (ns : List ℕ) → AllPassed env ps ws (take 0 gs) (take 0 ns)
none-taken env ps [] gs ns = tt
none-taken env ps (w ∷ ws) [] [] = tt
none-taken env ps (w ∷ ws) [] (n ∷ ns) = tt
none-taken env ps (w ∷ ws) (g ∷ gs) [] = tt
none-taken env ps (w ∷ ws) (g ∷ gs) (n ∷ ns) = tt

-- the registers from this parameter on
pub parameters-passed : (env : Env) (ps : List (List ℕ)) (ws : List ℕ) (m p imm : ℕ) (rest : List (List ℕ))
    → ((j : ℕ) → get_or ps (p + j) [] ≡ get_or rest j []) → ((j : ℕ) → j < length rest → j < m → get_or ws j 0 ≡ length (get_or rest j []))
    → AllPassed env ps ws (take m (parameters_from p (length rest) ++ of_number imm ∷ [])) (take m (map num rest ++ imm ∷ []))
parameters-passed env ps [] m p imm rest same wide = tt
parameters-passed env ps (w ∷ ws) zero p imm rest same wide = none-taken env ps (w ∷ ws) (parameters_from p (length rest) ++ of_number imm ∷ []) (map num rest ++ imm ∷ [])
parameters-passed env ps (w ∷ ws) (suc m) p imm [] same wide = (refl, none-passed env ps ws m)
parameters-passed env ps (w ∷ ws) (suc m) p imm (reg ∷ rest) same wide =
    let here : p + 0 ≡ p = omega arith in
    let first : get_or ps p [] ≡ reg = ap (λ k. get_or ps k []) (sym here) ∙ same 0 in (
      (wide 0 (omega arith) (omega arith) ∙ ap length (sym first), ap num first),
      parameters-passed env ps ws m (suc p) imm rest
          (λ j. let next : suc p + j ≡ p + suc j = omega arith in ap (λ k. get_or ps k []) next ∙ same (suc j))
          (λ j a b. wide (suc j) (omega arith) (omega arith)),
    )
