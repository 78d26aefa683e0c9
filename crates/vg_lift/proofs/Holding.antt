-- The bits and terms of a state stand for the cells of a script: bits that are read, put and joined.
use Rattle.std.proofs.Common.{◌≡◌, ℕ, zero, suc, ◌+◌, ◌-◌, ◌*◌, ◌/◌, ◌%◌, ◌^◌, ◌<◌, ◌≤◌, refl, sym, ap, ◌∙◌, arith, inl, inr, Bool, true, false, lit<, List, [], ◌∷◌, ◌++◌, get_or, set, length, div-one, add-one, length-append, length-take, length-drop}
use Rattle.std.specs.Prelude.{nat_eq, if◌then◌else◌, map, take, drop, min}
use Rattle.std.proofs.lemmas.List.{map-append, length-map, map-set}
use Rattle.std.proofs.lemmas.Bool.{cases_Bool}
use Rattle.std.proofs.lemmas.Nat.{shr-shr, pow_pos, mod_below, field_of, div-add-mod'}
use Rattle.vg_base.specs.Bits.{bits, num}
use Rattle.vg_bits.specs.Range.{range, replaced}
use Rattle.vg_bits.proofs.BitLists.{bits-mod}
use Rattle.vg_base.proofs.LowBits.{low-low}
use Rattle.vg_terms.specs.declared.value.Env.{Env}
use Rattle.vg_terms.specs.Term.{Tree, constant, sel, WellFormed, width_of, IsWidth}
use Rattle.vg_terms.specs.Value.{value}
use Rattle.vg_terms.specs.Resize.{low}
use Rattle.vg_terms.specs.Order.{is_same_term}
use Rattle.vg_terms.proofs.Orders.{same_term}
use Rattle.vg_terms.proofs.Resizing.{low-value}
use Rattle.vg_shapes.specs.Registers.{Reads, AllBits}
use Rattle.vg_script.specs.Cells.{Cells, bits_read}
use Rattle.vg_lift.specs.Gather.{Bit, gather}
use Rattle.vg_lift.specs.Join.{join, join_registers, join_variables}
use Rattle.vg_lift.specs.LaneTerm.{State, pieces, with_bits, joined}
use Rattle.vg_lift.proofs.Stands.{bit_value, BitsFormed, RegistersFormed, VariablesFormed}
use Rattle.vg_lift.proofs.Gathering.{gather-value, gather-width, gather-formed}
use Rattle.vg_lift.proofs.Joining.{BitsFormed-append, join-value, join-formed}

pub record Lifting (env : Env) (ps : List (List ℕ)) (ws : List ℕ) (s : State) (c : Cells) : Type 0 where
  pub registers : map (map (bit_value env ps)) s.registers ≡ c.registers
  pub variables : map (value env) s.variables ≡ c.variables
  pub bits : RegistersFormed ps s.registers
  pub terms : VariablesFormed s.variables
  pub widths : ws ≡ map length s.registers

pub formed_at : (ps : List (List ℕ)) (ls : List (List Bit)) (r : ℕ) → RegistersFormed ps ls → BitsFormed ps (get_or ls r [])
formed_at ps [] r h = tt
formed_at ps (l ∷ ls) zero h = h.0
formed_at ps (l ∷ ls) (suc r) h = formed_at ps ls r h.1

pub formed-take : (ps : List (List ℕ)) (n : ℕ) (l : List Bit) → BitsFormed ps l → BitsFormed ps (take n l)
formed-take ps zero l h = tt
formed-take ps (suc n) [] h = tt
formed-take ps (suc n) (x ∷ l) h = (h.0, formed-take ps n l h.1)

pub formed-drop : (ps : List (List ℕ)) (n : ℕ) (l : List Bit) → BitsFormed ps l → BitsFormed ps (drop n l)
formed-drop ps zero l h = h
formed-drop ps (suc n) [] h = tt
formed-drop ps (suc n) (x ∷ l) h = formed-drop ps n l h.1

pub at : {A B : Type 0} (f : A → B) (ls : List (List A)) (r : ℕ) → get_or (map (map f) ls) r [] ≡ map f (get_or ls r [])
at f [] r = refl
at f (l ∷ ls) zero = refl
at f (l ∷ ls) (suc r) = at f ls r

pub map-take : {A B : Type 0} (f : A → B) (n : ℕ) (l : List A) → map f (take n l) ≡ take n (map f l)
map-take f zero l = refl
map-take f (suc n) [] = refl
map-take f (suc n) (x ∷ l) = ap (λ t. f x ∷ t) (map-take f n l)

pub map-drop : {A B : Type 0} (f : A → B) (n : ℕ) (l : List A) → map f (drop n l) ≡ drop n (map f l)
map-drop f zero l = refl
map-drop f (suc n) [] = refl
map-drop f (suc n) (x ∷ l) = map-drop f n l

pub range-map : {A B : Type 0} (f : A → B) (l w : ℕ) (xs : List A) → map f (range l w xs) ≡ range l w (map f xs)
range-map f l w xs = map-take f w (drop l xs) ∙ ap (take w) (map-drop f l xs)

pub lengths_at : (ls : List (List Bit)) (r : ℕ) → get_or (map length ls) r 0 ≡ length (get_or ls r [])
lengths_at [] r = refl
lengths_at (l ∷ ls) zero = refl
lengths_at (l ∷ ls) (suc r) = lengths_at ls r

pub long : (l w : ℕ) (x : List Bit) → l + w ≤ length x → length (range l w x) ≡ w
long l w x h = simp (length-take, length-drop) (omega arith)

pub variable_value : (env : Env) (ts : List Tree) (k : ℕ) → get_or (map (value env) ts) k 0 ≡ value env (get_or ts k (constant 128 0))
variable_value env [] k = refl
variable_value env (t ∷ ts) zero = refl
variable_value env (t ∷ ts) (suc k) = variable_value env ts k

pub variable_formed : (ts : List Tree) (k : ℕ) → VariablesFormed ts → WellFormed (get_or ts k (constant 128 0)) × (width_of (get_or ts k (constant 128 0)) ≡ 128)
variable_formed [] k h = (((lit< tt, omega arith), lit< tt), refl)
variable_formed (t ∷ ts) zero h = h.0
variable_formed (t ∷ ts) (suc k) h = variable_formed ts k h.1

-- ---- bits that are put

pub replaced-map : {A B : Type 0} (f : A → B) (l : ℕ) (new xs : List A) → map f (replaced l new xs) ≡ replaced l (map f new) (map f xs)
replaced-map f l new xs =
    map-append f (take l xs) (new ++ drop (l + length new) xs)
    ∙ ap (λ v. v ++ map f (new ++ drop (l + length new) xs)) (map-take f l xs)
    ∙ ap (λ v. take l (map f xs) ++ v) (map-append f new (drop (l + length new) xs) ∙ ap (λ v. map f new ++ v) (map-drop f (l + length new) xs))
    ∙ ap (λ n. take l (map f xs) ++ (map f new ++ drop (l + n) (map f xs))) (sym (length-map new f))

pub set-formed : (ps : List (List ℕ)) (ls : List (List Bit)) (r : ℕ) (l : List Bit) → RegistersFormed ps ls → BitsFormed ps l → RegistersFormed ps (set ls r l)
set-formed ps [] r l h g = tt
set-formed ps (x ∷ ls) zero l h g = (g, h.1)
set-formed ps (x ∷ ls) (suc r) l h g = (h.0, set-formed ps ls r l h.1 g)

pub set-lengths : (ls : List (List Bit)) (r : ℕ) (l : List Bit) → length l ≡ length (get_or ls r []) → map length (set ls r l) ≡ map length ls
set-lengths [] r l e = refl
set-lengths (x ∷ ls) zero l e = ap (λ v. v ∷ map length ls) e
set-lengths (x ∷ ls) (suc r) l e = ap (λ v. length x ∷ v) (set-lengths ls r l e)

pub length-replaced : (low : ℕ) (new l : List Bit) → low + length new ≤ length l → length (replaced low new l) ≡ length l
length-replaced low new l h = simp (length-append, length-take, length-drop) (omega arith)

pub puts-lifts : (env : Env) (ps : List (List ℕ)) (ws : List ℕ) (s : State) (c : Cells) (r l w : ℕ) (new : List Bit) (v : List ℕ) → Lifting env ps ws s c → l + w ≤ get_or ws r 0
    → length new ≡ w → BitsFormed ps new → map (bit_value env ps) new ≡ v
    → Lifting env ps ws (with_bits r l new s) (record { registers = set c.registers r (replaced l v (get_or c.registers r [])); variables = c.variables })
puts-lifts env ps ws s c r l w new v h inside n g e =
    let x = get_or s.registers r [] in
    let fits : l + length new ≤ length x = omega (arith, ap (λ v. get_or v r 0) h.widths, lengths_at s.registers r) in
    record {
      registers = map-set (map (bit_value env ps)) s.registers r (replaced l new x)
          ∙ ap (set (map (map (bit_value env ps)) s.registers) r) (replaced-map (bit_value env ps) l new x
          ∙ ap (λ u. replaced l u (map (bit_value env ps) x)) e
          ∙ ap (replaced l v) (sym (at (bit_value env ps) s.registers r)))
          ∙ ap (λ u. set u r (replaced l v (get_or u r []))) h.registers;
      variables = h.variables;
      bits = set-formed ps s.registers r _ h.bits (BitsFormed-append ps _ _ (formed-take ps l x (formed_at ps s.registers r h.bits)) (BitsFormed-append ps _ _ g (formed-drop ps (l + length new) x (formed_at ps s.registers r h.bits))));
      terms = h.terms;
      widths = h.widths ∙ sym (set-lengths s.registers r _ (length-replaced l new x fits));
    }

pub low-bits : (env : Env) (w : ℕ) (t : Tree) → w ≤ width_of t → WellFormed t → bits w (value env (low w t) / 2 ^ 0) ≡ bits w (value env t)
low-bits env w t h f = ap (bits w) (div-one _ ∙ low-value env w t h f) ∙ bits-mod w (value env t)

pub set-terms : (ts : List Tree) (k : ℕ) (t : Tree) → VariablesFormed ts → WellFormed t → width_of t ≡ 128 → VariablesFormed (set ts k t)
set-terms [] k t h f e = tt
set-terms (x ∷ ts) zero t h f e = ((f, e), h.1)
set-terms (x ∷ ts) (suc k) t h f e = (h.0, set-terms ts k t h.1 f e)

-- ---- the pieces of a constant

-- bit j of a number cut to m bits
pub cut_bit : (v m j : ℕ) → j < m → v % 2 ^ m / 2 ^ j % 2 ^ 1 ≡ v / 2 ^ j % 2 ^ 1
cut_bit v m j h =
    let e : (m - j) + j ≡ m = omega arith in
    let f : 1 + (m - j - 1) ≡ m - j = omega arith in
    ap (λ k. v % 2 ^ k / 2 ^ j % 2 ^ 1) (sym e) ∙ ap (λ u. u % 2 ^ 1) (field_of v (m - j) j) ∙ low-low (v / 2 ^ j) (m - j) 1 (omega arith)

pub piece-bit : (w v k : ℕ) → k < w → v / 2 ^ (k / 64 * 64) % 2 ^ min 64 (w - k / 64 * 64) / 2 ^ (k % 64) % 2 ^ 1 ≡ v / 2 ^ k % 2 ^ 1
piece-bit w v k h =
    let e : k / 64 * 64 + k % 64 ≡ k = div-add-mod' k 64 in
    let l = mod_below k 64 (lit< tt) in
    cut_bit (v / 2 ^ (k / 64 * 64)) (min 64 (w - k / 64 * 64)) (k % 64) (omega arith)
    ∙ ap (λ u. u % 2 ^ 1) (shr-shr v (k / 64 * 64) (k % 64)) ∙ ap (λ m. v / 2 ^ m % 2 ^ 1) e

pub pieces-value : (env : Env) (ps : List (List ℕ)) (w v k n : ℕ) → k + n ≤ w → map (bit_value env ps) (pieces w v k n) ≡ bits n (v / 2 ^ k)
unfolding bits
pieces-value env ps w v k zero h = refl
pieces-value env ps w v k (suc n) h =
    let e : v / 2 ^ k / 2 ≡ v / 2 ^ suc k = shr-shr v k 1 ∙ ap (λ m. v / 2 ^ m) (add-one k) in
    ap (λ u. u ∷ map (bit_value env ps) (pieces w v (suc k) n)) (piece-bit w v k (omega arith))
    ∙ ap (λ l. v / 2 ^ k % 2 ∷ l) (pieces-value env ps w v (suc k) n (omega arith) ∙ ap (bits n) (sym e))

pub length-pieces : (w v k n : ℕ) → length (pieces w v k n) ≡ n
length-pieces w v k zero = refl
length-pieces w v k (suc n) = ap suc (length-pieces w v (suc k) n)

pub pieces-formed : (ps : List (List ℕ)) (w v k n : ℕ) → k + n ≤ w → BitsFormed ps (pieces w v k n)
pieces-formed ps w v k zero h = tt
pieces-formed ps w v k (suc n) h =
    let e : k / 64 * 64 + k % 64 ≡ k = div-add-mod' k 64 in
    let l = mod_below k 64 (lit< tt) in
    ((((omega arith, omega arith), mod_below _ _ (pow_pos (min 64 (w - k / 64 * 64)))), omega arith), pieces-formed ps w v (suc k) n (omega arith))

-- ---- joined states

pub same_ways : {A : Type 0} (t : Bool) (a : A) → a ≡ (if t then a else a)
same_ways true a = refl
same_ways false a = refl

pub both_ways : {A : Type 0} (t : Bool) (x y : A) (xs ys : List A) → (if t then x else y) ∷ (if t then xs else ys) ≡ (if t then x ∷ xs else y ∷ ys)
both_ways true x y xs ys = refl
both_ways false x y xs ys = refl

pub field_ways : {A B : Type 0} (t : Bool) (f : A → B) (x y : A) → (if t then f x else f y) ≡ f (if t then x else y)
field_ways true f x y = refl
field_ways false f x y = refl

pub one_variable : (env : Env) (c x y : Tree) → value env (if is_same_term x y then x else sel 128 c x y) ≡ (if nat_eq (value env c) 1 then value env x else value env y)
one_variable env c x y = elim (cases_Bool (is_same_term x y)) [
  | inl s ↦ rw s (same_ways (nat_eq (value env c) 1) (value env x) ∙ ap (λ v. if nat_eq (value env c) 1 then value env x else value env v) (same_term x y s))
  | inr s ↦ rw s refl
]

pub one_formed : (c x y : Tree) → WellFormed c → width_of c ≡ 1 → WellFormed x × (width_of x ≡ 128) → WellFormed y × (width_of y ≡ 128)
    → WellFormed (if is_same_term x y then x else sel 128 c x y) × (width_of (if is_same_term x y then x else sel 128 c x y) ≡ 128)
one_formed c x y w e p q = elim (cases_Bool (is_same_term x y)) [
  | inl s ↦ rw s p
  | inr s ↦ rw s (((lit< tt, omega arith), (e, p.1, q.1), w, p.0, q.0), refl)
]

pub length_ways : (t : Bool) (f : Bit → ℕ) (x y : List Bit) → length x ≡ length y → length (if t then map f x else map f y) ≡ length x
length_ways true f x y e = length-map x f
length_ways false f x y e = length-map y f ∙ sym e

pub one_length : (env : Env) (ps : List (List ℕ)) (c : Tree) (x y : List Bit) → Reads env ps → AllBits ps → BitsFormed ps x → BitsFormed ps y → length x ≡ length y → length (join c x y) ≡ length x
one_length env ps c x y reads h a b e =
    sym (length-map (join c x y) (bit_value env ps)) ∙ ap length (join-value env ps c x y reads h a b e)
    ∙ length_ways (nat_eq (value env c) 1) (bit_value env ps) x y e

pub registers-join : (env : Env) (ps : List (List ℕ)) (c : Tree) (xs ys : List (List Bit)) → Reads env ps → AllBits ps → RegistersFormed ps xs → RegistersFormed ps ys → map length xs ≡ map length ys
    → map (map (bit_value env ps)) (join_registers c xs ys) ≡ (if nat_eq (value env c) 1 then map (map (bit_value env ps)) xs else map (map (bit_value env ps)) ys)
registers-join env ps c [] [] reads h a b e = same_ways (nat_eq (value env c) 1) []
registers-join env ps c [] (y ∷ ys) reads h a b e = absurd (cc)
registers-join env ps c (x ∷ xs) [] reads h a b e = absurd (cc)
registers-join env ps c (x ∷ xs) (y ∷ ys) reads h a b e =
    let first : length x ≡ length y = cc in
    let rest : map length xs ≡ map length ys = cc in
    ap (λ v. v ∷ map (map (bit_value env ps)) (join_registers c xs ys)) (join-value env ps c x y reads h a.0 b.0 first)
    ∙ ap (λ v. (if nat_eq (value env c) 1 then map (bit_value env ps) x else map (bit_value env ps) y) ∷ v) (registers-join env ps c xs ys reads h a.1 b.1 rest)
    ∙ both_ways (nat_eq (value env c) 1) _ _ _ _

pub registers-formed : (ps : List (List ℕ)) (c : Tree) (xs ys : List (List Bit)) → WellFormed c → width_of c ≡ 1 → RegistersFormed ps xs → RegistersFormed ps ys → RegistersFormed ps (join_registers c xs ys)
registers-formed ps c [] ys w e a b = tt
registers-formed ps c (x ∷ xs) [] w e a b = tt
registers-formed ps c (x ∷ xs) (y ∷ ys) w e a b = (join-formed ps c x y w e a.0 b.0, registers-formed ps c xs ys w e a.1 b.1)

pub variables-join : (env : Env) (c : Tree) (xs ys : List Tree) → length xs ≡ length ys
    → map (value env) (join_variables c xs ys) ≡ (if nat_eq (value env c) 1 then map (value env) xs else map (value env) ys)
variables-join env c [] [] e = same_ways (nat_eq (value env c) 1) []
variables-join env c [] (y ∷ ys) e = absurd (omega arith)
variables-join env c (x ∷ xs) [] e = absurd (omega arith)
variables-join env c (x ∷ xs) (y ∷ ys) e =
    ap (λ v. v ∷ map (value env) (join_variables c xs ys)) (one_variable env c x y)
    ∙ ap (λ v. (if nat_eq (value env c) 1 then value env x else value env y) ∷ v) (variables-join env c xs ys (omega arith))
    ∙ both_ways (nat_eq (value env c) 1) _ _ _ _

pub variables-formed : (c : Tree) (xs ys : List Tree) → WellFormed c → width_of c ≡ 1 → VariablesFormed xs → VariablesFormed ys → VariablesFormed (join_variables c xs ys)
variables-formed c [] ys w e a b = tt
variables-formed c (x ∷ xs) [] w e a b = tt
variables-formed c (x ∷ xs) (y ∷ ys) w e a b = (one_formed c x y w e a.0 b.0, variables-formed c xs ys w e a.1 b.1)

pub lengths-after : (env : Env) (ps : List (List ℕ)) (c : Tree) (xs ys : List (List Bit)) → Reads env ps → AllBits ps → RegistersFormed ps xs → RegistersFormed ps ys → map length xs ≡ map length ys
    → map length (join_registers c xs ys) ≡ map length xs
lengths-after env ps c [] [] reads h a b e = refl
lengths-after env ps c [] (y ∷ ys) reads h a b e = absurd (cc)
lengths-after env ps c (x ∷ xs) [] reads h a b e = absurd (cc)
lengths-after env ps c (x ∷ xs) (y ∷ ys) reads h a b e =
    let first : length x ≡ length y = cc in
    let rest : map length xs ≡ map length ys = cc in
    ap (λ n. n ∷ map length (join_registers c xs ys)) (one_length env ps c x y reads h a.0 b.0 first)
    ∙ ap (λ v. length x ∷ v) (lengths-after env ps c xs ys reads h a.1 b.1 rest)

-- ---- a slice that is read

pub record Gathered (env : Env) (t : Tree) (w v : ℕ) : Type 0 where
  pub same : value env t ≡ v
  pub formed : WellFormed t
  pub width : width_of t ≡ w

pub slice-bits : (env : Env) (ps : List (List ℕ)) (ws : List ℕ) (s : State) (c : Cells) (r l w : ℕ) → Lifting env ps ws s c
    → map (bit_value env ps) (range l w (get_or s.registers r [])) ≡ range l w (get_or c.registers r [])
slice-bits env ps ws s c r l w h =
    range-map (bit_value env ps) l w (get_or s.registers r [])
    ∙ ap (range l w) (sym (at (bit_value env ps) s.registers r) ∙ ap (λ v. get_or v r []) h.registers)

pub slice-formed : (env : Env) (ps : List (List ℕ)) (ws : List ℕ) (s : State) (c : Cells) (r l w : ℕ) → Lifting env ps ws s c
    → BitsFormed ps (range l w (get_or s.registers r []))
slice-formed env ps ws s c r l w h = formed-take ps w (drop l (get_or s.registers r [])) (formed-drop ps l (get_or s.registers r []) (formed_at ps s.registers r h.bits))

pub slice-long : (env : Env) (ps : List (List ℕ)) (ws : List ℕ) (s : State) (c : Cells) (r l w : ℕ) → Lifting env ps ws s c → l + w ≤ get_or ws r 0
    → length (range l w (get_or s.registers r [])) ≡ w
slice-long env ps ws s c r l w h f =
    let x = get_or s.registers r [] in
    let inside : l + w ≤ length x = omega (arith, f, ap (λ v. get_or v r 0) h.widths, lengths_at s.registers r) in
    long l w x inside

pub slice-lifts : (env : Env) (ps : List (List ℕ)) (ws : List ℕ) (s : State) (c : Cells) (r l w : ℕ) → Reads env ps → Lifting env ps ws s c
    → IsWidth w → l + w ≤ get_or ws r 0 → Gathered env (gather (range l w (get_or s.registers r []))) w (bits_read c r l w)
slice-lifts env ps ws s c r l w reads h i f =
    let n = slice-long env ps ws s c r l w h f in
    let good = slice-formed env ps ws s c r l w h in
    let bs = range l w (get_or s.registers r []) in
    record {
      same = gather-value env ps bs reads good ∙ ap num (slice-bits env ps ws s c r l w h);
      formed = gather-formed ps bs good (omega (arith, i.0)) (omega (arith, i.1));
      width = gather-width bs ∙ n;
    }

-- ---- what is left after two ways

pub joined-lifts : (env : Env) (ps : List (List ℕ)) (ws : List ℕ) (x : Tree) (t : Bool) (s u : State) (a b : Cells) → Reads env ps → AllBits ps
    → WellFormed x → width_of x ≡ 1 → nat_eq (value env x) 1 ≡ t → length a.variables ≡ length b.variables
    → Lifting env ps ws s a → Lifting env ps ws u b → Lifting env ps ws (joined x s u) (if t then a else b)
joined-lifts env ps ws x t s u a b reads h f wide e lengths p q =
    let same = sym p.widths ∙ q.widths in
    let many : length s.variables ≡ length u.variables =
    sym (length-map _ (value env)) ∙ ap length p.variables ∙ lengths ∙ sym (ap length q.variables) ∙ length-map _ (value env) in
    record {
      registers = registers-join env ps x s.registers u.registers reads h p.bits q.bits same
          ∙ ap (λ v. if v then map (map (bit_value env ps)) s.registers else map (map (bit_value env ps)) u.registers) e
          ∙ ap (λ v. if t then v else map (map (bit_value env ps)) u.registers) p.registers
          ∙ ap (λ v. if t then a.registers else v) q.registers
          ∙ field_ways t (λ (d : Cells). d.registers) a b;
      variables = variables-join env x s.variables u.variables many
          ∙ ap (λ v. if v then map (value env) s.variables else map (value env) u.variables) e
          ∙ ap (λ v. if t then v else map (value env) u.variables) p.variables
          ∙ ap (λ v. if t then a.variables else v) q.variables
          ∙ field_ways t (λ (d : Cells). d.variables) a b;
      bits = registers-formed ps x _ _ f wide p.bits q.bits;
      terms = variables-formed x _ _ f wide p.terms q.terms;
      widths = p.widths ∙ sym (lengths-after env ps x s.registers u.registers reads h p.bits q.bits same);
    }
