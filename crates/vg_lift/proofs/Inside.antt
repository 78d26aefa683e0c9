-- The leaves of lifted terms are bits inside the parameters.
use Rattle.std.proofs.Common.{◌≡◌, ℕ, zero, suc, ◌+◌, ◌-◌, ◌*◌, ◌%◌, ◌^◌, ◌<◌, ◌≤◌, refl, sym, subst, arith, inl, inr, true, List, [], ◌∷◌, ◌++◌, get_or, set, length}
use Rattle.std.specs.Prelude.{nat_eq, nat_lt, ◌&&◌, not, take, drop, replicate}
use Rattle.std.proofs.lemmas.Bool.{cases_Bool, cond_both, and_parts, eqb-true}
use Rattle.vg_bits.specs.Range.{range, replaced}
use Rattle.vg_terms.specs.declared.term.OneOp.TheVariants.{Trunc}
use Rattle.vg_terms.specs.declared.term.TwoOp.TheVariants.{Eq}
use Rattle.vg_terms.specs.Term.{Tree, constant, one, two, sel, width_of}
use Rattle.vg_terms.specs.Resize.{low}
use Rattle.vg_terms.specs.Order.{is_same_term}
use Rattle.vg_shapes.specs.Registers.{LeavesInside}
use Rattle.vg_script.specs.Script.{Word, Low, at, held, Frame, frame, Given, nothing, number, moved, Script, stop, put, fill, copy, copy_from, give, both, branch, way, last, pick, arm}
use Rattle.vg_script.specs.Script as word
use Rattle.vg_lift.specs.Gather.{Bit, clear, input, of_term, Run, zeros, inputs, terms, start, size, longer, continues, shifted, whole, gather_from, gather, bits_from, inputs_from}
use Rattle.vg_lift.specs.Join.{is_same_bit, Open, shut, differ, closed, goes_on, opened, join_from, join, join_registers, join_variables}
use Rattle.vg_lift.specs.LaneTerm.{State, pieces, Passed, of_bits, of_number, of_parameter, padded, part, bits_passed, entered, begun, joined, first_bit, with_bits, term, left_by, passed, lifted, lifted_arm, parameters_from, first_state}
use Rattle.vg_lift.specs.Means.{LeavesAreParameters}

abbrev BitInside : List ℕ → Bit → Type 0
BitInside vs clear = Unit {0}
BitInside vs (input p i) = i < get_or vs p 0
BitInside vs (of_term t k) = LeavesInside vs t

abbrev BitsInside : List ℕ → List Bit → Type 0
BitsInside vs [] = Unit {0}
BitsInside vs (b ∷ bs) = BitInside vs b × BitsInside vs bs

abbrev RunInside : List ℕ → Run → Type 0
RunInside vs (zeros n) = Unit {0}
RunInside vs (inputs p l n) = l + n ≤ get_or vs p 0
RunInside vs (terms t k n) = LeavesInside vs t

-- ---- gathering

start-inside : (vs : List ℕ) (b : Bit) → BitInside vs b → RunInside vs (start b)
start-inside vs clear h = tt
start-inside vs (input p i) h = omega arith
start-inside vs (of_term t k) h = h

longer-inside : (vs : List ℕ) (r : Run) (b : Bit) → continues r b ≡ true → RunInside vs r → BitInside vs b → RunInside vs (longer r)
longer-inside vs (zeros n) b e r h = tt
longer-inside vs (inputs p l n) clear e r h = absurd (cc)
longer-inside vs (inputs p l n) (of_term t k) e r h = absurd (cc)
longer-inside vs (inputs p l n) (input q i) e r h =
    let parts = and_parts (nat_eq p q) (nat_eq i (l + n)) e in
    let next = eqb-true i (l + n) parts.1 in
    let h' : i < get_or vs p 0 = subst (λ v. i < get_or vs v 0) (sym (eqb-true p q parts.0)) h in
    omega arith
longer-inside vs (terms t k n) b e r h = r

shifted-inside : (vs : List ℕ) (k : ℕ) (t : Tree) → LeavesInside vs t → LeavesInside vs (shifted k t)
shifted-inside vs zero t h = h
shifted-inside vs (suc k) t h = h

low-inside : (vs : List ℕ) (n : ℕ) (t : Tree) → LeavesInside vs t → LeavesInside vs (low n t)
low-inside vs n t h = cond_both (nat_eq (width_of t) n) t (one Trunc n 0 t) (LeavesInside vs) (λ _. h) (λ _. h)

whole-inside : (vs : List ℕ) (r : Run) → RunInside vs r → LeavesInside vs (whole r)
whole-inside vs (zeros n) h = tt
whole-inside vs (inputs p l n) h = (p, l, refl, h)
whole-inside vs (terms t k n) h = low-inside vs n (shifted k t) (shifted-inside vs k t h)

gather_from-inside : (vs : List ℕ) (r : Run) (bs : List Bit) → RunInside vs r → BitsInside vs bs → LeavesInside vs (gather_from r bs)
gather_from-inside vs r [] h g = whole-inside vs r h
gather_from-inside vs r (b ∷ bs) h g = elim (cases_Bool (continues r b)) [
  | inl t ↦ rw t (gather_from-inside vs (longer r) bs (longer-inside vs r b t h g.0) g.1)
  | inr n ↦ rw n (gather_from-inside vs (start b) bs (start-inside vs b g.0) g.1, whole-inside vs r h)
]

gather-inside : (vs : List ℕ) (bs : List Bit) → BitsInside vs bs → LeavesInside vs (gather bs)
gather-inside vs [] g = tt
gather-inside vs (b ∷ bs) g = gather_from-inside vs (start b) bs (start-inside vs b g.0) g.1

-- ---- lists of bits

bits_from-inside : (vs : List ℕ) (t : Tree) (k n : ℕ) → LeavesInside vs t → BitsInside vs (bits_from t k n)
bits_from-inside vs t k zero h = tt
bits_from-inside vs t k (suc n) h = (h, bits_from-inside vs t (suc k) n h)

inputs_from-inside : (vs : List ℕ) (p k n : ℕ) → k + n ≤ get_or vs p 0 → BitsInside vs (inputs_from p k n)
inputs_from-inside vs p k zero h = tt
inputs_from-inside vs p k (suc n) h = (omega arith, inputs_from-inside vs p (suc k) n (omega arith))

pieces-inside : (vs : List ℕ) (w v k n : ℕ) → BitsInside vs (pieces w v k n)
pieces-inside vs w v k zero = tt
pieces-inside vs w v k (suc n) = (tt, pieces-inside vs w v (suc k) n)

clears-inside : (vs : List ℕ) (n : ℕ) → BitsInside vs (replicate n clear)
clears-inside vs zero = tt
clears-inside vs (suc n) = (tt, clears-inside vs n)

append-inside : (vs : List ℕ) (xs ys : List Bit) → BitsInside vs xs → BitsInside vs ys → BitsInside vs (xs ++ ys)
append-inside vs [] ys f g = g
append-inside vs (x ∷ xs) ys f g = (f.0, append-inside vs xs ys f.1 g)

take-inside : (vs : List ℕ) (n : ℕ) (l : List Bit) → BitsInside vs l → BitsInside vs (take n l)
take-inside vs zero [] h = tt
take-inside vs zero (x ∷ l) h = tt
take-inside vs (suc n) [] h = tt
take-inside vs (suc n) (x ∷ l) h = (h.0, take-inside vs n l h.1)

drop-inside : (vs : List ℕ) (n : ℕ) (l : List Bit) → BitsInside vs l → BitsInside vs (drop n l)
drop-inside vs zero l h = h
drop-inside vs (suc n) [] h = tt
drop-inside vs (suc n) (x ∷ l) h = drop-inside vs n l h.1

range-inside : (vs : List ℕ) (l w : ℕ) (bs : List Bit) → BitsInside vs bs → BitsInside vs (range l w bs)
range-inside vs l w bs h = take-inside vs w (drop l bs) (drop-inside vs l bs h)

padded-inside : (vs : List ℕ) (w : ℕ) (bs : List Bit) → BitsInside vs bs → BitsInside vs (padded w bs)
padded-inside vs w bs h = append-inside vs _ _ (take-inside vs w bs h) (clears-inside vs (w - length bs))

part-inside : (vs : List ℕ) (l w : ℕ) (bs : List Bit) → BitsInside vs bs → BitsInside vs (part l w bs)
part-inside vs l w bs h = padded-inside vs w (range l w bs) (range-inside vs l w bs h)

replaced-inside : (vs : List ℕ) (l : ℕ) (new bs : List Bit) → BitsInside vs new → BitsInside vs bs → BitsInside vs (replaced l new bs)
replaced-inside vs l new bs g h =
    append-inside vs _ _ (take-inside vs l bs h) (append-inside vs _ _ g (drop-inside vs (l + length new) bs h))

-- ---- joining

OpenInside : List ℕ → Open → Type 0
OpenInside vs shut = Unit {0}
OpenInside vs (differ r q) = RunInside vs r × RunInside vs q

closed-inside : (vs : List ℕ) (c : Tree) (o : Open) → LeavesInside vs c → OpenInside vs o → BitsInside vs (closed c o)
unfolding OpenInside
closed-inside vs c shut h f = tt
closed-inside vs c (differ r q) h f = bits_from-inside vs (sel (size r) c (whole r) (whole q)) 0 (size r) (h, whole-inside vs r f.0, whole-inside vs q f.1)

opened-inside : (vs : List ℕ) (o : Open) (i : ℕ) (x y : Bit) → goes_on o i x y ≡ true → BitInside vs x → BitInside vs y → OpenInside vs o → OpenInside vs (opened o)
unfolding OpenInside
opened-inside vs shut i x y e a b f = tt
opened-inside vs (differ r q) i x y e a b f =
    let first = and_parts (continues r x) (continues q y && not (nat_eq (i % 64) 0)) e in
    let second = and_parts (continues q y) (not (nat_eq (i % 64) 0)) first.1 in
    (longer-inside vs r x first.0 f.0 a, longer-inside vs q y second.0 f.1 b)

join_from-inside : (vs : List ℕ) (c : Tree) (o : Open) (i : ℕ) (xs ys : List Bit) → LeavesInside vs c → OpenInside vs o → BitsInside vs xs → BitsInside vs ys → BitsInside vs (join_from c o i xs ys)
unfolding OpenInside
join_from-inside vs c o i [] ys h f a b = closed-inside vs c o h f
join_from-inside vs c o i (x ∷ xs) [] h f a b = closed-inside vs c o h f
join_from-inside vs c o i (x ∷ xs) (y ∷ ys) h f a b = elim (cases_Bool (is_same_bit x y)) [
  | inl s ↦ rw s (append-inside vs _ _ (closed-inside vs c o h f) (a.0, join_from-inside vs c shut (suc i) xs ys h tt a.1 b.1))
  | inr s ↦ rw s (elim (cases_Bool (goes_on o i x y)) [
    | inl g ↦ rw g (join_from-inside vs c (opened o) (suc i) xs ys h (opened-inside vs o i x y g a.0 b.0 f) a.1 b.1)
    | inr g ↦ rw g (append-inside vs _ _ (closed-inside vs c o h f)
        (join_from-inside vs c (differ (start x) (start y)) (suc i) xs ys h (start-inside vs x a.0, start-inside vs y b.0) a.1 b.1))
  ])
]

join-inside : (vs : List ℕ) (c : Tree) (xs ys : List Bit) → LeavesInside vs c → BitsInside vs xs → BitsInside vs ys → BitsInside vs (join c xs ys)
unfolding OpenInside
join-inside vs c xs ys h a b = join_from-inside vs c shut 0 xs ys h tt a b

-- ---- states

abbrev RegistersInside : List ℕ → List (List Bit) → Type 0
RegistersInside vs [] = Unit {0}
RegistersInside vs (l ∷ ls) = BitsInside vs l × RegistersInside vs ls

abbrev TermsInside : List ℕ → List Tree → Type 0
TermsInside vs [] = Unit {0}
TermsInside vs (t ∷ ts) = LeavesInside vs t × TermsInside vs ts

record StateInside (vs : List ℕ) (s : State) : Type 0 where
  registers : RegistersInside vs s.registers
  variables : TermsInside vs s.variables

register-inside : (vs : List ℕ) (ls : List (List Bit)) (r : ℕ) → RegistersInside vs ls → BitsInside vs (get_or ls r [])
register-inside vs [] r h = tt
register-inside vs (l ∷ ls) zero h = h.0
register-inside vs (l ∷ ls) (suc r) h = register-inside vs ls r h.1

variable-inside : (vs : List ℕ) (ts : List Tree) (k : ℕ) → TermsInside vs ts → LeavesInside vs (get_or ts k (constant 128 0))
variable-inside vs [] k h = tt
variable-inside vs (t ∷ ts) zero h = h.0
variable-inside vs (t ∷ ts) (suc k) h = variable-inside vs ts k h.1

set-registers : (vs : List ℕ) (ls : List (List Bit)) (r : ℕ) (l : List Bit) → RegistersInside vs ls → BitsInside vs l → RegistersInside vs (set ls r l)
set-registers vs [] r l h g = tt
set-registers vs (x ∷ ls) zero l h g = (g, h.1)
set-registers vs (x ∷ ls) (suc r) l h g = (h.0, set-registers vs ls r l h.1 g)

set-variables : (vs : List ℕ) (ts : List Tree) (k : ℕ) (t : Tree) → TermsInside vs ts → LeavesInside vs t → TermsInside vs (set ts k t)
set-variables vs [] k t h g = tt
set-variables vs (x ∷ ts) zero t h g = (g, h.1)
set-variables vs (x ∷ ts) (suc k) t h g = (h.0, set-variables vs ts k t h.1 g)

with-inside : (vs : List ℕ) (r l : ℕ) (new : List Bit) (s : State) → BitsInside vs new → StateInside vs s → StateInside vs (with_bits r l new s)
with-inside vs r l new s g h = record {
  registers = set-registers vs s.registers r _ h.registers (replaced-inside vs l new (get_or s.registers r []) g (register-inside vs s.registers r h.registers));
  variables = h.variables;
}

join_registers-inside : (vs : List ℕ) (c : Tree) (xs ys : List (List Bit)) → LeavesInside vs c → RegistersInside vs xs → RegistersInside vs ys → RegistersInside vs (join_registers c xs ys)
join_registers-inside vs c [] ys h a b = tt
join_registers-inside vs c (x ∷ xs) [] h a b = tt
join_registers-inside vs c (x ∷ xs) (y ∷ ys) h a b = (join-inside vs c x y h a.0 b.0, join_registers-inside vs c xs ys h a.1 b.1)

join_variables-inside : (vs : List ℕ) (c : Tree) (xs ys : List Tree) → LeavesInside vs c → TermsInside vs xs → TermsInside vs ys → TermsInside vs (join_variables c xs ys)
join_variables-inside vs c [] ys h a b = tt
join_variables-inside vs c (x ∷ xs) [] h a b = tt
join_variables-inside vs c (x ∷ xs) (y ∷ ys) h a b =
    (cond_both (is_same_term x y) x (sel 128 c x y) (LeavesInside vs) (λ _. a.0) (λ _. (h, a.0, b.0)), join_variables-inside vs c xs ys h a.1 b.1)

joined-inside : (vs : List ℕ) (c : Tree) (s t : State) → LeavesInside vs c → StateInside vs s → StateInside vs t → StateInside vs (joined c s t)
joined-inside vs c s t h a b = record {
  registers = join_registers-inside vs c s.registers t.registers h a.registers b.registers;
  variables = join_variables-inside vs c s.variables t.variables h a.variables b.variables;
}

-- ---- as a body begins

-- what is passed to a register of a width
abbrev PassedInside : List ℕ → ℕ → Passed → Type 0
PassedInside vs w (of_bits bs) = BitsInside vs bs
PassedInside vs w (of_number n) = Unit {0}
PassedInside vs w (of_parameter p) = w ≤ get_or vs p 0

abbrev AllInside : List ℕ → List ℕ → List Passed → Type 0
AllInside vs [] ps = Unit {0}
AllInside vs (w ∷ ws) [] = Unit {0}
AllInside vs (w ∷ ws) (p ∷ ps) = PassedInside vs w p × AllInside vs ws ps

bits_passed-inside : (vs : List ℕ) (w : ℕ) (p : Passed) → PassedInside vs w p → BitsInside vs (bits_passed w p)
bits_passed-inside vs w (of_bits bs) h = padded-inside vs w bs h
bits_passed-inside vs w (of_number n) h = pieces-inside vs w n 0 w
bits_passed-inside vs w (of_parameter p) h = inputs_from-inside vs p 0 w (omega arith)

entered-inside : (vs ws : List ℕ) (ps : List Passed) → AllInside vs ws ps → RegistersInside vs (entered ws ps)
entered-inside vs [] ps h = tt
entered-inside vs (w ∷ ws) [] h = (clears-inside vs w, entered-inside vs ws [] (none ws))
  where
    none : (ws : List ℕ) → AllInside vs ws []
    none [] = tt
    none (w ∷ ws) = tt
entered-inside vs (w ∷ ws) (p ∷ ps) h = (bits_passed-inside vs w p h.0, entered-inside vs ws ps h.1)

no_terms-inside : (vs : List ℕ) (n : ℕ) → TermsInside vs (replicate n (constant 128 0))
no_terms-inside vs zero = tt
no_terms-inside vs (suc n) = (tt, no_terms-inside vs n)

begun-inside : (vs ws : List ℕ) (n : ℕ) (ps : List Passed) → AllInside vs ws ps → StateInside vs (begun ws n ps)
begun-inside vs ws n ps h = record { registers = entered-inside vs ws ps h; variables = no_terms-inside vs n }

-- ---- words and statements

mutual
  term-inside : (vs : List ℕ) (s : State) (x : Word) → StateInside vs s → LeavesInside vs (term s x)
  term-inside vs s (word.constant w v) h = tt
  term-inside vs s (word.slice r l w) h = gather-inside vs _ (part-inside vs (first_bit l) w (get_or s.registers r []) (register-inside vs s.registers r h.registers))
  term-inside vs s (word.variable k) h = variable-inside vs s.variables k h.variables
  term-inside vs s (word.one op w k x) h = term-inside vs s x h
  term-inside vs s (word.two op w x y) h = (term-inside vs s x h, term-inside vs s y h)
  term-inside vs s (word.sel w c x y) h = (term-inside vs s c h, term-inside vs s x h, term-inside vs s y h)
  term-inside vs s (word.absolute x) h = (term-inside vs s x h, (term-inside vs s x h, tt))
  term-inside vs s (word.shift_left x n) h = term-inside vs s x h
  term-inside vs s (word.shift_right x n) h = term-inside vs s x h
  term-inside vs s (word.block f x) h = term-inside vs (left_by s f) x (left-inside vs s f h)

  left-inside : (vs : List ℕ) (s : State) (f : Frame) → StateInside vs s → StateInside vs (left_by s f)
  left-inside vs s (frame ws n g t) h = lifted-inside vs t _ (begun-inside vs ws n (passed s g) (given-inside vs s g ws h))

  given-inside : (vs : List ℕ) (s : State) (g : Given) (ws : List ℕ) → StateInside vs s → AllInside vs ws (passed s g)
  given-inside vs s nothing [] h = tt
  given-inside vs s nothing (w ∷ ws) h = tt
  given-inside vs s (word.word x g) [] h = tt
  given-inside vs s (word.word x g) (w ∷ ws) h = (bits_from-inside vs (term s x) 0 128 (term-inside vs s x h), given-inside vs s g ws h)
  given-inside vs s (number n g) [] h = tt
  given-inside vs s (number n g) (w ∷ ws) h = (tt, given-inside vs s g ws h)
  given-inside vs s (moved r l m g) [] h = tt
  given-inside vs s (moved r l m g) (w ∷ ws) h =
      (range-inside vs (first_bit l) m (get_or s.registers r []) (register-inside vs s.registers r h.registers), given-inside vs s g ws h)

  lifted-inside : (vs : List ℕ) (t : Script) (s : State) → StateInside vs s → StateInside vs (lifted t s)
  lifted-inside vs stop s h = h
  lifted-inside vs (put r l w x) s h = with-inside vs r l _ s (bits_from-inside vs (low w (term s x)) 0 w (low-inside vs w (term s x) (term-inside vs s x h))) h
  lifted-inside vs (fill r l w z) s h = with-inside vs r l _ s (pieces-inside vs w _ 0 w) h
  lifted-inside vs (copy r l w q m) s h = with-inside vs r l _ s (part-inside vs (first_bit m) w (get_or s.registers q []) (register-inside vs s.registers q h.registers)) h
  lifted-inside vs (copy_from r l w f q m) s h =
      let left = left-inside vs s f h in
      with-inside vs r l _ s (part-inside vs (first_bit m) w (get_or (left_by s f).registers q []) (register-inside vs (left_by s f).registers q left.registers)) h
  lifted-inside vs (give k x) s h = record { registers = h.registers; variables = set-variables vs s.variables k (term s x) h.variables (term-inside vs s x h) }
  lifted-inside vs (both x y) s h = lifted-inside vs y (lifted x s) (lifted-inside vs x s h)
  lifted-inside vs (branch ways) s h = lifted-inside vs ways s h
  lifted-inside vs (way x t ways) s h = joined-inside vs (term s x) (lifted t s) (lifted ways s) (term-inside vs s x h) (lifted-inside vs t s h) (lifted-inside vs ways s h)
  lifted-inside vs (last t) s h = lifted-inside vs t s h
  lifted-inside vs (pick x arms) s h = arms-inside vs (term s x) arms s (term-inside vs s x h) h
  lifted-inside vs (arm n t arms) s h = h

  arms-inside : (vs : List ℕ) (x : Tree) (t : Script) (s : State) → LeavesInside vs x → StateInside vs s → StateInside vs (lifted_arm x t s)
  arms-inside vs x (arm n t arms) s g h =
      cond_both (nat_lt n (2 ^ 128)) (joined (two Eq 1 x (constant 128 n)) (lifted t s) (lifted_arm x arms s)) (lifted_arm x arms s) (StateInside vs)
      (λ _. joined-inside vs (two Eq 1 x (constant 128 n)) (lifted t s) (lifted_arm x arms s) (g, tt) (lifted-inside vs t s h) (arms-inside vs x arms s g h))
      (λ _. arms-inside vs x arms s g h)
  arms-inside vs x stop s g h = h
  arms-inside vs x (put r l w y) s g h = h
  arms-inside vs x (fill r l w z) s g h = h
  arms-inside vs x (copy r l w q m) s g h = h
  arms-inside vs x (copy_from r l w f q m) s g h = h
  arms-inside vs x (give k y) s g h = h
  arms-inside vs x (both t u) s g h = h
  arms-inside vs x (branch ways) s g h = h
  arms-inside vs x (way y t ways) s g h = h
  arms-inside vs x (last t) s g h = h
  arms-inside vs x (pick y arms) s g h = h

-- ---- the parameters of an instance

-- the registers from this parameter on
starting-inside : (vs ws : List ℕ) (m p n imm : ℕ) → ((j : ℕ) → j < n → get_or ws j 0 ≤ get_or vs (p + j) 0) → AllInside vs ws (take m (parameters_from p n ++ of_number imm ∷ []))
starting-inside vs [] m p n imm h = tt
starting-inside vs (w ∷ ws) zero p zero imm h = tt
starting-inside vs (w ∷ ws) zero p (suc n) imm h = tt
starting-inside vs (w ∷ ws) (suc m) p zero imm h = (tt, nothing_more ws m)
  where
    nothing_more : (ws : List ℕ) (m : ℕ) → AllInside vs ws (take m [])
    nothing_more [] m = tt
    nothing_more (w ∷ ws) zero = tt
    nothing_more (w ∷ ws) (suc m) = tt
starting-inside vs (w ∷ ws) (suc m) p (suc n) imm h =
    let here : p + 0 ≡ p = omega arith in (
      subst (λ k. w ≤ get_or vs k 0) here (h 0 (omega arith)),
      starting-inside vs ws m (suc p) n imm (λ j g. let next : p + suc j ≡ suc p + j = omega arith in subst (λ k. get_or ws j 0 ≤ get_or vs k 0) next (h (suc j) (omega arith))),
    )

taken-width : (ws : List ℕ) (n j : ℕ) → j < n → get_or ws j 0 ≤ get_or (take n ws) j 0
taken-width [] zero j h = absurd (omega arith)
taken-width [] (suc n) j h = omega arith
taken-width (w ∷ ws) zero j h = absurd (omega arith)
taken-width (w ∷ ws) (suc n) zero h = omega arith
taken-width (w ∷ ws) (suc n) (suc j) h = taken-width ws n j (omega arith)

pub leaves-are-parameters : LeavesAreParameters
leaves-are-parameters i parameters imm width lane =
    let vs = take parameters i.widths in
    let start = starting-inside vs i.widths i.parameters 0 parameters imm
    (λ j h. let e : j ≡ 0 + j = omega arith in subst (λ k. get_or i.widths j 0 ≤ get_or vs k 0) e (taken-width i.widths parameters j h)) in
    let left = lifted-inside vs i.script (first_state i parameters imm) (begun-inside vs i.widths i.variables _ start) in
    gather-inside vs _ (range-inside vs (lane * width) width _ (register-inside vs (lifted i.script (first_state i parameters imm)).registers i.result left.registers))
