-- Lines that keep the rules can be run one after the other.
use Rattle.std.proofs.Common.{◌≡◌, ℕ, zero, suc, ◌+◌, ◌-◌, ◌*◌, ◌≤◌, ℤ, pos, negsuc, List, [], ◌∷◌, ◌++◌, length, take, drop, map, replicate, slice_get, get_or, Bool, true, false, ◌==◌, ◌||◌, Option, Some, None, refl, sym, ap, subst, ◌∙◌, inl, inr, length-append, arith}
use Rattle.std.specs.Prelude.{IsSomeAnd, nat_le}
use Rattle.std.proofs.lemmas.Bool.{cases_Bool, leb-true, eqb-true}
use Rattle.std.proofs.lemmas.List.{map-append, take_all, length-take-le, length-drop, length-replicate}
use Rattle.vg_base.specs.Trap.{◌>>=◌}
use Rattle.vg_base.specs.Bits.{bits, bits_of_bytes, bytes, num, number}
use Rattle.vg_base.specs.Memory.{loaded, stored}
use Rattle.vg_base.specs.Address.{place_of}
use Rattle.vg_base.specs.declared.width.Width.{Width}
use Rattle.vg_base.specs.Width.{bits_of, size_of}
use Rattle.vg_base.proofs.Bits.{length-bits}
use Rattle.vg_bits.proofs.Ranges.{length-replaced}
use Rattle.vg_bits.proofs.ByteLists.{length-bits_of_bytes}
use Rattle.vg_pseudo.specs.declared.header.Header.{Header}
use Rattle.vg_program.specs.declared.program.Program.{Program}
use Rattle.vg_program.specs.declared.line.Line.{Line}
use Rattle.vg_program.specs.declared.line.Line.TheVariants.{Load, Store, Two, Shift, Resize, Compare, Select, VectorLoad, VectorStore, Constant, Insert, Extract, Call}
use Rattle.vg_program.specs.declared.vector_size.VectorSize.{VectorSize}
use Rattle.vg_program.specs.declared.vector_size.VectorSize.TheVariants.{B4, B8, B16, B32, B64}
use Rattle.vg_program.specs.declared.defined.Defined.{Defined}
use Rattle.vg_program.specs.declared.defined.Defined.TheVariants as defines
use Rattle.vg_program.specs.Before.{Before, nothing_before, with_defined}
use Rattle.vg_program.specs.Vectors.{bytes_of, register_of, is_register_size, constant_bits}
use Rattle.vg_program.specs.Text.{defined}
use Rattle.vg_program.specs.Valid.{IsLane, IsCallOf, header_of, IsLine, KeepsRules}
use Rattle.vg_machine.proofs.Calls.{map-length}
use Rattle.vg_program.specs.Meaning.{State, Inputs, Instructions, operand_number, register_bits, widened, with_lane, with_scalar, with_vector, with_memory, step, run}
use Rattle.vg_machine.specs.State.{IsThere, IsRunnable, AreRunnable}
use Rattle.vg_catalog.specs.Entries.{Entry}
use Rattle.vg_catalog.specs.Called.{called_by, headers_of}
use Rattle.vg_machine.specs.ReadyInstance.{Instances, IsPlanned, ArePlanned}
use Rattle.vg_machine.proofs.Registers.{lane_inside}

some_of : {A : Type 0} (o : Option A) (P : A → Type 0) → IsSomeAnd o P → (x : A) × (o ≡ Some x) × P x
some_of None P h = absurd h
some_of (Some x) P h = (x, refl, h)

-- a register by its width
there : (vs : List (List ℕ)) (v width : ℕ) → slice_get (map length vs) v ≡ Some width → IsThere vs v width
there [] v width e = absurd cc
there (r ∷ vs) zero width e = record { within = omega arith; long = cc }
there (r ∷ vs) (suc v) width e = let t = there vs v width e in record { within = omega (arith, t.within); long = t.long }

there_in : (b : Before) (vs : List (List ℕ)) (v width : ℕ) → map length vs ≡ b.vectors → slice_get b.vectors v ≡ Some width → IsThere vs v width
there_in b vs v width same e = there vs v width (ap (λ (ws : List ℕ). slice_get ws v) same ∙ e)

-- the first of lines can be run
pub runnable_line : (i : Instances) (place : ℕ) (b : Before) (l : Line) (vs : List (List ℕ)) → map length vs ≡ b.vectors → IsLine b l → IsPlanned i place l → IsRunnable i place l vs
runnable_line i place b (Load w a) vs same rule plan = tt
runnable_line i place b (Store w a v) vs same rule plan = tt
runnable_line i place b (Two op w l r) vs same rule plan = tt
runnable_line i place b (Shift op w v n) vs same rule plan = tt
runnable_line i place b (Resize op w from v) vs same rule plan = tt
runnable_line i place b (Compare op w l r) vs same rule plan = tt
runnable_line i place b (Select w c x y) vs same rule plan = tt
runnable_line i place b (VectorLoad z a) vs same rule plan = tt
runnable_line i place b (VectorStore z a v) vs same rule plan = there_in b vs v (register_of z) same rule.1
runnable_line i place b (Constant bs) vs same rule plan = rule
runnable_line i place b (Insert v width n w x) vs same rule plan = (there_in b vs v width same rule.0, rule.2)
runnable_line i place b (Extract v n w) vs same rule plan =
    let s = some_of (slice_get b.vectors v) (λ width. IsLane width w n) rule in
    let t = there_in b vs v s.0 same s.1 in
    (t.within, subst (λ (width : ℕ). IsLane width w n) (sym t.long) s.2)
runnable_line i place b (Call name rs imm width cost) vs same rule plan = plan

pub runnable_first : (i : Instances) (plan : List ℕ) (number : ℕ) (l : Line) (ls : List Line) (vs : List (List ℕ)) → AreRunnable i plan number (l ∷ ls) vs → IsRunnable i (get_or plan number 0) l vs
runnable_first i plan number l ls vs a = runnable_line i (get_or plan number 0) a.before l vs a.widths a.rules.0 a.planned.0

-- ---- after a line

state_is : (x t : State) → Some x ≡ Some t → x ≡ t
state_is x t e = cc

-- registers of these widths stand after a step
abbrev Widths : State → List ℕ → Type 0
Widths t ws = map length t.vectors ≡ ws

kept : (x t : State) (ws : List ℕ) → Widths x ws → Some x ≡ Some t → Widths t ws
kept x t ws same e = subst (λ (s : State). Widths s ws) (state_is x t e) same

bound : (o : Option (List ℕ)) (f : List ℕ → State) (t : State) (ws : List ℕ) → ((x : List ℕ) → o ≡ Some x → Widths (f x) ws) → (o >>= λ x. Some (f x)) ≡ Some t → Widths t ws
bound None f t ws same e = absurd cc
bound (Some x) f t ws same e = kept (f x) t ws (same x refl) e

more : (vs : List (List ℕ)) (r : List ℕ) (ws : List ℕ) (width : ℕ) → map length vs ≡ ws → length r ≡ width → map length (vs ++ r ∷ []) ≡ ws ++ width ∷ []
more vs r ws width same long = map-append length vs (r ∷ []) ∙ ap (λ (l : List ℕ). l ++ length r ∷ []) same ∙ ap (λ (k : ℕ). ws ++ k ∷ []) long

loaded_long : (memory : List ℕ) (z : ℤ) (size : ℕ) (read : List ℕ) → loaded memory z size ≡ Some read → length read ≡ size
loaded_long memory (negsuc at) size read e = absurd cc
loaded_long memory (pos at) size read e = elim (cases_Bool (nat_le (at + size) (length memory))) [
  | inl inside ↦
      let is : Some (take size (drop at memory)) ≡ Some read = rw inside at e in
      let same : take size (drop at memory) ≡ read = cc in
      ap length (sym same) ∙ length-take-le size (drop at memory) (omega (arith, length-drop at memory, leb-true (at + size) (length memory) inside))
  | inr outside ↦ let is : nothing ≡ Some read = rw outside at e in absurd cc
]
  where
    nothing : Option (List ℕ)
    nothing = None

size_fits : (z : VectorSize) → 8 * bytes_of z ≤ register_of z
size_fits B4 = omega arith
size_fits B8 = omega arith
size_fits B16 = omega arith
size_fits B32 = omega arith
size_fits B64 = omega arith

widened_long : (width : ℕ) (read : List ℕ) → 8 * length read ≤ width → length (widened width read) ≡ width
widened_long width read fits =
    let zeros : List ℕ = replicate (width - 8 * length read) 0 in
    let many : length zeros ≡ width - 8 * length read = length-replicate {A = ℕ} (width - 8 * length read) 0 in
    omega (arith, fits, length-append (bits_of_bytes read) zeros, length-bits_of_bytes read, many)

either_way : {P : Type 0} → (x y : Bool) → (x || y) ≡ true → (x ≡ true → P) → (y ≡ true → P) → P
either_way true y e p q = p refl
either_way false y e p q = q e

constant_long : (n : ℕ) → is_register_size n ≡ true → 8 * n ≡ constant_bits n
constant_long n e =
    either_way (n == 16) (n == 32 || n == 64) e (λ a. let same = eqb-true n 16 a in rw same refl) (λ f.
    either_way (n == 32) (n == 64) f (λ a. let same = eqb-true n 32 a in rw same refl) (λ a. let same = eqb-true n 64 a in rw same refl))

lane_long : (width : ℕ) (w : Width) (n x : ℕ) (r : List ℕ) → length r ≡ width → IsLane width w n → length (with_lane (bits_of w) n x r) ≡ width
lane_long width w n x r long lane =
    length-replaced (n * bits_of w) (bits (bits_of w) x) r (omega (arith, long, lane_inside width w n lane, length-bits (bits_of w) x)) ∙ long

-- the widths of the registers after a line
widths_behind : (called : Instances) (place : ℕ) (i : Inputs) (b : Before) (l : Line) (s t : State) → Widths s b.vectors → IsLine b l → IsRunnable called place l s.vectors → step (called_by called.entries) i l s ≡ Some t → Widths t (with_defined b (defined l)).vectors
widths_behind called place i b (Load w a) s t same rule can e = bound (loaded s.memory (place_of i.places a) (size_of w)) (λ read. with_scalar s (number read)) t b.vectors (λ x h. same) e
widths_behind called place i b (Store w a v) s t same rule can e = bound (stored s.memory (place_of i.places a) (bytes (size_of w) (operand_number i s.scalars v))) (λ memory. with_memory s memory) t b.vectors (λ x h. same) e
widths_behind called place i b (Two op w l r) s t same rule can e = kept _ t b.vectors same e
widths_behind called place i b (Shift op w v n) s t same rule can e = kept _ t b.vectors same e
widths_behind called place i b (Resize op w from v) s t same rule can e = kept _ t b.vectors same e
widths_behind called place i b (Compare op w l r) s t same rule can e = kept _ t b.vectors same e
widths_behind called place i b (Select w c x y) s t same rule can e = kept _ t b.vectors same e
widths_behind called place i b (VectorLoad z a) s t same rule can e =
    bound (loaded s.memory (place_of i.places a) (bytes_of z)) (λ read. with_vector s (widened (register_of z) read)) t (b.vectors ++ register_of z ∷ []) (λ read h.
    more s.vectors (widened (register_of z) read) b.vectors (register_of z) same (widened_long (register_of z) read (omega (arith, size_fits z, loaded_long s.memory (place_of i.places a) (bytes_of z) read h)))) e
widths_behind called place i b (VectorStore z a v) s t same rule can e = bound (stored s.memory (place_of i.places a) (bytes (bytes_of z) (num (take (8 * bytes_of z) (register_bits s.vectors v))))) (λ memory. with_memory s memory) t b.vectors (λ x h. same) e
widths_behind called place i b (Constant bs) s t same rule can e =
    kept _ t (b.vectors ++ constant_bits (length bs) ∷ []) (more s.vectors (bits_of_bytes bs) b.vectors (constant_bits (length bs)) same (length-bits_of_bytes bs ∙ constant_long (length bs) rule.size)) e
widths_behind called place i b (Insert v width n w x) s t same rule can e =
    let r = register_bits s.vectors v in
    kept _ t (b.vectors ++ width ∷ []) (more s.vectors (with_lane (bits_of w) n (operand_number i s.scalars x) r) b.vectors width same (lane_long width w n (operand_number i s.scalars x) r can.0.long rule.2)) e
widths_behind called place i b (Extract v n w) s t same rule can e = kept _ t b.vectors same e
widths_behind called place i b (Call name rs imm width cost) s t same rule can e =
    let taken = map (λ v. register_bits s.vectors v) rs in
    let result = called_by called.entries name taken imm in
    let long : length result ≡ width = ap length (can.same taken (map-length (λ v. register_bits s.vectors v) rs)) ∙ length-bits width _ in
    kept _ t (b.vectors ++ width ∷ []) (more s.vectors result b.vectors width same long) e

pub runnable_rest : (called : Instances) (plan : List ℕ) (number : ℕ) (i : Inputs) (l : Line) (ls : List Line) (s t : State) → AreRunnable called plan number (l ∷ ls) s.vectors → step (called_by called.entries) i l s ≡ Some t → AreRunnable called plan (number + 1) ls t.vectors
runnable_rest called plan number i l ls s t a e =
    let b = a.before in
    record {
      before = with_defined b (defined l);
      widths = widths_behind called (get_or plan number 0) i b l s t a.widths a.rules.0 (runnable_first called plan number l ls s.vectors a) e;
      rules = a.rules.1;
      planned = a.planned.1;
    }

-- ---- one turn of the loop over the lines

behind_is : (l : Line) (ls : List Line) → take (length (l ∷ ls) - 1) (drop 1 (l ∷ ls)) ≡ ls
behind_is l ls = take_all (length (l ∷ ls) - 1) ls (omega arith)

pub run_turn : (called : Instructions) (i : Inputs) (left : List Line) (line : Line) (all : List Line) (s t first : State) → 1 ≤ length left → line ≡ get_or left 0 line → step called i line s ≡ Some t → run called i left s ≡ run called i all first → run called i (take (length left - 1) (drop 1 left)) t ≡ run called i all first
unfolding run
run_turn called i [] line all s t first some is e same = absurd (omega (arith, some))
run_turn called i (l ∷ ls) line all s t first some is e same =
    let stepped : step called i l s ≡ Some t = subst (λ (x : Line). step called i x s ≡ Some t) is e in
    ap (λ (rest : List Line). run called i rest t) (behind_is l ls) ∙ sym (ap (λ (o : Option State). o >>= run called i ls) stepped) ∙ same

pub runnable_turn : (called : Instances) (plan : List ℕ) (number : ℕ) (i : Inputs) (left : List Line) (line : Line) (s t : State) → 1 ≤ length left → line ≡ get_or left 0 line → step (called_by called.entries) i line s ≡ Some t → AreRunnable called plan number left s.vectors → AreRunnable called plan (number + 1) (take (length left - 1) (drop 1 left)) t.vectors
runnable_turn called plan number i [] line s t some is e can = absurd (omega (arith, some))
runnable_turn called plan number i (l ∷ ls) line s t some is e can =
    let stepped : step (called_by called.entries) i l s ≡ Some t = subst (λ (x : Line). step (called_by called.entries) i x s ≡ Some t) is e in
    subst (λ (rest : List Line). AreRunnable called plan (number + 1) rest t.vectors) (sym (behind_is l ls)) (runnable_rest called plan number i l ls s t can stepped)

-- the first of the lines that are left can be run
pub runnable_next : (called : Instances) (plan : List ℕ) (number : ℕ) (left : List Line) (line : Line) (vs : List (List ℕ)) → 1 ≤ length left → line ≡ get_or left 0 line → AreRunnable called plan number left vs → IsRunnable called (get_or plan number 0) line vs
runnable_next called plan number [] line vs some is can = absurd (omega (arith, some))
runnable_next called plan number (l ∷ ls) line vs some is can =
    subst (λ (x : Line). IsRunnable called (get_or plan number 0) x vs) (sym is) (runnable_first called plan number l ls vs can)

-- a whole program can be run
pub runnable_all : (i : Instances) (plan : List ℕ) (p : Program) (vs : List (List ℕ)) → KeepsRules (headers_of i.entries) p → ArePlanned i plan 0 p.lines → vs ≡ [] → AreRunnable i plan 0 p.lines vs
runnable_all i plan p vs k planned e =
    let b : Before = nothing_before (headers_of i.entries) p.params in
    record { before = b; widths = ap (λ (rs : List (List ℕ)). map length rs) e; rules = k.lines; planned = planned }
