-- What is found of an expression covers its value.
use Rattle.std.proofs.Common.{◌≡◌, ℕ, zero, suc, ◌+◌, ◌*◌, ◌^◌, ◌<◌, ◌≤◌, refl, sym, ap, ◌∙◌, subst, arith, inl, inr, Bool, true, false, lit<, List, [], ◌∷◌, get_or}
use Rattle.std.specs.Prelude.{ℤ, pos, ◌+ℤ◌, not, if◌then◌else◌, map, Option, Some, None, Result, Ok}
use Rattle.std.specs.Ordering.{int_eq}
use Rattle.std.proofs.lemmas.Int.{ints}
use Rattle.std.proofs.lemmas.Bool.{cases_Bool}
use Rattle.vg_base.proofs.Bind.{bind_ok}
use Rattle.vg_base.specs.Bind.{◌>>=◌}
use Rattle.vg_base.specs.Bits.{num}
use Rattle.vg_base.specs.Number.{residue}
use Rattle.vg_text.specs.declared.place.Place.{Place}
use Rattle.vg_pseudo.specs.declared.spot.Spot.{Spot}
use Rattle.vg_pseudo.specs.Whole.{natural, negative}
use Rattle.vg_pseudo.specs.Resolved.{Expr, literal, counter, variable, slice, element, front, unary, binary, choice, call, Arguments, end, more}
use Rattle.vg_pseudo.specs.Value.{State, Bits, read, count, value, bits_in, numbers_handed}
use Rattle.vg_pseudo.specs.Value as meaning
use Rattle.vg_script.specs.Script.{Word, sel}
use Rattle.vg_script.specs.Cells.{Cells}
use Rattle.vg_interval.specs.declared.span.Span.{Span}
use Rattle.vg_interval.specs.declared.fault.RangeFault.{RangeFault}
use Rattle.vg_interval.specs.Interval.{hull}
use Rattle.vg_interval.specs.Found.{Found, within, Operand, fixed, moving, span_of, word_of, plain, operand, condition, Passed, passed}
use Rattle.vg_interval.specs.Judge.{KnownNumber, constant, varying, Count, step, Walk, Sight, bits_between, bits_of_element, slice_found, Index, settled, unsettled, index_of, moving_slice, slice_at, element_at, unary_at, variable_found, spot_of, no_walk, Judges, branch, chosen, judge, judge_all}
use Rattle.vg_interval.specs.Judge as judging
use Rattle.vg_names.specs.Proper.{AllSmall}
use Rattle.vg_interval.proofs.Intervals.{In, Fits, EndsFit, hull-left, hull-right, hull_fits}
use Rattle.vg_interval.proofs.Words.{StandsFor, Tells}
use Rattle.vg_interval.proofs.Covers.{cells, AllBits, AreCells, Covers, Holds, operand-ok, holds-in, holds-stands, plain-covers, condition-tells, PassedIs, passed-is}
use Rattle.vg_interval.proofs.Operators.{IsPlace, between-ok, element-ok, slice_found-covers, IndexIs, index-is, moving_slice-covers, Made, unary_at-covers, binary_at-covers, ok_pair, same_pair}

-- ---- what holds where an expression is judged

abbrev pub Keeps : KnownNumber → ℤ → Type 0
Keeps (constant y) z = (z ≡ y) × Fits z
Keeps (varying i) z = In i z × EndsFit i

abbrev pub AllKeep : List KnownNumber → List ℤ → Type 0
AllKeep [] [] = Unit {0}
AllKeep (k ∷ ks) (z ∷ zs) = Keeps k z × AllKeep ks zs
AllKeep _ _ = ⊥

abbrev pub PassedAll : List ℕ → Cells → List Passed → List ℕ → Type 0
PassedAll ws c [] [] = Unit {0}
PassedAll ws c (p ∷ ps) (n ∷ ns) = PassedIs ws c p n × PassedAll ws c ps ns
PassedAll ws c _ _ = ⊥

-- a walk of a call goes with what the call gives: wherever it is called, with arguments that stand for numbers
abbrev pub CallAgrees : Walk → (List ℕ → ℤ) → Type 0
CallAgrees w f =
    (ws : List ℕ) (c : Cells) → AllBits c.registers → (s : Spot) (ps : List Passed) (ns : List ℕ) → PassedAll ws c ps ns
    → (n m : Count) (g : Found) → w s ps n ≡ Ok (g, m) → Made ws c g (f ns)

-- what is known where a body is walked covers where its run stands
pub record Knows (s : Sight) (ks : List KnownNumber) (v : meaning.Sight) : Type 0 where
  pub cells : AreCells s.widths (cells v.state)
  pub small : AllSmall s.widths
  pub numbers : AllKeep ks v.state.numbers
  pub constants : (r n : ℕ) → get_or s.constants r None ≡ Some n → num (get_or v.state.registers r []) ≡ n
  pub turns : s.turns ≡ v.turns
  pub calls : (k : ℕ) → CallAgrees (get_or s.walks k no_walk) (get_or v.functions k (λ ns. pos 0))

small_at : (ws : List ℕ) (r : ℕ) → AllSmall ws → get_or ws r 0 ≤ 2 ^ 127
small_at [] r h = omega arith
small_at (w ∷ ws) zero h = h.0
small_at (w ∷ ws) (suc r) h = small_at ws r h.1

keeps_at : (ks : List KnownNumber) (zs : List ℤ) (k : ℕ) → AllKeep ks zs → Keeps (get_or ks k (constant (pos 0))) (get_or zs k (pos 0))
keeps_at [] [] k h = (refl, record { small = lit< tt })
keeps_at [] (z ∷ zs) k h = absurd h
keeps_at (r ∷ ks) [] k h = absurd h
keeps_at (r ∷ ks) (z ∷ zs) zero h = h.0
keeps_at (r ∷ ks) (z ∷ zs) (suc k) h = keeps_at ks zs k h.1

variable_at : (zs : List ℤ) (k : ℕ) → get_or (map (residue 128) zs) k 0 ≡ residue 128 (get_or zs k (pos 0))
variable_at [] k = refl
variable_at (z ∷ zs) zero = refl
variable_at (z ∷ zs) (suc k) = variable_at zs k

variable-covers : (ws : List ℕ) (s : State) (k : ℕ) (r : KnownNumber) → Keeps r (get_or s.numbers k (pos 0)) → Made ws (cells s) (variable_found k r) (get_or s.numbers k (pos 0))
variable-covers ws s k (constant y) h = (h.0, refl)
variable-covers ws s k (varying i) h =
    (record { inside = h.0; ends = h.1; stands = record { bits = variable_at s.numbers k; wide = refl; formed = tt } }, refl)

-- ---- slices

abbrev SliceAt : Sight → meaning.Sight → Bool → ℕ → ℕ → ℕ → Found → Type 0
SliceAt s v g r low width f =
    Covers s.widths (cells v.state) f (read g (meaning.bits_from v.state r low width)) (Some (meaning.bits_from v.state r low width))

settled-slice : (s : Sight) (ks : List KnownNumber) (v : meaning.Sight) (g : Bool) (r : ℕ) (b : judging.Bits) (low width : ℕ) → Knows s ks v
    → low ≡ b.low → width ≡ b.width → 0 < b.width
    → SliceAt s v g r low width (slice_found g (get_or s.constants r None) r b)
settled-slice s ks v g r b low width h p q some =
    let t : SliceAt s v g r b.low b.width (slice_found g (get_or s.constants r None) r b) =
    slice_found-covers s.widths (cells v.state) g (get_or s.constants r None) r b h.cells.bits (h.constants r) some in
    subst (λ m. SliceAt s v g r m width (slice_found g (get_or s.constants r None) r b)) (sym p)
    (subst (λ m. SliceAt s v g r b.low m (slice_found g (get_or s.constants r None) r b)) (sym q) t)

element-covers : (s : Sight) (ks : List KnownNumber) (v : meaning.Sight) (place : Place) (g : Bool) (r size : ℕ) (k : ℤ) (i : Index) (n m : Count) (f : Found)
    → Knows s ks v → IndexIs s.widths (cells v.state) i k → element_at s place g r size i n ≡ Ok (f, m)
    → SliceAt s v g r (natural k * size) size f
element-covers s ks v place g r size k (settled y) n m f h e p =
    let b = bind_ok (bits_of_element place (get_or s.widths r 0) size y) _ p in
    let q = element-ok place (get_or s.widths r 0) size y b.0 b.1 in
    subst (SliceAt s v g r (natural k * size) size) (ap (λ q. q.0) (same_pair b.2))
    (settled-slice s ks v g r b.0 (natural k * size) size h (ap (λ z. natural z * size) e ∙ q.first) q.width q.some)
element-covers s ks v place g r size k (unsettled a) n m f h e p =
    let b = bind_ok (moving_slice place (get_or s.widths r 0) g r size size a) _ p in
    let q = moving_slice-covers s.widths (cells v.state) place (get_or s.widths r 0) g r size size k a b.0 h.cells.bits (small_at s.widths r h.small) (λ w. w) e b.1 in
    subst (SliceAt s v g r (natural k * size) size) (ap (λ q. q.0) (same_pair b.2)) q.1

spread-width : (low : ℤ) (n : ℕ) (b : judging.Bits) (all : ℕ) → IsPlace all (low +ℤ pos n) low b → b.width ≡ n + 1
spread-width low n b all q = sym q.width ∙ counted low n
  where
    counted : (low : ℤ) (n : ℕ) → count low (low +ℤ pos n) ≡ n + 1
    counted low n =
        let e : ((low +ℤ pos n) +ℤ negative low) +ℤ pos 1 ≡ pos (n + 1) = omega (arith, ints) in
        ap natural e

slice-covers : (s : Sight) (ks : List KnownNumber) (v : meaning.Sight) (place : Place) (g : Bool) (r : ℕ) (k : Option ℕ) (y z : ℤ) (i j : Index) (n m : Count) (f : Found)
    → Knows s ks v → IndexIs s.widths (cells v.state) i y → IndexIs s.widths (cells v.state) j z → slice_at s place g r k i j n ≡ Ok (f, m)
    → SliceAt s v g r (natural z) (meaning.slice_width k z y) f
slice-covers s ks v place g r (Some k) y z i (settled low) n m f h d e p =
    let b = bind_ok (bits_between place (get_or s.widths r 0) (low +ℤ pos k) low) _ p in
    let q = between-ok place (get_or s.widths r 0) (low +ℤ pos k) low b.0 b.1 in
    subst (SliceAt s v g r (natural z) (k + 1)) (ap (λ q. q.0) (same_pair b.2))
    (settled-slice s ks v g r b.0 (natural z) (k + 1) h (ap natural e ∙ q.first) (sym (spread-width low k b.0 (get_or s.widths r 0) q)) q.some)
slice-covers s ks v place g r (Some k) y z i (unsettled a) n m f h d e p =
    let b = bind_ok (moving_slice place (get_or s.widths r 0) g r 1 (k + 1) a) _ p in
    let q = moving_slice-covers s.widths (cells v.state) place (get_or s.widths r 0) g r 1 (k + 1) z a b.0 h.cells.bits (small_at s.widths r h.small) (λ w. omega arith) e b.1 in
    let one : natural z * 1 ≡ natural z = omega arith in
    subst (SliceAt s v g r (natural z) (k + 1)) (ap (λ q. q.0) (same_pair b.2)) (subst (λ w. SliceAt s v g r w (k + 1) b.0) one q.1)
slice-covers s ks v place g r None y z (settled high) (settled low) n m f h d e p =
    let b = bind_ok (bits_between place (get_or s.widths r 0) high low) _ p in
    let q = between-ok place (get_or s.widths r 0) high low b.0 b.1 in
    let w : count z y ≡ b.0.width = ap (λ x. count x y) e ∙ ap (count low) d ∙ q.width in
    subst (SliceAt s v g r (natural z) (count z y)) (ap (λ q. q.0) (same_pair b.2))
    (settled-slice s ks v g r b.0 (natural z) (count z y) h (ap natural e ∙ q.first) w q.some)
slice-covers s ks v place g r None y z (unsettled a) (settled low) n m f h d e p = absurd (cc)
slice-covers s ks v place g r None y z (settled high) (unsettled a) n m f h d e p = absurd (cc)
slice-covers s ks v place g r None y z (unsettled b) (unsettled a) n m f h d e p = absurd (cc)

-- ---- choices

abbrev Branch : Type 0
Branch = Operand × Count

abbrev branch_ok : Branch → Result Branch RangeFault
branch_ok b = Ok b

same_branch : {a b : Branch} → branch_ok a ≡ branch_ok b → a ≡ b
same_branch e = cc

-- a branch covers a value, however often it is judged
abbrev pub JudgeCovers : List ℕ → Cells → Judges → ℤ → Type 0
JudgeCovers ws c j z = (n m : Count) (f : Found) → j n ≡ Ok (f, m) → (b : Option Bits) × Covers ws c f z b

branch-holds : (ws : List ℕ) (c : Cells) (s : Spot) (j : Judges) (z : ℤ) (n : Count) (a : Branch) → AllBits c.registers → JudgeCovers ws c j z
    → branch s j n ≡ Ok a → Holds ws c a.0 z
branch-holds ws c s j z n a cs h e =
    let f = bind_ok (j n) _ e in
    let b = bind_ok (operand s f.0.0) _ f.2 in
    let k = h n f.0.1 f.0.0 f.1 in
    subst (λ x. Holds ws c x.0 z) (same_branch b.2) (operand-ok ws c s f.0.0 z k.0 b.0 cs b.1 k.1)

sel-stands : (ws : List ℕ) (c : Cells) (t x y : Word) (v : Bool) (a b : ℤ) → Tells ws c t v → StandsFor ws c x a → StandsFor ws c y b
    → StandsFor ws c (sel 128 t x y) (if v then a else b)
sel-stands ws c t x y true a b h s u = record {
  bits = rw h.bit s.bits;
  wide = refl;
  formed = ((lit< tt, omega arith), (h.wide, s.wide, u.wide), h.formed, s.formed, u.formed);
}
sel-stands ws c t x y false a b h s u = record {
  bits = rw h.bit u.bits;
  wide = refl;
  formed = ((lit< tt, omega arith), (h.wide, s.wide, u.wide), h.formed, s.formed, u.formed);
}

hull-in : (i j : Span) (v : Bool) (a b : ℤ) → In i a → In j b → In (hull i j) (if v then a else b)
hull-in i j true a b h k = hull-left i j a h
hull-in i j false a b h k = hull-right i j b k

other_choice : (b : Bool) (x y : ℤ) → (if not b then x else y) ≡ (if b then y else x)
other_choice true x y = refl
other_choice false x y = refl

chosen-covers : (ws : List ℕ) (c : Cells) (p q : Spot) (first second : Judges) (f g : Found) (a : Operand) (z x y : ℤ) (b : Option Bits) (n m : Count) → AllBits c.registers
    → Covers ws c f z b → Holds ws c a z → JudgeCovers ws c first x → JudgeCovers ws c second y
    → chosen p first q second f a n ≡ Ok (g, m) → Made ws c g (if int_eq z (pos 0) then y else x)
chosen-covers ws c p q first second f g (fixed w) z x y b n m cs k h j i e = elim (cases_Bool (int_eq w (pos 0))) [
  | inl t ↦
      let e' : (branch q second n >>= λ a. ok_pair (plain a.0, a.1)) ≡ Ok (g, m) = subst (λ v. ((if v then branch q second n else branch p first n) >>= λ a. ok_pair (plain a.0, a.1)) ≡ Ok (g, m)) t e in
      let r = bind_ok (branch q second n) _ e' in
      let o = branch-holds ws c q second y n r.0 cs i r.1 in
      rw (h.0, t) (subst (λ v. Made ws c v y) (ap (λ q. q.0) (same_pair r.2)) (plain-covers ws c r.0.0 y o))
  | inr t ↦
      let e' : (branch p first n >>= λ a. ok_pair (plain a.0, a.1)) ≡ Ok (g, m) = subst (λ v. ((if v then branch q second n else branch p first n) >>= λ a. ok_pair (plain a.0, a.1)) ≡ Ok (g, m)) t e in
      let r = bind_ok (branch p first n) _ e' in
      let o = branch-holds ws c p first x n r.0 cs j r.1 in
      rw (h.0, t) (subst (λ v. Made ws c v x) (ap (λ q. q.0) (same_pair r.2)) (plain-covers ws c r.0.0 x o))
]
chosen-covers ws c p q first second f g (moving u w) z x y b n m cs k h j i e =
    let r = bind_ok (branch p first n) _ e in
    let t = bind_ok (branch q second r.0.1) _ r.2 in
    let o = branch-holds ws c p first x n r.0 cs j r.1 in
    let o' = branch-holds ws c q second y r.0.1 t.0 cs i t.1 in
    let tells = condition-tells ws c f (moving u w) z b k h in
    let l = holds-in ws c r.0.0 x o in
    let l' = holds-in ws c t.0.0 y o' in
    let made : Found = within (hull (span_of r.0.0) (span_of t.0.0)) (sel 128 (condition f (moving u w)) (word_of r.0.0) (word_of t.0.0)) in
    let s : Made ws c made (if not (int_eq z (pos 0)) then x else y) = (
      record {
        inside = hull-in (span_of r.0.0) (span_of t.0.0) (not (int_eq z (pos 0))) x y l.0 l'.0;
        ends = hull_fits (span_of r.0.0) (span_of t.0.0) l.1 l'.1;
        stands = sel-stands ws c _ _ _ (not (int_eq z (pos 0))) x y tells (holds-stands ws c r.0.0 x o) (holds-stands ws c t.0.0 y o');
      },
      refl,
    ) in
    subst (λ v. Made ws c v (if int_eq z (pos 0) then y else x)) (ap (λ q. q.0) (same_pair t.2)) (subst (Made ws c made) (other_choice (int_eq z (pos 0)) x y) s)

-- ---- expressions

zero_times : (n : ℕ) → 0 ≡ 0 * n
zero_times n = omega arith

abbrev Passeds : Type 0
Passeds = List Passed × Count

abbrev passed_ok : Passeds → Result Passeds RangeFault
passed_ok p = Ok p

same_passed : {a b : Passeds} → passed_ok a ≡ passed_ok b → a ≡ b
same_passed e = cc

mutual
  pub judge-covers : (e : Expr) (s : Sight) (ks : List KnownNumber) (v : meaning.Sight) (n m : Count) (f : Found) → Knows s ks v
      → judge s ks e n ≡ Ok (f, m) → Covers s.widths (cells v.state) f (value v e) (bits_in v e)
  judge-covers (literal p k) s ks v n m f h e =
      subst (λ w. Made s.widths (cells v.state) w (pos k)) (ap (λ q. q.0) (same_pair e)) (refl, refl)
  judge-covers (counter p k) s ks v n m f h e =
      subst (λ w. Made s.widths (cells v.state) w (get_or v.turns k (pos 0))) (ap (λ q. q.0) (same_pair e)) (ap (λ ts. get_or ts k (pos 0)) (sym h.turns), refl)
  judge-covers (variable p k) s ks v n m f h e =
      subst (λ w. Made s.widths (cells v.state) w (get_or v.state.numbers k (pos 0))) (ap (λ q. q.0) (same_pair e))
      (variable-covers s.widths v.state k (get_or ks k (constant (pos 0))) (keeps_at ks v.state.numbers k h.numbers))
  judge-covers (slice p g r k x y) s ks v n m f h e =
      let a = bind_ok (judge s ks x n) _ e in
      let i = bind_ok (index_of (spot_of x) a.0.0) _ a.2 in
      let b = bind_ok (judge s ks y a.0.1) _ i.2 in
      let j = bind_ok (index_of (spot_of y) b.0.0) _ b.2 in
      let high = index-is s.widths (cells v.state) (spot_of x) a.0.0 (value v x) (bits_in v x) i.0 h.cells.bits i.1 (judge-covers x s ks v n a.0.1 a.0.0 h a.1) in
      let low = index-is s.widths (cells v.state) (spot_of y) b.0.0 (value v y) (bits_in v y) j.0 h.cells.bits j.1 (judge-covers y s ks v a.0.1 b.0.1 b.0.0 h b.1) in
      slice-covers s ks v p.inner g r k (value v x) (value v y) i.0 j.0 b.0.1 m f h high low j.2
  judge-covers (element p g r size k) s ks v n m f h e =
      let a = bind_ok (judge s ks k n) _ e in
      let i = bind_ok (index_of (spot_of k) a.0.0) _ a.2 in
      let index = index-is s.widths (cells v.state) (spot_of k) a.0.0 (value v k) (bits_in v k) i.0 h.cells.bits i.1 (judge-covers k s ks v n a.0.1 a.0.0 h a.1) in
      element-covers s ks v p.inner g r size (value v k) i.0 a.0.1 m f h index i.2
  judge-covers (front p g r width) s ks v n m f h e =
      let b = bind_ok (bits_of_element p.inner (get_or s.widths r 0) width (pos 0)) _ e in
      let q = element-ok p.inner (get_or s.widths r 0) width (pos 0) b.0 b.1 in
      subst (SliceAt s v g r 0 width) (ap (λ q. q.0) (same_pair b.2)) (settled-slice s ks v g r b.0 0 width h (zero_times width ∙ q.first) q.width q.some)
  judge-covers (unary p op x) s ks v n m f h e =
      let a = bind_ok (judge s ks x n) _ e in
      let b = bind_ok (unary_at p op (spot_of x) a.0.0) _ a.2 in
      subst (λ w. Made s.widths (cells v.state) w (value v (unary p op x))) (ap (λ q. q.0) (same_pair b.2))
      (unary_at-covers s.widths (cells v.state) p op (spot_of x) a.0.0 b.0 (value v x) (bits_in v x) h.cells.bits (judge-covers x s ks v n a.0.1 a.0.0 h a.1) b.1)
  judge-covers (binary p op x y) s ks v n m f h e =
      let a = bind_ok (judge s ks x n) _ e in
      let i = bind_ok (operand (spot_of x) a.0.0) _ a.2 in
      let b = bind_ok (judge s ks y a.0.1) _ i.2 in
      let j = bind_ok (operand (spot_of y) b.0.0) _ b.2 in
      let left = operand-ok s.widths (cells v.state) (spot_of x) a.0.0 (value v x) (bits_in v x) i.0 h.cells.bits i.1 (judge-covers x s ks v n a.0.1 a.0.0 h a.1) in
      let right = operand-ok s.widths (cells v.state) (spot_of y) b.0.0 (value v y) (bits_in v y) j.0 h.cells.bits j.1 (judge-covers y s ks v a.0.1 b.0.1 b.0.0 h b.1) in
      binary_at-covers s.widths (cells v.state) p op (spot_of y) i.0 j.0 (value v x) (value v y) b.0.1 m f left right j.2
  judge-covers (choice p c x y) s ks v n m f h e =
      let a = bind_ok (judge s ks c n) _ e in
      let i = bind_ok (operand (spot_of c) a.0.0) _ a.2 in
      let k = judge-covers c s ks v n a.0.1 a.0.0 h a.1 in
      let o = operand-ok s.widths (cells v.state) (spot_of c) a.0.0 (value v c) (bits_in v c) i.0 h.cells.bits i.1 k in
      chosen-covers s.widths (cells v.state) (spot_of x) (spot_of y) (judge s ks x) (judge s ks y) a.0.0 f i.0 (value v c) (value v x) (value v y) (bits_in v c) a.0.1 m h.cells.bits k o
      (λ u w g q. (bits_in v x, judge-covers x s ks v u w g h q)) (λ u w g q. (bits_in v y, judge-covers y s ks v u w g h q)) i.2
  judge-covers (call p k xs) s ks v n m f h e =
      let d = bind_ok (step p.inner n) _ e in
      let g = bind_ok (judge_all s ks xs d.0) _ d.2 in
      h.calls k s.widths (cells v.state) h.cells.bits p g.0.0 (numbers_handed v xs) (all-passed xs s ks v d.0 g.0.1 g.0.0 h g.1) g.0.1 m f g.2

  pub all-passed : (xs : Arguments) (s : Sight) (ks : List KnownNumber) (v : meaning.Sight) (n m : Count) (ps : List Passed) → Knows s ks v
      → judge_all s ks xs n ≡ Ok (ps, m) → PassedAll s.widths (cells v.state) ps (numbers_handed v xs)
  all-passed end s ks v n m ps h e =
      subst (λ w. PassedAll s.widths (cells v.state) w []) (ap (λ q. q.0) (same_passed e)) tt
  all-passed (more x xs) s ks v n m ps h e =
      let a = bind_ok (judge s ks x n) _ e in
      let p = bind_ok (passed (spot_of x) a.0.0) _ a.2 in
      let r = bind_ok (judge_all s ks xs a.0.1) _ p.2 in
      let first = passed-is s.widths (cells v.state) (spot_of x) a.0.0 (value v x) (bits_in v x) p.0 h.cells.bits p.1 (judge-covers x s ks v n a.0.1 a.0.0 h a.1) in
      subst (λ w. PassedAll s.widths (cells v.state) w (numbers_handed v (more x xs))) (ap (λ q. q.0) (same_passed r.2))
      (first, all-passed xs s ks v a.0.1 r.0.1 r.0.0 h r.1)
