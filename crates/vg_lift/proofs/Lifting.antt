-- The state that a script leaves stands for the cells that it leaves, and the term of a lane for the lane.
use Rattle.std.proofs.Common.{◌≡◌, ℕ, ◌+◌, ◌/◌, ◌%◌, ◌^◌, ◌<◌, ◌≤◌, refl, sym, ap, ◌∙◌, subst, arith, inl, inr, Bool, true, false, lit<, List, [], ◌∷◌, get_or, set, length, div-one}
use Rattle.std.specs.Prelude.{nat_eq, if◌then◌else◌, map}
use Rattle.std.proofs.lemmas.List.{length-map, map-set, length-set}
use Rattle.std.proofs.lemmas.Bool.{ne_eqb, lt-ltb, cases_lt, le-ltb}
use Rattle.std.proofs.Math.Nat.{mod-eq_of_lt}
use Rattle.vg_base.specs.Bits.{bits, num}
use Rattle.vg_base.specs.Number.{residue}
use Rattle.vg_base.proofs.Bits.{num-bits}
use Rattle.vg_bits.specs.Range.{range}
use Rattle.vg_terms.specs.declared.value.Env.{Env}
use Rattle.vg_terms.specs.declared.term.OneOp.{OneOp}
use Rattle.vg_terms.specs.declared.term.TwoOp.{TwoOp}
use Rattle.vg_terms.specs.declared.term.TwoOp.TheVariants.{Eq}
use Rattle.vg_terms.specs.Term.{Tree, constant, one, two, width_of, IsWidth, TwoFits, OneFits}
use Rattle.vg_terms.specs.Value.{value, one_value, two_value}
use Rattle.vg_terms.specs.Resize.{low}
use Rattle.vg_terms.proofs.Resizing.{low-width, low-formed}
use Rattle.vg_terms.proofs.Values.{value-below}
use Rattle.vg_shapes.specs.Registers.{Reads, AllBits}
use Rattle.vg_script.specs.Script.{Word, Low, at, held, Frame, frame, Given, nothing, number, moved, Script, stop, put, fill, copy, copy_from, give, both, branch, way, last, pick, arm}
use Rattle.vg_script.specs.Script as word
use Rattle.vg_script.specs.Cells.{Cells, word_value, behind, numbers_given, bits_read, absolute_value, after, after_arm}
use Rattle.vg_script.specs.Formed.{Formed, FrameFormed, GivenFormed, ScriptFormed, frame_widths}
use Rattle.vg_lift.specs.Gather.{bits_from, gather}
use Rattle.vg_lift.specs.LaneTerm.{State, part, absolute_term, term, left_by, passed, lifted, lifted_arm}
use Rattle.vg_range_laws.specs.Static.{IsStaticWord, IsStaticFrame, IsStaticGiven, IsStatic}
use Rattle.vg_lift.proofs.Stands.{bit_value, BitsFormed}
use Rattle.vg_lift.proofs.Joining.{bits_from-value, length-bits_from, bits_from-formed}
use Rattle.vg_lift.proofs.Holding.{Lifting, Gathered, slice-bits, slice-formed, joined-lifts, puts-lifts, low-bits, set-terms, pieces-value, length-pieces, pieces-formed, variable_value, variable_formed}
use Rattle.vg_lift.proofs.Holding as holding
use Rattle.vg_lift.proofs.Gathering.{gather-value, gather-width, gather-formed}
use Rattle.vg_lift.proofs.Entering.{AllPassed, begun-lifts, values-bits, padded-value, padded-long, padded-formed}
use Rattle.vg_bits.specs.BitList.{IsBits}
use Rattle.vg_bits.proofs.BitLists.{num-range_below}

-- ---- how many variables there are

choice-length : (t : Bool) (a b c : Cells) → length a.variables ≡ length c.variables → length b.variables ≡ length c.variables → length (if t then a else b).variables ≡ length c.variables
choice-length true a b c p q = p
choice-length false a b c p q = q

mutual
  after-length : (t : Script) (c : Cells) → length (after t c).variables ≡ length c.variables
  after-length stop c = refl
  after-length (put r l w x) c = refl
  after-length (fill r l w z) c = refl
  after-length (copy r l w q m) c = refl
  after-length (copy_from r l w f q m) c = refl
  after-length (give k x) c = length-set c.variables k (word_value c x)
  after-length (both s t) c = after-length t (after s c) ∙ after-length s c
  after-length (branch ways) c = after-length ways c
  after-length (way x s ways) c = choice-length (nat_eq (word_value c x) 1) (after s c) (after ways c) c (after-length s c) (after-length ways c)
  after-length (last s) c = after-length s c
  after-length (pick x arms) c = arm-length (word_value c x) arms c
  after-length (arm n s arms) c = refl

  arm-length : (v : ℕ) (t : Script) (c : Cells) → length (after_arm v t c).variables ≡ length c.variables
  arm-length v (arm n s arms) c = choice-length (nat_eq v n) (after s c) (after_arm v arms c) c (after-length s c) (arm-length v arms c)
  arm-length v stop c = refl
  arm-length v (put r l w x) c = refl
  arm-length v (fill r l w z) c = refl
  arm-length v (copy r l w q m) c = refl
  arm-length v (copy_from r l w f q m) c = refl
  arm-length v (give k x) c = refl
  arm-length v (both s t) c = refl
  arm-length v (branch ways) c = refl
  arm-length v (way x s ways) c = refl
  arm-length v (last s) c = refl
  arm-length v (pick x arms) c = refl

-- ---- operations

wide : IsWidth 128
wide = (lit< tt, omega arith)

absolute-lifts : (env : Env) (t : Tree) (v : ℕ) → Gathered env t 128 v → Gathered env (absolute_term t) 128 (absolute_value v)
absolute-lifts env t v p = record {
  same = ap absolute_value p.same;
  formed = (wide, (p.width, refl), p.formed, (wide, (p.width, refl), p.formed, (wide, lit< tt)));
  width = refl;
}

one-lifts : (env : Env) (op : OneOp) (w k m : ℕ) (t : Tree) (v : ℕ) → IsWidth w → OneFits op w k m → Gathered env t m v
    → Gathered env (one op w k t) w (one_value op w k m v)
one-lifts env op w k m t v i f p = record {
  same = ap (λ n. one_value op w k n (value env t)) p.width ∙ ap (one_value op w k m) p.same;
  formed = (i, subst (OneFits op w k) (sym p.width) f, p.formed);
  width = refl;
}

two-lifts : (env : Env) (op : TwoOp) (w m n : ℕ) (t u : Tree) (a b : ℕ) → IsWidth w → TwoFits op w m n → Gathered env t m a → Gathered env u n b
    → Gathered env (two op w t u) w (two_value op w n a b)
two-lifts env op w m n t u a b i f p q = record {
  same = ap (λ k. two_value op w k (value env t) (value env u)) q.width ∙ ap (λ v. two_value op w n v (value env u)) p.same ∙ ap (two_value op w n a) q.same;
  formed = (i, subst (λ k. TwoFits op w k (width_of u)) (sym p.width) (subst (TwoFits op w m) (sym q.width) f), p.formed, q.formed);
  width = refl;
}

one_or_not : (t : Bool) → nat_eq (if t then 1 else 0) 1 ≡ t
one_or_not true = refl
one_or_not false = refl

number-lifts : (env : Env) (n : ℕ) → n < 2 ^ 128 → Gathered env (constant 128 n) 128 n
number-lifts env n h = record { same = refl; formed = (wide, h); width = refl }

below-wide : (env : Env) (t : Tree) (v : ℕ) → Gathered env t 128 v → v < 2 ^ 128
below-wide env t v p = subst (λ u. u < 2 ^ 128) p.same (subst (λ w. value env t < 2 ^ w) p.width (value-below env t p.formed))

not_number : (n v : ℕ) → v < 2 ^ 128 → 2 ^ 128 ≤ n → nat_eq v n ≡ false
not_number n v h g = ne_eqb v n (λ e. absurd (omega (arith, e)))

taken-else : {A : Type 0} (t : Bool) (a b : A) → t ≡ false → (if t then a else b) ≡ b
taken-else true a b e = absurd (cc)
taken-else false a b e = refl

-- the bits of a term of 128 bits have its number
whole-bits : (env : Env) (ps : List (List ℕ)) (t : Tree) (v : ℕ) → Gathered env t 128 v → num (map (bit_value env ps) (bits_from t 0 128)) ≡ v
whole-bits env ps t v p =
    ap num (bits_from-value env ps t 0 128) ∙ num-bits 128 (value env t / 2 ^ 0) ∙ ap (λ n. n % 2 ^ 128) (div-one (value env t) ∙ p.same) ∙ mod-eq_of_lt (below-wide env t v p)

whole-formed : (env : Env) (ps : List (List ℕ)) (t : Tree) (v : ℕ) → Gathered env t 128 v → BitsFormed ps (bits_from t 0 128)
whole-formed env ps t v p = bits_from-formed ps t 0 128 p.formed (omega (arith, p.width))

-- ---- so many bits of a register from a bit on

part-bits : (env : Env) (ps : List (List ℕ)) (ws : List ℕ) (s : State) (c : Cells) (q n w : ℕ) → AllBits ps → Lifting env ps ws s c
    → map (bit_value env ps) (part n w (get_or s.registers q [])) ≡ bits w (bits_read c q n w)
part-bits env ps ws s c q n w b h =
    padded-value env ps w (range n w (get_or s.registers q [])) b ∙ ap (λ k. bits w (num k)) (slice-bits env ps ws s c q n w h)

part-long : (s : State) (q n w : ℕ) → length (part n w (get_or s.registers q [])) ≡ w
part-long s q n w = padded-long w (range n w (get_or s.registers q []))

part-formed : (env : Env) (ps : List (List ℕ)) (ws : List ℕ) (s : State) (c : Cells) (q n w : ℕ) → Lifting env ps ws s c
    → BitsFormed ps (part n w (get_or s.registers q []))
part-formed env ps ws s c q n w h = padded-formed ps w (range n w (get_or s.registers q [])) (slice-formed env ps ws s c q n w h)

-- the number that is read has the bits of a slice
read-below : (env : Env) (ps : List (List ℕ)) (ws : List ℕ) (s : State) (c : Cells) (q n w : ℕ) → AllBits ps → Lifting env ps ws s c → bits_read c q n w < 2 ^ w
read-below env ps ws s c q n w b h =
    let same = sym (holding.at (bit_value env ps) s.registers q) ∙ ap (λ v. get_or v q []) h.registers in
    num-range_below n w (get_or c.registers q []) (subst IsBits same (values-bits env ps (get_or s.registers q []) b))

part-lifts : (env : Env) (ps : List (List ℕ)) (ws : List ℕ) (s : State) (c : Cells) (q n w : ℕ) → Reads env ps → AllBits ps → Lifting env ps ws s c → IsWidth w
    → Gathered env (gather (part n w (get_or s.registers q []))) w (bits_read c q n w)
part-lifts env ps ws s c q n w reads b h i =
    let bs = part n w (get_or s.registers q []) in
    let good = part-formed env ps ws s c q n w h in
    let long = part-long s q n w in
    record {
      same = gather-value env ps bs reads good ∙ ap num (part-bits env ps ws s c q n w b h) ∙ num-bits w (bits_read c q n w)
          ∙ mod-eq_of_lt (read-below env ps ws s c q n w b h);
      formed = gather-formed ps bs good (omega (arith, i.0, long)) (omega (arith, i.1, long));
      width = gather-width bs ∙ long;
    }

-- ---- words and statements

mutual
  pub term-lifts : (env : Env) (ps : List (List ℕ)) (ws : List ℕ) (s : State) (c : Cells) (x : Word) → Reads env ps → AllBits ps → Lifting env ps ws s c → Formed x → IsStaticWord x
      → Gathered env (term s x) (word.width_of x) (word_value c x)
  term-lifts env ps ws s c (word.constant w v) reads b h f e = record { same = refl; formed = f; width = refl }
  term-lifts env ps ws s c (word.slice r (at l) w) reads b h f e = part-lifts env ps ws s c r l w reads b h f.0
  term-lifts env ps ws s c (word.slice r (held x) w) reads b h f e = absurd e
  term-lifts env ps ws s c (word.variable k) reads b h f e = record {
    same = sym (variable_value env s.variables k) ∙ ap (λ v. get_or v k 0) h.variables;
    formed = (variable_formed s.variables k h.terms).0;
    width = (variable_formed s.variables k h.terms).1;
  }
  term-lifts env ps ws s c (word.one op w k x) reads b h f e = one-lifts env op w k (word.width_of x) (term s x) (word_value c x) f.0 f.1 (term-lifts env ps ws s c x reads b h f.2 e)
  term-lifts env ps ws s c (word.two op w x y) reads b h f e =
      two-lifts env op w (word.width_of x) (word.width_of y) (term s x) (term s y) (word_value c x) (word_value c y) f.0 f.1
      (term-lifts env ps ws s c x reads b h f.2 e.0) (term-lifts env ps ws s c y reads b h f.3 e.1)
  term-lifts env ps ws s c (word.sel w t x y) reads b h f e =
      let o = term-lifts env ps ws s c t reads b h f.2 e.0 in
      let p = term-lifts env ps ws s c x reads b h f.3 e.1 in
      let q = term-lifts env ps ws s c y reads b h f.4 e.2 in
      record {
        same = rw (o.same, p.same, q.same) refl;
        formed = (f.0, (o.width ∙ (f.1).0, p.width ∙ (f.1).1, q.width ∙ (f.1).2), o.formed, p.formed, q.formed);
        width = refl;
      }
  term-lifts env ps ws s c (word.absolute x) reads b h f e =
      absolute-lifts env (term s x) (word_value c x) (subst (λ w. Gathered env (term s x) w (word_value c x)) f.0 (term-lifts env ps ws s c x reads b h f.1 e))
  term-lifts env ps ws s c (word.shift_left x n) reads b h f e = absurd e
  term-lifts env ps ws s c (word.shift_right x n) reads b h f e = absurd e
  term-lifts env ps ws s c (word.block f x) reads b h g e =
      term-lifts env ps (frame_widths f) (left_by s f) (behind c f) x reads b (left-lifts env ps ws s c f reads b h g.0 e.0) g.1 e.1

  left-lifts : (env : Env) (ps : List (List ℕ)) (ws : List ℕ) (s : State) (c : Cells) (f : Frame) → Reads env ps → AllBits ps → Lifting env ps ws s c → FrameFormed f → IsStaticFrame f
      → Lifting env ps (frame_widths f) (left_by s f) (behind c f)
  left-lifts env ps ws s c (frame vs n g t) reads b h f e =
      lifted-lifts t env ps vs _ _ reads b f.1 e.1 (begun-lifts env ps vs n (passed s g) (numbers_given c g) b (given-lifts env ps ws s c g vs reads b h f.0 e.0))

  given-lifts : (env : Env) (ps : List (List ℕ)) (ws : List ℕ) (s : State) (c : Cells) (g : Given) (vs : List ℕ) → Reads env ps → AllBits ps → Lifting env ps ws s c → GivenFormed g → IsStaticGiven g
      → AllPassed env ps vs (passed s g) (numbers_given c g)
  given-lifts env ps ws s c nothing [] reads b h f e = tt
  given-lifts env ps ws s c nothing (v ∷ vs) reads b h f e = tt
  given-lifts env ps ws s c (word.word x g) [] reads b h f e = tt
  given-lifts env ps ws s c (word.word x g) (v ∷ vs) reads b h f e =
      let p = subst (λ w. Gathered env (term s x) w (word_value c x)) f.0 (term-lifts env ps ws s c x reads b h f.1 e.0) in
      ((whole-formed env ps (term s x) (word_value c x) p, whole-bits env ps (term s x) (word_value c x) p), given-lifts env ps ws s c g vs reads b h f.2 e.1)
  given-lifts env ps ws s c (number n g) [] reads b h f e = tt
  given-lifts env ps ws s c (number n g) (v ∷ vs) reads b h f e = (refl, given-lifts env ps ws s c g vs reads b h f e)
  given-lifts env ps ws s c (moved r (at l) m g) [] reads b h f e = tt
  given-lifts env ps ws s c (moved r (at l) m g) (v ∷ vs) reads b h f e =
      ((slice-formed env ps ws s c r l m h, ap num (slice-bits env ps ws s c r l m h)), given-lifts env ps ws s c g vs reads b h f.1 e.1)
  given-lifts env ps ws s c (moved r (held x) m g) vs reads b h f e = absurd e.0

  pub lifted-lifts : (t : Script) (env : Env) (ps : List (List ℕ)) (ws : List ℕ) (s : State) (c : Cells) → Reads env ps → AllBits ps → ScriptFormed ws t → IsStatic t → Lifting env ps ws s c
      → Lifting env ps ws (lifted t s) (after t c)
  lifted-lifts stop env ps ws s c reads b f e h = h
  lifted-lifts (put r m w x) env ps ws s c reads b f e h =
      let p = term-lifts env ps ws s c x reads b h f.3 e in
      let inside : w ≤ width_of (term s x) = omega (arith, p.width, f.2, (f.0).1) in
      puts-lifts env ps ws s c r m w _ _ h f.1 (length-bits_from _ 0 w)
      (bits_from-formed ps (low w (term s x)) 0 w (low-formed w (term s x) (f.0).0 inside p.formed) (omega (arith, low-width w (term s x))))
      (bits_from-value env ps (low w (term s x)) 0 w ∙ low-bits env w (term s x) inside p.formed ∙ ap (bits w) p.same)
  lifted-lifts (fill r m w z) env ps ws s c reads b f e h =
      puts-lifts env ps ws s c r m w _ _ h f.1 (length-pieces w (residue w z) 0 w) (pieces-formed ps w (residue w z) 0 w (omega arith))
      (pieces-value env ps w (residue w z) 0 w (omega arith) ∙ ap (bits w) (div-one (residue w z)))
  lifted-lifts (copy r m w q (at n)) env ps ws s c reads b f e h =
      puts-lifts env ps ws s c r m w _ _ h f.1 (part-long s q n w) (part-formed env ps ws s c q n w h) (part-bits env ps ws s c q n w b h)
  lifted-lifts (copy r m w q (held x)) env ps ws s c reads b f e h = absurd e
  lifted-lifts (copy_from r m w g q (at n)) env ps ws s c reads b f e h =
      let left = left-lifts env ps ws s c g reads b h f.2 e.0 in
      puts-lifts env ps ws s c r m w _ _ h f.1 (part-long (left_by s g) q n w)
      (part-formed env ps (frame_widths g) (left_by s g) (behind c g) q n w left)
      (part-bits env ps (frame_widths g) (left_by s g) (behind c g) q n w b left)
  lifted-lifts (copy_from r m w g q (held x)) env ps ws s c reads b f e h = absurd e.1
  lifted-lifts (give k x) env ps ws s c reads b f e h =
      let p = term-lifts env ps ws s c x reads b h f.1 e in
      record {
        registers = h.registers;
        variables = map-set (value env) s.variables k (term s x) ∙ ap (set (map (value env) s.variables) k) p.same ∙ ap (λ v. set v k (word_value c x)) h.variables;
        bits = h.bits;
        terms = set-terms s.variables k (term s x) h.terms p.formed (p.width ∙ f.0);
        widths = h.widths;
      }
  lifted-lifts (both x y) env ps ws s c reads b f e h =
      lifted-lifts y env ps ws (lifted x s) (after x c) reads b f.1 e.1 (lifted-lifts x env ps ws s c reads b f.0 e.0 h)
  lifted-lifts (branch ways) env ps ws s c reads b f e h = lifted-lifts ways env ps ws s c reads b f e h
  lifted-lifts (way x t ways) env ps ws s c reads b f e h =
      let p = term-lifts env ps ws s c x reads b h f.1 e.0 in
      joined-lifts env ps ws (term s x) (nat_eq (word_value c x) 1) (lifted t s) (lifted ways s) (after t c) (after ways c) reads b p.formed (p.width ∙ f.0)
      (ap (λ v. nat_eq v 1) p.same) (after-length t c ∙ sym (after-length ways c))
      (lifted-lifts t env ps ws s c reads b f.2 e.1 h) (lifted-lifts ways env ps ws s c reads b f.3 e.2 h)
  lifted-lifts (last t) env ps ws s c reads b f e h = lifted-lifts t env ps ws s c reads b f e h
  lifted-lifts (pick x arms) env ps ws s c reads b f e h =
      arms-lifts arms env ps ws s c (term s x) (word_value c x) reads b f.2 e.1 h (subst (λ w. Gathered env (term s x) w (word_value c x)) f.0 (term-lifts env ps ws s c x reads b h f.1 e.0))
  lifted-lifts (arm n t arms) env ps ws s c reads b f e h = h

  arms-lifts : (t : Script) (env : Env) (ps : List (List ℕ)) (ws : List ℕ) (s : State) (c : Cells) (x : Tree) (v : ℕ) → Reads env ps → AllBits ps → ScriptFormed ws t → IsStatic t → Lifting env ps ws s c
      → Gathered env x 128 v → Lifting env ps ws (lifted_arm x t s) (after_arm v t c)
  arms-lifts (arm n t arms) env ps ws s c x v reads b f e h p =
      let rest = arms-lifts arms env ps ws s c x v reads b f.1 e.1 h p in
      elim (cases_lt n (2 ^ 128)) [
        | inl small ↦ rw (lt-ltb n (2 ^ 128) small) (
            let q = two-lifts env Eq 1 128 128 x (constant 128 n) v n (lit< tt, omega arith) (refl, refl) p (number-lifts env n small) in
            joined-lifts env ps ws (two Eq 1 x (constant 128 n)) (nat_eq v n) (lifted t s) (lifted_arm x arms s) (after t c) (after_arm v arms c) reads b q.formed refl
            (ap (λ u. nat_eq u 1) q.same ∙ one_or_not (nat_eq v n)) (after-length t c ∙ sym (arm-length v arms c))
            (lifted-lifts t env ps ws s c reads b f.0 e.0 h) rest)
        | inr large ↦ rw (le-ltb n (2 ^ 128) large) (
            subst (Lifting env ps ws (lifted_arm x arms s)) (sym (taken-else (nat_eq v n) (after t c) (after_arm v arms c) (not_number n v (below-wide env x v p) large))) rest)
      ]
  arms-lifts stop env ps ws s c x v reads b f e h p = h
  arms-lifts (put r l w y) env ps ws s c x v reads b f e h p = h
  arms-lifts (fill r l w z) env ps ws s c x v reads b f e h p = h
  arms-lifts (copy r l w q m) env ps ws s c x v reads b f e h p = h
  arms-lifts (copy_from r l w g q m) env ps ws s c x v reads b f e h p = h
  arms-lifts (give k y) env ps ws s c x v reads b f e h p = h
  arms-lifts (both t u) env ps ws s c x v reads b f e h p = h
  arms-lifts (branch ways) env ps ws s c x v reads b f e h p = h
  arms-lifts (way y t ways) env ps ws s c x v reads b f e h p = h
  arms-lifts (last t) env ps ws s c x v reads b f e h p = h
  arms-lifts (pick y arms) env ps ws s c x v reads b f e h p = h
