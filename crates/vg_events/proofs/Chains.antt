-- An access of several bytes is the accesses of its bytes, traps included.
use Rattle.std.proofs.Common.{◌≡◌, ℕ, suc, ◌+◌, ◌*◌, ◌<◌, ◌≤◌, ℤ, pos, negsuc, true, false, cond, List, [], ◌∷◌, ◌++◌, length, Option, Some, None, refl, sym, ap, subst, ◌∙◌, inl, inr, arith, length-append}
use Rattle.std.specs.Prelude.{nat_le, nat_eq}
use Rattle.std.proofs.lemmas.Bool.{cases_Bool, cond-true, cond-false, leb-true, leb-false, eq-eqb, eqb-true}
use Rattle.vg_base.specs.Trap.{◌>>=◌}
use Rattle.vg_base.specs.Bits.{number}
use Rattle.vg_base.specs.Memory.{loaded, stored}
use Rattle.vg_order_laws.specs.Steps.{seen}
use Rattle.vg_bits.specs.Range.{range, replaced}
use Rattle.vg_bits.proofs.Ranges.{length-replaced, length-range, range-append, replaced-append}
use Rattle.vg_order_laws.proofs.Accesses.{loaded-inside, loaded-outside, stored-inside, stored-outside}
use Rattle.vg_order_laws.proofs.Runs.{went_well}
use Rattle.vg_order_laws.proofs.Sequences.{bind_same}
use Rattle.vg_events.specs.Steps.{chain}

pub bind_some : {A : Type 0} (o : Option A) → (o >>= λ x. Some x) ≡ o
bind_some (Some x) = refl
bind_some None = refl

-- ---- stores

outside-behind : (m : List ℕ) (a : ℕ) (xs : List ℕ) (b : ℕ) (ys : List ℕ) → length m < b + length ys → (stored m (pos a) xs >>= λ s. stored s (pos b) ys) ≡ None
outside-behind m a xs b ys h = elim (cases_Bool (nat_le (a + length xs) (length m))) [
  | inl t ↦
      let inside = leb-true _ _ t in
      ap (λ o. o >>= λ s. stored s (pos b) ys) (stored-inside m a xs inside)
      ∙ stored-outside (replaced a xs m) b ys (let same = length-replaced a xs m inside in omega arith)
  | inr f ↦ ap (λ o. o >>= λ s. stored s (pos b) ys) (stored-outside m a xs (leb-false _ _ f))
]

two-stores : (m : List ℕ) (a : ℕ) (xs ys : List ℕ) → (stored m (pos a) xs >>= λ s. stored s (pos (a + length xs)) ys) ≡ stored m (pos a) (xs ++ ys)
two-stores m a xs ys = elim (cases_Bool (nat_le (a + length xs + length ys) (length m))) [
  | inl t ↦
      let h = leb-true _ _ t in
      let first : a + length xs ≤ length m = omega arith in
      let both : a + length (xs ++ ys) ≤ length m = omega (arith, length-append xs ys) in
      let same = length-replaced a xs m first in
      ap (λ o. o >>= λ s. stored s (pos (a + length xs)) ys) (stored-inside m a xs first)
      ∙ stored-inside (replaced a xs m) (a + length xs) ys (omega arith)
      ∙ ap Some (sym (replaced-append a xs ys m h))
      ∙ sym (stored-inside m a (xs ++ ys) both)
  | inr f ↦
      let out = leb-false _ _ f in
      let both : length m < a + length (xs ++ ys) = omega (arith, length-append xs ys) in
      outside-behind m a xs (a + length xs) ys out ∙ sym (stored-outside m a (xs ++ ys) both)
]

pub chain-stored : (at : ℤ) (b : ℕ) (bs m : List ℕ) → chain true at (b ∷ bs) m ≡ stored m at (b ∷ bs)
unfolding chain
chain-stored (negsuc a) b bs m = refl
chain-stored (pos a) b [] m = bind_some (stored m (pos a) (b ∷ []))
chain-stored (pos a) b (c ∷ cs) m =
    bind_same (stored m (pos a) (b ∷ [])) _ _ (λ s. chain-stored (pos (a + 1)) c cs s)
    ∙ two-stores m a (b ∷ []) (c ∷ cs)

-- ---- loads

pub was-inside : (m : List ℕ) (a n : ℕ) (bs : List ℕ) → loaded m (pos a) n ≡ Some bs → (a + n ≤ length m) × (bs ≡ range a n m)
was-inside m a n bs e = elim (cases_Bool (nat_le (a + n) (length m))) [
  | inl t ↦ let h = leb-true _ _ t in (h, (let same : Some (range a n m) ≡ Some bs = sym (loaded-inside m a n h) ∙ e in cc))
  | inr f ↦ absurd (let none : None ≡ Some bs = sym (loaded-outside m a n (leb-false _ _ f)) ∙ e in cc)
]

number-one : (b : ℕ) → number (b ∷ []) ≡ b
unfolding number
number-one b = omega arith

-- a byte that is read is seen, and one that is seen is read
seen-read : (m : List ℕ) (at : ℤ) (b : ℕ) → loaded m at 1 ≡ Some (b ∷ []) → seen m at 1 b ≡ Some m
seen-read m at b e = ap (λ o. o >>= λ read. cond (nat_eq (number read) b) (Some m) None) e ∙ cond-true _ _ _ (eq-eqb _ _ (number-one b))

one-long : (l : List ℕ) → length l ≡ 1 → l ≡ number l ∷ []
unfolding number
one-long [] h = cc
one-long (x ∷ []) h = let e : x ≡ x + 256 * 0 = omega arith in ap (λ n. n ∷ []) e
one-long (x ∷ y ∷ l) h = absurd (omega arith)

read-seen : (m : List ℕ) (a b : ℕ) (t : List ℕ) → seen m (pos a) 1 b ≡ Some t → (t ≡ m) × (loaded m (pos a) 1 ≡ Some (b ∷ []))
read-seen m a b t e =
    let went = went_well (loaded m (pos a) 1) _ e in
    let got = was-inside m a 1 went.0 went.1 in
    let long : length went.0 ≡ 1 = ap length got.1 ∙ length-range a 1 m got.0 in
    elim (cases_Bool (nat_eq (number went.0) b)) [
      | inl y ↦
          let is : number went.0 ≡ b = eqb-true _ _ y in
          let kept : Some m ≡ Some t = sym (cond-true _ _ _ y) ∙ went.2 in
          ((let same : m ≡ t = cc in sym same), went.1 ∙ ap Some (one-long went.0 long ∙ ap (λ n. n ∷ []) is))
      | inr n ↦ absurd (let none : None ≡ Some t = sym (cond-false _ _ _ n) ∙ went.2 in cc)
    ]

-- a load is one of its first byte and one of the rest
load-parts : (m : List ℕ) (a b n : ℕ) (bs : List ℕ) → loaded m (pos a) (suc n) ≡ Some (b ∷ bs) → (loaded m (pos a) 1 ≡ Some (b ∷ [])) × (loaded m (pos (a + 1)) n ≡ Some bs)
load-parts m a b n bs e =
    let got = was-inside m a (suc n) (b ∷ bs) e in
    let split : b ∷ bs ≡ range a 1 m ++ range (a + 1) n m = got.1 ∙ ap (λ k. range a k m) (let k : suc n ≡ 1 + n = omega arith in k) ∙ range-append a 1 n m in
    let first = one-long (range a 1 m) (length-range a 1 m (omega (arith, got.0))) in
    let joined : b ∷ bs ≡ number (range a 1 m) ∷ range (a + 1) n m = split ∙ ap (λ l. l ++ range (a + 1) n m) first in
    let head : b ≡ number (range a 1 m) = cc in
    let rest : bs ≡ range (a + 1) n m = cc in (
      loaded-inside m a 1 (omega (arith, got.0)) ∙ ap Some (first ∙ ap (λ k. k ∷ []) (sym head)),
      loaded-inside m (a + 1) n (omega (arith, got.0)) ∙ ap Some (sym rest),
    )

parts-load : (m : List ℕ) (a b n : ℕ) (bs : List ℕ) → loaded m (pos a) 1 ≡ Some (b ∷ []) → loaded m (pos (a + 1)) n ≡ Some bs → loaded m (pos a) (suc n) ≡ Some (b ∷ bs)
parts-load m a b n bs e g =
    let one = was-inside m a 1 (b ∷ []) e in
    let others = was-inside m (a + 1) n bs g in
    loaded-inside m a (suc n) (omega (arith, others.0))
    ∙ ap Some (ap (λ k. range a k m) (let k : suc n ≡ 1 + n = omega arith in k) ∙ range-append a 1 n m ∙ (λ i. sym one.1 i ++ sym others.1 i))

-- bytes that are loaded are seen one after the other
pub chain-loaded : (at : ℤ) (b : ℕ) (bs m : List ℕ) → loaded m at (suc (length bs)) ≡ Some (b ∷ bs) → chain false at (b ∷ bs) m ≡ Some m
unfolding chain
chain-loaded (negsuc a) b bs m e = absurd (cc)
chain-loaded (pos a) b [] m e =
    ap (λ o. o >>= λ s. Some s) (seen-read m (pos a) b e)
chain-loaded (pos a) b (c ∷ cs) m e =
    let parts = load-parts m a b (length (c ∷ cs)) (c ∷ cs) e in
    ap (λ o. o >>= chain false (pos (a + 1)) (c ∷ cs)) (seen-read m (pos a) b parts.0)
    ∙ chain-loaded (pos (a + 1)) c cs m parts.1

-- and bytes that are seen one after the other are loaded
pub loaded-chain : (at : ℤ) (b : ℕ) (bs m t : List ℕ) → chain false at (b ∷ bs) m ≡ Some t → (t ≡ m) × (loaded m at (suc (length bs)) ≡ Some (b ∷ bs))
unfolding chain
loaded-chain (negsuc a) b bs m t e = absurd (cc)
loaded-chain (pos a) b [] m t e =
    read-seen m a b t (sym (bind_some (seen m (pos a) 1 b)) ∙ e)
loaded-chain (pos a) b (c ∷ cs) m t e =
    let went = went_well (seen m (pos a) 1 b) (chain false (pos (a + 1)) (c ∷ cs)) e in
    let first = read-seen m a b went.0 went.1 in
    let rest = loaded-chain (pos (a + 1)) c cs went.0 t went.2 in
    (rest.0 ∙ first.0, parts-load m a b (length (c ∷ cs)) (c ∷ cs) first.1 (subst (λ s. loaded s (pos (a + 1)) (length (c ∷ cs)) ≡ Some (c ∷ cs)) first.0 rest.1))
