-- Slots by rising low bit are told by their members; the lanes of a pack are such slots.
use Rattle.std.proofs.Common.{◌≡◌, ℕ, zero, suc, ◌+◌, ◌*◌, ◌<◌, ◌≤◌, Bool, true, false, List, [], ◌∷◌, length, map, filter, refl, sym, ◌∙◌, ap, subst, inl, inr, arith, lit<}
use Rattle.std.specs.Prelude.{not, nat_eq, Option, Some, None}
use Rattle.std.specs.List.{filter_map, list_all, list_any}
use Rattle.std.proofs.lemmas.Bool.{cases_Bool, not-true}
use Rattle.std.proofs.lemmas.Bool.Decides.{nat_tests}
use Rattle.vg_plans.specs.Members.{AllDiffer, Every, Has}
use Rattle.vg_plans.proofs.Lists.{every-has, none-found}
use Rattle.vg_plans.proofs.Members.{Includes, any-found}
use Rattle.vg_shapes.specs.declared.operand.Operand.{Operand}
use Rattle.vg_shapes.specs.declared.operand.Slot.{Slot}
use Rattle.vg_shapes.specs.declared.ssa.Ssa.{Ssa}
use Rattle.vg_shapes.specs.declared.wanted.Wanted.{Wanted}
use Rattle.vg_shapes.specs.declared.wanted.Wanted.TheVariants.{Value, Constant, Nothing}
use Rattle.vg_shapes.specs.Operands.{AreSlots, IsOperand}
use Rattle.vg_kernel_plans.specs.Held.{lanes_from}
use Rattle.vg_kernel_plans.specs.Producers.{all_differ}
use Rattle.vg_kernel_plans.specs.Wants.{is_wanted, slot, value_of, wants_value}
use Rattle.vg_kernel_plans.proofs.SameTests.{both-true}
use Rattle.vg_plan_relations.specs.Produces.{AreRising, HasLane}

-- ---- rising slots

-- a slot after the first begins after it
behind-first : (s t : Slot) (ss : List Slot) → AreRising (s ∷ ss) → Has t ss → s.low < t.low
behind-first s t ss r h = every-has (λ (u : Slot). s.low < u.low) t ss r.0 h

-- of two rising lists with the same members the first slots are one
same-first : (s t : Slot) (ss ts : List Slot) → AreRising (s ∷ ss) → AreRising (t ∷ ts)
    → Has s (t ∷ ts) → Has t (s ∷ ss) → s ≡ t
same-first s t ss ts r q h k = elim h [
  | inl e ↦ sym e
  | inr m ↦ elim k [
    | inl e ↦ e
    | inr n ↦
        let a = behind-first t s ts q m in
        let b = behind-first s t ss r n in
        absurd (omega (arith, a, b))
  ]
]

-- a member of the rest is in the rest of the other
in-rest : (s t x : Slot) (ss ts : List Slot) → AreRising (s ∷ ss) → s ≡ t → Has x ss → Has x (t ∷ ts) → Has x ts
in-rest s t x ss ts r e m h = elim h [
  | inl f ↦
      let a = behind-first s x ss r m in
      let same : s.low ≡ x.low = ap (λ (u : Slot). u.low) (e ∙ f) in
      absurd (omega (arith, a, same))
  | inr k ↦ k
]

pub rising-same : (ss ts : List Slot) → AreRising ss → AreRising ts → Includes ss ts → Includes ts ss → ss ≡ ts
rising-same [] [] r q i j = refl
rising-same [] (t ∷ ts) r q i j = absurd (j t (inl refl))
rising-same (s ∷ ss) [] r q i j = absurd (i s (inl refl))
rising-same (s ∷ ss) (t ∷ ts) r q i j =
    let e = same-first s t ss ts r q (i s (inl refl)) (j t (inl refl)) in
    let rest = rising-same ss ts r.1 q.1
    (λ x h. in-rest s t x ss ts r e h (i x (inr h)))
    (λ x h. in-rest t s x ts ss q (sym e) h (j x (inr h))) in
    ap (λ u. u ∷ ss) e ∙ ap (λ us. t ∷ us) rest

every-filter : {X : Type 0} (P : X → Type 0) (test : X → Bool) (xs : List X) → Every P xs → Every P (filter test xs)
every-filter P test [] a = tt
every-filter P test (x ∷ xs) a = elim (cases_Bool (test x)) [
  | inl t ↦ rw t (a.0, every-filter P test xs a.1)
  | inr f ↦ rw f (every-filter P test xs a.1)
]

pub rising-filter : (test : Slot → Bool) (ss : List Slot) → AreRising ss → AreRising (filter test ss)
rising-filter test [] r = tt
rising-filter test (s ∷ ss) r = elim (cases_Bool (test s)) [
  | inl t ↦ rw t (every-filter (λ (u : Slot). s.low < u.low) test ss r.0, rising-filter test ss r.1)
  | inr f ↦ rw f (rising-filter test ss r.1)
]

-- one slot begins at a bit
pub one-at : (ss : List Slot) (s t : Slot) → AreRising ss → Has s ss → Has t ss → s.low ≡ t.low → s ≡ t
one-at [] s t r h k e = absurd h
one-at (u ∷ ss) s t r h k e = elim h [
  | inl a ↦ elim k [
    | inl b ↦ sym a ∙ b
    | inr m ↦
        let l = behind-first u t ss r m in
        let same : u.low ≡ s.low = ap (λ (x : Slot). x.low) a in
        absurd (omega (arith, l, same, e))
  ]
  | inr n ↦ elim k [
    | inl b ↦
        let l = behind-first u s ss r n in
        let same : u.low ≡ t.low = ap (λ (x : Slot). x.low) b in
        absurd (omega (arith, l, same, e))
    | inr m ↦ one-at ss s t r.1 n m e
  ]
]

-- ---- the lanes of a pack, as slots

lanes-low : (low w n : ℕ) (lanes : List (Option ℕ)) → n ≤ low → Every (λ (s : Slot). n ≤ s.low) (lanes_from low w lanes)
lanes-low low w n [] l = tt
lanes-low low w n (None ∷ lanes) l = lanes-low (low + w) w n lanes (omega (arith, l))
lanes-low low w n (Some v ∷ lanes) l = (l, lanes-low (low + w) w n lanes (omega (arith, l)))

pub every-more : {X : Type 0} (P Q : X → Type 0) → ((x : X) → P x → Q x) → (xs : List X) → Every P xs → Every Q xs
every-more P Q f [] a = tt
every-more P Q f (x ∷ xs) a = (f x a.0, every-more P Q f xs a.1)

pub lanes-rise : (low w : ℕ) (lanes : List (Option ℕ)) → 0 < w → AreRising (lanes_from low w lanes)
lanes-rise low w [] l = tt
lanes-rise low w (None ∷ lanes) l = lanes-rise (low + w) w lanes l
lanes-rise low w (Some v ∷ lanes) l = (
  every-more (λ (s : Slot). low + w ≤ s.low) (λ (s : Slot). low < s.low) (λ s h. omega (arith, h, l))
      (lanes_from (low + w) w lanes) (lanes-low (low + w) w (low + w) lanes (omega arith)),
  lanes-rise (low + w) w lanes l,
)

pub lane-there : (low w i v : ℕ) (lanes : List (Option ℕ)) → HasLane lanes i v
    → Has (slot (low + i * w) w (Value v)) (lanes_from low w lanes)
lane-there low w zero v [] e = absurd (cc)
lane-there low w (suc i) v [] e = absurd (cc)
lane-there low w zero v (None ∷ lanes) e = absurd (cc)
lane-there low w zero v (Some u ∷ lanes) e =
    let same : u ≡ v = cc in
    let at : low ≡ low + 0 * w = omega arith in
    inl (ap (λ x. slot low w (Value x)) same ∙ ap (λ n. slot n w (Value v)) at)
lane-there low w (suc i) v (o ∷ lanes) e =
    let at : low + w + i * w ≡ low + suc i * w = grind arith in
    let rest = subst (λ n. Has (slot n w (Value v)) (lanes_from (low + w) w lanes)) at (lane-there (low + w) w i v lanes e) in
    more o rest
  where
    more : (o : Option ℕ) → Has (slot (low + suc i * w) w (Value v)) (lanes_from (low + w) w lanes)
        → Has (slot (low + suc i * w) w (Value v)) (lanes_from low w (o ∷ lanes))
    more None h = h
    more (Some u) h = inr h

-- a slot of lanes is that of one
abbrev pub IsLaneFrom : ℕ → ℕ → List (Option ℕ) → Slot → Type 0
IsLaneFrom low w lanes s = (i : ℕ) × (v : ℕ) × HasLane lanes i v × (s ≡ slot (low + i * w) w (Value v))

later : (low w : ℕ) (o : Option ℕ) (lanes : List (Option ℕ)) (s : Slot) → IsLaneFrom (low + w) w lanes s → IsLaneFrom low w (o ∷ lanes) s
later low w o lanes s k =
    let at : low + w + k.0 * w ≡ low + suc k.0 * w = grind arith in
    (suc k.0, k.1, k.2, k.3 ∙ ap (λ n. slot n w (Value k.1)) at)

pub lane-of : (low w : ℕ) (lanes : List (Option ℕ)) (s : Slot) → Has s (lanes_from low w lanes) → IsLaneFrom low w lanes s
lane-of low w [] s h = absurd h
lane-of low w (None ∷ lanes) s h = later low w None lanes s (lane-of (low + w) w lanes s h)
lane-of low w (Some v ∷ lanes) s h = elim h [
  | inl e ↦
      let at : low ≡ low + 0 * w = omega arith in
      (zero, v, refl, sym e ∙ ap (λ n. slot n w (Value v)) at)
  | inr k ↦ later low w (Some v) lanes s (lane-of (low + w) w lanes s k)
]

pub lanes-long : (low w : ℕ) (lanes : List (Option ℕ)) → length (lanes_from low w lanes) ≡ length (filter_map (λ v. v) lanes)
lanes-long low w [] = refl
lanes-long low w (None ∷ lanes) = lanes-long (low + w) w lanes
lanes-long low w (Some v ∷ lanes) = ap suc (lanes-long (low + w) w lanes)

pub lanes-values : (low w : ℕ) (lanes : List (Option ℕ))
    → filter_map (λ (s : Slot). value_of s.wanted) (lanes_from low w lanes) ≡ filter_map (λ v. v) lanes
lanes-values low w [] = refl
lanes-values low w (None ∷ lanes) = lanes-values (low + w) w lanes
lanes-values low w (Some v ∷ lanes) = ap (λ vs. v ∷ vs) (lanes-values (low + w) w lanes)

pub lanes-want : (low w : ℕ) (lanes : List (Option ℕ)) → list_all (λ (s : Slot). wants_value s.wanted) (lanes_from low w lanes) ≡ true
lanes-want low w [] = refl
lanes-want low w (None ∷ lanes) = lanes-want (low + w) w lanes
lanes-want low w (Some v ∷ lanes) = lanes-want (low + w) w lanes

pub some-lanes : (us : List ℕ) → filter_map (λ v. v) (map Some us) ≡ us
some-lanes [] = refl
some-lanes (u ∷ us) = ap (λ vs. u ∷ vs) (some-lanes us)

-- ---- what is wanted

-- the values of all slots are those of the slots that want something
pub values-wanted : (slots : List Slot)
    → filter_map (λ (s : Slot). value_of s.wanted) (filter (λ (s : Slot). is_wanted s.wanted) slots)
    ≡ filter_map (λ (s : Slot). value_of s.wanted) slots
values-wanted [] = refl
values-wanted (s ∷ slots) = by (values-wanted slots) s.wanted refl
  where
    by : filter_map (λ (s : Slot). value_of s.wanted) (filter (λ (s : Slot). is_wanted s.wanted) slots)
        ≡ filter_map (λ (s : Slot). value_of s.wanted) slots
        → (x : Wanted) → s.wanted ≡ x
        → filter_map (λ (s : Slot). value_of s.wanted) (filter (λ (s : Slot). is_wanted s.wanted) (s ∷ slots))
        ≡ filter_map (λ (s : Slot). value_of s.wanted) (s ∷ slots)
    by rest (Value v) e = rw e (ap (λ vs. v ∷ vs) rest)
    by rest (Constant w n) e = rw e rest
    by rest Nothing e = rw e rest

-- ---- numbers none of which stands twice

pub differ-all : (vs : List ℕ) → all_differ vs ≡ true → AllDiffer nat_eq vs
differ-all [] t = tt
differ-all (v ∷ vs) t =
    let b = both-true (not (list_any (nat_eq v) vs)) (all_differ vs) t in
    (none-found (nat_eq v) vs (not-true (list_any (nat_eq v) vs) b.0), differ-all vs b.1)

none-any : {X : Type 0} (test : X → Bool) (xs : List X) → Every (λ y. test y ≡ false) xs → list_any test xs ≡ false
none-any test [] a = refl
none-any test (x ∷ xs) a = rw a.0 (none-any test xs a.1)

pub all-differ : (vs : List ℕ) → AllDiffer nat_eq vs → all_differ vs ≡ true
all-differ [] d = refl
all-differ (v ∷ vs) d = rw (none-any (nat_eq v) vs d.0) (all-differ vs d.1)

-- ---- sound operands

slot-wide : (w : ℕ) → list_any (nat_eq w) (8 ∷ 16 ∷ 32 ∷ 64 ∷ []) ≡ true → 0 < w
slot-wide w t =
    let k = any-found (nat_eq w) (8 ∷ 16 ∷ 32 ∷ 64 ∷ []) t in
    let same : w ≡ k.0 = let e = k.2 in grind (arith, nat_tests, e) in
    let wide : 0 < k.0 = every-has (λ n. 0 < n) k.0 (8 ∷ 16 ∷ 32 ∷ 64 ∷ []) (lit< tt, (lit< tt, (lit< tt, (lit< tt, tt)))) k.1 in
    omega (arith, same, wide)

slots-behind : (ssa : Ssa) (register low n : ℕ) (ss : List Slot) → n ≤ low → AreSlots ssa register low ss → Every (λ (s : Slot). n ≤ s.low) ss
slots-behind ssa register low n [] l h = tt
slots-behind ssa register low n (s ∷ ss) l h =
    let a = h.0 in
    (omega (arith, l, a), slots-behind ssa register (s.low + s.width) n ss (omega (arith, l, a)) h.2)

slots-rise : (ssa : Ssa) (register low : ℕ) (ss : List Slot) → AreSlots ssa register low ss → AreRising ss
slots-rise ssa register low [] h = tt
slots-rise ssa register low (s ∷ ss) h =
    let is = h.1 in
    let wide = slot-wide s.width is.width in
    (slots-behind ssa register (s.low + s.width) (suc s.low) ss (omega (arith, wide)) h.2, slots-rise ssa register (s.low + s.width) ss h.2)

pub sound-rises : (ssa : Ssa) (o : Operand) → IsOperand ssa o → AreRising o.slots
sound-rises ssa o is = slots-rise ssa o.register 0 o.slots is.slots
