-- A pack that holds an operand has each value that is wanted at its place.
use Rattle.std.proofs.Common.{◌≡◌, ℕ, ◌+◌, ◌*◌, true, List, [], ◌∷◌, Option, Some, None, refl, sym, ap, subst, ◌∙◌, ◌⊎◌, inl, inr, arith}
use Rattle.std.specs.Prelude.{◌==◌, not, filter_map, nat_eq}
use Rattle.std.specs.List.{AllByRecursion, list_all, list_any}
use Rattle.std.proofs.lemmas.Bool.{eqb-true, or_cases}
use Rattle.vg_base.specs.Bits.{num}
use Rattle.vg_bits.specs.Range.{range}
use Rattle.vg_shapes.specs.declared.operand.Slot.{Slot}
use Rattle.vg_shapes.specs.declared.pack.Pack.{Pack}
use Rattle.vg_shapes.specs.declared.ssa.Ssa.{Ssa}
use Rattle.vg_shapes.specs.declared.wanted.Wanted.{Wanted}
use Rattle.vg_shapes.specs.declared.wanted.Wanted.TheVariants.{Value, Constant, Nothing}
use Rattle.vg_shapes.specs.Description.{Description}
use Rattle.vg_shapes.specs.Operands.{lanes_of}
use Rattle.vg_shapes.specs.Order.{one_if, Stands}
use Rattle.vg_kernel_plans.specs.Held.{is_filled, lane_width_of, lanes_from, register_of}
use Rattle.vg_kernel_plans.specs.SameAs.{same_slot}
use Rattle.vg_kernel_plans.specs.Wants.{is_wanted, slot, value_of, wants_value}
use Rattle.vg_kernel_plans.proofs.SameTests.{both-true, slot-is}
use Rattle.vg_order_laws.proofs.Sequences.{counts-itself}
use Rattle.vg_emission.specs.Planned.{values_of}
use Rattle.vg_emission.specs.Promises.{IsWanted, LanesHave, SlotHas}
use Rattle.vg_gather.specs.Laws.{HoldersFill, HoldersGive}

-- ---- a slot among those of lanes

-- what a slot at this bit of this width has, if it is a value
abbrev HasValue : (ℕ → ℕ) → List ℕ → Slot → Type 0
HasValue numbers register s = (v : ℕ) × (s.wanted ≡ Value v) × (num (range s.low s.width register) ≡ numbers v)

among-lanes : (numbers : ℕ → ℕ) (register : List ℕ) (w n low : ℕ) (lanes : List (Option ℕ)) (s : Slot)
    → low ≡ n * w → LanesHave numbers w n lanes register
    → list_any (same_slot s) (lanes_from low w lanes) ≡ true → HasValue numbers register s
among-lanes numbers register w n low [] s e have any = absurd (cc)
among-lanes numbers register w n low (None ∷ lanes) s e have any =
    among-lanes numbers register w (n + 1) (low + w) lanes s (ap (λ k. k + w) e ∙ sym (one-more n w)) have any
  where
    one-more : (n w : ℕ) → (n + 1) * w ≡ n * w + w
    one-more n w = grind arith
among-lanes numbers register w n low (Some v ∷ lanes) s e have any =
    elim (or_cases (same_slot s (slot low w (Value v))) _ any) [
      | inl t ↦
          let is = slot-is s (slot low w (Value v)) t in
          subst (HasValue numbers register) (sym is)
          (v, refl, ap (λ k. num (range k w register)) e ∙ have.0)
      | inr rest ↦
          among-lanes numbers register w (n + 1) (low + w) lanes s (ap (λ k. k + w) e ∙ sym (one-more n w)) have.1 rest
    ]
  where
    one-more : (n w : ℕ) → (n + 1) * w ≡ n * w + w
    one-more n w = grind arith

-- ---- filling

value-has : (numbers : ℕ → ℕ) (x : Wanted) (v n : ℕ) → x ≡ Value v → n ≡ numbers v → IsWanted numbers x n
value-has numbers x v n e h = subst (λ y. IsWanted numbers y n) (sym e) h

nothing-wanted : (numbers : ℕ → ℕ) (x : Wanted) (n : ℕ) → not (is_wanted x) ≡ true → IsWanted numbers x n
nothing-wanted numbers (Value v) n e = absurd (cc)
nothing-wanted numbers (Constant w c) n e = absurd (cc)
nothing-wanted numbers Nothing n e = tt

filled-has : (ds : List Description) (ssa : Ssa) (numbers : ℕ → ℕ) (p : Pack) (register : List ℕ) (s : Slot)
    → LanesHave numbers (lane_width_of ds ssa p) 0 (lanes_of p) register
    → is_filled ds ssa p s ≡ true → SlotHas numbers register s
filled-has ds ssa numbers p register s have e = elim (or_cases (not (is_wanted s.wanted)) _ e) [
  | inl t ↦ nothing-wanted numbers s.wanted _ t
  | inr t ↦
      let both = both-true (wants_value s.wanted) _ t in
      let v = among-lanes numbers register (lane_width_of ds ssa p) 0 0 (lanes_of p) s (omega arith) have both.1 in
      value-has numbers s.wanted v.0 _ v.1 v.2
]

all-filled : (ds : List Description) (ssa : Ssa) (numbers : ℕ → ℕ) (p : Pack) (register : List ℕ) (ss : List Slot)
    → LanesHave numbers (lane_width_of ds ssa p) 0 (lanes_of p) register
    → list_all (is_filled ds ssa p) ss ≡ true → AllByRecursion (SlotHas numbers register) ss
all-filled ds ssa numbers p register [] have e = tt
all-filled ds ssa numbers p register (s ∷ ss) have e =
    let both = both-true (is_filled ds ssa p s) _ e in
    (filled-has ds ssa numbers p register s have both.0, all-filled ds ssa numbers p register ss have both.1)

pub holders-fill : HoldersFill
holders-fill ds ssa numbers p o register held h =
    let wide = both-true (nat_eq (register_of ds ssa p) o.register) _ held in
    let rest = both-true (list_any (λ s. is_wanted s.wanted) o.slots) _ wide.1 in
    record {
      long = h.long ∙ eqb-true (register_of ds ssa p) o.register wide.0;
      bits = h.bits;
      slots = all-filled ds ssa numbers p register o.slots h.lanes rest.1;
    }

-- ---- a value that is given

-- a value of a slot among those of lanes is among the values of the lanes
given-lane : (low w v : ℕ) (lanes : List (Option ℕ)) (s : Slot) → s.wanted ≡ Value v
    → list_any (same_slot s) (lanes_from low w lanes) ≡ true → Stands v (filter_map (λ u. u) lanes)
given-lane low w v [] s e any = absurd (cc)
given-lane low w v (None ∷ lanes) s e any = given-lane (low + w) w v lanes s e any
given-lane low w v (Some u ∷ lanes) s e any =
    elim (or_cases (same_slot s (slot low w (Value u))) _ any) [
      | inl t ↦
          let is : s.wanted ≡ Value u = ap (λ (x : Slot). x.wanted) (slot-is s (slot low w (Value u)) t) in
          let same : v ≡ u = cc in
          let one : one_if (v == u) ≡ 1 = ap (λ k. one_if (v == k)) (sym same) ∙ counts-itself v in
          omega arith
      | inr rest ↦ (let k = given-lane (low + w) w v lanes s e rest in omega arith)
    ]

-- the first slot that wants something
abbrev GivesOf : List ℕ → List ℕ → Type 0
GivesOf wanted given = (x : ℕ) × Stands x wanted × Stands x given

gives-first : (ds : List Description) (ssa : Ssa) (p : Pack) (l w : ℕ) (x : Wanted) (ss : List Slot)
    → is_filled ds ssa p (slot l w x) ≡ true
    → (is_wanted x ≡ true) ⊎ GivesOf (filter_map (λ s. value_of s.wanted) ss) (values_of p)
    → GivesOf (filter_map (λ s. value_of s.wanted) (slot l w x ∷ ss)) (values_of p)
gives-first ds ssa p l w (Value v) ss e (inl t) =
    let here = counts-itself v in
    (v, omega arith, given-lane 0 (lane_width_of ds ssa p) v (lanes_of p) (slot l w (Value v)) refl e)
gives-first ds ssa p l w (Value v) ss e (inr g) =
    let k = g.1 in
    (g.0, omega arith, g.2)
gives-first ds ssa p l w (Constant m c) ss e h = absurd (cc)
gives-first ds ssa p l w Nothing ss e (inl t) = absurd (cc)
gives-first ds ssa p l w Nothing ss e (inr g) = g

gives-some : (ds : List Description) (ssa : Ssa) (p : Pack) (ss : List Slot)
    → list_any (λ s. is_wanted s.wanted) ss ≡ true → list_all (is_filled ds ssa p) ss ≡ true
    → GivesOf (filter_map (λ s. value_of s.wanted) ss) (values_of p)
gives-some ds ssa p [] any all = absurd (cc)
gives-some ds ssa p (s ∷ ss) any all =
    let both = both-true (is_filled ds ssa p s) _ all in
    gives-first ds ssa p s.low s.width s.wanted ss both.0
    (elim (or_cases (is_wanted s.wanted) _ any) [
      | inl t ↦ inl t
      | inr t ↦ inr (gives-some ds ssa p ss t both.1)
    ])

pub holders-give : HoldersGive
holders-give ds ssa p o held =
    let wide = both-true (nat_eq (register_of ds ssa p) o.register) _ held in
    let rest = both-true (list_any (λ s. is_wanted s.wanted) o.slots) _ wide.1 in
    gives-some ds ssa p o.slots rest.0 rest.1
