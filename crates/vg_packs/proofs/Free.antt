-- The empty plan has no cycle where units depend on earlier ones alone: each round leaves out at least
-- the units of the least number that is left.
use Rattle.std.proofs.Common.{◌≡◌, ℕ, zero, suc, ◌+◌, ◌-◌, ◌<◌, ◌≤◌, Bool, true, false, List, [], ◌∷◌, length, refl, sym, ◌∙◌, subst, inl, inr, arith}
use Rattle.std.specs.Prelude.{◌&&◌, filter, is_some, nat_lt, slice_get}
use Rattle.std.proofs.lemmas.Bool.{cases_Bool}
use Rattle.std.proofs.lemmas.Bool.Decides.{nat_tests}
use Rattle.vg_plans.specs.Members.{Has}
use Rattle.vg_plans.specs.World.{World, is_empty, is_held_back, is_in, left_after}
use Rattle.vg_plans.proofs.Members.{any-found, from-filter}
use Rattle.vg_plans.proofs.Reach.{has-in, in-has}
use Rattle.vg_kernel_plans.specs.Packing.{falling_units, packing}
use Rattle.vg_shapes.specs.declared.match_table.Match.{Match}
use Rattle.vg_shapes.specs.declared.operand.Operand.{Operand}
use Rattle.vg_shapes.specs.declared.pack.Pack.{Pack}
use Rattle.vg_shapes.specs.declared.ssa.Ssa.{Ssa}
use Rattle.vg_shapes.specs.DepList.{is_listed, row_of}
use Rattle.vg_shapes.specs.Depends.{depends_on, numbers_below}
use Rattle.vg_shapes.specs.Units.{arguments, is_unit}
use Rattle.vg_packs.specs.Walk.{IsFree, NameEarlier, NameEarlierUnits}
use Rattle.vg_packs.proofs.Cycles.{unit-inside}

get-there : {X : Type 0} (xs : List X) (k : ℕ) → k < length xs → is_some (slice_get xs k) ≡ true
get-there [] k l = absurd (omega (arith, l))
get-there (x ∷ xs) zero l = refl
get-there (x ∷ xs) (suc k) l = get-there xs k (omega (arith, l))

-- each number from the first unit on is that of a unit, for as many as there are
unit-there : (ssa : Ssa) (n : ℕ) → n < length ssa.units → is_unit ssa (arguments ssa + n) ≡ true
unit-there ssa n l =
    let f : nat_lt (arguments ssa + n) (arguments ssa) ≡ false = grind (arith, nat_tests) in
    let e : arguments ssa + n - arguments ssa ≡ n = omega arith in
    rw (f, e) (get-there ssa.units n l)

many-below : (ssa : Ssa) (n : ℕ) → n ≤ length ssa.units
    → n ≤ length (filter (is_unit ssa) (numbers_below (arguments ssa + n)))
many-below ssa zero l = omega arith
many-below ssa (suc n) l =
    let e : arguments ssa + suc n ≡ suc (arguments ssa + n) = omega arith in
    let t : is_unit ssa (arguments ssa + n) ≡ true = unit-there ssa n (omega (arith, l)) in
    rw e (rw t (let h = many-below ssa n (omega (arith, l)) in omega (arith, h)))

none-empty : (vs : List ℕ) → ((v : ℕ) → Has v vs → ⊥) → vs ≡ []
none-empty [] h = refl
none-empty (v ∷ vs) h = absurd (h v (inl refl))

module _ (matches : List Match) (ssa : Ssa) (deps : List (ℕ × ℕ)) (earlier : NameEarlier deps) where
  abbrev world : World Pack Operand Operand
  world = packing [] matches ssa deps

  -- all of them are from this number on
  abbrev AreFrom : ℕ → List ℕ → Type 0
  AreFrom k vs = (v : ℕ) → Has v vs → k ≤ v

  held-later : (k : ℕ) (left : List ℕ) → AreFrom k left → AreFrom (k + 1) (filter (is_held_back world [] left) left)
  held-later k left f = λ v h.
      let m = from-filter (is_held_back world [] left) v left h in
      let x = any-found (λ x. is_in x left) (row_of deps v) m.1 in
      let low = f x.0 (in-has x.0 left x.2) in
      let less = earlier v x.0 (has-in x.0 (row_of deps v) x.1) in
      omega (arith, low, less)

  left-later : (rounds k : ℕ) (left : List ℕ) → AreFrom k left → AreFrom (k + rounds) (left_after world [] rounds left)
  left-later zero k left f = λ v h. let l = f v h in omega (arith, l)
  left-later (suc rounds) k left f = λ v h.
      let l = left-later rounds (k + 1) (filter (is_held_back world [] left) left) (held-later k left f) v h in
      omega (arith, l)

  left-inside : (rounds : ℕ) (left : List ℕ) (v : ℕ) → Has v (left_after world [] rounds left) → Has v left
  left-inside zero left v h = h
  left-inside (suc rounds) left v h =
      let m = left-inside rounds (filter (is_held_back world [] left) left) v h in
      (from-filter (is_held_back world [] left) v left m).0

  unit-from : AreFrom (arguments ssa) (falling_units ssa)
  unit-from v h =
      let t = (from-filter (is_unit ssa) v (numbers_below (arguments ssa + length ssa.units)) h).1 in
      elim (cases_Bool (nat_lt v (arguments ssa))) [
        | inl e ↦ absurd (let f : is_unit ssa v ≡ false = rw e refl in cc)
        | inr f ↦ grind (arith, nat_tests, f)
      ]

  pub free-first : IsFree matches ssa deps []
  free-first =
      let n = length (falling_units ssa) in
      let none = none-empty (left_after world [] n (falling_units ssa)) (λ v h.
      let low = left-later n (arguments ssa) (falling_units ssa) unit-from v h in
      let there = left-inside n (falling_units ssa) v h in
      let t = (from-filter (is_unit ssa) v (numbers_below (arguments ssa + length ssa.units)) there).1 in
      let high = unit-inside ssa v t in
      let many = many-below ssa (length ssa.units) (omega arith) in
      omega (arith, low, high, many)) in
      subst (λ l. is_empty world l ≡ true) (sym none) refl

-- ---- the dependences of a kernel

both : (a b c : Bool) → (a && (b && c)) ≡ true → (a ≡ true) × (b ≡ true)
both true true c t = (refl, refl)
both true false c t = absurd (cc)
both false b c t = absurd (cc)

pub kernel-earlier : (ssa : Ssa) (deps : List (ℕ × ℕ))
    → ((later earlier : ℕ) → is_listed deps later earlier ≡ depends_on ssa later earlier) → NameEarlierUnits ssa deps
kernel-earlier ssa deps same = record {
  units = λ v x t. (both (is_unit ssa x) (nat_lt x v) _ (sym (same v x) ∙ t)).0;
  earlier = λ v x t. let h = (both (is_unit ssa x) (nat_lt x v) _ (sym (same v x) ∙ t)).1 in grind (arith, nat_tests, h);
}
