-- The lines of units are told by how often values are needed.
--
-- Going down the numbers, the values that are needed so far are those that inserts or units at or above the
-- number take. Below it the units count for the rest of each value's count, and at the number itself no rest
-- is left: no unit uses a value of its own number or a greater one.
use Rattle.std.proofs.Common.{◌≡◌, ℕ, zero, suc, ◌+◌, ◌<◌, ◌≤◌, Bool, false, List, [], ◌∷◌, ◌++◌, get_or, length, refl, sym, ◌∙◌, ap, subst, arith}
use Rattle.std.specs.Prelude.{◌||◌, nat_eq, nat_lt, filter}
use Rattle.std.specs.List.{flat_map}
use Rattle.std.proofs.lemmas.List.Folds.{list_any-append}
use Rattle.vg_plans.specs.World.{is_in, is_packed, scalar_lines}
use Rattle.vg_shapes.specs.declared.pack.Pack.{Pack}
use Rattle.vg_shapes.specs.declared.ssa.Ssa.{Ssa}
use Rattle.vg_shapes.specs.Depends.{numbers_below}
use Rattle.vg_shapes.specs.Pack.{units_of}
use Rattle.vg_shapes.specs.Units.{arguments, is_unit, unit_at}
use Rattle.vg_kernel_plans.specs.Packing.{falling_units, packing}
use Rattle.vg_cost.specs.Lines.{line_of, values_of}
use Rattle.vg_cost.specs.Marks.{Has}
use Rattle.vg_cost.specs.Needs.{AreNeeds, AreNeedsFor, is_needed, line_at, lines_by, times_in, used_at, uses_of}
use Rattle.vg_cost.proofs.LineSteps.{packed_by, step}
use Rattle.vg_cost.proofs.MarkTests.{own_count}
use Rattle.vg_cost.proofs.NumberSums.{some-either, sum-next, sum-none, times-is, times-over, times-under}

abbrev rest : Ssa → List Pack → List ℕ → ℕ → ℕ
rest ssa plan needed n = scalar_lines (packing [] [] ssa []) plan needed (filter (is_unit ssa) (numbers_below n))

-- no unit up to a number uses its value
own-uses : (ssa : Ssa) (packed : List Bool) (counts : List ℕ) (v : ℕ) → uses_of ssa packed counts v (suc v) ≡ 0
own-uses ssa packed counts v =
    sum-none (λ u. times_in v (used_at ssa packed counts u)) (suc v)
    (λ u l. times-over v u (values_of (unit_at ssa u) (get_or packed u false) (is_needed counts u)) (omega (arith, l)))

-- what is taken so far of a value, and what the units below a number use of it
abbrev Taken_so_far : Ssa → List Bool → List ℕ → List ℕ → ℕ → ℕ → Type 0
Taken_so_far ssa packed counts more n v =
    (x : ℕ) × (get_or counts v 0 ≡ x + uses_of ssa packed counts v n) × (is_in v more ≡ nat_lt 0 x)

module _ (ssa : Ssa) (plan : List Pack) (packed : List Bool) (counts : List ℕ)
    (h : Has (length packed) (flat_map units_of plan) packed) where
  down : (n : ℕ) (more : List ℕ) → n ≤ length packed
      → ((v : ℕ) → v < n → Taken_so_far ssa packed counts more n v)
      → rest ssa plan more n ≡ lines_by ssa packed counts n
  down zero more l from = refl
  down (suc u) more l from =
      let at = from u (omega arith) in
      let none = own-uses ssa packed counts u in
      let counted = at.1 in
      let whole : at.0 ≡ get_or counts u 0 = omega (arith, counted, none) in
      let here : is_in u more ≡ is_needed counts u = at.2 ∙ ap (nat_lt 0) whole in
      let inside : u < length packed = omega (arith, l) in
      let there : is_packed (packing [] [] ssa []) plan u ≡ get_or packed u false = sym (h.each u inside ∙ packed_by u plan) in
      let used = values_of (unit_at ssa u) (get_or packed u false) (is_needed counts u) in
      step plan ssa more u
      ∙ ap (λ b. line_of (unit_at ssa u) b (is_in u more) + rest ssa plan (values_of (unit_at ssa u) b (is_in u more) ++ more) u) there
      ∙ ap (λ b. line_of (unit_at ssa u) (get_or packed u false) b + rest ssa plan (values_of (unit_at ssa u) (get_or packed u false) b ++ more) u) here
      ∙ ap (λ k. line_at ssa packed counts u + k) (down u (used ++ more) (omega (arith, l)) (λ v lt. next v lt (from v (omega (arith, lt)))))
      ∙ sym (sum-next (line_at ssa packed counts) u)
    where
      next : (v : ℕ) → v < u → Taken_so_far ssa packed counts more (suc u) v
          → Taken_so_far ssa packed counts (values_of (unit_at ssa u) (get_or packed u false) (is_needed counts u) ++ more) u v
      next v lt q =
          let used = values_of (unit_at ssa u) (get_or packed u false) (is_needed counts u) in
          let one = sum-next (λ w. times_in v (used_at ssa packed counts w)) u in
          let same = times-under v u used lt in
          let before = q.1 in (
            q.0 + times_in v used,
            omega (arith, one, same, before),
            list_any-append (nat_eq v) used more
                ∙ ap (λ b. b || is_in v more) (times-is v used) ∙ ap (λ b. nat_lt 0 (times_in v used) || b) q.2
                ∙ some-either (times_in v used) q.0,
          )

  -- the lines that are counted are those of the plan with these inserts
  pub needs-lines : (inserted : List ℕ) (lines : ℕ) → AreNeeds ssa packed inserted counts lines
      → lines ≡ scalar_lines (packing [] [] ssa []) plan inserted (filter (is_unit ssa) (numbers_below (length packed)))
  needs-lines inserted lines n =
      n.written
      ∙ sym (down (length packed) inserted (omega arith) (λ v l. (times_in v inserted, n.needed v l, times-is v inserted)))

same-marks : (a b : List Bool) → length a ≡ length b → ((v : ℕ) → v < length a → get_or a v false ≡ get_or b v false) → a ≡ b
same-marks [] [] l e = refl
same-marks [] (y ∷ b) l e = absurd (omega (arith, l))
same-marks (x ∷ a) [] l e = absurd (omega (arith, l))
same-marks (x ∷ a) (y ∷ b) l e =
    ap (λ z. z ∷ a) (e zero (omega arith))
    ∙ ap (λ m. y ∷ m) (same-marks a b (omega (arith, l)) (λ v i. e (suc v) (omega (arith, i))))

-- marks of the same numbers are the same
pub same-has : (n : ℕ) (list : List ℕ) (a b : List Bool) → Has n list a → Has n list b → a ≡ b
same-has n list a b h k =
    same-marks a b (h.long ∙ sym k.long) (λ v l. let i : v < n = let e = h.long in omega (arith, e, l) in h.each v i ∙ sym (k.each v i))

module _ (ssa : Ssa) (plan : List Pack) (packed : List Bool) (inserted counts : List ℕ) (lines : ℕ)
    (h : Has (arguments ssa + length ssa.units) (flat_map units_of plan) packed)
    (n : AreNeeds ssa packed inserted counts lines) where
  -- whatever marks the packs have
  pub needs-for : AreNeedsFor ssa plan inserted counts lines
  needs-for = λ other k.
      subst (λ l. AreNeeds ssa l inserted counts lines)
      (same-has (arguments ssa + length ssa.units) (flat_map units_of plan) packed other h k) n

  -- the lines of all units
  pub needs-whole : lines ≡ scalar_lines (packing [] [] ssa []) plan inserted (falling_units ssa)
  needs-whole =
      needs-lines ssa plan packed counts (own_count (flat_map units_of plan) (arguments ssa + length ssa.units) packed h) inserted lines n
      ∙ ap (λ k. scalar_lines (packing [] [] ssa []) plan inserted (filter (is_unit ssa) (numbers_below k))) h.long
