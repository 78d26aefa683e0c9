-- In a legal order the units of the nodes run as they do in the order of their numbers.
use Rattle.std.proofs.Common.{◌≡◌, ℕ, zero, suc, ◌+◌, ◌<◌, Bool, true, false, List, [], ◌∷◌, ◌++◌, length, Option, Some, None, refl, sym, ap, subst, ◌∙◌, inl, inr, arith, append_assoc, append-nil}
use Rattle.std.specs.Prelude.{nat_lt, ◌&&◌, ◌||◌, ◌==◌}
use Rattle.std.specs.List.{AllByRecursion}
use Rattle.std.proofs.lemmas.Bool.{cases_Bool, lt-ltb, eqb-true}
use Rattle.vg_shapes.specs.declared.order.Node.{Node}
use Rattle.vg_shapes.specs.declared.ssa.Ssa.{Ssa}
use Rattle.vg_shapes.specs.Depends.{conflict_at}
use Rattle.vg_shapes.specs.Layout.{Respects}
use Rattle.vg_shapes.specs.Order.{one_if, count_of, Stands, all_units, Follows}
use Rattle.vg_shapes.specs.Units.{arguments}
use Rattle.vg_order_laws.specs.Laws.{AreUnits, conflicts, LegalOrdersRun}
use Rattle.vg_order_laws.specs.Sequence.{run_steps, Commute, MayBeSorted}
use Rattle.vg_order_laws.specs.Steps.{unit_numbers, unit_step}
use Rattle.vg_order_laws.proofs.Commuting.{units-commute}
use Rattle.vg_order_laws.proofs.Sequences.{all-standing, count_of-append, count_of-numbers, counts-itself, in_order-numbers, run-in_order}

-- a unit that stands in a list and conflicts with an earlier one
conflict-stands : (ssa : Ssa) (us : List ℕ) (y x : ℕ) → Stands y us → x < y → conflict_at ssa x y ≡ true → conflicts ssa us x ≡ true
conflict-stands ssa [] y x s below h = absurd (omega arith)
conflict-stands ssa (u ∷ us) y x s below h = elim (cases_Bool (y == u)) [
  | inl t ↦
      let same : y ≡ u = eqb-true y u t in
      either-first _ _ (both (nat_lt x u) (conflict_at ssa x u) (lt-ltb x u (let k = below in omega arith)) (subst (λ k. conflict_at ssa x k ≡ true) same h))
  | inr f ↦ either-second _ _ (conflict-stands ssa us y x (let none : one_if (y == u) ≡ 0 = ap one_if f in omega arith) below h)
]
  where
    both : (a b : Bool) → a ≡ true → b ≡ true → (a && b) ≡ true
    both true b s t = t
    both false b s t = absurd (cc)

    either-first : (a b : Bool) → a ≡ true → (a || b) ≡ true
    either-first true b e = refl
    either-first false b e = absurd (cc)

    either-second : (a b : Bool) → b ≡ true → (a || b) ≡ true
    either-second true b e = refl
    either-second false b e = e

-- units that conflict with no earlier ones but those that have run may stand before what has not run
may-first : (ssa : Ssa) (places : List ℕ) (numbers : ℕ → ℕ) (run ys zs : List ℕ) → Respects ssa places
    → ((y : ℕ) → Stands y ys → (x : ℕ) → x < y → conflict_at ssa x y ≡ true → Stands x run)
    → ((x : ℕ) → Stands x run → Stands x (ys ++ zs) → ⊥)
    → MayBeSorted (unit_step ssa places numbers) zs → MayBeSorted (unit_step ssa places numbers) (ys ++ zs)
may-first ssa places numbers run [] zs respects behind once may = may
may-first ssa places numbers run (y ∷ ys) zs respects behind once may = (
  all-standing _ (ys ++ zs) (λ x s below. elim (cases_Bool (conflict_at ssa x y)) [
    | inl t ↦ absurd (once x (behind y (let one = counts-itself y in omega arith) x below t) (omega arith))
    | inr f ↦ units-commute ssa places numbers x y respects f
  ]),
  may-first ssa places numbers run ys zs respects (λ u s. behind u (omega arith)) (λ x r s. once x r (omega arith)) may,
)

pub all_units-push : {N : Type 0} (units : N → List ℕ) (done : List N) (n : N) → all_units units (done ++ n ∷ []) ≡ all_units units done ++ units n
all_units-push units [] n = append-nil (units n)
all_units-push units (d ∷ done) n = ap (λ l. units d ++ l) (all_units-push units done n) ∙ sym (append_assoc (units d) (all_units units done) (units n))

may-be-sorted : {N : Type 0} (ssa : Ssa) (places : List ℕ) (numbers : ℕ → ℕ) (units : N → List ℕ) (depends : N → ℕ → Bool) (done order : List N) → Respects ssa places
    → ((n : N) (x : ℕ) → conflicts ssa (units n) x ≡ true → depends n x ≡ true)
    → Follows depends units done order
    → ((x : ℕ) → count_of x (all_units units done ++ all_units units order) < 2)
    → MayBeSorted (unit_step ssa places numbers) (all_units units order)
may-be-sorted ssa places numbers units depends done [] respects sees follows once = tt
may-be-sorted ssa places numbers units depends done (n ∷ ns) respects sees follows once =
    may-first ssa places numbers (all_units units done) (units n) (all_units units ns) respects
    (λ y s x below h. follows.0 x (sees n x (conflict-stands ssa (units n) y x s below h)))
    (λ x r s. let two = once x in let sum = count_of-append x (all_units units done) (units n ++ all_units units ns) in omega arith)
    (may-be-sorted ssa places numbers units depends (done ++ n ∷ []) ns respects sees follows.1
    (λ x. let two = once x in
    let same : all_units units (done ++ n ∷ []) ++ all_units units ns ≡ all_units units done ++ (units n ++ all_units units ns) = ap (λ l. l ++ all_units units ns) (all_units-push units done n) ∙ append_assoc (all_units units done) (units n) (all_units units ns) in
    subst (λ l. count_of x l < 2) (sym same) two))

-- whatever the nodes are
pub legal-order-runs : {N : Type 0} (ssa : Ssa) (places : List ℕ) (numbers : ℕ → ℕ) (units : N → List ℕ) (depends : N → ℕ → Bool) (order : List N) → Respects ssa places
    → ((n : N) (x : ℕ) → conflicts ssa (units n) x ≡ true → depends n x ≡ true)
    → Follows depends units [] order → AreUnits ssa (all_units units order) → (memory : List ℕ)
    → run_steps (unit_step ssa places numbers) (all_units units order) memory ≡ run_steps (unit_step ssa places numbers) (unit_numbers ssa) memory
legal-order-runs ssa places numbers units depends order respects sees follows once memory =
    let few : (x : ℕ) → count_of x ([] ++ all_units units order) < 2 =
    λ x. let a = once x in let b = count_of-numbers x (arguments ssa) (length ssa.units) in omega arith in
    run-in_order (unit_step ssa places numbers) (all_units units order) (may-be-sorted ssa places numbers units depends [] order respects sees follows few) memory
    ∙ ap (λ l. run_steps (unit_step ssa places numbers) l memory) (in_order-numbers (all_units units order) (arguments ssa) (length ssa.units) once)

pub legal-orders-run : LegalOrdersRun
legal-orders-run ssa places numbers units depends order = legal-order-runs ssa places numbers units depends order
