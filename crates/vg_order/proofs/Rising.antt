-- Where the nodes are the units in their order, and depend on lesser ones alone, they are placed in that order.
use Rattle.std.proofs.Common.{◌≡◌, ℕ, zero, suc, ◌+◌, ◌-◌, ◌<◌, ◌≤◌, Bool, true, false, List, [], ◌∷◌, ◌++◌, length, replicate, refl, sym, ap, subst, ◌∙◌, inl, inr, arith}
use Rattle.std.specs.Prelude.{slice_index, slice_index_or, ◌==◌}
use Rattle.std.proofs.lemmas.Bool.{cases_Bool, cases_eq, ne_eqb, eqb-true, eqb-false}
use Rattle.std.proofs.lemmas.List.{get_or_past, length-replicate}
use Rattle.vg_shapes.specs.Order.{count_of, numbers_from, one_if}
use Rattle.vg_order.specs.declared.graph.Graph.{Graph}
use Rattle.vg_order.specs.declared.needs.Cursor.{Cursor}
use Rattle.vg_order.specs.declared.paths.Path.{Path}
use Rattle.vg_order.specs.declared.progress.Progress.{Progress}
use Rattle.vg_order.specs.Needs.{flag_at, left_from}
use Rattle.vg_order.specs.Paths.{AreAllPlaced, AreUnitsPlaced, FollowsHomes, home_at, IsAtRest, IsInside, IsOrdered, IsProgress, IsReady, IsRising, needs_at, rows_at, start, StaysPlaced}
use Rattle.vg_order.proofs.Building.{numbers_from-more}
use Rattle.vg_order.proofs.Looks.{left-begin}

-- numbers before the first and after the last of a run, and those of it
pub count_of-before : (x first n : ℕ) → x < first → count_of x (numbers_from first n) ≡ 0
count_of-before x first zero h = refl
count_of-before x first (suc n) h =
    let none : one_if (x == first) ≡ 0 = ap one_if (ne_eqb x first (λ e. absurd (omega arith))) in
    let rest = count_of-before x (first + 1) n (omega arith) in
    omega arith

pub count_of-past : (x first n : ℕ) → first + n ≤ x → count_of x (numbers_from first n) ≡ 0
count_of-past x first zero h = refl
count_of-past x first (suc n) h =
    let none : one_if (x == first) ≡ 0 = ap one_if (ne_eqb x first (λ e. absurd (omega arith))) in
    let rest = count_of-past x (first + 1) n (omega arith) in
    omega arith

pub count_of-within : (x first n : ℕ) → first ≤ x → x < first + n → count_of x (numbers_from first n) ≡ 1
count_of-within x first zero low high = absurd (omega arith)
count_of-within x first (suc n) low high = elim (cases_Bool (x == first)) [
  | inl t ↦ (let e = eqb-true x first t in let one : one_if (x == first) ≡ 1 = ap one_if t in let none = count_of-before x (first + 1) n (omega arith) in omega arith)
  | inr f ↦ (let e = eqb-false x first f in let none : one_if (x == first) ≡ 0 = ap one_if f in let rest = count_of-within x (first + 1) n (omega arith) (omega arith) in omega arith)
]

is-true : (b : Bool) → one_if b ≡ 1 → b ≡ true
is-true true h = refl
is-true false h = absurd (omega arith)

is-false : (b : Bool) → one_if b ≡ 0 → b ≡ false
is-false true h = absurd (omega arith)
is-false false h = refl

-- one unit more is placed
pub rises : (deps : List (ℕ × ℕ)) (g : Graph) (before after : Progress) (unit : ℕ) → IsProgress deps g before → IsInside g unit
    → (flag_at before.placed.items (home_at g unit) ≡ false → IsReady deps g before.placed.items (home_at g unit) → after.order.items ≡ before.order.items ++ home_at g unit ∷ [])
    → (IsRising deps g → before.order.items ≡ numbers_from 0 (unit - g.first))
    → IsRising deps g → after.order.items ≡ numbers_from 0 (unit + 1 - g.first)
rises deps g before after unit is inside ready so r =
    let n = unit - g.first in
    let low = inside.0 in
    let home : home_at g unit ≡ n = r.0 unit inside in
    let order : before.order.items ≡ numbers_from 0 n = so r in
    let next : suc n ≡ unit + 1 - g.first = omega arith in
    let here : 0 + n ≡ n = omega arith in
    let waits : flag_at before.placed.items (home_at g unit) ≡ false =
    ap (flag_at before.placed.items) home ∙ is-false (flag_at before.placed.items n) (sym (is.0.counts n) ∙ ap (count_of n) order ∙ count_of-past n 0 n (omega arith)) in
    let placed : IsReady deps g before.placed.items (home_at g unit) = λ x s.
    (let less : home_at g x < n = subst (λ k. home_at g x < k) home (r.2 (home_at g unit) x s) in
    is-true (flag_at before.placed.items (home_at g x)) (sym (is.0.counts (home_at g x)) ∙ ap (count_of (home_at g x)) order ∙ count_of-within (home_at g x) 0 n (omega arith) (omega arith))) in
    ready waits placed ∙ (λ i. order i ++ home i ∷ []) ∙ ap (λ k. numbers_from 0 n ++ k ∷ []) (sym here) ∙ sym (numbers_from-more 0 n) ∙ ap (numbers_from 0) next

pub placed-more : (g : Graph) (before after : List Bool) (unit : ℕ) → AreUnitsPlaced g before unit → StaysPlaced before after → flag_at after (home_at g unit) ≡ true → AreUnitsPlaced g after (unit + 1)
placed-more g before after unit so stays here x low high = elim (cases_eq x unit) [
  | inl same ↦ ap (λ y. flag_at after (home_at g y)) same ∙ here
  | inr other ↦ stays (home_at g x) (so x low (omega arith))
]

-- ---- the beginning and the end

flags-off : (n k : ℕ) → flag_at (replicate n false) k ≡ false
flags-off zero k = refl
flags-off (suc n) zero = refl
flags-off (suc n) (suc k) = flags-off n k

starts : (n k : ℕ) → slice_index_or (replicate n start) k start ≡ start
starts zero k = refl
starts (suc n) zero = refl
starts (suc n) (suc k) = starts n k

pub fresh-progress : (deps : List (ℕ × ℕ)) (g : Graph) (p : Progress) (count : ℕ) → count ≡ length g.needs → p.order.items ≡ [] → p.placed.items ≡ replicate count false → p.cursors.items ≡ replicate count start → IsProgress deps g p
fresh-progress deps g p count n o f c = (
  record {
    counts = λ k. ap (count_of k) o ∙ sym (ap one_if (ap (λ (l : List Bool). flag_at l k) f ∙ flags-off count k));
    follows = subst (FollowsHomes (needs_at deps g) (slice_index g.homes) []) (sym o) tt;
    long = ap length f ∙ length-replicate count false ∙ n;
    known = λ k h. (
      [],
      sym (ap (left_from (rows_at deps g k)) (ap (λ (l : List Cursor). slice_index_or l k start) c ∙ starts count k) ∙ left-begin (rows_at deps g k) 0),
      λ x s. absurd (omega arith),
    );
  },
  ap length c ∙ length-replicate count start ∙ n,
)

pub empty-path : (g : Graph) (p : Path) (count : ℕ) → count ≡ length g.needs → p.units.items ≡ [] → p.on.items ≡ replicate count false → IsAtRest g p
empty-path g p count n u o = (u, ap length o ∙ length-replicate count false ∙ n, λ k. ap (λ (l : List Bool). flag_at l k) o ∙ flags-off count k)

pub all-ordered : (deps : List (ℕ × ℕ)) (g : Graph) (p : Progress) → IsProgress deps g p → AreAllPlaced p.placed.items (length g.needs) → IsOrdered (needs_at deps g) (home_at g) (length g.needs) p.order.items
all-ordered deps g p is all = record {
  once = λ n h. is.0.counts n ∙ ap one_if (all n h);
  none = λ n h. is.0.counts n ∙ ap one_if (get_or_past p.placed.items n false (let l = is.0.long in omega arith));
  follows = is.0.follows;
}

pub rising-placed : (deps : List (ℕ × ℕ)) (g : Graph) (p : Progress) → IsProgress deps g p → p.order.items ≡ numbers_from 0 (length g.needs) → AreAllPlaced p.placed.items (length g.needs)
rising-placed deps g p is o n h = is-true (flag_at p.placed.items n) (sym (is.0.counts n) ∙ ap (count_of n) o ∙ count_of-within n 0 (length g.needs) (omega arith) (omega arith))
