-- The node that is placed is the next one, where nodes have numbers.
use Rattle.std.proofs.Common.{◌≡◌, ℕ, ◌<◌, Bool, true, false, List, [], ◌∷◌, ◌++◌, length, drop, refl, sym, ap, subst, ◌∙◌, inl, inr, arith, append_assoc, append-nil, Option, Some, None}
use Rattle.std.specs.Prelude.{slice_index, ◌==◌}
use Rattle.std.specs.List.{AllByRecursion}
use Rattle.std.proofs.lemmas.Bool.{eq-eqb, true≢false}
use Rattle.vg_shapes.specs.Order.{count_of, one_if, Stands}
use Rattle.vg_order.specs.declared.graph.Graph.{Graph}
use Rattle.vg_order.specs.declared.paths.Path.{Path}
use Rattle.vg_order.specs.declared.progress.Progress.{Progress}
use Rattle.vg_order.specs.Needs.{ComesFirst, flag_at}
use Rattle.vg_order.specs.NextNumbers.{AreDoneUpTo, AreNext, EndsAt, IsFirstLeft, IsNextNumber}
use Rattle.vg_order.specs.Paths.{AreAllPlaced, AreFirst, AreUnitsPlaced, home_at, IsGraph, IsInside, IsProgress, IsReady, needs_at, OnPath, StandsOn, Visits}
use Rattle.vg_order.proofs.Counts.{fewer-behind}

-- ---- flags and the order

abbrev Counts : List ℕ → List Bool → Type 0
Counts order placed = (n : ℕ) → count_of n order ≡ one_if (flag_at placed n)

placed-stands : (order : List ℕ) (placed : List Bool) (n : ℕ) → Counts order placed → flag_at placed n ≡ true → Stands n order
placed-stands order placed n counts t = (let c = counts n in let one = ap one_if t in omega arith)

open-none : (order : List ℕ) (placed : List Bool) (n : ℕ) → Counts order placed → flag_at placed n ≡ false → count_of n order ≡ 0
open-none order placed n counts f = counts n ∙ ap one_if f

done-up : (g : Graph) (order : List ℕ) (placed : List Bool) (unit : ℕ) → Counts order placed → AreUnitsPlaced g placed unit → AreDoneUpTo (home_at g) order g.first unit
done-up g order placed unit counts so x low high = placed-stands order placed (home_at g x) counts (so x low high)

-- ---- one more

pub next-push : (deps : List (ℕ × ℕ)) (g : Graph) (done order : List ℕ) (n : ℕ) → AreNext deps g done order → IsNextNumber deps g (done ++ order) n → AreNext deps g done (order ++ n ∷ [])
next-push deps g done [] n so next = (subst (λ l. IsNextNumber deps g l n) (append-nil done) next, tt)
next-push deps g done (m ∷ order) n so next =
    (so.0, next-push deps g (done ++ m ∷ []) order n so.1 (subst (λ l. IsNextNumber deps g l n) (sym (append_assoc done (m ∷ []) order)) next))

-- the same of the order after it
push-next : (deps : List (ℕ × ℕ)) (g : Graph) (before after : List ℕ) (n : ℕ) → AreNext deps g [] before → IsNextNumber deps g before n → after ≡ before ++ n ∷ [] → AreNext deps g [] after
push-next deps g before after n so next e = subst (AreNext deps g []) (sym e) (next-push deps g [] before n so next)

-- ---- along a path

abbrev WaitsAt : List ℕ → List Bool → ℕ → Type 0
WaitsAt homes placed v = flag_at placed (slice_index homes v) ≡ false

first-left : (homes : List ℕ) (placed : List Bool) (order us : List ℕ) (x : ℕ) → Counts order placed → ComesFirst homes placed us x → WaitsAt homes placed x → IsFirstLeft (slice_index homes) order us x
first-left homes placed order us x counts c w = (
  c.1.0,
  c.0,
  c.1.1,
  λ y s. placed-stands order placed (slice_index homes y) counts (c.1.2 y s),
  open-none order placed (slice_index homes x) counts w,
)

path-ends : (needs : ℕ → List ℕ) (homes : List ℕ) (placed : List Bool) (order path : List ℕ) (top : ℕ) → Counts order placed → AreFirst needs homes placed (path ++ top ∷ [])
    → AllByRecursion (WaitsAt homes placed) (path ++ top ∷ [])
    → ((x : ℕ) → Stands x (needs (slice_index homes top)) → flag_at placed (slice_index homes x) ≡ true)
    → EndsAt needs (slice_index homes) order (slice_index homes (slice_index (path ++ top ∷ []) 0)) (drop 1 (path ++ top ∷ [])) (slice_index homes top)
path-ends needs homes placed order [] top counts firsts waits ready = (refl, λ y s. placed-stands order placed (slice_index homes y) counts (ready y s))
path-ends needs homes placed order (u ∷ []) top counts firsts waits ready =
    (first-left homes placed order (needs (slice_index homes u)) top counts firsts.0 waits.1.0, path-ends needs homes placed order [] top counts tt waits.1 ready)
path-ends needs homes placed order (u ∷ (v ∷ vs)) top counts firsts waits ready =
    (first-left homes placed order (needs (slice_index homes u)) v counts firsts.0 waits.1.0, path-ends needs homes placed order (v ∷ vs) top counts firsts.1 waits.1 ready)

all-stand : (P : ℕ → Type 0) (xs : List ℕ) → ((x : ℕ) → Stands x xs → P x) → AllByRecursion P xs
all-stand P [] h = tt
all-stand P (x ∷ xs) h = (h x (let one : one_if (x == x) ≡ 1 = ap one_if (eq-eqb x x refl) in omega arith), all-stand P xs (λ y s. h y (omega arith)))

is-true : (b : Bool) → 0 < one_if b → b ≡ true
is-true true h = refl
is-true false h = absurd (omega arith)

path-waits : (needs : ℕ → List ℕ) (homes : List ℕ) (count : ℕ) (placed : List Bool) (path : List ℕ) (on : List Bool) (top : ℕ) → OnPath needs homes count placed path on top
    → AllByRecursion (WaitsAt homes placed) (path ++ top ∷ [])
path-waits needs homes count placed path on top p =
    let whole = path ++ top ∷ [] in
    all-stand (WaitsAt homes placed) whole (λ v s. (
    let n = slice_index homes v in
    let more = fewer-behind (slice_index homes) v whole in
    let c = p.counts n in
    p.waits n (is-true (flag_at on n) (omega arith))))

first-of : (P : ℕ → Type 0) (path : List ℕ) (top : ℕ) → AllByRecursion P (path ++ top ∷ []) → P (slice_index (path ++ top ∷ []) 0)
first-of P [] top h = h.0
first-of P (u ∷ path) top h = h.0

-- the top of a path is next where it waits for nothing
pub path-next : (deps : List (ℕ × ℕ)) (g : Graph) (before : Progress) (path : Path) (top : ℕ) (after : List ℕ) → IsProgress deps g before → StandsOn deps g before path top
    → AreUnitsPlaced g before.placed.items (slice_index (path.units.items ++ top ∷ []) 0) → IsReady deps g before.placed.items (home_at g top)
    → AreNext deps g [] before.order.items → after ≡ before.order.items ++ home_at g top ∷ [] → AreNext deps g [] after
path-next deps g before path top after is on below ready so e =
    let whole = path.units.items ++ top ∷ [] in
    let u = slice_index whole 0 in
    let order = before.order.items in
    let placed = before.placed.items in
    let inside : IsInside g u = first-of (IsInside g) path.units.items top on.1 in
    let waits = path-waits (needs_at deps g) g.homes (length g.needs) placed path.units.items path.on.items top on.0 in
    push-next deps g order after (home_at g top) so
    (inl (
      u,
      drop 1 whole,
      inside.0,
      inside.1,
      done-up g order placed u is.0.counts below,
      open-none order placed (home_at g u) is.0.counts (first-of (WaitsAt g.homes placed) path.units.items top waits),
      path-ends (needs_at deps g) g.homes placed order path.units.items top is.0.counts on.0.firsts waits ready,
    )) e

-- the node of a unit is next where it waits for nothing, and all lesser units are placed
pub unit-next : (deps : List (ℕ × ℕ)) (g : Graph) (before : Progress) (unit : ℕ) (after : List ℕ) → IsProgress deps g before → IsInside g unit
    → AreUnitsPlaced g before.placed.items unit → flag_at before.placed.items (home_at g unit) ≡ false → IsReady deps g before.placed.items (home_at g unit)
    → AreNext deps g [] before.order.items → after ≡ before.order.items ++ home_at g unit ∷ [] → AreNext deps g [] after
unit-next deps g before unit after is inside below waits ready so e =
    let order = before.order.items in
    let placed = before.placed.items in
    push-next deps g order after (home_at g unit) so
    (inl (
      unit,
      [],
      inside.0,
      inside.1,
      done-up g order placed unit is.0.counts below,
      open-none order placed (home_at g unit) is.0.counts waits,
      (refl, λ y s. placed-stands order placed (home_at g y) is.0.counts (ready y s)),
    )) e

-- so is the least node where all units are placed
pub rest-next : (deps : List (ℕ × ℕ)) (g : Graph) (before : Progress) (node : ℕ) (after : List ℕ) → IsProgress deps g before
    → AreUnitsPlaced g before.placed.items (length g.homes) → AreAllPlaced before.placed.items node → flag_at before.placed.items node ≡ false
    → AreNext deps g [] before.order.items → after ≡ before.order.items ++ node ∷ [] → AreNext deps g [] after
rest-next deps g before node after is units below waits so e =
    let order = before.order.items in
    let placed = before.placed.items in
    push-next deps g order after node so
    (inr (
      done-up g order placed (length g.homes) is.0.counts units,
      λ m h. placed-stands order placed m is.0.counts (below m h),
      open-none order placed node is.0.counts waits,
    )) e

-- and a visit of that node places it
pub rest-visited : (deps : List (ℕ × ℕ)) (g : Graph) (before after : Progress) (node : ℕ) (o : Option ℕ) → IsGraph deps g → IsProgress deps g before
    → AreUnitsPlaced g before.placed.items (length g.homes) → AreAllPlaced before.placed.items node → flag_at before.placed.items node ≡ false
    → AreNext deps g [] before.order.items → Visits deps g before after node o → AreNext deps g [] after.order.items
rest-visited deps g before after node None graph is units below waits so v = rest-next deps g before node after.order.items is units below waits so v.0
rest-visited deps g before after node (Some x) graph is units below waits so v =
    let inside = graph.units node x v.2 in
    absurd (true≢false (sym (units x inside.0 inside.1) ∙ v.3))
