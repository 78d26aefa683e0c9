-- A path of waiting nodes: going up, going back, and closing it to a cycle.
use Rattle.std.proofs.Common.{◌≡◌, ◌≢◌, ℕ, zero, suc, ◌+◌, ◌-◌, ◌*◌, ◌<◌, ◌≤◌, Bool, true, false, List, [], ◌∷◌, ◌++◌, length, drop, map, Option, Some, None, refl, sym, ap, subst, ◌∙◌, inl, inr, arith}
use Rattle.std.specs.Prelude.{slice_index, slice_set, ◌==◌}
use Rattle.std.specs.List.{AllByRecursion}
use Rattle.std.proofs.lemmas.Bool.{cases_eq, cases_lt, eq-eqb, ne_eqb, true≢false}
use Rattle.std.proofs.lemmas.List.{drop-map, drop_more, get_or-map, get_or-set_other, get_or-set_same, get_or_append_left, get_or_past, length-map, length-set, length_push, map-append}
use Rattle.vg_shapes.specs.Order.{count_of, one_if, Stands}
use Rattle.vg_order.specs.declared.graph.Graph.{Graph}
use Rattle.vg_order.specs.declared.paths.Path.{Path}
use Rattle.vg_order.specs.declared.progress.Progress.{Progress}
use Rattle.vg_order.specs.Needs.{ComesFirst, flag_at}
use Rattle.vg_order.specs.Paths.{AreFirst, ClosesBy, count_true, GoesBack, home_at, IsClosing, IsInside, IsOff, LeadsBack, LeadsUp, needs_at, OnPath, StandsOn, Steps}
use Rattle.vg_order.specs.ByList.{AreOnce}
use Rattle.vg_order.proofs.Counts.{count_of-drop, count_of-push, stands_where}
use Rattle.vg_order.proofs.Placing.{counts-more, passes-more}

-- ---- what leads on

up-push : (needs : ℕ → List ℕ) (home : ℕ → ℕ) (path : List ℕ) (top next : ℕ) → LeadsUp needs home (path ++ top ∷ []) → Stands next (needs (home top)) → LeadsUp needs home ((path ++ top ∷ []) ++ next ∷ [])
up-push needs home [] top next h g = (g, tt)
up-push needs home (n ∷ []) top next h g = (h.0, (g, tt))
up-push needs home (n ∷ (m ∷ ns)) top next h g = (h.0, up-push needs home (m ∷ ns) top next h.1 g)

up-front : (needs : ℕ → List ℕ) (home : ℕ → ℕ) (path : List ℕ) (top : ℕ) → LeadsUp needs home (path ++ top ∷ []) → LeadsUp needs home path
up-front needs home [] top h = tt
up-front needs home (n ∷ []) top h = tt
up-front needs home (n ∷ (m ∷ ns)) top h = (h.0, up-front needs home (m ∷ ns) top h.1)

up-close : (needs : ℕ → List ℕ) (home : ℕ → ℕ) (path : List ℕ) (top x end : ℕ) → LeadsUp needs home (path ++ top ∷ []) → Stands x (needs (home top)) → home x ≡ end → LeadsBack needs home end (path ++ top ∷ [])
up-close needs home [] top x end h s e = (x, s, e)
up-close needs home (n ∷ []) top x end h s e = (h.0, (x, s, e))
up-close needs home (n ∷ (m ∷ ns)) top x end h s e = (h.0, up-close needs home (m ∷ ns) top x end h.1 s e)

back-drop : (needs : ℕ → List ℕ) (home : ℕ → ℕ) (end : ℕ) (path : List ℕ) (k : ℕ) → LeadsBack needs home end path → LeadsBack needs home end (drop k path)
back-drop needs home end path zero h = h
back-drop needs home end [] (suc k) h = h
back-drop needs home end (n ∷ []) (suc zero) h = tt
back-drop needs home end (n ∷ []) (suc (suc k)) h = tt
back-drop needs home end (n ∷ (m ∷ ns)) (suc k) h = back-drop needs home end (m ∷ ns) k h.1

-- what comes first as more is placed, and along a path that grows, and that ends one unit before
first-more : (homes : List ℕ) (placed : List Bool) (m : ℕ) (us : List ℕ) (x : ℕ) → m < length placed → ComesFirst homes placed us x → ComesFirst homes (slice_set placed m true) us x
first-more homes placed m us x h c = (c.0, passes-more homes placed m us (x ∷ c.0) h c.1)

firsts-push : (needs : ℕ → List ℕ) (homes : List ℕ) (placed : List Bool) (path : List ℕ) (top next : ℕ) → AreFirst needs homes placed (path ++ top ∷ []) → ComesFirst homes placed (needs (slice_index homes top)) next
    → AreFirst needs homes placed ((path ++ top ∷ []) ++ next ∷ [])
firsts-push needs homes placed [] top next h c = (c, tt)
firsts-push needs homes placed (n ∷ []) top next h c = (h.0, (c, tt))
firsts-push needs homes placed (n ∷ (m ∷ ns)) top next h c = (h.0, firsts-push needs homes placed (m ∷ ns) top next h.1 c)

firsts-back : (needs : ℕ → List ℕ) (homes : List ℕ) (placed : List Bool) (k : ℕ) (path : List ℕ) (top : ℕ) → k < length placed → AreFirst needs homes placed (path ++ top ∷ [])
    → AreFirst needs homes (slice_set placed k true) path
firsts-back needs homes placed k [] top h f = tt
firsts-back needs homes placed k (n ∷ []) top h f = tt
firsts-back needs homes placed k (n ∷ (m ∷ ns)) top h f = (first-more homes placed k (needs (slice_index homes n)) m h f.0, firsts-back needs homes placed k (m ∷ ns) top h f.1)

-- each of a list
all-push : (P : ℕ → Type 0) (xs : List ℕ) (x : ℕ) → AllByRecursion P xs → P x → AllByRecursion P (xs ++ x ∷ [])
all-push P [] x h p = (p, tt)
all-push P (y ∷ ys) x h p = (h.0, all-push P ys x h.1 p)

all-front : (P : ℕ → Type 0) (xs : List ℕ) (x : ℕ) → AllByRecursion P (xs ++ x ∷ []) → AllByRecursion P xs
all-front P [] x h = tt
all-front P (y ∷ ys) x h = (h.0, all-front P ys x h.1)

pub all-drop : (P : ℕ → Type 0) (k : ℕ) (xs : List ℕ) → AllByRecursion P xs → AllByRecursion P (drop k xs)
all-drop P zero xs h = h
all-drop P (suc k) [] h = tt
all-drop P (suc k) (x ∷ xs) h = all-drop P k xs h.1

-- a path with its top that leads back to a node on it, from that node on
pub closes-path : (needs : ℕ → List ℕ) (homes : List ℕ) (count : ℕ) (placed : List Bool) (path : List ℕ) (on : List Bool) (top x node : ℕ) (units : List ℕ)
    → OnPath needs homes count placed path on top → Stands x (needs (slice_index homes top)) → slice_index homes x ≡ node → flag_at on node ≡ true
    → IsClosing homes path top node units → ClosesBy needs (slice_index homes) units
closes-path needs homes count placed path on top x node units p s e t c =
    let whole = path ++ top ∷ [] in
    let home = slice_index homes in
    let first = c.0 in
    elim (cases_lt first (length whole)) [
      | inr past ↦ absurd (
          let one : count_of node (map home whole) ≡ 1 = p.counts node ∙ ap one_if t in
          let at = stands_where node (map home whole) (omega arith) in
          let inside : at.0 < length whole = (let l = length-map whole home in let b = at.1 in omega arith) in
          c.4 (let r = c.2 in omega arith) at.0 inside (sym (get_or-map home whole at.0 0 0 inside) ∙ at.2))
      | inl inside ↦
          let u = slice_index whole first in
          let cut : drop first whole ≡ u ∷ drop (first + 1) whole = drop_more whole first 0 inside in
          let back : LeadsBack needs home node (u ∷ drop (first + 1) whole) =
          subst (LeadsBack needs home node) cut (back-drop needs home node whole first (up-close needs home path top x node p.leads s e)) in
          subst (ClosesBy needs home) (sym (c.1 ∙ cut)) (subst (λ n. LeadsBack needs home n (u ∷ drop (first + 1) whole)) (sym (c.3 inside)) back)
    ]

-- ---- counting flags

count_true-set : (flags : List Bool) (m : ℕ) → m < length flags → flag_at flags m ≡ false → count_true (slice_set flags m true) ≡ count_true flags + 1
count_true-set [] m h f = absurd (omega arith)
count_true-set (b ∷ bs) zero h f = omega (arith, ap one_if f)
count_true-set (b ∷ bs) (suc m) h f = omega (arith, count_true-set bs m (omega arith) f)

count_true-clear : (flags : List Bool) (m : ℕ) → m < length flags → flag_at flags m ≡ true → count_true (slice_set flags m false) + 1 ≡ count_true flags
count_true-clear [] m h t = absurd (omega arith)
count_true-clear (b ∷ bs) zero h t = omega (arith, ap one_if t)
count_true-clear (b ∷ bs) (suc m) h t = omega (arith, count_true-clear bs m (omega arith) t)

none-true : (flags : List Bool) → ((n : ℕ) → flag_at flags n ≡ false) → count_true flags ≡ 0
none-true [] h = refl
none-true (b ∷ bs) h = omega (arith, ap one_if (h 0), none-true bs (λ n. h (suc n)))

at_most : (b : Bool) → one_if b ≤ 1
at_most true = omega arith
at_most false = omega arith

is-true : (b : Bool) → 0 < one_if b → b ≡ true
is-true true h = refl
is-true false h = absurd (omega arith)

is-false : (b : Bool) → one_if b ≡ 0 → b ≡ false
is-false true h = absurd (omega arith)
is-false false h = refl

-- of the units of a cycle no two are of one node
pub closes-once : (needs : ℕ → List ℕ) (homes : List ℕ) (count : ℕ) (placed : List Bool) (path : List ℕ) (on : List Bool) (top node : ℕ) (units : List ℕ)
    → OnPath needs homes count placed path on top → IsClosing homes path top node units → AreOnce (map (slice_index homes) units)
closes-once needs homes count placed path on top node units p c n =
    let home = slice_index homes in
    let whole = path ++ top ∷ [] in
    let e : map home units ≡ drop c.0 (map home whole) = ap (map home) c.1 ∙ sym (drop-map home c.0 whole) in
    let left = count_of-drop n c.0 (map home whole) in
    let most = at_most (flag_at on n) in
    omega (arith, ap (count_of n) e, left, p.counts n, most)

inside_from : (on : List Bool) (k n : ℕ) → length on ≡ n → flag_at on k ≡ true → k < n
inside_from on k n e t = elim (cases_lt k n) [ inl h ↦ h | inr past ↦ absurd (true≢false (sym t ∙ get_or_past on k false (omega arith))) ]

-- what is on the path and what is placed are apart
apart-most : (on placed : List Bool) → length on ≡ length placed → ((n : ℕ) → flag_at on n ≡ true → flag_at placed n ≡ false) → count_true on + count_true placed ≤ length placed
apart-most [] [] e h = omega arith
apart-most [] (p ∷ ps) e h = absurd (omega arith)
apart-most (o ∷ os) [] e h = absurd (omega arith)
apart-most (true ∷ os) (true ∷ ps) e h = absurd (true≢false (h 0 refl))
apart-most (true ∷ os) (false ∷ ps) e h = omega (arith, apart-most os ps (omega arith) (λ n t. h (suc n) t))
apart-most (false ∷ os) (true ∷ ps) e h = omega (arith, apart-most os ps (omega arith) (λ n t. h (suc n) t))
apart-most (false ∷ os) (false ∷ ps) e h = omega (arith, apart-most os ps (omega arith) (λ n t. h (suc n) t))

-- ---- steps

homes-push : (homes : List ℕ) (path : List ℕ) (top n : ℕ) → count_of n (map (slice_index homes) (path ++ top ∷ [])) ≡ count_of n (map (slice_index homes) path) + one_if (n == slice_index homes top)
homes-push homes path top n = ap (count_of n) (map-append (slice_index homes) path (top ∷ [])) ∙ count_of-push n (slice_index homes top) (map (slice_index homes) path)

on-top : (needs : ℕ → List ℕ) (homes : List ℕ) (count : ℕ) (placed : List Bool) (path : List ℕ) (on : List Bool) (top : ℕ) → OnPath needs homes count placed path on top → flag_at on (slice_index homes top) ≡ true
on-top needs homes count placed path on top p =
    let node = slice_index homes top in
    is-true (flag_at on node) (let c = p.counts node in let q = homes-push homes path top node in let one : one_if (node == node) ≡ 1 = ap one_if (eq-eqb node node refl) in omega arith)

pub top-waits : (needs : ℕ → List ℕ) (homes : List ℕ) (count : ℕ) (placed : List Bool) (path : List ℕ) (on : List Bool) (top : ℕ) → OnPath needs homes count placed path on top → flag_at placed (slice_index homes top) ≡ false
top-waits needs homes count placed path on top p = p.waits (slice_index homes top) (on-top needs homes count placed path on top p)

path-up : (needs : ℕ → List ℕ) (homes : List ℕ) (count : ℕ) (placed : List Bool) (path : List ℕ) (on : List Bool) (top next : ℕ) → OnPath needs homes count placed path on top
    → slice_index homes next < count → Stands next (needs (slice_index homes top)) → flag_at on (slice_index homes next) ≡ false → flag_at placed (slice_index homes next) ≡ false
    → ComesFirst homes placed (needs (slice_index homes top)) next
    → OnPath needs homes count placed (path ++ top ∷ []) (slice_set on (slice_index homes next) true) next
path-up needs homes count placed path on top next p h s off waits first =
    let home = slice_index homes in
    let node = home next in
    let inside : node < length on = (let l = p.long in omega arith) in
    record {
      leads = up-push needs home path top next p.leads s;
      firsts = firsts-push needs homes placed path top next p.firsts first;
      counts = λ n. ap (count_of n) (map-append home (path ++ top ∷ []) (next ∷ [])) ∙ counts-more (map home (path ++ top ∷ [])) on node n inside off p.counts;
      waits = λ n t. elim (cases_eq n node) [
        | inl same ↦ ap (flag_at placed) same ∙ waits
        | inr other ↦ p.waits n (sym (get_or-set_other on node n true false other) ∙ t)
      ];
      long = length-set on node true ∙ p.long;
      node = h;
      size = (let a = length_push path top in let b = count_true-set on node inside off in let z = p.size in omega arith);
    }

off-one : (on : List Bool) (top n : ℕ) → top < length on → flag_at (slice_set on top false) n ≡ true → (n ≢ top) × (flag_at on n ≡ true)
off-one on top n h t = elim (cases_eq n top) [
  | inl same ↦ absurd (true≢false (sym t ∙ ap (flag_at (slice_set on top false)) same ∙ get_or-set_same on top false false h))
  | inr other ↦ (other, sym (get_or-set_other on top n false false other) ∙ t)
]

-- the top was placed, and the path goes back to the unit below it
path-back : (needs : ℕ → List ℕ) (homes : List ℕ) (count : ℕ) (placed : List Bool) (front : List ℕ) (on : List Bool) (below top : ℕ) → length placed ≡ count → OnPath needs homes count placed (front ++ below ∷ []) on top
    → OnPath needs homes count (slice_set placed (slice_index homes top) true) front (slice_set on (slice_index homes top) false) below
path-back needs homes count placed front on below top so_long p =
    let home = slice_index homes in
    let node = home top in
    let inside : node < length on = (let l = p.long in let n = p.node in omega arith) in
    record {
      leads = up-front needs home (front ++ below ∷ []) top p.leads;
      firsts = firsts-back needs homes placed node (front ++ below ∷ []) top (let n = p.node in omega arith) p.firsts;
      counts = λ n. (let c = p.counts n in let q = homes-push homes (front ++ below ∷ []) top n in elim (cases_eq n node) [
        | inl same ↦
            let one : one_if (n == node) ≡ 1 = ap one_if (eq-eqb n node same) in
            let most : one_if (flag_at on n) ≤ 1 = at_most (flag_at on n) in
            let now : one_if (flag_at (slice_set on node false) n) ≡ 0 = ap one_if (ap (flag_at (slice_set on node false)) same ∙ get_or-set_same on node false false inside) in
            omega arith
        | inr other ↦
            let none : one_if (n == node) ≡ 0 = ap one_if (ne_eqb n node other) in
            let now : one_if (flag_at (slice_set on node false) n) ≡ one_if (flag_at on n) = ap one_if (get_or-set_other on node n false false other) in
            omega arith
      ]);
      waits = λ n t. (let x = off-one on node n inside t in get_or-set_other placed node n true false x.0 ∙ p.waits n x.1);
      long = length-set on node false ∙ p.long;
      node = (
          let m = home below in
          let c = p.counts m in
          let a = homes-push homes (front ++ below ∷ []) top m in
          let b = homes-push homes front below m in
          let one : one_if (m == m) ≡ 1 = ap one_if (eq-eqb m m refl) in
          inside_from on m count p.long (is-true (flag_at on m) (omega arith)));
      size = (let a = length_push front below in let b = count_true-clear on node inside (on-top needs homes count placed (front ++ below ∷ []) on top p) in let z = p.size in omega arith);
    }

-- the first one was placed
path-off : (needs : ℕ → List ℕ) (homes : List ℕ) (count : ℕ) (placed : List Bool) (on : List Bool) (top : ℕ) → OnPath needs homes count placed [] on top → IsOff count [] (slice_set on (slice_index homes top) false)
path-off needs homes count placed on top p =
    let node = slice_index homes top in
    let inside : node < length on = (let l = p.long in let n = p.node in omega arith) in (
      refl,
      length-set on node false ∙ p.long,
      λ n. elim (cases_eq n node) [
        | inl same ↦ ap (flag_at (slice_set on node false)) same ∙ get_or-set_same on node false false inside
        | inr other ↦ get_or-set_other on node n false false other ∙ is-false (flag_at on n) (let c = p.counts n in let none : one_if (n == node) ≡ 0 = ap one_if (ne_eqb n node other) in omega arith)
      ],
    )

pub path-start : (needs : ℕ → List ℕ) (homes : List ℕ) (count : ℕ) (placed : List Bool) (path : List ℕ) (on : List Bool) (unit : ℕ) → IsOff count path on → slice_index homes unit < count → flag_at placed (slice_index homes unit) ≡ false
    → OnPath needs homes count placed path (slice_set on (slice_index homes unit) true) unit
path-start needs homes count placed path on unit off h w =
    let node = slice_index homes unit in
    let inside : node < length on = (let l = off.1 in omega arith) in
    let begin : OnPath needs homes count placed [] (slice_set on node true) unit = record {
      leads = tt;
      firsts = tt;
      counts = λ n. counts-more [] on node n inside (off.2 node) (λ k. ap one_if (sym (off.2 k)));
      waits = λ n t. elim (cases_eq n node) [
        | inl same ↦ ap (flag_at placed) same ∙ w
        | inr other ↦ absurd (true≢false (sym t ∙ get_or-set_other on node n true false other ∙ off.2 n))
      ];
      long = length-set on node true ∙ off.1;
      node = h;
      size = (let a = count_true-set on node inside (off.2 node) in let b = none-true on off.2 in let c : length {A = ℕ} [] ≡ 0 = refl in omega arith);
    } in
    subst (λ (q : List ℕ). OnPath needs homes count placed q (slice_set on node true) unit) (sym off.0) begin

pub steps-back : (deps : List (ℕ × ℕ)) (g : Graph) (before after : Progress) (was path : Path) (top : ℕ) (to : Option ℕ) → StandsOn deps g before was top
    → length before.placed.items ≡ length g.needs
    → after.placed.items ≡ slice_set before.placed.items (home_at g top) true → path.on.items ≡ slice_set was.on.items (home_at g top) false
    → GoesBack was.units.items path.units.items to → Steps deps g before after was path top to
steps-back deps g before after was path top None p l e o m =
    let needs = needs_at deps g in
    let count = length g.needs in
    let first : OnPath needs g.homes count before.placed.items [] was.on.items top = subst (λ (q : List ℕ). OnPath needs g.homes count before.placed.items q was.on.items top) m.0 p.0 in
    let off = path-off needs g.homes count before.placed.items was.on.items top first in
    ((m.1, ap length o ∙ off.1, λ n. ap (λ (l : List Bool). flag_at l n) o ∙ off.2 n), m.0, e)
steps-back deps g before after was path top (Some below) p l e o m =
    let needs = needs_at deps g in
    let count = length g.needs in
    let front = path.units.items in
    let longer : OnPath needs g.homes count before.placed.items (front ++ below ∷ []) was.on.items top = subst (λ (q : List ℕ). OnPath needs g.homes count before.placed.items q was.on.items top) m p.0 in
    let back = path-back needs g.homes count before.placed.items front was.on.items below top l longer in
    let size : length front + 1 ≡ length was.units.items = sym (ap length m ∙ length_push front below) in
    let same : slice_index (front ++ below ∷ []) 0 ≡ slice_index (was.units.items ++ top ∷ []) 0 =
    ap (λ (l : List ℕ). slice_index l 0) (sym m) ∙ sym (get_or_append_left was.units.items (top ∷ []) 0 0 (omega arith)) in (
      (
        subst (λ (q : List Bool). OnPath needs g.homes count q front path.on.items below) (sym e)
            (subst (λ (q : List Bool). OnPath needs g.homes count (slice_set before.placed.items (home_at g top) true) front q below) (sym o) back),
        subst (AllByRecursion (IsInside g)) m (all-front (IsInside g) was.units.items top p.1),
      ),
      same,
      inr (e, size),
    )

pub steps-up : (deps : List (ℕ × ℕ)) (g : Graph) (before after : Progress) (was path : Path) (top next : ℕ) → StandsOn deps g before was top
    → home_at g next < length g.needs → Stands next (needs_at deps g (home_at g top)) → flag_at was.on.items (home_at g next) ≡ false → flag_at before.placed.items (home_at g next) ≡ false
    → ComesFirst g.homes before.placed.items (needs_at deps g (home_at g top)) next
    → after.placed.items ≡ before.placed.items → path.units.items ≡ was.units.items ++ top ∷ [] → path.on.items ≡ slice_set was.on.items (home_at g next) true → IsInside g next
    → Steps deps g before after was path top (Some next)
steps-up deps g before after was path top next p h s off waits first e u o inside =
    let needs = needs_at deps g in
    let count = length g.needs in
    let up = path-up needs g.homes count before.placed.items was.units.items was.on.items top next p.0 h s off waits first in
    let size = length_push was.units.items top in
    let same : slice_index (path.units.items ++ next ∷ []) 0 ≡ slice_index (was.units.items ++ top ∷ []) 0 =
    ap (λ (l : List ℕ). slice_index (l ++ next ∷ []) 0) u ∙ get_or_append_left (was.units.items ++ top ∷ []) (next ∷ []) 0 0 (omega arith) in (
      (
        subst (λ (q : List Bool). OnPath needs g.homes count q path.units.items path.on.items next) (sym e)
            (subst (λ (q : List ℕ). OnPath needs g.homes count before.placed.items q path.on.items next) (sym u)
            (subst (λ (q : List Bool). OnPath needs g.homes count before.placed.items (was.units.items ++ top ∷ []) q next) (sym o) up)),
        subst (λ (l : List ℕ). AllByRecursion (IsInside g) (l ++ next ∷ [])) (sym u) (all-push (IsInside g) (was.units.items ++ top ∷ []) next p.1 inside),
      ),
      same,
      inl (e, ap length u ∙ size),
    )

-- ---- the whole climb

pub path-shorter : (deps : List (ℕ × ℕ)) (g : Graph) (before after : Progress) (was path : Path) (top next : ℕ) → StandsOn deps g before was top
    → length before.placed.items ≡ length g.needs → length after.placed.items ≡ length g.needs → Steps deps g before after was path top (Some next)
    → 2 * (length after.placed.items - count_true after.placed.items) - length path.units.items < 2 * (length before.placed.items - count_true before.placed.items) - length was.units.items
path-shorter deps g before after was path top next stands l m s =
    let p = stands.0 in
    let q = s.0.0 in
    let node = home_at g top in
    let a = apart-most was.on.items before.placed.items (p.long ∙ sym l) p.waits in
    let b = apart-most path.on.items after.placed.items (q.long ∙ sym m) q.waits in
    let c = p.size in
    let d = q.size in
    elim s.2 [
      | inl up ↦ (let e = ap count_true up.0 in let f = up.1 in omega arith)
      | inr back ↦ (let n = p.node in
          let e = ap count_true back.0 ∙ count_true-set before.placed.items node (omega arith) (top-waits (needs_at deps g) g.homes (length g.needs) before.placed.items was.units.items was.on.items top p) in
          let f = back.1 in omega arith)
    ]
