-- What a visit of a node keeps.
use Rattle.std.proofs.Common.{◌≡◌, ◌≢◌, ℕ, ◌+◌, ◌<◌, Bool, true, false, List, [], ◌∷◌, ◌++◌, length, refl, sym, ap, subst, ◌∙◌, inl, inr, arith, append_assoc, append-nil, Some, None}
use Rattle.std.specs.Prelude.{slice_index, slice_index_or, slice_set, ◌==◌}
use Rattle.std.proofs.lemmas.Bool.{cases_eq, eq-eqb, ne_eqb}
use Rattle.std.proofs.lemmas.List.{get_or_read, get_or-set_other, get_or-set_same, length-set}
use Rattle.vg_shapes.specs.Order.{count_of, one_if, Stands}
use Rattle.vg_order.specs.declared.graph.Graph.{Graph}
use Rattle.vg_order.specs.declared.needs.Cursor.{Cursor}
use Rattle.vg_order.specs.declared.needs.Look.{Look}
use Rattle.vg_order.specs.declared.needs.Needs.{Needs}
use Rattle.vg_order.specs.declared.needs.Needs.TheVariants.{Those}
use Rattle.vg_order.specs.declared.progress.Progress.{Progress}
use Rattle.vg_order.specs.Needs.{ArePlaced, ComesFirst, flag_at, left_from, Looked, Passes, rows_of, StopsAt}
use Rattle.vg_order.specs.Paths.{FollowsHomes, home_at, IsPlaced, IsProgress, IsReady, left_at, needs_at, rows_at, start}
use Rattle.vg_order.proofs.Counts.{count_of-append, count_of-push}
use Rattle.vg_order.proofs.Looks.{passes-on}

pub flag-still : (flags : List Bool) (m n : ℕ) → m < length flags → flag_at flags n ≡ true → flag_at (slice_set flags m true) n ≡ true
flag-still flags m n h p = elim (cases_eq n m) [
  | inl same ↦ subst (λ k. flag_at (slice_set flags m true) k ≡ true) (sym same) (get_or-set_same flags m true false h)
  | inr other ↦ get_or-set_other flags m n true false other ∙ p
]

-- one number more, and its flag
pub counts-more : (order : List ℕ) (flags : List Bool) (m n : ℕ) → m < length flags → flag_at flags m ≡ false → ((k : ℕ) → count_of k order ≡ one_if (flag_at flags k))
    → count_of n (order ++ m ∷ []) ≡ one_if (flag_at (slice_set flags m true) n)
counts-more order flags m n h f counts = count_of-push n m order ∙ elim (cases_eq n m) [
  | inl same ↦
      let one : one_if (n == m) ≡ 1 = ap one_if (eq-eqb n m same) in
      let now : one_if (flag_at (slice_set flags m true) n) ≡ 1 = ap one_if (ap (flag_at (slice_set flags m true)) same ∙ get_or-set_same flags m true false h) in
      let none : count_of n order ≡ 0 = counts n ∙ ap one_if (ap (flag_at flags) same ∙ f) in
      omega arith
  | inr other ↦
      let none : one_if (n == m) ≡ 0 = ap one_if (ne_eqb n m other) in
      let same : one_if (flag_at (slice_set flags m true) n) ≡ one_if (flag_at flags n) = ap one_if (get_or-set_other flags m n true false other) in
      omega (arith, counts n)
]

-- one node more after an order
pub follows-push : (needs : ℕ → List ℕ) (home : ℕ → ℕ) (done order : List ℕ) (m : ℕ) → FollowsHomes needs home done order
    → ((x : ℕ) → Stands x (needs m) → Stands (home x) (done ++ order)) → FollowsHomes needs home done (order ++ m ∷ [])
follows-push needs home done [] m follows here =
    (λ x s. (let t = here x s in let sum = same x done in omega arith), tt)
  where
    same : (x : ℕ) (done : List ℕ) → count_of (home x) (done ++ []) ≡ count_of (home x) done
    same x [] = refl
    same x (d ∷ done) = ap (λ n. one_if (home x == d) + n) (same x done)
follows-push needs home done (n ∷ order) m follows here = (
  follows.0,
  follows-push needs home (done ++ n ∷ []) order m follows.1
      (λ x s. subst (Stands (home x)) (sym (append_assoc done (n ∷ []) order)) (here x s)),
)

pub passes-more : (homes : List ℕ) (placed : List Bool) (m : ℕ) (xs ys : List ℕ) → m < length placed → Passes homes placed xs ys → Passes homes (slice_set placed m true) xs ys
passes-more homes placed m xs ys h p = (p.0, p.1, λ x s. flag-still placed m (slice_index homes x) h (p.2 x s))

-- where nothing is left all were placed
passed-all : (homes : List ℕ) (placed : List Bool) (xs ys : List ℕ) → Passes homes placed xs ys → ys ≡ [] → ArePlaced homes placed xs
passed-all homes placed xs ys p none x s = p.2 x (subst (Stands x) (p.1 ∙ ap (λ l. p.0 ++ l) none ∙ append-nil p.0) s)

-- a node was looked at: only for it is less left
pub placed-looked : (needs left now : ℕ → List ℕ) (homes : List ℕ) (count : ℕ) (order : List ℕ) (placed : List Bool) (m : ℕ) → IsPlaced needs left homes count order placed
    → Passes homes placed (left m) (now m) → ((n : ℕ) → n ≢ m → now n ≡ left n) → IsPlaced needs now homes count order placed
placed-looked needs left now homes count order placed m p looked others = record {
  counts = p.counts;
  follows = p.follows;
  long = p.long;
  known = λ n h. elim (cases_eq n m) [
    | inl same ↦ subst (λ k. Passes homes placed (needs k) (now k)) (sym same) (passes-on homes placed (needs m) (left m) (now m) (p.known m (subst (λ k. k < count) same h)) looked)
    | inr other ↦ subst (λ l. Passes homes placed (needs n) l) (sym (others n other)) (p.known n h)
  ];
}

-- a node of which nothing is left was placed
pub placed-more : (needs left : ℕ → List ℕ) (homes : List ℕ) (count : ℕ) (order : List ℕ) (placed : List Bool) (m : ℕ) → IsPlaced needs left homes count order placed
    → m < count → flag_at placed m ≡ false → left m ≡ [] → IsPlaced needs left homes count (order ++ m ∷ []) (slice_set placed m true)
placed-more needs left homes count order placed m p h f none =
    let inside : m < length placed = (let l = p.long in omega arith) in
    record {
      counts = λ n. counts-more order placed m n inside f p.counts;
      follows = follows-push needs (slice_index homes) [] order m p.follows (λ x s. (
          let c = p.counts (slice_index homes x) in
          let one = ap one_if (passed-all homes placed (needs m) (left m) (p.known m h) none x s) in
          omega arith));
      long = length-set placed m true ∙ p.long;
      known = λ n b. passes-more homes placed m (needs n) (left n) inside (p.known n b);
    }

-- ---- a look at a node

left-same : (deps : List (ℕ × ℕ)) (g : Graph) (cursors : List Cursor) (c : Cursor) (m n : ℕ) → n ≢ m → left_at deps g (slice_set cursors m c) n ≡ left_at deps g cursors n
left-same deps g cursors c m n other = ap (left_from (rows_at deps g n)) (get_or-set_other cursors m n c start other)

left-set : (deps : List (ℕ × ℕ)) (g : Graph) (cursors : List Cursor) (c : Cursor) (m : ℕ) → m < length cursors → left_at deps g (slice_set cursors m c) m ≡ left_from (rows_at deps g m) c
left-set deps g cursors c m h = ap (left_from (rows_at deps g m)) (get_or-set_same cursors m c start h)

-- what the look read is what stands at the node
abbrev pub Reads : Graph → List Cursor → ℕ → Needs → Cursor → Type 0
Reads g cursors m needs from =
    (needs ≡ slice_index_or g.needs m needs) × (from ≡ slice_index_or cursors m from) × (m < length g.needs) × (length cursors ≡ length g.needs)

rows-read : (deps : List (ℕ × ℕ)) (g : Graph) (cursors : List Cursor) (m : ℕ) (needs : Needs) (from : Cursor) → Reads g cursors m needs from → rows_of deps needs ≡ rows_at deps g m
rows-read deps g cursors m needs from r = ap (rows_of deps) (get_or_read g.needs m needs r.2 r.0 (Those []))

pub visit-looked : (deps : List (ℕ × ℕ)) (g : Graph) (p : Progress) (m : ℕ) (needs : Needs) (from : Cursor) (look : Look)
    → IsProgress deps g p → Reads g p.cursors.items m needs from → Looked g.homes p.placed.items (rows_of deps needs) from look
    → IsPlaced (needs_at deps g) (left_at deps g (slice_set p.cursors.items m look.cursor)) g.homes (length g.needs) p.order.items p.placed.items
    × (length (slice_set p.cursors.items m look.cursor) ≡ length g.needs)
visit-looked deps g p m needs from look is read looked =
    let cursors = p.cursors.items in
    let inside : m < length cursors = (let h = read.2 in let e = read.3 in omega arith) in
    let rows = rows-read deps g cursors m needs from read in
    let before : left_from (rows_of deps needs) from ≡ left_at deps g cursors m = λ i. left_from (rows i) (get_or_read cursors m from inside read.1 start i) in
    let behind : left_from (rows_of deps needs) look.cursor ≡ left_at deps g (slice_set cursors m look.cursor) m = ap (λ r. left_from r look.cursor) rows ∙ sym (left-set deps g cursors look.cursor m inside) in
    let passes : Passes g.homes p.placed.items (left_at deps g cursors m) (left_at deps g (slice_set cursors m look.cursor) m) =
    subst (λ l. Passes g.homes p.placed.items l (left_at deps g (slice_set cursors m look.cursor) m)) before
    (subst (Passes g.homes p.placed.items (left_from (rows_of deps needs) from)) behind looked.passes) in (
      placed-looked (needs_at deps g) (left_at deps g cursors) (left_at deps g (slice_set cursors m look.cursor)) g.homes (length g.needs) p.order.items p.placed.items m is.0 passes
          (λ n other. left-same deps g cursors look.cursor m n other),
      length-set cursors m look.cursor ∙ is.1,
    )

pub visit-placed : (deps : List (ℕ × ℕ)) (g : Graph) (p : Progress) (m : ℕ) (needs : Needs) (from : Cursor) (look : Look)
    → IsProgress deps g p → Reads g p.cursors.items m needs from → Looked g.homes p.placed.items (rows_of deps needs) from look
    → flag_at p.placed.items m ≡ false → look.«open» ≡ None
    → IsPlaced (needs_at deps g) (left_at deps g (slice_set p.cursors.items m look.cursor)) g.homes (length g.needs) (p.order.items ++ m ∷ []) (slice_set p.placed.items m true)
    × (length (slice_set p.cursors.items m look.cursor) ≡ length g.needs)
visit-placed deps g p m needs from look is read looked waits none =
    let cursors = p.cursors.items in
    let inside : m < length cursors = (let h = read.2 in let e = read.3 in omega arith) in
    let rows = rows-read deps g cursors m needs from read in
    let now = visit-looked deps g p m needs from look is read looked in
    let end : left_from (rows_of deps needs) look.cursor ≡ [] = subst (StopsAt g.homes p.placed.items (left_from (rows_of deps needs) look.cursor)) none looked.stops in
    let gone : left_at deps g (slice_set cursors m look.cursor) m ≡ [] = left-set deps g cursors look.cursor m inside ∙ ap (λ r. left_from r look.cursor) (sym rows) ∙ end in
    (placed-more (needs_at deps g) (left_at deps g (slice_set cursors m look.cursor)) g.homes (length g.needs) p.order.items p.placed.items m now.0 read.2 waits gone, now.1)

-- it waits for none
pub visit-ready : (deps : List (ℕ × ℕ)) (g : Graph) (p : Progress) (m : ℕ) (needs : Needs) (from : Cursor) (look : Look)
    → IsProgress deps g p → Reads g p.cursors.items m needs from → Looked g.homes p.placed.items (rows_of deps needs) from look → look.«open» ≡ None
    → IsReady deps g p.placed.items m
visit-ready deps g p m needs from look is read looked none =
    let cursors = p.cursors.items in
    let inside : m < length cursors = (let h = read.2 in let e = read.3 in omega arith) in
    let now = visit-looked deps g p m needs from look is read looked in
    let end : left_from (rows_of deps needs) look.cursor ≡ [] = subst (StopsAt g.homes p.placed.items (left_from (rows_of deps needs) look.cursor)) none looked.stops in
    let gone : left_at deps g (slice_set cursors m look.cursor) m ≡ [] = left-set deps g cursors look.cursor m inside ∙ ap (λ r. left_from r look.cursor) (sym (rows-read deps g cursors m needs from read)) ∙ end in
    passed-all g.homes p.placed.items (needs_at deps g m) (left_at deps g (slice_set cursors m look.cursor) m) (now.0.known m read.2) gone

-- the unit for which it waits
pub visit-waits : (deps : List (ℕ × ℕ)) (g : Graph) (p : Progress) (m x : ℕ) (needs : Needs) (from : Cursor) (look : Look)
    → IsProgress deps g p → Reads g p.cursors.items m needs from → Looked g.homes p.placed.items (rows_of deps needs) from look → look.«open» ≡ Some x
    → Stands x (needs_at deps g m) × (flag_at p.placed.items (home_at g x) ≡ false) × ComesFirst g.homes p.placed.items (needs_at deps g m) x
visit-waits deps g p m x needs from look is read looked some =
    let cursors = p.cursors.items in
    let inside : m < length cursors = (let h = read.2 in let e = read.3 in omega arith) in
    let now = visit-looked deps g p m needs from look is read looked in
    let stop = subst (StopsAt g.homes p.placed.items (left_from (rows_of deps needs) look.cursor)) some looked.stops in
    let left : left_at deps g (slice_set cursors m look.cursor) m ≡ x ∷ stop.0 = left-set deps g cursors look.cursor m inside ∙ ap (λ r. left_from r look.cursor) (sym (rows-read deps g cursors m needs from read)) ∙ stop.1 in
    let first : ComesFirst g.homes p.placed.items (needs_at deps g m) x = (stop.0, subst (Passes g.homes p.placed.items (needs_at deps g m)) left (now.0.known m read.2)) in
    let here : Stands x (x ∷ stop.0) = (let one : one_if (x == x) ≡ 1 = ap one_if (eq-eqb x x refl) in omega arith) in
    let there : Stands x (needs_at deps g m) = subst (Stands x) (sym first.1.1) (let sum = count_of-append x first.1.0 (x ∷ stop.0) in omega arith) in
    (there, stop.2, first)
