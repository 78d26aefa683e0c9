-- A look along rows of units.
use Rattle.std.proofs.Common.{◌≡◌, ℕ, zero, suc, ◌+◌, ◌<◌, ◌≤◌, Bool, true, false, List, [], ◌∷◌, ◌++◌, length, drop, Some, None, refl, sym, ap, subst, ◌∙◌, inl, inr, arith, append_assoc, get_or}
use Rattle.std.specs.Prelude.{slice_index, ◌==◌}
use Rattle.std.specs.List.{concat}
use Rattle.std.proofs.lemmas.Bool.{cases_Bool, cases_lt, eqb-true}
use Rattle.std.proofs.lemmas.List.{drop_all, drop_more, get_or_past}
use Rattle.vg_shapes.specs.Order.{one_if, Stands}
use Rattle.vg_order.specs.declared.needs.Cursor.{Cursor}
use Rattle.vg_order.specs.declared.needs.Look.{Look}
use Rattle.vg_order.specs.Needs.{ArePlaced, flag_at, left_from, Looked, Passes}
use Rattle.vg_order.proofs.Counts.{stands-append}

abbrev at : ℕ → ℕ → Cursor
at row index = record { row = row; index = index }

-- where a row begins
pub left-begin : (rows : List (List ℕ)) (row : ℕ) → left_from rows (at row 0) ≡ concat (drop row rows)
left-begin rows row = elim (cases_lt row (length rows)) [
  | inl h ↦ sym (ap concat (drop_more rows row [] h))
  | inr h ↦ (λ i. get_or_past rows row [] h i ++ concat (drop_all (row + 1) rows (omega arith) i)) ∙ sym (ap concat (drop_all row rows h))
]

left-past : (rows : List (List ℕ)) (row index : ℕ) → length rows ≤ row → left_from rows (at row index) ≡ []
left-past rows row index h =
    (λ i. drop index (get_or_past rows row [] h i) ++ concat (drop_all (row + 1) rows (omega arith) i))
    ∙ ap (λ l. l ++ []) (drop_all index [] (omega arith))

-- what stands in one of two lists of placed units
placed-both : (homes : List ℕ) (placed : List Bool) (xs ys : List ℕ) → ArePlaced homes placed xs → ArePlaced homes placed ys → ArePlaced homes placed (xs ++ ys)
placed-both homes placed xs ys p q x s = elim (stands-append x xs ys s) [ inl l ↦ p x l | inr r ↦ q x r ]

pub passes-on : (homes : List ℕ) (placed : List Bool) (xs ys zs : List ℕ) → Passes homes placed xs ys → Passes homes placed ys zs → Passes homes placed xs zs
passes-on homes placed xs ys zs p q = (
  p.0 ++ q.0,
  p.1 ∙ ap (λ l. p.0 ++ l) q.1 ∙ sym (append_assoc p.0 q.0 zs),
  placed-both homes placed p.0 q.0 p.2 q.2,
)

-- the part of a list between two places
abbrev Between : List ℕ → ℕ → ℕ → List ℕ → Type 0
Between row from to part = (x : ℕ) → Stands x part → (k : ℕ) × (from ≤ k) × (k < to) × (slice_index row k ≡ x)

between : (row : List ℕ) (from to : ℕ) → from ≤ to → (part : List ℕ) × (drop from row ≡ part ++ drop to row) × Between row from to part
between row zero zero h = ([], refl, λ x s. absurd (omega arith))
between [] zero (suc to) h = ([], refl, λ x s. absurd (omega arith))
between (r ∷ row) zero (suc to) h =
    let rest = between row zero to (omega arith) in (
      r ∷ rest.0,
      ap (λ l. r ∷ l) rest.1,
      λ x s. elim (cases_Bool (x == r)) [
        | inl t ↦ (0, omega arith, omega arith, sym (eqb-true x r t))
        | inr f ↦
            let none : one_if (x == r) ≡ 0 = ap one_if f in
            let there = rest.2 x (omega arith) in
            (suc there.0, omega arith, (let b = there.2 in omega arith), there.3)
      ],
    )
between row (suc from) zero h = absurd (omega arith)
between [] (suc from) (suc to) h = ([], refl, λ x s. absurd (omega arith))
between (r ∷ row) (suc from) (suc to) h =
    let rest = between row from to (omega arith) in (
      rest.0,
      rest.1,
      λ x s. (let there = rest.2 x s in (suc there.0, (let b = there.1 in omega arith), (let b = there.2 in omega arith), there.3)),
    )

-- along one row
row-passes : (homes : List ℕ) (placed : List Bool) (row rest : List ℕ) (from to : ℕ) → (to < length row → from ≤ to)
    → ((k : ℕ) → from ≤ k → k < to → flag_at placed (slice_index homes (slice_index row k)) ≡ true)
    → Passes homes placed (drop from row ++ rest) (drop to row ++ rest)
row-passes homes placed row rest from to low known = elim (cases_lt to from) [
  | inl past ↦
      let end : length row ≤ to = elim (cases_lt to (length row)) [ inl h ↦ absurd (let b = low h in omega arith) | inr h ↦ h ] in
      ([], ap (λ l. l ++ rest) (drop_all from row (omega arith) ∙ sym (drop_all to row end)), λ x s. absurd (omega arith))
  | inr h ↦
      let part = between row from to h in (
        part.0,
        ap (λ l. l ++ rest) part.1 ∙ append_assoc part.0 (drop to row) rest,
        λ x s. (let there = part.2 x s in ap (λ y. flag_at placed (slice_index homes y)) (sym there.3) ∙ known there.0 there.1 there.2),
      )
]

pub looks-begin : (homes : List ℕ) (placed : List Bool) (xs : List ℕ) → Passes homes placed xs xs
looks-begin homes placed xs = ([], refl, λ x s. absurd (omega arith))

-- a row was passed
pub looks-more : (homes : List ℕ) (placed : List Bool) (rows : List (List ℕ)) (from : Cursor) (row index : ℕ) (units : List ℕ) (to : ℕ)
    → units ≡ get_or rows row [] → length units ≤ to
    → ((k : ℕ) → index ≤ k → k < to → flag_at placed (slice_index homes (slice_index units k)) ≡ true)
    → Passes homes placed (left_from rows from) (left_from rows (at row index))
    → Passes homes placed (left_from rows from) (left_from rows (at (row + 1) 0))
looks-more homes placed rows from row index units to is past known so =
    let behind = concat (drop (row + 1) rows) in
    let one : Passes homes placed (drop index units ++ behind) (drop to units ++ behind) = row-passes homes placed units behind index to (λ h. absurd (omega arith)) known in
    let end : drop to units ++ behind ≡ left_from rows (at (row + 1) 0) = ap (λ l. l ++ behind) (drop_all to units past) ∙ sym (left-begin rows (row + 1)) in
    passes-on homes placed (left_from rows from) (left_from rows (at row index)) (left_from rows (at (row + 1) 0)) so
    (subst (λ l. Passes homes placed (drop index l ++ behind) (left_from rows (at (row + 1) 0))) is
    (subst (Passes homes placed (drop index units ++ behind)) end one))

-- a unit is not placed
pub looks-stop : (homes : List ℕ) (placed : List Bool) (rows : List (List ℕ)) (from : Cursor) (row index : ℕ) (units : List ℕ) (to : ℕ) (look : Look)
    → units ≡ get_or rows row [] → index ≤ to → to < length units
    → ((k : ℕ) → index ≤ k → k < to → flag_at placed (slice_index homes (slice_index units k)) ≡ true)
    → flag_at placed (slice_index homes (slice_index units to)) ≡ false
    → Passes homes placed (left_from rows from) (left_from rows (at row index))
    → look ≡ record { cursor = at row to; «open» = Some (slice_index units to) }
    → Looked homes placed rows from look
looks-stop homes placed rows from row index units to look is low short known stop so e =
    let behind = concat (drop (row + 1) rows) in
    let one : Passes homes placed (drop index units ++ behind) (drop to units ++ behind) = row-passes homes placed units behind index to (λ h. low) known in
    let found : Looked homes placed rows from (record { cursor = at row to; «open» = Some (slice_index units to) }) = record {
      passes = passes-on homes placed (left_from rows from) (left_from rows (at row index)) (left_from rows (at row to)) so
          (subst (λ l. Passes homes placed (drop index l ++ behind) (drop to l ++ behind)) is one);
      stops = (drop (to + 1) units ++ behind, ap (λ l. drop to l ++ behind) (sym is) ∙ ap (λ l. l ++ behind) (drop_more units to 0 short), stop);
    } in
    subst (Looked homes placed rows from) (sym e) found

-- all rows were passed
pub looks-end : (homes : List ℕ) (placed : List Bool) (rows : List (List ℕ)) (from : Cursor) (row index count : ℕ) (look : Look)
    → count ≡ length rows → count ≤ row
    → Passes homes placed (left_from rows from) (left_from rows (at row index))
    → look ≡ record { cursor = at count 0; «open» = None }
    → Looked homes placed rows from look
looks-end homes placed rows from row index count look long past so e =
    let none : left_from rows (at row index) ≡ [] = left-past rows row index (omega arith) in
    let end : left_from rows (at count 0) ≡ [] = left-past rows count 0 (omega arith) in
    let found : Looked homes placed rows from (record { cursor = at count 0; «open» = None }) = record {
      passes = subst (Passes homes placed (left_from rows from)) (none ∙ sym end) so;
      stops = end;
    } in
    subst (Looked homes placed rows from) (sym e) found
