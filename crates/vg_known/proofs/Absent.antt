-- What holds where there is no difference.
use Rattle.std.proofs.Common.{◌≡◌, ℕ, zero, suc, ◌+◌, ◌-◌, ◌<◌, ◌≤◌, Bool, true, false, List, [], ◌∷◌, ◌++◌, length, map, Option, Some, None, refl, sym, ap, ◌∙◌, inl, inr, arith}
use Rattle.std.specs.Prelude.{◌||◌, if◌then◌else◌, filter, nat_eq, nat_lt, not, slice_get, ◌&&◌}
use Rattle.std.specs.List.{find, list_any}
use Rattle.std.specs.Option.{option_map, option_or}
use Rattle.std.proofs.lemmas.Bool.{cases_Bool, cases_lt, cond-true, cond-false, eqb-true, le-ltb, lt-ltb, ltb-true}
use Rattle.vg_base.specs.Trap.{◌>>=◌}
use Rattle.vg_program.specs.declared.program.Program.{Program}
use Rattle.vg_terms.specs.Term.{Tree}
use Rattle.vg_shapes.specs.declared.access.Access.{Access}
use Rattle.vg_shapes.specs.declared.ssa.Ssa.{Ssa}
use Rattle.vg_shapes.specs.declared.ssa_unit.SsaUnit.{SsaUnit}
use Rattle.vg_shapes.specs.Depends.{conflict_at, conflict_of}
use Rattle.vg_shapes.specs.Layout.{access_at, access_of, noalias_flags}
use Rattle.vg_shapes.specs.Order.{numbers_from, one_if, Stands}
use Rattle.vg_shapes.specs.Units.{arguments, unit_at}
use Rattle.vg_catalog.specs.Entries.{Entry}
use Rattle.vg_events.specs.Events.{kernel_labels, Label}
use Rattle.vg_events.specs.Lines.{line_labels}
use Rattle.vg_events.specs.Ranks.{count_label, SameCounts, same_label}
use Rattle.vg_events.specs.UnitOrder.{is_late, is_out_of_order, unit_events}
use Rattle.vg_events.proofs.Ranks.{numbers-inside, same-labels}
use Rattle.vg_known.specs.Difference.{Difference, difference_by, Equality, equal_terms, first_of, is_uneven, opaque_line, other_value, own_term, params, put_term, lines_by_rank, Sides, sides_of, turned_units, uneven_label, unit_numbers, unit_pairs, value as differs, value_by}
use Rattle.vg_known.specs.Laws.{SameIsSameWithMore}
use Rattle.vg_known.specs.WiderDifference.{equal_wholes, equal_wider, wholes_of}
use Rattle.vg_known.specs.Labels.{least_label}
use Rattle.vg_known.specs.Params.{same_head}

-- ---- the parts

both-none : {A : Type 0} (x y : Option A) → option_or x y ≡ None → (x ≡ None) × (y ≡ None)
both-none None y h = (refl, h)
both-none (Some a) y h = absurd (cc)

mapped-none : {A B : Type 0} (f : A → B) (x : Option A) → option_map f x ≡ None → x ≡ None
mapped-none f None h = refl
mapped-none f (Some a) h = absurd (cc)

pub record Absent (equal : Equality) (entries : List Entry) (ssa : Ssa) (p : Program) : Type 0 where
  pub head : same_head ssa p ≡ true
  pub opaque_none : opaque_line entries p ≡ None
  pub uneven : uneven_label (kernel_labels ssa) (line_labels p.lines) ≡ None
  pub turned : turned_units ssa (lines_by_rank ssa p) ≡ None
  pub values : other_value equal entries ssa p (lines_by_rank ssa p) ≡ None

pub absent : (equal : Equality) (entries : List Entry) (ssa : Ssa) (p : Program)
    → difference_by equal entries ssa p ≡ None → Absent equal entries ssa p
unfolding difference_by
absent equal entries ssa p h = elim (cases_Bool (same_head ssa p)) [
  | inr f ↦ absurd (let some : Some params ≡ None = sym (cond-false _ _ _ f) ∙ h in cc)
  | inl t ↦
      let all : first_of (opaque_line entries p ∷ uneven_label (kernel_labels ssa) (line_labels p.lines) ∷ turned_units
      ssa (lines_by_rank ssa p) ∷ other_value equal entries ssa p (lines_by_rank ssa p) ∷ []) ≡ None = sym
      (cond-true _ _ _ t) ∙ h in
      let one = both-none (opaque_line entries p)
      (first_of (uneven_label (kernel_labels ssa) (line_labels p.lines) ∷ turned_units ssa (lines_by_rank ssa p) ∷
      other_value equal entries ssa p (lines_by_rank ssa p) ∷ [])) all in
      let two = both-none (uneven_label (kernel_labels ssa) (line_labels p.lines))
      (first_of (turned_units ssa (lines_by_rank ssa p) ∷ other_value equal entries ssa p (lines_by_rank ssa p) ∷
      [])) one.1 in
      let three = both-none (turned_units ssa (lines_by_rank ssa p))
      (first_of (other_value equal entries ssa p (lines_by_rank ssa p) ∷ [])) two.1 in
      let four = both-none (other_value equal entries ssa p (lines_by_rank ssa p)) None three.1 in
      record { head = t; opaque_none = one.0; uneven = two.0; turned = three.0; values = four.0 }
]

pub present : (equal : Equality) (entries : List Entry) (ssa : Ssa) (p : Program) → Absent equal entries ssa p
    → difference_by equal entries ssa p ≡ None
unfolding difference_by
present equal entries ssa p h =
    cond-true _ _ _ h.head
    ∙ (λ i. first_of (h.opaque_none i ∷ h.uneven i ∷ h.turned i ∷ h.values i ∷ []))

-- ---- counts

none-least : (ls : List Label) → least_label ls ≡ None → ls ≡ []
none-least [] h = refl
none-least (l ∷ ls) h = absurd (cc)

filtered : {A : Type 0} (P : A → Bool) (x : A) (xs : List A) → filter P (x ∷ xs) ≡ [] → (P x ≡ false) × (filter P xs ≡ [])
filtered P x xs h = elim (cases_Bool (P x)) [
  | inl t ↦ absurd (let some : x ∷ filter P xs ≡ [] = sym (cond-true _ _ _ t) ∙ h in cc)
  | inr f ↦ (f, sym (cond-false _ _ _ f) ∙ h)
]

none-left : (P : Label → Bool) (l : Label) (xs : List Label) → filter P xs ≡ [] → 0 < count_label l xs → P l ≡ false
none-left P l [] h s = absurd (omega arith)
none-left P l (x ∷ xs) h s =
    let parts = filtered P x xs h in
    elim (cases_Bool (same_label l x)) [
      | inl t ↦ ap P (same-labels l x t) ∙ parts.0
      | inr f ↦ none-left P l xs parts.1 (let none : one_if (same_label l x) ≡ 0 = ap one_if f in omega arith)
    ]

count-both : (l : Label) (xs ys : List Label) → count_label l (xs ++ ys) ≡ count_label l xs + count_label l ys
count-both l [] ys = omega arith
count-both l (x ∷ xs) ys = omega (arith, count-both l xs ys)

not-false : (b : Bool) → not b ≡ false → b ≡ true
not-false true h = refl
not-false false h = absurd (cc)

pub same-counts : (ls ms : List Label) → uneven_label ls ms ≡ None → SameCounts ls ms
same-counts ls ms h l =
    let none = none-least (filter (is_uneven ls ms) (ls ++ ms)) (mapped-none _ (least_label (filter (is_uneven ls ms) (ls ++ ms))) h) in
    elim (cases_lt 0 (count_label l (ls ++ ms))) [
      | inl some ↦ eqb-true (count_label l ls) (count_label l ms) (not-false (nat_eq (count_label l ls) (count_label l ms)) (none-left (is_uneven ls ms) l (ls ++ ms) none some))
      | inr empty ↦ omega (arith, count-both l ls ms)
    ]

-- ---- order

find-none : {A : Type 0} (P : A → Bool) (x : A) (xs : List A) → find P (x ∷ xs) ≡ None → (P x ≡ false) × (find P xs ≡ None)
find-none P x xs h = elim (cases_Bool (P x)) [
  | inl t ↦ absurd (let some : Some x ≡ None = sym (cond-true _ _ _ t) ∙ h in cc)
  | inr f ↦ (f, sym (cond-false _ _ _ f) ∙ h)
]

find-behind : {A : Type 0} (P : A → Bool) (xs ys : List A) → find P (xs ++ ys) ≡ None → (find P xs ≡ None) × (find P ys ≡ None)
find-behind P [] ys h = (refl, h)
find-behind P (x ∷ xs) ys h =
    let parts = find-none P x (xs ++ ys) h in
    let rest = find-behind P xs ys parts.1 in
    (cond-false _ _ _ parts.0 ∙ rest.0, rest.1)

-- no pair with this first number
pairs-none : (P : (ℕ × ℕ) → Bool) (v w : ℕ) (vs : List ℕ) → find P (map (λ x. (v, x)) vs) ≡ None → Stands w vs → P (v, w) ≡ false
pairs-none P v w [] h s = absurd (omega arith)
pairs-none P v w (x ∷ vs) h s =
    let parts = find-none P (v, x) (map (λ y. (v, y)) vs) h in
    elim (cases_Bool (nat_eq w x)) [
      | inl t ↦ ap (λ y. P (v, y)) (eqb-true w x t) ∙ parts.0
      | inr f ↦ pairs-none P v w vs parts.1 (let none : one_if (nat_eq w x) ≡ 0 = ap one_if f in omega arith)
    ]

-- none among the pairs of numbers in a row
row-none : (P : (ℕ × ℕ) → Bool) (first n v w : ℕ) → find P (unit_pairs (numbers_from first n)) ≡ None → first ≤ v → v < w → w < first + n → P (v, w) ≡ false
row-none P first zero v w h low less high = absurd (omega arith)
row-none P first (suc n) v w h low less high =
    let parts = find-behind P (map (λ x. (first, x)) (numbers_from (first + 1) n)) (unit_pairs (numbers_from (first + 1) n)) h in
    elim (cases_lt first v) [
      | inl later ↦ row-none P (first + 1) n v w parts.1 (omega arith) less (omega arith)
      | inr here ↦
          let is : v ≡ first = omega arith in
          ap (λ x. P (x, w)) is ∙ pairs-none P first w (numbers_from (first + 1) n) parts.0 (let one = numbers-inside w (first + 1) n (omega arith) (omega arith) in omega arith)
    ]

-- only units access something
unit-inside : (ssa : Ssa) (v : ℕ) (x : Access) → access_at ssa v ≡ Some x → (arguments ssa ≤ v) × (v < arguments ssa + length ssa.units)
unit-inside ssa v x e = elim (cases_lt v (arguments ssa)) [
  | inl less ↦ absurd (let none : access_at ssa v ≡ None = ap (λ (u : Option SsaUnit). u >>= access_of) (cond-true _ _ _ (lt-ltb v (arguments ssa) less)) in let both : None ≡ Some x = sym none ∙ e in cc)
  | inr above ↦
      let got : (slice_get ssa.units (v - arguments ssa) >>= access_of) ≡ Some x = sym (ap (λ (u : Option SsaUnit). u >>= access_of) (cond-false _ _ _ (le-ltb v (arguments ssa) above))) ∙ e in
      let inside = get-inside ssa.units (v - arguments ssa) x got in
      (above, omega arith)
]
  where
    get-inside : (us : List SsaUnit) (k : ℕ) (x : Access) → (slice_get us k >>= access_of) ≡ Some x → k < length us
    get-inside [] k x h = absurd (cc)
    get-inside (u ∷ us) zero x h = omega arith
    get-inside (u ∷ us) (suc k) x h = let rest = get-inside us k x h in omega arith

and-parts : (a b : Bool) → (a && b) ≡ true → (a ≡ true) × (b ≡ true)
and-parts true b h = (refl, h)
and-parts false b h = absurd (cc)

first-access : (flags : List Bool) (x y : Option Access) → conflict_of flags x y ≡ true → ((a : Access) × (x ≡ Some a)) × ((b : Access) × (y ≡ Some b))
first-access flags None y h = absurd (cc)
first-access flags (Some a) None h = absurd (cc)
first-access flags (Some a) (Some b) h = ((a, refl), (b, refl))

pub none-turned : (ssa : Ssa) (lines : List (List ℕ)) → turned_units ssa lines ≡ None → (v w : ℕ) → is_out_of_order ssa lines v w ≡ false
none-turned ssa lines h v w = elim (cases_Bool (is_out_of_order ssa lines v w)) [
  | inr f ↦ f
  | inl t ↦
      let one = and-parts (nat_lt v w) (conflict_at ssa v w && list_any (λ x. list_any (is_late ssa lines x) (unit_events ssa w)) (unit_events ssa v)) t in
      let two = and-parts (conflict_at ssa v w) (list_any (λ x. list_any (is_late ssa lines x) (unit_events ssa w)) (unit_events ssa v)) one.1 in
      let less = ltb-true v w one.0 in
      let both = first-access (noalias_flags ssa) (access_at ssa v) (access_at ssa w) two.0 in
      let vin = unit-inside ssa v both.0.0 both.0.1 in
      let win = unit-inside ssa w both.1.0 both.1.1 in
      row-none (λ p. is_out_of_order ssa lines p.0 p.1) (arguments ssa) (length ssa.units) v w (mapped-none _ (find (λ p. is_out_of_order ssa lines p.0 p.1) (unit_pairs (unit_numbers ssa))) h) vin.0 less win.1
]

-- ---- values

first-none : {A : Type 0} (f : ℕ → Option A) (first n v : ℕ) → first_of (map f (numbers_from first n)) ≡ None → first ≤ v → v < first + n → f v ≡ None
first-none f first zero v h low high = absurd (omega arith)
first-none f first (suc n) v h low high =
    let parts = both-none (f first) (first_of (map f (numbers_from (first + 1) n))) h in
    elim (cases_lt first v) [
      | inl later ↦ first-none f (first + 1) n v parts.1 (omega arith) (omega arith)
      | inr here ↦ (let is : v ≡ first = omega arith in ap f is ∙ parts.0)
    ]

pub none-other : (equal : Equality) (entries : List Entry) (ssa : Ssa) (p : Program) (lines : List (List ℕ))
    → other_value equal entries ssa p lines ≡ None →
    (v : ℕ) → arguments ssa ≤ v → v < arguments ssa + length ssa.units → value_by equal (sides_of entries ssa p lines)
    ssa v ≡ None
none-other equal entries ssa p lines h v low high =
    first-none (value_by equal (sides_of entries ssa p lines) ssa) (arguments ssa) (length ssa.units) v h low high

-- ---- with more

first-absent : {A : Type 0} (f g : ℕ → Option A) (vs : List ℕ) → ((v : ℕ) → f v ≡ None → g v ≡ None)
    → first_of (map f vs) ≡ None → first_of (map g vs) ≡ None
first-absent f g [] h e = refl
first-absent f g (v ∷ vs) h e =
    let parts = both-none (f v) (first_of (map f vs)) e in
    (λ i. option_or (h v parts.0 i) (first_of (map g vs))) ∙ first-absent f g vs h parts.1

-- a store whose terms are equal as they stand has none with more
wider-value : (s : Sides) (ssa : Ssa) (v : ℕ) → value_by equal_terms s ssa v ≡ None
    → value_by equal_wider s ssa v ≡ None
wider-value s ssa v h = by (unit_at ssa v >>= own_term s) h
  where
    told : Equality → Tree → Option Difference
    told equal own = if equal s.known.met own (put_term s ssa v) then None else Some (differs v own (put_term s ssa v))

    by : (o : Option Tree) → (o >>= told equal_terms) ≡ None → (o >>= told equal_wider) ≡ None
    by None e = refl
    by (Some own) e = elim (cases_Bool (equal_terms s.known.met own (put_term s ssa v))) [
      | inl t ↦
          let wider : equal_wider s.known.met own (put_term s ssa v) ≡ true = ap
          (λ b. b || equal_wholes (wholes_of s.known.met) own (put_term s ssa v)) t in
          cond-true _ _ _ wider
      | inr f ↦ absurd (let there : Some (differs v own (put_term s ssa v)) ≡ None = sym (cond-false _ _ _ f) ∙ e in cc)
    ]

pub same-is-same-with-more : SameIsSameWithMore
same-is-same-with-more entries ssa p h =
    let a = absent equal_terms entries ssa p h in
    present equal_wider entries ssa p (record {
      head = a.head;
      opaque_none = a.opaque_none;
      uneven = a.uneven;
      turned = a.turned;
      values =
          first-absent (value_by equal_terms (sides_of entries ssa p (lines_by_rank ssa p)) ssa)
          (value_by equal_wider (sides_of entries ssa p (lines_by_rank ssa p)) ssa)
          (unit_numbers ssa) (wider-value (sides_of entries ssa p (lines_by_rank ssa p)) ssa) a.values;
    })
