-- The scalar program of a kernel has no difference to it.
use Rattle.std.proofs.Common.{◌≡◌, ℕ, zero, suc, ◌+◌, ◌-◌, ◌<◌, ◌≤◌, Bool, true, false, cond, List, [], ◌∷◌, ◌++◌, length, map, take, drop, Option, Some, None, refl, sym, ap, subst, ◌∙◌, inl, inr, arith, append_assoc, append-nil, length-append}
use Rattle.std.specs.Prelude.{filter, if◌then◌else◌, nat_lt, not, position, slice_index_or, ◌||◌, ◌&&◌}
use Rattle.std.specs.List.{find, list_any, position_or_len}
use Rattle.std.specs.Option.{option_map, option_or}
use Rattle.std.specs.Str.{bytes_eq}
use Rattle.std.proofs.lemmas.Bool.{cases_Bool, cond-true, cond-false, eq-eqb, le-ltb}
use Rattle.std.proofs.lemmas.List.{length-drop, length-map, length_push, take_at}
use Rattle.std.proofs.lemmas.Slice.Eq.{bytes_eq-Decides}
use Rattle.vg_base.specs.Trap.{◌>>=◌}
use Rattle.vg_base.specs.declared.width.Width.{Width}
use Rattle.vg_base.specs.Width.{bits_of}
use Rattle.vg_terms.specs.Order.{is_same_term}
use Rattle.vg_terms.specs.Term.{Tree}
use Rattle.vg_terms.proofs.Orders.{same_term-means}
use Rattle.vg_program.specs.declared.operand.Operand.{Operand as Number}
use Rattle.vg_program.specs.declared.operand.Operand.TheVariants.{Argument, Register}
use Rattle.vg_shapes.specs.declared.access.Access.{Access}
use Rattle.vg_shapes.specs.declared.ssa.Ssa.{Ssa}
use Rattle.vg_shapes.specs.declared.ssa.SsaParam.{SsaParam}
use Rattle.vg_shapes.specs.declared.ssa.SsaParamKind.{SsaParamKind}
use Rattle.vg_shapes.specs.declared.ssa.SsaParamKind.TheVariants.{Pointer, Integer}
use Rattle.vg_shapes.specs.declared.ssa_unit.Operator.{Operator}
use Rattle.vg_shapes.specs.declared.ssa_unit.Operator.TheVariants as operator
use Rattle.vg_shapes.specs.declared.ssa_unit.SsaUnit.{SsaUnit}
use Rattle.vg_shapes.specs.declared.ssa_unit.SsaUnit.TheVariants.{Load, Store, Operation}
use Rattle.vg_shapes.specs.Layout.{access_of, noalias_flags}
use Rattle.vg_shapes.specs.Order.{count_of, numbers_from}
use Rattle.vg_shapes.specs.Sound.{IsSound, pointers, TakeEarlier}
use Rattle.vg_shapes.specs.Units.{arguments, integers, unit_at}
use Rattle.vg_order_laws.proofs.Runs.{unit-there}
use Rattle.vg_ssa.specs.ValueTerm.{no_term}
use Rattle.vg_ssa.specs.ValueTerm as kernel
use Rattle.vg_ssa.proofs.Typing.{UnitsIn}
use Rattle.vg_emission.specs.Emission.{operation_line}
use Rattle.vg_emission.specs.Program.{kind_of, param_of}
use Rattle.vg_emission.specs.Scalar.{argument_names, is_needed, lines_of_units, scalar_lines, scalar_operand, scalar_program}
use Rattle.vg_lift.specs.Gather.{bits_from}
use Rattle.vg_catalog.specs.Entries.{Entry}
use Rattle.vg_events.specs.Events.{kernel_labels, Label, labels, labels_in, unit_labels}
use Rattle.vg_events.specs.Lines.{line_access}
use Rattle.vg_events.specs.Orders.{LinesInOrder}
use Rattle.vg_events.specs.Pairs.{AreEvents, joined}
use Rattle.vg_events.specs.Ranks.{by_rank, count_label}
use Rattle.vg_events.specs.UnitOrder.{is_out_of_order, spans, unit_events}
use Rattle.vg_events.proofs.UnitOrder.{event-order-is-by-units}
use Rattle.vg_known.specs.Cuts.{gathered}
use Rattle.vg_known.specs.Difference.{access, Difference, difference, difference_by, equal_terms, first_of, is_opaque_call, is_uneven, lines_by_rank, opaque, opaque_line, order, other_value, own_term, put_term, Sides, sides_of, turned_units, uneven_label, unit_numbers, unit_pairs, value_by}
use Rattle.vg_known.specs.Difference.{value as differs}
use Rattle.vg_known.specs.Kernels.{argument_leaves, bits_at, kernel_terms, Terms, terms_behind, unit_term, with_term}
use Rattle.vg_known.specs.Known.{event_bits, operand_term}
use Rattle.vg_known.specs.Labels.{least_label}
use Rattle.vg_known.specs.Params.{same_head, same_kind, same_params}
use Rattle.vg_known.proofs.Begin.{argument_bits, leaves-long, units-in}
use Rattle.vg_known.proofs.Same.{begin_terms, given_of, nothing_known, terms-front}
use Rattle.vg_known.proofs.Stored.{span-at}
use Rattle.vg_known_scalar.specs.Laws.{ScalarProgramsAreSame}
use Rattle.vg_known_scalar.proofs.Cutting.{term-itself}
use Rattle.vg_known_scalar.proofs.Found.{all-put, all-read, AllPut, count_in, puts_from, UnitPuts}
use Rattle.vg_known_scalar.proofs.Names.{IsThere, Named}
use Rattle.vg_known_scalar.proofs.Needing.{all-need}
use Rattle.vg_known_scalar.proofs.Rows.{by_rank-own, joined-spans, rows-in-order}
use Rattle.vg_known_scalar.proofs.Walk.{Followed, operation-access, walk}

-- ---- name and parameters

bytes-itself : (a : List ℕ) → bytes_eq a a ≡ true
bytes-itself a = (bytes_eq-Decides a a).1 refl

kind-itself : (k : SsaParamKind) → same_kind k (kind_of k) ≡ true
kind-itself (Pointer noalias) = refl
kind-itself (Integer w) = eq-eqb (bits_of w) (bits_of w) refl

params-itself : (ps : List SsaParam) → same_params ps (map param_of ps) ≡ true
params-itself [] = refl
params-itself (p ∷ ps) = (λ i. (bytes-itself p.name i && kind-itself p.kind i) && params-itself ps i)

head-itself : (ssa : Ssa) → same_head ssa (scalar_program ssa) ≡ true
head-itself ssa = (λ i. bytes-itself ssa.name i && params-itself ssa.params i)

-- ---- calls

place-end : {A : Type 0} (p : A → Bool) (xs : List A) → list_any p xs ≡ false → position_or_len p xs ≡ length xs
place-end p [] h = refl
place-end p (x ∷ xs) h = elim (cases_Bool (p x)) [
  | inl t ↦ absurd (let both : true ≡ false = sym (ap (λ b. b || list_any p xs) t) ∙ h in cc)
  | inr f ↦
      let rest = place-end p xs (sym (ap (λ b. b || list_any p xs) f) ∙ h) in
      (let at : position_or_len p (x ∷ xs) ≡ 1 + position_or_len p xs = ap (λ b. cond (not b) (1 + position_or_len p xs) 0) f in omega arith)
]

position-none : {A : Type 0} (p : A → Bool) (xs : List A) → list_any p xs ≡ false → position p xs ≡ None
position-none p xs h = (let past : nat_lt (position_or_len p xs) (length xs) ≡ false = le-ltb _ _ (let e = place-end p xs h in omega arith) in cond-false _ _ _ past)

operation-plain : (entries : List Entry) (op : Operator) (w : Width) (n : ℕ) (a b c : Number) → is_opaque_call entries (operation_line op w n a b c) ≡ false
operation-plain entries (operator.Two op) w n a b c = refl
operation-plain entries (operator.Shift op) w n a b c = refl
operation-plain entries (operator.Resize op v) w n a b c = refl
operation-plain entries (operator.Compare op) w n a b c = refl
operation-plain entries operator.Select w n a b c = refl

no-calls : (entries : List Entry) (needed : ℕ → Bool) (k : ℕ) (names : List Number) (us : List SsaUnit) → list_any (is_opaque_call entries) (scalar_lines needed k names us) ≡ false
no-calls entries needed k names [] = refl
no-calls entries needed k names (Load a w ∷ us) = no-calls entries needed (k + 1) (names ++ Register k ∷ []) us
no-calls entries needed k names (Store a w x ∷ us) = no-calls entries needed k (names ++ Register 0 ∷ []) us
no-calls entries needed k names (Operation op w n xs ∷ us) =
    let x = scalar_operand names xs.first in
    let y = scalar_operand names xs.second in
    let z = scalar_operand names xs.third in
    let Goal : Bool → Type 0 = λ b. list_any (is_opaque_call entries) (if b then operation_line op w n x y z ∷ scalar_lines needed (k + 1) (names ++ Register k ∷ []) us else scalar_lines needed k (names ++ Register 0 ∷ []) us) ≡ false in
    elim (cases_Bool (needed (length names))) [
      | inl t ↦ subst Goal (sym t) (ap (λ b. b || list_any (is_opaque_call entries) (scalar_lines needed (k + 1) (names ++ Register k ∷ []) us)) (operation-plain entries op w n x y z) ∙ no-calls entries needed (k + 1) (names ++ Register k ∷ []) us)
      | inr f ↦ subst Goal (sym f) (no-calls entries needed k (names ++ Register 0 ∷ []) us)
    ]

none-opaque : (entries : List Entry) (ssa : Ssa) → opaque_line entries (scalar_program ssa) ≡ None
none-opaque entries ssa =
    ap (option_map (λ i. opaque (i + 2))) (position-none (is_opaque_call entries) (lines_of_units ssa) (no-calls entries (is_needed ssa) 0 (argument_names 0 (arguments ssa)) ssa.units))

-- ---- labels

scalar-labels : (needed : ℕ → Bool) (k : ℕ) (names : List Number) (us : List SsaUnit) → labels (map line_access (scalar_lines needed k names us)) ≡ unit_labels us
scalar-labels needed k names [] = refl
scalar-labels needed k names (Load a w ∷ us) = ap (λ l. labels_in (access_of (Load a w)) ++ l) (scalar-labels needed (k + 1) (names ++ Register k ∷ []) us)
scalar-labels needed k names (Store a w x ∷ us) = ap (λ l. labels_in (access_of (Store a w x)) ++ l) (scalar-labels needed k (names ++ Register 0 ∷ []) us)
scalar-labels needed k names (Operation op w n xs ∷ us) =
    let x = scalar_operand names xs.first in
    let y = scalar_operand names xs.second in
    let z = scalar_operand names xs.third in
    let with_lines = scalar_lines needed (k + 1) (names ++ Register k ∷ []) us in
    let Goal : Bool → Type 0 = λ b. labels (map line_access (if b then operation_line op w n x y z ∷ with_lines else scalar_lines needed k (names ++ Register 0 ∷ []) us)) ≡ unit_labels us in
    elim (cases_Bool (needed (length names))) [
      | inl t ↦ subst Goal (sym t) (ap (λ (o : Option Access). labels (o ∷ map line_access with_lines)) (operation-access op w n x y z) ∙ scalar-labels needed (k + 1) (names ++ Register k ∷ []) us)
      | inr f ↦ subst Goal (sym f) (scalar-labels needed k (names ++ Register 0 ∷ []) us)
    ]

abbrev accesses_of : Ssa → List (Option Access)
accesses_of ssa = map line_access (lines_of_units ssa)

same-labels : (ssa : Ssa) → labels (accesses_of ssa) ≡ kernel_labels ssa
same-labels ssa = scalar-labels (is_needed ssa) 0 (argument_names 0 (arguments ssa)) ssa.units

filter-nothing : {A : Type 0} (P : A → Bool) (xs : List A) → ((x : A) → P x ≡ false) → filter P xs ≡ []
filter-nothing P [] h = refl
filter-nothing P (x ∷ xs) h = cond-false _ _ _ (h x) ∙ filter-nothing P xs h

none-uneven : (ls ms : List Label) → ms ≡ ls → uneven_label ls ms ≡ None
none-uneven ls ms e =
    ap (uneven_label ls) e
    ∙ ap (λ (l : List Label). option_map (λ m. access m (count_label m ls) (count_label m ls)) (least_label l))
    (filter-nothing (is_uneven ls ls) (ls ++ ls) (λ l. ap not (eq-eqb (count_label l ls) (count_label l ls) refl)))

-- ---- order

find-nothing : {A : Type 0} (P : A → Bool) (xs : List A) → ((x : A) → P x ≡ false) → find P xs ≡ None
find-nothing P [] h = refl
find-nothing P (x ∷ xs) h = cond-false _ _ _ (h x) ∙ find-nothing P xs h

rows : (ssa : Ssa) → lines_by_rank ssa (scalar_program ssa) ≡ spans 0 (accesses_of ssa)
rows ssa = ap (λ ls. by_rank ls (accesses_of ssa)) (sym (same-labels ssa)) ∙ by_rank-own (accesses_of ssa)

none-turned : (ssa : Ssa) → turned_units ssa (spans 0 (accesses_of ssa)) ≡ None
none-turned ssa =
    let xs = accesses_of ssa in
    let same = same-labels ssa in
    let once : AreEvents (kernel_labels ssa) (joined (spans 0 xs)) = λ e. ap (count_of e) (joined-spans 0 xs ∙ ap (λ l. numbers_from 0 (length l)) same) in
    let in_order : LinesInOrder (noalias_flags ssa) (kernel_labels ssa) (spans 0 xs) = subst (λ ls. LinesInOrder (noalias_flags ssa) ls (spans 0 xs)) same (rows-in-order (noalias_flags ssa) xs) in
    let none = event-order-is-by-units ssa (spans 0 xs) once in_order in
    ap (option_map (λ (p : ℕ × ℕ). order p.0 p.1)) (find-nothing (λ (p : ℕ × ℕ). is_out_of_order ssa (spans 0 xs) p.0 p.1) (unit_pairs (unit_numbers ssa)) (λ p. none p.0 p.1))

-- ---- what is known at the begin

any-at : {A : Type 0} (p : A → Bool) (xs : List A) (j : ℕ) (d : A) → j < length xs → p (slice_index_or xs j d) ≡ true → list_any p xs ≡ true
any-at p [] j d less h = absurd (omega arith)
any-at p (x ∷ xs) zero d less h = ap (λ b. b || list_any p xs) h
any-at p (x ∷ xs) (suc j) d less h = or-true (p x) (list_any p xs) (any-at p xs j d (omega arith) h)
  where
    or-true : (a b : Bool) → b ≡ true → (a || b) ≡ true
    or-true true b h = refl
    or-true false b h = h

length-names : (k n : ℕ) → length (argument_names k n) ≡ n
length-names k zero = refl
length-names k (suc n) = ap suc (length-names (k + 1) n)

name-at : (k n v : ℕ) → v < n → slice_index_or (argument_names k n) v (Register 0) ≡ Argument (k + v)
name-at k zero v less = absurd (omega arith)
name-at k (suc n) zero less = (let e : k ≡ k + 0 = omega arith in ap Argument e)
name-at k (suc n) (suc v) less = name-at (k + 1) n v (omega arith) ∙ (let e : k + 1 + v ≡ k + suc v = omega arith in ap Argument e)

terms-long : (flags : List Bool) (first : ℕ) (done : List SsaUnit) (s : Terms) (us : List SsaUnit) → length (terms_behind flags first done s us).terms ≡ length s.terms + length us
terms-long flags first done s [] = omega arith
terms-long flags first done s (u ∷ us) =
    let own = unit_term flags first done s u in
    let rest = terms-long flags first (done ++ u ∷ []) (with_term s u own) us in
    let one = length_push s.terms own in
    omega (arith, rest, one)

abbrev leaves_of : Ssa → List Tree
leaves_of ssa = argument_leaves 0 (integers ssa)

begins : (ssa : Ssa) → take (arguments ssa) (kernel_terms ssa).terms ≡ leaves_of ssa
begins ssa =
    let front = terms-front (noalias_flags ssa) (arguments ssa) [] (begin_terms ssa) ssa.units in
    ap (take (arguments ssa)) front.1 ∙ take_at (leaves_of ssa) front.0 (arguments ssa) (leaves-long 0 (integers ssa))

begun : (entries : List Entry) (ssa : Ssa) → Named (is_needed ssa) (given_of entries ssa) (leaves_of ssa) (nothing_known ssa) (arguments ssa) (argument_bits (integers ssa)) (argument_names 0 (arguments ssa)) (leaves_of ssa)
begun entries ssa = record {
  bits_long = length-map (integers ssa) _;
  names_long = length-names 0 (arguments ssa);
  terms_long = leaves-long 0 (integers ssa);
  each = λ j less w e. (
    any-at (is_same_term (slice_index_or (leaves_of ssa) j no_term)) (leaves_of ssa) j no_term (let l = leaves-long 0 (integers ssa) in omega (arith, l, less)) (term-itself (slice_index_or (leaves_of ssa) j no_term)),
    λ n. named j less,
  );
}
  where
    named : (j : ℕ) → j < arguments ssa → IsThere 0 (slice_index_or (argument_names 0 (arguments ssa)) j (Register 0)) × (operand_term (given_of entries ssa) (nothing_known ssa) (slice_index_or (argument_names 0 (arguments ssa)) j (Register 0)) ≡ slice_index_or (leaves_of ssa) j no_term)
    named j less =
        let is : slice_index_or (argument_names 0 (arguments ssa)) j (Register 0) ≡ Argument j = name-at 0 (arguments ssa) j less ∙ (let e : 0 + j ≡ j = omega arith in ap Argument e) in
        subst (λ x. IsThere 0 x × (operand_term (given_of entries ssa) (nothing_known ssa) x ≡ slice_index_or (leaves_of ssa) j no_term)) (sym is)
        (tt, ap (λ l. slice_index_or l j no_term) (begins ssa))

-- ---- values

abbrev sides : List Entry → Ssa → Sides
sides entries ssa = sides_of entries ssa (scalar_program ssa) (spans 0 (accesses_of ssa))

followed : (entries : List Entry) (ssa : Ssa) → IsSound ssa → Followed (kernel_terms ssa).met (puts_from (kernel_terms ssa).terms 0 ssa.units) (sides entries ssa).known
followed entries ssa sound =
    let a = arguments ssa in
    let ts = (kernel_terms ssa).terms in
    let g = given_of entries ssa in
    let units = units-in ssa [] ssa.units refl (subst (λ k. TakeEarlier k ssa.units) (let e : a ≡ a + 0 = omega arith in e) sound.earlier) sound.units in
    let units_here = subst (λ l. UnitsIn (length (pointers ssa)) l ssa.units) (append-nil (argument_bits (integers ssa))) units in
    let size = terms-long (noalias_flags ssa) a [] (begin_terms ssa) ssa.units in
    let many = leaves-long 0 (integers ssa) in
    let enough : length ssa.units ≤ length (drop a ts) = omega (arith, length-drop a ts, size, many) in
    walk (is_needed ssa) g (noalias_flags ssa) a (length (pointers ssa)) (kernel_terms ssa) 0 a 0 (argument_bits (integers ssa)) (argument_names 0 a) [] (begin_terms ssa) ssa.units (nothing_known ssa) (record {
      whole = refl;
      named = begun entries ssa;
      many = refl;
      met = refl;
      units = units_here;
      need = all-need ssa [] ssa.units a sound.earlier refl (omega arith);
      reads = all-read g.reads [] ts 0 a ssa.units (drop a ts) refl tt refl enough;
    })

labels-push : (done : List SsaUnit) (u : SsaUnit) → length (unit_labels (done ++ u ∷ [])) ≡ length (unit_labels done) + count_in u
labels-push [] u = length-append (labels_in (access_of u)) [] ∙ omega arith
labels-push (d ∷ done) u =
    let own = length-append (labels_in (access_of d)) (unit_labels (done ++ u ∷ [])) in
    let old = length-append (labels_in (access_of d)) (unit_labels done) in
    let rest = labels-push done u in
    omega (arith, own, old, rest)

unit-same : (ssa : Ssa) (s : Sides) (f v : ℕ) (done : List SsaUnit) (u : SsaUnit) (us : List SsaUnit) → ssa.units ≡ done ++ u ∷ us → length (unit_labels done) ≡ f → arguments ssa + length done ≡ v → AllPut (bits_at s.known.puts) s.terms f (u ∷ us) → value_by equal_terms s ssa v ≡ None
unit-same ssa s f v done u us whole long at put = ap (λ (o : Option SsaUnit). (o >>= own_term s) >>= tested) there ∙ by u put.0 events
  where
    tested : Tree → Option Difference
    tested own = if is_same_term own (put_term s ssa v) then None else Some (differs v own (put_term s ssa v))

    there : unit_at ssa v ≡ Some u
    there = unit-there ssa done u us v whole (sym at)

    events : unit_events ssa v ≡ numbers_from f (count_in u)
    events =
        (λ i. slice_index_or (spans 0 (map access_of (whole i))) ((let k : v - arguments ssa ≡ length done = omega arith in k) i) [])
        ∙ span-at 0 done u us ∙ ap (λ n. numbers_from n (count_in u)) (let e : 0 + length (unit_labels done) ≡ f = omega (arith, long) in e)

    by : (w : SsaUnit) → UnitPuts (bits_at s.known.puts) s.terms f w → unit_events ssa v ≡ numbers_from f (count_in w) → (own_term s w >>= tested) ≡ None
    by (Load a w) p e = refl
    by (Operation op w k xs) p e = refl
    by (Store a w x) p e =
        let equal : gathered s.known.met (bits_from (kernel.operand_term s.terms x) 0 (bits_of w)) ≡ put_term s ssa v = sym (ap (gathered s.known.met) (ap (event_bits (bits_at s.known.puts)) e ∙ p)) in
        cond-true _ _ _ ((same_term-means _ _).1 equal)

values-same : (ssa : Ssa) (s : Sides) (f v : ℕ) (done us : List SsaUnit) → ssa.units ≡ done ++ us → length (unit_labels done) ≡ f → arguments ssa + length done ≡ v → AllPut (bits_at s.known.puts) s.terms f us → first_of (map (value_by equal_terms s ssa) (numbers_from v (length us))) ≡ None
values-same ssa s f v done [] whole long at put = refl
values-same ssa s f v done (u ∷ us) whole long at put =
    let here = unit-same ssa s f v done u us whole long at put in
    let rest = values-same ssa s (f + count_in u) (v + 1) (done ++ u ∷ []) us (whole ∙ sym (append_assoc done (u ∷ []) us)) (labels-push done u ∙ ap (λ n. n + count_in u) long) (let l = length_push done u in omega (arith, l, at)) put.1 in
    (λ i. option_or (here i) (rest i))

none-other : (entries : List Entry) (ssa : Ssa) → IsSound ssa → other_value equal_terms entries ssa (scalar_program ssa) (spans 0 (accesses_of ssa)) ≡ None
none-other entries ssa sound =
    let s = sides entries ssa in
    let walked = followed entries ssa sound in
    values-same ssa s 0 (arguments ssa) [] ssa.units refl refl (omega arith)
    (all-put s.known.puts [] s.terms 0 ssa.units walked.puts_are tt)

-- ---- no difference

pub scalar-programs-are-same : ScalarProgramsAreSame
unfolding difference_by
scalar-programs-are-same entries ssa sound =
    let p = scalar_program ssa in
    let none_opaque = none-opaque entries ssa in
    let none_uneven = none-uneven (kernel_labels ssa) (labels (accesses_of ssa)) (same-labels ssa) in
    let none_turned = ap (turned_units ssa) (rows ssa) ∙ none-turned ssa in
    let none_other = ap (other_value equal_terms entries ssa p) (rows ssa) ∙ none-other entries ssa sound in
    cond-true _ _ _ (head-itself ssa) ∙ (λ i. first_of (none_opaque i ∷ none_uneven i ∷ none_turned i ∷ none_other i ∷ []))
