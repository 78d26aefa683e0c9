-- Which units are out of order, told by their events alone.
use Rattle.std.proofs.Common.{◌≡◌, ℕ, zero, suc, ◌+◌, ◌-◌, ◌<◌, ◌≤◌, Bool, true, List, [], ◌∷◌, length, take, Option, Some, sym, ap, subst, ◌∙◌, arith, length-append}
use Rattle.std.specs.Prelude.{◌&&◌, nat_le, nat_lt, slice_index_or}
use Rattle.std.specs.List.{list_any}
use Rattle.std.proofs.lemmas.Bool.{lt-ltb}
use Rattle.vg_shapes.specs.declared.access.Access.{Access}
use Rattle.vg_shapes.specs.declared.ssa.Ssa.{Ssa}
use Rattle.vg_shapes.specs.Depends.{conflict, conflict_at, conflict_of}
use Rattle.vg_shapes.specs.Layout.{access_at, noalias_flags}
use Rattle.vg_shapes.specs.Order.{Stands}
use Rattle.vg_shapes.specs.Units.{arguments}
use Rattle.vg_events.specs.Events.{byte_access, kernel_labels, Label, label_at, labels, labels_in}
use Rattle.vg_events.specs.Orders.{line_of}
use Rattle.vg_events.specs.UnitOrder.{is_late, is_out_of_order, may_meet, spans, unit_events}
use Rattle.vg_events.proofs.Owners.{moved, owns, unit_accesses}
use Rattle.vg_events.proofs.Ranks.{number-inside}
use Rattle.vg_events.proofs.UnitOrder.{any-there, byte-conflict, conflict-byte}
use Rattle.vg_paired.specs.Rows.{is_early}
use Rattle.vg_paired.specs.Sweeps.{between}
use Rattle.vg_paired.proofs.Lowering.{and-parts, any-some, both-ways}
use Rattle.vg_paired.proofs.Turning.{span-at}

-- ---- events of two units

-- the events of the unit in a place
pub events-at : (ssa : Ssa) (k : ℕ) → k < length (unit_accesses ssa) →
    unit_events ssa (arguments ssa + k) ≡ between (length (labels (take k (unit_accesses ssa)))) (length (labels (take (suc k) (unit_accesses ssa))))
events-at ssa k h =
    let same : (arguments ssa + k) - arguments ssa ≡ k = omega arith in
    let low : 0 + length (labels (take k (unit_accesses ssa))) ≡ length (labels (take k (unit_accesses ssa))) = omega arith in
    let high : 0 + length (labels (take (suc k) (unit_accesses ssa))) ≡ length (labels (take (suc k) (unit_accesses ssa))) = omega arith in
    ap (λ n. slice_index_or (spans 0 (unit_accesses ssa)) n []) same ∙ span-at 0 (unit_accesses ssa) k h ∙ (λ i. between (low i) (high i))

pub labels-rise : (xs : List (Option Access)) (k : ℕ) → length (labels (take k xs)) ≤ length (labels (take (suc k) xs))
labels-rise [] zero = omega arith
labels-rise [] (suc k) = omega arith
labels-rise (x ∷ xs) zero = omega arith
labels-rise (x ∷ xs) (suc k) =
    omega (arith, labels-rise xs k, length-append (labels_in x) (labels (take k xs)), length-append (labels_in x) (labels (take (suc k) xs)))

pub labels-most : (xs : List (Option Access)) (k : ℕ) → length (labels (take k xs)) ≤ length (labels xs)
labels-most [] zero = omega arith
labels-most [] (suc k) = omega arith
labels-most (x ∷ xs) zero = omega arith
labels-most (x ∷ xs) (suc k) =
    omega (arith, labels-most xs k, length-append (labels_in x) (labels (take k xs)), length-append (labels_in x) (labels xs))

event-below : (ssa : Ssa) (k e : ℕ) → k < length (unit_accesses ssa) → Stands e (unit_events ssa (arguments ssa + k)) → e < length (kernel_labels ssa)
event-below ssa k e h s =
    let xs = unit_accesses ssa in
    let at : Stands e (between (length (labels (take k xs))) (length (labels (take (suc k) xs)))) = subst (Stands e) (events-at ssa k h) s in
    omega (arith, number-inside e (length (labels (take k xs))) (length (labels (take (suc k) xs)) - length (labels (take k xs))) at, labels-rise xs k, labels-most xs (suc k))

module _ (ssa : Ssa) (lines : List (List ℕ)) (line : ℕ → ℕ) (is : (e : ℕ) → e < length (kernel_labels ssa) → line e ≡ line_of e lines) (i j : ℕ) (less : i < j)
    (inside : j < length (unit_accesses ssa)) where
  abbrev v : ℕ
  v = arguments ssa + i

  abbrev w : ℕ
  w = arguments ssa + j

  abbrev flags : List Bool
  flags = noalias_flags ssa

  abbrev ls : List Label
  ls = kernel_labels ssa

  abbrev early : ℕ → Bool
  early x = list_any (is_early flags ls line x) (unit_events ssa w)

  both-conflict : (x y : Option Access) (a b : Access) → x ≡ Some a → y ≡ Some b → conflict_of flags x y ≡ conflict flags a b
  both-conflict x y a b ex ey = (λ k. conflict_of flags (ex k) (ey k))

  -- events that are late conflict as bytes where their units do
  late-early : (x y : ℕ) → Stands x (unit_events ssa v) → Stands y (unit_events ssa w) → conflict_at ssa v w ≡ true → is_late ssa lines x y ≡ true → is_early flags ls line x y ≡ true
  late-early x y sx sy conflicts late =
      let parts = and-parts (may_meet (label_at ls x) (label_at ls y)) (nat_le (line_of y lines) (line_of x lines)) late in
      let ox = owns ssa x v (omega arith) sx in
      let oy = owns ssa y w (omega arith) sy in
      let share : conflict flags ox.access oy.access ≡ true = sym (both-conflict (access_at ssa v) (access_at ssa w) ox.access oy.access ox.is oy.is) ∙ conflicts in
      let meet : may_meet (record { writes = ox.access.writes; address = moved ox.access.address ox.byte }) (record { writes = oy.access.writes; address = moved oy.access.address oy.byte }) ≡ true =
      sym (λ k. may_meet (ox.label k) (oy.label k)) ∙ parts.0 in
      let bytes : conflict flags (byte_access (label_at ls x)) (byte_access (label_at ls y)) ≡ true =
      (λ k. conflict flags (byte_access (ox.label k)) (byte_access (oy.label k))) ∙ conflict-byte flags ox.access oy.access ox.byte oy.byte share meet in
      let order : nat_le (line y) (line x) ≡ true = (λ k. nat_le (is y (event-below ssa j y inside sy) k) (is x (event-below ssa i x (omega arith) sx) k)) ∙ parts.1 in
      (λ k. bytes k && order k)

  early-late : (x y : ℕ) → Stands x (unit_events ssa v) → Stands y (unit_events ssa w) → is_early flags ls line x y ≡ true → (conflict_at ssa v w ≡ true) × (is_late ssa lines x y ≡ true)
  early-late x y sx sy h =
      let parts = and-parts (conflict flags (byte_access (label_at ls x)) (byte_access (label_at ls y))) (nat_le (line y) (line x)) h in
      let ox = owns ssa x v (omega arith) sx in
      let oy = owns ssa y w (omega arith) sy in
      let both = byte-conflict flags ox.access oy.access ox.byte oy.byte ox.inside oy.inside (sym (λ k. conflict flags (byte_access (ox.label k)) (byte_access (oy.label k))) ∙ parts.0) in
      let meet : may_meet (label_at ls x) (label_at ls y) ≡ true = (λ k. may_meet (ox.label k) (oy.label k)) ∙ both.1 in
      let order : nat_le (line_of y lines) (line_of x lines) ≡ true = sym (λ k. nat_le (is y (event-below ssa j y inside sy) k) (is x (event-below ssa i x (omega arith) sx) k)) ∙ parts.1 in (
        both-conflict (access_at ssa v) (access_at ssa w) ox.access oy.access ox.is oy.is ∙ both.0,
        (λ k. meet k && order k),
      )

  out-early : is_out_of_order ssa lines v w ≡ true → list_any early (unit_events ssa v) ≡ true
  out-early h =
      let first = and-parts (nat_lt v w) _ h in
      let rest = and-parts (conflict_at ssa v w) (list_any (λ x. list_any (is_late ssa lines x) (unit_events ssa w)) (unit_events ssa v)) first.1 in
      any-some (λ x. list_any (is_late ssa lines x) (unit_events ssa w)) (list_any early (unit_events ssa v)) (unit_events ssa v)
      (λ x sx late. any-there early (unit_events ssa v) x sx
      (any-some (is_late ssa lines x) (early x) (unit_events ssa w)
      (λ y sy is_so. any-there (is_early flags ls line x) (unit_events ssa w) y sy (late-early x y sx sy rest.0 is_so)) late)) rest.1

  early-out : list_any early (unit_events ssa v) ≡ true → is_out_of_order ssa lines v w ≡ true
  early-out h =
      any-some early (is_out_of_order ssa lines v w) (unit_events ssa v)
      (λ x sx some. any-some (is_early flags ls line x) (is_out_of_order ssa lines v w) (unit_events ssa w)
      (λ y sy is_so.
      let both = early-late x y sx sy is_so in
      let inner = any-there (is_late ssa lines x) (unit_events ssa w) y sy both.1 in
      let outer = any-there (λ e. list_any (is_late ssa lines e) (unit_events ssa w)) (unit_events ssa v) x sx inner in
      (λ k. lt-ltb v w (omega arith) k && (both.0 k && outer k))) some) h

  pub out-is : is_out_of_order ssa lines v w ≡ list_any early (unit_events ssa v)
  out-is = both-ways _ _ out-early early-out
