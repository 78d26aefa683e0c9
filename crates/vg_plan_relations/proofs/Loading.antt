-- The load pack of the list produces the operand, and a load pack that does is that of the list.
use Rattle.std.proofs.Common.{◌≡◌, ℕ, ◌*◌, ◌/◌, ◌<◌, ◌≤◌, Bool, true, List, [], ◌∷◌, length, map, refl, sym, ◌∙◌, ap, subst, arith}
use Rattle.std.specs.Prelude.{◌&&◌, nat_eq, Option, Some, None, IsTrue}
use Rattle.std.specs.Cmp.Lexicographic.{pointwise}
use Rattle.std.proofs.lemmas.Bool.Decides.{nat_tests, Decides-int_eq}
use Rattle.vg_base.specs.declared.address.Address.{Address}
use Rattle.vg_base.specs.declared.width.Width.{Width}
use Rattle.vg_base.specs.declared.width.Width.TheVariants.{W8, W16, W32, W64}
use Rattle.vg_base.specs.Width.{bits_of, size_of}
use Rattle.vg_plans.specs.Members.{AllDiffer, Has}
use Rattle.vg_shapes.specs.declared.match_table.Match.{Match}
use Rattle.vg_shapes.specs.declared.operand.Operand.{Operand}
use Rattle.vg_shapes.specs.declared.operand.Slot.{Slot}
use Rattle.vg_shapes.specs.declared.pack.Pack.{Pack}
use Rattle.vg_shapes.specs.declared.pack.Pack.TheVariants.{Loads}
use Rattle.vg_shapes.specs.declared.ssa.Ssa.{Ssa}
use Rattle.vg_shapes.specs.declared.ssa_unit.SsaUnit.{SsaUnit}
use Rattle.vg_shapes.specs.declared.ssa_unit.SsaUnit.TheVariants.{Load, Store, Operation}
use Rattle.vg_shapes.specs.Description.{Description}
use Rattle.vg_shapes.specs.Pack.{AreLoads, behind, is_pack_size}
use Rattle.vg_shapes.specs.Units.{unit_at}
use Rattle.vg_kernel_plans.specs.Held.{lanes_from}
use Rattle.vg_kernel_plans.specs.Producers.{are_beside, are_loads, begin_loads, can_be_produced, load_producer, loads_from}
use Rattle.vg_kernel_plans.specs.SameAs.{same_slot}
use Rattle.vg_kernel_plans.specs.Taken.{first_width, register_for, unit_width}
use Rattle.vg_kernel_plans.specs.Wants.{wanted_slots, wanted_values}
use Rattle.vg_kernel_plans.proofs.SameTests.{both-true, eq-itself, list-is, operand-itself, slot-is}
use Rattle.vg_kernel_plans.proofs.Tried.{if-has}
use Rattle.vg_packs.proofs.Placing.{place-is}
use Rattle.vg_plan_relations.specs.Produces.{AreRising, Produces}
use Rattle.vg_plan_relations.proofs.Exact.{and-true, can-be, exact, has-once, has-two, lane-wanted, one-if, same-values, wanted-lane}
use Rattle.vg_plan_relations.proofs.Rising.{some-lanes}

-- ---- loads beside each other

load-is : (a : Address) (w : Width) (o : Option SsaUnit) → loads_from a w o ≡ true → o ≡ Some (Load a w)
load-is a w None t = absurd (cc)
load-is a w (Some (Store b v x)) t = absurd (cc)
load-is a w (Some (Operation op v k xs)) t = absurd (cc)
load-is a w (Some (Load b v)) t = let k = place-is a b w v t in λ i. Some (Load (k.0 i) (k.1 i))

own-load : (a : Address) (w : Width) → loads_from a w (Some (Load a w)) ≡ true
own-load a w = rw (eq-itself a.pointer, (Decides-int_eq a.offset a.offset).1 refl, eq-itself (bits_of w)) refl

loads-are : (ssa : Ssa) (w : Width) (a : Address) (us : List ℕ) → are_loads ssa a w us ≡ true → AreLoads ssa w a us
loads-are ssa w a [] t = tt
loads-are ssa w a (u ∷ us) t =
    let b = both-true (loads_from a w (unit_at ssa u)) (are_loads ssa (behind a (size_of w)) w us) t in
    (load-is a w (unit_at ssa u) b.0, loads-are ssa w (behind a (size_of w)) us b.1)

are-loads : (ssa : Ssa) (w : Width) (a : Address) (us : List ℕ) → AreLoads ssa w a us → are_loads ssa a w us ≡ true
are-loads ssa w a [] h = refl
are-loads ssa w a (u ∷ us) h =
    and-true _ _ (ap (loads_from a w) h.0 ∙ own-load a w) (are-loads ssa w (behind a (size_of w)) us h.1)

-- loads beside each other, as wide as the first
abbrev Beside : Ssa → List ℕ → Type 0
Beside ssa us = (w : Width) × (a : Address) × AreLoads ssa w a us × (first_width ssa us ≡ bits_of w)

begun-are : (ssa : Ssa) (v : ℕ) (vs : List ℕ) (o : Option SsaUnit) → unit_at ssa v ≡ o → begin_loads ssa o (v ∷ vs) ≡ true → Beside ssa (v ∷ vs)
begun-are ssa v vs None e t = absurd (cc)
begun-are ssa v vs (Some (Store a w x)) e t = absurd (cc)
begun-are ssa v vs (Some (Operation op w k xs)) e t = absurd (cc)
begun-are ssa v vs (Some (Load a w)) e t = (w, a, loads-are ssa w a (v ∷ vs) t, ap unit_width e)

beside-are : (ssa : Ssa) (us : List ℕ) → are_beside ssa us ≡ true → Beside ssa us
beside-are ssa [] t = absurd (cc)
beside-are ssa (v ∷ vs) t = begun-are ssa v vs (unit_at ssa v) refl t

first-width : (ssa : Ssa) (w : Width) (a : Address) (us : List ℕ) → AreLoads ssa w a us → 2 ≤ length us → first_width ssa us ≡ bits_of w
first-width ssa w a [] h l = absurd (omega (arith, l))
first-width ssa w a (u ∷ us) h l = ap unit_width h.0

are-beside : (ssa : Ssa) (w : Width) (a : Address) (us : List ℕ) → AreLoads ssa w a us → 2 ≤ length us → are_beside ssa us ≡ true
are-beside ssa w a [] h l = absurd (omega (arith, l))
are-beside ssa w a (u ∷ us) h l = ap (λ o. begin_loads ssa o (u ∷ us)) h.0 ∙ are-loads ssa w a (u ∷ us) h

pub bytes-same : (n : ℕ) (w : Width) → n * bits_of w / 8 ≡ n * size_of w
bytes-same n W8 = omega arith
bytes-same n W16 = omega arith
bytes-same n W32 = omega arith
bytes-same n W64 = omega arith

pub is-wide : (w : Width) → 0 < bits_of w
is-wide W8 = omega arith
is-wide W16 = omega arith
is-wide W32 = omega arith
is-wide W64 = omega arith

-- ---- the load pack

pub slots-itself : (ss : List Slot) → pointwise same_slot ss ss ≡ true
slots-itself ss = (both-true (nat_eq 0 0) (pointwise same_slot ss ss) (operand-itself (record { register = 0; slots = ss }))).1

pub load-right : (ds : List Description) (matches : List Match) (ssa : Ssa) (o : Operand) (p : Pack)
    → Has p (load_producer ssa o) → Produces ds matches ssa p o
load-right ds matches ssa o p h =
    let us = wanted_values o in
    let width = first_width ssa us in
    let a = if-has _ (Loads us) p h in
    let b = both-true (can_be_produced o) _ a.0 in
    let b2 = both-true (is_pack_size (length us * width / 8)) _ b.1 in
    let b3 = both-true (nat_eq (register_for us width) o.register) _ b2.1 in
    let b4 = both-true (pointwise same_slot (wanted_slots o) (lanes_from 0 width (map Some us))) (are_beside ssa us) b3.1 in
    let same = list-is same_slot slot-is (wanted_slots o) (lanes_from 0 width (map Some us)) b4.0 in
    let l = beside-are ssa us b4.1 in
    let two : 2 ≤ length us = subst (λ vs. 2 ≤ length vs) (some-lanes us) (has-two o width (map Some us) same b.0) in
    let size : IsTrue (is_pack_size (length us * size_of l.0)) =
    ap is_pack_size (sym (bytes-same (length us) l.0) ∙ ap (λ n. length us * n / 8) (sym l.3)) ∙ b2.0 in
    let wide : register_for us width ≡ o.register = grind (arith, nat_tests, b3.0) in
    subst (λ q. Produces ds matches ssa q o) a.1 (record {
      pack = (l.0, l.1, l.2, two, size);
      once = subst (AllDiffer nat_eq) (some-lanes us) (has-once o width (map Some us) same b.0);
      register = wide;
      wanted = wanted-lane o width (map Some us) same;
      lanes = lane-wanted o width (map Some us) same;
    })

pub load-whole : (ds : List Description) (matches : List Match) (ssa : Ssa) (o : Operand) (us : List ℕ) → AreRising o.slots
    → Produces ds matches ssa (Loads us) o → Has (Loads us) (load_producer ssa o)
load-whole ds matches ssa o us rise is =
    let width = first_width ssa us in
    let w = is.pack.0 in
    let a = is.pack.1 in
    let loads = is.pack.2 in
    let two = is.pack.3 in
    let first : width ≡ bits_of w = first-width ssa w a us loads two in
    let wide : 0 < width = subst (λ n. 0 < n) (sym first) (is-wide w) in
    let same = exact o width (map Some us) rise wide is.wanted is.lanes in
    let values : wanted_values o ≡ us = same-values o width (map Some us) same ∙ some-lanes us in
    let can = can-be o width (map Some us) same (subst (λ vs. 2 ≤ length vs) (sym (some-lanes us)) two)
    (subst (AllDiffer nat_eq) (sym (some-lanes us)) is.once) in
    let size : is_pack_size (length us * width / 8) ≡ true =
    ap is_pack_size (ap (λ n. length us * n / 8) first ∙ bytes-same (length us) w) ∙ is.pack.4 in
    let register : nat_eq (register_for us width) o.register ≡ true = let e = is.register in grind (arith, nat_tests, e) in
    let lanes : pointwise same_slot (wanted_slots o) (lanes_from 0 width (map Some us)) ≡ true =
    ap (pointwise same_slot (wanted_slots o)) (sym same) ∙ slots-itself (wanted_slots o) in
    let Passes : List ℕ → Bool = λ vs.
    can_be_produced o
    && (is_pack_size (length vs * first_width ssa vs / 8)
    && (nat_eq (register_for vs (first_width ssa vs)) o.register
    && (pointwise same_slot (wanted_slots o) (lanes_from 0 (first_width ssa vs) (map Some vs))
    && are_beside ssa vs))) in
    let passes : Passes us ≡ true =
    and-true _ _ can (and-true _ _ size (and-true _ _ register (and-true _ _ lanes (are-beside ssa w a us loads two)))) in
    one-if (Passes (wanted_values o)) (Loads us) (Loads (wanted_values o)) (ap Passes values ∙ passes) (ap Loads values)
