-- A shuffle fills its operand: each lane is a leaf, whose bits stand in the pack that is given for
-- its parameter.
use Rattle.std.proofs.Common.{◌≡◌, ℕ, zero, suc, ◌+◌, ◌*◌, ◌/◌, ◌%◌, ◌^◌, ◌<◌, ◌≤◌, true, false, cond, List, [], ◌∷◌, length, map, Option, Some, None, refl, sym, ap, subst, ◌∙◌, inl, inr, arith, get_or}
use Rattle.std.specs.Prelude.{filter, flat_map, nat_eq, slice_get}
use Rattle.std.specs.List.{AllByRecursion, list_all, list_any}
use Rattle.std.proofs.Math.Nat.{mod-add-div'}
use Rattle.std.proofs.lemmas.Bool.{cases_Bool, eqb-true}
use Rattle.std.proofs.lemmas.Bool.Decides.{nat_tests}
use Rattle.std.proofs.lemmas.List.{length-append}
use Rattle.vg_base.specs.Bits.{num}
use Rattle.vg_bits.specs.Range.{range}
use Rattle.vg_plans.specs.Members.{Has}
use Rattle.vg_plans.proofs.Lists.{has-flat_map, has-map}
use Rattle.vg_plans.proofs.Members.{has-filter}
use Rattle.vg_program.specs.Meaning.{Instructions}
use Rattle.vg_terms.specs.declared.term.LeafKey.{LeafKey}
use Rattle.vg_terms.specs.Term.{Tree, leaf, constant, one, two, sel}
use Rattle.vg_terms.specs.Value.{number_at, value}
use Rattle.vg_shapes.specs.declared.operand.Operand.{Operand}
use Rattle.vg_shapes.specs.declared.operand.Slot.{Slot}
use Rattle.vg_shapes.specs.declared.wanted.Wanted.{Wanted}
use Rattle.vg_shapes.specs.declared.wanted.Wanted.TheVariants.{Value, Constant, Nothing}
use Rattle.vg_shapes.specs.Description.{Description, IsLane, IsPackable}
use Rattle.vg_shapes.specs.Leaves.{bit_number}
use Rattle.vg_shapes.specs.Registers.{env_of, readings_from}
use Rattle.vg_shapes.proofs.Readings.{leaves-read}
use Rattle.vg_kernel_plans.specs.Held.{holds, register_of}
use Rattle.vg_kernel_plans.specs.Shuffles.{is_lane_slot, is_moved, is_shuffle, moved_from, moved_leaf, parts_from}
use Rattle.vg_kernel_plans.specs.Wants.{is_constant, is_wanted, slot, wanted_slots, wants_value}
use Rattle.vg_match.proofs.Members.{all-weaker}
use Rattle.vg_kernel_plans.proofs.SameTests.{both-true}
use Rattle.vg_emission.specs.Emission.{Job, pack_at}
use Rattle.vg_emission.specs.Promises.{AllHold, answer, Fills, Holds, IsWanted, SlotHas}
use Rattle.vg_emission.specs.Truth.{Answers, AreRegisters, IsTrueOf}
use Rattle.vg_gather.specs.Recipes.{can_be_had, holder, packs_from, packs_of, part, spare}
use Rattle.vg_gather.proofs.Fits.{holders-fit}
use Rattle.vg_gather.proofs.Held.{holders-fill}
use Rattle.vg_gather.proofs.Prices.{can_make, made, makes}
use Rattle.vg_gather.proofs.Takes.{first-passes, in-use, moved-below, moved_of, not-constant, value-wanted}
use Rattle.vg_plan_relations.proofs.Fitting.{param-there}
use Rattle.vg_plan_relations.proofs.Lists.{all-has, all-true}
use Rattle.vg_plan_laws.proofs.Filled.{all-get, FillEach, lane-mean}

all-from : {X : Type 0} (P : X → Type 0) (xs : List X) → ((x : X) → Has x xs → P x)
    → AllByRecursion P xs
all-from P [] f = tt
all-from P (x ∷ xs) f = (f x (inl refl), all-from P xs (λ y h. f y (inr h)))

-- ---- the parts of the parameters

-- for each parameter what its register has to hold
abbrev parts_all : List (ℕ × Slot) → ℕ → List ℕ → List Operand
parts_all moved k [] = []
parts_all moved k (register ∷ params) = part moved k register ∷ parts_all moved (suc k) params

parts-registers : (numbers : ℕ → ℕ) (moved : List (ℕ × Slot)) (k : ℕ) (ps : List ℕ)
    (rs : List (List ℕ))
    → FillEach numbers (parts_all moved k ps) rs → AreRegisters ps rs
parts-registers numbers moved k [] rs h =
    subst (AreRegisters []) (sym h) (record { bits = tt; long = refl })
parts-registers numbers moved k (p ∷ ps) [] h = absurd h
parts-registers numbers moved k (p ∷ ps) (r ∷ rs) h =
    let rest = parts-registers numbers moved (suc k) ps rs h.1 in
    record { bits = ((h.0).bits, rest.bits); long = λ i. (h.0).long i ∷ rest.long i }

-- the register of a parameter has what is moved from it
part-has : (numbers : ℕ → ℕ) (moved : List (ℕ × Slot)) (k : ℕ) (ps : List ℕ) (rs : List (List ℕ))
    (m : ℕ × Slot) (i : ℕ)
    → FillEach numbers (parts_all moved k ps) rs → Has m moved → i < length ps → m.0 ≡ k + i
    → SlotHas numbers (get_or rs i []) m.1
part-has numbers moved k [] rs m i h has low e = absurd (omega arith)
part-has numbers moved k (p ∷ ps) [] m i h has low e = absurd h
part-has numbers moved k (p ∷ ps) (r ∷ rs) m zero h has low e =
    let here : m.0 ≡ k = omega arith in
    let own = has-map (λ (n : ℕ × Slot). n.1) m (filter (λ (n : ℕ × Slot). nat_eq n.0 k) moved)
    (has-filter (λ (n : ℕ × Slot). nat_eq n.0 k) m moved has (grind (arith, nat_tests, here))) in
    all-has (SlotHas numbers r) (part moved k p).slots m.1 (h.0).slots own
part-has numbers moved k (p ∷ ps) (r ∷ rs) m (suc i) h has low e =
    part-has numbers moved (suc k) ps rs m i h.1 has (omega arith)
    (let next : m.0 ≡ suc k + i = omega arith in next)

-- ---- the packs of the parameters

module _ (j : Job) (numbers : ℕ → ℕ) (moved : List (ℕ × Slot)) where
  abbrev held : Operand → ℕ
  held = holder j.descriptions j.ssa j.packs

  abbrev had : List Operand → Type 0
  had os = list_all (λ n. list_any (λ p. holds j.descriptions j.ssa p n) j.packs) os ≡ true

  abbrev width : ℕ → ℕ
  width k = register_of j.descriptions j.ssa (pack_at j k)

  held-fills : (o : Operand) (r : List ℕ)
      → list_any (λ p. holds j.descriptions j.ssa p o) j.packs ≡ true
      → Holds j.descriptions j.ssa numbers (pack_at j (held o)) r → Fills numbers o r
  held-fills o r any h =
      holders-fill j.descriptions j.ssa numbers (pack_at j (held o)) o r
      (first-passes (λ p. holds j.descriptions j.ssa p o) j.packs any) h

  held-wide : (o : Operand) → list_any (λ p. holds j.descriptions j.ssa p o) j.packs ≡ true
      → width (held o) ≡ o.register
  held-wide o any =
      holders-fit j.descriptions j.ssa (pack_at j (held o)) o
      (first-passes (λ p. holds j.descriptions j.ssa p o) j.packs any)

  none-left : (ss : List Slot) (P : Slot → Type 0) → nat_eq (length ss) 0 ≡ true
      → AllByRecursion P ss
  none-left [] P e = tt
  none-left (s ∷ ss) P e =
      absurd (let some : length (s ∷ ss) ≡ 0 = grind (arith, nat_tests, e) in omega arith)

  parts-fill : (other k : ℕ) (ps : List ℕ) (rs : List (List ℕ))
      → AllByRecursion (λ p. width other ≡ p) ps → had (parts_from moved k ps)
      → AllHold j numbers (packs_from held moved other k ps) rs
      → FillEach numbers (parts_all moved k ps) rs
  parts-fill other k [] rs same have h = h
  parts-fill other k (p ∷ ps) [] same have h = absurd h
  parts-fill other k (p ∷ ps) (r ∷ rs) same have h =
      let own = part moved k p in
      let behind = parts_from moved (suc k) ps in
      elim (cases_Bool (nat_eq (length own.slots) 0)) [
        | inl t ↦
            let first =
            subst (λ b. Holds j.descriptions j.ssa numbers
            (pack_at j (cond b other (held own))) r) t h.0 in (
              record {
                long = first.long ∙ same.0;
                bits = first.bits;
                slots = none-left own.slots
                    (SlotHas numbers r) t;
              },
              parts-fill other (suc k) ps rs same.1
                  (subst had (ap (λ b. cond b behind (own ∷ behind)) t) have) h.1,
            )
        | inr f ↦
            let first =
            subst (λ b. Holds j.descriptions j.ssa numbers
            (pack_at j (cond b other (held own))) r) f h.0 in
            let both =
            both-true (list_any (λ p. holds j.descriptions j.ssa p own) j.packs) _
            (subst had (ap (λ b. cond b behind (own ∷ behind)) f) have) in
            (held-fills own r both.0 first, parts-fill other (suc k) ps rs same.1 both.1 h.1)
      ]

  packs-wide : (other k : ℕ) (ps : List ℕ) → AllByRecursion (λ p. width other ≡ p) ps
      → had (parts_from moved k ps)
      → map width (packs_from held moved other k ps) ≡ ps
  packs-wide other k [] same have = refl
  packs-wide other k (p ∷ ps) same have =
      let own = part moved k p in
      let behind = parts_from moved (suc k) ps in
      let rest = map width (packs_from held moved other (suc k) ps) in
      elim (cases_Bool (nat_eq (length own.slots) 0)) [
        | inl t ↦
            ap (λ b. width (cond b other (held own)) ∷ rest) t
            ∙ (λ i. same.0 i ∷ packs-wide other (suc k) ps same.1
            (subst had (ap (λ b. cond b behind (own ∷ behind)) t) have) i)
        | inr f ↦
            let both =
            both-true (list_any (λ q. holds j.descriptions j.ssa q own) j.packs) _
            (subst had (ap (λ b. cond b behind (own ∷ behind)) f) have) in
            ap (λ b. width (cond b other (held own)) ∷ rest) f
            ∙ (λ i. held-wide own both.0 i ∷ packs-wide other (suc k) ps same.1 both.1 i)
      ]

  -- the pack of the first parameter in use is as wide as one of the parameters
  abbrev IsOneOf : ℕ → List ℕ → Type 0
  IsOneOf n ps = (p : ℕ) × Has p ps × (width n ≡ p)

  spare-wide : (k : ℕ) (ps : List ℕ) → 1 ≤ length (parts_from moved k ps)
      → had (parts_from moved k ps) → IsOneOf (spare held (parts_from moved k ps)) ps
  spare-wide k [] long have = absurd (omega arith)
  spare-wide k (p ∷ ps) long have =
      let own = part moved k p in
      let behind = parts_from moved (suc k) ps in
      elim (cases_Bool (nat_eq (length own.slots) 0)) [
        | inl t ↦
            let same = ap (λ b. cond b behind (own ∷ behind)) t in
            let rest =
            spare-wide (suc k) ps (subst (λ os. 1 ≤ length os) same long)
            (subst had same have) in
            subst (λ os. IsOneOf (spare held os) (p ∷ ps)) (sym same) (rest.0, inr rest.1, rest.2)
        | inr f ↦
            let same = ap (λ b. cond b behind (own ∷ behind)) f in
            let both =
            both-true (list_any (λ q. holds j.descriptions j.ssa q own) j.packs) _
            (subst had same have) in
            subst (λ os. IsOneOf (spare held os) (p ∷ ps)) (sym same)
            (p, inl refl, held-wide own both.0)
      ]

-- ---- lanes

moved-few : (t : Option Tree) (s : Slot) → length (moved_leaf t s) ≤ 1
moved-few None s = omega arith
moved-few (Some (leaf w k)) s = omega arith
moved-few (Some (constant w n)) s = omega arith
moved-few (Some (one op w k x)) s = omega arith
moved-few (Some (two op w x y)) s = omega arith
moved-few (Some (sel w c x y)) s = omega arith

moved-most : (e : Description) (ss : List Slot) → length (flat_map (moved_from e) ss) ≤ length ss
moved-most e [] = omega arith
moved-most e (s ∷ ss) =
    let split = length-append (moved_from e s) (flat_map (moved_from e) ss) in
    let first = moved-few (slice_get e.lanes (s.low / e.lane_width)) s in
    let rest = moved-most e ss in
    omega arith

-- where as many are moved as there are slots, one is moved for each
each-moved : (e : Description) (ss : List Slot) (s : Slot)
    → length (flat_map (moved_from e) ss) ≡ length ss → Has s ss → length (moved_from e s) ≡ 1
each-moved e [] s same has = absurd has
each-moved e (x ∷ ss) s same has =
    let split = length-append (moved_from e x) (flat_map (moved_from e) ss) in
    let first = moved-few (slice_get e.lanes (x.low / e.lane_width)) x in
    let rest = moved-most e ss in
    elim has [
      | inl is ↦ subst (λ y. length (moved_from e y) ≡ 1) is (omega arith)
      | inr more ↦ each-moved e ss s (omega arith) more
    ]

-- the leaf that is moved
record IsLeafLane (e : Description) (s : Slot) (n : ℕ) : Type 0 where
  width : ℕ
  key : LeafKey
  at : slice_get e.lanes n ≡ Some (leaf width key)
  is : moved_leaf (slice_get e.lanes n) s
      ≡ (key.first, slot (bit_number key.second) width s.wanted) ∷ []

leaf-lane : (e : Description) (s : Slot) (n : ℕ) (t : Option Tree) → slice_get e.lanes n ≡ t
    → length (moved_leaf t s) ≡ 1 → IsLeafLane e s n
leaf-lane e s n None at single = absurd (omega arith)
leaf-lane e s n (Some (leaf w k)) at single =
    record { width = w; key = k; at = at; is = ap (λ t. moved_leaf t s) at }
leaf-lane e s n (Some (constant w c)) at single = absurd (omega arith)
leaf-lane e s n (Some (one op w k x)) at single = absurd (omega arith)
leaf-lane e s n (Some (two op w x y)) at single = absurd (omega arith)
leaf-lane e s n (Some (sel w c x y)) at single = absurd (omega arith)

record IsPlaced (w : ℕ) (s : Slot) : Type 0 where
  wide : s.width ≡ w
  low : s.low ≡ s.low / w * w

placed : (w : ℕ) (s : Slot) → is_lane_slot w s ≡ true → IsPlaced w s
placed w s e =
    let a = both-true (wants_value s.wanted) _ e in
    let b = both-true (nat_eq s.width w) (nat_eq (s.low % w) 0) a.1 in
    let none = eqb-true (s.low % w) 0 b.1 in
    let split = mod-add-div' s.low w in
    record { wide = eqb-true s.width w b.0; low = omega arith }

not-wanted : (numbers : ℕ → ℕ) (x : Wanted) (n : ℕ) → is_wanted x ≡ false → IsWanted numbers x n
not-wanted numbers (Value v) n e = absurd (cc)
not-wanted numbers (Constant w c) n e = absurd (cc)
not-wanted numbers Nothing n e = tt

module _ (numbers : ℕ → ℕ) (o : Operand) (e : Description) (rs : List (List ℕ)) (register : List ℕ)
    (packable : IsPackable e) (can : can_make o e ≡ true)
    (fill : FillEach numbers (parts_all (moved_of o e) 0 e.params) rs)
    (answers : Answers e rs register) where
  lane-fills : (s : Slot) → Has s (wanted_slots o) → SlotHas numbers register s
  lane-fills s has =
      let m = makes o e can in
      let n = s.low / e.lane_width in
      let at =
      placed e.lane_width s
      (all-true (is_lane_slot e.lane_width) (wanted_slots o) s m.lanes has) in
      let one = each-moved e (wanted_slots o) s (eqb-true _ _ m.moves) has in
      let l = leaf-lane e s n (slice_get e.lanes n) refl one in
      let own =
      all-get (IsLane e.params e.lane_width) e.lanes n
      (leaf l.width l.key) packable.lanes l.at in
      let parameter = own.inside.0 in
      let low = own.inside.1 in
      let fits = own.inside.3 in
      let some = own.formed.0 in
      let taken : ℕ × Slot = (l.key.first, slot (bit_number l.key.second) l.width s.wanted) in
      let there : Has taken (moved_of o e) =
      has-flat_map (moved_from e) s taken (wanted_slots o) has
      (subst (Has taken) (sym l.is) (inl refl)) in
      let of : l.key.first ≡ 0 + parameter =
      ap (λ (k : LeafKey). k.first) own.inside.2 ∙
      (let start : parameter ≡ 0 + parameter = omega arith in start) in
      let got =
      part-has numbers (moved_of o e) 0 e.params rs taken parameter fill there
      (param-there e.params parameter (omega arith)) of in
      let reg = get_or rs parameter [] in
      let bits = (parts-registers numbers (moved_of o e) 0 e.params rs fill).bits in
      let read : num (range (bit_number l.key.second) l.width reg) ≡ value (env_of rs)
      (leaf l.width l.key) =
      ap (λ (k : LeafKey). num (range (bit_number k.second) l.width reg)) own.inside.2
      ∙ sym (leaves-read rs bits parameter low l.width)
      ∙ sym (ap (λ (k : LeafKey). number_at (readings_from 0 rs) k % 2 ^ l.width) own.inside.2) in
      let shown : num (range s.low s.width register) ≡ value (env_of rs) (leaf l.width l.key) =
      (λ i. num (range (at.low i) (at.wide i) register))
      ∙ lane-mean (env_of rs) e.lane_width n e.lanes register
      (leaf l.width l.key) answers.lanes l.at in
      subst (IsWanted numbers s.wanted) (read ∙ sym shown) got

  slot-fills : (s : Slot) → Has s o.slots → SlotHas numbers register s
  slot-fills s has = elim (cases_Bool (is_wanted s.wanted)) [
    | inl t ↦ lane-fills s (has-filter (λ (x : Slot). is_wanted x.wanted) s o.slots has t)
    | inr f ↦ not-wanted numbers s.wanted _ f
  ]

  pub made-fills : Fills numbers o register
  made-fills =
      let a = both-true (is_shuffle e) _ can in
      let b = both-true (nat_eq e.register o.register) _ a.1 in
      record {
        long = answers.long ∙ eqb-true e.register o.register b.0;
        bits = answers.bits;
        slots = all-from (SlotHas numbers register) o.slots slot-fills;
      }

-- ---- shuffles

-- the parameters of a shuffle have one width
one-width : (o : Operand) (e : Description) (p : ℕ) → can_make o e ≡ true → Has p e.params
    → AllByRecursion (λ q. p ≡ q) e.params
one-width o e p can has =
    let a = both-true (is_shuffle e) _ can in
    let b =
    both-true (list_all is_moved e.lanes)
    (list_all (λ x. list_all (nat_eq x) e.params) e.params) a.0 in
    let same = all-true (λ x. list_all (nat_eq x) e.params) e.params p b.1 has in
    all-from (λ q. p ≡ q) e.params (λ q h. eqb-true p q (all-true (nat_eq p) e.params q same h))

module _ (j : Job) (o : Operand) (e : Description) (packable : IsPackable e)
    (varies : is_constant o ≡ false) (can : can_make o e ≡ true)
    (have : can_be_had j.descriptions j.ssa j.packs (made o e) ≡ true) where
  abbrev other : ℕ
  other = spare (holder j.descriptions j.ssa j.packs) (parts_from (moved_of o e) 0 e.params)

  -- the pack that is given for parameters that are not in use is as wide as they are
  other-wide : AllByRecursion (λ p. register_of j.descriptions j.ssa (pack_at j other) ≡ p) e.params
  other-wide =
      let m = makes o e can in
      let some = value-wanted o.slots (not-constant _ varies) in
      let long : 1 ≤ length (moved_of o e) =
      let same = eqb-true (length (moved_of o e)) (length (wanted_slots o)) m.moves in omega arith
      in
      let used = in-use e (moved_of o e) long (moved-below e (wanted_slots o) packable) in
      let wide = spare-wide j (λ v. 0) (moved_of o e) 0 e.params used have in
      all-weaker (λ p. wide.0 ≡ p) (λ p. register_of j.descriptions j.ssa (pack_at j other) ≡ p)
      (λ p f. wide.2 ∙ f) e.params (one-width o e wide.0 can wide.1)

  shuffle-parts : (numbers : ℕ → ℕ) (rs : List (List ℕ))
      → AllHold j numbers (packs_of j.descriptions j.ssa j.packs o e) rs
      → FillEach numbers (parts_all (moved_of o e) 0 e.params) rs
  shuffle-parts numbers rs h =
      parts-fill j numbers (moved_of o e) other 0 e.params rs other-wide have h

  -- the packs of a shuffle are as wide as its parameters
  pub shuffle-widths : map (λ k. register_of j.descriptions j.ssa (pack_at j k))
      (packs_of j.descriptions j.ssa j.packs o e) ≡ e.params
  shuffle-widths = packs-wide j (λ v. 0) (moved_of o e) other 0 e.params other-wide have

pub shuffle-fills : (j : Job) (called : Instructions) (numbers : ℕ → ℕ) (o : Operand)
    (e : Description) (rs : List (List ℕ)) → IsPackable e → IsTrueOf called e
    → is_constant o ≡ false → can_make o e ≡ true
    → can_be_had j.descriptions j.ssa j.packs (made o e) ≡ true
    → AllHold j numbers (packs_of j.descriptions j.ssa j.packs o e) rs
    → Fills numbers o (answer called e rs)
shuffle-fills j called numbers o e rs packable holds_true varies can had h =
    let fill = shuffle-parts j o e packable varies can had numbers rs h in
    made-fills numbers o e rs _ packable can fill
    (holds_true rs (parts-registers numbers (moved_of o e) 0 e.params rs fill))
