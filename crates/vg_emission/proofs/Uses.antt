-- A node depends on the units whose values it uses.
use Rattle.std.proofs.Common.{◌≡◌, ℕ, zero, suc, ◌+◌, ◌-◌, ◌<◌, true, false, List, [], ◌∷◌, length, map, Option, Some, None, refl, sym, ap, subst, ◌∙◌, inl, inr, arith}
use Rattle.std.specs.Prelude.{filter, filter_map, nat_eq, nat_lt, slice_get, ◌==◌, ◌||◌}
use Rattle.std.specs.List.{cons_option, list_any}
use Rattle.std.specs.Option.{option_map_or}
use Rattle.std.proofs.lemmas.Bool.{and_from, cases_Bool, eq-eqb, eqb-true, lt-ltb, or_left, or_right}
use Rattle.vg_plans.specs.Levels.{distinct}
use Rattle.vg_plans.specs.Members.{Every, Has}
use Rattle.vg_plans.proofs.Lists.{every-distinct, every-map, every-sort}
use Rattle.vg_plans.proofs.Members.{any-is, from-filter}
use Rattle.vg_shapes.specs.declared.match_table.Bound.{Bound}
use Rattle.vg_shapes.specs.declared.match_table.Match.{Match}
use Rattle.vg_shapes.specs.declared.operand.Operand.{Operand}
use Rattle.vg_shapes.specs.declared.operand.Slot.{Slot}
use Rattle.vg_shapes.specs.declared.order.Node.{Node}
use Rattle.vg_shapes.specs.declared.order.Node.TheVariants.{PackAt, UnitAt}
use Rattle.vg_shapes.specs.declared.pack.Pack.{Pack}
use Rattle.vg_shapes.specs.declared.pack.Pack.TheVariants.{Stores, Loads, Call}
use Rattle.vg_shapes.specs.declared.ssa.Ssa.{Ssa}
use Rattle.vg_shapes.specs.declared.ssa_unit.SsaUnit.{SsaUnit}
use Rattle.vg_shapes.specs.declared.ssa_unit.SsaUnit.TheVariants.{Load, Store, Operation}
use Rattle.vg_shapes.specs.declared.wanted.Wanted.{Wanted}
use Rattle.vg_shapes.specs.declared.wanted.Wanted.TheVariants.{Value, Constant, Nothing}
use Rattle.vg_shapes.specs.Depends.{conflict_at, depends_on, uses_at}
use Rattle.vg_shapes.specs.Description.{Description}
use Rattle.vg_shapes.specs.Nodes.{node_depends, pack_depends}
use Rattle.vg_shapes.specs.Order.{one_if, Stands as In}
use Rattle.vg_shapes.specs.Pack.{bounds_from}
use Rattle.vg_shapes.specs.Sound.{IsEarlier, TakeEarlier, TakesEarlier}
use Rattle.vg_shapes.specs.Units.{arguments, is_unit, is_value, unit_at, uses_value}
use Rattle.vg_kernel_plans.specs.SameAs.{same_slot}
use Rattle.vg_kernel_plans.specs.Taken.{first_width, operands_from, operands_of, params_of, slot_of, slots_from, slots_of, stored}
use Rattle.vg_kernel_plans.specs.Wants.{value_of, wanted_values}
use Rattle.vg_emission.specs.Emission.{Job, operand_at, pack_at, takes_at}
use Rattle.vg_emission.proofs.Jobs.{get-there, unit-number, valued-is}
use Rattle.vg_emission.proofs.Readiness.{Is, NodeUses, OperandsWant, Valued, WorkUses}

-- ---- units take earlier values

earlier-from : (us : List SsaUnit) (first k : ℕ) (u : SsaUnit) → TakeEarlier first us → slice_get us k ≡ Some u → TakesEarlier (first + k) u
earlier-from [] first k u early e = cc
earlier-from (x ∷ us) first zero u early e =
    let same : x ≡ u = cc in
    let here : first ≡ first + 0 = omega arith in
    subst (λ n. TakesEarlier n u) here (subst (TakesEarlier first) same early.0)
earlier-from (x ∷ us) first (suc k) u early e =
    let next : first + 1 + k ≡ first + suc k = omega arith in
    subst (λ n. TakesEarlier n u) next (earlier-from us (first + 1) k u early.1 e)

pub unit-in-list : (ssa : Ssa) (v : ℕ) (u : SsaUnit) → unit_at ssa v ≡ Some u → slice_get ssa.units (v - arguments ssa) ≡ Some u
unit-in-list ssa v u e = sym (Rattle.std.proofs.lemmas.Bool.cond-false _ _ _ (Rattle.std.proofs.lemmas.Bool.le-ltb v (arguments ssa) (unit-number ssa v u e).0)) ∙ e

pub takes-earlier : (ssa : Ssa) (v : ℕ) (u : SsaUnit) → TakeEarlier (arguments ssa) ssa.units → unit_at ssa v ≡ Some u → TakesEarlier v u
takes-earlier ssa v u early e =
    let low = (unit-number ssa v u e).0 in
    let same : arguments ssa + (v - arguments ssa) ≡ v = omega arith in
    subst (λ n. TakesEarlier n u) same (earlier-from ssa.units (arguments ssa) (v - arguments ssa) u early (unit-in-list ssa v u e))

-- ---- dependences

is-value : (y : Wanted) (x : ℕ) → Is y x → is_value x y ≡ true
is-value (Value v) x h = eq-eqb v x h
is-value (Constant w n) x h = absurd h
is-value Nothing x h = absurd h

is-earlier : (n : ℕ) (y : Wanted) (x : ℕ) → IsEarlier n y → Is y x → x < n
is-earlier n (Value v) x early h = subst (λ z. z < n) h early
is-earlier n (Constant w k) x early h = absurd h
is-earlier n Nothing x early h = absurd h

use-depends : (ssa : Ssa) (v x : ℕ) → is_unit ssa x ≡ true → x < v → uses_at ssa v x ≡ true → depends_on ssa v x ≡ true
use-depends ssa v x unit low uses = and_from (is_unit ssa x) _ unit (and_from (nat_lt x v) _ (lt-ltb x v low) (or_left (uses_at ssa v x) (conflict_at ssa x v) uses))

pub work-depends : (ssa : Ssa) (v x : ℕ) → TakeEarlier (arguments ssa) ssa.units → Valued (unit_at ssa x) → WorkUses (unit_at ssa v) x → depends_on ssa v x ≡ true
work-depends ssa v x early valued uses = by (unit_at ssa v) refl uses
  where
    unit : is_unit ssa x ≡ true
    unit = valued-is (unit_at ssa x) valued

    by : (o : Option SsaUnit) → unit_at ssa v ≡ o → WorkUses o x → depends_on ssa v x ≡ true
    by None e h = absurd h
    by (Some (Load a w)) e h = absurd h
    by (Some (Store a w y)) e h = use-depends ssa v x unit (is-earlier v y x (takes-earlier ssa v (Store a w y) early e) h) (ap (λ o. option_map_or (uses_value x) o false) e ∙ is-value y x h)
    by (Some (Operation op w k ys)) e h =
        let takes = takes-earlier ssa v (Operation op w k ys) early e in
        let same : uses_at ssa v x ≡ (is_value x ys.first || (is_value x ys.second || is_value x ys.third)) = ap (λ o. option_map_or (uses_value x) o false) e in
        elim h [
          | inl a ↦ use-depends ssa v x unit (is-earlier v ys.first x takes.0 a) (same ∙ or_left _ _ (is-value ys.first x a))
          | inr b ↦ elim b [
            | inl a ↦ use-depends ssa v x unit (is-earlier v ys.second x takes.1 a) (same ∙ or_right (is_value x ys.first) _ (or_left _ _ (is-value ys.second x a)))
            | inr a ↦ use-depends ssa v x unit (is-earlier v ys.third x takes.2 a) (same ∙ or_right (is_value x ys.first) _ (or_right (is_value x ys.second) _ (is-value ys.third x a)))
          ]
        ]

-- what stands among wanted values is wanted in a slot
pub wanted-slot : (ss : List Slot) (x : ℕ) → In x (filter_map (λ s. value_of s.wanted) ss) → (s : Slot) × Has s ss × (s.wanted ≡ Value x)
wanted-slot [] x h = absurd (omega arith)
wanted-slot (s ∷ ss) x h = by s.wanted refl (wanted-slot ss x) h
  where
    later : (t : Slot) × Has t ss × (t.wanted ≡ Value x) → (t : Slot) × Has t (s ∷ ss) × (t.wanted ≡ Value x)
    later f = (f.0, inr f.1, f.2)

    by : (y : Wanted) → s.wanted ≡ y → (In x (filter_map (λ t. value_of t.wanted) ss) → (t : Slot) × Has t ss × (t.wanted ≡ Value x)) → In x (cons_option (value_of y) (filter_map (λ t. value_of t.wanted) ss)) → (t : Slot) × Has t (s ∷ ss) × (t.wanted ≡ Value x)
    by (Constant w n) e rest g = later (rest g)
    by Nothing e rest g = later (rest g)
    by (Value v) e rest g = elim (cases_Bool (x == v)) [
      | inl t ↦ (s, inl refl, e ∙ ap Value (sym (eqb-true x v t)))
      | inr f ↦ later (rest (let none : one_if (x == v) ≡ 0 = ap one_if f in omega arith))
    ]

-- ---- packs

stored-uses : (ssa : Ssa) (u x : ℕ) (o : Option SsaUnit) → unit_at ssa u ≡ o → stored o ≡ Value x → WorkUses o x
stored-uses ssa u x None e h = cc
stored-uses ssa u x (Some (Load a w)) e h = cc
stored-uses ssa u x (Some (Store a w y)) e h = subst (λ z. Is z x) (sym h) refl
stored-uses ssa u x (Some (Operation op w k ys)) e h = cc

stores-depend : (ssa : Ssa) (low w : ℕ) (us : List ℕ) (x : ℕ) (s : Slot) → TakeEarlier (arguments ssa) ssa.units → Valued (unit_at ssa x) → Has s (slots_from low w (map (λ v. stored (unit_at ssa v)) us)) → s.wanted ≡ Value x → list_any (λ u. depends_on ssa u x) us ≡ true
stores-depend ssa low w [] x s early valued has e = absurd has
stores-depend ssa low w (u ∷ us) x s early valued (inl here) e =
    let same : stored (unit_at ssa u) ≡ Value x = ap (λ (t : Slot). t.wanted) here ∙ e in
    or_left (depends_on ssa u x) _ (work-depends ssa u x early valued (stored-uses ssa u x (unit_at ssa u) refl same))
stores-depend ssa low w (u ∷ us) x s early valued (inr more) e = or_right (depends_on ssa u x) _ (stores-depend ssa (low + w) w us x s early valued more e)

-- the slots of a parameter want what leaves are bound to
slots-bound : (bounds : List Bound) (k x : ℕ) → Every (λ s. s.wanted ≡ Value x → list_any (λ b. is_value x b.wanted) bounds ≡ true) (slots_of bounds k)
slots-bound bounds k x =
    let P : Slot → Type 0 = λ s. s.wanted ≡ Value x → list_any (λ b. is_value x b.wanted) bounds ≡ true in
    let own = filter (λ b. nat_eq b.key.first k) bounds in
    every-sort P (λ s. s.low) (distinct same_slot (map slot_of own))
    (every-distinct P same_slot [] (map slot_of own)
    (every-map P slot_of own (λ b has e. any-is (λ b. is_value x b.wanted) b bounds (from-filter (λ b. nat_eq b.key.first k) b bounds has).0 (ap (is_value x) e ∙ eq-eqb x x refl))))

every-one : {X : Type 0} (P : X → Type 0) (xs : List X) (x : X) → Every P xs → Has x xs → P x
every-one P [] x all has = absurd has
every-one P (y ∷ xs) x all (inl e) = subst P e all.0
every-one P (y ∷ xs) x all (inr h) = every-one P xs x all.1 h

params-bound : (bounds : List Bound) (k : ℕ) (params : List ℕ) (o : Operand) (x : ℕ) (s : Slot) → Has o (operands_from bounds k params) → Has s o.slots → s.wanted ≡ Value x → list_any (λ b. is_value x b.wanted) bounds ≡ true
params-bound bounds k [] o x s has slot e = absurd has
params-bound bounds k (r ∷ params) o x s (inl here) slot e =
    every-one (λ s. s.wanted ≡ Value x → list_any (λ b. is_value x b.wanted) bounds ≡ true) (slots_of bounds k) s (slots-bound bounds k x) (subst (λ (q : Operand). Has s q.slots) (sym here) slot) e
params-bound bounds k (r ∷ params) o x s (inr more) slot e = params-bound bounds (suc k) params o x s more slot e

pack-wants : (ds : List Description) (matches : List Match) (ssa : Ssa) (p : Pack) (o : Operand) (x : ℕ) → TakeEarlier (arguments ssa) ssa.units → Valued (unit_at ssa x) → Has o (operands_of ds matches ssa p) → In x (wanted_values o) → pack_depends ssa matches p x ≡ true
pack-wants ds matches ssa (Loads us) o x early valued has h = absurd has
pack-wants ds matches ssa (Stores us) o x early valued (inr none) h = absurd none
pack-wants ds matches ssa (Stores us) o x early valued (inl here) h =
    let s = wanted-slot o.slots x h in
    stores-depend ssa 0 (first_width ssa us) us x s.0 early valued (subst (λ (q : Operand). Has s.0 q.slots) (sym here) s.1) s.2
pack-wants ds matches ssa (Call e lanes) o x early valued has h =
    let s = wanted-slot o.slots x h in
    and_from (is_unit ssa x) _ (valued-is (unit_at ssa x) valued) (params-bound (bounds_from matches e 0 lanes) 0 (params_of ds e) o x s.0 has s.1 s.2)

-- an operand that wants a value is one of those that are taken
operands-have : (j : Job) (os : List ℕ) (x : ℕ) → OperandsWant j os x → (o : Operand) × Has o (map (operand_at j) os) × In x (wanted_values o)
operands-have j [] x h = absurd h
operands-have j (o ∷ os) x (inl h) = (operand_at j o, inl refl, h)
operands-have j (o ∷ os) x (inr h) = let rest = operands-have j os x h in (rest.0, inr rest.1, rest.2)

pub node-uses-depend : (j : Job) (matches : List Match) (n : Node) (x : ℕ) → TakeEarlier (arguments j.ssa) j.ssa.units
    → ((k : ℕ) → n ≡ PackAt k → (k < length j.packs) × (map (operand_at j) (takes_at j k) ≡ operands_of j.descriptions matches j.ssa (pack_at j k)))
    → Valued (unit_at j.ssa x) → NodeUses j n x → node_depends j.ssa matches j.packs n x ≡ true
node-uses-depend j matches (PackAt k) x early here valued uses =
    let own = here k refl in
    let o = operands-have j (takes_at j k) x uses in
    ap (λ q. option_map_or (λ p. pack_depends j.ssa matches p x) q false) (get-there j.packs k (Stores []) own.0)
    ∙ pack-wants j.descriptions matches j.ssa (pack_at j k) o.0 x early valued (subst (Has o.0) own.1 o.1) o.2
node-uses-depend j matches (UnitAt v) x early here valued uses = work-depends j.ssa v x early valued uses
