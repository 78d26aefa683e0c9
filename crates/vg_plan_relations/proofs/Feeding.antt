-- A pack is in the list of what feeds an operand exactly where it is a load group that feeds it.
use Rattle.std.proofs.Common.{◌≡◌, ℕ, List, [], ◌∷◌, refl, ap, ◌∙◌, inl, inr}
use Rattle.std.specs.List.{filter_map}
use Rattle.vg_plans.specs.Members.{Has}
use Rattle.vg_plans.specs.World.{is_in}
use Rattle.vg_plans.proofs.Members.{any-found, any-is, from-filter, has-filter}
use Rattle.vg_plans.proofs.Reach.{has-in, in-has}
use Rattle.vg_shapes.specs.declared.operand.Operand.{Operand}
use Rattle.vg_shapes.specs.declared.operand.Slot.{Slot}
use Rattle.vg_shapes.specs.declared.pack.Pack.{Pack}
use Rattle.vg_shapes.specs.declared.ssa.Ssa.{Ssa}
use Rattle.vg_shapes.specs.declared.wanted.Wanted.{Wanted}
use Rattle.vg_shapes.specs.declared.wanted.Wanted.TheVariants.{Value, Constant, Nothing}
use Rattle.vg_shapes.specs.Pack.{units_of}
use Rattle.vg_kernel_plans.specs.LoadGroups.{feeders, feeds, load_groups}
use Rattle.vg_kernel_plans.specs.Wants.{value_of, wanted_values}
use Rattle.vg_plan_relations.specs.Plans.{Feeds}

-- the values that slots want
abbrev values : List Slot → List ℕ
values slots = filter_map (λ (s : Slot). value_of s.wanted) slots

abbrev IsWantedBy : List Slot → ℕ → Type 0
IsWantedBy slots v = (s : Slot) × Has s slots × (s.wanted ≡ Value v)

later : (s : Slot) (slots : List Slot) (v : ℕ) → IsWantedBy slots v → IsWantedBy (s ∷ slots) v
later s slots v k = (k.0, inr k.1, k.2)

value-wanted : (slots : List Slot) (v : ℕ) → Has v (values slots) → IsWantedBy slots v
value-wanted [] v h = absurd h
value-wanted (s ∷ slots) v h = by (λ k. value-wanted slots v k) s.wanted refl h
  where
    by : (Has v (values slots) → IsWantedBy slots v) → (x : Wanted) → s.wanted ≡ x
        → Has v (values (s ∷ slots)) → IsWantedBy (s ∷ slots) v
    by rest (Value u) e h = elim (rw e at h) [
      | inl same ↦ (s, inl refl, e ∙ ap Value same)
      | inr r ↦ later s slots v (rest r)
    ]
    by rest (Constant w n) e h = later s slots v (rest (rw e at h))
    by rest Nothing e h = later s slots v (rest (rw e at h))

past : (s : Slot) (slots : List Slot) (v : ℕ) → Has v (values slots) → Has v (values (s ∷ slots))
past s slots v h = by s.wanted refl
  where
    by : (x : Wanted) → s.wanted ≡ x → Has v (values (s ∷ slots))
    by (Value u) e = rw e (inr h)
    by (Constant w n) e = rw e h
    by Nothing e = rw e h

wanted-value : (slots : List Slot) (s : Slot) (v : ℕ) → Has s slots → s.wanted ≡ Value v
    → Has v (values slots)
wanted-value [] s v h e = absurd h
wanted-value (x ∷ slots) s v h e = elim h [
  | inl same ↦ let own : x.wanted ≡ Value v = ap (λ (t : Slot). t.wanted) same ∙ e in rw own (inl refl)
  | inr r ↦ past x slots v (wanted-value slots s v r e)
]

pub feeds-right : (ssa : Ssa) (o : Operand) (p : Pack) → Has p (feeders ssa o) → Feeds ssa p o
feeds-right ssa o p h =
    let k = from-filter (feeds o) p (load_groups ssa o.register) h in
    let v = any-found (λ v. is_in v (units_of p)) (wanted_values o) k.1 in
    let w = value-wanted o.slots v.0 v.1 in
    record { group = k.0; wanted = (w.0, v.0, w.1, w.2, in-has v.0 (units_of p) v.2) }

pub feeds-whole : (ssa : Ssa) (o : Operand) (p : Pack) → Feeds ssa p o → Has p (feeders ssa o)
feeds-whole ssa o p is =
    let w = is.wanted in
    has-filter (feeds o) p (load_groups ssa o.register) is.group
    (any-is (λ v. is_in v (units_of p)) w.1 (wanted_values o) (wanted-value o.slots w.0 w.1 w.2 w.3)
    (has-in w.1 (units_of p) w.4))
