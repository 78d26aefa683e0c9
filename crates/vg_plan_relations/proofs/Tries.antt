-- What is tried by a choice: the store groups that may be had, what produces operands, and the load
-- groups that feed them, where they may.
use Rattle.std.proofs.Common.{◌⊎◌, ℕ, ◌+◌, ◌<◌, ◌≤◌, Bool, true, false, List, [], ◌∷◌, length, sym, ap, subst, inl, inr, arith}
use Rattle.std.specs.Prelude.{flat_map, if◌then◌else◌}
use Rattle.std.specs.List.{AllByRecursion}
use Rattle.vg_base.specs.declared.address.Address.{Address}
use Rattle.vg_base.specs.declared.width.Width.{Width}
use Rattle.vg_plans.specs.Members.{Every, Has}
use Rattle.vg_plans.specs.World.{tried, tried_for}
use Rattle.vg_plans.proofs.Members.{from-filter, from-flat_map, has-append, has-filter, has-flat, has-left, has-right}
use Rattle.vg_shapes.specs.declared.match_table.Match.{Match}
use Rattle.vg_shapes.specs.declared.operand.Operand.{Operand}
use Rattle.vg_shapes.specs.declared.operand.Slot.{Slot}
use Rattle.vg_shapes.specs.declared.pack.Pack.{Pack}
use Rattle.vg_shapes.specs.declared.pack.Pack.TheVariants.{Stores, Loads, Call}
use Rattle.vg_shapes.specs.declared.ssa.Ssa.{Ssa}
use Rattle.vg_shapes.specs.declared.wanted.Wanted.{Wanted}
use Rattle.vg_shapes.specs.Depends.{dependences}
use Rattle.vg_shapes.specs.Description.{Description, IsPackable}
use Rattle.vg_shapes.specs.Matches.{AreMatches}
use Rattle.vg_shapes.specs.Pack.{AreStores, bounds_from}
use Rattle.vg_kernel_plans.specs.declared.choice.Choice.{Choice}
use Rattle.vg_kernel_plans.specs.Fed.{feeders_by, groups_by, packing_by}
use Rattle.vg_kernel_plans.specs.Groups.{aligned_groups, is_aligned, store_groups}
use Rattle.vg_kernel_plans.specs.LoadGroups.{feeders}
use Rattle.vg_kernel_plans.specs.Producers.{producers}
use Rattle.vg_kernel_plans.specs.Taken.{first_width, operands_of, params_of, slots_from, unit_width}
use Rattle.vg_kernel_plans.proofs.LoadPacks.{IsLoadGroup, load-group}
use Rattle.vg_packs.specs.Laws.{IsGroup}
use Rattle.vg_packs.proofs.Once.{groups-listed}
use Rattle.vg_plan_relations.specs.Plans.{FeedsFor, FeedsForBy, IsGroupBy, ProducesFor}
use Rattle.vg_plan_relations.specs.Produces.{AreRising}
use Rattle.vg_plan_relations.proofs.Agreeing.{binds-agree, call-rises}
use Rattle.vg_plan_relations.proofs.Feeding.{feeds-right, feeds-whole}
use Rattle.vg_plan_relations.proofs.Loading.{is-wide}
use Rattle.vg_plan_relations.proofs.Producing.{listed-right, listed-whole}
use Rattle.vg_plan_relations.proofs.Rising.{every-more}

-- ---- operands of packs

slots-behind : (low w n : ℕ) (xs : List Wanted) → n ≤ low → Every (λ (s : Slot). n ≤ s.low) (slots_from low w xs)
slots-behind low w n [] l = tt
slots-behind low w n (x ∷ xs) l = (l, slots-behind (low + w) w n xs (omega (arith, l)))

slots-rise : (low w : ℕ) (xs : List Wanted) → 0 < w → AreRising (slots_from low w xs)
slots-rise low w [] l = tt
slots-rise low w (x ∷ xs) l = (
  every-more (λ (s : Slot). low + w ≤ s.low) (λ (s : Slot). low < s.low) (λ s h. omega (arith, h, l))
      (slots_from (low + w) w xs) (slots-behind (low + w) w (low + w) xs (omega arith)),
  slots-rise (low + w) w xs l,
)

stores-wide : (ssa : Ssa) (w : Width) (a : Address) (us : List ℕ) (xs : List Wanted) → AreStores ssa w a us xs → 2 ≤ length us → 0 < first_width ssa us
stores-wide ssa w a [] xs s l = absurd (omega (arith, l))
stores-wide ssa w a (u ∷ us) [] s l = absurd s
stores-wide ssa w a (u ∷ us) (x ∷ xs) s l = subst (λ n. 0 < n) (sym (ap unit_width s.0)) (is-wide w)

-- ---- store groups and load groups by choice

groups-right : (a : Bool) (ssa : Ssa) (p : Pack) → Has p (if a then aligned_groups ssa else store_groups ssa)
    → IsGroupBy a ssa p
groups-right true ssa p h =
    let k = from-filter (is_aligned ssa) p (store_groups ssa) h in
    ((groups-listed ssa).right p k.0, k.1)
groups-right false ssa p h = (groups-listed ssa).right p h

group-listed : (ssa : Ssa) (p : Pack) → IsGroup ssa p → Has p (store_groups ssa)
group-listed ssa (Stores us) g = (groups-listed ssa).whole us g
group-listed ssa (Loads us) g = absurd g
group-listed ssa (Call d lanes) g = absurd g

groups-whole : (a : Bool) (ssa : Ssa) (p : Pack) → IsGroupBy a ssa p
    → Has p (if a then aligned_groups ssa else store_groups ssa)
groups-whole true ssa p g = has-filter (is_aligned ssa) p (store_groups ssa) (group-listed ssa p g.0) g.1
groups-whole false ssa p g = group-listed ssa p g

pub any-group : (a : Bool) (ssa : Ssa) (p : Pack) → IsGroupBy a ssa p → IsGroup ssa p
any-group true ssa p g = g.0
any-group false ssa p g = g

module _ (ds : List Description) (matches : List Match) (ssa : Ssa) where
  pub any-feeds : (f : Bool) (before : List Pack) (p : Pack) → FeedsForBy f ds matches ssa before p
      → FeedsFor ds matches ssa before p
  any-feeds true before p k = k
  any-feeds false before p k = absurd k

  feeders-right : (f : Bool) (before : List Pack) (p q : Pack) (o : Operand) → Has q before
      → Has o (operands_of ds matches ssa q) → Has p (if f then feeders ssa o else [])
      → FeedsForBy f ds matches ssa before p
  feeders-right true before p q o hq ho h = (q, o, hq, ho, feeds-right ssa o p h)
  feeders-right false before p q o hq ho h = absurd h

  -- a load group is tried for the operand that it feeds
  abbrev IsTriedFor : Bool → List Pack → Pack → Type 0
  IsTriedFor f before p =
      (q : Pack) × (o : Operand) × Has q before × Has o (operands_of ds matches ssa q)
      × Has p (if f then feeders ssa o else [])

  feeders-whole : (f : Bool) (before : List Pack) (p : Pack) → FeedsForBy f ds matches ssa before p
      → IsTriedFor f before p
  feeders-whole true before p k = (k.0, k.1, k.2, k.3, feeds-whole ssa k.1 p k.4)
  feeders-whole false before p k = absurd k

  fed-loads : (f : Bool) (before : List Pack) (p : Pack) → FeedsForBy f ds matches ssa before p
      → IsLoadGroup ssa p
  fed-loads f before p k =
      let m = any-feeds f before p k in
      let is = m.4 in
      load-group ssa m.1.register p is.group

  -- ---- what is tried

  -- a pack is a store group, produces an operand of one of these, or feeds one
  abbrev pub MayFollow : Choice → List Pack → Pack → Type 0
  MayFollow c before p =
      IsGroupBy c.aligned ssa p
      ⊎ (ProducesFor ds matches ssa before p ⊎ FeedsForBy c.fed ds matches ssa before p)

  module _ (packable : AllByRecursion IsPackable ds) (are : AreMatches ds ssa matches) where
    pub pack-rises : (c : Choice) (before : List Pack) (p : Pack) (q : Operand) → MayFollow c before p
        → Has q (operands_of ds matches ssa p) → AreRising q.slots
    pack-rises c before (Stores us) q m h = elim m [
      | inl k ↦
          let g = any-group c.aligned ssa (Stores us) k in
          elim h [
            | inl e ↦
                subst (λ (x : Operand). AreRising x.slots) e
                (slots-rise 0 (first_width ssa us) _ (stores-wide ssa g.0 g.1 us g.2 g.4 g.6))
            | inr n ↦ absurd n
          ]
      | inr k ↦ elim k [
        | inl n ↦ (let made = n.4 in absurd made.pack)
        | inr f ↦ (let g = fed-loads c.fed before (Stores us) f in let e = g.pack in absurd (cc))
      ]
    ]
    pack-rises c before (Loads us) q m h = absurd h
    pack-rises c before (Call d lanes) q m h = elim m [
      | inl k ↦ absurd (any-group c.aligned ssa (Call d lanes) k)
      | inr k ↦ elim k [
        | inl n ↦
            let made = n.4 in
            let pack = made.pack in
            call-rises (bounds_from matches d 0 lanes) 0 (params_of ds d) q
            (binds-agree ds matches ssa d lanes pack.agree) h
        | inr f ↦ (let g = fed-loads c.fed before (Call d lanes) f in let e = g.pack in absurd (cc))
      ]
    ]

    pub tried-may : (c : Choice) (before : List Pack) (p : Pack)
        → Has p (tried (packing_by c ds matches ssa (dependences ssa)) before) → MayFollow c before p
    tried-may c before p h =
        let of : Operand → List Pack = tried_for (packing_by c ds matches ssa (dependences ssa)) in
        let all : Pack → List Pack = λ q. flat_map of (operands_of ds matches ssa q) in
        elim (has-append p (groups_by c ssa) (flat_map all before) h) [
          | inl l ↦ inl (groups-right c.aligned ssa p l)
          | inr r ↦
              let q = from-flat_map all p before r in
              let o = from-flat_map of p (operands_of ds matches ssa q.0) q.2 in
              elim (has-append p (producers ds matches ssa o.0) (feeders_by c ssa o.0) o.2) [
                | inl m ↦ inr (inl (q.0, o.0, q.1, o.1, listed-right ds matches ssa o.0 packable are p m))
                | inr f ↦ inr (inr (feeders-right c.fed before p q.0 o.0 q.1 o.1 f))
              ]
        ]

    pub may-tried : (c : Choice) (before : List Pack) (p : Pack)
        → ((q : Pack) (o : Operand) → Has q before → Has o (operands_of ds matches ssa q) → AreRising o.slots)
        → MayFollow c before p → Has p (tried (packing_by c ds matches ssa (dependences ssa)) before)
    may-tried c before p rises m =
        let of : Operand → List Pack = tried_for (packing_by c ds matches ssa (dependences ssa)) in
        let all : Pack → List Pack = λ q. flat_map of (operands_of ds matches ssa q) in
        let there : (q : Pack) (o : Operand) → Has q before → Has o (operands_of ds matches ssa q) → Has p (of o)
        → Has p (tried (packing_by c ds matches ssa (dependences ssa)) before) =
        λ q o hq ho h.
        has-right p (groups_by c ssa) (flat_map all before)
        (has-flat all q p before hq (has-flat of o p (operands_of ds matches ssa q) ho h)) in
        elim m [
          | inl g ↦ has-left p (groups_by c ssa) (flat_map all before) (groups-whole c.aligned ssa p g)
          | inr k ↦ elim k [
            | inl n ↦
                let own = listed-whole ds matches ssa n.1 packable are (rises n.0 n.1 n.2 n.3) p n.4 in
                there n.0 n.1 n.2 n.3 (has-left p (producers ds matches ssa n.1) (feeders_by c ssa n.1) own)
            | inr f ↦
                let t = feeders-whole c.fed before p f in
                there t.0 t.1 t.2 t.3 (has-right p (producers ds matches ssa t.1) (feeders_by c ssa t.1) t.4)
          ]
        ]
