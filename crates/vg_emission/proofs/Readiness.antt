-- In a legal order what a node takes has run, and has a register.
use Rattle.std.proofs.Common.{◌≡◌, ℕ, ◌+◌, ◌<◌, ◌≤◌, Bool, true, List, [], ◌∷◌, ◌++◌, length, map, Option, Some, None, refl, sym, ap, subst, ◌∙◌, ◌⊎◌, inl, inr, arith}
use Rattle.std.specs.Prelude.{filter_map, slice_set, ◌==◌}
use Rattle.std.specs.List.{AllByRecursion}
use Rattle.std.proofs.Math.ListN.{set}
use Rattle.std.proofs.lemmas.Bool.{cases_Bool, cond-true, cond-false, eqb-true, cases_eq, cases_lt}
use Rattle.std.proofs.lemmas.List.{get_or-set_same, get_or-set_other, set_past, length-set}
use Rattle.vg_base.specs.declared.width.Width.{Width}
use Rattle.vg_shapes.specs.declared.operand.Operand.{Operand}
use Rattle.vg_shapes.specs.declared.operand.Slot.{Slot}
use Rattle.vg_shapes.specs.declared.order.Node.{Node}
use Rattle.vg_shapes.specs.declared.order.Node.TheVariants.{PackAt, UnitAt}
use Rattle.vg_shapes.specs.declared.pack.Pack.{Pack}
use Rattle.vg_shapes.specs.declared.pack.Pack.TheVariants.{Stores, Loads, Call}
use Rattle.vg_shapes.specs.declared.ssa_unit.SsaUnit.{SsaUnit}
use Rattle.vg_shapes.specs.declared.ssa_unit.SsaUnit.TheVariants.{Load, Store, Operation}
use Rattle.vg_shapes.specs.declared.wanted.Wanted.{Wanted}
use Rattle.vg_shapes.specs.declared.wanted.Wanted.TheVariants.{Value, Constant, Nothing}
use Rattle.vg_shapes.specs.Operands.{lanes_of}
use Rattle.vg_shapes.specs.Order.{all_units, count_of, Follows, one_if, Stands as In}
use Rattle.vg_shapes.specs.Pack.{units_of}
use Rattle.vg_shapes.specs.Units.{arguments, unit_at}
use Rattle.vg_kernel_plans.specs.declared.recipe.Recipe.{Recipe}
use Rattle.vg_kernel_plans.specs.declared.recipe.Recipe.TheVariants as recipe
use Rattle.vg_kernel_plans.specs.Held.{lane_width_of}
use Rattle.vg_kernel_plans.specs.Wants.{wanted_values}
use Rattle.vg_order_laws.proofs.Legal.{all_units-push}
use Rattle.vg_order_laws.proofs.Sequences.{count_of-append}
use Rattle.vg_emission.specs.Draft.{Draft, Made, found, with_held, with_name}
use Rattle.vg_emission.specs.Emission.{Job, build, build_all, extracts, node_lines, operand_at, pack_at, pack_lines, recipe_at, takes_at, unit_lines, value_slots, width_for, with_pack}
use Rattle.vg_emission.specs.Planned.{GivesOne, values_of}
use Rattle.vg_emission.proofs.Placing.{AllHeld, AllReady, build-keeps, IsLaneSlot, Known, RecipeReady, SlotsKnown}
use Rattle.vg_emission.proofs.Programs.{node_units, NodeReady, NodesReady, UnitReady}

abbrev pub Found : List (Option ℕ) → ℕ → Type 0
Found rs k = (r : ℕ) × (found rs k ≡ Some r)

found-here : (rs : List (Option ℕ)) (k r : ℕ) → k < length rs → Found (slice_set rs k (Some r)) k
found-here rs k r h = (r, get_or-set_same rs k (Some r) None h)

found-more : (rs : List (Option ℕ)) (k r n : ℕ) → Found rs n → Found (slice_set rs k (Some r)) n
found-more rs k r n f = elim (cases_eq n k) [
  | inl same ↦ elim (cases_lt k (length rs)) [
    | inl h ↦ subst (Found (set rs k (Some r))) (sym same) (found-here rs k r h)
    | inr h ↦ (f.0, ap (λ l. found l n) (set_past rs k (Some r) h) ∙ f.1)
  ]
  | inr other ↦ (f.0, get_or-set_other rs k n (Some r) None other ∙ f.1)
]

-- a draft that knows no less
pub record Grown (d e : Draft) : Type 0 where
  pub names : (v : ℕ) → Found d.names v → Found e.names v
  pub held : (k : ℕ) → Found d.held k → Found e.held k
  pub long_names : length e.names ≡ length d.names
  pub long_held : length e.held ≡ length d.held

grown-same : (d e : Draft) → e.names ≡ d.names → e.held ≡ d.held → Grown d e
grown-same d e n h = record { names = λ v f. (f.0, ap (λ l. found l v) n ∙ f.1); held = λ k f. (f.0, ap (λ l. found l k) h ∙ f.1); long_names = ap length n; long_held = ap length h }

grown-then : (d e f : Draft) → Grown d e → Grown e f → Grown d f
grown-then d e f g h = record { names = λ v x. h.names v (g.names v x); held = λ k x. h.held k (g.held k x); long_names = h.long_names ∙ g.long_names; long_held = h.long_held ∙ g.long_held }

grown-name : (d : Draft) (v : ℕ) → Grown d (with_name d v)
grown-name d v = record { names = λ u f. found-more d.names v d.scalars u f; held = λ k f. f; long_names = length-set d.names v (Some d.scalars); long_held = refl }

grown-held : (d : Draft) (k : ℕ) → Grown d (with_held d k)
grown-held d k = record { names = λ u f. f; held = λ n f. found-more d.held k d.vectors n f; long_names = refl; long_held = length-set d.held k (Some d.vectors) }

extracts-grown : (j : Job) (d : Draft) (r : ℕ) (w : Width) (n : ℕ) (us : List (Option ℕ)) → Grown d (extracts j d r w n us).draft
extracts-grown j d r w n [] = grown-same d d refl refl
extracts-grown j d r w n (None ∷ us) = extracts-grown j d r w (n + 1) us
extracts-grown j d r w n (Some v ∷ us) =
    let Goal : Made → Type 0 = λ made. Grown d made.draft in
    elim (cases_Bool (j.needed v)) [
      | inl t ↦ subst Goal (sym (cond-true _ _ _ t)) (grown-then d (with_name d v) _ (grown-name d v) (extracts-grown j (with_name d v) r w (n + 1) us))
      | inr f ↦ subst Goal (sym (cond-false _ _ _ f)) (extracts-grown j d r w (n + 1) us)
    ]

-- each lane whose value is needed has a name
extracts-named : (j : Job) (d : Draft) (r : ℕ) (w : Width) (n : ℕ) (us : List (Option ℕ)) (v : ℕ) → In v (filter_map (λ u. u) us) → j.needed v ≡ true → v < length d.names → Found (extracts j d r w n us).draft.names v
extracts-named j d r w n [] v h need l = absurd (omega arith)
extracts-named j d r w n (None ∷ us) v h need l = extracts-named j d r w (n + 1) us v h need l
extracts-named j d r w n (Some u ∷ us) v h need l =
    let Goal : Made → Type 0 = λ made. Found made.draft.names v in
    let e = with_name d u in
    elim (cases_Bool (v == u)) [
      | inl t ↦
          let same = eqb-true v u t in
          let needed : j.needed u ≡ true = ap j.needed (sym same) ∙ need in
          subst Goal (sym (cond-true _ _ _ needed)) ((extracts-grown j e r w (n + 1) us).names v (subst (λ q. Found (slice_set d.names q (Some d.scalars)) v) same (found-here d.names v d.scalars l)))
      | inr f ↦
          let other : In v (filter_map (λ u. u) us) = (let none : one_if (v == u) ≡ 0 = ap one_if f in omega arith) in
          let long = length-set d.names u (Some d.scalars) in
          elim (cases_Bool (j.needed u)) [
            | inl t ↦ subst Goal (sym (cond-true _ _ _ t)) (extracts-named j e r w (n + 1) us v other need (omega arith))
            | inr g ↦ subst Goal (sym (cond-false _ _ _ g)) (extracts-named j d r w (n + 1) us v other need l)
          ]
    ]

builds-grown : (j : Job) (d : Draft) (os : List ℕ) → Grown d (build_all j d os).draft
builds-grown j d [] = grown-same d d refl refl
builds-grown j d (o ∷ os) =
    let keeps = build-keeps j d o (found d.built o) (recipe_at j o) refl in
    grown-then d (build j d o).draft _ (grown-same d (build j d o).draft keeps.0 keeps.1) (builds-grown j (build j d o).draft os)

-- ---- after a node

-- a unit with a value
abbrev pub Valued : Option SsaUnit → Type 0
Valued None = ⊥
Valued (Some (Load a w)) = Unit {0}
Valued (Some (Store a w x)) = ⊥
Valued (Some (Operation op w k xs)) = Unit {0}

work-grown : (j : Job) (d : Draft) (v : ℕ) (o : Option SsaUnit) → Grown d (unit_lines j d v o).draft
work-grown j d v None = grown-same d d refl refl
work-grown j d v (Some (Load a w)) = grown-name d v
work-grown j d v (Some (Store a w x)) = grown-same d d refl refl
work-grown j d v (Some (Operation op w k xs)) =
    let Goal : Made → Type 0 = λ made. Grown d made.draft in
    elim (cases_Bool (j.needed v)) [
      | inl t ↦ subst Goal (sym (cond-true _ _ _ t)) (grown-name d v)
      | inr f ↦ subst Goal (sym (cond-false _ _ _ f)) (grown-same d d refl refl)
    ]

work-named : (j : Job) (d : Draft) (v : ℕ) (o : Option SsaUnit) → Valued o → j.needed v ≡ true → v < length d.names → Found (unit_lines j d v o).draft.names v
work-named j d v None h n l = absurd h
work-named j d v (Some (Load a w)) h n l = found-here d.names v d.scalars l
work-named j d v (Some (Store a w x)) h n l = absurd h
work-named j d v (Some (Operation op w k xs)) h n l =
    let Goal : Made → Type 0 = λ made. Found made.draft.names v in
    subst Goal (sym (cond-true _ _ _ n)) (found-here d.names v d.scalars l)

with-pack-grown : (d : Draft) (k : ℕ) (p : Pack) → Grown d (with_pack d k p)
with-pack-grown d k (Stores us) = grown-same d d refl refl
with-pack-grown d k (Loads us) = grown-held d k
with-pack-grown d k (Call e us) = grown-held d k

pack-grown : (j : Job) (d : Draft) (k : ℕ) (p : Pack) → Grown d (pack_lines j d k p).draft
pack-grown j d k p =
    let f = (build_all j d (takes_at j k)).draft in
    grown-then d f _ (builds-grown j d (takes_at j k)) (grown-then f (with_pack f k p) _ (with-pack-grown f k p)
    (extracts-grown j (with_pack f k p) f.vectors (width_for (lane_width_of j.descriptions j.ssa p)) 0 (lanes_of p)))

pack-named : (j : Job) (d : Draft) (k : ℕ) (p : Pack) (v : ℕ) → In v (values_of p) → j.needed v ≡ true → v < length d.names → Found (pack_lines j d k p).draft.names v
pack-named j d k p v h n l =
    let f = (build_all j d (takes_at j k)).draft in
    let a = (builds-grown j d (takes_at j k)).long_names in
    let b = (with-pack-grown f k p).long_names in
    extracts-named j (with_pack f k p) f.vectors (width_for (lane_width_of j.descriptions j.ssa p)) 0 (lanes_of p) v h n (omega arith)

-- a pack whose register others may take
abbrev pub IsHolder : Pack → Type 0
IsHolder (Stores us) = ⊥
IsHolder (Loads us) = Unit {0}
IsHolder (Call e us) = Unit {0}

-- a pack that gives a value has a register, and the value is one of its units
pub gives-holder : (p : Pack) (x : ℕ) → In x (values_of p) → IsHolder p
gives-holder (Stores us) x h = absurd (omega arith)
gives-holder (Loads us) x h = tt
gives-holder (Call e us) x h = tt

pub values-loads : (us : List ℕ) → filter_map (λ v. v) (map Some us) ≡ us
values-loads [] = refl
values-loads (u ∷ us) = ap (λ l. u ∷ l) (values-loads us)

pub gives-unit : (p : Pack) (x : ℕ) → In x (values_of p) → In x (units_of p)
gives-unit (Stores us) x h = absurd (omega arith)
gives-unit (Loads us) x h = subst (In x) (values-loads us) h
gives-unit (Call e us) x h = h

held-with : (d : Draft) (k : ℕ) (p : Pack) → IsHolder p → k < length d.held → Found (with_pack d k p).held k
held-with d k (Stores us) h l = absurd h
held-with d k (Loads us) h l = found-here d.held k d.vectors l
held-with d k (Call e us) h l = found-here d.held k d.vectors l

pack-held : (j : Job) (d : Draft) (k : ℕ) (p : Pack) → IsHolder p → k < length d.held → Found (pack_lines j d k p).draft.held k
pack-held j d k p h l =
    let f = (build_all j d (takes_at j k)).draft in
    let a = (builds-grown j d (takes_at j k)).long_held in
    (extracts-grown j (with_pack f k p) f.vectors (width_for (lane_width_of j.descriptions j.ssa p)) 0 (lanes_of p)).held k (held-with f k p h (omega arith))

pub node-grown : (j : Job) (d : Draft) (n : Node) → Grown d (node_lines j d n).draft
node-grown j d (PackAt k) = pack-grown j d k (pack_at j k)
node-grown j d (UnitAt v) = work-grown j d v (unit_at j.ssa v)

-- what holds of a job, whatever the order
pub record Needs (j : Job) (names held : ℕ) : Type 0 where
  pub values : (v : ℕ) → j.needed v ≡ true → Valued (unit_at j.ssa v) × (v < names)
  pub packs : (k : ℕ) → IsHolder (pack_at j k) → k < held
  pub units : (k v : ℕ) → Valued (unit_at j.ssa v) → In v (units_of (pack_at j k)) → In v (values_of (pack_at j k))

node-named : (j : Job) (d : Draft) (n : Node) (v : ℕ) → ((k v : ℕ) → Valued (unit_at j.ssa v) → In v (units_of (pack_at j k)) → In v (values_of (pack_at j k))) → Valued (unit_at j.ssa v) → In v (node_units j n) → j.needed v ≡ true → v < length d.names → Found (node_lines j d n).draft.names v
node-named j d (PackAt k) v given valued h n l = pack-named j d k (pack_at j k) v (given k v valued h) n l
node-named j d (UnitAt u) v given valued h n l = elim (cases_Bool (v == u)) [
  | inl t ↦ let same = eqb-true v u t in subst (λ q. Found (unit_lines j d q (unit_at j.ssa q)).draft.names v) same (work-named j d v (unit_at j.ssa v) valued n l)
  | inr f ↦ absurd (let none_here : one_if (v == u) ≡ 0 = ap one_if f in omega arith)
]

-- ---- what has run

abbrev pub HasPack : ℕ → List Node → Type 0
HasPack k [] = ⊥
HasPack k (PackAt n ∷ ns) = (k ≡ n) ⊎ HasPack k ns
HasPack k (UnitAt v ∷ ns) = HasPack k ns

-- values that are needed and packs of the nodes that have run have registers
pub record Ran (j : Job) (d : Draft) (done : List Node) : Type 0 where
  pub named : (v : ℕ) → In v (all_units (node_units j) done) → j.needed v ≡ true → Found d.names v
  pub held : (k : ℕ) → HasPack k done → IsHolder (pack_at j k) → Found d.held k

pack-last : (k : ℕ) (done : List Node) (n : Node) → HasPack k (done ++ n ∷ []) → HasPack k done ⊎ HasPack k (n ∷ [])
pack-last k [] n h = inr h
pack-last k (PackAt q ∷ done) n (inl e) = inl (inl e)
pack-last k (PackAt q ∷ done) n (inr h) = elim (pack-last k done n h) [ inl a ↦ inl (inr a) | inr b ↦ inr b ]
pack-last k (UnitAt v ∷ done) n h = elim (pack-last k done n h) [ inl a ↦ inl a | inr b ↦ inr b ]

last-held : (j : Job) (d : Draft) (n : Node) (k : ℕ) → Needs j (length d.names) (length d.held) → HasPack k (n ∷ []) → IsHolder (pack_at j k) → Found (node_lines j d n).draft.held k
last-held j d (PackAt q) k needs (inl e) holder = subst (λ q. Found (pack_lines j d q (pack_at j q)).draft.held k) e (pack-held j d k (pack_at j k) holder (needs.packs k holder))
last-held j d (PackAt q) k needs (inr h) holder = absurd h
last-held j d (UnitAt v) k needs h holder = absurd h

ran-more : (j : Job) (d : Draft) (done : List Node) (n : Node) → Needs j (length d.names) (length d.held) → Ran j d done → Ran j (node_lines j d n).draft (done ++ n ∷ [])
ran-more j d done n needs ran = record {
  named = λ v h needed.
      let split : count_of v (all_units (node_units j) (done ++ n ∷ [])) ≡ count_of v (all_units (node_units j) done) + count_of v (node_units j n) =
      ap (count_of v) (all_units-push (node_units j) done n) ∙ count_of-append v (all_units (node_units j) done) (node_units j n) in
      elim (cases_lt 0 (count_of v (all_units (node_units j) done))) [
        | inl before ↦ (node-grown j d n).names v (ran.named v before needed)
        | inr none ↦ (let x = needs.values v needed in node-named j d n v needs.units x.0 (omega arith) needed x.1)
      ];
  held = λ k h holder. elim (pack-last k done n h) [
    | inl before ↦ (node-grown j d n).held k (ran.held k before holder)
    | inr now ↦ last-held j d n k needs now holder
  ];
}

-- ---- so a node is ready

-- a unit of the node that stands in a pack stands in no other node
abbrev pub OnlyIn : Job → Node → Type 0
OnlyIn j n = (x k : ℕ) → In x (node_units j n) → In x (units_of (pack_at j k)) → n ≡ PackAt k

has-pack : (j : Job) (done : List Node) (x k : ℕ) → AllByRecursion (OnlyIn j) done → In x (all_units (node_units j) done) → In x (units_of (pack_at j k)) → HasPack k done
has-pack j [] x k only h g = absurd (omega arith)
has-pack j (n ∷ ns) x k only h g =
    let split = count_of-append x (node_units j n) (all_units (node_units j) ns) in
    elim (cases_lt 0 (count_of x (node_units j n))) [
      | inl here ↦ subst (λ m. HasPack k (m ∷ ns)) (sym (only.0 x k here g)) (inl refl)
      | inr none ↦ later n (has-pack j ns x k only.1 (omega arith) g)
    ]
  where
    later : (m : Node) → HasPack k ns → HasPack k (m ∷ ns)
    later (PackAt q) h = inr h
    later (UnitAt v) h = h

-- a value is an argument, or it is needed
abbrev pub TakenNeeded : Job → Wanted → Type 0
TakenNeeded j (Value v) = (v < arguments j.ssa) ⊎ ((arguments j.ssa ≤ v) × (j.needed v ≡ true))
TakenNeeded j (Constant w n) = Unit {0}
TakenNeeded j Nothing = Unit {0}

-- what is wanted is this value
abbrev pub Is : Wanted → ℕ → Type 0
Is (Value v) x = v ≡ x
Is (Constant w n) x = ⊥
Is Nothing x = ⊥

-- what the recipe of an operand needs, the operand wanting these values
abbrev pub SlotsNeeded : Job → List ℕ → List Slot → Type 0
SlotsNeeded j wants [] = Unit {0}
SlotsNeeded j wants (s ∷ ss) = (TakenNeeded j s.wanted × ((x : ℕ) → Is s.wanted x → In x wants) × IsLaneSlot s) × SlotsNeeded j wants ss

abbrev pub RecipeNeeds : Job → Operand → Recipe → Type 0
RecipeNeeds j o (recipe.Reuse k) = GivesOne j o k
RecipeNeeds j o (recipe.Constant bs) = Unit {0}
RecipeNeeds j o (recipe.Shuffle e packs) = AllByRecursion (GivesOne j o) packs
RecipeNeeds j o recipe.Inserts = SlotsNeeded j (wanted_values o) (value_slots o)

abbrev pub OperandNeeds : Job → ℕ → Type 0
OperandNeeds j o = RecipeNeeds j (operand_at j o) (recipe_at j o)

-- the units of this list are after, where they are wanted: those with values
abbrev pub Behind : Job → List Node → List ℕ → Type 0
Behind j done wants = (x : ℕ) → Valued (unit_at j.ssa x) → In x wants → In x (all_units (node_units j) done)

-- where needed values have values, and so have the values of packs
pub record AreValued (j : Job) : Type 0 where
  pub needed : (v : ℕ) → j.needed v ≡ true → Valued (unit_at j.ssa v)
  pub given : (k x : ℕ) → In x (values_of (pack_at j k)) → Valued (unit_at j.ssa x)

taken-known : (j : Job) (d : Draft) (done : List Node) (y : Wanted) → AreValued j → Ran j d done → ((x : ℕ) → Valued (unit_at j.ssa x) → Is y x → In x (all_units (node_units j) done)) → TakenNeeded j y → Known j d y
taken-known j d done (Constant w n) valued ran behind h = tt
taken-known j d done Nothing valued ran behind h = tt
taken-known j d done (Value v) valued ran behind (inl h) = inl h
taken-known j d done (Value v) valued ran behind (inr h) = inr (let f = ran.named v (behind v (valued.needed v h.1) refl) h.1 in (f.0, h.0, f.1))

known-slots : (j : Job) (d : Draft) (done : List Node) (wants : List ℕ) (xs : List Slot) → AreValued j → Ran j d done → Behind j done wants → SlotsNeeded j wants xs → SlotsKnown j d xs
known-slots j d done wants [] valued ran behind needs = tt
known-slots j d done wants (x ∷ xs) valued ran behind needs =
    (taken-known j d done x.wanted valued ran (λ v a b. behind v a (needs.0.1 v b)) needs.0.0, needs.0.2, known-slots j d done wants xs valued ran behind needs.1)

held-ready : (j : Job) (d : Draft) (done : List Node) (o : Operand) (k : ℕ) → AreValued j → AllByRecursion (OnlyIn j) done → Ran j d done → Behind j done (wanted_values o) → GivesOne j o k → Found d.held k
held-ready j d done o k valued only ran behind gives =
    let x = gives.0 in
    ran.held k (has-pack j done x k only (behind x (valued.given k x gives.2) gives.1) (gives-unit (pack_at j k) x gives.2)) (gives-holder (pack_at j k) x gives.2)

all-held : (j : Job) (d : Draft) (done : List Node) (o : Operand) (ks : List ℕ) → AreValued j → AllByRecursion (OnlyIn j) done → Ran j d done → Behind j done (wanted_values o) → AllByRecursion (GivesOne j o) ks → AllHeld d ks
all-held j d done o [] valued only ran behind gives = tt
all-held j d done o (k ∷ ks) valued only ran behind gives = (held-ready j d done o k valued only ran behind gives.0, all-held j d done o ks valued only ran behind gives.1)

recipe-ready : (j : Job) (d : Draft) (done : List Node) (o : Operand) (way : Recipe) → AreValued j → AllByRecursion (OnlyIn j) done → Ran j d done → Behind j done (wanted_values o) → RecipeNeeds j o way → RecipeReady j d o way
recipe-ready j d done o (recipe.Reuse k) valued only ran behind needs = held-ready j d done o k valued only ran behind needs
recipe-ready j d done o (recipe.Constant bs) valued only ran behind needs = tt
recipe-ready j d done o (recipe.Shuffle e ks) valued only ran behind needs = all-held j d done o ks valued only ran behind needs
recipe-ready j d done o recipe.Inserts valued only ran behind needs = known-slots j d done (wanted_values o) (value_slots o) valued ran behind needs

-- the operands of these numbers want a value
abbrev pub OperandsWant : Job → List ℕ → ℕ → Type 0
OperandsWant j [] x = ⊥
OperandsWant j (o ∷ os) x = In x (wanted_values (operand_at j o)) ⊎ OperandsWant j os x

all-ready : (j : Job) (d : Draft) (done : List Node) (os : List ℕ) → AreValued j → AllByRecursion (OnlyIn j) done → Ran j d done → AllByRecursion (OperandNeeds j) os → ((x : ℕ) → Valued (unit_at j.ssa x) → OperandsWant j os x → In x (all_units (node_units j) done)) → AllReady j d os
all-ready j d done [] valued only ran needs behind = tt
all-ready j d done (o ∷ os) valued only ran needs behind =
    (recipe-ready j d done (operand_at j o) (recipe_at j o) valued only ran (λ x a b. behind x a (inl b)) needs.0, all-ready j d done os valued only ran needs.1 (λ x a b. behind x a (inr b)))

-- a unit outside packs uses a value
abbrev pub WorkUses : Option SsaUnit → ℕ → Type 0
WorkUses None x = ⊥
WorkUses (Some (Load a w)) x = ⊥
WorkUses (Some (Store a w y)) x = Is y x
WorkUses (Some (Operation op w k ys)) x = Is ys.first x ⊎ (Is ys.second x ⊎ Is ys.third x)

-- what a unit outside packs takes is needed
abbrev pub WorkNeeds : Job → ℕ → Option SsaUnit → Type 0
WorkNeeds j v None = Unit {0}
WorkNeeds j v (Some (Load a w)) = Unit {0}
WorkNeeds j v (Some (Store a w x)) = TakenNeeded j x
WorkNeeds j v (Some (Operation op w k xs)) = j.needed v ≡ true → TakenNeeded j xs.first × TakenNeeded j xs.second × TakenNeeded j xs.third

work-ready : (j : Job) (d : Draft) (done : List Node) (v : ℕ) (o : Option SsaUnit) → AreValued j → Ran j d done → ((x : ℕ) → Valued (unit_at j.ssa x) → WorkUses o x → In x (all_units (node_units j) done)) → WorkNeeds j v o → UnitReady j d v o
work-ready j d done v None valued ran behind needs = tt
work-ready j d done v (Some (Load a w)) valued ran behind needs = tt
work-ready j d done v (Some (Store a w x)) valued ran behind needs = taken-known j d done x valued ran behind needs
work-ready j d done v (Some (Operation op w k xs)) valued ran behind needs = λ n. record {
  first = taken-known j d done xs.first valued ran (λ z a b. behind z a (inl b)) (needs n).0;
  second = taken-known j d done xs.second valued ran (λ z a b. behind z a (inr (inl b))) (needs n).1;
  third = taken-known j d done xs.third valued ran (λ z a b. behind z a (inr (inr b))) (needs n).2;
}

-- a node of the job that has what it needs
abbrev pub NodeNeeds : Job → Node → Type 0
NodeNeeds j (PackAt k) = (k < length j.packs) × AllByRecursion (OperandNeeds j) (takes_at j k)
NodeNeeds j (UnitAt v) = WorkNeeds j v (unit_at j.ssa v)

-- the node uses the value of a unit
abbrev pub NodeUses : Job → Node → ℕ → Type 0
NodeUses j (PackAt k) x = OperandsWant j (takes_at j k) x
NodeUses j (UnitAt v) x = WorkUses (unit_at j.ssa v) x

node-ready : (j : Job) (d : Draft) (done : List Node) (n : Node) → AreValued j → AllByRecursion (OnlyIn j) done → Ran j d done → NodeNeeds j n → ((x : ℕ) → Valued (unit_at j.ssa x) → NodeUses j n x → In x (all_units (node_units j) done)) → NodeReady j d n
node-ready j d done (PackAt k) valued only ran needs behind = (needs.0, all-ready j d done (takes_at j k) valued only ran needs.1 behind)
node-ready j d done (UnitAt v) valued only ran needs behind = work-ready j d done v (unit_at j.ssa v) valued ran behind needs

only-push : (j : Job) (done : List Node) (n : Node) → AllByRecursion (OnlyIn j) done → OnlyIn j n → AllByRecursion (OnlyIn j) (done ++ n ∷ [])
only-push j [] n all one = (one, tt)
only-push j (m ∷ done) n all one = (all.0, only-push j done n all.1 one)

pub nodes-ready : (j : Job) (depends : Node → ℕ → Bool) (d : Draft) (done order : List Node) → AreValued j → ((n : Node) (x : ℕ) → NodeNeeds j n → Valued (unit_at j.ssa x) → NodeUses j n x → depends n x ≡ true) → Follows depends (node_units j) done order
    → Needs j (length d.names) (length d.held) → AllByRecursion (NodeNeeds j) order → AllByRecursion (OnlyIn j) done → AllByRecursion (OnlyIn j) order → Ran j d done → NodesReady j d order
nodes-ready j depends d done [] valued uses follows needs each before only ran = tt
nodes-ready j depends d done (n ∷ ns) valued uses follows needs each before only ran =
    let e = (node_lines j d n).draft in
    let grown = node-grown j d n in
    let still : Needs j (length e.names) (length e.held) = subst (λ a. Needs j a (length e.held)) (sym grown.long_names) (subst (λ b. Needs j (length d.names) b) (sym grown.long_held) needs) in (
      node-ready j d done n valued before ran each.0 (λ x a u. follows.0 x (uses n x each.0 a u)),
      nodes-ready j depends e (done ++ n ∷ []) ns valued uses follows.1 still each.1 (only-push j done n before only.0) only.1 (ran-more j d done n needs ran),
    )
