-- Behind all nodes each operand stands in a register.
use Rattle.std.proofs.Common.{◌≡◌, ℕ, ◌+◌, ◌<◌, List, [], ◌∷◌, length, Option, Some, None, refl, sym, ap, subst, ◌∙◌, inl, inr}
use Rattle.std.specs.Prelude.{slice_set}
use Rattle.std.proofs.Math.ListN.{set}
use Rattle.std.proofs.lemmas.Bool.{cases_Bool, cond-true, cond-false, cases_eq, cases_lt}
use Rattle.std.proofs.lemmas.List.{get_or-set_same, get_or-set_other, set_past, length-set}
use Rattle.vg_base.specs.declared.width.Width.{Width}
use Rattle.vg_plans.specs.Members.{Has}
use Rattle.vg_shapes.specs.declared.order.Node.{Node}
use Rattle.vg_shapes.specs.declared.order.Node.TheVariants.{PackAt, UnitAt}
use Rattle.vg_shapes.specs.declared.pack.Pack.{Pack}
use Rattle.vg_shapes.specs.declared.pack.Pack.TheVariants.{Stores, Loads, Call}
use Rattle.vg_shapes.specs.declared.ssa_unit.SsaUnit.{SsaUnit}
use Rattle.vg_shapes.specs.declared.ssa_unit.SsaUnit.TheVariants.{Load, Store, Operation}
use Rattle.vg_shapes.specs.Operands.{lanes_of}
use Rattle.vg_shapes.specs.Units.{unit_at}
use Rattle.vg_kernel_plans.specs.declared.recipe.Recipe.{Recipe}
use Rattle.vg_kernel_plans.specs.declared.recipe.Recipe.TheVariants as recipe
use Rattle.vg_kernel_plans.specs.Held.{lane_width_of}
use Rattle.vg_emission.specs.Draft.{Draft, Made, found, with_name}
use Rattle.vg_emission.specs.Emission.{Job, build, build_all, extracts, node_lines, pack_at, pack_lines, place, place_once, recipe_at, takes_at, unit_lines, value_slots, operand_at, width_for, with_pack}
use Rattle.vg_emission.proofs.Costs.{last_draft}
use Rattle.vg_emission.proofs.Readiness.{Found}

-- a draft in which no fewer operands stand
record Builds (d e : Draft) : Type 0 where
  keeps : (o : ℕ) → Found d.built o → Found e.built o
  long : length e.built ≡ length d.built

same-built : (d e : Draft) → e.built ≡ d.built → Builds d e
same-built d e h = record { keeps = λ o f. (f.0, ap (λ l. found l o) h ∙ f.1); long = ap length h }

then-built : (d e f : Draft) → Builds d e → Builds e f → Builds d f
then-built d e f g h = record { keeps = λ o x. h.keeps o (g.keeps o x); long = h.long ∙ g.long }

set-built : (rs : List (Option ℕ)) (k r n : ℕ) → Found rs n → Found (slice_set rs k (Some r)) n
set-built rs k r n f = elim (cases_eq n k) [
  | inl same ↦ elim (cases_lt k (length rs)) [
    | inl h ↦ subst (Found (set rs k (Some r))) (sym same) (r, get_or-set_same rs k (Some r) None h)
    | inr h ↦ (f.0, ap (λ l. found l n) (set_past rs k (Some r) h) ∙ f.1)
  ]
  | inr other ↦ (f.0, get_or-set_other rs k n (Some r) None other ∙ f.1)
]

place-built : (j : Job) (d : Draft) (o : ℕ) (way : Recipe) → Builds d (place j d o way).draft × (o < length d.built → Found (place j d o way).draft.built o)
place-built j d o (recipe.Reuse k) = (record { keeps = λ n f. set-built d.built o _ n f; long = length-set d.built o _ }, λ low. (_, get_or-set_same d.built o _ None low))
place-built j d o (recipe.Constant bs) = (record { keeps = λ n f. set-built d.built o d.vectors n f; long = length-set d.built o _ }, λ low. (d.vectors, get_or-set_same d.built o _ None low))
place-built j d o (recipe.Shuffle e ks) = (record { keeps = λ n f. set-built d.built o d.vectors n f; long = length-set d.built o _ }, λ low. (d.vectors, get_or-set_same d.built o _ None low))
place-built j d o recipe.Inserts =
    let r = d.vectors + length (value_slots (operand_at j o)) in
    (record { keeps = λ n f. set-built d.built o r n f; long = length-set d.built o _ }, λ low. (r, get_or-set_same d.built o _ None low))

build-built : (j : Job) (d : Draft) (o : ℕ) → Builds d (build j d o).draft × (o < length d.built → Found (build j d o).draft.built o)
build-built j d o = by (found d.built o) refl
  where
    by : (q : Option ℕ) → found d.built o ≡ q → Builds d (place_once j d o q).draft × (o < length d.built → Found (place_once j d o q).draft.built o)
    by None e = place-built j d o (recipe_at j o)
    by (Some r) e = (same-built d d refl, λ low. (r, e))

builds-built : (j : Job) (d : Draft) (os : List ℕ) → Builds d (build_all j d os).draft
builds-built j d [] = same-built d d refl
builds-built j d (o ∷ os) = then-built d (build j d o).draft _ (build-built j d o).0 (builds-built j (build j d o).draft os)

taken-built : (j : Job) (d : Draft) (os : List ℕ) (o : ℕ) → o < length d.built → Has o os → Found (build_all j d os).draft.built o
taken-built j d [] o low has = absurd has
taken-built j d (q ∷ os) o low (inl e) =
    let one = build-built j d q in
    (builds-built j (build j d q).draft os).keeps o (subst (Found (build j d q).draft.built) e (one.1 (subst (λ n. n < length d.built) (sym e) low)))
taken-built j d (q ∷ os) o low (inr more) =
    let one = build-built j d q in
    taken-built j (build j d q).draft os o (subst (λ n. o < n) (sym one.0.long) low) more

extracts-built : (j : Job) (d : Draft) (r : ℕ) (w : Width) (n : ℕ) (us : List (Option ℕ)) → (extracts j d r w n us).draft.built ≡ d.built
extracts-built j d r w n [] = refl
extracts-built j d r w n (None ∷ us) = extracts-built j d r w (n + 1) us
extracts-built j d r w n (Some v ∷ us) =
    let Goal : Made → Type 0 = λ made. made.draft.built ≡ d.built in
    elim (cases_Bool (j.needed v)) [
      | inl t ↦ subst Goal (sym (cond-true _ _ _ t)) (extracts-built j (with_name d v) r w (n + 1) us)
      | inr f ↦ subst Goal (sym (cond-false _ _ _ f)) (extracts-built j d r w (n + 1) us)
    ]

with-pack-built : (d : Draft) (k : ℕ) (p : Pack) → (with_pack d k p).built ≡ d.built
with-pack-built d k (Stores us) = refl
with-pack-built d k (Loads us) = refl
with-pack-built d k (Call e lanes) = refl

pack-draft : (j : Job) (d : Draft) (k : ℕ) (p : Pack) → (pack_lines j d k p).draft.built ≡ (build_all j d (takes_at j k)).draft.built
pack-draft j d k p =
    let f = (build_all j d (takes_at j k)).draft in
    extracts-built j (with_pack f k p) f.vectors (width_for (lane_width_of j.descriptions j.ssa p)) 0 (lanes_of p) ∙ with-pack-built f k p

work-built : (j : Job) (d : Draft) (v : ℕ) (o : Option SsaUnit) → (unit_lines j d v o).draft.built ≡ d.built
work-built j d v None = refl
work-built j d v (Some (Load a w)) = refl
work-built j d v (Some (Store a w x)) = refl
work-built j d v (Some (Operation op w k xs)) =
    let Goal : Made → Type 0 = λ made. made.draft.built ≡ d.built in
    elim (cases_Bool (j.needed v)) [
      | inl t ↦ subst Goal (sym (cond-true _ _ _ t)) refl
      | inr f ↦ subst Goal (sym (cond-false _ _ _ f)) refl
    ]

node-built : (j : Job) (d : Draft) (n : Node) → Builds d (node_lines j d n).draft
node-built j d (PackAt k) =
    let f = (build_all j d (takes_at j k)).draft in
    then-built d f _ (builds-built j d (takes_at j k)) (same-built f _ (pack-draft j d k (pack_at j k)))
node-built j d (UnitAt v) = same-built d _ (work-built j d v (unit_at j.ssa v))

pub rest-built : (j : Job) (d : Draft) (order : List Node) (o : ℕ) → Found d.built o → Found (last_draft j d order).built o
rest-built j d [] o f = f
rest-built j d (n ∷ ns) o f = rest-built j (node_lines j d n).draft ns o ((node-built j d n).keeps o f)

pub long-built : (j : Job) (d : Draft) (order : List Node) → length (last_draft j d order).built ≡ length d.built
long-built j d [] = refl
long-built j d (n ∷ ns) = long-built j (node_lines j d n).draft ns ∙ (node-built j d n).long

-- an operand that a pack of the order takes stands in a register after it
pub order-builds : (j : Job) (d : Draft) (order : List Node) (k o : ℕ) → o < length d.built → Has (PackAt k) order → Has o (takes_at j k) → Found (last_draft j d order).built o
order-builds j d [] k o low has takes = absurd has
order-builds j d (n ∷ ns) k o low (inl e) takes =
    let f = (build_all j d (takes_at j k)).draft in
    let here : Found (node_lines j d (PackAt k)).draft.built o = (let x = taken-built j d (takes_at j k) o low takes in (x.0, ap (λ l. found l o) (pack-draft j d k (pack_at j k)) ∙ x.1)) in
    rest-built j (node_lines j d n).draft ns o (subst (λ m. Found (node_lines j d m).draft.built o) (sym e) here)
order-builds j d (n ∷ ns) k o low (inr more) takes = order-builds j (node_lines j d n).draft ns k o (subst (λ m. o < m) (sym (node-built j d n).long) low) more takes
