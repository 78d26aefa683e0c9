-- Emitted programs call described instances alone.
use Rattle.std.proofs.Common.{ℕ, ◌+◌, ◌<◌, List, [], ◌∷◌, ◌++◌, length, Option, Some, None, refl, sym, subst, inl, inr}
use Rattle.std.specs.List.{AllByRecursion}
use Rattle.std.proofs.lemmas.Bool.{cases_Bool, cond-true, cond-false}
use Rattle.vg_base.specs.declared.width.Width.{Width}
use Rattle.vg_program.specs.declared.line.Line.{Line}
use Rattle.vg_program.specs.declared.operand.Operand.{Operand as Number}
use Rattle.vg_shapes.specs.declared.match_table.Match.{Match}
use Rattle.vg_shapes.specs.declared.operand.Slot.{Slot}
use Rattle.vg_shapes.specs.declared.order.Node.{Node}
use Rattle.vg_shapes.specs.declared.order.Node.TheVariants.{PackAt, UnitAt}
use Rattle.vg_shapes.specs.declared.pack.Pack.{Pack}
use Rattle.vg_shapes.specs.declared.pack.Pack.TheVariants.{Stores, Loads, Call}
use Rattle.vg_shapes.specs.declared.ssa_unit.Operator.{Operator}
use Rattle.vg_shapes.specs.declared.ssa_unit.Operator.TheVariants.{Two, Shift, Resize, Compare, Select}
use Rattle.vg_shapes.specs.declared.ssa_unit.SsaUnit.{SsaUnit}
use Rattle.vg_shapes.specs.declared.ssa_unit.SsaUnit.TheVariants.{Load, Store, Operation}
use Rattle.vg_shapes.specs.Operands.{lanes_of}
use Rattle.vg_shapes.specs.Units.{unit_at}
use Rattle.vg_kernel_plans.specs.declared.recipe.Recipe.{Recipe}
use Rattle.vg_kernel_plans.specs.declared.recipe.Recipe.TheVariants as recipe
use Rattle.vg_kernel_plans.specs.Held.{lane_width_of}
use Rattle.vg_emission.specs.Draft.{Draft, Made, found, with_name}
use Rattle.vg_emission.specs.Emission.{Job, build, build_all, description_at, emitted, extracts, inserts, no_description, number_for, operand_at, operation_line, pack_at, pack_line, pack_lines, place, place_once, recipe_at, takes_at, unit_lines, value_slots, width_for, with_pack}
use Rattle.vg_emission.specs.Fit.{CallsDescribed, EmittedCallsDescribed, IsDescribed, RecipeFits}
use Rattle.vg_emission.specs.Planned.{IsPack, IsPlanned}
use Rattle.vg_emission.specs.Program.{begin, job_of, ordered}
use Rattle.vg_emission.proofs.Jobs.{get-there, IsNode, kind-at, order-nodes}
use Rattle.vg_emission.proofs.Made.{job-made, ordered-legal}
use Rattle.vg_emission.proofs.Needs.{IsJob}

joined : (P : Line → Type 0) (ls ms : List Line) → AllByRecursion P ls → AllByRecursion P ms → AllByRecursion P (ls ++ ms)
joined P [] ms a b = b
joined P (l ∷ ls) ms a b = (a.0, joined P ls ms a.1 b)

extracts-call : (j : Job) (d : Draft) (r : ℕ) (w : Width) (n : ℕ) (us : List (Option ℕ)) → CallsDescribed j.descriptions (extracts j d r w n us).lines
extracts-call j d r w n [] = tt
extracts-call j d r w n (None ∷ us) = extracts-call j d r w (n + 1) us
extracts-call j d r w n (Some v ∷ us) =
    let Goal : Made → Type 0 = λ made. CallsDescribed j.descriptions made.lines in
    elim (cases_Bool (j.needed v)) [
      | inl t ↦ subst Goal (sym (cond-true _ _ _ t)) (tt, extracts-call j (with_name d v) r w (n + 1) us)
      | inr f ↦ subst Goal (sym (cond-false _ _ _ f)) (extracts-call j d r w (n + 1) us)
    ]

inserts-call : (j : Job) (d : Draft) (b r : ℕ) (ss : List Slot) → CallsDescribed j.descriptions (inserts j d b r ss)
inserts-call j d b r [] = tt
inserts-call j d b r (s ∷ ss) = (tt, inserts-call j d b (r + 1) ss)

place-calls : (j : Job) (d : Draft) (o : ℕ) (way : Recipe) → RecipeFits j (operand_at j o) way → CallsDescribed j.descriptions (place j d o way).lines
place-calls j d o (recipe.Reuse k) fits = tt
place-calls j d o (recipe.Constant bs) fits = (tt, tt)
place-calls j d o (recipe.Shuffle e ks) fits = ((e, description_at j e, get-there j.descriptions e no_description fits.0, refl, refl), tt)
place-calls j d o recipe.Inserts fits = (tt, inserts-call j d (operand_at j o).register d.vectors (value_slots (operand_at j o)))

build-calls : (j : Job) (d : Draft) (o : ℕ) (q : Option ℕ) → RecipeFits j (operand_at j o) (recipe_at j o) → CallsDescribed j.descriptions (place_once j d o q).lines
build-calls j d o None fits = place-calls j d o (recipe_at j o) fits
build-calls j d o (Some r) fits = tt

builds-call : (j : Job) (d : Draft) (os : List ℕ) → ((o : ℕ) → o < length j.operands → RecipeFits j (operand_at j o) (recipe_at j o)) → AllByRecursion (λ o. o < length j.operands) os → CallsDescribed j.descriptions (build_all j d os).lines
builds-call j d [] fits low = tt
builds-call j d (o ∷ os) fits low = joined (IsDescribed j.descriptions) (build j d o).lines (build_all j (build j d o).draft os).lines (build-calls j d o (found d.built o) (fits o low.0)) (builds-call j (build j d o).draft os fits low.1)

operation-calls : (j : Job) (op : Operator) (w : Width) (k : ℕ) (x y z : Number) → IsDescribed j.descriptions (operation_line op w k x y z)
operation-calls j (Two op) w k x y z = tt
operation-calls j (Shift op) w k x y z = tt
operation-calls j (Resize op from) w k x y z = tt
operation-calls j (Compare op) w k x y z = tt
operation-calls j Select w k x y z = tt

work-calls : (j : Job) (d : Draft) (v : ℕ) (o : Option SsaUnit) → CallsDescribed j.descriptions (unit_lines j d v o).lines
work-calls j d v None = tt
work-calls j d v (Some (Load a w)) = (tt, tt)
work-calls j d v (Some (Store a w x)) = (tt, tt)
work-calls j d v (Some (Operation op w k xs)) =
    let Goal : Made → Type 0 = λ made. CallsDescribed j.descriptions made.lines in
    elim (cases_Bool (j.needed v)) [
      | inl t ↦ subst Goal (sym (cond-true _ _ _ t)) (operation-calls j op w k (number_for j d xs.first) (number_for j d xs.second) (number_for j d xs.third), tt)
      | inr f ↦ subst Goal (sym (cond-false _ _ _ f)) tt
    ]

line-calls : (j : Job) (p : Pack) (rs : List ℕ) → IsPack j.descriptions j.ssa p → IsDescribed j.descriptions (pack_line j p rs)
line-calls j (Stores us) rs is = tt
line-calls j (Loads us) rs is = tt
line-calls j (Call e lanes) rs is = (e, description_at j e, get-there j.descriptions e no_description is.0, refl, refl)

nodes-call : (j : Job) (matches : List Match) (d : Draft) (order : List Node) → AllByRecursion (IsNode j) order → IsPlanned j → IsJob j matches → ((o : ℕ) → o < length j.operands → RecipeFits j (operand_at j o) (recipe_at j o)) → CallsDescribed j.descriptions (emitted j d order)
nodes-call j matches d [] are planned job fits = tt
nodes-call j matches d (PackAt k ∷ ns) are planned job fits =
    let p = pack_at j k in
    let made = build_all j d (takes_at j k) in
    let rest = extracts j (with_pack made.draft k p) made.draft.vectors (width_for (lane_width_of j.descriptions j.ssa p)) 0 (lanes_of p) in
    joined (IsDescribed j.descriptions) (pack_lines j d k p).lines (emitted j (pack_lines j d k p).draft ns)
    (joined (IsDescribed j.descriptions) made.lines (pack_line j p made.registers ∷ rest.lines) (builds-call j d (takes_at j k) fits (job.below k are.0))
    (line-calls j p made.registers (kind-at j k planned.kinds are.0), extracts-call j (with_pack made.draft k p) made.draft.vectors (width_for (lane_width_of j.descriptions j.ssa p)) 0 (lanes_of p)))
    (nodes-call j matches (pack_lines j d k p).draft ns are.1 planned job fits)
nodes-call j matches d (UnitAt v ∷ ns) are planned job fits =
    joined (IsDescribed j.descriptions) (unit_lines j d v (unit_at j.ssa v)).lines (emitted j (unit_lines j d v (unit_at j.ssa v)).draft ns) (work-calls j d v (unit_at j.ssa v)) (nodes-call j matches (unit_lines j d v (unit_at j.ssa v)).draft ns are.1 planned job fits)

pub emitted-calls-described : EmittedCallsDescribed
emitted-calls-described headers ds matches ssa packs recipes given planned legal fit =
    let j = job_of ds matches ssa packs recipes in
    let order = ordered ssa packs given in
    nodes-call j matches (begin j) order (order-nodes j matches order (ordered-legal ssa matches packs given legal)) planned (job-made ds matches ssa packs recipes planned.sound.earlier) fit.recipes
