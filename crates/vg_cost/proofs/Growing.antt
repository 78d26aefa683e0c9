-- What a pack after a plan changes of what is known of the plan.
use Rattle.std.proofs.Common.{◌≡◌, ℕ, ◌+◌, ◌<◌, Bool, true, false, List, [], ◌∷◌, ◌++◌, get_or, length, map, take, refl, sym, ◌∙◌, ap, arith, inl, inr, append-nil, append_assoc, subst}
use Rattle.std.specs.Prelude.{◌||◌, nat_lt, if◌then◌else◌}
use Rattle.std.specs.List.{AllByRecursion, flat_map, list_any, sum_by}
use Rattle.std.proofs.lemmas.Bool.{cases_Bool}
use Rattle.std.proofs.lemmas.Bool.Decides.{nat_tests}
use Rattle.std.proofs.lemmas.Grind.{flat_map-append}
use Rattle.std.proofs.lemmas.List.{take_more}
use Rattle.std.proofs.lemmas.List.Folds.{list_any-append}
use Rattle.std.proofs.lemmas.List.Sums.{sum_by-cons, sum_by_push}
use Rattle.vg_plans.specs.Levels.{distinct_onto}
use Rattle.vg_plans.specs.World.{inserted, operands, plan_cost, recipe_cost, scalar_lines}
use Rattle.vg_plans.proofs.Onto.{onto-append, onto-distinct}
use Rattle.vg_plans.proofs.Running.{inserted-keeps, recipe-keeps}
use Rattle.vg_shapes.specs.declared.match_table.Match.{Match}
use Rattle.vg_shapes.specs.declared.operand.Operand.{Operand}
use Rattle.vg_shapes.specs.declared.pack.Pack.{Pack}
use Rattle.vg_shapes.specs.declared.ssa.Ssa.{Ssa}
use Rattle.vg_shapes.specs.Description.{Description}
use Rattle.vg_kernel_plans.specs.Packing.{falling_units, packing, price_of}
use Rattle.vg_kernel_plans.specs.SameAs.{same_operand}
use Rattle.vg_kernel_plans.specs.Taken.{IsShort, operands_of}
use Rattle.vg_kernel_plans.specs.Wants.{wanted_values}
use Rattle.vg_cost.specs.declared.recipe_cost.RecipeCost.{RecipeCost}
use Rattle.vg_cost.specs.declared.taken.Taken.{Taken}
use Rattle.vg_cost.specs.declared.running.Running.{Running}
use Rattle.vg_cost.specs.Marks.{Has}
use Rattle.vg_cost.specs.Moves.{Moves}
use Rattle.vg_cost.specs.Needs.{AreNeeds, AreNeedsFor}
use Rattle.vg_shapes.specs.Units.{arguments}
use Rattle.vg_cost.specs.Running.{StandsFor, taken_by}
use Rattle.vg_cost.specs.Shuffling.{AreShuffles}
use Rattle.vg_cost.specs.Taken.{add_all, add_taken, inserted_for, is_touched, kept_for, recipe_for, taken_for}
use Rattle.vg_cost.specs.Touch.{IsKnownBy}
use Rattle.vg_cost.proofs.Moving.{moves_more}
use Rattle.vg_cost.proofs.NeedsLaw.{needs-for, needs-whole}
use Rattle.vg_cost.proofs.Own.{is-other, own-values}
use Rattle.vg_cost.proofs.Steps.{all_push}
use Rattle.vg_cost.proofs.Sums.{all_parts}
use Rattle.vg_cost.proofs.MarkTests.{untouched}
use Rattle.vg_shapes.specs.Pack.{units_of}

abbrev of_two : ℕ → Bool → RecipeCost
of_two lines flag = record { lines = lines; is_inserted = flag }

-- a recipe stays where the new pack has none of the operand's values
keeps : (ds : List Description) (ssa : Ssa) (plan : List Pack) (p : Pack) (o : Operand) → is_touched p o ≡ false
    → recipe_for ds ssa (plan ++ p ∷ []) o ≡ recipe_for ds ssa plan o
keeps ds ssa plan p o f =
    let w = packing ds [] ssa [] in
    let own = own-values ds [] ssa [] in
    let other = is-other ds [] ssa [] p o f in
    ap (λ c. of_two c (nat_lt 0 (length (inserted w (plan ++ p ∷ []) o)))) (recipe-keeps w own plan p o other)
    ∙ ap (λ l. of_two (recipe_cost w plan o) (nat_lt 0 (length l))) (inserted-keeps w own plan p o other)

pub known-by : (ds : List Description) (ssa : Ssa) (plan : List Pack) (p : Pack) (own : List Bool) (os : List Operand)
    → Has (length own) (units_of p) own
    → AllByRecursion (IsKnownBy ds ssa (plan ++ p ∷ []) own) (map (taken_for ds ssa plan) os)
known-by ds ssa plan p own [] h = tt
known-by ds ssa plan p own (o ∷ os) h =
    ((λ f. sym (keeps ds ssa plan p o (untouched p own o h f))), known-by ds ssa plan p own os h)

pub kept-map : (ds : List Description) (ssa : Ssa) (plan longer : List Pack) (os : List Operand)
    → map (kept_for ds ssa longer) (map (taken_for ds ssa plan) os) ≡ map (taken_for ds ssa longer) os
kept-map ds ssa plan longer [] = refl
kept-map ds ssa plan longer (o ∷ os) = ap (λ l. taken_for ds ssa longer o ∷ l) (kept-map ds ssa plan longer os)

any-known : (ds : List Description) (ssa : Ssa) (plan : List Pack) (x : Operand) (os : List Operand)
    → list_any (λ t. same_operand x t.operand) (map (taken_for ds ssa plan) os) ≡ list_any (same_operand x) os
any-known ds ssa plan x [] = refl
any-known ds ssa plan x (o ∷ os) = rw (any-known ds ssa plan x os) refl

map-push : (ds : List Description) (ssa : Ssa) (plan : List Pack) (os : List Operand) (x : Operand)
    → map (taken_for ds ssa plan) (os ++ x ∷ []) ≡ map (taken_for ds ssa plan) os ++ taken_for ds ssa plan x ∷ []
map-push ds ssa plan [] x = refl
map-push ds ssa plan (o ∷ os) x = ap (λ l. taken_for ds ssa plan o ∷ l) (map-push ds ssa plan os x)

added : (ds : List Description) (ssa : Ssa) (plan : List Pack) (os : List Operand) (x : Operand)
    → add_taken (taken_for ds ssa plan) (map (taken_for ds ssa plan) os) x
    ≡ map (taken_for ds ssa plan) (if list_any (same_operand x) os then os else os ++ x ∷ [])
added ds ssa plan os x = rw (any-known ds ssa plan x os) (elim (cases_Bool (list_any (same_operand x) os)) [
  | inl t ↦ rw t refl
  | inr f ↦ rw f (sym (map-push ds ssa plan os x))
])

-- operands that are added are those of the longer plan
pub onto-taken : (ds : List Description) (ssa : Ssa) (plan : List Pack) (os xs : List Operand)
    → add_all (taken_for ds ssa plan) (map (taken_for ds ssa plan) os) xs
    ≡ map (taken_for ds ssa plan) (distinct_onto same_operand os xs)
onto-taken ds ssa plan os [] = refl
onto-taken ds ssa plan os (x ∷ xs) =
    ap (λ l. add_all (taken_for ds ssa plan) l xs) (added ds ssa plan os x)
    ∙ onto-taken ds ssa plan (if list_any (same_operand x) os then os else os ++ x ∷ []) xs

add_all_push : (know : Operand → Taken) (ts : List Taken) (xs : List Operand) (x : Operand)
    → add_all know ts (xs ++ x ∷ []) ≡ add_taken know (add_all know ts xs) x
add_all_push know ts [] x = refl
add_all_push know ts (y ∷ xs) x = add_all_push know (add_taken know ts y) xs x

-- one operand more is added
pub add_all_more : (know : Operand → Taken) (ts now next : List Taken) (xs : List Operand) (k : ℕ) (d x : Operand)
    → k < length xs → x ≡ get_or xs k d → now ≡ add_all know ts (take k xs) → next ≡ add_taken know now x
    → next ≡ add_all know ts (take (k + 1) xs)
add_all_more know ts now next xs k d x inside is e n =
    n ∙ ap (λ l. add_taken know l x) e ∙ sym (add_all_push know ts (take k xs) x)
    ∙ sym (ap (add_all know ts) (take_more xs k d inside ∙ ap (λ y. take k xs ++ y ∷ []) (sym is)))

pub operands-push : (ds : List Description) (matches : List Match) (ssa : Ssa) (plan : List Pack) (p : Pack)
    → distinct_onto same_operand (operands (packing ds matches ssa []) plan) (operands_of ds matches ssa p)
    ≡ operands (packing ds matches ssa []) (plan ++ p ∷ [])
operands-push ds matches ssa plan p =
    let f = operands_of ds matches ssa in
    let old = operands (packing ds matches ssa []) plan in
    ap (distinct_onto same_operand old) (sym (append-nil (f p)))
    ∙ ap (λ d. distinct_onto same_operand d (flat_map f (p ∷ []))) (sym (onto-distinct same_operand (flat_map f plan)))
    ∙ sym (onto-append same_operand [] (flat_map f plan) (flat_map f (p ∷ [])))
    ∙ ap (distinct_onto same_operand []) (sym (flat_map-append f plan (p ∷ [])))
    ∙ onto-distinct same_operand (flat_map f (plan ++ p ∷ []))

known-lines : (ds : List Description) (ssa : Ssa) (plan : List Pack) (os : List Operand)
    → sum_by (λ t. t.recipe.lines) (map (taken_for ds ssa plan) os) ≡ sum_by (recipe_cost (packing ds [] ssa []) plan) os
known-lines ds ssa plan [] = refl
known-lines ds ssa plan (o ∷ os) =
    sum_by-cons (λ t. t.recipe.lines) (taken_for ds ssa plan o) (map (taken_for ds ssa plan) os)
    ∙ ap (λ n. recipe_cost (packing ds [] ssa []) plan o + n) (known-lines ds ssa plan os)
    ∙ sym (sum_by-cons (recipe_cost (packing ds [] ssa []) plan) o os)

by-flag : (c : Bool) (vs : List ℕ)
    → (if nat_lt 0 (length (if c then [] else vs)) then vs else []) ≡ (if c then [] else vs)
by-flag true vs = refl
by-flag false [] = refl
by-flag false (v ∷ vs) = elim (cases_Bool (nat_lt 0 (length (v ∷ vs)))) [
  | inl t ↦ rw t refl
  | inr f ↦ absurd (grind (arith, nat_tests, f))
]

known-values : (ds : List Description) (ssa : Ssa) (plan : List Pack) (os : List Operand)
    → flat_map inserted_for (map (taken_for ds ssa plan) os) ≡ flat_map (inserted (packing ds [] ssa []) plan) os
known-values ds ssa plan [] = refl
known-values ds ssa plan (o ∷ os) =
    ap (λ l. inserted_for (taken_for ds ssa plan o) ++ l) (known-values ds ssa plan os)
    ∙ ap (λ l. l ++ flat_map (inserted (packing ds [] ssa []) plan) os) (by-flag _ (wanted_values o))

-- what is known of a plan tells its cost
pub known-cost : (ds : List Description) (matches : List Match) (ssa : Ssa) (deps : List (ℕ × ℕ))
    (plan : List Pack) (price cost : ℕ) (ts : List Taken)
    → price ≡ sum_by (price_of ds) plan
    → ts ≡ map (taken_for ds ssa plan) (operands (packing ds matches ssa []) plan)
    → cost ≡ price + sum_by (λ t. t.recipe.lines) ts
    + scalar_lines (packing [] [] ssa []) plan (flat_map inserted_for ts) (falling_units ssa)
    → cost ≡ plan_cost (packing ds matches ssa deps) plan
known-cost ds matches ssa deps plan price cost ts p t c =
    let os = operands (packing ds matches ssa []) plan in
    c
    ∙ all_parts ds matches ssa deps plan price (sum_by (λ t. t.recipe.lines) ts) _ _ os (flat_map inserted_for ts) p refl
    (ap (sum_by (λ t. t.recipe.lines)) t ∙ known-lines ds ssa plan os)
    (ap (flat_map inserted_for) t ∙ known-values ds ssa plan os) refl refl

any-kept : (ds : List Description) (ssa : Ssa) (plan : List Pack) (x : Operand) (ts : List Taken)
    → list_any (λ t. same_operand x t.operand) (map (kept_for ds ssa plan) ts) ≡ list_any (λ t. same_operand x t.operand) ts
any-kept ds ssa plan x [] = refl
any-kept ds ssa plan x (t ∷ ts) = ap (λ b. same_operand x t.operand || b) (any-kept ds ssa plan x ts)

-- an operand is there where it is among those that are kept or the fresh ones
pub there : (ds : List Description) (ssa : Ssa) (plan : List Pack) (x : Operand) (ts fresh : List Taken) (b : Bool)
    → b ≡ (list_any (λ t. same_operand x t.operand) ts || list_any (λ t. same_operand x t.operand) fresh)
    → list_any (λ t. same_operand x t.operand) (map (kept_for ds ssa plan) ts ++ fresh) ≡ b
there ds ssa plan x ts fresh b e =
    list_any-append (λ (t : Taken). same_operand x t.operand) (map (kept_for ds ssa plan) ts) fresh
    ∙ ap (λ c. c || list_any (λ t. same_operand x t.operand) fresh) (any-kept ds ssa plan x ts) ∙ sym e

pub added_fresh : (know : Operand → Taken) (kept fresh new : List Taken) (o : Operand) (t : Taken)
    → list_any (λ t. same_operand o t.operand) (kept ++ fresh) ≡ false → t ≡ know o → new ≡ fresh ++ t ∷ []
    → kept ++ new ≡ add_taken know (kept ++ fresh) o
added_fresh know kept fresh new o t f e n =
    rw f (ap (λ l. kept ++ l) n ∙ sym (append_assoc kept fresh (t ∷ [])) ∙ ap (λ z. (kept ++ fresh) ++ z ∷ []) e)

pub not_added : (know : Operand → Taken) (ts : List Taken) (o : Operand) → list_any (λ t. same_operand o t.operand) ts ≡ true
    → ts ≡ add_taken know ts o
not_added know ts o t = rw t refl

-- what is kept of the operands of a plan, and those of the pack, are those of the longer plan
pub taken-longer : (ds : List Description) (matches : List Match) (ssa : Ssa) (plan : List Pack) (p : Pack)
    (old : List Taken) (os : List Operand) → old ≡ taken_by ds matches ssa plan → os ≡ operands_of ds matches ssa p
    → add_all (taken_for ds ssa (plan ++ p ∷ [])) (map (kept_for ds ssa (plan ++ p ∷ [])) old) os
    ≡ taken_by ds matches ssa (plan ++ p ∷ [])
taken-longer ds matches ssa plan p old os e own =
    let longer = plan ++ p ∷ [] in
    let before = operands (packing ds matches ssa []) plan in
    ap (λ l. add_all (taken_for ds ssa longer) l os) (ap (map (kept_for ds ssa longer)) e ∙ kept-map ds ssa plan longer before)
    ∙ ap (add_all (taken_for ds ssa longer) (map (taken_for ds ssa longer) before)) own
    ∙ onto-taken ds ssa longer before (operands_of ds matches ssa p)
    ∙ ap (map (taken_for ds ssa longer)) (operands-push ds matches ssa plan p)

sum-kept : (ds : List Description) (ssa : Ssa) (longer : List Pack) (ts : List Taken)
    → sum_by (λ t. (kept_for ds ssa longer t).recipe.lines) ts ≡ sum_by (λ t. t.recipe.lines) (map (kept_for ds ssa longer) ts)
sum-kept ds ssa longer [] = refl
sum-kept ds ssa longer (t ∷ ts) =
    sum_by-cons (λ t. (kept_for ds ssa longer t).recipe.lines) t ts
    ∙ ap (λ n. (kept_for ds ssa longer t).recipe.lines + n) (sum-kept ds ssa longer ts)
    ∙ sym (sum_by-cons (λ t. t.recipe.lines) (kept_for ds ssa longer t) (map (kept_for ds ssa longer) ts))

values-kept : (ds : List Description) (ssa : Ssa) (longer : List Pack) (ts : List Taken)
    → flat_map (λ t. inserted_for (kept_for ds ssa longer t)) ts ≡ flat_map inserted_for (map (kept_for ds ssa longer) ts)
values-kept ds ssa longer [] = refl
values-kept ds ssa longer (t ∷ ts) = ap (λ l. inserted_for (kept_for ds ssa longer t) ++ l) (values-kept ds ssa longer ts)

sum-both : (xs ys : List Taken)
    → sum_by (λ t. t.recipe.lines) xs + sum_by (λ t. t.recipe.lines) ys ≡ sum_by (λ t. t.recipe.lines) (xs ++ ys)
sum-both [] ys = omega arith
sum-both (x ∷ xs) ys =
    let one = sum_by-cons (λ (t : Taken). t.recipe.lines) x xs in
    let more = sum_by-cons (λ (t : Taken). t.recipe.lines) x (xs ++ ys) in
    let rest = sum-both xs ys in
    omega (arith, one, more, rest)

pub price-longer : (ds : List Description) (matches : List Match) (ssa : Ssa) (old : Running) (p : Pack) (price : ℕ)
    → StandsFor ds matches ssa old → price ≡ old.price + price_of ds p → price ≡ sum_by (price_of ds) (old.packs.items ++ p ∷ [])
price-longer ds matches ssa old p price s e =
    e ∙ ap (λ n. n + price_of ds p) s.price ∙ sym (sum_by_push (price_of ds) old.packs.items p)

-- what is kept of the operands and the fresh ones are counted as those of the longer plan
module _ (ds : List Description) (matches : List Match) (ssa : Ssa) (plan : List Pack) (p : Pack) (old fresh : List Taken)
    (all : map (kept_for ds ssa (plan ++ p ∷ [])) old ++ fresh ≡ taken_by ds matches ssa (plan ++ p ∷ [])) where
  pub sum-longer : (kept added sum : ℕ) → kept ≡ sum_by (λ t. (kept_for ds ssa (plan ++ p ∷ []) t).recipe.lines) old
      → added ≡ sum_by (λ t. t.recipe.lines) fresh → sum ≡ kept + added
      → sum ≡ sum_by (λ t. t.recipe.lines) (taken_by ds matches ssa (plan ++ p ∷ []))
  sum-longer kept added sum k a s =
      s ∙ ap (λ n. n + added) (k ∙ sum-kept ds ssa (plan ++ p ∷ []) old)
      ∙ ap (λ n. sum_by (λ t. t.recipe.lines) (map (kept_for ds ssa (plan ++ p ∷ [])) old) + n) a
      ∙ sum-both (map (kept_for ds ssa (plan ++ p ∷ [])) old) fresh ∙ ap (sum_by (λ t. t.recipe.lines)) all

  pub values-longer : (values : List ℕ) (a b c : List ℕ) (m n q : List Bool)
      → Moves values (flat_map (λ t. inserted_for (kept_for ds ssa (plan ++ p ∷ []) t)) old) a b m n
      → Moves [] (flat_map inserted_for fresh) b c n q
      → Moves values (flat_map inserted_for (taken_by ds matches ssa (plan ++ p ∷ []))) a c m q
  values-longer values a b c m n q k f =
      let kept = map (kept_for ds ssa (plan ++ p ∷ [])) old in
      subst (λ l. Moves l (flat_map inserted_for (taken_by ds matches ssa (plan ++ p ∷ []))) a c m q) (append-nil values)
      (subst (λ l. Moves (values ++ []) l a c m q)
      (ap (λ l. l ++ flat_map inserted_for fresh) (values-kept ds ssa (plan ++ p ∷ []) old)
      ∙ sym (flat_map-append inserted_for kept fresh) ∙ ap (flat_map inserted_for) all)
      (moves_more values _ [] _ a b c m n q k f))

-- the cost by the counts is that of the plan
pub costs-counted : (ds : List Description) (matches : List Match) (ssa : Ssa) (deps : List (ℕ × ℕ)) (old : Running) (p : Pack)
    (longer : List Bool) (counts : List ℕ) (price recipes packed lines cost : ℕ)
    → StandsFor ds matches ssa old
    → Has (arguments ssa + length ssa.units) (flat_map units_of (old.packs.items ++ p ∷ [])) longer
    → AreNeeds ssa longer (flat_map inserted_for (taken_by ds matches ssa (old.packs.items ++ p ∷ []))) counts lines
    → price ≡ old.price + price_of ds p
    → recipes ≡ sum_by (λ t. t.recipe.lines) (taken_by ds matches ssa (old.packs.items ++ p ∷ []))
    → packed ≡ price + recipes → cost ≡ packed + lines
    → cost ≡ plan_cost (packing ds matches ssa deps) (old.packs.items ++ p ∷ [])
costs-counted ds matches ssa deps old p longer counts price recipes packed lines cost s h n paid r k e =
    let plan = old.packs.items ++ p ∷ [] in
    let ts = taken_by ds matches ssa plan in
    known-cost ds matches ssa deps plan price cost ts (price-longer ds matches ssa old p price s paid) refl
    (e ∙ ap (λ m. m + lines) (k ∙ ap (λ m. price + m) r)
    ∙ ap (λ m. price + sum_by (λ t. t.recipe.lines) ts + m)
    (needs-whole ssa plan longer (flat_map inserted_for ts) counts lines h n))

pub stands-empty : (ds : List Description) (matches : List Match) (ssa : Ssa) (r : Running) (packed : List Bool)
    → r.packs.items ≡ [] → r.taken.items ≡ [] → AreShuffles ds r.shuffles → r.price ≡ 0
    → Has (arguments ssa + length ssa.units) [] packed
    → AreNeeds ssa packed [] r.needs.counts.items r.needs.lines → r.cost ≡ r.needs.lines
    → StandsFor ds matches ssa r
stands-empty ds matches ssa r packed e t known p h n c = record {
  shuffles = known;
  short = subst (AllByRecursion IsShort) (sym e) tt;
  cost = λ deps.
      let lines = c ∙ needs-whole ssa [] packed [] r.needs.counts.items r.needs.lines h n in
      known-cost ds matches ssa deps [] 0 r.cost [] refl refl (omega (arith, lines)) ∙ ap (plan_cost (packing ds matches ssa deps)) (sym e);
  taken = t ∙ ap (λ plan. map (taken_for ds ssa plan) (operands (packing ds matches ssa []) plan)) (sym e);
  needs = subst (λ q. AreNeedsFor ssa q (flat_map inserted_for r.taken.items) r.needs.counts.items r.needs.lines) (sym e)
      (subst (λ q. AreNeedsFor ssa [] (flat_map inserted_for q) r.needs.counts.items r.needs.lines) (sym t)
      (needs-for ssa [] packed [] r.needs.counts.items r.needs.lines h n));
  price = p ∙ ap (sum_by (price_of ds)) (sym e);
}

-- the longer plan: its packs, what is known of its operands, and its cost
pub stands-longer : (ds : List Description) (matches : List Match) (ssa : Ssa) (old : Running) (p : Pack) (r : Running)
    → StandsFor ds matches ssa old → IsShort p
    → r.shuffles.numbers.items ≡ old.shuffles.numbers.items → r.shuffles.are_tight ≡ old.shuffles.are_tight
    → r.packs.items ≡ old.packs.items ++ p ∷ []
    → r.taken.items ≡ taken_by ds matches ssa (old.packs.items ++ p ∷ [])
    → r.price ≡ old.price + price_of ds p
    → ((deps : List (ℕ × ℕ)) → r.cost ≡ plan_cost (packing ds matches ssa deps) (old.packs.items ++ p ∷ []))
    → AreNeedsFor ssa (old.packs.items ++ p ∷ []) (flat_map inserted_for (taken_by ds matches ssa (old.packs.items ++ p ∷ [])))
    r.needs.counts.items r.needs.lines
    → StandsFor ds matches ssa r
stands-longer ds matches ssa old p r s short same tight e taken price cost needs = record {
  shuffles = record { numbers = same ∙ s.shuffles.numbers; tight = tight ∙ s.shuffles.tight };
  short = subst (AllByRecursion IsShort) (sym e) (all_push IsShort old.packs.items p s.short short);
  cost = λ deps. cost deps ∙ ap (plan_cost (packing ds matches ssa deps)) (sym e);
  taken = taken ∙ ap (taken_by ds matches ssa) (sym e);
  needs = subst (λ q. AreNeedsFor ssa q (flat_map inserted_for r.taken.items) r.needs.counts.items r.needs.lines) (sym e)
      (subst (λ q. AreNeedsFor ssa (old.packs.items ++ p ∷ []) (flat_map inserted_for q) r.needs.counts.items r.needs.lines) (sym taken) needs);
  price = price-longer ds matches ssa old p r.price s price ∙ ap (sum_by (price_of ds)) (sym e);
}
