-- The loads of a kernel, one unit after the other.
use Rattle.std.proofs.Common.{◌≡◌, ℕ, zero, suc, ◌+◌, List, [], ◌∷◌, ◌++◌, length, sym, ◌∙◌, ap, arith, append-nil}
use Rattle.std.specs.List.{flat_map}
use Rattle.std.proofs.lemmas.Grind.{flat_map-append}
use Rattle.vg_plans.specs.Levels.{distinct_onto}
use Rattle.vg_plans.proofs.Onto.{onto-append, onto-distinct}
use Rattle.vg_shapes.specs.declared.ssa.Ssa.{Ssa}
use Rattle.vg_shapes.specs.Order.{numbers_from}
use Rattle.vg_shapes.specs.Units.{arguments, unit_at}
use Rattle.vg_kernel_plans.specs.declared.first_loads.PlacedLoad.{PlacedLoad}
use Rattle.vg_kernel_plans.specs.LoadGroups.{all_loads, first_loads, placed_load, same_place}

pub numbers-more : (f n : ℕ) → numbers_from f (suc n) ≡ numbers_from f n ++ (f + n) ∷ []
numbers-more f zero = let e : f ≡ f + 0 = omega arith in ap (λ x. x ∷ []) e
numbers-more f (suc n) =
    let e : f + 1 + n ≡ f + suc n = omega arith in
    ap (λ xs. f ∷ xs) (numbers-more (f + 1) n ∙ ap (λ x. numbers_from (f + 1) n ++ x ∷ []) e)

-- the loads among so many units from this number on, of several at one place the first
abbrev pub loads_among : Ssa → ℕ → ℕ → List PlacedLoad
loads_among ssa f n = distinct_onto same_place [] (flat_map (λ v. placed_load v (unit_at ssa v)) (numbers_from f n))

pub loads-more : (ssa : Ssa) (f n v : ℕ) (old new : List PlacedLoad) → v ≡ f + n → old ≡ loads_among ssa f n
    → new ≡ distinct_onto same_place old (placed_load v (unit_at ssa v)) → new ≡ loads_among ssa f (n + 1)
loads-more ssa f n v old new e o h =
    let of : ℕ → List PlacedLoad = λ v. placed_load v (unit_at ssa v) in
    let one : n + 1 ≡ suc n = omega arith in
    let whole : flat_map of (numbers_from f (suc n)) ≡ flat_map of (numbers_from f n) ++ of (f + n) =
    ap (flat_map of) (numbers-more f n) ∙ flat_map-append of (numbers_from f n) ((f + n) ∷ []) ∙ ap (λ xs. flat_map of (numbers_from f n) ++ xs) (append-nil (of (f + n)))
    in
    h ∙ ap (λ xs. distinct_onto same_place xs (of v)) o ∙ ap (λ x. distinct_onto same_place (loads_among ssa f n) (of x)) e
    ∙ sym (onto-append same_place [] (flat_map of (numbers_from f n)) (of (f + n)))
    ∙ ap (distinct_onto same_place []) (sym whole) ∙ ap (loads_among ssa f) (sym one)

pub loads-whole : (ssa : Ssa) (n : ℕ) (loads : List PlacedLoad) → length ssa.units ≡ n → loads ≡ loads_among ssa (arguments ssa) n → loads ≡ first_loads ssa
loads-whole ssa n loads e h =
    h ∙ ap (loads_among ssa (arguments ssa)) (sym e) ∙ onto-distinct same_place (all_loads ssa)
