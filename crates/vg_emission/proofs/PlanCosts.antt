-- Emitted programs cost what their packs cost as a plan.
use Rattle.std.proofs.Common.{◌≡◌, ℕ, zero, suc, ◌+◌, ◌<◌, ◌≤◌, Bool, true, false, List, [], ◌∷◌, ◌++◌, length, map, replicate, Option, Some, None, refl, sym, ap, subst, ◌∙◌, ◌⊎◌, inl, inr, arith}
use Rattle.std.specs.Prelude.{slice_index_or, flat_map, ◌==◌}
use Rattle.std.specs.List.{AllByRecursion}
use Rattle.std.proofs.lemmas.Bool.{cases_Bool, cases_lt, cond-false, cond-true, eqb-true, true≢false}
use Rattle.std.proofs.lemmas.List.{length-replicate}
use Rattle.std.proofs.lemmas.List.Elements.{All-from_recursion, recursion_from_All}
use Rattle.std.proofs.lemmas.List.Sorted.{All-permutation, IsPermutation-sym}
use Rattle.vg_plans.specs.Members.{AllDiffer, Every, Has}
use Rattle.vg_plans.proofs.Lists.{distinct-differ, every-distinct, every-has}
use Rattle.vg_plans.proofs.Members.{from-flat_map}
use Rattle.vg_shapes.specs.declared.match_table.Match.{Match}
use Rattle.vg_shapes.specs.declared.operand.Operand.{Operand}
use Rattle.vg_shapes.specs.declared.order.Node.{Node}
use Rattle.vg_shapes.specs.declared.order.Node.TheVariants.{PackAt, UnitAt}
use Rattle.vg_shapes.specs.declared.pack.Pack.{Pack}
use Rattle.vg_shapes.specs.declared.pack.Pack.TheVariants.{Stores}
use Rattle.vg_shapes.specs.declared.ssa.Ssa.{Ssa}
use Rattle.vg_shapes.specs.Description.{Description}
use Rattle.vg_shapes.specs.Nodes.{IsOrder, nodes}
use Rattle.vg_shapes.specs.Order.{numbers_from, one_if, Stands as In}
use Rattle.vg_shapes.specs.Units.{unit_at}
use Rattle.vg_kernel_plans.specs.declared.recipe.Recipe.{Recipe}
use Rattle.vg_kernel_plans.specs.declared.recipe.Recipe.TheVariants as recipe
use Rattle.vg_kernel_plans.specs.SameAs.{same_operand}
use Rattle.vg_kernel_plans.specs.Taken.{operands_of}
use Rattle.vg_kernel_plans.proofs.SameTests.{operand-is, operand-itself}
use Rattle.vg_emission.specs.Emission.{Job, pack_at, takes_at}
use Rattle.vg_emission.specs.Program.{all_inserted, begin, inserted_by, job_of, number_in, operands_in}
use Rattle.vg_emission.proofs.Built.{order-builds}
use Rattle.vg_emission.proofs.Costs.{built_cost, last_draft, node_cost, nodes_cost, own_cost, pack_cost, work_cost}
use Rattle.vg_emission.proofs.Jobs.{each}
use Rattle.vg_emission.proofs.Readiness.{Found}
use Rattle.vg_emission.proofs.Totals.{total}

-- ---- each operand stands in a register at the end

number-once : (xs : List Operand) (o : ℕ) (d : Operand) → AllDiffer same_operand xs → o < length xs → number_in xs (slice_index_or xs o d) ≡ o
number-once [] o d differ low = absurd (omega arith)
number-once (x ∷ xs) zero d differ low = cond-true _ 0 (suc (number_in xs x)) (operand-itself x)
number-once (x ∷ xs) (suc o) d differ low =
    let y = slice_index_or xs o d in
    cond-false _ 0 (suc (number_in xs y)) (every-has (λ z. same_operand x z ≡ false) y xs differ.0 (has-there xs o d (omega arith))) ∙ ap suc (number-once xs o d differ.1 (omega arith))
  where
    has-there : (xs : List Operand) (o : ℕ) (d : Operand) → o < length xs → Has (slice_index_or xs o d) xs
    has-there [] o d low = absurd (omega arith)
    has-there (x ∷ xs) zero d low = inl refl
    has-there (x ∷ xs) (suc o) d low = inr (has-there xs o d (omega arith))

pub has-index : {A : Type 0} (x d : A) (xs : List A) → Has x xs → (k : ℕ) × (k < length xs) × (slice_index_or xs k d ≡ x)
has-index x d [] has = absurd has
has-index x d (y ∷ xs) (inl e) = (0, omega arith, e)
has-index x d (y ∷ xs) (inr more) = let rest = has-index x d xs more in (suc rest.0, (let low = rest.1 in omega arith), rest.2)

has-mapped : {A B : Type 0} (f : A → B) (x : A) (xs : List A) → Has x xs → Has (f x) (map f xs)
has-mapped f x [] has = absurd has
has-mapped f x (y ∷ xs) (inl e) = inl (ap f e)
has-mapped f x (y ∷ xs) (inr more) = inr (has-mapped f x xs more)

has-all : {A : Type 0} (xs : List A) → AllByRecursion (λ x. Has x xs) xs
has-all [] = tt
has-all (x ∷ xs) = (inl refl, each (λ y. Has y xs) (λ y. Has y (x ∷ xs)) xs (λ y h. inr h) (has-all xs))

every-itself : {A : Type 0} (xs : List A) → Every (λ x. Has x xs) xs
every-itself [] = tt
every-itself {A = A} (x ∷ xs) = (inl refl, wider xs (every-itself xs))
  where
    wider : (ys : List A) → Every (λ y. Has y xs) ys → Every (λ y. Has y (x ∷ xs)) ys
    wider [] h = tt
    wider (y ∷ ys) h = (inr h.0, wider ys h.1)

pack-in : (j : Job) (first n k : ℕ) (rest : List Node) → first ≤ k → k < first + n → Has (PackAt k) (map PackAt (numbers_from first n) ++ rest)
pack-in j first zero k rest low high = absurd (omega arith)
pack-in j first (suc n) k rest low high = elim (cases_lt first k) [
  | inl less ↦ inr (pack-in j (first + 1) n k rest (omega arith) (omega arith))
  | inr same ↦ inl (let e : first ≡ k = omega arith in ap PackAt e)
]

order-has : (j : Job) (matches : List Match) (order : List Node) (n : Node) → IsOrder j.ssa matches j.packs order → Has n (nodes j.ssa j.packs) → Has n order
order-has j matches order n is has =
    let P : Node → Type 0 = λ m. Has m order in
    let back = All-permutation P order (nodes j.ssa j.packs) (IsPermutation-sym (nodes j.ssa j.packs) order is.once) (All-from_recursion P order (has-all order)) in
    at (nodes j.ssa j.packs) (recursion_from_All P (nodes j.ssa j.packs) back) has
  where
    at : (ns : List Node) → AllByRecursion (λ m. Has m order) ns → Has n ns → Has n order
    at [] all h = absurd h
    at (m ∷ ns) all (inl e) = subst (λ q. Has q order) e all.0
    at (m ∷ ns) all (inr h) = at ns all.1 h

pub operand-built : (ds : List Description) (matches : List Match) (ssa : Ssa) (packs : List Pack) (recipes : List Recipe) (order : List Node) (o : ℕ) → IsOrder ssa matches packs order → o < length (operands_in ds matches ssa packs)
    → let j = job_of ds matches ssa packs recipes in Found (last_draft j (begin j) order).built o
operand-built ds matches ssa packs recipes order o is low =
    let j = job_of ds matches ssa packs recipes in
    let all = flat_map (operands_of ds matches ssa) packs in
    let os = operands_in ds matches ssa packs in
    let d : Operand = record { register = 0; slots = [] } in
    let x = slice_index_or os o d in
    let there : Has x all = every-has (λ y. Has y all) x os (every-distinct (λ y. Has y all) same_operand [] all (every-itself all)) (operand-there os o d low) in
    let own = from-flat_map (operands_of ds matches ssa) x packs there in
    let k = has-index own.0 (Stores []) packs own.1 in
    let differ : AllDiffer same_operand os = distinct-differ same_operand (λ a b h. subst (λ y. same_operand y a ≡ true) (operand-is a b h) (operand-itself a)) [] all in
    let takes : takes_at j k.0 ≡ map (number_in os) (operands_of ds matches ssa own.0) = mapped packs k.0 k.1 ∙ ap (λ p. map (number_in os) (operands_of ds matches ssa p)) k.2 in
    let number : Has o (takes_at j k.0) = subst (Has o) (sym takes) (subst (λ n. Has n (map (number_in os) (operands_of ds matches ssa own.0))) (number-once os o d differ low) (has-mapped (number_in os) x (operands_of ds matches ssa own.0) own.2)) in
    let none : Option ℕ = None in
    let long = length-replicate (length os) none in
    order-builds j (begin j) order k.0 o (omega arith) (order-has j matches order (PackAt k.0) is (pack-in j 0 (length packs) k.0 _ (omega arith) (let l = k.1 in omega arith))) number
  where
    operand-there : (xs : List Operand) (o : ℕ) (d : Operand) → o < length xs → Has (slice_index_or xs o d) xs
    operand-there [] o d low = absurd (omega arith)
    operand-there (x ∷ xs) zero d low = inl refl
    operand-there (x ∷ xs) (suc o) d low = inr (operand-there xs o d (omega arith))

    mapped : (ps : List Pack) (k : ℕ) → k < length ps → slice_index_or (map (λ p. map (number_in (operands_in ds matches ssa packs)) (operands_of ds matches ssa p)) ps) k [] ≡ map (number_in (operands_in ds matches ssa packs)) (operands_of ds matches ssa (slice_index_or ps k (Stores [])))
    mapped [] k low = absurd (omega arith)
    mapped (p ∷ ps) zero low = refl
    mapped (p ∷ ps) (suc k) low = mapped ps k (omega arith)

-- ---- recipes

pub nothing-built : (j : Job) (k n : ℕ) → built_cost j k (replicate n None) ≡ 0
nothing-built j k zero = refl
nothing-built j k (suc n) = nothing-built j (k + 1) n

pub built-total : (j : Job) (f : Operand → ℕ) (d : Operand) (k : ℕ) (bs : List (Option ℕ)) (os : List Operand) → length bs ≡ length os → ((o : ℕ) → o < length bs → Found bs o) → ((o : ℕ) → o < length os → own_cost j (k + o) ≡ f (slice_index_or os o d)) → built_cost j k bs ≡ total f os
built-total j f d k [] [] long all cost = refl
built-total j f d k [] (o ∷ os) long all cost = absurd (omega arith)
built-total j f d k (b ∷ bs) [] long all cost = absurd (omega arith)
built-total j f d k (None ∷ bs) (o ∷ os) long all cost = absurd (let x = all 0 (omega arith) in let e : None ≡ Some x.0 = x.1 in cc)
built-total j f d k (Some r ∷ bs) (o ∷ os) long all cost =
    let here : k + 0 ≡ k = omega arith in
    let first : own_cost j k ≡ f o = sym (ap (own_cost j) here) ∙ cost 0 (omega arith) in
    let rest = built-total j f d (k + 1) bs os (omega arith) (λ n low. all (suc n) (omega arith)) (λ n low. let next : k + 1 + n ≡ k + suc n = omega arith in ap (own_cost j) next ∙ cost (suc n) (omega arith)) in
    λ i. first i + rest i

pub inserted-same : (f : Operand → List ℕ) (d : Operand) (rs : List Recipe) (os : List Operand) → length rs ≡ length os → ((o : ℕ) → o < length os → inserted_by (slice_index_or rs o (recipe.Constant [])) (slice_index_or os o d) ≡ f (slice_index_or os o d)) → all_inserted rs os ≡ flat_map f os
inserted-same f d [] [] long same = refl
inserted-same f d [] (o ∷ os) long same = absurd (omega arith)
inserted-same f d (r ∷ rs) [] long same = absurd (omega arith)
inserted-same f d (r ∷ rs) (o ∷ os) long same = λ i. same 0 (omega arith) i ++ inserted-same f d rs os (omega arith) (λ n low. same (suc n) (omega arith)) i

-- ---- nodes

pub total-each : {X : Type 0} (f g : X → ℕ) (xs : List X) → ((x : X) → Has x xs → f x ≡ g x) → total f xs ≡ total g xs
total-each f g [] same = refl
total-each f g (x ∷ xs) same = λ i. same x (inl refl) i + total-each f g xs (λ y h. same y (inr h)) i

pub total-both : {X : Type 0} (f g : X → ℕ) (xs : List X) → total (λ x. f x + g x) xs ≡ total f xs + total g xs
total-both f g [] = refl
total-both f g (x ∷ xs) = omega (arith, total-both f g xs)

pub nodes-total : (j : Job) (ns : List Node) → nodes_cost j ns ≡ total (node_cost j) ns
nodes-total j [] = refl
nodes-total j (n ∷ ns) = ap (λ k. node_cost j n + k) (nodes-total j ns)

pub packs-total : (j : Job) (done rest : List Pack) → j.packs ≡ done ++ rest → total (node_cost j) (map PackAt (numbers_from (length done) (length rest))) ≡ total (pack_cost j) rest
packs-total j done [] e = refl
packs-total j done (p ∷ rest) e =
    let here : pack_at j (length done) ≡ p = ap (λ l. slice_index_or l (length done) (Stores [])) e ∙ seam done in
    let next : length done + 1 ≡ length (done ++ p ∷ []) = sym (Rattle.std.proofs.Common.length-append done (p ∷ [])) in
    (λ i. pack_cost j (here i) + total (node_cost j) (map PackAt (numbers_from (next i) (length rest))))
    ∙ ap (λ n. pack_cost j p + n) (packs-total j (done ++ p ∷ []) rest (e ∙ sym (Rattle.std.proofs.Common.append_assoc done (p ∷ []) rest)))
  where
    seam : (ds : List Pack) → slice_index_or (ds ++ p ∷ rest) (length ds) (Stores []) ≡ p
    seam [] = refl
    seam (q ∷ ds) = seam ds

pub units-total : (j : Job) (vs : List ℕ) → total (node_cost j) (map UnitAt vs) ≡ total (λ v. work_cost j v (unit_at j.ssa v)) vs
units-total j [] = refl
units-total j (v ∷ vs) = ap (λ n. work_cost j v (unit_at j.ssa v) + n) (units-total j vs)

pub has-stands : (x : ℕ) (ys : List ℕ) → Has x ys → In x ys
has-stands x [] has = absurd has
has-stands x (y ∷ ys) (inl e) = (let one : one_if (x == y) ≡ 1 = ap one_if (Rattle.std.proofs.lemmas.Bool.eq-eqb x y (sym e)) in omega arith)
has-stands x (y ∷ ys) (inr more) = let rest = has-stands x ys more in omega arith
