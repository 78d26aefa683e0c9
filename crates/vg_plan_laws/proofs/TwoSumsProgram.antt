-- Two sums that are stored meet all that the law on programs of plans wants.
use Rattle.std.proofs.Common.{◌≡◌, ℕ, zero, suc, ◌+◌, ◌%◌, ◌^◌, ◌<◌, true, lit<, lit≤, List, [], ◌∷◌, ◌++◌, length, map, take, Some, refl, sym, ap, subst, ◌∙◌, inl, inr, arith}
use Rattle.std.specs.Prelude.{nat_eq, nat_lt, slice_index}
use Rattle.std.specs.List.{IsDistinct, list_any}
use Rattle.std.specs.Str.{bytes_eq}
use Rattle.std.proofs.Math.Nat.{mod-eq_of_lt}
use Rattle.std.proofs.lemmas.Bool.{eqb-true, ltb-true, or_cases, true≢false}
use Rattle.std.proofs.lemmas.Option.{none-some}
use Rattle.vg_base.specs.Address.{place_of}
use Rattle.vg_base.specs.Bits.{bytes}
use Rattle.vg_base.specs.Memory.{stored}
use Rattle.vg_base.specs.declared.address.Address.{Address}
use Rattle.vg_base.specs.declared.width.Width.TheVariants.{W32}
use Rattle.vg_terms.specs.declared.term.Term.{Term}
use Rattle.vg_terms.specs.Term.{Tree, constant, tree, WellFormed, width_of}
use Rattle.vg_terms.specs.Value.{value}
use Rattle.vg_shapes.specs.declared.match_table.Bound.{Bound}
use Rattle.vg_shapes.specs.declared.order.Node.TheVariants.{PackAt}
use Rattle.vg_shapes.specs.declared.ssa_unit.SsaUnit.{SsaUnit}
use Rattle.vg_shapes.specs.declared.ssa_unit.SsaUnit.TheVariants.{Store}
use Rattle.vg_shapes.specs.declared.wanted.Wanted.{Wanted}
use Rattle.vg_shapes.specs.declared.wanted.Wanted.TheVariants.{Value}
use Rattle.vg_shapes.specs.Depends.{dependences, depends_on}
use Rattle.vg_shapes.specs.Nodes.{IsOrder, node_depends}
use Rattle.vg_shapes.specs.Order.{Stands as In}
use Rattle.vg_shapes.specs.RunUnits.{number_of, Reached, reached, run_units, start_of, unit_run}
use Rattle.vg_shapes.specs.Sound.{environment, IsSound, term_at, TermsMean}
use Rattle.vg_shapes.specs.Units.{is_unit}
use Rattle.vg_kernel_plans.specs.Fed.{unfed}
use Rattle.vg_kernel_plans.proofs.FedPlans.{may-be-fed}
use Rattle.vg_kernel_plans.proofs.SameTests.{both-true}
use Rattle.vg_emission.specs.Truth.{IsCallable}
use Rattle.vg_plan_relations.specs.TwoSums.{argument, four_sums, sum_match, sum_matches, sum_plan, sum_tree, two_sums, word}
use Rattle.vg_plan_relations.proofs.TwoSums.{sums-grown, sums-matched, sums-packable}
use Rattle.vg_plan_laws.specs.Laws.{AreKnown}
use Rattle.vg_plan_laws.specs.TwoSumsProgram.{call_first, TwoSumsLines, TwoSumsMeanUnits}
use Rattle.vg_plan_laws.proofs.Programs.{programs-mean}
use Rattle.vg_plan_laws.proofs.Terms.{went}

-- ---- runs

-- what is known after the arguments
abbrev made : ℕ → List ℕ
made n = n ∷ n ∷ 0 ∷ 0 ∷ []

abbrev sum : ℕ → ℕ → ℕ
sum a b = (a + b) % 2 ^ 32

stopped : (places : List ℕ) (s r : Reached) → run_units places [] s ≡ Some r → r.numbers ≡ s.numbers
unfolding run_units
stopped places s r e = (let same : s ≡ r = cc in ap (λ (q : Reached). q.numbers) (sym same))

take-none : (k : ℕ) → take {A = ℕ} k [] ≡ []
take-none zero = refl
take-none (suc k) = refl

take-done : (k : ℕ) → take {A = SsaUnit} k [] ≡ []
take-done zero = refl
take-done (suc k) = refl

store-step : (places : List ℕ) (a : Address) (x : Wanted) (s t : Reached)
    → unit_run places (Store a W32 x) s ≡ Some t → t.numbers ≡ s.numbers ++ 0 ∷ []
store-step places a x s t e =
    let k =
    went (stored s.memory (place_of places a) (bytes 4 (number_of (slice_index s.numbers) x)))
    (λ memory. Some (reached memory s.numbers 0)) t e in
    let is : Some (reached k.0 s.numbers 0) ≡ Some t = k.2 in
    let same : reached k.0 s.numbers 0 ≡ t = cc in
    ap (λ (q : Reached). q.numbers) (sym same)

-- a run of some of the units gives the arguments, the sums, and 0 for each store
sums-run : (places memory : List ℕ) (a b k : ℕ) (t : Term) (r : Reached)
    → run_units places (take k (two_sums t).units) (start_of memory (a ∷ b ∷ [])) ≡ Some r
    → r.numbers ≡ a ∷ b ∷ take k (made (sum a b))
unfolding run_units
sums-run places memory a b zero t r e = stopped places (start_of memory (a ∷ b ∷ [])) r e
sums-run places memory a b (suc zero) t r e =
    stopped places (reached memory (a ∷ b ∷ []) (sum a b)) r e
sums-run places memory a b (suc (suc zero)) t r e =
    stopped places (reached memory (a ∷ b ∷ sum a b ∷ []) (sum a b)) r e
sums-run places memory a b (suc (suc (suc zero))) t r e =
    let s = reached memory (a ∷ b ∷ sum a b ∷ []) (sum a b) in
    let k = went (unit_run places (Store (word 0) W32 (Value 2)) s) (run_units places []) r e in
    stopped places k.0 r k.2 ∙ store-step places (word 0) (Value 2) s k.0 k.1
sums-run places memory a b (suc (suc (suc (suc n)))) t r e =
    let s = reached memory (a ∷ b ∷ sum a b ∷ []) (sum a b) in
    let last = Store (word 4) W32 (Value 3) ∷ take n [] in
    let k = went (unit_run places (Store (word 0) W32 (Value 2)) s) (run_units places last) r e in
    let m =
    went (unit_run places (Store (word 4) W32 (Value 3)) k.0)
    (run_units places (take n [])) r k.2 in
    let none : run_units places [] m.0 ≡ Some r =
    subst (λ us. run_units places us m.0 ≡ Some r) (take-done n) m.2 in
    stopped places m.0 r none
    ∙ store-step places (word 4) (Value 3) k.0 m.0 m.1
    ∙ ap (λ ns. ns ++ 0 ∷ []) (store-step places (word 0) (Value 2) s k.0 k.1)
    ∙ ap (λ ns. a ∷ b ∷ sum a b ∷ sum a b ∷ 0 ∷ 0 ∷ ns) (sym (take-none n))

-- ---- the terms mean what runs give

taken : (k i : ℕ) (ns : List ℕ) → i < length (take k ns)
    → slice_index (take k ns) i ≡ slice_index ns i
taken zero i ns low = absurd (omega arith)
taken (suc k) i [] low = absurd (omega arith)
taken (suc k) zero (n ∷ ns) low = refl
taken (suc k) (suc i) (n ∷ ns) low = taken k i ns (omega arith)

abbrev Means : Term → List ℕ → Type 0
Means t ns =
    (v : ℕ) (x : Tree) → v < length ns → term_at (two_sums t) v ≡ Some x → value
    (environment (two_sums t) ns) x ≡ slice_index ns v

sums-mean : (t : Term) (a b k : ℕ) → tree t ≡ sum_tree → a < 2 ^ 32 → b < 2 ^ 32
    → Means t (a ∷ b ∷ take k (made (sum a b)))
sums-mean t a b k is low high = means
  where
    ns : List ℕ
    ns = a ∷ b ∷ take k (made (sum a b))

    made-sum : (x : Tree) → tree t ≡ x
        → value (environment (two_sums t) (a ∷ b ∷ take k (made (sum a b)))) x ≡ sum a b
    made-sum x e =
        subst (λ y. value (environment (two_sums t) (a ∷ b ∷ take k (made (sum a b)))) y ≡ sum a b)
        (sym is ∙ e)
        (λ i. (mod-eq_of_lt low i + mod-eq_of_lt high i) % 2 ^ 32)

    means : Means t (a ∷ b ∷ take k (made (sum a b)))
    means zero x inside e =
        (let same : argument 0 ≡ x = cc in subst
        (λ y. value (environment (two_sums t) (a ∷ b ∷ take k (made (sum a b)))) y ≡ a) same
        (mod-eq_of_lt low))
    means (suc zero) x inside e =
        (let same : argument 1 ≡ x = cc in subst
        (λ y. value (environment (two_sums t) (a ∷ b ∷ take k (made (sum a b)))) y ≡ b) same
        (mod-eq_of_lt high))
    means (suc (suc zero)) x inside e =
        (let same : tree t ≡ x = cc in made-sum x same ∙ sym
        (taken k 0 (made (sum a b)) (omega arith)))
    means (suc (suc (suc zero))) x inside e =
        (let same : tree t ≡ x = cc in made-sum x same ∙ sym
        (taken k 1 (made (sum a b)) (omega arith)))
    means (suc (suc (suc (suc zero)))) x inside e =
        (let same : constant 8 0 ≡ x = cc in ap
        (value (environment (two_sums t) (a ∷ b ∷ take k (made (sum a b))))) (sym same) ∙ sym
        (taken k 2 (made (sum a b)) (omega arith)))
    means (suc (suc (suc (suc (suc zero))))) x inside e =
        (let same : constant 8 0 ≡ x = cc in ap
        (value (environment (two_sums t) (a ∷ b ∷ take k (made (sum a b))))) (sym same) ∙ sym
        (taken k 3 (made (sum a b)) (omega arith)))
    means (suc (suc (suc (suc (suc (suc v)))))) x inside e = absurd (none-some x e)

terms-mean : (t : Term) → tree t ≡ sum_tree → TermsMean (two_sums t)
terms-mean t is places memory [] k r are given run = absurd given
terms-mean t is places memory (a ∷ []) k r are given run = absurd given.1
terms-mean t is places memory (a ∷ b ∷ more_args) k r are given run =
    let exact : more_args ≡ [] = given.1.1 in
    let two_args =
    subst (λ l. run_units places (take k (two_sums t).units)
    (start_of memory (a ∷ b ∷ l)) ≡ Some r) exact run in
    subst (Means t) (sym (sums-run places memory a b k t r two_args))
    (sums-mean t a b k is given.0 given.1.0)

-- ---- the kernel

names-differ : (t : Term) → IsDistinct bytes_eq (map (λ p. p.name) (two_sums t).params)
unfolding IsDistinct
names-differ t = ((refl, (refl, tt)), ((refl, tt), (tt, tt)))

sum-formed : WellFormed sum_tree
sum-formed = ((lit< tt, lit≤ tt), (refl, refl), (lit< tt, lit≤ tt), (lit< tt, lit≤ tt))

sums-sound : (t : Term) → tree t ≡ sum_tree → IsSound (two_sums t)
sums-sound t is =
    let formed = subst WellFormed (sym is) sum-formed in
    let wide = ap width_of is in
    record {
      name = refl;
      names = (refl, (refl, (refl, tt)));
      distinct = names-differ t;
      params = lit≤ tt;
      stores = lit≤ tt;
      uses = lit≤ tt;
      units = (
        (refl, refl, refl, refl),
        (
          (refl, refl, refl, refl),
          (
            (record { pointer = lit< tt; offset = lit< tt }, refl),
            ((record { pointer = lit< tt; offset = lit< tt }, refl), tt),
          ),
        ),
      );
      earlier = ((lit< tt, lit< tt, tt), ((lit< tt, lit< tt, tt), (lit< tt, (lit< tt, tt))));
      argument_terms = (refl, (refl, refl));
      unit_terms = ((formed, wide), ((formed, wide), (refl, (refl, refl))));
      meaning = terms-mean t is;
      cuts = inl refl;
    }

-- ---- the instance, and what is known of all

sums-described : IsCallable four_sums
sums-described = record {
  packable = sums-packable;
  lane = refl;
  register = refl;
  params = (refl, (refl, tt));
}

sums-known : (t : Term) → tree t ≡ sum_tree → AreKnown (four_sums ∷ []) sum_matches (two_sums t)
sums-known t is =
    record {
      sound = sums-sound t is;
      described =
          (sums-described, tt);
      matched = sums-matched t is;
    }

-- ---- the order

module _ (t : Term) where
  depends-low : (v x : ℕ) → depends_on (two_sums t) v x ≡ true → x < v
  depends-low v x h =
      ltb-true x v (both-true (nat_lt x v) _ (both-true (is_unit (two_sums t) x) _ h).1).0

  call-needs : (x : ℕ) → node_depends (two_sums t) sum_matches sum_plan (PackAt 1) x ≡ true
      → In x []
  call-needs zero h = absurd (true≢false (sym h))
  call-needs (suc zero) h = absurd (true≢false (sym h))
  call-needs (suc (suc x)) h = absurd (late (both-true (is_unit (two_sums t) (suc (suc x))) _ h).1)
    where
      other : (n x : ℕ) → n < 2 → nat_eq n (suc (suc x)) ≡ true → ⊥
      other n x low e = let same = eqb-true n (suc (suc x)) e in omega arith

      late : list_any (λ (b : Bound). Rattle.vg_shapes.specs.Units.is_value (suc (suc x)) b.wanted)
          ((sum_match 2 0).bound ++ ((sum_match 3 1).bound ++ [])) ≡ true → ⊥
      late e = elim (or_cases _ _ e) [
        | inl a ↦ other 0 x (lit< tt) a
        | inr f ↦ elim (or_cases _ _ f) [
          | inl a ↦ other 1 x (lit< tt) a
          | inr g ↦ elim (or_cases _ _ g) [
            | inl a ↦ other 0 x (lit< tt) a
            | inr k ↦ elim (or_cases _ _ k) [
              | inl a ↦ other 1 x (lit< tt) a
              | inr none ↦ true≢false (sym none)
            ]
          ]
        ]
      ]

  first-needs : (x : ℕ) → x < 4 → depends_on (two_sums t) 4 x ≡ true → In x (2 ∷ 3 ∷ [])
  first-needs zero low a = absurd (true≢false (sym a))
  first-needs (suc zero) low a = absurd (true≢false (sym a))
  first-needs (suc (suc zero)) low a = lit< tt
  first-needs (suc (suc (suc zero))) low a = lit< tt
  first-needs (suc (suc (suc (suc x)))) low a = absurd (omega arith)

  second-needs : (x : ℕ) → x < 5 → depends_on (two_sums t) 5 x ≡ true → In x (2 ∷ 3 ∷ [])
  second-needs zero low a = absurd (true≢false (sym a))
  second-needs (suc zero) low a = absurd (true≢false (sym a))
  second-needs (suc (suc zero)) low a = lit< tt
  second-needs (suc (suc (suc zero))) low a = lit< tt
  second-needs (suc (suc (suc (suc zero)))) low a = absurd (true≢false (sym a))
  second-needs (suc (suc (suc (suc (suc x))))) low a = absurd (omega arith)

  stores-need : (x : ℕ) → node_depends (two_sums t) sum_matches sum_plan (PackAt 0) x ≡ true
      → In x (2 ∷ 3 ∷ [])
  stores-need x h = elim (or_cases (depends_on (two_sums t) 4 x) _ h) [
    | inl a ↦ first-needs x (depends-low 4 x a) a
    | inr b ↦ elim (or_cases (depends_on (two_sums t) 5 x) _ b) [
      | inl a ↦ second-needs x (depends-low 5 x a) a
      | inr c ↦ absurd (true≢false (sym c))
    ]
  ]

  call-first : IsOrder (two_sums t) sum_matches sum_plan call_first
  call-first = record {
    once = record { moves = (0, 1) ∷ []; below = (lit< tt, lit< tt, tt); is = refl };
    follows = (call-needs, (stores-need, tt));
  }

pub two-sums-lines : TwoSumsLines
unfolding bytes
two-sums-lines t = refl

pub two-sums-mean : TwoSumsMeanUnits
two-sums-mean called t is true_of =
    programs-mean called (four_sums ∷ []) sum_matches (two_sums t) (dependences (two_sums t)) sum_plan
    call_first (sums-known t is) (true_of, tt)
    (may-be-fed (four_sums ∷ []) sum_matches (two_sums t) (dependences (two_sums t)) unfed sum_plan (sums-grown t))
    (call-first t)
