-- Two sums that are stored meet all that the law on plans wants.
use Rattle.std.proofs.Common.{◌≡◌, ◌⊎◌, ℕ, zero, suc, ◌+◌, ◌*◌, ◌≤◌, true, lit<, lit≤, List, [], ◌∷◌, Some, None, refl, sym, ap, subst, ◌∙◌, inl, inr, arith}
use Rattle.std.specs.Prelude.{IsSome}
use Rattle.std.specs.List.{IsDistinct}
use Rattle.std.proofs.lemmas.Option.{none-some}
use Rattle.vg_plans.specs.Crowded.{IsPlan, empty, more}
use Rattle.vg_plans.specs.World.{follows}
use Rattle.vg_terms.specs.declared.term.LeafKey.{LeafKey}
use Rattle.vg_terms.specs.declared.term.Term.{Term}
use Rattle.vg_terms.specs.Term.{Tree, constant, leaf, one, sel, tree, two}
use Rattle.vg_shapes.specs.declared.match_table.Bound.{Bound}
use Rattle.vg_shapes.specs.declared.pack.Pack.TheVariants.{Call, Stores}
use Rattle.vg_shapes.specs.declared.wanted.Wanted.TheVariants.{Value}
use Rattle.vg_shapes.specs.Depends.{dependences}
use Rattle.vg_shapes.specs.Description.{IsLane, IsPackable}
use Rattle.vg_shapes.specs.Fits.{Fits, has_leaf, replaced, same_leaf, StandsFor, wanted_for}
use Rattle.vg_shapes.specs.Matches.{AreMatches, AreWholeMatches, IsMatchBy, lane_at}
use Rattle.vg_shapes.specs.Pack.{match_at}
use Rattle.vg_shapes.specs.Registers.{bits_key}
use Rattle.vg_shapes.specs.Sound.{term_at}
use Rattle.vg_shapes.proofs.WholeTables.{wide-is-whole}
use Rattle.vg_kernel_plans.specs.Laws.{IsPlanFor}
use Rattle.vg_kernel_plans.specs.Packing.{packing}
use Rattle.vg_plan_relations.specs.TwoSums.{argument, four_sums, sum_lane, sum_match, sum_matches, sum_plan, sum_tree, two_sums, TwoSumsArePlanned}
use Rattle.vg_plan_relations.proofs.Planning.{grown-nodes}

-- ---- the instance

sum-lane : (low : ℕ) → low + 32 ≤ 128 → IsLane (128 ∷ 128 ∷ []) 32 (sum_lane low)
sum-lane low inside = record {
  formed = ((lit< tt, lit≤ tt), (refl, refl), (lit< tt, lit≤ tt), (lit< tt, lit≤ tt));
  wide = refl;
  inside = ((0, low, refl, inside), (1, low, refl, inside));
}

pub sums-packable : IsPackable four_sums
sums-packable = record {
  fill = refl;
  lanes = (
    sum-lane 0 (lit≤ tt),
    (sum-lane 32 (lit≤ tt), (sum-lane 64 (lit≤ tt), (sum-lane 96 (lit≤ tt), tt))),
  );
  even = refl;
  apart = refl;
}

-- ---- the matches

-- what replaces a leaf of a parameter
abbrev replaces : ℕ → LeafKey → Tree
replaces w k = argument k.first

abbrev leaf_number : Tree → ℕ
leaf_number (leaf w k) = k.first
leaf_number (constant w n) = 0
leaf_number (one op w k x) = 0
leaf_number (two op w x y) = 0
leaf_number (sel w c x y) = 0

differ : (m n : ℕ) → m ≡ n → m ≡ 0 → n ≡ 1 → ⊥
differ m n e f g = absurd (omega arith)

first-stands : (t : Term) (v : ℕ) → 2 ≤ v → StandsFor (term_at (two_sums t)) v (argument 0) (Value 0)
first-stands t v low = (refl, omega arith, refl, (λ x e. omega arith))

second-stands : (t : Term) (v : ℕ) → 2 ≤ v → StandsFor (term_at (two_sums t)) v (argument 1) (Value 1)
second-stands t v low = (refl, omega arith, refl, least)
  where
    least : (x : ℕ) → term_at (two_sums t) x ≡ Some (argument 1) → 1 ≤ x
    least zero e =
        (let same : argument 0 ≡ argument 1 = cc in absurd
        (differ 0 1 (ap leaf_number same) refl refl))
    least (suc x) e = omega arith

-- what is computed of the entries of a match
record IsEntered (v lane : ℕ) : Type 0 where
  first : wanted_for (sum_match v lane).bound 32 (bits_key 0 (lane * 32)) ≡ Value 0
  second : wanted_for (sum_match v lane).bound 32 (bits_key 1 (lane * 32)) ≡ Value 1
  leaf_first : has_leaf 32 (bits_key 0 (lane * 32)) (sum_lane (lane * 32)) ≡ true
  leaf_second : has_leaf 32 (bits_key 1 (lane * 32)) (sum_lane (lane * 32)) ≡ true
  apart : IsDistinct same_leaf (sum_match v lane).bound

-- a lane with a sum
sum-is : (t : Term) (v lane : ℕ) → tree t ≡ sum_tree → 2 ≤ v
    → term_at (two_sums t) v ≡ Some (tree t) → IsEntered v lane
    → lane_at (four_sums ∷ []) 0 lane ≡ Some (sum_lane (lane * 32))
    → IsMatchBy (Fits (two_sums t)) (four_sums ∷ []) (sum_match v lane)
sum-is t v lane is late at entered there =
    let first = entered.first in
    let second = entered.second in
    let fits : Fits (two_sums t) (sum_lane (lane * 32)) v (sum_match v lane).bound = record {
      by = replaces;
      compound = refl;
      widths = (refl, refl);
      whole = at ∙ ap Some is;
      leaves = (
        subst (StandsFor (term_at (two_sums t)) v (argument 0)) (sym first) (first-stands t v late),
        subst (StandsFor (term_at (two_sums t)) v (argument 1)) (sym second) (second-stands t v late),
      );
      alone = (entered.leaf_first, (entered.leaf_second, tt));
      once = entered.apart;
    } in
    record { term = sum_lane (lane * 32); lane = there; fits = fits }

sums-entered : (v lane : ℕ) → (lane ≡ 0) ⊎ ((lane ≡ 1) ⊎ ((lane ≡ 2) ⊎ (lane ≡ 3))) → IsEntered v lane
unfolding IsDistinct
sums-entered v lane (inl e) = subst (IsEntered v) (sym e) (record { first = refl; second = refl; leaf_first = refl; leaf_second = refl; apart = ((refl, tt), (tt, tt)) })
sums-entered v lane (inr (inl e)) = subst (IsEntered v) (sym e) (record { first = refl; second = refl; leaf_first = refl; leaf_second = refl; apart = ((refl, tt), (tt, tt)) })
sums-entered v lane (inr (inr (inl e))) = subst (IsEntered v) (sym e) (record { first = refl; second = refl; leaf_first = refl; leaf_second = refl; apart = ((refl, tt), (tt, tt)) })
sums-entered v lane (inr (inr (inr e))) = subst (IsEntered v) (sym e) (record { first = refl; second = refl; leaf_first = refl; leaf_second = refl; apart = ((refl, tt), (tt, tt)) })

-- a value whose term is an operation is one of the sums
are-sums : (t : Term) (v low : ℕ) (by : ℕ → LeafKey → Tree) → term_at (two_sums t) v ≡ Some (replaced by (sum_lane low)) → (v ≡ 2) ⊎ (v ≡ 3)
are-sums t zero low by e = absurd (cc)
are-sums t (suc zero) low by e = absurd (cc)
are-sums t (suc (suc zero)) low by e = inl refl
are-sums t (suc (suc (suc zero))) low by e = inr refl
are-sums t (suc (suc (suc (suc zero)))) low by e = absurd (cc)
are-sums t (suc (suc (suc (suc (suc zero))))) low by e = absurd (cc)
are-sums t (suc (suc (suc (suc (suc (suc v)))))) low by e = absurd (none-some _ e)

-- a lane with the sum, for each of the two values
at-sum : (t : Term) (lane v : ℕ) (x : Tree) (bound : List Bound) → x ≡ sum_lane (lane * 32) → Fits (two_sums t) x v bound
    → IsSome (match_at sum_matches 0 lane 2) → IsSome (match_at sum_matches 0 lane 3) → IsSome (match_at sum_matches 0 lane v)
at-sum t lane v x bound same f a b =
    let whole : term_at (two_sums t) v ≡ Some (replaced f.by (sum_lane (lane * 32))) = f.whole ∙ ap (λ y. Some (replaced f.by y)) same in
    elim (are-sums t v (lane * 32) f.by whole) [
      | inl e ↦ subst (λ n. IsSome (match_at sum_matches 0 lane n)) (sym e) a
      | inr e ↦ subst (λ n. IsSome (match_at sum_matches 0 lane n)) (sym e) b
    ]

each-sum : (t : Term) (d lane v : ℕ) (x : Tree) (bound : List Bound) → lane_at (four_sums ∷ []) d lane ≡ Some x → Fits (two_sums t) x v bound
    → IsSome (match_at sum_matches d lane v)
each-sum t (suc d) lane v x bound there f = absurd (none-some x there)
each-sum t zero zero v x bound there f = at-sum t 0 v x bound (cc) f refl refl
each-sum t zero (suc zero) v x bound there f = at-sum t 1 v x bound (cc) f refl refl
each-sum t zero (suc (suc zero)) v x bound there f = at-sum t 2 v x bound (cc) f refl refl
each-sum t zero (suc (suc (suc zero))) v x bound there f = at-sum t 3 v x bound (cc) f refl refl
each-sum t zero (suc (suc (suc (suc lane)))) v x bound there f = absurd (none-some x there)

pub sums-matched : (t : Term) → tree t ≡ sum_tree → AreMatches (four_sums ∷ []) (two_sums t) sum_matches
sums-matched t is =
    let e0 = λ (v : ℕ). sums-entered v 0 (inl refl) in
    let e1 = λ (v : ℕ). sums-entered v 1 (inr (inl refl)) in
    let e2 = λ (v : ℕ). sums-entered v 2 (inr (inr (inl refl))) in
    let e3 = λ (v : ℕ). sums-entered v 3 (inr (inr (inr refl))) in
    let two : 2 ≤ 2 = lit≤ tt in
    let three : 2 ≤ 3 = lit≤ tt in
    let whole : AreWholeMatches (four_sums ∷ []) (two_sums t) sum_matches = record {
      right = (
        sum-is t 2 0 is two refl (e0 2) refl,
        (
          sum-is t 2 1 is two refl (e1 2) refl,
          (
            sum-is t 2 2 is two refl (e2 2) refl,
            (
              sum-is t 2 3 is two refl (e3 2) refl,
              (
                sum-is t 3 0 is three refl (e0 3) refl,
                (
                  sum-is t 3 1 is three refl (e1 3) refl,
                  (
                    sum-is t 3 2 is three refl (e2 3) refl,
                    (sum-is t 3 3 is three refl (e3 3) refl, tt),
                  ),
                ),
              ),
            ),
          ),
        ),
      );
      whole = each-sum t;
    } in
    (wide-is-whole (four_sums ∷ []) (two_sums t) sum_matches refl).1 whole

-- ---- the plan

pub sums-grown : (t : Term) → IsPlanFor (four_sums ∷ []) sum_matches (two_sums t) (dependences (two_sums t)) sum_plan
sums-grown t =
    let ways = follows (packing (four_sums ∷ []) sum_matches (two_sums t) (dependences (two_sums t))) in
    let stores : IsPlan ways (Stores (4 ∷ 5 ∷ []) ∷ []) = more [] (Stores (4 ∷ 5 ∷ [])) empty (inl refl) in
    more (Stores (4 ∷ 5 ∷ []) ∷ []) (Call 0 (Some 2 ∷ Some 3 ∷ None ∷ None ∷ [])) stores (inl refl)

pub sums-planned : TwoSumsArePlanned
sums-planned t is =
    grown-nodes (four_sums ∷ []) sum_matches (two_sums t) (sums-packable, tt) (sums-matched t is) sum_plan (sums-grown t)
