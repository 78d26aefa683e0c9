-- A term over constants alone has one value, in whatever environment.
use Rattle.std.proofs.Common.{◌≡◌, ◌<◌, true, refl, ap, ◌∙◌, arith, inl}
use Rattle.std.specs.Prelude.{if◌then◌else◌, nat_eq, ℕ}
use Rattle.std.proofs.lemmas.Bool.{and_parts}
use Rattle.vg_terms.specs.declared.value.Env.{Env}
use Rattle.vg_terms.specs.Measure.{weight}
use Rattle.vg_terms.specs.Term.{Tree, leaf, constant, one, two, sel, width_of, WellFormed}
use Rattle.vg_terms.specs.Value.{one_value, two_value, value}
use Rattle.vg_terms.proofs.Chains.{width_range}
use Rattle.vg_terms.proofs.Measures.{one_weight_some, weight_some}
use Rattle.vg_terms.proofs.Values.{value-below}
use Rattle.vg_terms.specs.Root.{is_constant}
use Rattle.vg_rules_sum.specs.Constant.{is_over_constants, nothing, folded}
use Rattle.vg_rules_sum.specs.Rules.{fold_constants}
use Rattle.vg_terms.specs.Table.{IsSound}
use Rattle.vg_terms.proofs.Tables.{given_if}

pub constant-fixed : (t : Tree) → is_constant t ≡ true → (e f : Env) → value e t ≡ value f t
constant-fixed (constant w v) h e f = refl
constant-fixed (leaf w k) h e f = absurd (cc)
constant-fixed (one op w k x) h e f = absurd (cc)
constant-fixed (two op w x y) h e f = absurd (cc)
constant-fixed (sel w c x y) h e f = absurd (cc)

pub two-fixed : (x y : Tree) → is_constant x ≡ true → is_constant y ≡ true → (e f : Env) (g : ℕ → ℕ → ℕ) →
    g (value e x) (value e y) ≡ g (value f x) (value f y)
two-fixed x y h k e f g =
    ap (λ v. g v (value e y)) (constant-fixed x h e f) ∙ ap (g (value f x)) (constant-fixed y k e f)

value-fixed : (t : Tree) → is_over_constants t ≡ true → (e f : Env) → value e t ≡ value f t
value-fixed (one op w k x) h e f = ap (one_value op w k (width_of x)) (constant-fixed x h e f)
value-fixed (two op w x y) h e f =
    let both = and_parts (is_constant x) (is_constant y) h in
    two-fixed x y both.0 both.1 e f (two_value op w (width_of y))
value-fixed (sel w c x y) h e f =
    let all = and_parts (is_constant c) _ h in
    let both = and_parts (is_constant x) (is_constant y) all.1 in
    ap (λ v. if nat_eq v 1 then value e x else value e y) (constant-fixed c all.0 e f)
    ∙ two-fixed x y both.0 both.1 e f (λ a b. if nat_eq (value f c) 1 then a else b)
value-fixed (leaf w k) h e f = absurd (cc)
value-fixed (constant w v) h e f = absurd (cc)

folded-falls : (t : Tree) → is_over_constants t ≡ true → WellFormed t → weight (folded t) < weight t
folded-falls (one op w k x) h g = omega (arith, one_weight_some op w g.0.0, weight_some x)
folded-falls (two op w x y) h g = omega (arith, weight_some x, weight_some y)
folded-falls (sel w c x y) h g = omega (arith, weight_some x, weight_some y)
folded-falls (leaf w k) h g = absurd (cc)
folded-falls (constant w v) h g = absurd (cc)

pub fold_constants-sound : IsSound fold_constants
unfolding fold_constants
fold_constants-sound old new g e =
    given_if (is_over_constants old) old (folded old) new (λ t. record {
      keeps =
          record { well_formed = (width_range old g, value-below nothing old g); width = refl; value = λ env. value-fixed old t nothing env };
      falls = inl (folded-falls old t g);
    }) e
