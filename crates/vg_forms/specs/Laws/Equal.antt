-- Terms are compared as values.
use Rattle.std.proofs.Common.{◌≡◌, true, ap, refl, IsTrue, subst}
use Rattle.std.specs.Cmp.{IsEquivalence, IsPartialEquivalence, partial_equiv_from_equiv, both_ways}
use Rattle.std.specs.Hash as fed
use Rattle.vg_terms.specs.Order.{is_same_term}
use Rattle.vg_terms.specs.Term.{Tree}
use Rattle.vg_terms.proofs.Orders.{same_term, same_term-means}
use Rattle.vg_forms.specs.Digest.{digest}

own : (t : Tree) → is_same_term t t ≡ true
own t = (same_term-means t t).1 refl

turned : (t u : Tree) → is_same_term t u ≡ true → is_same_term u t ≡ true
turned t u h = subst (λ x. is_same_term x t ≡ true) (same_term t u h) (own t)

pub same_equiv : IsEquivalence is_same_term
same_equiv = record {
  refl = own;
  symm = λ t u. both_ways (is_same_term t u) (is_same_term u t) (turned t u) (turned u t);
  congr = λ t u v h. ap (λ x. is_same_term x v) (same_term t u h);
}

pub same_per : IsPartialEquivalence is_same_term
same_per = partial_equiv_from_equiv same_equiv

-- equal terms give a hash the same
pub alike : (t u : Tree) → IsTrue (is_same_term t u) → fed.u64 (digest t) ≡ fed.u64 (digest u)
alike t u h = ap (λ x. fed.u64 (digest x)) (same_term t u h)
