-- Terms as ghost values.
use Rattle.std.proofs.Common.{◌≡◌, ℕ, ap, refl, arith}
use Rattle.std.specs.Prelude.{ℤ}
use Rattle.std.specs.Coded.{Coded, code_by, coded×, coded_ℕ, coded_ℤ}
use base.Stored.{Gv, gnum, gcons, num, gnil}
use Rattle.vg_terms.specs.declared.term.LeafKey.{LeafKey}
use Rattle.vg_terms.specs.Order.{one_tag, two_tag}
use Rattle.vg_terms.specs.Term.{Tree, leaf, constant, one, two, sel}
use Rattle.vg_terms.proofs.Orders.{one_tag-same, two_tag-same}

abbrev pub key_code : Coded LeafKey
key_code =
    code_by (ℕ × (ℕ × (ℤ × ℕ))) (coded× coded_ℕ (coded× coded_ℕ (coded× coded_ℤ coded_ℕ)))
    (λ k. (k.kind, (k.first, (k.second, k.third))))
    (λ p. record { kind = p.0; first = p.1.0; second = p.1.1.0; third = p.1.1.1 }) (λ _. refl)

-- the root's kind, what it says, and what stands below
abbrev pub node : ℕ → ℕ → Gv → Gv → Gv
node kind w x y = gcons (gnum kind) (gcons (gnum w) (gcons x y))

abbrev pub code : Tree → Gv
code (leaf w k) = node 0 w (key_code.code k) gnil
code (constant w v) = node 1 w (gnum v) gnil
code (one op w k x) = node 2 w (gcons (gnum (one_tag op)) (gnum k)) (code x)
code (two op w x y) = node 3 w (gnum (two_tag op)) (gcons (code x) (code y))
code (sel w c x y) = node 4 w (code c) (gcons (code x) (code y))

abbrev pub first : Gv → Gv
first (gcons a b) = a
first (gnum n) = gnil
first gnil = gnil

abbrev pub rest : Gv → Gv
rest (gcons a b) = b
rest (gnum n) = gnil
rest gnil = gnil

abbrev pub kind : Gv → ℕ
kind g = num (first g)

abbrev width : Gv → ℕ
width g = num (first (rest g))

abbrev left : Gv → Gv
left g = first (rest (rest g))

abbrev right : Gv → Gv
right g = rest (rest (rest g))

pub inj : (t u : Tree) → code t ≡ code u → t ≡ u
inj (leaf w k) (leaf v l) p = λ i. leaf (ap width p i) (key_code.inj k l (ap left p) i)
inj (constant w n) (constant v m) p = λ i. constant (ap width p i) (ap (λ g. num (left g)) p i)
inj (one op w k x) (one o v l y) p =
    λ i. one (one_tag-same op o (ap (λ g. num (first (left g))) p) i) (ap width p i) (ap (λ g. num (rest (left g))) p i) (inj x y (ap right p) i)
inj (two op w x y) (two o v z u) p =
    λ i. two (two_tag-same op o (ap (λ g. num (left g)) p) i) (ap width p i) (inj x z (ap (λ g. first (right g)) p) i) (inj y u (ap (λ g. rest (right g)) p) i)
inj (sel w c x y) (sel v d z u) p =
    λ i. sel (ap width p i) (inj c d (ap left p) i) (inj x z (ap (λ g. first (right g)) p) i) (inj y u (ap (λ g. rest (right g)) p) i)
inj (leaf w k) _ p = absurd (let e = ap kind p in omega (arith, e))
inj (constant w n) _ p = absurd (let e = ap kind p in omega (arith, e))
inj (one op w k x) _ p = absurd (let e = ap kind p in omega (arith, e))
inj (two op w x y) _ p = absurd (let e = ap kind p in omega (arith, e))
inj (sel w c x y) _ p = absurd (let e = ap kind p in omega (arith, e))

abbrev pub tree_code : Coded Tree
tree_code = record { code = code; inj = inj }
