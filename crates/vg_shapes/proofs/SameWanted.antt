-- The test of what is wanted tells it apart.
use Rattle.std.proofs.Common.{◌≡◌, refl, ap, true}
use Rattle.std.specs.Prelude.{nat_eq}
use Rattle.std.proofs.lemmas.Bool.{and_parts, and_from, eqb-true, eq-eqb}
use Rattle.vg_shapes.specs.declared.wanted.Wanted.{Wanted}
use Rattle.vg_shapes.specs.declared.wanted.Wanted.TheVariants.{Value, Constant, Nothing}
use Rattle.vg_shapes.specs.Wanted.{same_wanted}

pub wanted-same : (a b : Wanted) → same_wanted a b ≡ true → a ≡ b
wanted-same (Value v) (Value u) t = ap Value (eqb-true v u t)
wanted-same (Value v) (Constant x m) t = absurd (cc)
wanted-same (Value v) Nothing t = absurd (cc)
wanted-same (Constant w n) (Value u) t = absurd (cc)
wanted-same (Constant w n) (Constant x m) t =
    let p = and_parts (nat_eq w x) (nat_eq n m) t in
    λ i. Constant (eqb-true w x p.0 i) (eqb-true n m p.1 i)
wanted-same (Constant w n) Nothing t = absurd (cc)
wanted-same Nothing (Value u) t = absurd (cc)
wanted-same Nothing (Constant x m) t = absurd (cc)
wanted-same Nothing Nothing t = refl

pub wanted-itself : (a : Wanted) → same_wanted a a ≡ true
wanted-itself (Value v) = eq-eqb v v refl
wanted-itself (Constant w n) = and_from (nat_eq w w) (nat_eq n n) (eq-eqb w w refl) (eq-eqb n n refl)
wanted-itself Nothing = refl
