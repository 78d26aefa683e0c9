-- Integer parameters that stand for themselves, one after the other.
use Rattle.std.proofs.Common.{◌≡◌, ℕ, suc, ◌+◌, ◌-◌, ◌<◌, ◌≤◌, List, [], ◌∷◌, ◌++◌, map, sym, ap, ◌∙◌, append_assoc, arith}
use Rattle.vg_shapes.specs.declared.wanted.Wanted.{Wanted}
use Rattle.vg_shapes.specs.declared.wanted.Wanted.TheVariants.{Value}
use Rattle.vg_shapes.specs.Order.{numbers_from}

pub stands-more : (count left : ℕ) (all new whole : List Wanted) → 0 < left → left ≤ count → new ≡ all ++ Value (count - left) ∷ []
    → all ++ map Value (numbers_from (count - left) left) ≡ whole
    → new ++ map Value (numbers_from (count - (left - 1)) (left - 1)) ≡ whole
stands-more count left all new whole some inside is before =
    let v : Wanted = Value (count - left) in
    let next : left ≡ suc (left - 1) = omega arith in
    let here : count - (left - 1) ≡ count - left + 1 = omega arith in
    ap (λ l. l ++ map Value (numbers_from (count - (left - 1)) (left - 1))) is
    ∙ append_assoc all (v ∷ []) (map Value (numbers_from (count - (left - 1)) (left - 1)))
    ∙ ap (λ n. all ++ v ∷ map Value (numbers_from n (left - 1))) here
    ∙ ap (λ n. all ++ map Value (numbers_from (count - left) n)) (sym next) ∙ before
