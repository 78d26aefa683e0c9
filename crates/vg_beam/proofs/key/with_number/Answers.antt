use Rattle.std.proofs.Common.{◌≡◌, ◌∙◌, ◌++◌, ◌∷◌, [], ap, append_assoc, arith, drop, rules, sym, take}
use Rattle.std.specs.Prelude.{nat_le, slice_get}
use Rattle.vg_beam.specs.Key.{is_number}
use Rattle.vg_beam.proofs.Numbers.{place-most, with-new, with-there}
use Rattle.vg_beam.proofs.key.with_number.Goals as goal

pub returns-then-is_at : goal.returns-then-is_at
returns-then-is_at c =
    let e : c.in_ok-same.same.items ≡ c.args.key.now = search rules in
    let t = ap (λ n. is_number c.args.number (slice_get c.args.key.now n)) (sym c.place_of-place.ensures) ∙ sym c.is_at.ensures ∙ c.if-is_at.true in
    e ∙ sym (with-there c.args.number c.args.key.now t)

pub split_at-requires : goal.split_at-requires
split_at-requires c =
    let most = place-most (λ x. nat_le c.args.number x) c.args.key.now in
    omega (arith, most, c.place_of-place.ensures)

pub returns : goal.returns
returns c =
    let f = ap (λ n. is_number c.args.number (slice_get c.args.key.now n)) (sym c.place_of-place.ensures) ∙ sym c.is_at.ensures ∙ c.if-is_at.false in
    c.in_ok-extend_from_slice-2.ensures.items
    ∙ ap (λ l. l ++ c.split_at.result.1.now) (c.in_ok-push.ensures.items ∙ ap (λ l. l ++ c.args.number ∷ []) (c.in_ok-extend_from_slice.ensures.items ∙ ap (λ l. l ++ c.split_at.result.0.now) c.in_ok-longer.ensures.items))
    ∙ ap (λ l. (l ++ c.args.number ∷ []) ++ c.split_at.result.1.now) c.split_at.ensures.front
    ∙ ap (λ l. (take c.place_of-place.result c.args.key.now ++ c.args.number ∷ []) ++ l) c.split_at.ensures.back
    ∙ append_assoc (take c.place_of-place.result c.args.key.now) (c.args.number ∷ []) (drop c.place_of-place.result c.args.key.now)
    ∙ ap (λ n. take n c.args.key.now ++ c.args.number ∷ drop n c.args.key.now) c.place_of-place.ensures
    ∙ sym (with-new c.args.number c.args.key.now f)
