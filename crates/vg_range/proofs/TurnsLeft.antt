-- The turns of a FOR, one after the other.
use Rattle.std.proofs.Common.{◌≡◌, ℕ, zero, suc, ◌+◌, ◌-◌, ◌<◌, refl, sym, ◌∙◌, ap, arith, Ok}
use Rattle.std.specs.Prelude.{ℤ, pos, negsuc, ◌+ℤ◌, nat_lt, Some, None, if◌then◌else◌}
use Rattle.std.proofs.lemmas.Int.{ints}
use Rattle.std.proofs.lemmas.Bool.{lt-ltb}
use Rattle.vg_base.specs.Bind.{◌>>=◌}
use Rattle.vg_text.specs.declared.place.Place.{Place}
use Rattle.vg_pseudo.specs.Resolved.{Code}
use Rattle.vg_pseudo.specs.Value.{count}
use Rattle.vg_pseudo.specs.Whole.{natural, negative}
use Rattle.vg_interval.specs.Judge.{step}
use Rattle.vg_range.specs.Steps.{first_turn, how_many, turn_at, turns_left, turns_through}
use Rattle.vg_range.specs.Walk.{WalkContext, WalkState, at_count, in_turn, turns_at, walk}
use Rattle.vg_range.proofs.Stepping.{again}
use borrow.Author.Differences.{up, down}

-- how far it is, one counted on
abbrev count_of : ℤ → ℤ → ℤ
count_of z l = (l +ℤ negative z) +ℤ pos 1

natural_is : (z : ℤ) → natural z ≡ up z - down z
natural_is (pos n) = omega arith
natural_is (negsuc n) = omega arith

pub count_is : (z l : ℤ) → count z l ≡ (up l + down z + 1) - (down l + up z)
count_is (pos a) (pos b) = omega (arith, ints, natural_is (count_of (pos a) (pos b)))
count_is (pos a) (negsuc b) = omega (arith, ints, natural_is (count_of (pos a) (negsuc b)))
count_is (negsuc a) (pos b) = omega (arith, ints, natural_is (count_of (negsuc a) (pos b)))
count_is (negsuc a) (negsuc b) = omega (arith, ints, natural_is (count_of (negsuc a) (negsuc b)))

pub count_next : (z l : ℤ) (n : ℕ) → count z l ≡ suc n → count (z +ℤ pos 1) l ≡ n
count_next z l n e = omega (arith, ints, e, count_is z l, count_is (z +ℤ pos 1) l)

more_than_none : {A : Type 0} (n : ℕ) (a b : A) → 0 < n → (if nat_lt 0 n then a else b) ≡ a
more_than_none n a b h = ap (λ c. if c then a else b) (lt-ltb 0 n h)

turns_by : (x : WalkContext) (place : Place) (body : Code) (z l : ℤ) (w : WalkState) (n : ℕ) → count z l ≡ n
    → turns_left x place body l (if nat_lt 0 n then Some z else None) w ≡ turns_at (λ y u. walk (in_turn x y) body u) place z n w
turns_by x place body z l w zero e = refl
turns_by x place body z l w (suc n) e =
    ap (λ o. turns_left x place body l o w) (more_than_none (suc n) (Some z) None (omega arith))
    ∙ again (step place w.count) (λ c. walk (in_turn x z) body (at_count w c)) (turns_through x place body (z +ℤ pos 1) l)
    ∙ ap (λ k. step place w.count >>= λ c. walk (in_turn x z) body (at_count w c) >>= λ v. turns_at (λ y u. walk (in_turn x y) body u) place (z +ℤ pos 1) k v) (count_next z l n e)

-- the turns from here to the last, by the first of them
pub turns_are : (x : WalkContext) (place : Place) (body : Code) (z l : ℤ) (w : WalkState)
    → turns_left x place body l (first_turn z l) w ≡ turns_through x place body z l w
turns_are x place body z l w = turns_by x place body z l w (count z l) refl

-- one turn more
pub turns_next : (x : WalkContext) (place : Place) (body : Code) (z l : ℤ) (w v : WalkState) → turn_at x place body z w ≡ Ok v
    → turns_left x place body l (first_turn (z +ℤ pos 1) l) v ≡ turns_left x place body l (Some z) w
turns_next x place body z l w v e =
    turns_are x place body (z +ℤ pos 1) l v
    ∙ sym (ap (λ r. r >>= λ u. turns_through x place body (z +ℤ pos 1) l u) e)

fewer_by : (z l : ℤ) (n : ℕ) → count z l ≡ n → how_many l (if nat_lt 0 n then Some z else None) < 1 + n
fewer_by z l zero e = omega arith
fewer_by z l (suc n) e = omega (arith, count_next z l n e, ap (how_many l) (more_than_none (suc n) (Some z) None (omega arith)))

-- there are fewer turns after a turn
pub fewer : (z l : ℤ) → how_many l (first_turn (z +ℤ pos 1) l) < how_many l (Some z)
fewer z l = fewer_by (z +ℤ pos 1) l (count (z +ℤ pos 1) l) refl
