-- Steps that went well, taken apart.
use Rattle.std.proofs.Common.{◌≡◌, Bool, true, false, cond, Result, Ok, Err, refl, ◌⊎◌, inl, inr}
use Rattle.vg_base.specs.Bind.{◌>>=◌}

-- where two steps went well, the first did, and the second with what it gave
pub bind_ok : {A B E : Type 0} (r : Result A E) (f : A → Result B E) {y : B} → (r >>= f) ≡ Ok y → (x : A) × (r ≡ Ok x) × (f x ≡ Ok y)
bind_ok (Ok x) f e = (x, refl, e)
bind_ok (Err d) f e = cc

-- where a tested step went well, the test held
pub tested_ok : {A E : Type 0} (b : Bool) (r : Result A E) (d : E) {y : A} → cond b r (Err d) ≡ Ok y → (b ≡ true) × (r ≡ Ok y)
tested_ok true r d e = (refl, e)
tested_ok false r d e = cc

-- which way a test went
pub either_way : {A : Type 0} (b : Bool) (x y : A) {z : A} → cond b x y ≡ z → ((b ≡ true) × (x ≡ z)) ⊎ ((b ≡ false) × (y ≡ z))
either_way true x y e = inl (refl, e)
either_way false x y e = inr (refl, e)

-- where a step that a test refuses went well, the test failed
pub refused_ok : {A E : Type 0} (b : Bool) (r : Result A E) (d : E) {y : A} → cond b (Err d) r ≡ Ok y → (b ≡ false) × (r ≡ Ok y)
refused_ok true r d e = cc
refused_ok false r d e = (refl, e)

-- two steps that go well, one after the other
pub bind_to : {A B E : Type 0} (r : Result A E) (f : A → Result B E) {x : A} {y : B} → r ≡ Ok x → f x ≡ Ok y → (r >>= f) ≡ Ok y
bind_to r f e g = rw e g
