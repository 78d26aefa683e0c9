-- Steps of a walk after which a flag is false only where it was before.
use Rattle.std.proofs.Common.{◌≡◌, Bool, true, false}
use Rattle.std.specs.Prelude.{if◌then◌else◌, Result, Ok, Err}
use Rattle.vg_base.specs.Bind.{◌>>=◌}
use Rattle.vg_interval.specs.declared.fault.RangeFault.{RangeFault}

-- where the flag of what is given is false, it was false before, and this holds of what is given
abbrev pub Settled : {A : Type 0} → (A → Bool) → (A → Type 0) → Bool → Result A RangeFault → Type 0
Settled flag P before (Ok x) = flag x ≡ false → (before ≡ false) × P x
Settled flag P before (Err e) = Unit {0}

-- this holds of what is given
abbrev pub Gives : {A : Type 0} → (A → Type 0) → Result A RangeFault → Type 0
Gives P (Ok x) = P x
Gives P (Err e) = Unit {0}

pub onward : {B : Type 0} (g : B → Bool) (Q : B → Type 0) (b c : Bool) (r : Result B RangeFault) → (c ≡ false → b ≡ false) → Settled g Q c r → Settled g Q b r
onward g Q b c (Ok y) h s = λ e. let t = s e in (h t.0, t.1)
onward g Q b c (Err e) h s = tt

-- one step and then another, which knows what holds after the first
pub then_settled : {A B : Type 0} (f : A → Bool) (P : A → Type 0) (g : B → Bool) (Q : B → Type 0) (b : Bool) (r : Result A RangeFault) (k : A → Result B RangeFault)
    → Settled f P b r → ((x : A) → (f x ≡ false → (b ≡ false) × P x) → Settled g Q (f x) (k x)) → Settled g Q b (r >>= k)
then_settled f P g Q b (Ok x) k h n = onward g Q b (f x) (k x) (λ e. (h e).0) (n x h)
then_settled f P g Q b (Err e) k h n = tt

-- a step that has no flag, and then another
pub then_plain : {A B : Type 0} (P : A → Type 0) (g : B → Bool) (Q : B → Type 0) (b : Bool) (r : Result A RangeFault) (k : A → Result B RangeFault)
    → Gives P r → ((x : A) → P x → Settled g Q b (k x)) → Settled g Q b (r >>= k)
then_plain P g Q b (Ok x) k h n = n x h
then_plain P g Q b (Err e) k h n = tt

pub anyhow : {A : Type 0} (r : Result A RangeFault) → Gives (λ (x : A). Unit {0}) r
anyhow (Ok x) = tt
anyhow (Err e) = tt

pub gives_if : {A : Type 0} (P : A → Type 0) (b : Bool) (r q : Result A RangeFault) → Gives P r → Gives P q → Gives P (if b then r else q)
gives_if P true r q h g = h
gives_if P false r q h g = g

pub settled_if : {A : Type 0} (f : A → Bool) (P : A → Type 0) (c : Bool) (b : Bool) (r q : Result A RangeFault) → Settled f P c r → Settled f P c q → Settled f P c (if b then r else q)
settled_if f P c true r q h g = h
settled_if f P c false r q h g = g

pub gives_bind : {A B : Type 0} (P : A → Type 0) (Q : B → Type 0) (r : Result A RangeFault) (k : A → Result B RangeFault) → Gives P r → ((x : A) → P x → Gives Q (k x)) → Gives Q (r >>= k)
gives_bind P Q (Ok x) k h n = n x h
gives_bind P Q (Err e) k h n = tt

-- what holds under a condition
pub gives_where : {A : Type 0} (D : Type 0) (P : A → Type 0) (r : Result A RangeFault) → (D → Gives P r) → Gives (λ (x : A). D → P x) r
gives_where D P (Ok x) h = h
gives_where D P (Err e) h = tt
