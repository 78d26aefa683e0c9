-- Blocks of turns, and the turns that are left over, are the turns one by one.
use Rattle.std.proofs.Common.{◌≡◌, ℕ, zero, suc, ◌+◌, ◌*◌, ◌/◌, ◌%◌, ◌<◌, ◌≤◌, List, Option, Some, None, refl, sym, ap, subst, ◌∙◌, arith}
use Rattle.vg_base.specs.Trap.{◌>>=◌}
use Rattle.vg_loop_laws.specs.Loops.{turns}

pub bind_same : {A B : Type 0} (o : Option A) (f g : A → Option B) → ((x : A) → o ≡ Some x → f x ≡ g x) → (o >>= f) ≡ (o >>= g)
bind_same (Some x) f g h = h x refl
bind_same None f g h = refl

pub bind_twice : {A B C : Type 0} (o : Option A) (f : A → Option B) (g : B → Option C) → ((o >>= f) >>= g) ≡ (o >>= λ x. f x >>= g)
bind_twice (Some x) f g = refl
bind_twice None f g = refl

pub went_well : {A B : Type 0} (o : Option A) (f : A → Option B) (y : B) → (o >>= f) ≡ Some y → (x : A) × (o ≡ Some x) × (f x ≡ Some y)
went_well (Some x) f y e = (x, refl, e)
went_well None f y e = absurd (cc)

pub turns-plus : (f : ℕ → List ℕ → Option (List ℕ)) (a b t : ℕ) (m : List ℕ) → turns f (a + b) t m ≡ (turns f a t m >>= turns f b (t + a))
unfolding turns
turns-plus f zero b t m =
    let all : 0 + b ≡ b = omega arith in
    let first : t ≡ t + 0 = omega arith in
    (λ i. turns f (all i) (first i) m)
turns-plus f (suc a) b t m =
    let all : suc a + b ≡ suc (a + b) = omega arith in
    let first : (t + 1) + a ≡ t + suc a = omega arith in
    ap (λ (n : ℕ). turns f n t m) all
    ∙ bind_same (f t m) (turns f (a + b) (t + 1)) (λ x. turns f a (t + 1) x >>= turns f b (t + suc a)) (λ x e.
    turns-plus f a b (t + 1) x ∙ ap (λ (k : ℕ). turns f a (t + 1) x >>= turns f b k) first)
    ∙ sym (bind_twice (f t m) (turns f a (t + 1)) (turns f b (t + suc a)))

-- what each turn keeps, all turns keep
pub turns-keep : (Good : List ℕ → Type 0) (f : ℕ → List ℕ → Option (List ℕ)) → ((t : ℕ) (m r : List ℕ) → Good m → f t m ≡ Some r → Good r)
    → (n t : ℕ) (m r : List ℕ) → Good m → turns f n t m ≡ Some r → Good r
unfolding turns
turns-keep Good f keeps zero t m r good e = let same : m ≡ r = cc in subst Good same good
turns-keep Good f keeps (suc n) t m r good e =
    let w = went_well (f t m) (turns f n (t + 1)) r e in
    turns-keep Good f keeps n (t + 1) w.0 r (keeps t m w.0 good w.1) w.2

-- turns that do the same where memory is good
pub turns-same : (Good : List ℕ → Type 0) (f g : ℕ → List ℕ → Option (List ℕ)) → ((t : ℕ) (m r : List ℕ) → Good m → g t m ≡ Some r → Good r)
    → (n k : ℕ) → ((t : ℕ) (m : List ℕ) → k ≤ t → t < k + n → Good m → f t m ≡ g t m)
    → (m : List ℕ) → Good m → turns f n k m ≡ turns g n k m
unfolding turns
turns-same Good f g keeps zero k same m good = refl
turns-same Good f g keeps (suc n) k same m good =
    ap (λ o. o >>= turns f n (k + 1)) (same k m (omega arith) (omega arith) good)
    ∙ bind_same (g k m) (turns f n (k + 1)) (turns g n (k + 1)) (λ x e.
    turns-same Good f g keeps n (k + 1) (λ t m low high. same t m (omega arith) (omega arith)) x (keeps k m x good e))

-- blocks each of which does so many turns
pub blocks-are-turns : (Good : List ℕ → Type 0) (turn block : ℕ → List ℕ → Option (List ℕ)) (size : ℕ) → ((t : ℕ) (m r : List ℕ) → Good m → turn t m ≡ Some r → Good r)
    → (n k : ℕ) → ((j : ℕ) (m : List ℕ) → k ≤ j → j < k + n → Good m → block j m ≡ turns turn size (size * j) m)
    → (m : List ℕ) → Good m → turns block n k m ≡ turns turn (size * n) (size * k) m
unfolding turns
blocks-are-turns Good turn block size keeps zero k same m good =
    let none : 0 ≡ size * 0 = omega arith in
    ap (λ (a : ℕ). turns turn a (size * k) m) none
blocks-are-turns Good turn block size keeps (suc n) k same m good =
    let all : size + size * n ≡ size * suc n = omega arith in
    let next : size * (k + 1) ≡ size * k + size = omega arith in
    ap (λ o. o >>= turns block n (k + 1)) (same k m (omega arith) (omega arith) good)
    ∙ bind_same (turns turn size (size * k) m) (turns block n (k + 1)) (turns turn (size * n) (size * k + size)) (λ x e.
    blocks-are-turns Good turn block size keeps n (k + 1) (λ j m low high. same j m (omega arith) (omega arith)) x (turns-keep Good turn keeps size (size * k) m x good e)
    ∙ ap (λ (t : ℕ). turns turn (size * n) t x) next)
    ∙ sym (turns-plus turn size (size * n) (size * k) m)
    ∙ ap (λ (a : ℕ). turns turn a (size * k) m) all
