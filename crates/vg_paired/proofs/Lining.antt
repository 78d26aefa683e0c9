-- The lines of events, from the last line to the first.
use Rattle.std.proofs.Common.{◌≡◌, ℕ, zero, suc, ◌+◌, ◌<◌, ◌≤◌, true, false, List, [], ◌∷◌, ◌++◌, drop, length, take, get_or, refl, sym, ap, subst, ◌∙◌, inl, inr, arith}
use Rattle.std.specs.Prelude.{◌==◌, if◌then◌else◌, nat_eq, nat_lt, replicate, slice_index}
use Rattle.std.proofs.lemmas.Bool.{cases_Bool, cond-true, cond-false, lt-ltb}
use Rattle.std.proofs.lemmas.List.{take_more}
use Rattle.vg_shapes.specs.Order.{count_of, one_if}
use Rattle.vg_events.specs.Orders.{line_of}
use Rattle.vg_paired.specs.Sweeps.{AreLinesFrom, line_from, SetsAll}

count-push : (e y : ℕ) (xs : List ℕ) → count_of e (xs ++ y ∷ []) ≡ count_of e xs + one_if (e == y)
count-push e y [] = omega arith
count-push e y (x ∷ xs) = omega (arith, count-push e y xs)

pub sets-none : (old : List ℕ) (number : ℕ) → SetsAll old old [] number
sets-none old number e inside = refl

-- one event more
pub sets-turn : (old row new es : List ℕ) (i d number : ℕ) → i < length es → length row ≡ length old → SetsAll old row (take i es) number →
    ((e : ℕ) → e < length row → slice_index new e ≡ (if nat_eq e (get_or es i d) then number else slice_index row e)) → SetsAll old new (take (i + 1) es) number
sets-turn old row new es i d number inside long before more e small =
    let y = get_or es i d in
    let grown : count_of e (take (i + 1) es) ≡ count_of e (take i es) + one_if (e == y) = ap (count_of e) (take_more es i d inside) ∙ count-push e y (take i es) in
    more e (omega arith)
    ∙ elim (cases_Bool (nat_eq e y)) [
      | inl t ↦
          let one : one_if (e == y) ≡ 1 = ap one_if t in
          cond-true _ _ _ t ∙ sym (cond-true _ _ _ (lt-ltb 0 (count_of e (take (i + 1) es)) (omega arith)))
      | inr f ↦
          let none : one_if (e == y) ≡ 0 = ap one_if f in
          let same : count_of e (take i es) ≡ count_of e (take (i + 1) es) = omega arith in
          cond-false _ _ _ f ∙ before e small ∙ ap (λ n. if nat_lt 0 n then number else slice_index old e) same
    ]

-- ---- lines

pub from-zero : (e : ℕ) (ls : List (List ℕ)) → line_from 0 e ls ≡ line_of e ls
from-zero e [] = refl
from-zero e (es ∷ ess) = refl

from-end : (e : ℕ) (ls : List (List ℕ)) → line_from (length ls) e ls ≡ length ls
from-end e [] = refl
from-end e (es ∷ ess) = ap suc (from-end e ess)

from-here : (k e : ℕ) (ls : List (List ℕ)) (d : List ℕ) → k < length ls → nat_lt 0 (count_of e (get_or ls k d)) ≡ true → line_from k e ls ≡ k
from-here k e [] d h t = absurd (omega arith)
from-here zero e (es ∷ ess) d h t = cond-true _ _ _ t
from-here (suc k) e (es ∷ ess) d h t = ap suc (from-here k e ess d (omega arith) t)

from-other : (k e : ℕ) (ls : List (List ℕ)) (d : List ℕ) → k < length ls → nat_lt 0 (count_of e (get_or ls k d)) ≡ false → line_from k e ls ≡ line_from (suc k) e ls
from-other k e [] d h f = absurd (omega arith)
from-other zero e (es ∷ ess) d h f = cond-false _ _ _ f ∙ ap suc (sym (from-zero e ess))
from-other (suc k) e (es ∷ ess) d h f = ap suc (from-other k e ess d (omega arith) f)

pub lines-last : (lines : List (List ℕ)) (numbers : List ℕ) (k : ℕ) → k ≡ length lines → ((e : ℕ) → e < length numbers → slice_index numbers e ≡ k) → AreLinesFrom lines k numbers
lines-last lines numbers k is all e inside = all e inside ∙ is ∙ sym (from-end e lines) ∙ ap (λ n. line_from n e lines) (sym is)

-- one line more, in front of the others
pub lines-turn : (lines : List (List ℕ)) (k left : ℕ) (d old new : List ℕ) → k < length lines → left ≡ suc k → length new ≡ length old → AreLinesFrom lines left old →
    SetsAll old new (get_or lines k d) k → AreLinesFrom lines k new
lines-turn lines k left d old new inside step long before sets e small =
    let kept = before e (omega arith) ∙ ap (λ n. line_from n e lines) step in
    sets e (omega arith)
    ∙ elim (cases_Bool (nat_lt 0 (count_of e (get_or lines k d)))) [
      | inl t ↦ cond-true _ _ _ t ∙ sym (from-here k e lines d inside t)
      | inr f ↦ cond-false _ _ _ f ∙ kept ∙ sym (from-other k e lines d inside f)
    ]

pub lines-done : (lines : List (List ℕ)) (k : ℕ) (numbers : List ℕ) → k ≤ 0 → AreLinesFrom lines k numbers → AreLinesFrom lines 0 numbers
lines-done lines k numbers none before = let zero : k ≡ 0 = omega arith in subst (λ n. AreLinesFrom lines n numbers) zero before

replicate-at : (n x e : ℕ) → e < n → slice_index (replicate n x) e ≡ x
replicate-at zero x e h = absurd (omega arith)
replicate-at (suc n) x zero h = refl
replicate-at (suc n) x (suc e) h = replicate-at n x e (omega arith)

pub lines-long : (numbers : List ℕ) (n x : ℕ) → numbers ≡ replicate n x → length numbers ≡ n
lines-long numbers n x all = ap length all ∙ long n x
  where
    long : (n x : ℕ) → length (replicate n x) ≡ n
    long zero x = refl
    long (suc n) x = ap suc (long n x)

-- before the first turn each event has the number of all lines
pub lines-begin : (lines : List (List ℕ)) (numbers : List ℕ) (n k : ℕ) → k ≡ length lines → numbers ≡ replicate n k → length numbers ≡ n → AreLinesFrom lines k numbers
lines-begin lines numbers n k is all long = lines-last lines numbers k is (λ e inside. ap (λ (xs : List ℕ). slice_index xs e) all ∙ replicate-at n k e (omega arith))

whole : (ys zs : List ℕ) → take (length ys) (ys ++ zs) ≡ ys
whole [] zs = refl
whole (y ∷ ys) zs = ap (λ xs. y ∷ xs) (whole ys zs)

-- a slice of a vector written back
pub written : (n : ℕ) (xs ys : List ℕ) → length ys ≡ length xs → n ≡ length xs → take n (ys ++ drop (length ys) xs) ≡ ys
written n xs ys long is =
    ap (λ k. take k (ys ++ drop (length ys) xs)) (is ∙ sym long) ∙ whole ys (drop (length ys) xs)
