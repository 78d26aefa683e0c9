-- Bits that are given to events, and read of them.
use Rattle.std.proofs.Common.{◌≡◌, ℕ, zero, suc, ◌+◌, ◌-◌, ◌≤◌, List, [], ◌∷◌, ◌++◌, length, map, take, drop, get_or, refl, sym, ap, ◌∙◌, arith, append_assoc}
use Rattle.std.proofs.Math.Seq.{take-length}
use Rattle.std.proofs.lemmas.List.{map-append}
use Rattle.vg_lift.specs.Gather.{Bit}
use Rattle.vg_known.specs.Kernels.{pairs_of}
use Rattle.vg_known.specs.Known.{event_bits}
use Rattle.vg_forms.specs.declared.run.Run.{Run}
use Rattle.vg_forms.specs.Runs.{bits_in, run_size, runs_range}
use Rattle.vg_forms.proofs.Ranges.{bits_in_append, range_bits}
use Rattle.vg_verify.proofs.Lines.{one_more}
use Rattle.vg_verify.specs.Views.{pair_of, pairs_in, runs_for}

drop-none : {A : Type 0} (n : ℕ) (xs : List A) → xs ≡ [] → drop n xs ≡ []
drop-none zero xs e = e
drop-none (suc n) [] e = refl
drop-none (suc n) (x ∷ xs) e = absurd (cc)

drop-drop : {A : Type 0} (k n : ℕ) (xs : List A) → drop n (drop k xs) ≡ drop (k + n) xs
drop-drop zero n xs = let e : n ≡ 0 + n = omega arith in ap (λ m. drop m xs) e
drop-drop (suc k) n [] = drop-none n [] refl ∙ sym (drop-none (suc k + n) [] refl)
drop-drop (suc k) n (x ∷ xs) = let e : suc (k + n) ≡ suc k + n = omega arith in drop-drop k n xs ∙ ap (λ m. drop m (x ∷ xs)) e

runs-given : (es : List ℕ) (rs : List Run) (low : ℕ) → pairs_in (runs_for es rs low) ≡ pairs_of es (drop low (bits_in rs))
runs-given [] rs low = refl
runs-given (e ∷ es) rs low =
    ap (λ bs. (e, bs) ∷ pairs_in (runs_for es rs (low + 8))) (range_bits rs low 8)
    ∙ ap (λ ps. (e, take 8 (drop low (bits_in rs))) ∷ ps) (runs-given es rs (low + 8) ∙ ap (pairs_of es) (sym (drop-drop low 8 (bits_in rs))))

pub events_given : (old new : List (ℕ × List Run)) (es : List ℕ) (rs : List Run) → new ≡ old ++ runs_for es rs 0 → pairs_in new ≡ pairs_in old ++ pairs_of es (bits_in rs)
events_given old new es rs e = ap pairs_in e ∙ map-append pair_of old (runs_for es rs 0) ∙ ap (λ ps. pairs_in old ++ ps) (runs-given es rs 0)

pub behind_is : {A : Type 0} (x : A) (xs : List A) → take (length (x ∷ xs) - 1) (drop 1 (x ∷ xs)) ≡ xs
behind_is x xs = let n : length (x ∷ xs) - 1 ≡ length xs = omega arith in ap (λ k. take k xs) n ∙ take-length xs

read_more : (bits_for : ℕ → List Bit) (old mid new : List Run) (e : ℕ) (es : List ℕ) (rs : List Run) → mid ≡ old ++ rs → bits_in rs ≡ bits_for e → bits_in new ≡ bits_in mid ++ event_bits bits_for es
    → bits_in new ≡ bits_in old ++ event_bits bits_for (e ∷ es)
read_more bits_for old mid new e es rs grown is more =
    more ∙ ap (λ x. x ++ event_bits bits_for es) (ap bits_in grown ∙ bits_in_append old rs ∙ ap (λ bs. bits_in old ++ bs) is)
    ∙ append_assoc (bits_in old) (bits_for e) (event_bits bits_for es)

pub read_all : (bits_for : ℕ → List Bit) (es : List ℕ) (old mid new rs : List Run) → 1 ≤ length es → mid ≡ old ++ rs → bits_in rs ≡ bits_for (get_or es 0 0)
    → bits_in new ≡ bits_in mid ++ event_bits bits_for (take (length es - 1) (drop 1 es)) → bits_in new ≡ bits_in old ++ event_bits bits_for es
read_all bits_for [] old mid new rs some grown is more = absurd (omega (arith, some))
read_all bits_for (x ∷ xs) old mid new rs some grown is more =
    read_more bits_for old mid new x xs rs grown is (more ∙ ap (λ es. bits_in mid ++ event_bits bits_for es) (behind_is x xs))

pub size_all : (rs : List Run) (r : Run) (rest size : ℕ) → 1 ≤ length rs → r ≡ get_or rs 0 r → rest ≡ length (bits_in (take (length rs - 1) (drop 1 rs))) → size ≡ run_size r + rest
    → size ≡ length (bits_in rs)
size_all [] r rest size some is h e = absurd (omega (arith, some))
size_all (x ∷ xs) r rest size some is h e =
    e ∙ ap (λ y. run_size y + rest) is ∙ ap (λ n. run_size x + n) (h ∙ ap (λ ys. length (bits_in ys)) (behind_is x xs)) ∙ sym (one_more x xs)
