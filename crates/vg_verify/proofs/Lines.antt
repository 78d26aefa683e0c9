-- The bits of registers that lines leave.
use Rattle.std.proofs.Common.{◌≡◌, ℕ, zero, suc, ◌+◌, ◌-◌, ◌*◌, ◌≤◌, List, [], ◌∷◌, ◌++◌, length, take, drop, refl, sym, ap, ◌∙◌, arith, append_assoc, append-nil, length-append, length-drop, replicate}
use Rattle.std.proofs.lemmas.List.{take_all}
use Rattle.vg_bits.specs.Range.{range, replaced}
use Rattle.vg_terms.specs.Term.{Tree}
use Rattle.vg_lift.specs.Gather.{Bit, bits_from, clear}
use Rattle.vg_forms.specs.declared.run.Run.{Run}
use Rattle.vg_forms.specs.declared.run.Run.TheVariants.{Bits, Zeros}
use Rattle.vg_forms.specs.Runs.{bits_in, run_bits, run_size, runs_range}
use Rattle.vg_forms.proofs.Ranges.{bits_in_append, range_bits, run_bits-length}

pub one_more : (r : Run) (rs : List Run) → length (bits_in (r ∷ rs)) ≡ run_size r + length (bits_in rs)
one_more r rs = length-append (run_bits r) (bits_in rs) ∙ ap (λ n. n + length (bits_in rs)) (run_bits-length r)

pub zeros_behind : (old new : List Run) (count : ℕ) → new ≡ old ++ Zeros count ∷ [] → bits_in new ≡ bits_in old ++ replicate count clear
zeros_behind old new count e = ap bits_in e ∙ bits_in_append old (Zeros count ∷ []) ∙ ap (λ x. bits_in old ++ x) (append-nil (replicate count clear))

pub low_bits : (old : List Run) (n : ℕ) (rs : List Run) (bs : List Bit) → rs ≡ runs_range old 0 n → bs ≡ bits_in old → bits_in rs ≡ take n bs
low_bits old n rs bs e f = ap bits_in e ∙ range_bits old 0 n ∙ ap (take n) (sym f)

pub range_of : (old : List Run) (low n : ℕ) (rs : List Run) (bs : List Bit) → rs ≡ runs_range old low n → bs ≡ bits_in old → bits_in rs ≡ range low n bs
range_of old low n rs bs e f = ap bits_in e ∙ range_bits old low n ∙ ap (range low n) (sym f)

length-from : (t : Tree) (k n : ℕ) → length (bits_from t k n) ≡ n
length-from t k zero = refl
length-from t k (suc n) = ap suc (length-from t (suc k) n)

pub inserted_bits : (old rs : List Run) (t : Tree) (low w size : ℕ) → size ≡ length (bits_in old) → rs ≡ (runs_range old 0 low ++ Bits t 0 w ∷ []) ++ runs_range old (low + w) size
    → bits_in rs ≡ replaced low (bits_from t 0 w) (bits_in old)
inserted_bits old rs t low w size e f =
    let bs = bits_in old in
    let new = bits_from t 0 w in
    let few : length (drop (low + w) bs) ≤ size = omega (arith, length-drop (low + w) bs, e) in
    ap bits_in f
    ∙ bits_in_append (runs_range old 0 low ++ Bits t 0 w ∷ []) (runs_range old (low + w) size)
    ∙ ap (λ x. x ++ bits_in (runs_range old (low + w) size)) (bits_in_append (runs_range old 0 low) (Bits t 0 w ∷ []) ∙ ap (λ x. bits_in (runs_range old 0 low) ++ x) (append-nil new) ∙ ap (λ x. x ++ new) (range_bits old 0 low))
    ∙ append_assoc (take low bs) new (bits_in (runs_range old (low + w) size))
    ∙ ap (λ x. take low bs ++ (new ++ x)) (range_bits old (low + w) size ∙ take_all size (drop (low + w) bs) few ∙ ap (λ n. drop (low + n) bs) (sym (length-from t 0 w)))
