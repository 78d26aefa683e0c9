-- Runs of cut terms, and when a value is made of whole ones.
use Rattle.std.proofs.Common.{◌≡◌, ℕ, zero, suc, ◌<◌, ◌-◌, ◌^◌, refl, sym, ap, ◌∙◌, arith, List, [], ◌∷◌, ◌++◌, replicate, map}
use Rattle.std.specs.Prelude.{min}
use Rattle.std.proofs.lemmas.Bool.{cond-false, lt-leb}
use Rattle.std.proofs.lemmas.List.{map-append}
use Rattle.vg_canon.specs.Canonical.{canonical}
use Rattle.vg_terms.specs.Term.{Tree, node_count}
use Rattle.vg_lift.specs.Gather.{clear, of_term, bits_from}
use Rattle.vg_known.specs.Cuts.{built, cut, cut_bits}
use Rattle.vg_forms.specs.declared.run.Run.{Run}
use Rattle.vg_forms.specs.declared.run.Run.TheVariants.{Zeros, Bits}
use Rattle.vg_forms.specs.Runs.{run_bits, bits_in, cut_run}

cut-from : (met : List Tree) (t : Tree) (k n : ℕ) → bits_from (cut met t) k n ≡ cut_bits met (bits_from t k n)
cut-from met t k zero = refl
cut-from met t k (suc n) = ap (λ bs. of_term (cut met t) k ∷ bs) (cut-from met t (suc k) n)

cut-clears : (met : List Tree) (n : ℕ) → replicate n clear ≡ cut_bits met (replicate n clear)
cut-clears met zero = refl
cut-clears met (suc n) = ap (λ bs. clear ∷ bs) (cut-clears met n)

cut-run : (met : List Tree) (r : Run) → run_bits (cut_run met r) ≡ cut_bits met (run_bits r)
cut-run met (Zeros n) = cut-clears met n
cut-run met (Bits t k n) = cut-from met t k n

pub cut_runs : (met : List Tree) (rs : List Run) → bits_in (map (cut_run met) rs) ≡ cut_bits met (bits_in rs)
cut_runs met [] = refl
cut_runs met (r ∷ rs) =
    ap (λ bs. bs ++ bits_in (map (cut_run met) rs)) (cut-run met r)
    ∙ ap (λ bs. cut_bits met (run_bits r) ++ bs) (cut_runs met rs)
    ∙ sym (map-append _ (run_bits r) (bits_in rs))

-- what is too large as a whole is made of parts
pub too_large : (whole parts : Tree) (n : ℕ) → n ≡ min (node_count whole) (2 ^ 64 - 1) → 4096 < n → built whole parts ≡ canonical parts
too_large whole parts n e h =
    let g : 4096 < node_count whole = omega (arith, e, h) in
    cond-false _ _ _ (lt-leb (node_count whole) 4096 g)
