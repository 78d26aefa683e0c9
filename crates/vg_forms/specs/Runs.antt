-- Bits of registers in runs: zeros, or bits of one term from a bit on.
use Rattle.std.specs.Prelude.{ℕ, ◌+◌, ◌-◌, min, nat_eq, nat_le, if◌then◌else◌, List, [], ◌∷◌, ◌++◌, replicate}
use Rattle.vg_terms.specs.Term.{Tree}
use Rattle.vg_lift.specs.Gather.{Bit, clear, bits_from}
use Rattle.vg_forms.specs.declared.run.Run.{Run}
use Rattle.vg_forms.specs.declared.run.Run.TheVariants.{Zeros, Bits}
use Rattle.vg_known.specs.Cuts.{cut}

abbrev pub run_bits : Run → List Bit
run_bits (Zeros n) = replicate n clear
run_bits (Bits t k n) = bits_from t k n

-- how many bits a run has
abbrev pub run_size : Run → ℕ
run_size (Zeros n) = n
run_size (Bits t k n) = n

-- the bits of runs, one after the other
abbrev pub bits_in : List Run → List Bit
bits_in [] = []
bits_in (r ∷ rs) = run_bits r ++ bits_in rs

-- so many bits of a run from a bit on
abbrev pub part_of : Run → ℕ → ℕ → Run
part_of (Zeros m) low n = Zeros n
part_of (Bits t k m) low n = Bits t (k + low) n

abbrev pub cut_run : List Tree → Run → Run
cut_run met (Zeros n) = Zeros n
cut_run met (Bits t k n) = Bits (cut met t) k n

-- so many bits of runs from a bit on
abbrev pub runs_range : List Run → ℕ → ℕ → List Run
runs_range [] low n = []
runs_range (r ∷ rs) low n =
    if nat_eq n 0 then []
    else if nat_le (run_size r) low then runs_range rs (low - run_size r) n
    else
    let m = min n (run_size r - low) in
    part_of r low m ∷ runs_range rs 0 (n - m)
