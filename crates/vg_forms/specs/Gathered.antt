-- The term that runs of bits gather: those that go on with one another are one run, and then one stands above
-- the other.
use Rattle.std.specs.Prelude.{ℕ, ◌+◌, Bool, true, false, ◌&&◌, nat_eq, if◌then◌else◌, List, [], ◌∷◌}
use Rattle.vg_terms.specs.Order.{is_same_term}
use Rattle.vg_terms.specs.Resize.{low}
use Rattle.vg_terms.specs.Term.{Tree, constant, two, width_of}
use Rattle.vg_terms.specs.declared.term.TwoOp.TheVariants.{Cat}
use Rattle.vg_lift.specs.Gather.{shifted}
use Rattle.vg_forms.specs.declared.run.Run.{Run}
use Rattle.vg_forms.specs.declared.run.Run.TheVariants.{Zeros, Bits}
use Rattle.vg_forms.specs.Runs.{run_size}

-- the second run goes on with the first
abbrev pub joins : Run → Run → Bool
joins (Zeros n) (Zeros m) = true
joins (Zeros n) (Bits u j m) = false
joins (Bits t k n) (Zeros m) = false
joins (Bits t k n) (Bits u j m) = nat_eq j (k + n) && is_same_term t u

-- a run with so many bits more
abbrev pub longer_by : Run → ℕ → Run
longer_by (Zeros n) m = Zeros (n + m)
longer_by (Bits t k n) m = Bits t k (n + m)

-- a run and those after it, as few as there can be
abbrev pub merged_on : Run → List Run → List Run
merged_on r [] = r ∷ []
merged_on r (q ∷ qs) =
    if nat_eq (run_size q) 0 then merged_on r qs
    else if joins r q then merged_on (longer_by r (run_size q)) qs
    else r ∷ merged_on q qs

abbrev pub merged : List Run → List Run
merged [] = []
merged (r ∷ rs) = if nat_eq (run_size r) 0 then merged rs else merged_on r rs

-- the term of a run
abbrev pub run_term : Run → Tree
run_term (Zeros n) = constant n 0
run_term (Bits t k n) = low n (shifted k t)

-- the terms of runs, one above the other
abbrev pub above : Tree → Run → Tree
above t r = two Cat (run_size r + width_of t) t (run_term r)

abbrev pub stacked_on : Run → List Run → Tree
stacked_on r [] = run_term r
stacked_on r (q ∷ qs) = above (stacked_on q qs) r

abbrev pub stacked : List Run → Tree
stacked [] = constant 0 0
stacked (r ∷ rs) = stacked_on r rs
