-- The terms that are met are well-formed.
use Rattle.std.proofs.Common.{◌≡◌, ℕ, zero, suc, ◌<◌, Bool, true, false, List, [], ◌∷◌, ◌++◌, length, get_or, Option, Some, inl, inr, sym, subst, arith, refl}
use Rattle.std.specs.List.{list_any}
use Rattle.std.specs.Prelude.{slice_index_or}
use Rattle.std.proofs.lemmas.Bool.{cases_Bool, cond-true, cond-false}
use Rattle.vg_terms.specs.Order.{is_same_term}
use Rattle.vg_terms.specs.Term.{Tree, WellFormed}
use Rattle.vg_ssa.specs.ValueTerm.{no_term}
use Rattle.vg_known.specs.Calls.{met_with_all}
use Rattle.vg_known.specs.Classes.{AllFormed}
use Rattle.vg_known.specs.Cuts.{met_with}

formed-push : (met : List Tree) (t : Tree) → AllFormed met → WellFormed t → AllFormed (met ++ t ∷ [])
formed-push [] t h f = (f, tt)
formed-push (m ∷ met) t h f = (h.0, formed-push met t h.1 f)

pub formed-with : (met : List Tree) (t : Tree) → AllFormed met → WellFormed t → AllFormed (met_with met t)
formed-with met t h f = elim (cases_Bool (list_any (is_same_term t) met)) [
  | inl y ↦ subst AllFormed (sym (cond-true _ _ _ y)) h
  | inr n ↦ subst AllFormed (sym (cond-false _ _ _ n)) (formed-push met t h f)
]

pub formed-with_all : (met ts : List Tree) → AllFormed met → AllFormed ts → AllFormed (met_with_all met ts)
formed-with_all met [] h f = h
formed-with_all met (t ∷ ts) h f = formed-with_all (met_with met t) ts (formed-with met t h f.0) f.1

pub formed-at : (met : List Tree) (c : ℕ) → AllFormed met → c < length met → WellFormed (get_or met c no_term)
formed-at [] c h l = absurd (omega arith)
formed-at (m ∷ met) zero h l = h.0
formed-at (m ∷ met) (suc c) h l = formed-at met c h.1 (omega arith)
