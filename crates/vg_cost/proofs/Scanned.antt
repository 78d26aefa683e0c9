-- Shuffles are all there are among the descriptions of their numbers.
use Rattle.std.proofs.Common.{◌≡◌, ℕ, suc, ◌≤◌, false, List, [], ◌∷◌, ◌++◌, length, map, refl, sym, ◌∙◌, ap, inl, inr, arith, append_assoc, Some}
use Rattle.std.specs.Prelude.{if◌then◌else◌, slice_get}
use Rattle.std.specs.List.{flat_map, list_all}
use Rattle.std.specs.Option.{option_map_or}
use Rattle.std.proofs.lemmas.Bool.{cases_Bool}
use Rattle.std.proofs.lemmas.List.Folds.{list_all-map}
use Rattle.vg_terms.specs.declared.term.Term.{Term}
use Rattle.vg_terms.specs.Term.{tree}
use Rattle.vg_shapes.specs.declared.operand.Operand.{Operand}
use Rattle.vg_shapes.specs.declared.pack.Pack.{Pack}
use Rattle.vg_shapes.specs.declared.ssa.Ssa.{Ssa}
use Rattle.vg_shapes.specs.Description.{Description}
use Rattle.vg_kernel_plans.specs.Shuffles.{is_shuffle, shuffle_of, shuffles}
use Rattle.vg_cost.specs.Had.{costs_had}
use Rattle.vg_cost.specs.Shuffling.{is_tight_lane, shuffle_at, shuffles_from}

pub tight_lanes : (n : ℕ) (lanes : List Term) → list_all (λ t. is_tight_lane n (tree t)) lanes ≡ list_all (is_tight_lane n) (map tree lanes)
tight_lanes n lanes = sym (list_all-map (is_tight_lane n) tree lanes)

found-behind : (pre : List Description) (e : Description) (es : List Description) → slice_get (pre ++ e ∷ es) (length pre) ≡ Some e
found-behind [] e es = refl
found-behind (d ∷ pre) e es = found-behind pre e es

no-shuffle : (o : Operand) (e : Description) → is_shuffle e ≡ false → shuffle_of o e ≡ []
no-shuffle o e f = rw f refl

pushed-length : (pre : List Description) (e : Description) → length (pre ++ e ∷ []) ≡ suc (length pre)
pushed-length [] e = refl
pushed-length (d ∷ pre) e = ap (λ n. suc n) (pushed-length pre e)

among : (o : Operand) (pre es : List Description)
    → flat_map (shuffle_at (pre ++ es) o) (shuffles_from (length pre) es) ≡ flat_map (shuffle_of o) es
among o pre [] = refl
among o pre (e ∷ es) =
    let whole : (pre ++ e ∷ []) ++ es ≡ pre ++ e ∷ es = append_assoc pre (e ∷ []) es in
    let rest : flat_map (shuffle_at (pre ++ e ∷ es) o) (shuffles_from (suc (length pre)) es) ≡ flat_map (shuffle_of o) es =
    ap (λ ds. flat_map (shuffle_at ds o) (shuffles_from (suc (length pre)) es)) (sym whole)
    ∙ ap (λ n. flat_map (shuffle_at ((pre ++ e ∷ []) ++ es) o) (shuffles_from n es)) (sym (pushed-length pre e))
    ∙ among o (pre ++ e ∷ []) es
    in
    elim (cases_Bool (is_shuffle e)) [
      | inl t ↦
          ap (λ b. flat_map (shuffle_at (pre ++ e ∷ es) o) (if b then length pre ∷ shuffles_from (suc (length pre)) es else shuffles_from (suc (length pre)) es)) t
          ∙ ap (λ l. l ++ flat_map (shuffle_at (pre ++ e ∷ es) o) (shuffles_from (suc (length pre)) es))
          (ap (λ x. option_map_or (shuffle_of o) x []) (found-behind pre e es))
          ∙ ap (λ l. shuffle_of o e ++ l) rest
      | inr f ↦
          ap (λ b. flat_map (shuffle_at (pre ++ e ∷ es) o) (if b then length pre ∷ shuffles_from (suc (length pre)) es else shuffles_from (suc (length pre)) es)) f
          ∙ rest ∙ ap (λ l. l ++ flat_map (shuffle_of o) es) (sym (no-shuffle o e f))
    ]

pub all-shuffles : (ds : List Description) (o : Operand) (numbers : List ℕ) → numbers ≡ shuffles_from 0 ds
    → flat_map (shuffle_at ds o) numbers ≡ shuffles ds o
all-shuffles ds o numbers e = ap (flat_map (shuffle_at ds o)) e ∙ among o [] ds

pub none-scanned : (ds : List Description) (ssa : Ssa) (plan : List Pack) (o : Operand) (numbers : List ℕ)
    → numbers ≡ shuffles_from 0 ds → length numbers ≤ 0 → [] ≡ costs_had ds ssa plan (shuffles ds o)
none-scanned ds ssa plan o [] e z = ap (costs_had ds ssa plan) (all-shuffles ds o [] e)
none-scanned ds ssa plan o (n ∷ numbers) e z = absurd (omega arith)
