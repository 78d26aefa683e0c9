-- Numbers that units give one after the other, whatever memory their loads read.
use Rattle.std.proofs.Common.{◌≡◌, ℕ, suc, List, [], ◌∷◌, ◌++◌, length, Some, refl, sym, ap, ◌∙◌, subst, append_assoc, append-nil}
use Rattle.std.specs.Prelude.{slice_index}
use Rattle.std.proofs.lemmas.Nat.{pow_pos}
use Rattle.vg_base.specs.Width.{bits_of}
use Rattle.vg_bits.specs.BitList.{IsBytes}
use Rattle.vg_shapes.specs.declared.ssa_unit.SsaUnit.{SsaUnit}
use Rattle.vg_shapes.specs.declared.ssa_unit.SsaUnit.TheVariants.{Load, Store, Operation}
use Rattle.vg_shapes.specs.RunUnits.{Reached, result_of, run_units, unit_run}
use Rattle.vg_ssa.proofs.Meaning.{bound, Gives, unit-step}

-- the numbers of units, where those before them are given
abbrev pub AreGiven : List ℕ → List SsaUnit → List ℕ → Type 0
AreGiven numbers [] more = more ≡ []
AreGiven numbers (u ∷ us) [] = ⊥
AreGiven numbers (u ∷ us) (n ∷ more) = Gives numbers u n × AreGiven (numbers ++ n ∷ []) us more

-- a run gives its numbers
pub record Given (numbers : List ℕ) (us : List SsaUnit) (all : List ℕ) : Type 0 where
  pub more : List ℕ
  pub are : AreGiven numbers us more
  pub split : all ≡ numbers ++ more

pub run-given : (places : List ℕ) (us : List SsaUnit) (r t : Reached) → IsBytes r.memory → run_units places us r ≡ Some t → Given r.numbers us t.numbers
unfolding run_units
run-given places [] r t h e =
    let same : r ≡ t = cc in
    record { more = []; are = refl; split = sym (ap (λ (q : Reached). q.numbers) same) ∙ sym (append-nil r.numbers) }
run-given places (u ∷ us) r t h e =
    let b = bound (unit_run places u r) (run_units places us) t e in
    let s = unit-step places u r b.0 h b.1 in
    let rest = run-given places us b.0 t s.memory b.2 in
    record {
      more = s.given ∷ rest.more;
      are = (s.gives, subst (λ l. AreGiven l us rest.more) s.numbers rest.are);
      split = rest.split ∙ ap (λ l. l ++ rest.more) s.numbers ∙ append_assoc r.numbers (s.given ∷ []) rest.more;
    }

-- a unit gives some number
pub record GivesOne (numbers : List ℕ) (u : SsaUnit) : Type 0 where
  pub number : ℕ
  pub is : Gives numbers u number

some-number : (numbers : List ℕ) (u : SsaUnit) → GivesOne numbers u
some-number numbers (Load a w) = record { number = 0; is = pow_pos (bits_of w) }
some-number numbers (Store a w x) = record { number = 0; is = refl }
some-number numbers (Operation op w k xs) = record { number = result_of (slice_index numbers) op (bits_of w) k xs; is = refl }

pub record SomeGiven (numbers : List ℕ) (us : List SsaUnit) : Type 0 where
  pub more : List ℕ
  pub are : AreGiven numbers us more

pub some-given : (numbers : List ℕ) (us : List SsaUnit) → SomeGiven numbers us
some-given numbers [] = record { more = []; are = refl }
some-given numbers (u ∷ us) =
    let one = some-number numbers u in
    let rest = some-given (numbers ++ one.number ∷ []) us in
    record { more = one.number ∷ rest.more; are = (one.is, rest.are) }

-- as many as units
pub given-long : (numbers : List ℕ) (us : List SsaUnit) (more : List ℕ) → AreGiven numbers us more → length more ≡ length us
given-long numbers [] more h = ap length h
given-long numbers (u ∷ us) [] h = absurd h
given-long numbers (u ∷ us) (n ∷ more) h = ap suc (given-long (numbers ++ n ∷ []) us more h.1)
