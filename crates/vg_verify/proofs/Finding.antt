-- A table of what stands first for each event.
use Rattle.std.proofs.Common.{◌≡◌, ℕ, Bool, true, false, List, [], ◌∷◌, ◌++◌, map, Option, Some, None, refl, sym, ◌∙◌, ap, inl, inr, true≢false, append_assoc, append-nil, ◌-◌, ◌≤◌, length, take, drop, get_or, subst, arith}
use Rattle.std.specs.Prelude.{nat_eq, unwrap_or, if◌then◌else◌}
use Rattle.std.specs.Option.{is_some, option_map, option_or}
use Rattle.std.specs.Map.{lookup}
use Rattle.std.proofs.lemmas.Bool.{cases_Bool, eqb-true}
use Rattle.indexmap.specs.IndexMap.{insert_entry}
use Rattle.vg_lift.specs.Gather.{Bit}
use Rattle.vg_known.specs.Kernels.{bits_at}
use Rattle.vg_forms.specs.declared.run.Run.{Run}
use Rattle.vg_forms.specs.Runs.{bits_in}
use Rattle.vg_verify.specs.Finding.{found, HasFirst}
use Rattle.vg_verify.specs.Noting.{Noting}
use Rattle.vg_verify.specs.Views.{pair_of, pairs_in}
use Rattle.vg_verify.proofs.Events.{behind_is}

-- what is found of an event is its bits
bits_found : (table : List (ℕ × List Run)) (e : ℕ) → unwrap_or (option_map bits_in (found table e)) [] ≡ bits_at (pairs_in table) e
bits_found [] e = refl
bits_found (p ∷ ps) e = elim (cases_Bool (nat_eq e p.0)) [
  | inl t ↦ rw t refl
  | inr t ↦ rw t (bits_found ps e)
]

pub at_some : (table : List (ℕ × List Run)) (e : ℕ) (seen rs : List Run) → Some rs ≡ found table e → seen ≡ rs → bits_in seen ≡ bits_at (pairs_in table) e
at_some table e seen rs h same = ap bits_in same ∙ ap (λ o. unwrap_or (option_map bits_in o) []) h ∙ bits_found table e

pub at_none : (table : List (ℕ × List Run)) (e : ℕ) → None ≡ found table e → [] ≡ bits_at (pairs_in table) e
at_none table e h = ap (λ o. unwrap_or (option_map bits_in o) []) h ∙ bits_found table e

-- the same of bits
pairs_found : (pairs : List (ℕ × List Bit)) (e : ℕ) → unwrap_or (found pairs e) [] ≡ bits_at pairs e
pairs_found [] e = refl
pairs_found (p ∷ ps) e = elim (cases_Bool (nat_eq e p.0)) [
  | inl t ↦ rw t refl
  | inr t ↦ rw t (pairs_found ps e)
]

-- a table of what stands first has the same bits
pub same_bits : (table : List (ℕ × List Run)) (pairs : List (ℕ × List Bit)) → HasFirst table pairs → (e : ℕ) → bits_at (pairs_in table) e ≡ bits_at pairs e
same_bits table pairs h e = sym (bits_found table e) ∙ ap (λ o. unwrap_or o []) (h e) ∙ pairs_found pairs e

-- an event after the others
found_last : {V : Type 0} (ps : List (ℕ × V)) (x : ℕ) (v : V) (e : ℕ) → found (ps ++ (x, v) ∷ []) e ≡ option_or (found ps e) (if nat_eq e x then Some v else None)
found_last [] x v e = elim (cases_Bool (nat_eq e x)) [
  | inl t ↦ rw t refl
  | inr t ↦ rw t refl
]
found_last (p ∷ ps) x v e = elim (cases_Bool (nat_eq e p.0)) [
  | inl t ↦ rw t refl
  | inr t ↦ rw t (found_last ps x v e)
]

mapped_or : {V W : Type 0} (f : V → W) (o : Option V) (b : Bool) (v : V) → option_map f (option_or o (if b then Some v else None)) ≡ option_or (option_map f o) (if b then Some (f v) else None)
mapped_or f (Some x) b v = refl
mapped_or f None true v = refl
mapped_or f None false v = refl

-- an event that is there already
there_or : {V : Type 0} (o d : Option V) → is_some o ≡ true → option_or o d ≡ o
there_or None d e = absurd cc
there_or (Some v) d e = refl

some_mapped : {V W : Type 0} (f : V → W) (o : Option V) → is_some o ≡ true → is_some (option_map f o) ≡ true
some_mapped f None e = absurd cc
some_mapped f (Some v) e = refl

none_or : {V : Type 0} (o : Option V) → option_or o None ≡ o
none_or None = refl
none_or (Some v) = refl

pub first_kept : (table : List (ℕ × List Run)) (pairs : List (ℕ × List Bit)) (x : ℕ) (bs : List Bit) → HasFirst table pairs → is_some (found table x) ≡ true → HasFirst table (pairs ++ (x, bs) ∷ [])
first_kept table pairs x bs h there e = elim (cases_Bool (nat_eq e x)) [
  | inl t ↦
      let same = eqb-true e x t in
      let some : is_some (found pairs e) ≡ true = ap is_some (sym (h e)) ∙ some_mapped bits_in (found table e) (ap (λ y. is_some (found table y)) same ∙ there) in
      h e ∙ sym (there_or (found pairs e) (if nat_eq e x then Some bs else None) some) ∙ sym (found_last pairs x bs e)
  | inr t ↦ h e ∙ sym (none_or (found pairs e)) ∙ ap (λ b. option_or (found pairs e) (if b then Some bs else None)) (sym t) ∙ sym (found_last pairs x bs e)
]

-- an event that is not there goes last
new_last : (eq : ℕ → ℕ → Bool) → ((x y : ℕ) → eq x y ≡ nat_eq x y) → (table : List (ℕ × List Run)) (x : ℕ) (v : List Run) → is_some (found table x) ≡ false → insert_entry eq table x v ≡ table ++ (x, v) ∷ []
new_last eq same [] x v none = refl
new_last eq same (p ∷ ps) x v none = by (nat_eq x p.0) refl (new_last eq same ps x v)
  where
    by : (b : Bool) → nat_eq x p.0 ≡ b → (is_some (found ps x) ≡ false → insert_entry eq ps x v ≡ ps ++ (x, v) ∷ []) → insert_entry eq (p ∷ ps) x v ≡ (p ∷ ps) ++ (x, v) ∷ []
    by true e g = let is : true ≡ false = rw e at none in absurd (true≢false is)
    by false e g = let rest : is_some (found ps x) ≡ false = rw e at none in rw (same x p.0, e) (ap (λ t. p ∷ t) (g rest))

pub first_new : (eq : ℕ → ℕ → Bool) → ((x y : ℕ) → eq x y ≡ nat_eq x y) → (table new : List (ℕ × List Run)) (pairs : List (ℕ × List Bit)) (x : ℕ) (v : List Run) → HasFirst table pairs → is_some (found table x) ≡ false
    → new ≡ insert_entry eq table x v → HasFirst new (pairs ++ (x, bits_in v) ∷ [])
first_new eq same table new pairs x v h none grown e =
    ap (λ t. option_map bits_in (found t e)) (grown ∙ new_last eq same table x v none)
    ∙ ap (option_map bits_in) (found_last table x v e)
    ∙ mapped_or bits_in (found table e) (nat_eq e x) v
    ∙ ap (λ o. option_or o (if nat_eq e x then Some (bits_in v) else None)) (h e)
    ∙ sym (found_last pairs x (bits_in v) e)

-- ---- pairs, one after the other

pub noting_none : (all : List (ℕ × List Bit)) → Noting [] all all
noting_none all = record { done = []; has = λ e. refl; is = refl }

pub noting_more : (table new : List (ℕ × List Run)) (x : ℕ) (v : List Run) (rest all : List (ℕ × List Bit)) → Noting table ((x, bits_in v) ∷ rest) all
    → ((pairs : List (ℕ × List Bit)) → HasFirst table pairs → HasFirst new (pairs ++ (x, bits_in v) ∷ [])) → Noting new rest all
noting_more table new x v rest all n noted = record {
  done = n.done ++ (x, bits_in v) ∷ [];
  has = noted n.done n.has;
  is = append_assoc n.done ((x, bits_in v) ∷ []) rest ∙ n.is;
}

pub noting_next : (table new left : List (ℕ × List Run)) (p : ℕ × List Run) (all : List (ℕ × List Bit)) → 1 ≤ length left → p ≡ get_or left 0 p → Noting table (pairs_in left) all
    → ((pairs : List (ℕ × List Bit)) → HasFirst table pairs → HasFirst new (pairs ++ pair_of p ∷ [])) → Noting new (pairs_in (take (length left - 1) (drop 1 left))) all
noting_next table new [] p all some is n noted = absurd (omega (arith, some))
noting_next table new (x ∷ xs) p all some is n noted =
    let first = λ (pairs : List (ℕ × List Bit)) (h : HasFirst table pairs). subst (λ (q : ℕ × List Run). HasFirst new (pairs ++ pair_of q ∷ [])) is (noted pairs h) in
    let next : Noting new (pairs_in xs) all = noting_more table new x.0 x.1 (pairs_in xs) all n first in
    subst (λ (qs : List (ℕ × List Run)). Noting new (pairs_in qs) all) (sym (behind_is x xs)) next

pub noting_all : (table : List (ℕ × List Run)) (all : List (ℕ × List Bit)) → Noting table [] all → HasFirst table all
noting_all table all n e = n.has e ∙ ap (λ ps. found ps e) (sym (append-nil n.done) ∙ n.is)
