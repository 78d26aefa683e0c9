-- The first way in which a lane is found to fit is the first in which it does.
use Rattle.std.proofs.Common.{◌≡◌, ℕ, zero, suc, ◌+◌, Bool, true, false, List, [], ◌∷◌, Option, Some, None, refl, sym, ap, ◌∙◌, arith}
use Rattle.std.specs.Prelude.{◌&&◌, if◌then◌else◌, slice_get, unwrap_or}
use Rattle.std.specs.Option.{option_map, option_or}
use Rattle.std.proofs.lemmas.Option.{none-some}
use Rattle.vg_base.specs.Trap.{◌>>=◌}
use Rattle.vg_terms.specs.Chain.{makes_chains}
use Rattle.vg_terms.specs.Root.{is_constant}
use Rattle.vg_terms.specs.Term.{Tree, leaf, constant, one, two, sel}
use Rattle.vg_shapes.specs.declared.match_table.Bound.{Bound}
use Rattle.vg_shapes.specs.declared.ssa.Ssa.{Ssa}
use Rattle.vg_shapes.specs.Fits.{Fits, FitsCut, FitsTurned, FitsWide, fits_whole, fits_cut, fits_turned, is_compound, turned, turned_at}
use Rattle.vg_shapes.specs.Sound.{cut_at, cuts_of, name_at, name_of, term_at, terms_of}
use Rattle.vg_match.specs.Fit.{fit, fit_turned}
use Rattle.vg_match.specs.Names.{names_from, names_of, no_name}
use Rattle.vg_match.specs.Values.{fit_by_turn, fit_cut, fit_first, fit_whole, of_kernel}
use Rattle.vg_match.proofs.Members.{some-same}
use Rattle.vg_match.proofs.Right.{found-fits, fit-found}
use Rattle.vg_match.proofs.Standing.{Lists}

pub bind-some : {X Y : Type 0} (o : Option X) (f : X → Option Y) (y : Y) → (o >>= f) ≡ Some y → (x : X) × (o ≡ Some x) × (f x ≡ Some y)
bind-some None f y e = absurd (none-some y e)
bind-some (Some x) f y e = (x, refl, e)

-- ---- the term with its operands exchanged

not-turned : {X : Type 0} (b : Bool) (u : Tree) (f : Tree → Option X) → f u ≡ None → None ≡ ((if b then Some u else None) >>= f)
not-turned true u f h = sym h
not-turned false u f h = refl

-- what is no operation on two terms does not fit a turned term
none-turned : (list : List Tree) (v : ℕ) (p t : Tree) (bound : List Bound) → ((o : _) (u : ℕ) (x y : Tree) → fit list v p (two o u x y) bound ≡ None) → None ≡ (turned t >>= λ u. fit list v p u bound)
none-turned list v p (leaf w k) bound h = refl
none-turned list v p (constant w n) bound h = refl
none-turned list v p (one op w k x) bound h = refl
none-turned list v p (two op w x y) bound h = not-turned (makes_chains op && is_constant y) (two op w y x) (λ u. fit list v p u bound) (h op w y x)
none-turned list v p (sel w c x y) bound h = refl

pub turned-fit : (list : List Tree) (v : ℕ) (p t : Tree) (bound : List Bound) → is_compound p ≡ true → fit_turned list v p t bound ≡ (turned t >>= λ u. fit list v p u bound)
unfolding fit fit_turned
turned-fit list v (leaf w k) t bound c = absurd (cc)
turned-fit list v (constant w n) t bound c = absurd (cc)
turned-fit list v (one op w k x) t bound c = none-turned list v (one op w k x) t bound (λ o u a b. refl)
turned-fit list v (two op w x y) t bound c = refl
turned-fit list v (sel w d x y) t bound c = none-turned list v (sel w d x y) t bound (λ o u a b. refl)

-- ---- the list of names

constant-clash : (t : Tree) → is_constant t ≡ false → no_name ≡ t → ⊥
constant-clash t c e = (let yes : is_constant t ≡ true = sym (ap is_constant e) in cc)

names-at : (ssa : Ssa) (v k : ℕ) (ts : List Tree) → slice_get (names_from ssa v ts) k ≡ option_map (λ t. unwrap_or (name_of ssa (v + k) t) no_name) (slice_get ts k)
names-at ssa v k [] = refl
names-at ssa v zero (t ∷ ts) = let here : v ≡ v + 0 = omega arith in ap (λ n. Some (unwrap_or (name_of ssa n t) no_name)) here
names-at ssa v (suc k) (t ∷ ts) =
    let next : v + 1 + k ≡ v + suc k = omega arith in
    names-at ssa (v + 1) k ts ∙ ap (λ n. option_map (λ u. unwrap_or (name_of ssa n u) no_name) (slice_get ts k)) next

name-there : (o : Option Tree) (f : Tree → Option Tree) (t : Tree) → is_constant t ≡ false → option_map (λ u. unwrap_or (f u) no_name) o ≡ Some t → (o >>= f) ≡ Some t
name-there None f t c e = absurd (none-some t e)
name-there (Some u) f t c e = by (f u) e
  where
    by : (n : Option Tree) → Some (unwrap_or n no_name) ≡ Some t → n ≡ Some t
    by None g = absurd (constant-clash t c (some-same no_name t g))
    by (Some s) g = g

name-listed : (o : Option Tree) (f : Tree → Option Tree) (t : Tree) → (o >>= f) ≡ Some t → option_map (λ u. unwrap_or (f u) no_name) o ≡ Some t
name-listed None f t e = absurd (none-some t e)
name-listed (Some u) f t e = ap (λ n. Some (unwrap_or n no_name)) e

names-listed : (ssa : Ssa) → Lists (name_at ssa) (names_of ssa)
names-listed ssa u t c =
    let start : u ≡ 0 + u = omega arith in
    let at : slice_get (names_of ssa) u ≡ option_map (λ s. unwrap_or (name_of ssa u s) no_name) (cut_at ssa u) =
    names-at ssa 0 u (cuts_of ssa) ∙ ap (λ n. option_map (λ s. unwrap_or (name_of ssa n s) no_name) (cut_at ssa u)) (sym start) in (
      (λ e. name-there (cut_at ssa u) (name_of ssa u) t c (sym at ∙ e)),
      (λ e. at ∙ name-listed (cut_at ssa u) (name_of ssa u) t e),
    )

terms-listed : (ssa : Ssa) → Lists (term_at ssa) (terms_of ssa)
terms-listed ssa u t c = ((λ e. e), (λ e. e))

-- ---- each way

module _ (ssa : Ssa) (v : ℕ) (p : Tree) where
  whole-fits : (bound : List Bound) → is_compound p ≡ true → fit_whole (of_kernel ssa) v p ≡ Some bound → Fits ssa p v bound
  whole-fits bound c e =
      let t = bind-some (term_at ssa v) (λ t. fit (terms_of ssa) v p t []) bound e in
      found-fits (term_at ssa) (terms_of ssa) (terms-listed ssa) v (term_at ssa) p t.0 bound c t.1 t.2

  whole-found : (bound : List Bound) → Fits ssa p v bound → (b : List Bound) × (fit_whole (of_kernel ssa) v p ≡ Some b)
  whole-found bound f =
      let b = fit-found (term_at ssa) (terms_of ssa) (terms-listed ssa) v (term_at ssa) p _ bound f.whole f in
      (b.0, ap (λ o. o >>= λ t. fit (terms_of ssa) v p t []) f.whole ∙ b.1)

  cut-fits : (bound : List Bound) → is_compound p ≡ true → fit_cut (of_kernel ssa) v p ≡ Some bound → FitsCut ssa p v bound
  cut-fits bound c e =
      let t = bind-some (cut_at ssa v) (λ t. fit (names_of ssa) v p t []) bound e in
      found-fits (name_at ssa) (names_of ssa) (names-listed ssa) v (cut_at ssa) p t.0 bound c t.1 t.2

  cut-found : (bound : List Bound) → FitsCut ssa p v bound → (b : List Bound) × (fit_cut (of_kernel ssa) v p ≡ Some b)
  cut-found bound f =
      let b = fit-found (name_at ssa) (names_of ssa) (names-listed ssa) v (cut_at ssa) p _ bound f.whole f in
      (b.0, ap (λ o. o >>= λ t. fit (names_of ssa) v p t []) f.whole ∙ b.1)

  turned-fits : (bound : List Bound) → is_compound p ≡ true → fit_by_turn (of_kernel ssa) v p ≡ Some bound → FitsTurned ssa p v bound
  turned-fits bound c e =
      let t = bind-some (cut_at ssa v) (λ t. fit_turned (names_of ssa) v p t []) bound e in
      let u = bind-some (turned t.0) (λ u. fit (names_of ssa) v p u []) bound (sym (turned-fit (names_of ssa) v p t.0 [] c) ∙ t.2) in
      let at : turned_at ssa v ≡ Some u.0 = ap (λ o. o >>= turned) t.1 ∙ u.1 in
      found-fits (name_at ssa) (names_of ssa) (names-listed ssa) v (turned_at ssa) p u.0 bound c at u.2

  turned-found : (bound : List Bound) → FitsTurned ssa p v bound → (b : List Bound) × (fit_by_turn (of_kernel ssa) v p ≡ Some b)
  turned-found bound f =
      let b = fit-found (name_at ssa) (names_of ssa) (names-listed ssa) v (turned_at ssa) p _ bound f.whole f in
      let t = bind-some (cut_at ssa v) turned _ f.whole in (
        b.0,
        ap (λ o. o >>= λ t. fit_turned (names_of ssa) v p t []) t.1
            ∙ turned-fit (names_of ssa) v p t.0 [] f.compound
            ∙ ap (λ o. o >>= λ u. fit (names_of ssa) v p u []) t.2
            ∙ b.1,
      )

  missed : {fits : List Bound → Type 0} (o : Option (List Bound)) → ((bound : List Bound) → fits bound → (b : List Bound) × (o ≡ Some b)) → o ≡ None → (bound : List Bound) → fits bound → ⊥
  missed o found e bound f = let b = found bound f in none-some b.0 (sym e ∙ b.1)

  -- ---- the first of them

  pub first-fits : (bound : List Bound) → is_compound p ≡ true → fit_first (of_kernel ssa) v p ≡ Some bound → FitsWide ssa p v bound
  first-fits bound c e = by (fit_whole (of_kernel ssa) v p) refl (fit_cut (of_kernel ssa) v p) refl e
    where
      by : (a : Option (List Bound)) → fit_whole (of_kernel ssa) v p ≡ a → (b : Option (List Bound)) → fit_cut (of_kernel ssa) v p ≡ b →
          option_or a (option_or b (fit_by_turn (of_kernel ssa) v p)) ≡ Some bound → FitsWide ssa p v bound
      by (Some x) whole b cut g = fits_whole (whole-fits bound c (whole ∙ g))
      by None whole (Some x) cut g = fits_cut (missed (fit_whole (of_kernel ssa) v p) whole-found whole) (cut-fits bound c (cut ∙ g))
      by None whole None cut g =
          fits_turned (missed (fit_whole (of_kernel ssa) v p) whole-found whole) (missed (fit_cut (of_kernel ssa) v p) cut-found cut) (turned-fits bound c g)

  left-some : (a b : Option (List Bound)) (x : List Bound) → a ≡ Some x → (y : List Bound) × (option_or a b ≡ Some y)
  left-some a b x e = (x, ap (λ o. option_or o b) e)

  right-some : (a b : Option (List Bound)) (x : List Bound) → b ≡ Some x → (y : List Bound) × (option_or a b ≡ Some y)
  right-some None b x e = (x, e)
  right-some (Some y) b x e = (y, refl)

  abbrev IsFirst : List Bound → Type 0
  IsFirst b = fit_first (of_kernel ssa) v p ≡ Some b

  pub first-whole : (bound : List Bound) → Fits ssa p v bound → (b : List Bound) × IsFirst b
  first-whole bound f = let b = whole-found bound f in left-some (fit_whole (of_kernel ssa) v p) _ b.0 b.1

  pub first-cut : (bound : List Bound) → FitsCut ssa p v bound → (b : List Bound) × IsFirst b
  first-cut bound f =
      let b = cut-found bound f in
      let c = left-some (fit_cut (of_kernel ssa) v p) (fit_by_turn (of_kernel ssa) v p) b.0 b.1 in
      right-some (fit_whole (of_kernel ssa) v p) _ c.0 c.1

  pub first-turned : (bound : List Bound) → FitsTurned ssa p v bound → (b : List Bound) × IsFirst b
  first-turned bound f =
      let b = turned-found bound f in
      let c = right-some (fit_cut (of_kernel ssa) v p) (fit_by_turn (of_kernel ssa) v p) b.0 b.1 in
      right-some (fit_whole (of_kernel ssa) v p) _ c.0 c.1
