-- The terms of a kernel, one after the other.
use Rattle.std.proofs.Common.{◌≡◌, ℕ, zero, suc, ◌+◌, ◌<◌, ◌≤◌, Bool, true, false, List, [], ◌∷◌, ◌++◌, length, take, drop, get_or, refl, sym, ap, ◌∙◌, inl, inr, arith, append_assoc, append-nil, length-append, drop-cons, true≢false}
use Rattle.std.specs.List.{list_any}
use Rattle.std.proofs.lemmas.Bool.{cases_Bool, cond-false}
use Rattle.vg_base.specs.Width.{bits_of}
use Rattle.vg_terms.specs.Order.{is_same_term}
use Rattle.vg_terms.specs.Term.{Tree, leaf, constant, one, two, sel}
use Rattle.vg_terms.proofs.Orders.{same_term}
use Rattle.vg_shapes.specs.declared.ssa.SsaParam.{SsaParam}
use Rattle.vg_shapes.specs.declared.ssa.SsaParamKind.{SsaParamKind}
use Rattle.vg_shapes.specs.declared.ssa.SsaParamKind.TheVariants.{Pointer, Integer}
use Rattle.vg_shapes.specs.declared.ssa_unit.SsaUnit.{SsaUnit}
use Rattle.vg_shapes.specs.Sound.{argument_key}
use Rattle.vg_shapes.specs.Units.{integers_of}
use Rattle.vg_known.specs.Cuts.{met_with}
use Rattle.vg_known.specs.Kernels.{argument_leaves, Terms, terms_behind, unit_term, with_term}
use Rattle.vg_verify.specs.Beginning.{argument_met, argument_terms, Begun, Termed}

-- ---- parameters

abbrev key_number : Tree → ℕ
key_number (leaf w k) = k.first
key_number (constant w v) = 0
key_number (one op w k x) = 0
key_number (two op w x y) = 0
key_number (sel w c x y) = 0

other_leaf : (w v n m : ℕ) → m < n → is_same_term (leaf w (argument_key n)) (leaf v (argument_key m)) ≡ false
other_leaf w v n m h = elim (cases_Bool (is_same_term (leaf w (argument_key n)) (leaf v (argument_key m)))) [
  | inl t ↦ let e : n ≡ m = ap key_number (same_term (leaf w (argument_key n)) (leaf v (argument_key m)) t) in absurd (omega (arith, h, e))
  | inr f ↦ f
]

any-last : {A : Type 0} (p : A → Bool) (xs : List A) (x : A) → list_any p xs ≡ false → p x ≡ false → list_any p (xs ++ x ∷ []) ≡ false
any-last p [] x h e = rw e refl
any-last p (y ∷ ys) x h e = elim (cases_Bool (p y)) [
  | inl t ↦ let is : true ≡ false = rw t at h in absurd (true≢false is)
  | inr f ↦ let is : list_any p ys ≡ false = rw f at h in rw f (any-last p ys x is e)
]

pub begun_none : (params : List SsaParam) → Begun [] [] params (argument_leaves 0 (integers_of params))
begun_none params = record { all_met = refl; is = refl; fresh = λ w n h. refl }

begun_integer : (ts met : List Tree) (w : ℕ) (ps : List SsaParam) (all : List Tree) → met ≡ ts → ts ++ leaf w (argument_key (length ts)) ∷ argument_leaves (length ts + 1) (integers_of ps) ≡ all
    → ((w n : ℕ) → length ts ≤ n → list_any (is_same_term (leaf w (argument_key n))) ts ≡ false)
    → Begun (ts ++ leaf w (argument_key (length ts)) ∷ []) (met_with met (leaf w (argument_key (length ts)))) ps all
begun_integer ts met w ps all m e fresh =
    let n = length ts in
    let t = leaf w (argument_key n) in
    let long : n + 1 ≡ length (ts ++ t ∷ []) = omega (arith, length-append ts (t ∷ [])) in
    let new : list_any (is_same_term t) met ≡ false = ap (list_any (is_same_term t)) m ∙ fresh w n (omega arith) in
    record {
      all_met = cond-false _ _ _ new ∙ ap (λ x. x ++ t ∷ []) m;
      is = append_assoc ts (t ∷ []) (argument_leaves (length (ts ++ t ∷ [])) (integers_of ps)) ∙ ap (λ k. ts ++ t ∷ argument_leaves k (integers_of ps)) (sym long) ∙ e;
      fresh = λ v k h. any-last (is_same_term (leaf v (argument_key k))) ts t (fresh v k (omega (arith, h, long))) (other_leaf v w k n (omega (arith, h, long)));
    }

pub begun_more : (ts met new_ts new_met : List Tree) (p : SsaParam) (ps : List SsaParam) (all : List Tree) → Begun ts met (p ∷ ps) all
    → new_ts ≡ argument_terms p.kind ts → new_met ≡ argument_met p.kind (length ts) met → Begun new_ts new_met ps all
begun_more ts met new_ts new_met p ps all b e f = by p.kind refl
  where
    by : (k : SsaParamKind) → p.kind ≡ k → Begun new_ts new_met ps all
    by (Pointer noalias) h =
        let is : ts ++ argument_leaves (length ts) (integers_of ps) ≡ all = rw h at b.is in
        let g : new_ts ≡ ts = rw h at e in
        let m : new_met ≡ met = rw h at f in
        rw (g, m) record { all_met = b.all_met; is = is; fresh = b.fresh }
    by (Integer w) h =
        let is : ts ++ leaf (bits_of w) (argument_key (length ts)) ∷ argument_leaves (length ts + 1) (integers_of ps) ≡ all = rw h at b.is in
        let g : new_ts ≡ ts ++ leaf (bits_of w) (argument_key (length ts)) ∷ [] = rw h at e in
        let m : new_met ≡ met_with met (leaf (bits_of w) (argument_key (length ts))) = rw h at f in
        rw (g, m) (begun_integer ts met (bits_of w) ps all b.all_met is b.fresh)

pub begun_terms : (ts met all : List Tree) → Begun ts met [] all → ts ≡ all
begun_terms ts met all b = sym (append-nil ts) ∙ b.is

pub begun_met : (ts met all : List Tree) → Begun ts met [] all → met ≡ all
begun_met ts met all b = b.all_met ∙ begun_terms ts met all b

-- ---- units

pub termed_none : (flags : List Bool) (first : ℕ) (units : List SsaUnit) (s : Terms) → Termed flags first units 0 s (terms_behind flags first [] s units)
termed_none flags first units s = record { is = refl }

take-more : {A : Type 0} (n : ℕ) (xs : List A) (x : A) → n < length xs → x ≡ get_or xs n x → take n xs ++ x ∷ [] ≡ take (n + 1) xs
take-more zero [] x h e = absurd (omega (arith, h))
take-more zero (y ∷ ys) x h e = ap (λ z. z ∷ []) e
take-more (suc n) [] x h e = absurd (omega (arith, h))
take-more (suc n) (y ∷ ys) x h e =
    let f : suc (n + 1) ≡ suc n + 1 = omega arith in
    ap (λ zs. y ∷ zs) (take-more n ys x (omega (arith, h)) e) ∙ ap (λ k. take k (y ∷ ys)) f

pub termed_more : (flags : List Bool) (first : ℕ) (units : List SsaUnit) (place : ℕ) (s new all : Terms) (u : SsaUnit) → Termed flags first units place s all → place < length units → u ≡ get_or units place u
    → new ≡ with_term s u (unit_term flags first (take place units) s u) → Termed flags first units (place + 1) new all
termed_more flags first units place s new all u t h e is =
    let f : suc place ≡ place + 1 = omega arith in
    let split : drop place units ≡ u ∷ drop (place + 1) units = drop-cons units place u h ∙ ap (λ x. x ∷ drop (suc place) units) (sym e) ∙ ap (λ k. u ∷ drop k units) f in
    record {
      is =
          ap (λ done. terms_behind flags first done new (drop (place + 1) units)) (sym (take-more place units u h e))
          ∙ ap (λ x. terms_behind flags first (take place units ++ u ∷ []) x (drop (place + 1) units)) is
          ∙ ap (λ us. terms_behind flags first (take place units) s us) (sym split)
          ∙ t.is;
    }

pub drop-end : {A : Type 0} (xs : List A) (n : ℕ) → length xs ≤ n → drop n xs ≡ []
drop-end [] zero h = refl
drop-end [] (suc n) h = refl
drop-end (x ∷ xs) zero h = absurd (omega (arith, h))
drop-end (x ∷ xs) (suc n) h = drop-end xs n (omega (arith, h))

pub termed_all : (flags : List Bool) (first : ℕ) (units : List SsaUnit) (place : ℕ) (s all : Terms) → Termed flags first units place s all → length units ≤ place → s ≡ all
termed_all flags first units place s all t h = ap (λ us. terms_behind flags first (take place units) s us) (sym (drop-end units place h)) ∙ t.is
