-- What the values of parameters are.
use Rattle.std.proofs.Common.{◌≡◌, ℕ, suc, ◌-◌, ◌%◌, ◌^◌, ◌<◌, Bool, true, false, cond, List, [], ◌∷◌, ◌++◌, length, get_or, drop, map, Option, Some, None, refl, sym, ◌∙◌, ap, subst, arith, nat_lt, nat_le}
use Rattle.std.specs.List.{find, count_by, AllZip}
use Rattle.std.specs.Option.{option_map, option_and_then}
use Rattle.std.specs.Str.{bytes_eq}
use Rattle.std.proofs.lemmas.List.{drop_more}
use Rattle.std.proofs.lemmas.Grind.{common_steps}
use Rattle.std.proofs.lemmas.Nat.{pow_pos}
use Rattle.vg_base.specs.Width.{bits_of}
use Rattle.vg_base.specs.declared.width.Width.{Width}
use Rattle.vg_program.specs.declared.param.Param.{Param}
use Rattle.vg_program.specs.declared.param_kind.ParamKind.{ParamKind}
use Rattle.vg_program.specs.declared.param_kind.ParamKind.TheVariants.{Pointer, Integer}
use Rattle.vg_program.specs.Params.{pointers, integers, is_integer_kind, kind_bits}
use Rattle.vg_request.specs.declared.binding.Bound.{Bound}
use Rattle.vg_request.specs.Binding.{Signed, Binding, binding_seen, signed_number}
use Rattle.vg_top.specs.Inputs.{FitParams, number_of, integer_of, value_of, param_value, values, is_asked, asked}

-- the first that passes, seen through a function
pub find_seen : {X Y : Type 0} (test : Y → Bool) (f : X → Y) (xs : List X) → find test (map f xs) ≡ option_map f (find (λ x. test (f x)) xs)
find_seen test f [] = refl
find_seen test f (x ∷ xs) = elim (test (f x)) as (λ b. cond b (Some (f x)) (find test (map f xs)) ≡ option_map f (cond b (Some x) (find (λ y. test (f y)) xs))) [ true ↦ refl | false ↦ find_seen test f xs ]

-- the number of a name that one word binds is that of the first word that does
pub number_once : (bs : List Bound) (name : List ℕ) (n : ℕ) (o : Option Bound) → n ≡ count_by (λ b. bytes_eq b.name name) (map binding_seen bs) → n ≡ 1 → o ≡ find (λ b. bytes_eq b.name.now name) bs
    → option_map (λ b. signed_number b.number) o ≡ number_of (map binding_seen bs) name
number_once bs name n o counted once found = rw (sym counted, once, find_seen (λ b. bytes_eq b.name name) binding_seen bs, sym found) (twice o)
  where
    twice : (q : Option Bound) → option_map (λ b. signed_number b.number) q ≡ option_map (λ b. b.number) (option_map binding_seen q)
    twice None = refl
    twice (Some b) = refl

-- a parameter with no value leaves none
pub value_none : (bs : List Binding) (before : List ℕ) (b : Bool) (ps : List Param) (i : ℕ) (p : Param) → i < length ps → p ≡ get_or ps i p → is_asked b p.kind ≡ true → param_value bs p ≡ None
    → option_map (λ vs. before ++ vs) (values bs (asked b (drop i ps))) ≡ None
value_none bs before b ps i p inside at asks none = rw (drop_more ps i p inside, sym at, asks, none) refl

-- the first value and the others
parts : (o : Option ℕ) (r : Option (List ℕ)) (vs : List ℕ) → option_and_then (λ v. option_map (λ us. v ∷ us) r) o ≡ Some vs → (v : ℕ) × (us : List ℕ) × (o ≡ Some v) × (r ≡ Some us) × (v ∷ us ≡ vs)
parts None r vs e = absurd (cc)
parts (Some v) None vs e = absurd (cc)
parts (Some v) (Some us) vs e = (v, us, refl, refl, cc)

-- one value for each parameter
values-length : (bs : List Binding) (ps : List Param) (vs : List ℕ) → values bs ps ≡ Some vs → length vs ≡ length ps
values-length bs [] vs e = let k : [] ≡ vs = cc in ap length (sym k)
values-length bs (p ∷ ps) vs e =
    let k = parts (param_value bs p) (values bs ps) vs e in
    let h : length k.1 ≡ length ps = values-length bs ps k.1 k.3 in
    ap length (sym k.4) ∙ ap (λ n. suc n) h

-- an integer is in its range
rest_below : (b : Bool) (x m v : ℕ) → 0 < m → (cond b (Some (x % m)) None) ≡ Some v → v < m
rest_below true x m v above e = let k : x % m ≡ v = cc in omega arith
rest_below false x m v above e = absurd (cc)

test_below : (d m v : ℕ) → (cond (nat_lt d m) (Some d) None) ≡ Some v → v < m
test_below d m v e = grind (arith, common_steps)

integer_below : (w : ℕ) (negative : Bool) (d v : ℕ) → integer_of w (record { negative = negative; distance = d }) ≡ Some v → v < 2 ^ w
integer_below w true d v e = rest_below (nat_le d (2 ^ (w - 1))) (2 ^ w - d) (2 ^ w) v (pow_pos w) e
integer_below w false d v e = test_below d (2 ^ w) v e

value_below : (w : Width) (o : Option Signed) (v : ℕ) → option_and_then (value_of (Integer w)) o ≡ Some v → v < 2 ^ bits_of w
value_below w None v e = absurd (cc)
value_below w (Some n) v e = integer_below (bits_of w) n.negative n.distance v e

abbrev Fits : Param → ℕ → Type 0
Fits p n = n < 2 ^ kind_bits p.kind

kind_below : (k : ParamKind) (o : Option Signed) (v : ℕ) → is_integer_kind k ≡ true → option_and_then (value_of k) o ≡ Some v → v < 2 ^ kind_bits k
kind_below Pointer o v is e = absurd (cc)
kind_below (Integer w) o v is e = value_below w o v e

kept : (p : Param) (ps : List Param) → is_integer_kind p.kind ≡ true → integers (p ∷ ps) ≡ p ∷ integers ps
kept p ps is = rw is refl

passed : (p : Param) (ps : List Param) → is_integer_kind p.kind ≡ false → integers (p ∷ ps) ≡ integers ps
passed p ps is = rw is refl

args_fit : (bs : List Binding) (ps : List Param) (vs : List ℕ) → values bs (integers ps) ≡ Some vs → AllZip Fits (integers ps) vs
args_fit bs [] [] e = tt
args_fit bs [] (v ∷ vs) e = absurd (cc)
args_fit bs (p ∷ ps) vs e = by_test (is_integer_kind p.kind) refl (λ us h. args_fit bs ps us h)
  where
    by_test : (b : Bool) → is_integer_kind p.kind ≡ b → ((us : List ℕ) → values bs (integers ps) ≡ Some us → AllZip Fits (integers ps) us) → AllZip Fits (integers (p ∷ ps)) vs
    by_test true is others =
        let k = parts (param_value bs p) (values bs (integers ps)) vs (ap (values bs) (sym (kept p ps is)) ∙ e) in
        let first : Fits p k.0 = kind_below p.kind _ k.0 is k.2 in
        subst (λ l. AllZip Fits l vs) (sym (kept p ps is)) (subst (λ l. AllZip Fits (p ∷ integers ps) l) k.4 (first, others k.1 k.3))
    by_test false is others = subst (λ l. AllZip Fits l vs) (sym (passed p ps is)) (others vs (ap (values bs) (sym (passed p ps is)) ∙ e))

-- what the parameters' values fit
pub values_fit : (bs : List Binding) (ps : List Param) (places args : List ℕ) → Some places ≡ values bs (pointers ps) → Some args ≡ values bs (integers ps) → FitParams ps (record { places = places; args = args })
values_fit bs ps places args p a = record {
  places = values-length bs (pointers ps) places (sym p);
  arg_count = values-length bs (integers ps) args (sym a);
  args = args_fit bs ps args (sym a);
}
