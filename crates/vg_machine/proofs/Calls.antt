-- Calls.
use Rattle.std.proofs.Common.{◌≡◌, ℕ, zero, suc, ◌+◌, ◌-◌, ◌*◌, ◌/◌, ◌^◌, ◌%◌, ◌≤◌, ◌<◌, List, [], ◌∷◌, ◌++◌, length, map, take, drop, replicate, slice_get, get_or, Option, Some, None, refl, sym, ap, subst, ◌∙◌, arith, length-append}
use Rattle.std.proofs.lemmas.List.{drop-replicate, length-take-le, take-take}
use Rattle.std.specs.Prelude.{slice_set}
use Rattle.std.specs.Option.{option_map_or}
use Rattle.vg_base.specs.Bits.{bits, bits_of_bytes, num}
use Rattle.vg_base.proofs.Bits.{length-bits}
use Rattle.vg_bits.specs.declared.register.Reg.{Reg}
use Rattle.vg_bits.proofs.BitLists.{num-append, take-bits}
use Rattle.vg_bits.proofs.ByteLists.{bits_of_bytes-append, bits_of_bytes-zero, take-bits_of_bytes}
use Rattle.vg_pmean.specs.Applied.{answer, given}
use Rattle.vg_program.specs.Meaning.{register_bits}
use Rattle.vg_catalog.specs.Called.{called_by, imm_number, numbers_given}
use Rattle.vg_machine.specs.ReadyInstance.{ReadyInstance, Instances, DoesCall}

pub num_zeros : (n : ℕ) → num (replicate n 0) ≡ 0
unfolding num
num_zeros zero = refl
num_zeros (suc n) = omega (arith, num_zeros n)

-- bytes in front of zeros have their number
pub widened_number : (from : List ℕ) → num (bits_of_bytes (from ++ drop (length from) (replicate 64 0))) ≡ num (bits_of_bytes from)
widened_number from =
    let k = length from in
    let z : List ℕ = replicate (8 * (64 - k)) 0 in
    ap (λ (r : List ℕ). num (bits_of_bytes (from ++ r))) (drop-replicate k 64 0)
    ∙ ap num (bits_of_bytes-append from (replicate (64 - k) 0) ∙ ap (λ (r : List ℕ). bits_of_bytes from ++ r) (bits_of_bytes-zero (64 - k)))
    ∙ num-append (bits_of_bytes from) z
    ∙ ap (λ (n : ℕ). num (bits_of_bytes from) + 2 ^ length (bits_of_bytes from) * n) (num_zeros (8 * (64 - k)))
    ∙ omega arith

pub low_bytes : (size : ℕ) (bs : List ℕ) → size ≤ length bs → bits_of_bytes (take size bs) ≡ take (8 * size) (bits_of_bytes bs)
low_bytes size bs fits = sym (take-bits_of_bytes size bs fits)

abbrev number_in : Reg 64 → ℕ
number_in r = num (bits_of_bytes r.bytes)

-- at most four arguments
pub four_are : (f : ℕ → ℕ) (rs : List ℕ) (a b c d : Reg 64) → length rs ≤ 4
    → number_in a ≡ option_map_or f (slice_get rs 0) 0 → number_in b ≡ option_map_or f (slice_get rs 1) 0
    → number_in c ≡ option_map_or f (slice_get rs 2) 0 → number_in d ≡ option_map_or f (slice_get rs 3) 0
    → map (λ (p : Reg 64). num (bits_of_bytes p.bytes)) (take (length rs) (a ∷ b ∷ c ∷ d ∷ [])) ≡ map f rs
four_are f [] a b c d few p q r s = refl
four_are f (v ∷ []) a b c d few p q r s = λ i. p i ∷ []
four_are f (v ∷ w ∷ []) a b c d few p q r s = λ i. p i ∷ q i ∷ []
four_are f (v ∷ w ∷ x ∷ []) a b c d few p q r s = λ i. p i ∷ q i ∷ r i ∷ []
four_are f (v ∷ w ∷ x ∷ y ∷ []) a b c d few p q r s = λ i. p i ∷ q i ∷ r i ∷ s i ∷ []
four_are f (v ∷ w ∷ x ∷ y ∷ z ∷ more) a b c d few p q r s = absurd (omega (arith, few))

pub map-length : {A B : Type 0} (f : A → B) (l : List A) → length (map f l) ≡ length l
map-length f [] = refl
map-length f (x ∷ xs) = ap suc (map-length f xs)

map-twice : {A B C : Type 0} (f : B → C) (g : A → B) (l : List A) → map f (map g l) ≡ map (λ x. f (g x)) l
map-twice f g [] = refl
map-twice f g (x ∷ xs) = ap (λ t. f (g x) ∷ t) (map-twice f g xs)

-- what a call gives
pub call_is : (i : Instances) (place : ℕ) (name rs : List ℕ) (vs : List (List ℕ)) (imm : Option ℕ) (width n : ℕ) (params : List (Reg 64)) (made : Reg 64)
    → DoesCall i place name (length rs) imm width → n ≡ imm_number imm
    → map (λ (p : Reg 64). num (bits_of_bytes p.bytes)) params ≡ map (λ v. num (register_bits vs v)) rs
    → ((k : ReadyInstance) → slice_get i.kept place ≡ Some k → bits_of_bytes made.bytes ≡ bits 512 (num (answer k.ready n (given params n))))
    → take (8 * (width / 8)) (bits_of_bytes made.bytes) ≡ called_by i.entries name (map (λ v. register_bits vs v) rs) imm
call_is i place name rs vs imm width n params made does e nums by =
    let taken = map (λ v. register_bits vs v) rs in
    let numbers : given params n ≡ numbers_given taken imm = λ j. (nums ∙ sym (map-twice num (λ v. register_bits vs v) rs)) j ++ e j ∷ [] in
    let result : bits_of_bytes made.bytes ≡ bits 512 (num (answer does.instance.ready (imm_number imm) (numbers_given taken imm))) =
    by does.instance does.there ∙ (λ j. bits 512 (num (answer does.instance.ready (e j) (numbers j)))) in
    let split : 512 ≡ width + (512 - width) = omega (arith, does.most) in
    ap (λ (m : ℕ). take m (bits_of_bytes made.bytes)) does.whole
    ∙ ap (take width) result
    ∙ ap (λ (m : ℕ). take width (bits m (num (answer does.instance.ready (imm_number imm) (numbers_given taken imm))))) split
    ∙ take-bits width (512 - width) _
    ∙ sym (does.same taken (map-length (λ v. register_bits vs v) rs))

-- one item changed, which is mapped to the same
pub map-set : {A B : Type 0} (f : A → B) (xs : List A) (k : ℕ) (d y : A) → k < length xs → f y ≡ f (get_or xs k d) → map f (slice_set xs k y) ≡ map f xs
map-set f [] k d y lt same = absurd (omega (arith, lt))
map-set f (z ∷ xs) zero d y lt same = ap (λ b. b ∷ map f xs) same
map-set f (z ∷ xs) (suc k) d y lt same = ap (λ bs. f z ∷ bs) (map-set f xs k d y (omega (arith, lt)) same)

-- an item of a mapped list
pub map-within : {A B : Type 0} (f : A → B) (xs : List A) (k : ℕ) (b : B) → slice_get (map f xs) k ≡ Some b → k < length xs
map-within f [] k b at = absurd cc
map-within f (z ∷ xs) zero b at = omega arith
map-within f (z ∷ xs) (suc k) b at = let lt = map-within f xs k b at in omega (arith, lt)

-- a register that is not there has no bits
none_there : (vs : List (List ℕ)) (v : ℕ) → length vs ≤ v → register_bits vs v ≡ []
none_there [] v past = refl
none_there (r ∷ vs) zero past = absurd (omega (arith, past))
none_there (r ∷ vs) (suc v) past = none_there vs v (omega (arith, past))

past-end : {A : Type 0} (xs : List A) (k : ℕ) → length xs ≤ k → slice_get xs k ≡ None
past-end [] k past = refl
past-end (x ∷ xs) zero past = absurd (omega (arith, past))
past-end (x ∷ xs) (suc k) past = past-end xs k (omega (arith, past))

no_bits : num [] ≡ 0
unfolding num
no_bits = refl

pub number_none : (l : List ℕ) (vs : List (List ℕ)) (v : ℕ) → l ≡ replicate 512 0 → length vs ≤ v → num l ≡ num (register_bits vs v)
number_none l vs v e past = ap num e ∙ num_zeros 512 ∙ sym no_bits ∙ sym (ap num (none_there vs v past))

pub argument_none : (l : List ℕ) (f : ℕ → ℕ) (rs : List ℕ) (at : ℕ) → l ≡ replicate 512 0 → length rs ≤ at → num l ≡ option_map_or f (slice_get rs at) 0
argument_none l f rs at e past = subst (λ (o : Option ℕ). num l ≡ option_map_or f o 0) (sym (past-end rs at past)) (ap num e ∙ num_zeros 512)
