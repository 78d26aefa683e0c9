-- Words that bind parameters, and numbers, are text that does not begin with `-`.
use Rattle.std.proofs.Common.{◌≡◌, ℕ, suc, zero, ◌+◌, ◌<◌, Bool, true, false, List, [], ◌∷◌, length, take, drop, cond, Option, Some, None, refl, sym, ◌∙◌, subst, arith}
use Rattle.std.specs.Prelude.{◌==◌, ◌&&◌, not, nat_lt, nat_le, slice_index, if◌then◌else◌}
use Rattle.std.specs.List.{list_all}
use Rattle.std.specs.Option.{option_map}
use Rattle.std.specs.Str.{is_utf8}
use Rattle.std.proofs.lemmas.Bool.{and_parts, ltb-true}
use Rattle.std.proofs.lemmas.List.Sums.{AllPass-from_list_all}
use Rattle.std.proofs.lemmas.Str.{is_utf8-from_IsUtf8, IsUtf8-from_ascii}
use Rattle.std.proofs.lemmas.Str.Ascii.{IsAscii-from_all}
use Rattle.vg_text.specs.Byte.{is_letter, is_digit, is_name, is_name_text}
use Rattle.vg_text.specs.Number.{decimal_value, is_decimal}
use Rattle.vg_request.specs.Binding.{Signed, digits_of, signed_of, name_len, binding_of, is_binding}
use Rattle.vg_request.specs.Readable.{are_plain}
use Rattle.vg_request.specs.Request.{trial_number}
use Rattle.vg_request.specs.Word.{is_plain}

-- each byte is below 128
abbrev are_low : List ℕ → Bool
are_low bs = list_all (λ b. nat_lt b 128) bs

low_plain : (w : List ℕ) → (slice_index w 0 == 45) ≡ false → are_low w ≡ true → is_plain w ≡ true
low_plain w dash low =
    let is : is_utf8 w ≡ true = is_utf8-from_IsUtf8 w (IsUtf8-from_ascii w (IsAscii-from_all w (λ k d l. ltb-true _ 128 (AllPass-from_list_all (λ b. nat_lt b 128) w low k d l)))) in
    rw (dash, is) refl

digit_low : (b : ℕ) → is_digit b ≡ true → nat_lt b 128 ≡ true
digit_low b h = grind arith

digit_dash : (b : ℕ) → is_digit b ≡ true → (b == 45) ≡ false
digit_dash b h = grind arith

letter_dash : (b : ℕ) → is_letter b ≡ true → (b == 45) ≡ false
letter_dash b h = grind arith

name_byte : (b : ℕ) → is_name b ≡ true → nat_lt b 128 ≡ true
name_byte b h = grind arith

digits_low : (ds : List ℕ) → list_all is_digit ds ≡ true → are_low ds ≡ true
digits_low [] e = refl
digits_low (d ∷ ds) e =
    let all = and_parts (is_digit d) (list_all is_digit ds) e in
    rw (digit_low d all.0, digits_low ds all.1) refl

-- a number
test_held : (c d : Bool) (v n : ℕ) → (if c && d then Some v else None) ≡ Some n → c ≡ true
test_held true d v n e = refl
test_held false d v n e = cc

all_digits : (ds : List ℕ) (n : ℕ) → decimal_value ds ≡ Some n → list_all is_digit ds ≡ true
unfolding decimal_value
all_digits ds n e = (and_parts _ (list_all is_digit ds) (test_held (is_decimal ds) _ _ n e)).1

first_digit : (ds : List ℕ) → list_all is_digit ds ≡ true → (slice_index ds 0 == 45) ≡ false
first_digit [] e = refl
first_digit (d ∷ ds) e = digit_dash d (and_parts (is_digit d) (list_all is_digit ds) e).0

decimal_plain : (ds : List ℕ) (n : ℕ) → decimal_value ds ≡ Some n → is_plain ds ≡ true
decimal_plain ds n e =
    let all = all_digits ds n e in
    low_plain ds (first_digit ds all) (digits_low ds all)

pub trial_plain : (ds : List ℕ) (n : ℕ) → trial_number ds ≡ Some n → is_plain ds ≡ true
trial_plain ds n e = by (decimal_value ds) refl
  where
    by : (o : Option ℕ) → decimal_value ds ≡ o → is_plain ds ≡ true
    by None is =
        let bad : None ≡ Some n = rw is at e in
        cc
    by (Some m) is = decimal_plain ds m is

-- a number with its sign
few_low : (ds : List ℕ) → (digits_of ds ≡ None → ⊥) → are_low ds ≡ true
few_low ds some = by (nat_le (length ds) 20) refl (decimal_value ds) refl
  where
    by : (b : Bool) → nat_le (length ds) 20 ≡ b → (o : Option ℕ) → decimal_value ds ≡ o → are_low ds ≡ true
    by false few o is = absurd (some (rw few refl))
    by true few None is = absurd (some (rw (few, is) refl))
    by true few (Some n) is = digits_low ds (all_digits ds n is)

signed_low : (t : List ℕ) → (signed_of t ≡ None → ⊥) → are_low t ≡ true
signed_low [] some = refl
signed_low (x ∷ xs) some = by (x == 45) refl
  where
    dash_low : (x == 45) ≡ true → nat_lt x 128 ≡ true
    dash_low e = grind arith

    by : (b : Bool) → (x == 45) ≡ b → are_low (x ∷ xs) ≡ true
    by true is = rw (dash_low is, few_low xs (λ none. some (rw (is, none) refl))) refl
    by false is = few_low (x ∷ xs) (λ none. some (rw (is, none) refl))

-- a name
named : (t : List ℕ) → is_name_text t ≡ true → (list_all is_name t ≡ true) × ((slice_index t 0 == 45) ≡ false)
named [] e = cc
named (b ∷ bs) e =
    let front = and_parts (is_letter b) _ e in
    let behind = and_parts (list_all is_name bs) _ front.1 in
    (rw (front.0, behind.0) refl, letter_dash b front.0)

first_same : (n : ℕ) (w : List ℕ) → is_name_text (take n w) ≡ true → (slice_index w 0 == 45) ≡ false
first_same n [] e = refl
first_same zero (x ∷ xs) e = cc
first_same (suc n) (x ∷ xs) e = (named (x ∷ take n xs) e).1

-- the name, `=`, and what is after
all_low : (w : List ℕ) → name_len w < length w → list_all is_name (take (name_len w) w) ≡ true → are_low (drop (name_len w + 1) w) ≡ true → are_low w ≡ true
all_low [] h names rest = refl
all_low (x ∷ xs) h names rest = by (all_low xs) (not (x == 61)) refl h names rest
  where
    equals_low : not (x == 61) ≡ false → nat_lt x 128 ≡ true
    equals_low e = grind arith

    by : (name_len xs < length xs → list_all is_name (take (name_len xs) xs) ≡ true → are_low (drop (name_len xs + 1) xs) ≡ true → are_low xs ≡ true)
        → (b : Bool) → not (x == 61) ≡ b → cond b (1 + name_len xs) 0 < length (x ∷ xs) → list_all is_name (take (cond b (1 + name_len xs) 0) (x ∷ xs)) ≡ true
        → are_low (drop (cond b (1 + name_len xs) 0 + 1) (x ∷ xs)) ≡ true → are_low (x ∷ xs) ≡ true
    by others true is h names rest =
        let one : 1 + name_len xs ≡ suc (name_len xs) = omega arith in
        let two : 1 + name_len xs + 1 ≡ suc (name_len xs + 1) = omega arith in
        let all : list_all is_name (x ∷ take (name_len xs) xs) ≡ true = subst (λ k. list_all is_name (take k (x ∷ xs)) ≡ true) one names in
        let behind : are_low (drop (name_len xs + 1) xs) ≡ true = subst (λ k. are_low (drop k (x ∷ xs)) ≡ true) two rest in
        let parts = and_parts (is_name x) (list_all is_name (take (name_len xs) xs)) all in
        rw (name_byte x parts.0, others (omega (arith, h)) parts.1 behind) refl
    by others false is h names rest =
        let behind : are_low xs ≡ true = rest in
        rw (equals_low is, behind) refl

some_signed : (t : List ℕ) (n : Signed) → signed_of t ≡ Some n → signed_of t ≡ None → ⊥
some_signed t n some none =
    let bad : None ≡ Some n = sym none ∙ some in
    absurd (cc)

pub binding_plain : (w : List ℕ) → is_binding w ≡ true → is_plain w ≡ true
unfolding binding_of
binding_plain w e = by (nat_lt (name_len w) (length w)) refl (is_name_text (take (name_len w) w)) refl (signed_of (drop (name_len w + 1) w)) refl
  where
    by : (a : Bool) → nat_lt (name_len w) (length w) ≡ a → (b : Bool) → is_name_text (take (name_len w) w) ≡ b → (o : Option Signed) → signed_of (drop (name_len w + 1) w) ≡ o → is_plain w ≡ true
    by false inside b is o s =
        let bad : false ≡ true = rw inside at e in
        cc
    by true inside false is o s =
        let bad : false ≡ true = rw (inside, is) at e in
        cc
    by true inside true is None s =
        let bad : false ≡ true = rw (inside, is, s) at e in
        cc
    by true inside true is (Some n) s =
        let behind = drop (name_len w + 1) w in
        let name = named (take (name_len w) w) is in
        low_plain w (first_same (name_len w) w is) (all_low w (ltb-true (name_len w) (length w) inside) name.0 (signed_low behind (some_signed behind n s)))

pub bindings_plain : (ws : List (List ℕ)) → list_all is_binding ws ≡ true → are_plain ws ≡ true
bindings_plain [] e = refl
bindings_plain (w ∷ ws) e =
    let all = and_parts (is_binding w) (list_all is_binding ws) e in
    rw (binding_plain w all.0, bindings_plain ws all.1) refl
