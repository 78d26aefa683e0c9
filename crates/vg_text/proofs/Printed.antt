-- What std prints of a number is read as that number.
use Rattle.std.proofs.Common.{◌≡◌, ℕ, ◌+◌, ◌*◌, ◌/◌, ◌%◌, ◌^◌, ◌<◌, ◌≤◌, true, List, [], ◌∷◌, ◌++◌, length, Some, refl, ◌∙◌, ap, arith, length-append}
use Rattle.std.specs.Fmt.{decimal}
use Rattle.std.specs.List.{list_all}
use Rattle.std.proofs.lemmas.Bool.{and_parts, and_from, not_from_false, ne_eqb, le-leb, lt-leb, lt-ltb, cond-true, cond-false}
use Rattle.std.proofs.lemmas.Fmt.{decimal_by_steps_wide}
use Rattle.vg_text.specs.Byte.{is_digit}
use Rattle.vg_text.specs.Number.{digit_value, value_from, value_in, decimal_value}

-- a digit is one, and stands for its number
digit : (n : ℕ) → n < 10 → (is_digit (48 + n) ≡ true) × (digit_value (48 + n) ≡ n)
digit n h = (
  and_from _ _ (le-leb 48 (48 + n) (omega arith)) (le-leb (48 + n) 57 (omega arith)),
  cond-false _ _ _ (lt-leb 97 (48 + n) (omega arith)) ∙ cond-false _ _ _ (lt-leb 65 (48 + n) (omega arith)) ∙ omega arith,
)

-- one digit more after others
value_from-append : (n : ℕ) (ds : List ℕ) (d : ℕ) → value_from 10 n (ds ++ d ∷ []) ≡ value_from 10 n ds * 10 + digit_value d
unfolding value_from
value_from-append n [] d = refl
value_from-append n (x ∷ xs) d = value_from-append (n * 10 + digit_value x) xs d

list_all-append : (ds : List ℕ) (d : ℕ) → list_all is_digit ds ≡ true → is_digit d ≡ true → list_all is_digit (ds ++ d ∷ []) ≡ true
list_all-append [] d all h = and_from _ _ h refl
list_all-append (x ∷ xs) d all h =
    let both = and_parts (is_digit x) (list_all is_digit xs) all in
    and_from _ _ both.0 (list_all-append xs d both.1 h)

-- this text spells this number
record Reads (n : ℕ) (ds : List ℕ) : Type 0 where
  digits : list_all is_digit ds ≡ true
  some : 0 < length ds
  value : value_in 10 ds ≡ n

reads_one : (n : ℕ) → n < 10 → Reads n ((48 + n) ∷ [])
unfolding value_from
reads_one n h =
    let d = digit n h in
    let value : 0 * 10 + digit_value (48 + n) ≡ n = omega (arith, d.1) in
    record { digits = and_from _ _ d.0 refl; some = omega arith; value = value }

reads_more : (n : ℕ) (ds : List ℕ) → 10 ≤ n → Reads (n / 10) ds → Reads n (ds ++ ((48 + n % 10) ∷ []))
reads_more n ds h r =
    let d = digit (n % 10) (omega arith) in
    record {
      digits = list_all-append ds (48 + n % 10) r.digits d.0;
      some = omega (arith, length-append ds ((48 + n % 10) ∷ []));
      value = omega (arith, value_from-append 0 ds (48 + n % 10), d.1, r.value);
    }

-- what is printed of a number below 2 ^ 128 is read as it
pub decimal_value-decimal : (n : ℕ) → n < 2 ^ 128 → decimal_value (decimal n) ≡ Some n
unfolding decimal_value
decimal_value-decimal n h =
    let r = decimal_by_steps_wide Reads reads_one reads_more n (omega arith) in
    let text = decimal n in
    let some : length text ≡ 0 → ⊥ = λ none. omega (arith, none, r.some) in
    let small : value_in 10 text < 2 ^ 128 = omega (arith, r.value, h) in
    cond-true _ _ _ (and_from _ _ (and_from _ _ (not_from_false _ (ne_eqb (length text) 0 some)) r.digits) (lt-ltb (value_in 10 text) (2 ^ 128) small)) ∙ ap Some r.value
