-- The words of a text that is written item by item: white space, and a word of plain bytes or a number in decimal digits.
-- A text is cut into words from left to right, with no look at what stood before, so what is known of a piece of a text
-- holds of it wherever it stands.
use Rattle.std.proofs.Common.{◌≡◌, ℕ, zero, suc, ◌+◌, ◌-◌, ◌^◌, ◌<◌, ◌≤◌, Bool, true, false, not, ◌&&◌, ◌==◌, nat_lt, if◌then◌else◌, List, [], ◌∷◌, ◌++◌, length, take, drop, slice_index, Option, Some, None, refl, sym, ◌∙◌, ap, arith, append_assoc}
use Rattle.std.specs.Fmt.{decimal}
use Rattle.std.specs.List.{list_all, prefix_len}
use Rattle.std.specs.Option.{option_map}
use Rattle.std.proofs.lemmas.Bool.{and_parts, and_left, and_right, or_from, ne_eqb, eqb-true, leb-true, lt-leb, lt-ltb, cond-true, cond-false, not_from_true, eq-eqb}
use Rattle.std.proofs.lemmas.List.{take_at, drop-drop}
use Rattle.vg_text.specs.declared.place.Place.{Place}
use Rattle.vg_text.specs.declared.token.TokenKind.TheVariants.{Number}
use Rattle.vg_text.specs.declared.front.Front.{Front}
use Rattle.vg_text.specs.declared.front.Front.TheVariants.{Gap, Lexeme, Bad}
use Rattle.vg_text.specs.Byte.{is_white, is_digit, is_letter}
use Rattle.vg_text.specs.Number.{value_in, decimal_value, is_decimal}
use Rattle.vg_text.specs.Place.{first_place, end_place, place_behind, place_after}
use Rattle.vg_text.specs.Token.{Lexemes, from_front, front_of, lex, opens_comment, opens_hexadecimal}
use Rattle.vg_text.specs.Words.{Spelled}
use Rattle.vg_text.proofs.Printed.{decimal_value-decimal}
use Rattle.vg_kernel.specs.Script.{Words, script_from, script_of}

-- the bytes of a word at a place
abbrev pub word : List ℕ → Place → Spelled
word bytes p = record { bytes = bytes; place = p; is_end = false }

-- what a front makes of a text at this place, which goes on by `more`
abbrev by_front : Front → Place → List ℕ → (ℕ → Option Words) → Option Words
by_front (Gap n) p text more = more n
by_front (Lexeme kind n) p text more = option_map (λ ws. word (take n text) p ∷ ws) (more n)
by_front Bad p text more = None

-- the words of a text that begins at this place, of which so many bytes more are taken
unfoldable pub words_in : ℕ → Place → List ℕ → Option Words
words_in skip p [] = Some []
words_in (suc skip) p (b ∷ bs) = words_in skip (place_behind p b) bs
words_in zero p (b ∷ bs) = by_front (front_of (b ∷ bs)) p (b ∷ bs) (λ n. words_in (n - 1) (place_behind p b) bs)

-- a text without its first byte
behind : (text : List ℕ) (at b : ℕ) (bs : List ℕ) → drop at text ≡ b ∷ bs → drop (at + 1) text ≡ bs
behind text at b bs e = sym (drop-drop 1 at text) ∙ ap (drop 1) e

-- a front makes the same words of a text by its tokens
front-words : (text : List ℕ) (at : ℕ) (p : Place) (rest : List ℕ) (f : Front) (more : ℕ → Lexemes) (more' : ℕ → Option Words) → drop at text ≡ rest
    → ((n : ℕ) → script_from text (more n) ≡ more' n) → script_from text (from_front f at p more) ≡ by_front f p rest more'
unfolding script_from
front-words text at p rest (Gap n) more more' e same = same n
front-words text at p rest (Lexeme kind n) more more' e same =
    let len : at + n - at ≡ n = omega arith in
    rw (len, e, same n) refl
front-words text at p rest Bad more more' e same = refl

-- the words by the tokens of a text, from any byte of it on
tokens-words : (text : List ℕ) (z : Place) (skip at : ℕ) (p : Place) (rest : List ℕ) → drop at text ≡ rest → script_from text (lex z skip at p rest) ≡ words_in skip p rest
unfolding lex script_from words_in
tokens-words text z skip at p [] e = refl
tokens-words text z (suc skip) at p (b ∷ bs) e = tokens-words text z skip (at + 1) (place_behind p b) bs (behind text at b bs e)
tokens-words text z zero at p (b ∷ bs) e =
    front-words text at p (b ∷ bs) (front_of (b ∷ bs)) (λ n. lex z (n - 1) (at + 1) (place_behind p b) bs) (λ n. words_in (n - 1) (place_behind p b) bs) e
    (λ n. tokens-words text z (n - 1) (at + 1) (place_behind p b) bs (behind text at b bs e))

-- the words of a whole text
pub script_of-words : (text : List ℕ) → script_of text ≡ words_in 0 first_place text
script_of-words text = tokens-words text (end_place text) 0 0 first_place text refl

-- An item of a text: white space, and after it the bytes of a word, or a number in decimal digits.
pub data Item : Type 0 where
  plain : List ℕ → List ℕ → Item
  number : List ℕ → ℕ → Item

abbrev pub gap_of : Item → List ℕ
gap_of (plain gap bytes) = gap
gap_of (number gap n) = gap

abbrev pub bytes_of : Item → List ℕ
bytes_of (plain gap bytes) = bytes
bytes_of (number gap n) = decimal n

-- items in front of a text
abbrev pub written : List Item → List ℕ → List ℕ
written [] text = text
written (i ∷ is) text = gap_of i ++ (bytes_of i ++ written is text)

-- the place after an item
abbrev pub past : Place → Item → Place
past p i = place_after (place_after p (gap_of i)) (bytes_of i)

-- the place after items
abbrev pub past_all : Place → List Item → Place
past_all p [] = p
past_all p (i ∷ is) = past_all (past p i) is

-- the words of items
abbrev pub words_of : Place → List Item → Words
words_of p [] = []
words_of p (i ∷ is) = word (bytes_of i) (place_after p (gap_of i)) ∷ words_of (past p i) is

-- a front that is a word of so many bytes
abbrev pub is_word : Front → ℕ → Bool
is_word (Gap n) len = false
is_word (Lexeme kind n) len = n == len
is_word Bad len = false

-- a text that goes on with no digit, and not with the `x` of a hexadecimal number
abbrev pub ends_number : List ℕ → Bool
ends_number text = not (is_digit (slice_index text 0)) && not (slice_index text 0 == 120)

-- a word ends where its bytes end, before this text
abbrev pub ends : Item → List ℕ → Bool
ends (plain gap []) text = false
ends (plain gap (b ∷ bs)) text = list_all is_white gap && is_word (front_of (b ∷ (bs ++ text))) (length (b ∷ bs))
ends (number gap n) text = list_all is_white gap && ends_number text

-- each word of items ends where its bytes end, before this text
unfoldable pub end_all : List Item → List ℕ → Bool
end_all [] text = true
end_all (i ∷ is) text = ends i (written is text) && end_all is text

-- the numbers are small
abbrev pub IsSmall : Item → Type 0
IsSmall (plain gap bytes) = Unit {0}
IsSmall (number gap n) = n < 10000

abbrev pub AreSmall : List Item → Type 0
AreSmall [] = Unit {0}
AreSmall (i ∷ is) = IsSmall i × AreSmall is

-- white space in front of a text has no word
pub white-words : (p : Place) (gap text : List ℕ) → list_all is_white gap ≡ true → words_in 0 p (gap ++ text) ≡ words_in 0 (place_after p gap) text
unfolding words_in front_of place_after
white-words p [] text all = refl
white-words p (b ∷ bs) text all =
    let both = and_parts (is_white b) (list_all is_white bs) all in
    ap (λ (f : Front). by_front f p (b ∷ (bs ++ text)) (λ n. words_in (n - 1) (place_behind p b) (bs ++ text))) (cond-true (is_white b) _ _ both.0)
    ∙ white-words (place_behind p b) bs text both.1

-- bytes that are taken
taken-words : (p : Place) (bytes text : List ℕ) → words_in (length bytes) p (bytes ++ text) ≡ words_in 0 (place_after p bytes) text
unfolding words_in place_after
taken-words p [] text = refl
taken-words p (b ∷ bs) text = taken-words (place_behind p b) bs text

-- a word that ends where its bytes end
word-words : (p : Place) (b : ℕ) (bs text : List ℕ) (f : Front) → front_of (b ∷ (bs ++ text)) ≡ f → is_word f (length (b ∷ bs)) ≡ true
    → words_in 0 p (b ∷ (bs ++ text)) ≡ option_map (λ ws. word (b ∷ bs) p ∷ ws) (words_in 0 (place_after p (b ∷ bs)) text)
unfolding words_in place_after
word-words p b bs text (Gap n) e h = cc
word-words p b bs text (Lexeme kind n) e h =
    let same : n ≡ suc (length bs) = eqb-true n (suc (length bs)) h in
    let less : suc (length bs) - 1 ≡ length bs = omega arith in
    rw (e, same, less, taken-words (place_behind p b) bs text, take_at (b ∷ bs) text (suc (length bs)) refl) refl
word-words p b bs text Bad e h = cc

-- a digit is no other byte that a front looks for
digit_only : (d : ℕ) → is_digit d ≡ true → (is_white d ≡ false) × ((d == 47) ≡ false) × (is_letter d ≡ false) × ((d == 120) ≡ false)
digit_only d h =
    let both = and_parts _ _ h in
    let low : 48 ≤ d = leb-true 48 d both.0 in
    let high : d ≤ 57 = leb-true d 57 both.1 in (
      or_from _ _ (or_from _ _ (or_from _ _ (ne_eqb d 32 (λ e. omega arith)) (ne_eqb d 9 (λ e. omega arith))) (ne_eqb d 13 (λ e. omega arith))) (ne_eqb d 10 (λ e. omega arith)),
      ne_eqb d 47 (λ e. omega arith),
      or_from _ _ (and_left _ _ (lt-leb 97 d (omega arith))) (or_from _ _ (and_left _ _ (lt-leb 65 d (omega arith))) (ne_eqb d 95 (λ e. omega arith))),
      ne_eqb d 120 (λ e. omega arith),
    )

-- digits that end before a text
digits-run : (ds text : List ℕ) → list_all is_digit ds ≡ true → is_digit (slice_index text 0) ≡ false → prefix_len is_digit (ds ++ text) ≡ length ds
digits-run [] [] all stop = refl
digits-run [] (b ∷ bs) all stop = cond-false _ _ _ stop
digits-run (d ∷ ds) text all stop =
    let both = and_parts (is_digit d) (list_all is_digit ds) all in
    cond-true _ _ _ both.0 ∙ ap (λ n. 1 + n) (digits-run ds text both.1 stop) ∙ omega arith

-- no hexadecimal number opens with decimal digits that end before a text
no_hexadecimal : (d : ℕ) (ds text : List ℕ) → list_all is_digit ds ≡ true → (slice_index text 0 == 120) ≡ false → opens_hexadecimal (d ∷ (ds ++ text)) ≡ false
no_hexadecimal d [] text all stop = and_left _ _ (and_right (d == 48) _ stop)
no_hexadecimal d (e ∷ ds) text all stop = and_left _ _ (and_right (d == 48) _ ((digit_only e ((and_parts (is_digit e) (list_all is_digit ds) all).0)).3))

-- a text ends a number
ends_parts : (text : List ℕ) → ends_number text ≡ true → (is_digit (slice_index text 0) ≡ false) × ((slice_index text 0 == 120) ≡ false)
ends_parts text h =
    let both = and_parts (not (is_digit (slice_index text 0))) (not (slice_index text 0 == 120)) h in
    (no both.0, no both.1)
  where
    no : {b : Bool} → not b ≡ true → b ≡ false
    no {b = true} e = cc
    no {b = false} e = refl

-- decimal digits that make a small number are a front of their own
digits-front : (d : ℕ) (ds text : List ℕ) → list_all is_digit (d ∷ ds) ≡ true → value_in 10 (d ∷ ds) < 2 ^ 127 → ends_number text ≡ true → front_of (d ∷ (ds ++ text)) ≡ Lexeme Number (length (d ∷ ds))
unfolding front_of
digits-front d ds text all small h =
    let stop = ends_parts text h in
    let both = and_parts (is_digit d) (list_all is_digit ds) all in
    let only = digit_only d both.0 in
    let hex = no_hexadecimal d ds text both.1 stop.1 in
    let run = digits-run ds text both.1 stop.0 in
    let len : 1 + length ds ≡ suc (length ds) = omega arith in
    cond-false (is_white d) _ _ only.0 ∙ cond-false (opens_comment (d ∷ (ds ++ text))) _ _ (and_left _ _ only.1) ∙ cond-false (is_letter d) _ _ only.2
    ∙ cond-false (opens_hexadecimal (d ∷ (ds ++ text))) _ _ hex ∙ cond-true (is_digit d) _ _ both.0
    ∙ rw (run, len, take_at (d ∷ ds) text (suc (length ds)) refl) (cond-true (nat_lt (value_in 10 (d ∷ ds)) (2 ^ 127)) _ _ (lt-ltb _ _ small))

-- what is known of the digits of a number
record AreDigits (n : ℕ) (ds : List ℕ) : Type 0 where
  digits : list_all is_digit ds ≡ true
  value : value_in 10 ds ≡ n
  some : length ds ≡ 0 → ⊥

digits_of : (n : ℕ) (ds : List ℕ) → decimal_value ds ≡ Some n → AreDigits n ds
unfolding decimal_value
digits_of n ds e = by_test (is_decimal ds && nat_lt (value_in 10 ds) (2 ^ 128)) refl e
  where
    by_test : (t : Bool) → (is_decimal ds && nat_lt (value_in 10 ds) (2 ^ 128)) ≡ t → (if t then Some (value_in 10 ds) else None) ≡ Some n → AreDigits n ds
    by_test true h e =
        let outer = and_parts (is_decimal ds) _ h in
        let inner = and_parts (not (length ds == 0)) (list_all is_digit ds) outer.0 in
        record {
          digits = inner.1;
          value = cc;
          some = λ none. (let no : not (length ds == 0) ≡ false = not_from_true (length ds == 0) (eq-eqb (length ds) 0 none) in absurd (cc (no, inner.0)));
        }
    by_test false h e = cc

-- a number that ends before a text
number-words : (p : Place) (n : ℕ) (text : List ℕ) → n < 10000 → ends_number text ≡ true → words_in 0 p (decimal n ++ text) ≡ option_map (λ ws. word (decimal n) p ∷ ws) (words_in 0 (place_after p (decimal n)) text)
number-words p n text small h = by_digits (decimal n) (digits_of n (decimal n) (decimal_value-decimal n (omega arith)))
  where
    by_digits : (ds : List ℕ) → AreDigits n ds → words_in 0 p (ds ++ text) ≡ option_map (λ ws. word ds p ∷ ws) (words_in 0 (place_after p ds) text)
    by_digits [] are = absurd (are.some refl)
    by_digits (d ∷ ds) are =
        word-words p d ds text (Lexeme Number (length (d ∷ ds))) (digits-front d ds text are.digits (omega (arith, are.value)) h) (eq-eqb (suc (length ds)) (suc (length ds)) refl)

-- one item more
item-words : (p : Place) (i : Item) (text : List ℕ) → ends i text ≡ true → IsSmall i → words_in 0 p (gap_of i ++ (bytes_of i ++ text)) ≡ option_map (λ ws. word (bytes_of i) (place_after p (gap_of i)) ∷ ws) (words_in 0 (past p i) text)
item-words p (plain gap []) text h small = cc
item-words p (plain gap (b ∷ bs)) text h small =
    let both = and_parts (list_all is_white gap) _ h in
    white-words p gap (b ∷ (bs ++ text)) both.0 ∙ word-words (place_after p gap) b bs text (front_of (b ∷ (bs ++ text))) refl both.1
item-words p (number gap n) text h small =
    let both = and_parts (list_all is_white gap) _ h in
    white-words p gap (decimal n ++ text) both.0 ∙ number-words (place_after p gap) n text small both.1

-- words in front of the words that follow
abbrev pub before : Words → Option Words → Option Words
before ws more = option_map (λ behind. ws ++ behind) more

pub before-none : (o : Option Words) → o ≡ before [] o
before-none None = refl
before-none (Some ws) = refl

pub before-append : (ws vs : Words) (more : Option Words) → before ws (before vs more) ≡ before (ws ++ vs) more
before-append ws vs None = refl
before-append ws vs (Some more) = ap Some (sym (append_assoc ws vs more))

-- the words of items, before those of the text after them
pub items-words : (p : Place) (is : List Item) (text : List ℕ) → end_all is text ≡ true → AreSmall is → words_in 0 p (written is text) ≡ before (words_of p is) (words_in 0 (past_all p is) text)
unfolding end_all
items-words p [] text h small = before-none (words_in 0 p text)
items-words p (i ∷ is) text h small =
    let both = and_parts (ends i (written is text)) (end_all is text) h in
    item-words p i (written is text) both.0 small.0
    ∙ ap (option_map (λ ws. word (bytes_of i) (place_after p (gap_of i)) ∷ ws)) (items-words (past p i) is text both.1 small.1)
    ∙ before-append (word (bytes_of i) (place_after p (gap_of i)) ∷ []) (words_of (past p i) is) (words_in 0 (past_all p (i ∷ is)) text)
