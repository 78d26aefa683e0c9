-- Only the end of a text is of the kind of the end, and it is empty.
use Rattle.std.proofs.Common.{◌≡◌, ℕ, zero, suc, ◌+◌, ◌-◌, ◌^◌, nat_lt, nat_le, slice_index, take, drop, Bool, true, false, if◌then◌else◌, List, [], ◌∷◌, refl, arith, Ok, slice_range}
use Rattle.vg_text.specs.declared.token.Token.{Token}
use Rattle.vg_text.specs.declared.place.Place.{Place}
use Rattle.vg_text.specs.declared.token.TokenKind.TheVariants.{Name, Number, Sign}
use Rattle.vg_text.specs.declared.front.Front.{Front}
use Rattle.vg_text.specs.declared.front.Front.TheVariants.{Gap, Lexeme, Bad}
use Rattle.std.specs.List.{prefix_len}
use Rattle.vg_text.specs.Byte.{is_white, is_printable, is_letter, is_digit, is_hex_digit, is_name, in_comment, is_pair}
use Rattle.vg_text.specs.Number.{value_in}
use Rattle.vg_text.specs.Place.{place_behind}
use Rattle.vg_text.specs.Token.{Lexemes, token, finish, fault, from_front, front_of, Takes, opens_comment, opens_hexadecimal, name_front, hexadecimal_front, decimal_front, sign_front, lex}
use Rattle.vg_text.specs.Words.{EndsOnce, is_end, word_from}

-- a front is no end
abbrev pub IsNoEnd : Front → Type 0
IsNoEnd (Gap n) = Unit {0}
IsNoEnd (Lexeme kind n) = is_end kind ≡ false
IsNoEnd Bad = Unit {0}

name_no_end : (b : Bool) (n : ℕ) → IsNoEnd (if b then Lexeme Name n else Bad)
name_no_end true n = refl
name_no_end false n = tt

number_no_end : (b : Bool) (n : ℕ) → IsNoEnd (if b then Lexeme Number n else Bad)
number_no_end true n = refl
number_no_end false n = tt

sign_no_end : (b c : Bool) → IsNoEnd (if b then Lexeme Sign 2 else if c then Lexeme Sign 1 else Bad)
sign_no_end true c = refl
sign_no_end false true = refl
sign_no_end false false = tt

-- a chain of choices between fronts that are no end
chain_no_end : (white comment letter hexadecimal digit : Bool) (n : ℕ) (name hex decimal sign : Front) → IsNoEnd name → IsNoEnd hex → IsNoEnd decimal → IsNoEnd sign
    → IsNoEnd (if white then Gap 1 else if comment then Gap n else if letter then name else if hexadecimal then hex else if digit then decimal else sign)
chain_no_end true c l h d n name hex decimal sign p q r s = tt
chain_no_end false true l h d n name hex decimal sign p q r s = tt
chain_no_end false false true h d n name hex decimal sign p q r s = p
chain_no_end false false false true d n name hex decimal sign p q r s = q
chain_no_end false false false false true n name hex decimal sign p q r s = r
chain_no_end false false false false false n name hex decimal sign p q r s = s

pub front_of-no_end : (text : List ℕ) → IsNoEnd (front_of text)
unfolding front_of
front_of-no_end text =
    let name = 1 + prefix_len is_name (drop 1 text) in
    let decimal = 1 + prefix_len is_digit (drop 1 text) in
    let hexadecimal = 1 + prefix_len is_hex_digit (drop 3 text) in
    chain_no_end (is_white (slice_index text 0)) (opens_comment text) (is_letter (slice_index text 0)) (opens_hexadecimal text) (is_digit (slice_index text 0))
    (2 + prefix_len in_comment (drop 2 text)) (name_front text) (hexadecimal_front text) (decimal_front text) (sign_front text)
    (name_no_end (nat_le name 64) name)
    (number_no_end (nat_lt (value_in 16 (take hexadecimal (drop 2 text))) (2 ^ 127)) (2 + hexadecimal))
    (number_no_end (nat_lt (value_in 10 (take decimal text)) (2 ^ 127)) decimal)
    (sign_no_end (is_pair (slice_index text 0) (slice_index text 1)) (is_printable (slice_index text 0)))

ends-from_front : (f : Front) (at : ℕ) (p : Place) (more : ℕ → Lexemes) → IsNoEnd f → ((n : ℕ) → EndsOnce (more n)) → EndsOnce (from_front f at p more)
unfolding EndsOnce
ends-from_front (Gap n) at p more k h = h n
ends-from_front (Lexeme kind n) at p more k h = (k, h n)
ends-from_front Bad at p more k h = tt

pub lex-ends : (z : Place) (k at : ℕ) (p : Place) (text : List ℕ) → EndsOnce (lex z k at p text)
unfolding lex EndsOnce
lex-ends z k at p [] = (refl, refl)
lex-ends z (suc k) at p (b ∷ bs) = lex-ends z k (at + 1) (place_behind p b) bs
lex-ends z zero at p (b ∷ bs) = ends-from_front (front_of (b ∷ bs)) at p (λ n. lex z (n - 1) (at + 1) (place_behind p b) bs) (front_of-no_end (b ∷ bs)) (λ n. lex-ends z (n - 1) (at + 1) (place_behind p b) bs)

-- the word of a token that was taken
pub word_taken : (text : List ℕ) (left rest : Lexemes) (t : Token) → EndsOnce left → Takes left (Ok t) rest
    → word_from text left ≡ Ok (record { bytes = slice_range text t.start t.end; place = t.place; is_end = is_end t.kind }, record { text = text; left = rest })
unfolding EndsOnce
word_taken text (token u more) rest t ends taken = let same : t ≡ u = cc in rw (same, taken.1, ends.0) refl
word_taken text (finish u) rest t ends taken =
    let same : t ≡ u = cc in
    let none : u.end - u.start ≡ 0 = omega (arith, ends.1) in
    rw (same, taken.1, ends.0, none) refl
word_taken text (fault p) rest t ends taken = cc

-- the same, where the text is known under another name
pub word_taken_of : (text same : List ℕ) (left rest : Lexemes) (t : Token) → same ≡ text → EndsOnce left → Takes left (Ok t) rest
    → word_from text left ≡ Ok (record { bytes = slice_range same t.start t.end; place = t.place; is_end = is_end t.kind }, record { text = same; left = rest })
word_taken_of text same left rest t e ends taken = rw e (word_taken text left rest t ends taken)
