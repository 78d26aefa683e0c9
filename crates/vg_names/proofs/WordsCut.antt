-- The words of a text, read one after the other: each number among them is below 2 ^ 127.
use Rattle.std.proofs.Common.{◌≡◌, ℕ, zero, suc, ◌+◌, ◌-◌, ◌^◌, ◌<◌, Bool, true, false, not, List, [], ◌∷◌, ◌++◌, length, Option, Some, None, Result, Ok, take, drop, slice_range, refl, sym, ◌∙◌, ap, subst, arith}
use Rattle.std.specs.Prelude.{◌&&◌, ◌||◌, ◌==◌, nat_lt, codes, if◌then◌else◌}
use Rattle.std.specs.List.{list_all}
use Rattle.std.proofs.lemmas.Bool.{and_parts}
use Rattle.std.proofs.lemmas.List.{take_at, drop_at, drop-drop}
use Rattle.vg_text.specs.declared.place.Place.{Place}
use Rattle.vg_text.specs.declared.lexer.Lexer.{Lexer}
use Rattle.vg_text.specs.declared.token.Token.{Token}
use Rattle.vg_text.specs.declared.token.TokenKind.{TokenKind}
use Rattle.vg_text.specs.declared.token.TokenKind.TheVariants.{Name, Number, Sign, End}
use Rattle.vg_text.specs.Byte.{is_letter, is_digit, is_printable, is_pair, begins_digit, is_name_text}
use Rattle.vg_text.specs.Number.{value_in, is_decimal, decimal_value}
use Rattle.vg_text.specs.Place.{place_after, end_place}
use Rattle.vg_text.specs.Token.{Lexemes, token, finish, fault}
use Rattle.vg_text.specs.Cut.{Spells, tens, sixteens, IsLexeme, IsSign, Cuts}
use Rattle.vg_text.specs.Lexing.{reading}
use Rattle.vg_text.specs.Words.{Reading, Spelled, spelled, word_at, word_from}
use Rattle.vg_text.proofs.Cutting.{cuts}
use Rattle.vg_pseudo.specs.Words.{number_of}
use Rattle.vg_pseudo.specs.Grammar.{Words, Stand}
use Rattle.vg_pseudo_laws.proofs.WordsAgain.{not_text, number-begins}
use Rattle.vg_names.specs.Reading.{IsCut}

-- ---- the number of a word

-- a number that a word spells is that of a text
abbrev pub Small : List ℕ → Type 0
Small bytes = (n : ℕ) → number_of bytes ≡ Some n → n < 2 ^ 127

no_digit-small : (bytes : List ℕ) → begins_digit bytes ≡ false → Small bytes
no_digit-small bytes h n e = absurd (let d = number-begins bytes n e in cc)

letter-no_digit : (b : ℕ) → is_letter b ≡ true → is_digit b ≡ false
letter-no_digit b h = grind arith

abbrev some_number : ℕ → Option ℕ
some_number n = Some n

same_number : {a b : ℕ} → some_number a ≡ some_number b → a ≡ b
same_number e = cc

fits-small : (b : Bool) (v n : ℕ) → v < 2 ^ 127 → (if b then some_number v else None) ≡ Some n → n < 2 ^ 127
fits-small true v n h e = subst (λ k. k < 2 ^ 127) (same_number e) h
fits-small false v n h e = absurd (cc)

all-front : (n : ℕ) (ds : List ℕ) → list_all is_digit ds ≡ true → list_all is_digit (take n ds) ≡ true
all-front zero [] h = refl
all-front zero (d ∷ ds) h = refl
all-front (suc n) [] h = refl
all-front (suc n) (d ∷ ds) h = rw ((and_parts (is_digit d) (list_all is_digit ds) h).0) (all-front n ds (and_parts (is_digit d) (list_all is_digit ds) h).1)

spells-small : (lexeme behind : List ℕ) (m : ℕ) → Spells lexeme behind m → m < 2 ^ 127 → Small lexeme
unfolding decimal_value
spells-small _ _ _ (tens digits behind dec stops other) h n e =
    let all = all-front 2 digits (and_parts (not (length digits == 0)) (list_all is_digit digits) dec).1 in
    let is = not_text (list_all is_digit) (take 2 digits) (codes "0x") all refl in
    fits-small (is_decimal digits && nat_lt (value_in 10 digits) (2 ^ 128)) (value_in 10 digits) n h (rw is at e)
spells-small _ _ _ (sixteens digits behind hex stops) h n e =
    fits-small (nat_lt (value_in 16 digits) (2 ^ 128)) (value_in 16 digits) n h e

name-small : (lexeme : List ℕ) → is_name_text lexeme ≡ true → Small lexeme
name-small [] h = absurd (cc)
name-small (b ∷ bs) h = no_digit-small (b ∷ bs) (letter-no_digit b (and_parts (is_letter b) _ h).0)

single-no_digit : (b : ℕ) → (is_printable b && not (is_letter b || is_digit b)) ≡ true → is_digit b ≡ false
single-no_digit b h = neither (is_letter b) (is_digit b) (and_parts (is_printable b) (not (is_letter b || is_digit b)) h).1
  where
    neither : (l d : Bool) → not (l || d) ≡ true → d ≡ false
    neither true d e = absurd (cc)
    neither false true e = absurd (cc)
    neither false false e = refl

pair-no_digit : (b c : ℕ) → is_pair b c ≡ true → is_digit b ≡ false
pair-no_digit b c h = grind arith

sign-small : (lexeme behind : List ℕ) → IsSign lexeme behind → Small lexeme
sign-small [] behind h = absurd h
sign-small (b ∷ []) behind h = no_digit-small (b ∷ []) (single-no_digit b h.0)
sign-small (b ∷ c ∷ []) behind h = no_digit-small (b ∷ c ∷ []) (pair-no_digit b c h)
sign-small (b ∷ c ∷ d ∷ more) behind h = absurd h

lexeme-small : (kind : TokenKind) (lexeme behind : List ℕ) → IsLexeme kind lexeme behind → Small lexeme
lexeme-small Name lexeme behind h = name-small lexeme h.0
lexeme-small Number lexeme behind h = spells-small lexeme behind h.0 h.1 h.2
lexeme-small Sign lexeme behind h = sign-small lexeme behind h
lexeme-small End lexeme behind h = absurd h

-- ---- words one after the other

nothing-small : Small []
unfolding decimal_value
nothing-small n e = absurd (cc)

-- the bytes of a token, and what stands after it
abbrev Bytes : List ℕ → Token → List ℕ → List ℕ → Type 0
Bytes text t lexeme behind = (slice_range text t.start t.end ≡ lexeme) × (drop t.end text ≡ behind)

token-bytes : (text gap lexeme behind : List ℕ) (at : ℕ) (t : Token) → drop at text ≡ gap ++ (lexeme ++ behind) → t.start ≡ at + length gap → t.end ≡ t.start + length lexeme
    → Bytes text t lexeme behind
token-bytes text gap lexeme behind at t e p q =
    let front : drop t.start text ≡ lexeme ++ behind =
    ap (λ n. drop n text) p ∙ sym (drop-drop (length gap) at text) ∙ ap (drop (length gap)) e ∙ drop_at gap (lexeme ++ behind) (length gap) refl in
    let size : t.end - t.start ≡ length lexeme = omega (arith, q) in (
      ap (λ xs. take (t.end - t.start) xs) front ∙ take_at lexeme behind (t.end - t.start) (sym size),
      ap (λ n. drop n text) q ∙ sym (drop-drop (length lexeme) t.start text) ∙ ap (drop (length lexeme)) front ∙ drop_at lexeme behind (length lexeme) refl,
    )

abbrev Worded : Type 0
Worded = Spelled × Reading

abbrev word_ok : Worded → Result Worded Place
word_ok x = Ok x

same_word : {a b : Worded} → word_ok a ≡ word_ok b → a ≡ b
same_word e = cc

-- what is left after a word of a text is cut too, and a number that the word spells is that of a text
abbrev Goes : Worded → Type 0
Goes x = IsCut x.1 × Small x.0.bytes

token-goes : (last p : Place) (at : ℕ) (text : List ℕ) (t : Token) (rest : Lexemes) → Cuts last at p (drop at text) (token t rest)
    → Goes (spelled text t, record { text = text; left = rest })
unfolding Cuts
token-goes last p at text t rest (gap, lexeme, behind, e, is_gap, is, stands, more) =
    let b = token-bytes text gap lexeme behind at t e stands.start stands.end in (
      (last, t.end, place_after t.place lexeme, rw b.1 more),
      rw b.0 (lexeme-small t.kind lexeme behind is),
    )

pub word-goes : (r q : Reading) (w : Spelled) → IsCut r → word_at r ≡ Ok (w, q) → IsCut q × Small w.bytes
word-goes r q w c e = by r.left c.3 e
  where
    by : (ls : Lexemes) → Cuts c.0 c.1 c.2 (drop c.1 r.text) ls → word_from r.text ls ≡ Ok (w, q) → Goes (w, q)
    by (token t rest) k e = subst Goes (same_word e) (token-goes c.0 c.2 c.1 r.text t rest k)
    by (finish t) k e = subst Goes (same_word e) ((c.0, c.1, c.2, k), nothing-small)
    by (fault p) k e = absurd (cc)

abbrev pub AllSmall : Words → Type 0
AllSmall [] = Unit {0}
AllSmall (w ∷ ws) = Small w.bytes × AllSmall ws

pub words-go : (ws : Words) (r q : Reading) → IsCut r → Stand ws r q → IsCut q × AllSmall ws
unfolding Stand
words-go [] r q c h = (subst IsCut h c, tt)
words-go (w ∷ ws) r q c (m, read, some, rest) =
    let one = word-goes r m w c read in
    let more = words-go ws m q one.0 rest in
    (more.0, (one.1, more.1))

pub lexer-cut : (l : Lexer) → IsCut (reading l)
lexer-cut l = (end_place l.text.now, l.at, l.place, cuts (end_place l.text.now) l.at l.place (drop l.at l.text.now))
