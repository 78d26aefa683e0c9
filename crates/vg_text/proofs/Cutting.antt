-- A text is cut into the tokens that `lex` finds in it. A front that is found fits the text: it is a gap, the bytes of
-- a token or a fault of it. So each step of `lex` cuts off one piece, and what it goes on with cuts the rest.
use Rattle.std.proofs.Common.{lit<, ◌==◌, ◌≡◌, ℕ, suc, ◌+◌, ◌-◌, ◌^◌, ◌<◌, ◌≤◌, Bool, true, false, not, ◌&&◌, nat_lt, nat_le, if◌then◌else◌, slice_index, slice_range, inr, take, drop, List, [], ◌∷◌, ◌++◌, length, refl, sym, ◌∙◌, ap, subst, arith, append_assoc, append-nil, length-append}
use Rattle.std.proofs.lemmas.Bool.{and_parts, and_from, and_right, or_from, not_from_false, cond_both, ltb-true, ltb-false, leb-true, leb-false, le-leb, eqb-true, ne_eqb}
use Rattle.std.proofs.lemmas.List.{take_at, drop_at, drop-drop, length-drop}
use Rattle.std.specs.List.{list_all, prefix_len}
use Rattle.vg_text.specs.declared.place.Place.{Place}
use Rattle.vg_text.specs.declared.token.Token.{Token}
use Rattle.vg_text.specs.declared.token.TokenKind.{TokenKind}
use Rattle.vg_text.specs.declared.token.TokenKind.TheVariants.{Name, Number, Sign}
use Rattle.vg_text.specs.declared.front.Front.{Front}
use Rattle.vg_text.specs.declared.front.Front.TheVariants.{Gap, Lexeme, Bad}
use Rattle.vg_text.specs.Byte.{is_white, is_printable, is_letter, is_digit, is_hex_digit, is_name, in_comment, is_pair}
use Rattle.vg_text.specs.Number.{value_in}
use Rattle.vg_text.specs.Place.{place_behind, place_after}
use Rattle.vg_text.specs.Token.{Lexemes, token, finish, fault, from_front, front_of, lex, opens_comment, opens_hexadecimal, comment_front, name_front, number_front, hexadecimal_front, decimal_front, sign_front}
use Rattle.vg_text.specs.Cut.{Stops, IsGap, nothing, white, comment, Spells, tens, sixteens, IsLexeme, IsFault, stray, long_name, large_number, Cuts, IsTokenOf}

-- the bytes of one kind at the front of a text, all that there are, and what stands after them
record IsRun (is : ℕ → Bool) (text run behind : List ℕ) : Type 0 where
  whole : text ≡ run ++ behind
  size : length run ≡ prefix_len is text
  all : list_all is run ≡ true
  stops : Stops is behind

run_from : (is : ℕ → Bool) (b : ℕ) (bs run behind : List ℕ) (v : Bool) → is b ≡ v → IsRun is bs run behind → (run behind : List ℕ) × IsRun is (b ∷ bs) run behind
run_from is b bs run behind true e r = (
  b ∷ run,
  behind,
  record {
    whole = ap (λ (xs : List ℕ). b ∷ xs) r.whole;
    size = rw e (omega (arith, r.size));
    all = rw e r.all;
    stops = r.stops;
  },
)
run_from is b bs run behind false e r = ([], b ∷ bs, record { whole = refl; size = rw e refl; all = refl; stops = e })

run_of : (is : ℕ → Bool) (text : List ℕ) → (run behind : List ℕ) × IsRun is text run behind
run_of is [] = ([], [], record { whole = refl; size = refl; all = refl; stops = tt })
run_of is (b ∷ bs) = let (run, behind, r) = run_of is bs in run_from is b bs run behind (is b) refl r

-- one gap after another
join : (g behind more rest : List ℕ) → behind ≡ more ++ rest → IsGap g behind → IsGap more rest → IsGap (g ++ more) rest
join g behind more rest e h k = elim h as (λ g behind h. behind ≡ more ++ rest → IsGap (g ++ more) rest) [
  | nothing behind ↦ λ e. k
  | white b gap behind is (next → ih) ↦ λ e. white b (gap ++ more) rest is (ih e)
  | comment inside gap behind all stops (next → ih) ↦ λ e.
      let same : gap ++ behind ≡ (gap ++ more) ++ rest = ap (λ (xs : List ℕ). gap ++ xs) e ∙ sym (append_assoc gap more rest) in
      rw (append_assoc inside gap more) (comment inside (gap ++ more) rest all (rw same at stops) (ih e))
] e

-- what a front says of the text at which it stands
abbrev Fits : Front → List ℕ → Type 0
Fits (Gap n) text = (gap behind : List ℕ) × (text ≡ gap ++ behind) × (length gap ≡ n) × (0 < n) × IsGap gap behind
Fits (Lexeme kind n) text = (lexeme behind : List ℕ) × (text ≡ lexeme ++ behind) × (length lexeme ≡ n) × (0 < n) × IsLexeme kind lexeme behind
Fits Bad text = IsFault text

fits_if : (c : Bool) (kind : TokenKind) (n : ℕ) (text : List ℕ) → (c ≡ true → Fits (Lexeme kind n) text) → (c ≡ false → IsFault text) → Fits (if c then Lexeme kind n else Bad) text
fits_if true kind n text good bad = good refl
fits_if false kind n text good bad = bad refl

fits_white : (b : ℕ) (bs : List ℕ) → is_white b ≡ true → Fits (Gap 1) (b ∷ bs)
fits_white b bs h = (b ∷ [], bs, refl, refl, lit< tt, white b [] bs h (nothing bs))

fits_comment : (b : ℕ) (bs : List ℕ) → opens_comment (b ∷ bs) ≡ true → Fits (comment_front (b ∷ bs)) (b ∷ bs)
fits_comment b [] h = let no : false ≡ true = (and_parts (b == 47) false h).1 in cc
fits_comment b (c ∷ cs) h =
    let (inside, behind, r) = run_of in_comment cs in
    let first = eqb-true b 47 (and_parts (b == 47) (c == 47) h).0 in
    let second = eqb-true c 47 (and_parts (b == 47) (c == 47) h).1 in
    let gap = rw (append-nil inside) at (comment inside [] behind r.all r.stops (nothing behind)) in
    rw (first, second) (47 ∷ 47 ∷ inside, behind, ap (λ (xs : List ℕ). 47 ∷ 47 ∷ xs) r.whole, omega (arith, r.size), omega arith, gap)

fits_name : (b : ℕ) (bs : List ℕ) → is_letter b ≡ true → Fits (name_front (b ∷ bs)) (b ∷ bs)
fits_name b bs h =
    let (run, behind, r) = run_of is_name bs in
    let len = 1 + prefix_len is_name bs in
    fits_if (nat_le len 64) Name len (b ∷ bs)
    (λ e. let few : length run ≤ 63 = omega (arith, leb-true len 64 e, r.size) in
    (b ∷ run, behind, ap (λ (xs : List ℕ). b ∷ xs) r.whole, omega (arith, r.size), omega arith, (and_from _ _ h (and_from _ _ r.all (le-leb (length run) 63 few)), r.stops)))
    (λ e. let many : 64 < length (b ∷ run) = omega (arith, leb-false len 64 e, r.size) in
    rw r.whole (long_name b run behind (and_from _ _ h r.all) r.stops many))

-- a list of one element more is not empty
is_some_length : (n : ℕ) → not (suc n == 0) ≡ true
is_some_length n = not_from_false _ (ne_eqb (suc n) 0 (λ e. omega arith))

-- a byte and a run after it are what is taken of a text
taken_run : (is : ℕ → Bool) (d : ℕ) (ds run behind : List ℕ) → IsRun is ds run behind → take (1 + prefix_len is ds) (d ∷ ds) ≡ d ∷ run
taken_run is d ds run behind r =
    let n = 1 + prefix_len is ds in
    ap (λ (xs : List ℕ). take n (d ∷ xs)) r.whole ∙ take_at (d ∷ run) behind n (omega (arith, r.size))

fits_number : (base : ℕ) (digits : List ℕ) (len : ℕ) (text lexeme behind : List ℕ) → text ≡ lexeme ++ behind → length lexeme ≡ len → 0 < len → Spells lexeme behind (value_in base digits)
    → Fits (number_front base digits len) text
fits_number base digits len text lexeme behind e size some spells =
    let n = value_in base digits in
    fits_if (nat_lt n (2 ^ 127)) Number len text
    (λ small. (lexeme, behind, e, size, some, (n, spells, ltb-true n (2 ^ 127) small)))
    (λ large. rw e (large_number lexeme behind n spells (ltb-false n (2 ^ 127) large)))

fits_hexadecimal : (text : List ℕ) → opens_hexadecimal text ≡ true → Fits (hexadecimal_front text) text
fits_hexadecimal [] h = let no : false ≡ true = (and_parts (0 == 48 && 0 == 120) (is_hex_digit 0) h).1 in cc
fits_hexadecimal (b ∷ []) h = let no : false ≡ true = (and_parts (b == 48 && 0 == 120) (is_hex_digit 0) h).1 in cc
fits_hexadecimal (b ∷ c ∷ []) h = let no : false ≡ true = (and_parts (b == 48 && c == 120) (is_hex_digit 0) h).1 in cc
fits_hexadecimal (b ∷ c ∷ d ∷ ds) h =
    let (run, behind, r) = run_of is_hex_digit ds in
    let len = 1 + prefix_len is_hex_digit ds in
    let front = and_parts (b == 48 && c == 120) (is_hex_digit d) h in
    let opening = and_parts (b == 48) (c == 120) front.0 in
    let first = eqb-true b 48 opening.0 in
    let second = eqb-true c 120 opening.1 in
    let spells : Spells (48 ∷ 120 ∷ d ∷ run) behind (value_in 16 (d ∷ run)) = sixteens (d ∷ run) behind (and_from _ _ (is_some_length (length run)) (and_from _ _ front.1 r.all)) r.stops in
    rw (first, second) (fits_number 16 (take len (d ∷ ds)) (2 + len) (48 ∷ 120 ∷ d ∷ ds) (48 ∷ 120 ∷ d ∷ run) behind (ap (λ (xs : List ℕ). 48 ∷ 120 ∷ d ∷ xs) r.whole)
    (omega (arith, r.size)) (omega arith) (rw (taken_run is_hex_digit d ds run behind r) spells))

fits_decimal : (b : ℕ) (bs : List ℕ) → opens_hexadecimal (b ∷ bs) ≡ false → is_digit b ≡ true → Fits (decimal_front (b ∷ bs)) (b ∷ bs)
fits_decimal b bs x h =
    let (run, behind, r) = run_of is_digit bs in
    let len = 1 + prefix_len is_digit bs in
    let spells = tens (b ∷ run) behind (and_from _ _ (is_some_length (length run)) (and_from _ _ h r.all)) r.stops (rw r.whole at x) in
    fits_number 10 (take len (b ∷ bs)) len (b ∷ bs) (b ∷ run) behind (ap (λ (xs : List ℕ). b ∷ xs) r.whole)
    (omega (arith, r.size)) (omega arith) (rw (taken_run is_digit b bs run behind r) spells)

-- no sign of two bytes ends in 0, which stands past the end of a text
pair-none : (b : ℕ) → is_pair b 0 ≡ false
pair-none b = or_from _ _ (or_from _ _ (and_right _ _ refl) (and_right _ _ refl)) (and_right _ _ refl)

fits_pair : (b : ℕ) (bs : List ℕ) → is_pair b (slice_index bs 0) ≡ true → Fits (Lexeme Sign 2) (b ∷ bs)
fits_pair b [] h = let no = pair-none b in cc
fits_pair b (c ∷ cs) h = (b ∷ c ∷ [], cs, refl, refl, lit< tt, h)

fits_sign : (b : ℕ) (bs : List ℕ) → is_white b ≡ false → opens_comment (b ∷ bs) ≡ false → is_letter b ≡ false → is_digit b ≡ false → Fits (sign_front (b ∷ bs)) (b ∷ bs)
fits_sign b bs w c l d =
    cond_both (is_pair b (slice_index bs 0)) (Lexeme Sign 2) (if is_printable b then Lexeme Sign 1 else Bad) (λ f. Fits f (b ∷ bs)) (fits_pair b bs)
    (λ alone. fits_if (is_printable b) Sign 1 (b ∷ bs)
    (λ shows. (b ∷ [], bs, refl, refl, lit< tt, (and_from _ _ shows (not_from_false _ (or_from _ _ l d)), alone, c)))
    (λ hidden. stray b bs (or_from _ _ w hidden)))

-- a chain of choices fits where each choice does
fits_chain : (text : List ℕ) (w c l x d : Bool) (white comment name hexadecimal decimal sign : Front)
    → (w ≡ true → Fits white text) → (c ≡ true → Fits comment text) → (l ≡ true → Fits name text) → (x ≡ true → Fits hexadecimal text)
    → (x ≡ false → d ≡ true → Fits decimal text) → (w ≡ false → c ≡ false → l ≡ false → d ≡ false → Fits sign text)
    → Fits (if w then white else if c then comment else if l then name else if x then hexadecimal else if d then decimal else sign) text
fits_chain text true c l x d g k n h t s p q r u v z = p refl
fits_chain text false true l x d g k n h t s p q r u v z = q refl
fits_chain text false false true x d g k n h t s p q r u v z = r refl
fits_chain text false false false true d g k n h t s p q r u v z = u refl
fits_chain text false false false false true g k n h t s p q r u v z = v refl refl
fits_chain text false false false false false g k n h t s p q r u v z = z refl refl refl refl

-- what is found at the front of a text fits it
fits_front : (b : ℕ) (bs : List ℕ) → Fits (front_of (b ∷ bs)) (b ∷ bs)
unfolding front_of
fits_front b bs =
    let text = b ∷ bs in
    fits_chain text (is_white b) (opens_comment text) (is_letter b) (opens_hexadecimal text) (is_digit b)
    (Gap 1) (comment_front text) (name_front text) (hexadecimal_front text) (decimal_front text) (sign_front text)
    (fits_white b bs) (fits_comment b bs) (fits_name b bs) (fits_hexadecimal text) (fits_decimal b bs) (fits_sign b bs)

-- a place after two pieces
pub place_after-append : (p : Place) (xs ys : List ℕ) → place_after p (xs ++ ys) ≡ place_after (place_after p xs) ys
unfolding place_after
place_after-append p [] ys = refl
place_after-append p (x ∷ xs) ys = place_after-append (place_behind p x) xs ys

-- a piece of a gap before a text that is cut
prepend : (z : Place) (at : ℕ) (p : Place) (g text : List ℕ) (ls : Lexemes) → ((more rest : List ℕ) → text ≡ more ++ rest → IsGap more rest → IsGap (g ++ more) rest)
    → Cuts z (at + length g) (place_after p g) text ls → Cuts z at p (g ++ text) ls
unfolding Cuts
prepend z at p g text (token t rest) put (gap, lexeme, behind, e, is, lexed, stands, more) = (
  g ++ gap,
  lexeme,
  behind,
  ap (λ (xs : List ℕ). g ++ xs) e ∙ sym (append_assoc g gap (lexeme ++ behind)),
  put gap (lexeme ++ behind) e is,
  lexed,
  record { start = omega (arith, stands.start, length-append g gap); end = stands.end; place = stands.place ∙ sym (place_after-append p g gap) },
  more,
)
prepend z at p g text (finish t) put (is, ends) =
    let len : (at + length g) + length text ≡ at + length (g ++ text) = omega (arith, length-append g text) in
    (put text [] (sym (append-nil text)) is, rw len at ends)
prepend z at p g text (fault q) put (gap, behind, e, is, bad, place) =
    (g ++ gap, behind, ap (λ (xs : List ℕ). g ++ xs) e ∙ sym (append_assoc g gap behind), put gap behind e is, bad, place ∙ sym (place_after-append p g gap))

-- where a front fits, its step cuts the text, if what goes on cuts what is left
cuts_step : (z : Place) (f : Front) (at : ℕ) (p : Place) (text : List ℕ) (more : ℕ → Lexemes) → Fits f text
    → ((l behind : List ℕ) → text ≡ l ++ behind → 0 < length l → Cuts z (at + length l) (place_after p l) behind (more (length l)))
    → Cuts z at p text (from_front f at p more)
unfolding Cuts place_after
cuts_step z (Gap n) at p text more (gap, behind, e, size, some, is) below =
    rw (e, ← size) (prepend z at p gap behind (more (length gap)) (λ m rest same k. join gap behind m rest same is k) (below gap behind e (rw (← size) at some)))
cuts_step z (Lexeme kind n) at p text more (lexeme, behind, e, size, some, is) below =
    ([], lexeme, behind, e, nothing (lexeme ++ behind), is, record { start = omega arith; end = omega (arith, size); place = refl }, rw (← size) (below lexeme behind e (rw (← size) at some)))
cuts_step z Bad at p text more bad below = ([], text, refl, nothing text, bad, refl)

-- one byte more is taken
one_more : (z : Place) (b : ℕ) (bs : List ℕ) (at : ℕ) (p : Place)
    → ((l behind : List ℕ) → bs ≡ l ++ behind → Cuts z ((at + 1) + length l) (place_after (place_behind p b) l) behind (lex z (length l) (at + 1) (place_behind p b) bs))
    → (l behind : List ℕ) → b ∷ bs ≡ l ++ behind → 0 < length l → Cuts z (at + length l) (place_after p l) behind (lex z (length l - 1) (at + 1) (place_behind p b) bs)
unfolding place_after
one_more z b bs at p below [] behind e some = absurd (omega arith)
one_more z b bs at p below (x ∷ xs) behind e some =
    let first : x ≡ b = cc in
    let rest : bs ≡ xs ++ behind = cc in
    let one : suc (length xs) - 1 ≡ length xs = omega arith in
    let further : at + suc (length xs) ≡ (at + 1) + length xs = omega arith in
    rw (one, further, first) (below xs behind rest)

-- after the bytes that are taken, the text is cut into what is found there
cuts_behind : (z : Place) (text taken behind : List ℕ) (at : ℕ) (p : Place) → text ≡ taken ++ behind → Cuts z (at + length taken) (place_after p taken) behind (lex z (length taken) at p text)
unfolding lex Cuts place_after
cuts_behind z [] [] [] at p e = (nothing [], record { kind = refl; start = omega arith; end = omega arith; place = refl })
cuts_behind z [] [] (x ∷ xs) at p e = cc
cuts_behind z [] (x ∷ xs) behind at p e = cc
cuts_behind z (b ∷ bs) (x ∷ xs) behind at p e =
    let one : suc (length xs) - 1 ≡ length xs = omega arith in
    rw one at (one_more z b bs at p (λ l rest same. cuts_behind z bs l rest (at + 1) (place_behind p b) same) (x ∷ xs) behind e (omega arith))
cuts_behind z (b ∷ bs) [] behind at p e =
    let none : at + 0 ≡ at = omega arith in
    rw (none, ← e) (cuts_step z (front_of (b ∷ bs)) at p (b ∷ bs) (λ n. lex z (n - 1) (at + 1) (place_behind p b) bs) (fits_front b bs)
    (one_more z b bs at p (λ l rest same. cuts_behind z bs l rest (at + 1) (place_behind p b) same)))

-- a text is cut into the tokens that are found in it
pub cuts : (z : Place) (at : ℕ) (p : Place) (text : List ℕ) → Cuts z at p text (lex z 0 at p text)
unfolding place_after
cuts z at p text = let none : at + 0 ≡ at = omega arith in rw none at (cuts_behind z text [] text at p refl)

-- the bytes of a text after a place in it are those of the token that is found there, and what stands after it
pub token_of : (s rest : List ℕ) (kind : TokenKind) (t : Token) (at n : ℕ) (p : Place) → at < length s → rest ≡ drop at s → Lexeme kind n ≡ front_of rest
    → t ≡ record { kind = kind; start = at; end = at + n; place = p } → IsTokenOf s t
token_of s rest kind t at n p inside e front same =
    rw same (inr (found rest e front))
  where
    cut : (lexeme behind : List ℕ) → drop at s ≡ lexeme ++ behind → length lexeme ≡ n → IsLexeme kind lexeme behind → IsLexeme kind (slice_range s at (at + n)) (drop (at + n) s)
    cut lexeme behind whole size is =
        let len : at + n - at ≡ n = omega arith in
        rw (len, ← drop-drop n at s, whole, take_at lexeme behind n size, drop_at lexeme behind n size) is

    found : (rest : List ℕ) → rest ≡ drop at s → Lexeme kind n ≡ front_of rest → IsLexeme kind (slice_range s at (at + n)) (drop (at + n) s)
    found [] e front = absurd (omega (arith, ap length e, length-drop at s))
    found (b ∷ bs) e front =
        let fits = subst (λ (f : Front). Fits f (b ∷ bs)) (sym front) (fits_front b bs) in
        cut fits.0 fits.1 (sym e ∙ fits.2) fits.3 fits.5
