-- The tokens that are left after white space, a comment or a token.
use Rattle.std.proofs.Common.{◌≡◌, ℕ, zero, suc, ◌+◌, ◌-◌, ◌<◌, ◌≤◌, List, [], ◌∷◌, length, take, drop, arith, refl, sym, ◌∙◌, ap, Ok, Err, length-drop}
use Rattle.std.proofs.lemmas.List.{drop-drop}
use Rattle.vg_text.specs.declared.place.Place.{Place}
use Rattle.vg_text.specs.declared.token.TokenKind.{TokenKind}
use Rattle.vg_text.specs.declared.token.TokenKind.TheVariants.{End}
use Rattle.vg_text.specs.declared.token.Token.{Token}
use Rattle.vg_text.specs.declared.front.Front.{Front}
use Rattle.vg_text.specs.declared.front.Front.TheVariants.{Gap, Lexeme, Bad}
use Rattle.vg_text.specs.Place.{place_behind, place_after, end_place}
use Rattle.vg_text.specs.Token.{from_front, front_of, lex, Takes}

-- taking bytes is beginning after them
pub lex-skip : (z : Place) (k at : ℕ) (p : Place) (text : List ℕ) → k ≤ length text → lex z k at p text ≡ lex z 0 (at + k) (place_after p (take k text)) (drop k text)
unfolding lex place_after
lex-skip z zero at p text h = let e : at + 0 ≡ at = omega arith in rw e refl
lex-skip z (suc k) at p [] h = absurd (omega arith)
lex-skip z (suc k) at p (b ∷ bs) h =
    let e : at + suc k ≡ (at + 1) + k = omega arith in
    rw e (lex-skip z k (at + 1) (place_behind p b) bs (omega arith))

-- what is left after the first n bytes
pub behind_front : (z : Place) (n at : ℕ) (p : Place) (b : ℕ) (bs : List ℕ) → 0 < n → n ≤ length (b ∷ bs) → lex z (n - 1) (at + 1) (place_behind p b) bs ≡ lex z 0 (at + n) (place_after p (take n (b ∷ bs))) (drop n (b ∷ bs))
unfolding place_after
behind_front z zero at p b bs h l = absurd (omega arith)
behind_front z (suc n) at p b bs h l =
    let less : suc n - 1 ≡ n = omega arith in
    let e : at + suc n ≡ (at + 1) + n = omega arith in
    rw (less, e) (lex-skip z n (at + 1) (place_behind p b) bs (omega arith))

-- the front of a text, and what stands after it
pub lex-cons : (z : Place) (at : ℕ) (p : Place) (b : ℕ) (bs : List ℕ) → lex z 0 at p (b ∷ bs) ≡ from_front (front_of (b ∷ bs)) at p (λ n. lex z (n - 1) (at + 1) (place_behind p b) bs)
unfolding lex
lex-cons z at p b bs = refl

-- white space and comments have no token
pub lex-gap : (z : Place) (n at : ℕ) (p : Place) (text : List ℕ) → 0 < length text → front_of text ≡ Gap n → (0 < n) × (n ≤ length text) → lex z 0 at p text ≡ lex z 0 (at + n) (place_after p (take n text)) (drop n text)
lex-gap z n at p [] some e h = absurd (omega arith)
lex-gap z n at p (b ∷ bs) some e h =
    lex-cons z at p b bs ∙ ap (λ (f : Front). from_front f at p (λ m. lex z (m - 1) (at + 1) (place_behind p b) bs)) e ∙ behind_front z n at p b bs h.0 h.1

-- a token is taken
pub takes-lexeme : (z : Place) (kind : TokenKind) (n at : ℕ) (p : Place) (text : List ℕ) → 0 < length text → front_of text ≡ Lexeme kind n → (0 < n) × (n ≤ length text) → Takes (lex z 0 at p text) (Ok (record { kind = kind; start = at; end = at + n; place = p })) (lex z 0 (at + n) (place_after p (take n text)) (drop n text))
takes-lexeme z kind n at p [] some e h = absurd (omega arith)
takes-lexeme z kind n at p (b ∷ bs) some e h =
    rw (lex-cons z at p b bs, e) (refl, sym (behind_front z n at p b bs h.0 h.1))

-- what is no token is a fault, and stays one
pub takes-bad : (z : Place) (at : ℕ) (p : Place) (text : List ℕ) → 0 < length text → front_of text ≡ Bad → Takes (lex z 0 at p text) (Err p) (lex z 0 at p text)
takes-bad z at p [] some e = absurd (omega arith)
takes-bad z at p (b ∷ bs) some e = rw (lex-cons z at p b bs, e) (refl, refl)

-- the end stays the end
pub takes-end : (z : Place) (at : ℕ) (p : Place) (text : List ℕ) → length text ≤ 0 → Takes (lex z 0 at p text) (Ok (record { kind = End; start = at; end = at; place = z })) (lex z 0 at p text)
unfolding lex
takes-end z at p [] none = (refl, refl)
takes-end z at p (b ∷ bs) none = absurd (omega arith)

-- a lexer that has passed over white space or a comment has the same tokens left
pub after_gap : (s s' rest : List ℕ) (at n at' : ℕ) (p p' : Place) → at < length s → rest ≡ drop at s → Gap n ≡ front_of rest → (0 < n) × (n ≤ length rest)
    → at' ≡ at + n → s' ≡ s → p' ≡ place_after p (take n (drop at s)) → lex (end_place s') 0 at' p' (drop at' s') ≡ lex (end_place s) 0 at p (drop at s)
after_gap s s' rest at n at' p p' inside e front h ea es ep =
    let some : 0 < length (drop at s) = omega (arith, length-drop at s) in
    rw (ea, es, ep, ← drop-drop n at s) (sym (lex-gap (end_place s) n at p (drop at s) some (rw e at (sym front)) (h.0, omega (arith, h.1, ap length e))))

-- a lexer that takes a token has those after it left
pub after_lexeme : (s s' rest : List ℕ) (kind : TokenKind) (t : Token) (at n at' : ℕ) (p p' : Place) → at < length s → rest ≡ drop at s → Lexeme kind n ≡ front_of rest → (0 < n) × (n ≤ length rest)
    → t ≡ record { kind = kind; start = at; end = at + n; place = p } → at' ≡ at + n → s' ≡ s → p' ≡ place_after p (take n (drop at s)) → Takes (lex (end_place s) 0 at p (drop at s)) (Ok t) (lex (end_place s') 0 at' p' (drop at' s'))
after_lexeme s s' rest kind t at n at' p p' inside e front h et ea es ep =
    let some : 0 < length (drop at s) = omega (arith, length-drop at s) in
    rw (et, ea, es, ep, ← drop-drop n at s) (takes-lexeme (end_place s) kind n at p (drop at s) some (rw e at (sym front)) (h.0, omega (arith, h.1, ap length e)))

-- a lexer at what is no token stays there
pub at_bad : (z : Place) (s rest : List ℕ) (at : ℕ) (p : Place) → at < length s → rest ≡ drop at s → Bad ≡ front_of rest → Takes (lex z 0 at p (drop at s)) (Err p) (lex z 0 at p (drop at s))
at_bad z s rest at p inside e front =
    let some : 0 < length (drop at s) = omega (arith, length-drop at s) in
    takes-bad z at p (drop at s) some (rw e at (sym front))

-- a lexer at the end stays there
pub at_end : (z : Place) (s : List ℕ) (t : Token) (at : ℕ) (p : Place) → length s ≤ at → t ≡ record { kind = End; start = at; end = at; place = z } → Takes (lex z 0 at p (drop at s)) (Ok t) (lex z 0 at p (drop at s))
at_end z s t at p past et =
    rw et (takes-end z at p (drop at s) (omega (arith, length-drop at s)))
