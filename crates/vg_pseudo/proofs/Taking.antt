-- What is taken leaves fewer words.
use Rattle.std.proofs.Common.{◌≡◌, ℕ, ◌-◌, ◌<◌, Bool, true, false, List, [], ◌∷◌, Result, Ok, Err, inl, inr, refl, sym, ◌∙◌, ap, subst, arith}
use Rattle.std.specs.Prelude.{codes}
use Rattle.std.specs.Option.{option_map_or}
use Rattle.std.specs.Str.{bytes_eq}
use Rattle.std.proofs.lemmas.Slice.Eq.{bytes_eq-Decides}
use Rattle.vg_text.specs.declared.place.Place.{Place}
use Rattle.vg_text.specs.Token.{Lexemes, token, finish, fault}
use Rattle.vg_text.specs.Number.{decimal_value}
use Rattle.vg_text.specs.Words.{Reading, Spelled, word_at, word_from}
use Rattle.vg_base.proofs.Bind.{bind_ok, either_way}
use Rattle.vg_pseudo.specs.Reader.{words_in, unread, or_token, next_at, accept_at}
use Rattle.vg_pseudo.specs.Words.{begins_statement, number_of}
use Rattle.vg_pseudo.specs.Statements.{statement_follows, arm_follows, else_if_follows}

-- two texts that test as the same are the same
pub same_text : (a b : List ℕ) → bytes_eq a b ≡ true → a ≡ b
same_text a b e = (bytes_eq-Decides a b).0 e

-- a text tests as itself
pub text_is_itself : (a : List ℕ) → bytes_eq a a ≡ true
text_is_itself a = (bytes_eq-Decides a a).1 refl

-- what went well gave one thing
pub ok_once : {A E : Type 0} (x y : A) → (let r : Result A E = Ok x in r ≡ Ok y) → x ≡ y
ok_once x y e = cc

-- a word less is left
pub word-fewer : (r : Reading) (x : Spelled × Reading) → word_at r ≡ Ok x → unread x.1 ≡ unread r - 1
unfolding words_in
word-fewer r x e = by r.text r.left e
  where
    by : (text : List ℕ) (ls : Lexemes) → word_from text ls ≡ Ok x → unread x.1 ≡ words_in ls - 1
    by text (token t rest) e = subst (λ (q : Spelled × Reading). unread q.1 ≡ words_in (token t rest) - 1) (ok_once _ x e) (omega arith)
    by text (finish t) e = subst (λ (q : Spelled × Reading). unread q.1 ≡ words_in (finish t) - 1) (ok_once _ x e) (omega arith)
    by text (fault p) e = cc

-- what the reader took as a word
pub word-taken : (r : Reading) (x : Spelled × Reading) → next_at r ≡ Ok x → word_at r ≡ Ok x
word-taken r x e = or_same (word_at r) x e
  where
    or_same : (y : Result (Spelled × Reading) Place) (x : Spelled × Reading) → or_token y ≡ Ok x → y ≡ Ok x
    or_same (Ok z) x e = ap Ok (ok_once z x e)
    or_same (Err p) x e = cc

-- a word that is not empty was left
pub word-some : (r : Reading) (x : Spelled × Reading) → next_at r ≡ Ok x → (x.0.bytes ≡ [] → ⊥) → 0 < unread r
unfolding words_in
word-some r x e some = by r.text r.left (word-taken r x e)
  where
    by : (text : List ℕ) (ls : Lexemes) → word_from text ls ≡ Ok x → 0 < words_in ls
    by text (token t rest) e = omega arith
    by text (finish t) e = absurd (some (sym (ap (λ (y : Spelled × Reading). y.0.bytes) (ok_once _ x e))))
    by text (fault p) e = cc

-- a word that a test knows, which knows no empty word
pub tested-some : (p : List ℕ → Bool) (r : Reading) (x : Spelled × Reading) → next_at r ≡ Ok x → p x.0.bytes ≡ true → p [] ≡ false → 0 < unread r
tested-some p r x e t f = word-some r x e (λ none. let no : false ≡ true = sym f ∙ ap p (sym none) ∙ t in cc)

-- a word that was accepted was left
pub accepted-fewer : (t : ℕ) (ts : List ℕ) (r q : Reading) (b : Bool) → accept_at (t ∷ ts) r ≡ Ok (b, q) → b ≡ true → unread q < unread r
accepted-fewer t ts r q b e y =
    let w = bind_ok (next_at r) _ (rw y at e) in
    elim (either_way (bytes_eq w.0.0.bytes (t ∷ ts)) (Ok (true, w.0.1)) (Ok (false, r)) w.2) [
      | inl is ↦
          let same : w.0.1 ≡ q = ap (λ (x : Bool × Reading). x.1) (ok_once (true, w.0.1) (true, q) is.1) in
          let some = tested-some (λ bytes. bytes_eq bytes (t ∷ ts)) r w.0 w.1 is.0 refl in
          let fewer = word-fewer r w.0 (word-taken r w.0 w.1) in
          subst (λ (x : Reading). unread x < unread r) same (omega (arith, some, fewer))
      | inr other ↦ absurd (let bad : false ≡ true = ap (λ (x : Bool × Reading). x.0) (ok_once (false, r) (true, q) other.1) in cc)
    ]

-- where a statement follows, a word is left
pub statement-some : (r q : Reading) (b : Bool) → statement_follows r ≡ Ok (b, q) → b ≡ true → (0 < unread r) × (q ≡ r)
statement-some r q b e y =
    let w = bind_ok (next_at r) _ (rw y at e) in
    let same = ok_once (begins_statement w.0.0.bytes, r) (true, q) w.2 in
    (tested-some begins_statement r w.0 w.1 (ap (λ (x : Bool × Reading). x.0) same) refl, sym (ap (λ (x : Bool × Reading). x.1) same))

-- where an arm follows, a word is left
pub arm-some : (r q : Reading) (b : Bool) → arm_follows r ≡ Ok (b, q) → b ≡ true → (0 < unread r) × (q ≡ r)
unfolding decimal_value
arm-some r q b e y =
    let w = bind_ok (next_at r) _ (rw y at e) in
    let is_number : List ℕ → Bool = λ bytes. option_map_or (λ (n : ℕ). true) (number_of bytes) false in
    let same = ok_once (is_number w.0.0.bytes, r) (true, q) w.2 in
    (tested-some is_number r w.0 w.1 (ap (λ (x : Bool × Reading). x.0) same) no_number, sym (ap (λ (x : Bool × Reading). x.1) same))
  where
    no_number : option_map_or (λ (n : ℕ). true) (number_of []) false ≡ false
    no_number = refl

-- ELSE IF that was taken was left
pub else_if-fewer : (r q : Reading) (b : Bool) → else_if_follows r ≡ Ok (b, q) → b ≡ true → unread q < unread r
unfolding else_if_follows
else_if-fewer r q b e y =
    let w = bind_ok (next_at r) _ (rw y at e) in
    elim (either_way (bytes_eq w.0.0.bytes (codes "ELSE")) _ (Ok (false, r)) w.2) [
      | inl is ↦
          let v = bind_ok (next_at w.0.1) _ is.1 in
          let some = tested-some (λ bytes. bytes_eq bytes (codes "ELSE")) r w.0 w.1 is.0 refl in
          let first = word-fewer r w.0 (word-taken r w.0 w.1) in
          let second = word-fewer w.0.1 v.0 (word-taken w.0.1 v.0 v.1) in
          elim (either_way (bytes_eq v.0.0.bytes (codes "IF")) (Ok (true, v.0.1)) (Ok (false, r)) v.2) [
            | inl both ↦
                let same : v.0.1 ≡ q = ap (λ (x : Bool × Reading). x.1) (ok_once (true, v.0.1) (true, q) both.1) in
                subst (λ (x : Reading). unread x < unread r) same (omega (arith, some, first, second))
            | inr other ↦ absurd (let bad : false ≡ true = ap (λ (x : Bool × Reading). x.0) (ok_once (false, r) (true, q) other.1) in cc)
          ]
      | inr other ↦ absurd (let bad : false ≡ true = ap (λ (x : Bool × Reading). x.0) (ok_once (false, r) (true, q) other.1) in cc)
    ]
