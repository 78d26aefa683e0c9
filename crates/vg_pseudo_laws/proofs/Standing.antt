-- The words between two moments of reading, and single words read from left to right.
use Rattle.std.proofs.Common.{◌≡◌, ℕ, ◌<◌, ◌≤◌, Bool, true, false, List, [], ◌∷◌, ◌++◌, Option, Some, None, Ok, refl, sym, ◌∙◌, ap, subst, inl, inr, ◌⊎◌, arith}
use Rattle.std.specs.Prelude.{IsTrue}
use Rattle.std.specs.Str.{bytes_eq}
use Rattle.vg_base.specs.Bind.{or_fault}
use Rattle.vg_base.proofs.Bind.{bind_ok, tested_ok, either_way}
use Rattle.vg_text.specs.Token.{Lexemes, token, finish, fault}
use Rattle.vg_text.specs.Words.{Reading, Spelled, word_at, word_from}
use Rattle.vg_pseudo.specs.declared.fault.PseudoFault.{PseudoFault}
use Rattle.vg_pseudo.specs.declared.fault.PseudoFault.TheVariants.{Shape}
use Rattle.vg_pseudo.specs.Grammar.{Words, Is, IsName, Stand}
use Rattle.vg_pseudo.specs.Reader.{words_in, unread, next_at, expect_at, accept_at, name_at}
use Rattle.vg_pseudo.specs.Words.{is_free}
use Rattle.vg_pseudo.proofs.Taking.{same_text, ok_once, word-taken}

-- what was there
pub fault-some : {X : Type 0} (o : Option X) (f : PseudoFault) (x : X) → or_fault o f ≡ Ok x → o ≡ Some x
fault-some (Some y) f x e = ap Some (ok_once y x e)
fault-some None f x e = cc

pub true_fact : (b : Bool) → b ≡ true → IsTrue b
true_fact true e = refl
true_fact false e = cc

-- these words stand between two moments
pub record Reads (ws : Words) (r q : Reading) : Type 0 where
  pub stand : Stand ws r q

Stand-append : (ws vs : Words) (r m q : Reading) → Stand ws r m → Stand vs m q → Stand (ws ++ vs) r q
unfolding Stand
Stand-append [] vs r m q first second = subst (λ (x : Reading). Stand vs x q) (sym first) second
Stand-append (w ∷ ws) vs r m q (n, read, some, rest) second = (n, read, some, Stand-append ws vs n m q rest second)

-- words after words
infixr 5 ◌▷◌
pub ◌▷◌ : {ws vs : Words} {r m q : Reading} → Reads ws r m → Reads vs m q → Reads (ws ++ vs) r q
◌▷◌ {ws} {vs} {r} {m} {q} first second = record { stand = Stand-append ws vs r m q first.stand second.stand }

-- no words
pub no-words : (r : Reading) → Reads [] r r
unfolding Stand
no-words r = record { stand = refl }

-- one word more is gone
pub word-fewer : (r : Reading) (x : Spelled × Reading) → word_at r ≡ Ok x → x.0.is_end ≡ false → unread x.1 < unread r
unfolding words_in
word-fewer r x e some = by r.text r.left e
  where
    by : (text : List ℕ) (ls : Lexemes) → word_from text ls ≡ Ok x → unread x.1 < words_in ls
    by text (token t rest) e = subst (λ (q : Spelled × Reading). unread q.1 < words_in (token t rest)) (ok_once _ x e) (omega arith)
    by text (finish t) e = let at_end : true ≡ x.0.is_end = ap (λ (y : Spelled × Reading). y.0.is_end) (ok_once _ x e) in cc
    by text (fault p) e = cc

-- words that were read are no longer left
Stand-fewer : (ws : Words) (r q : Reading) → Stand ws r q → unread q ≤ unread r
unfolding Stand
Stand-fewer [] r q same = subst (λ (x : Reading). unread x ≤ unread r) same (omega arith)
Stand-fewer (w ∷ ws) r q (m, read, some, rest) =
    let more = Stand-fewer ws m q rest in
    let one = word-fewer r (w, m) read some in
    omega arith

first-fewer : (w : Spelled) (ws : Words) (r q : Reading) → Stand (w ∷ ws) r q → unread q < unread r
unfolding Stand
first-fewer w ws r q (m, read, some, rest) =
    let more = Stand-fewer ws m q rest in
    let one = word-fewer r (w, m) read some in
    omega arith

pub Reads-fewer : {w : Spelled} {ws : Words} {r q : Reading} → Reads (w ∷ ws) r q → unread q < unread r
Reads-fewer {w} {ws} {r} {q} h = first-fewer w ws r q h.stand

-- the end has no bytes
end-empty : (r : Reading) (x : Spelled × Reading) → word_at r ≡ Ok x → x.0.is_end ≡ true → x.0.bytes ≡ []
end-empty r x e k = by r.text r.left e
  where
    by : (text : List ℕ) (ls : Lexemes) → word_from text ls ≡ Ok x → x.0.bytes ≡ []
    by text (token t rest) e = let real : false ≡ x.0.is_end = ap (λ (y : Spelled × Reading). y.0.is_end) (ok_once _ x e) in cc
    by text (finish t) e = sym (ap (λ (y : Spelled × Reading). y.0.bytes) (ok_once _ x e))
    by text (fault p) e = cc

-- a word with bytes
pub next-found : (r : Reading) (x : Spelled × Reading) → next_at r ≡ Ok x → (x.0.bytes ≡ [] → ⊥) → Reads (x.0 ∷ []) r x.1
unfolding Stand
next-found r x e some = by x.0.is_end refl
  where
    by : (t : Bool) → x.0.is_end ≡ t → Reads (x.0 ∷ []) r x.1
    by true k = absurd (some (end-empty r x (word-taken r x e) k))
    by false k = record { stand = (x.1, word-taken r x e, k, refl) }

-- a word that a test knows, which knows no empty word
pub tested-found : (p : List ℕ → Bool) (r : Reading) (x : Spelled × Reading) → next_at r ≡ Ok x → p x.0.bytes ≡ true → p [] ≡ false → Reads (x.0 ∷ []) r x.1
tested-found p r x e t f = next-found r x e (λ none. let no_word : false ≡ true = sym f ∙ ap p (sym none) ∙ t in cc)

-- a word that tests as this text
pub this-word : (b : ℕ) (bs : List ℕ) (r : Reading) (x : Spelled × Reading) → next_at r ≡ Ok x → bytes_eq x.0.bytes (b ∷ bs) ≡ true → Is x.0 (b ∷ bs) × Reads (x.0 ∷ []) r x.1
this-word b bs r x e t =
    let same = same_text x.0.bytes (b ∷ bs) t in
    (same, next-found r x e (λ none. let no_word : [] ≡ b ∷ bs = sym none ∙ same in cc))

-- a word of this text
pub record FoundWord (text : List ℕ) (r q : Reading) : Type 0 where
  pub word : Spelled
  pub is : Is word text
  pub reads : Reads (word ∷ []) r q

pub this-found : (b : ℕ) (bs : List ℕ) (r : Reading) (x : Spelled × Reading) → next_at r ≡ Ok x → bytes_eq x.0.bytes (b ∷ bs) ≡ true → FoundWord (b ∷ bs) r x.1
this-found b bs r x e t = let w = this-word b bs r x e t in record { word = x.0; is = w.0; reads = w.1 }

-- this very word
pub expect-found : (b : ℕ) (bs : List ℕ) (r : Reading) (x : Spelled × Reading) → expect_at (b ∷ bs) r ≡ Ok x → FoundWord (b ∷ bs) r x.1
expect-found b bs r x e =
    let w = bind_ok (next_at r) _ e in
    let t = tested_ok (bytes_eq w.0.0.bytes (b ∷ bs)) (Ok w.0) (Shape w.0.0.place) w.2 in
    subst (λ (y : Spelled × Reading). FoundWord (b ∷ bs) r y.1) (ok_once w.0 x t.1) (this-found b bs r w.0 w.1 t.0)

-- whether this very word came next
pub accept-found : (b : ℕ) (bs : List ℕ) (r : Reading) (x : Bool × Reading) → accept_at (b ∷ bs) r ≡ Ok x → ((x.0 ≡ true) × FoundWord (b ∷ bs) r x.1) ⊎ ((x.0 ≡ false) × (x.1 ≡ r))
accept-found b bs r x e =
    let w = bind_ok (next_at r) _ e in
    elim (either_way (bytes_eq w.0.0.bytes (b ∷ bs)) (Ok (true, w.0.1)) (Ok (false, r)) w.2) [
      | inl is ↦ inl (subst (λ (y : Bool × Reading). (y.0 ≡ true) × FoundWord (b ∷ bs) r y.1) (ok_once (true, w.0.1) x is.1) (refl, this-found b bs r w.0 w.1 is.0))
      | inr other ↦ inr (subst (λ (y : Bool × Reading). (y.0 ≡ false) × (y.1 ≡ r)) (ok_once (false, r) x other.1) (refl, refl))
    ]

-- a name
pub name-found : (r : Reading) (x : Spelled × Reading) → name_at r ≡ Ok x → IsName x.0 × Reads (x.0 ∷ []) r x.1
name-found r x e =
    let w = bind_ok (next_at r) _ e in
    let t = tested_ok (is_free w.0.0.bytes) (Ok w.0) (Shape w.0.0.place) w.2 in
    subst (λ (y : Spelled × Reading). IsName y.0 × Reads (y.0 ∷ []) r y.1) (ok_once w.0 x t.1)
    (true_fact _ t.0, tested-found is_free r w.0 w.1 t.0 refl)
