-- Header words between two moments of reading, and single words read from left to right.
use Rattle.std.proofs.Common.{◌≡◌, ℕ, ◌≤◌, Bool, true, false, List, [], ◌∷◌, ◌++◌, Option, Some, None, Ok, refl, sym, ap, subst, inl, inr, ◌⊎◌, arith}
use Rattle.std.specs.Prelude.{IsTrue, nat_le, ◌&&◌, if◌then◌else◌}
use Rattle.std.specs.Str.{bytes_eq}
use Rattle.std.proofs.lemmas.Slice.Eq.{bytes_eq-Decides}
use Rattle.vg_base.specs.Bind.{or_fault}
use Rattle.vg_base.proofs.Bind.{bind_ok, bind_to, tested_ok, either_way}
use Rattle.vg_text.specs.Words.{Reading, Spelled}
use Rattle.vg_pseudo.specs.Grammar.{Words, Is}
use Rattle.vg_pseudo.proofs.Taking.{same_text, ok_once}
use Rattle.vg_catalog.specs.declared.fault.CatalogFault.{CatalogFault}
use Rattle.vg_catalog.specs.declared.fault.CatalogFault.TheVariants.{Header}
use Rattle.vg_catalog.specs.Words.{next_word, this_word, optional_word, number_in_word, between, number_word}
use Rattle.vg_catalog.specs.Grammar.{Stand, IsNumber}

pub le-true : (a b : ℕ) → a ≤ b → nat_le a b ≡ true
le-true a b h = grind arith

pub true-le : (a b : ℕ) → nat_le a b ≡ true → a ≤ b
true-le a b h = grind arith

-- what was there
pub some_of : {X : Type 0} (o : Option X) (f : CatalogFault) (x : X) → or_fault o f ≡ Ok x → o ≡ Some x
some_of (Some y) f x e = ap Some (ok_once y x e)
some_of None f x e = cc

pub true_fact : (b : Bool) → b ≡ true → IsTrue b
true_fact true e = refl
true_fact false e = cc

-- these words stand between two moments
pub record Reads (ws : Words) (r q : Reading) : Type 0 where
  pub stand : Stand ws r q

Stand-append : (ws vs : Words) (r m q : Reading) → Stand ws r m → Stand vs m q → Stand (ws ++ vs) r q
unfolding Stand
Stand-append [] vs r m q first second = subst (λ (x : Reading). Stand vs x q) (sym first) second
Stand-append (w ∷ ws) vs r m q (n, read, rest) second = (n, read, Stand-append ws vs n m q rest second)

-- words after words
infixr 5 ◌▷◌
pub ◌▷◌ : {ws vs : Words} {r m q : Reading} → Reads ws r m → Reads vs m q → Reads (ws ++ vs) r q
◌▷◌ {ws} {vs} {r} {m} {q} first second = record { stand = Stand-append ws vs r m q first.stand second.stand }

-- no words
pub no-words : (r : Reading) → Reads [] r r
unfolding Stand
no-words r = record { stand = refl }

-- one word
pub next-reads : (r : Reading) (x : Spelled × Reading) → next_word r ≡ Ok x → Reads (x.0 ∷ []) r x.1
unfolding Stand
next-reads r x e = record { stand = (x.1, e, refl) }

-- a word of this text
pub record FoundWord (text : List ℕ) (r q : Reading) : Type 0 where
  pub word : Spelled
  pub is : Is word text
  pub reads : Reads (word ∷ []) r q

-- this very word
pub expect-found : (text : List ℕ) (r : Reading) (x : Spelled × Reading) → this_word text r ≡ Ok x → FoundWord text r x.1
expect-found text r x e =
    let w = bind_ok (next_word r) _ e in
    let t = tested_ok (bytes_eq w.0.0.bytes text) (Ok w.0) (Header w.0.0.place) w.2 in
    subst (λ (y : Spelled × Reading). FoundWord text r y.1) (ok_once w.0 x t.1)
    (record { word = w.0.0; is = same_text w.0.0.bytes text t.0; reads = next-reads r w.0 w.1 })

-- whether this very word came next
pub accept-found : (text : List ℕ) (r : Reading) (x : Bool × Reading) → optional_word text r ≡ Ok x → ((x.0 ≡ true) × FoundWord text r x.1) ⊎ ((x.0 ≡ false) × (x.1 ≡ r))
accept-found text r x e =
    let w = bind_ok (next_word r) _ e in
    elim (either_way (bytes_eq w.0.0.bytes text) (Ok (true, w.0.1)) (Ok (false, r)) w.2) [
      | inl is ↦ inl (subst (λ (y : Bool × Reading). (y.0 ≡ true) × FoundWord text r y.1) (ok_once (true, w.0.1) x is.1) (refl, record { word = w.0.0; is = same_text w.0.0.bytes text is.0; reads = next-reads r w.0 w.1 }))
      | inr other ↦ inr (subst (λ (y : Bool × Reading). (y.0 ≡ false) × (y.1 ≡ r)) (ok_once (false, r) x other.1) (refl, refl))
    ]

-- a number of these
pub record FoundNumber (low high : ℕ) (r : Reading) (x : ℕ × Reading) : Type 0 where
  pub word : Spelled
  pub is : IsNumber word x.0
  pub at_least : low ≤ x.0
  pub at_most : x.0 ≤ high
  pub reads : Reads (word ∷ []) r x.1

pub record Lies (low high n : ℕ) (o : Option ℕ) : Type 0 where
  pub is : o ≡ Some n
  pub at_least : low ≤ n
  pub at_most : n ≤ high

lies-between : (low high n : ℕ) (o : Option ℕ) → between low high o ≡ Some n → Lies low high n o
lies-between low high n None e = cc
lies-between low high n (Some k) e = by (nat_le low k && nat_le k high) refl e
  where
    by : (b : Bool) → (nat_le low k && nat_le k high) ≡ b → (let found : Option ℕ = if b then Some k else None in found ≡ Some n) → Lies low high n (Some k)
    by true t e = let same : k ≡ n = cc in subst (λ (m : ℕ). Lies low high m (Some k)) same (record { is = refl; at_least = grind arith; at_most = grind arith })
    by false t e = cc

pub number-found : (low high : ℕ) (r : Reading) (x : ℕ × Reading) → number_word low high r ≡ Ok x → FoundNumber low high r x
number-found low high r x e =
    let w = bind_ok (next_word r) _ e in
    let n = bind_ok (or_fault (between low high (number_in_word w.0.0.bytes)) (Header w.0.0.place)) _ w.2 in
    let lies = lies-between low high n.0 (number_in_word w.0.0.bytes) (some_of _ _ n.0 n.1) in
    subst (FoundNumber low high r) (ok_once (n.0, w.0.1) x n.2)
    (record { word = w.0.0; is = lies.is; at_least = lies.at_least; at_most = lies.at_most; reads = next-reads r w.0 w.1 })

-- a word stands next, and these after it
pub record Next (w : Spelled) (ws : Words) (r m : Reading) : Type 0 where
  pub behind : Reading
  pub next : next_word r ≡ Ok (w, behind)
  pub rest : Reads ws behind m

next-stands : (w : Spelled) (ws : Words) (r m : Reading) → Stand (w ∷ ws) r m → Next w ws r m
unfolding Stand
next-stands w ws r m (n, read, rest) = record { behind = n; next = read; rest = record { stand = rest } }

pub next-again : {w : Spelled} {ws : Words} {r m : Reading} → Reads (w ∷ ws) r m → Next w ws r m
next-again {w} {ws} {r} {m} h = next-stands w ws r m h.stand

-- nothing stands between
pub no-more : {r m : Reading} → Reads [] r m → r ≡ m
unfolding Stand
no-more h = h.stand

-- words, and those after them
pub record Parts (ws vs : Words) (r m : Reading) : Type 0 where
  pub middle : Reading
  pub first : Reads ws r middle
  pub second : Reads vs middle m

split-stand : (ws vs : Words) (r m : Reading) → Stand (ws ++ vs) r m → Parts ws vs r m
unfolding Stand
split-stand [] vs r m h = record { middle = r; first = no-words r; second = record { stand = h } }
split-stand (w ∷ ws) vs r m (n, read, rest) = let p = split-stand ws vs n m rest in record { middle = p.middle; first = record { stand = (n, read, p.first.stand) }; second = p.second }

pub split : (ws : Words) {vs : Words} {r m : Reading} → Reads (ws ++ vs) r m → Parts ws vs r m
split ws {vs} {r} {m} h = split-stand ws vs r m h.stand

-- a text tests as itself
is_text : (w : Spelled) (text : List ℕ) → Is w text → bytes_eq w.bytes text ≡ true
is_text w text is = (bytes_eq-Decides w.bytes text).1 is

pub expect-again : (text : List ℕ) (w : Spelled) (r n : Reading) → Is w text → next_word r ≡ Ok (w, n) → this_word text r ≡ Ok (w, n)
expect-again text w r n is e = rw (e, is_text w text is) refl

pub accept-again : (text : List ℕ) (w : Spelled) (r n : Reading) → Is w text → next_word r ≡ Ok (w, n) → optional_word text r ≡ Ok (true, n)
accept-again text w r n is e = rw (e, is_text w text is) refl

pub accept-not : (text : List ℕ) (w : Spelled) (r n : Reading) → bytes_eq w.bytes text ≡ false → next_word r ≡ Ok (w, n) → optional_word text r ≡ Ok (false, r)
accept-not text w r n is e = rw (e, is) refl

between-again : (low high n : ℕ) → low ≤ n → n ≤ high → between low high (Some n) ≡ Some n
between-again low high n a b =
    let one : nat_le low n ≡ true = grind arith in
    let two : nat_le n high ≡ true = grind arith in
    rw (one, two) refl

pub number-again : (low high n : ℕ) (w : Spelled) (r q : Reading) → IsNumber w n → low ≤ n → n ≤ high → next_word r ≡ Ok (w, q) → number_word low high r ≡ Ok (n, q)
number-again low high n w r q is a b e = bind_to (next_word r) _ e (rw (is, between-again low high n a b) refl)
