-- What is in the language is read: single words and places, whatever stands after them.
use Rattle.std.proofs.Common.{◌≡◌, ℕ, ℤ, Bool, true, false, List, [], ◌∷◌, ◌++◌, Option, Some, None, Result, Ok, refl, sym, ◌∙◌, ap, inl, inr}
use Rattle.std.specs.Prelude.{codes, IsTrue, pos}
use Rattle.std.specs.Option.{option_map}
use Rattle.std.specs.Str.{bytes_eq}
use Rattle.std.proofs.lemmas.Bool.{cases_Bool}
use Rattle.vg_base.specs.declared.address.Address.{Address}
use Rattle.vg_text.specs.Token.{Lexemes, token, finish, fault}
use Rattle.vg_text.specs.Words.{Reading, Spelled, word_at, word_from}
use Rattle.vg_kernel.specs.declared.fault.KernelFault.{KernelFault}
use Rattle.vg_kernel.specs.Grammar.{IsPointer, IsDistance, SpellsOffset, SpellsAddress}
use Rattle.vg_kernel.specs.Names.{Names}
use Rattle.vg_kernel.specs.Reader.{next_at, expect_at, end_at, name_at, offset_at, address_at}
use Rattle.vg_kernel.specs.Script.{Words, script_from, script_left}
use Rattle.vg_kernel.specs.Words.{is_free}
use Rattle.vg_kernel.proofs.Scripts.{same_text, text_is_itself}

-- a part is read as x, and these words are left
abbrev pub Reads : {X : Type 0} → Result (X × Reading) KernelFault → X → Words → Type 0
Reads read x behind = (r : Reading) × (read ≡ Ok (x, r)) × (script_left r ≡ Some behind)

-- a text that a test tells from another is not that
pub not_text : (p : List ℕ → Bool) (bytes text : List ℕ) → p bytes ≡ true → p text ≡ false → bytes_eq bytes text ≡ false
not_text p bytes text t f = elim (cases_Bool (bytes_eq bytes text)) [ inl e ↦ absurd (let same : false ≡ true = sym f ∙ ap p (sym (same_text bytes text e)) ∙ t in cc) | inr e ↦ e ]

first_of : (v w : Spelled) (o : Option Words) (ws : Words) → option_map (λ b. v ∷ b) o ≡ Some (w ∷ ws) → (v ≡ w) × (o ≡ Some ws)
first_of v w None ws e = cc
first_of v w (Some b) ws e = let same : v ∷ b ≡ w ∷ ws = cc in (cc, cc)

-- the first word that is left
pub word-again : (r : Reading) (w : Spelled) (ws : Words) → script_left r ≡ Some (w ∷ ws) → (r' : Reading) × (word_at r ≡ Ok (w, r')) × (script_left r' ≡ Some ws)
unfolding script_from
word-again r w ws e = by_left r.text r.left e
  where
    by_left : (text : List ℕ) (ls : Lexemes) → script_from text ls ≡ Some (w ∷ ws) → (r' : Reading) × (word_from text ls ≡ Ok (w, r')) × (script_left r' ≡ Some ws)
    by_left text (token t rest) e =
        let both = first_of _ w (script_from text rest) ws e in
        (record { text = text; left = rest }, ap (λ (v : Spelled). Ok (v, record { text = text; left = rest })) both.0, both.1)
    by_left text (finish t) e = cc
    by_left text (fault p) e = cc

pub next-again : (r : Reading) (w : Spelled) (ws : Words) → script_left r ≡ Some (w ∷ ws) → Reads (next_at r) w ws
next-again r w ws e = let n = word-again r w ws e in (n.0, rw n.1 refl, n.2)

-- this very word
pub expect-again : (text : List ℕ) (r : Reading) (w : Spelled) (ws : Words) → w.bytes ≡ text → script_left r ≡ Some (w ∷ ws) → (r' : Reading) × (expect_at text r ≡ Ok r') × (script_left r' ≡ Some ws)
expect-again text r w ws is e =
    let x = next-again r w ws e in
    let same : bytes_eq w.bytes text ≡ true = ap (λ (b : List ℕ). bytes_eq b text) is ∙ text_is_itself text in
    (x.0, rw (x.1, same) refl, x.2)

-- no word
pub end-again : (r : Reading) → script_left r ≡ Some [] → (r' : Reading) × (end_at r ≡ Ok r')
unfolding script_from
end-again r e = by_left r.text r.left e
  where
    cons_some : (v : Spelled) (o : Option Words) → option_map (λ b. v ∷ b) o ≡ Some [] → ⊥
    cons_some v None e = cc
    cons_some v (Some b) e = let no : v ∷ b ≡ [] = cc in cc

    by_left : (text : List ℕ) (ls : Lexemes) → script_from text ls ≡ Some [] → (r' : Reading) × (end_at (record { text = text; left = ls }) ≡ Ok r')
    by_left text (token t rest) e = absurd (cons_some _ (script_from text rest) e)
    by_left text (finish t) e = (record { text = text; left = finish t }, refl)
    by_left text (fault p) e = cc

-- a name that may be given
pub name-again : (w : Spelled) (r : Reading) (ws : Words) → IsTrue (is_free w.bytes) → script_left r ≡ Some (w ∷ ws) → Reads (name_at r) w ws
name-again w r ws free e =
    let x = next-again r w ws e in
    (x.0, rw (x.1, free) refl, x.2)

-- a distance after a sign
offset-again : (negative : Bool) (k : ℕ) (digits : Spelled) (offset : ℤ) (r : Reading) (ws : Words) → IsDistance negative digits offset → script_left r ≡ Some (digits ∷ ws) → Reads (offset_at negative k r) (record { pointer = k; offset = offset }) ws
unfolding offset_at
offset-again negative k digits offset r ws (n, number, fits) e =
    let x = next-again r digits ws e in
    (x.0, rw (x.1, number, fits) refl, x.2)

-- a word after which no sign of an offset stands
abbrev pub IsNoSign : Spelled → Type 0
IsNoSign v = (bytes_eq v.bytes (codes "+") ≡ false) × (bytes_eq v.bytes (codes "-") ≡ false)

-- a pointer, a sign and a distance
signed-again : (names : Names) (p sign digits : Spelled) (a : Address) (r : Reading) (ws : Words) → IsPointer names p a.pointer → SpellsOffset sign digits a.offset → script_left r ≡ Some (p ∷ sign ∷ digits ∷ ws) → Reads (address_at names r) a ws
unfolding address_at
signed-again names p sign digits a r ws pointer offset e =
    let n = name-again p r (sign ∷ digits ∷ ws) pointer.0 e in
    let s = next-again n.0 sign (digits ∷ ws) n.2 in
    elim offset [
      | inl plus ↦
          let o = offset-again false a.pointer digits a.offset s.0 ws plus.1 s.2 in
          let is : bytes_eq sign.bytes (codes "+") ≡ true = ap (λ (t : List ℕ). bytes_eq t (codes "+")) plus.0 in
          (o.0, rw (n.1, pointer.1, s.1, is) o.1, o.2)
      | inr minus ↦
          let o = offset-again true a.pointer digits a.offset s.0 ws minus.1 s.2 in
          let no : bytes_eq sign.bytes (codes "+") ≡ false = ap (λ (t : List ℕ). bytes_eq t (codes "+")) minus.0 in
          let is : bytes_eq sign.bytes (codes "-") ≡ true = ap (λ (t : List ℕ). bytes_eq t (codes "-")) minus.0 in
          (o.0, rw (n.1, pointer.1, s.1, no, is) o.1, o.2)
    ]

-- a pointer alone
plain-again : (names : Names) (p : Spelled) (a : Address) (r : Reading) (v : Spelled) (vs : Words) → IsPointer names p a.pointer → a.offset ≡ pos 0 → IsNoSign v → script_left r ≡ Some (p ∷ v ∷ vs) → Reads (address_at names r) a (v ∷ vs)
unfolding address_at
plain-again names p a r v vs pointer offset none e =
    let n = name-again p r (v ∷ vs) pointer.0 e in
    let s = next-again n.0 v vs n.2 in
    (n.0, rw (n.1, pointer.1, s.1, none.0, none.1, ← offset) refl, n.2)

-- where an access begins
pub address-again : (names : Names) (ws : Words) (a : Address) (r : Reading) (v : Spelled) (vs : Words) → SpellsAddress names ws a → IsNoSign v → script_left r ≡ Some (ws ++ v ∷ vs) → Reads (address_at names r) a (v ∷ vs)
address-again names [] a r v vs is none e = absurd is
address-again names (p ∷ []) a r v vs is none e = plain-again names p a r v vs is.0 is.1 none e
address-again names (p ∷ s ∷ []) a r v vs is none e = absurd is
address-again names (p ∷ s ∷ d ∷ []) a r v vs is none e = signed-again names p s d a r (v ∷ vs) is.0 is.1 e
address-again names (p ∷ s ∷ d ∷ x ∷ xs) a r v vs is none e = absurd is
