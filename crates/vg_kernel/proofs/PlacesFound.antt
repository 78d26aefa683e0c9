-- What is read as a place is in the language.
use Rattle.std.proofs.Common.{◌≡◌, ℕ, ℤ, Bool, true, false, List, [], ◌∷◌, Option, Some, None, Ok, refl, sym, ◌∙◌, ap, subst, inl, inr}
use Rattle.std.specs.Prelude.{codes, pos}
use Rattle.std.specs.Str.{bytes_eq}
use Rattle.vg_base.specs.Bind.{or_fault}
use Rattle.vg_base.proofs.Bind.{bind_ok, either_way}
use Rattle.vg_base.specs.declared.address.Address.{Address}
use Rattle.vg_text.specs.declared.place.Place.{Place}
use Rattle.vg_text.specs.Number.{decimal_value}
use Rattle.vg_text.specs.Words.{Reading, Spelled}
use Rattle.vg_kernel.specs.declared.fault.KernelFault.TheVariants.{Shape, LiteralRange}
use Rattle.vg_kernel.specs.declared.given.Given.{Given}
use Rattle.vg_kernel.specs.declared.given.Given.TheVariants as given
use Rattle.vg_kernel.specs.Grammar.{IsPointer, IsDistance, SpellsOffset, SpellsAddress}
use Rattle.vg_kernel.specs.Names.{Names, given_as}
use Rattle.vg_kernel.specs.Reader.{next_at, name_at, pointer_of, offset_at, address_at}
use Rattle.vg_kernel.specs.Script.{Words}
use Rattle.vg_kernel.specs.Words.{offset_of}
use Rattle.vg_kernel.proofs.Scripts.{Spells, Spells-append, same_text, ok_once, fault-some, next-found, name-found}

-- a number is no empty word
pub decimal-some : (bytes : List ℕ) (n : ℕ) → decimal_value bytes ≡ Some n → bytes ≡ [] → ⊥
unfolding decimal_value
decimal-some bytes n e none = let no : None ≡ Some n = ap decimal_value (sym none) ∙ e in cc

-- the distance after a sign
pub offset-found : (negative : Bool) (pointer : ℕ) (r : Reading) (x : Address × Reading) → offset_at negative pointer r ≡ Ok x
    → (digits : Spelled) × IsDistance negative digits x.0.offset × (x.0.pointer ≡ pointer) × Spells r (digits ∷ []) x.1
unfolding offset_at
offset-found negative pointer r x e =
    let w = bind_ok (next_at r) _ e in
    let n = bind_ok (or_fault (decimal_value w.0.0.bytes) (Shape w.0.0.place)) _ w.2 in
    let o = bind_ok (or_fault (offset_of negative n.0) (LiteralRange w.0.0.place)) _ n.2 in
    let distance = fault-some (decimal_value w.0.0.bytes) _ n.0 n.1 in
    let word = next-found r w.0 w.1 (decimal-some w.0.0.bytes n.0 distance) in
    let whole = ok_once (record { pointer = pointer; offset = o.0 }, w.0.1) x o.2 in
    subst (λ (q : Address × Reading). (digits : Spelled) × IsDistance negative digits q.0.offset × (q.0.pointer ≡ pointer) × Spells r (digits ∷ []) q.1) whole
    (w.0.0, (n.0, distance, fault-some (offset_of negative n.0) _ o.0 o.1), refl, word)

sign_of : Bool → List ℕ
sign_of false = codes "+"
sign_of true = codes "-"

sign-some : (negative : Bool) → sign_of negative ≡ [] → ⊥
unfolding sign_of
sign-some false e = cc
sign-some true e = cc

by_sign : (negative : Bool) (sign digits : Spelled) (offset : ℤ) → sign.bytes ≡ sign_of negative → IsDistance negative digits offset → SpellsOffset sign digits offset
unfolding sign_of
by_sign false sign digits offset s d = inl (s, d)
by_sign true sign digits offset s d = inr (s, d)

-- a pointer, a sign and a distance
signed : (names : Names) (r : Reading) (x : Address × Reading) (n : Spelled × Reading) (k : ℕ) (s : Spelled × Reading) (negative : Bool)
    → IsPointer names n.0 k → Spells r (n.0 ∷ []) n.1 → next_at n.1 ≡ Ok s → s.0.bytes ≡ sign_of negative → offset_at negative k s.1 ≡ Ok x → (ws : Words) × SpellsAddress names ws x.0 × Spells r ws x.1
signed names r x n k s negative pointer name next same e =
    let sign = next-found n.1 s next (λ none. sign-some negative (sym same ∙ none)) in
    let o = offset-found negative k s.1 x e in (
      n.0 ∷ s.0 ∷ o.0 ∷ [],
      (subst (λ (q : ℕ). IsPointer names n.0 q) (sym o.2) pointer, by_sign negative s.0 o.0 x.0.offset same o.1),
      Spells-append r n.1 x.1 (n.0 ∷ []) (s.0 ∷ o.0 ∷ []) name (Spells-append n.1 s.1 x.1 (s.0 ∷ []) (o.0 ∷ []) sign o.3),
    )

-- the pointer of a name
pointer-found : (g : Option Given) (place : Place) (k : ℕ) → pointer_of g place ≡ Ok k → g ≡ Some (given.Pointer k)
pointer-found (Some (given.Pointer j)) place k e = ap (λ (n : ℕ). Some (given.Pointer n)) (ok_once j k e)
pointer-found (Some (given.Argument j w)) place k e = cc
pointer-found (Some (given.Assigned j t)) place k e = cc
pointer-found None place k e = cc

-- where an access begins
pub address-found : (names : Names) (r : Reading) (x : Address × Reading) → address_at names r ≡ Ok x → (ws : Words) × SpellsAddress names ws x.0 × Spells r ws x.1
unfolding address_at sign_of
address-found names r x e =
    let n = bind_ok (name_at r) _ e in
    let k = bind_ok (pointer_of (given_as names n.0.0.bytes) n.0.0.place) _ n.2 in
    let s = bind_ok (next_at n.0.1) _ k.2 in
    let name = name-found r n.0 n.1 in
    let pointer : IsPointer names n.0.0 k.0 = (name.0, pointer-found (given_as names n.0.0.bytes) n.0.0.place k.0 k.1) in
    elim (either_way (bytes_eq s.0.0.bytes (codes "+")) (offset_at false k.0 s.0.1) _ s.2) [
      | inl plus ↦ signed names r x n.0 k.0 s.0 false pointer name.1 s.1 (same_text s.0.0.bytes (codes "+") plus.0) plus.1
      | inr more ↦ elim (either_way (bytes_eq s.0.0.bytes (codes "-")) (offset_at true k.0 s.0.1) _ more.1) [
        | inl minus ↦ signed names r x n.0 k.0 s.0 true pointer name.1 s.1 (same_text s.0.0.bytes (codes "-") minus.0) minus.1
        | inr plain ↦ subst (λ (q : Address × Reading). (ws : Words) × SpellsAddress names ws q.0 × Spells r ws q.1) (ok_once (record { pointer = k.0; offset = pos 0 }, n.0.1) x plain.1)
            (n.0.0 ∷ [], (pointer, refl), name.1)
      ]
    ]
