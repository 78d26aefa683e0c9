-- What is read as an expression that begins with a name and is no call is in the language.
use Rattle.std.proofs.Common.{◌≡◌, ℕ, suc, ◌≤◌, Bool, false, [], ◌∷◌, ◌++◌, Some, Ok, refl, sym, ap, subst, inl, inr, arith}
use Rattle.std.specs.Prelude.{codes, is_some, IsTrue, if◌then◌else◌}
use Rattle.vg_base.specs.Bind.{or_fault}
use Rattle.vg_base.proofs.Bind.{bind_ok}
use Rattle.vg_base.specs.declared.width.Width.{Width}
use Rattle.vg_text.specs.Words.{Reading, Spelled}
use Rattle.vg_pseudo.specs.declared.fault.PseudoFault.TheVariants.{Shape}
use Rattle.vg_pseudo.specs.Tree.{name, slice}
use Rattle.vg_pseudo.specs.Spots.{spot_at}
use Rattle.vg_pseudo.specs.Definitions.{Context}
use Rattle.vg_pseudo.specs.Words.{element_named}
use Rattle.vg_pseudo.specs.Grammar.{Words, Is, IsName, IsExpression, named, sliced, indexed, placed, parted, is_target}
use Rattle.vg_pseudo.specs.Reader.{next_at, expect_at, accept_at}
use Rattle.vg_pseudo.specs.Expressions.{Part, Inner, Index, leaf, above_two, slice_end, bracket_at, element_end, element_at, form_at}
use Rattle.vg_pseudo.proofs.Taking.{ok_once}
use Rattle.vg_pseudo_laws.proofs.Standing.{Reads, ◌▷◌, no-words, FoundWord, fault-some, tested-found, expect-found, accept-found}

-- An expression was read: its words, and how deep it is at most.
pub record Found (context : Context) (most level : ℕ) (r : Reading) (x : Part × Reading) : Type 0 where
  pub words : Words
  pub is : IsExpression context level words x.0
  pub reads : Reads words r x.1
  pub deep : x.0.depth ≤ most

-- whatever a reader of inner expressions gives is in the language, and at most so deep
abbrev pub Sound : Context → ℕ → Inner → Type 0
Sound context room inner = (level : ℕ) (r : Reading) (x : Part × Reading) → inner level r ≡ Ok x → Found context room level r x

abbrev pub SoundIndex : Context → ℕ → Index → Type 0
SoundIndex context room index = (r : Reading) (x : Part × Reading) → index r ≡ Ok x → Found context room 7 r x

-- The rest of an expression was read after the name with which it begins; it may be a target.
pub record FoundForm (context : Context) (most : ℕ) (w : Spelled) (r : Reading) (x : Part × Reading) : Type 0 where
  pub rest : Words
  pub is : IsExpression context 0 (w ∷ rest) x.0
  pub reads : Reads rest r x.1
  pub deep : x.0.depth ≤ most
  pub target : IsTrue (is_target x.0.expression)

-- the low index of a slice, and its bracket
record FoundSlice (context : Context) (room : ℕ) (w : Spelled) (high : Part) (r : Reading) (x : Part × Reading) : Type 0 where
  words : Words
  low : Part
  is_low : IsExpression context 7 words low
  deep : low.depth ≤ room
  closing : Spelled
  is_closing : Is closing (codes "]")
  reads : Reads (words ++ closing ∷ []) r x.1
  same : x.0 ≡ above_two (slice (spot_at w.place) w.bytes high.expression low.expression) high low

slice-found : (context : Context) (room : ℕ) (index : Index) → SoundIndex context room index → (w : Spelled) (high : Part) (r : Reading) (x : Part × Reading) → slice_end index w high r ≡ Ok x → FoundSlice context room w high r x
unfolding slice_end
slice-found context room index sound w high r x e =
    let l = bind_ok (index r) _ e in
    let c = bind_ok (expect_at (codes "]") l.0.1) _ l.2 in
    let f = sound r l.0 l.1 in
    let closing = expect-found 93 [] l.0.1 c.0 c.1 in
    subst (FoundSlice context room w high r) (ok_once _ x c.2)
    (record { words = f.words; low = l.0.0; is_low = f.is; deep = f.deep; closing = closing.word; is_closing = closing.is; reads = f.reads ▷ closing.reads; same = refl })

sliced-found : (context : Context) (room : ℕ) (w opening colon : Spelled) (hs : Words) (high : Part) (r m n q : Reading) (x : Part × Reading)
    → IsName w → Is opening (codes "[") → IsExpression context 7 hs high → high.depth ≤ room → Is colon (codes ":") → Reads (opening ∷ []) r m → Reads hs m n → Reads (colon ∷ []) n q → FoundSlice context room w high q x → FoundForm context (suc room) w r x
sliced-found context room w opening colon hs high r m n q x name_is opening_is high_is deep colon_is first second third f =
    subst (λ (p : Part). FoundForm context (suc room) w r (p, x.1)) (sym f.same)
    (record {
      rest = opening ∷ (hs ++ colon ∷ (f.words ++ f.closing ∷ []));
      is = sliced w opening colon f.closing hs f.words high f.low name_is opening_is high_is colon_is f.is_low f.is_closing;
      reads = first ▷ second ▷ third ▷ f.reads;
      deep = let d = f.deep in omega arith;
      target = refl;
    })

-- brackets after a name
bracket-found : (context : Context) (room : ℕ) (index : Index) → SoundIndex context room index → (w : Spelled) (r m : Reading) (x : Part × Reading) → IsName w → FoundWord (codes "[") r m → bracket_at index w m ≡ Ok x → FoundForm context (suc room) w r x
unfolding bracket_at
bracket-found context room index sound w r m x name_is opening e =
    let h = bind_ok (index m) _ e in
    let f = sound m h.0 h.1 in
    let a = bind_ok (accept_at (codes ":") h.0.1) _ h.2 in
    elim (accept-found 58 [] h.0.1 a.0 a.1) [
      | inl colon ↦
          let low = slice-found context room index sound w h.0.0 a.0.1 x (rw colon.0 at a.2) in
          sliced-found context room w opening.word colon.1.word f.words h.0.0 r m h.0.1 a.0.1 x name_is opening.is f.is f.deep colon.1.is opening.reads f.reads colon.1.reads low
      | inr none ↦
          let c = bind_ok (expect_at (codes "]") a.0.1) _ (rw none.0 at a.2) in
          let closing = expect-found 93 [] a.0.1 c.0 c.1 in
          let last = subst (λ (n : Reading). Reads (closing.word ∷ []) n c.0.1) none.1 closing.reads in
          subst (FoundForm context (suc room) w r) (ok_once _ x c.2)
          (record {
            rest = opening.word ∷ (f.words ++ closing.word ∷ []);
            is = indexed w opening.word closing.word f.words h.0.0 name_is opening.is f.is closing.is;
            reads = opening.reads ▷ f.reads ▷ last;
            deep = let d = f.deep in omega arith;
            target = refl;
          })
    ]

-- an element after a name
nothing_is_no_element : is_some (element_named []) ≡ false
nothing_is_no_element = refl

element-end-found : (context : Context) (room : ℕ) (index : Index) → SoundIndex context room index → (w text : Spelled) (size : Width) (r m n q : Reading) (x : Part × Reading)
    → IsName w → (dot : FoundWord (codes ".") r m) → element_named text.bytes ≡ Some size → Reads (text ∷ []) m n → FoundWord (codes "[") n q → element_end index w size q ≡ Ok x → FoundForm context (suc room) w r x
unfolding element_end
element-end-found context room index sound w text size r m n q x name_is dot text_is second opening e =
    let k = bind_ok (index q) _ e in
    let c = bind_ok (expect_at (codes "]") k.0.1) _ k.2 in
    let f = sound q k.0 k.1 in
    let closing = expect-found 93 [] k.0.1 c.0 c.1 in
    subst (FoundForm context (suc room) w r) (ok_once _ x c.2)
    (record {
      rest = dot.word ∷ text ∷ opening.word ∷ (f.words ++ closing.word ∷ []);
      is = placed w dot.word text opening.word closing.word size f.words k.0.0 name_is dot.is text_is opening.is f.is closing.is;
      reads = dot.reads ▷ second ▷ opening.reads ▷ f.reads ▷ closing.reads;
      deep = let d = f.deep in omega arith;
      target = refl;
    })

element-found : (context : Context) (room : ℕ) (index : Index) → SoundIndex context room index → (w : Spelled) (r m : Reading) (x : Part × Reading) → IsName w → FoundWord (codes ".") r m → element_at index w m ≡ Ok x → FoundForm context (suc room) w r x
unfolding element_at
element-found context room index sound w r m x name_is dot e =
    let t = bind_ok (next_at m) _ e in
    let s = bind_ok (or_fault (element_named t.0.0.bytes) (Shape t.0.0.place)) _ t.2 in
    let o = bind_ok (accept_at (codes "[") t.0.1) _ s.2 in
    let text_is = fault-some (element_named t.0.0.bytes) _ s.0 s.1 in
    let text = tested-found (λ b. is_some (element_named b)) m t.0 t.1 (ap is_some text_is) nothing_is_no_element in
    elim (accept-found 91 [] t.0.1 o.0 o.1) [
      | inl opening ↦ element-end-found context room index sound w t.0.0 s.0 r m t.0.1 o.0.1 x name_is dot text_is text opening.1 (rw opening.0 at o.2)
      | inr none ↦
          subst (FoundForm context (suc room) w r) (ok_once _ x (rw none.0 at o.2))
          (record {
            rest = dot.word ∷ t.0.0 ∷ [];
            is = parted w dot.word t.0.0 s.0 name_is dot.is text_is;
            reads = subst (λ (n : Reading). Reads (dot.word ∷ t.0.0 ∷ []) r n) (sym none.1) (dot.reads ▷ text);
            deep = omega arith;
            target = refl;
          })
    ]

-- what stands after a name that is no call
pub form-found : (context : Context) (room : ℕ) (index : Index) → SoundIndex context room index → (w : Spelled) (r : Reading) (x : Part × Reading) → IsName w → form_at index w r ≡ Ok x → FoundForm context (suc room) w r x
unfolding form_at
form-found context room index sound w r x name_is e =
    let b = bind_ok (accept_at (codes "[") r) _ e in
    elim (accept-found 91 [] r b.0 b.1) [
      | inl opening ↦ bracket-found context room index sound w r b.0.1 x name_is opening.1 (rw opening.0 at b.2)
      | inr none ↦ (let d = bind_ok (accept_at (codes ".") b.0.1) _ (rw none.0 at b.2) in subst (λ (m : Reading). FoundForm context (suc room) w m x) none.1 (behind b.0.1 d.0 d.1 d.2))
    ]
  where
    behind : (m : Reading) (d : Bool × Reading) → accept_at (codes ".") m ≡ Ok d → (if d.0 then element_at index w d.1 else Ok (leaf (name (spot_at w.place) w.bytes), d.1)) ≡ Ok x → FoundForm context (suc room) w m x
    behind m d t h =
        elim (accept-found 46 [] m d t) [
          | inl dot ↦ element-found context room index sound w m d.1 x name_is dot.1 (rw dot.0 at h)
          | inr none ↦
              subst (FoundForm context (suc room) w m) (ok_once _ x (rw none.0 at h))
              (record {
                rest = [];
                is = named w name_is;
                reads = subst (λ (n : Reading). Reads [] m n) (sym none.1) (no-words m);
                deep = omega arith;
                target = refl;
              })
        ]
