-- Lists of items that were read.
use Rattle.std.proofs.Common.{◌≡◌, ℕ, zero, suc, ◌<◌, Bool, true, false, List, [], ◌∷◌, ◌++◌, Result, Ok, refl, sym, ◌∙◌, ap, subst, inl, inr, arith, append_assoc}
use Rattle.vg_base.specs.Bind.{◌>>=◌}
use Rattle.vg_base.proofs.Bind.{bind_ok, either_way}
use Rattle.vg_text.specs.Words.{Reading, Spelled}
use Rattle.vg_pseudo.specs.declared.fault.PseudoFault.{PseudoFault}
use Rattle.vg_pseudo.specs.Grammar.{Words}
use Rattle.vg_pseudo.specs.Reader.{unread, Follows, items_from, items_behind}
use Rattle.vg_pseudo.proofs.Taking.{ok_once}
use Rattle.vg_pseudo_laws.proofs.Standing.{Reads, ◌▷◌, no-words, Reads-fewer}

-- An item was read: its words, of which there is one at least, and what is said of them.
pub record FoundItem {X : Type 0} (One : Words → X → Type 0) (r : Reading) (x : X × Reading) : Type 0 where
  pub first : Spelled
  pub rest : Words
  pub is : One (first ∷ rest) x.0
  pub reads : Reads (first ∷ rest) r x.1

-- items one after the other
pub data Many {X : Type 0} (One : Words → X → Type 0) : Words → List X → Type 0 where
  nothing : Many One [] []
  another : (ws more : Words) (x : X) (xs : List X) → One ws x → Many One more xs → Many One (ws ++ more) (x ∷ xs)

-- what tells of a list of items that each is one, and that the test takes nothing where none follows
pub record SoundItems {X : Type 0} (One : Words → X → Type 0) (follows : Follows) (item : Reading → Result (X × Reading) PseudoFault) : Type 0 where
  pub goes : (r q : Reading) (x : X × Reading) → follows r ≡ Ok (true, q) → item q ≡ Ok x → FoundItem One r x
  pub stays : (r q : Reading) → follows r ≡ Ok (false, q) → q ≡ r

-- Items were read after those that were done: their words, and that no more follows.
pub record FoundItems {X : Type 0} (One : Words → X → Type 0) (follows : Follows) (done : List X) (r : Reading) (x : List X × Reading) : Type 0 where
  pub items : List X
  pub words : Words
  pub all : x.0 ≡ done ++ items
  pub are : Many One words items
  pub reads : Reads words r x.1
  pub ended : follows x.1 ≡ Ok (false, x.1)

module _ {X : Type 0} (One : Words → X → Type 0) (follows : Follows) (item : Reading → Result (X × Reading) PseudoFault) (sound : SoundItems One follows item) where
  none-found : (done : List X) (r : Reading) (b : Bool × Reading) (x : List X × Reading) → follows r ≡ Ok b → b.0 ≡ false → (let whole : Result (List X × Reading) PseudoFault = Ok (done, b.1) in whole ≡ Ok x) → FoundItems One follows done r x
  none-found done r b x e n h =
      let same : b.1 ≡ r = sound.stays r b.1 (rw e (ap (λ (t : Bool). Ok (t, b.1)) n)) in
      subst (FoundItems One follows done r) (ap (λ (m : Reading). (done, m)) (sym same) ∙ ok_once _ x h)
      (record { items = []; words = []; all = append_nil' done; are = nothing; reads = no-words r; ended = rw e (ap (λ (t : Bool). Ok (t, b.1)) n ∙ ap (λ (m : Reading). Ok (false, m)) same) })
    where
      append_nil' : (l : List X) → l ≡ l ++ []
      append_nil' [] = refl
      append_nil' (y ∷ ys) = ap (λ (t : List X). y ∷ t) (append_nil' ys)

  more-found : (done : List X) (r : Reading) (y : X × Reading) (x : List X × Reading) → FoundItem One r y → FoundItems One follows (done ++ y.0 ∷ []) y.1 x → FoundItems One follows done r x
  more-found done r y x one more = record {
    items = y.0 ∷ more.items;
    words = (one.first ∷ one.rest) ++ more.words;
    all = more.all ∙ append_assoc done (y.0 ∷ []) more.items;
    are = another (one.first ∷ one.rest) more.words y.0 more.items one.is more.are;
    reads = one.reads ▷ more.reads;
    ended = more.ended;
  }

  from-found : (room : ℕ) (done : List X) (r : Reading) (x : List X × Reading) → unread r < room → items_from follows item room done r ≡ Ok x → FoundItems One follows done r x
  unfolding items_from
  from-found zero done r x few e = absurd (omega arith)
  from-found (suc room) done r x few e =
      let b = bind_ok (follows r) _ e in
      elim (either_way b.0.0 (item b.0.1 >>= λ y. items_from follows item room (done ++ y.0 ∷ []) y.1) (Ok (done, b.0.1)) b.2) [
        | inl follow ↦
            let y = bind_ok (item b.0.1) _ follow.1 in
            let one = sound.goes r b.0.1 y.0 (b.1 ∙ ap (λ (t : Bool). Ok (t, b.0.1)) follow.0) y.1 in
            let fewer = Reads-fewer one.reads in
            more-found done r y.0 x one (from-found room (done ++ y.0.0 ∷ []) y.0.1 x (omega arith) y.2)
        | inr ended ↦ none-found done r b.0 x b.1 ended.0 ended.1
      ]

  pub items-found : (done : List X) (r : Reading) (x : List X × Reading) → items_behind follows item done r ≡ Ok x → FoundItems One follows done r x
  items-found done r x e = from-found (suc (unread r)) done r x (omega arith) e
