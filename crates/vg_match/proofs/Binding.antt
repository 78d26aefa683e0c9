-- What leaves are bound to, and what one leaf more leaves as it was.
use Rattle.std.proofs.Common.{◌≡◌, ℕ, ◌⊎◌, Bool, true, false, List, [], ◌∷◌, ◌++◌, Some, None, refl, sym, subst, ◌∙◌, inl, inr, append-nil}
use Rattle.std.specs.Prelude.{◌&&◌, nat_eq}
use Rattle.std.specs.Ordering.{int_eq}
use Rattle.std.specs.List.{AllByRecursion}
use Rattle.std.specs.List.{IsDistinct}
use Rattle.std.proofs.lemmas.Bool.{cases_Bool, and_parts, and_from, eqb-true, eq-eqb, both_ways, cond-true, cond-false}
use Rattle.std.proofs.lemmas.Bool.Decides.{Decides-int_eq}
use Rattle.vg_terms.specs.declared.term.LeafKey.{LeafKey}
use Rattle.vg_terms.specs.Value.{same_key}
use Rattle.vg_shapes.specs.declared.match_table.Bound.{Bound}
use Rattle.vg_shapes.specs.declared.wanted.Wanted.{Wanted}
use Rattle.vg_shapes.specs.declared.wanted.Wanted.TheVariants.{Nothing}
use Rattle.vg_shapes.specs.Fits.{same_leaf, wanted_for}
use Rattle.vg_shapes.specs.Wanted.{same_wanted}
use Rattle.vg_shapes.proofs.SameWanted.{wanted-same}
use Rattle.vg_match.specs.Fit.{bind}
use Rattle.std.proofs.lemmas.Option.{none-some}
use Rattle.vg_match.proofs.Members.{some-same}

-- ---- tests that hold of one thing alone

key-same : (a b : LeafKey) → same_key a b ≡ true → a ≡ b
key-same a b t =
    let p = and_parts (nat_eq a.kind b.kind && nat_eq a.first b.first && int_eq a.second b.second) (nat_eq a.third b.third) t in
    let q = and_parts (nat_eq a.kind b.kind && nat_eq a.first b.first) (int_eq a.second b.second) p.0 in
    let r = and_parts (nat_eq a.kind b.kind) (nat_eq a.first b.first) q.0 in
    λ i. record {
      kind = eqb-true a.kind b.kind r.0 i;
      first = eqb-true a.first b.first r.1 i;
      second = (Decides-int_eq a.second b.second).0 q.1 i;
      third = eqb-true a.third b.third p.1 i;
    }

key-itself : (a : LeafKey) → same_key a a ≡ true
key-itself a =
    and_from _ _ (and_from _ _ (and_from _ _ (eq-eqb a.kind a.kind refl) (eq-eqb a.first a.first refl)) ((Decides-int_eq a.second a.second).1 refl)) (eq-eqb a.third a.third refl)

-- the leaf that an entry is of
abbrev pub is_leaf : ℕ → LeafKey → Bound → Bool
is_leaf w k b = nat_eq w b.width && same_key k b.key

pub leaf-same : (w : ℕ) (k : LeafKey) (b : Bound) → is_leaf w k b ≡ true → (w ≡ b.width) × (k ≡ b.key)
leaf-same w k b t = let p = and_parts (nat_eq w b.width) (same_key k b.key) t in (eqb-true w b.width p.0, key-same k b.key p.1)

pub leaf-itself : (w : ℕ) (k : LeafKey) → (nat_eq w w && same_key k k) ≡ true
leaf-itself w k = and_from (nat_eq w w) (same_key k k) (eq-eqb w w refl) (key-itself k)

abbrev pub entry : ℕ → LeafKey → Wanted → Bound
entry w k x = record { key = k; width = w; wanted = x }

-- ---- one leaf more

-- a leaf is bound as before, or it is the new one
pub behind : (bound : List Bound) (e : Bound) (w : ℕ) (k : LeafKey) →
    (wanted_for (bound ++ e ∷ []) w k ≡ wanted_for bound w k) ⊎ ((w ≡ e.width) × (k ≡ e.key) × (wanted_for (bound ++ e ∷ []) w k ≡ e.wanted))
behind [] e w k = elim (cases_Bool (is_leaf w k e)) [
  | inl t ↦ let p = leaf-same w k e t in inr (p.0, p.1, cond-true (is_leaf w k e) e.wanted Nothing t)
  | inr f ↦ inl (cond-false (is_leaf w k e) e.wanted Nothing f)
]
behind (b ∷ bound) e w k = elim (cases_Bool (is_leaf w k b)) [
  | inl t ↦ inl (cond-true (is_leaf w k b) b.wanted (wanted_for (bound ++ e ∷ []) w k) t ∙ sym (cond-true (is_leaf w k b) b.wanted (wanted_for bound w k) t))
  | inr f ↦
      let skip : wanted_for (b ∷ (bound ++ e ∷ [])) w k ≡ wanted_for (bound ++ e ∷ []) w k = cond-false (is_leaf w k b) b.wanted (wanted_for (bound ++ e ∷ []) w k) f in
      elim (behind bound e w k) [
        | inl h ↦ inl (skip ∙ h ∙ sym (cond-false (is_leaf w k b) b.wanted (wanted_for bound w k) f))
        | inr h ↦ inr (h.0, h.1, skip ∙ h.2)
      ]
]

abbrev pub IsBound : List Bound → ℕ → LeafKey → Type 0
IsBound bound w k = same_wanted (wanted_for bound w k) Nothing ≡ false

-- what is bound stays bound to the same
pub kept : (bound : List Bound) (e : Bound) (w : ℕ) (k : LeafKey) → IsBound bound w k → wanted_for (bound ++ e ∷ []) w k ≡ wanted_for bound w k
kept [] e w k h = absurd (cc)
kept (b ∷ bound) e w k h = elim (cases_Bool (is_leaf w k b)) [
  | inl t ↦ cond-true (is_leaf w k b) b.wanted (wanted_for (bound ++ e ∷ []) w k) t ∙ sym (cond-true (is_leaf w k b) b.wanted (wanted_for bound w k) t)
  | inr f ↦
      let there : IsBound bound w k = subst (λ x. same_wanted x Nothing ≡ false) (cond-false (is_leaf w k b) b.wanted (wanted_for bound w k) f) h in
      cond-false (is_leaf w k b) b.wanted (wanted_for (bound ++ e ∷ []) w k) f ∙ kept bound e w k there ∙ sym (cond-false (is_leaf w k b) b.wanted (wanted_for bound w k) f)
]

-- nothing is bound to nothing
abbrev pub Solid : List Bound → Type 0
Solid bound = AllByRecursion (λ b. same_wanted b.wanted Nothing ≡ false) bound

-- a leaf that is not bound is of no entry
pub no_entry : (bound : List Bound) (w : ℕ) (k : LeafKey) → Solid bound → same_wanted (wanted_for bound w k) Nothing ≡ true → AllByRecursion (λ b. is_leaf w k b ≡ false) bound
no_entry [] w k s h = tt
no_entry (b ∷ bound) w k s h = elim (cases_Bool (is_leaf w k b)) [
  | inl t ↦ absurd (both_ways (same_wanted b.wanted Nothing) s.0 (subst (λ x. same_wanted x Nothing ≡ true) (cond-true (is_leaf w k b) b.wanted (wanted_for bound w k) t) h))
  | inr f ↦ (f, no_entry bound w k s.1 (subst (λ x. same_wanted x Nothing ≡ true) (cond-false (is_leaf w k b) b.wanted (wanted_for bound w k) f) h))
]

pub last : (bound : List Bound) (w : ℕ) (k : LeafKey) (x : Wanted) → AllByRecursion (λ b. is_leaf w k b ≡ false) bound → wanted_for (bound ++ entry w k x ∷ []) w k ≡ x
last [] w k x h = cond-true (nat_eq w w && same_key k k) x Nothing (leaf-itself w k)
last (b ∷ bound) w k x h = cond-false (is_leaf w k b) b.wanted (wanted_for (bound ++ entry w k x ∷ []) w k) h.0 ∙ last bound w k x h.1

pub all-behind : (P : Bound → Type 0) (bound : List Bound) (e : Bound) → AllByRecursion P bound → P e → AllByRecursion P (bound ++ e ∷ [])
all-behind P [] e h p = (p, tt)
all-behind P (b ∷ bound) e h p = (h.0, all-behind P bound e h.1 p)

other-leaf : (w : ℕ) (k : LeafKey) (b : Bound) (x : Wanted) → is_leaf w k b ≡ false → same_leaf b (entry w k x) ≡ false
other-leaf w k b x f = elim (cases_Bool (same_leaf b (entry w k x))) [
  | inl t ↦
      let p = and_parts (nat_eq b.width w) (same_key b.key k) t in
      let same : is_leaf w k b ≡ true = subst (λ u. (nat_eq w u && same_key k b.key) ≡ true) (sym (eqb-true b.width w p.0)) (subst (λ l. (nat_eq w w && same_key k l) ≡ true) (sym (key-same b.key k p.1)) (leaf-itself w k)) in
      absurd (both_ways (is_leaf w k b) f same)
  | inr g ↦ g
]

pub distinct-behind : (bound : List Bound) (w : ℕ) (k : LeafKey) (x : Wanted) → AllByRecursion (λ b. is_leaf w k b ≡ false) bound → IsDistinct same_leaf bound → IsDistinct same_leaf (bound ++ entry w k x ∷ [])
unfolding IsDistinct
distinct-behind [] w k x h d = (tt, tt)
distinct-behind (b ∷ bound) w k x h d = (all-behind (λ y. same_leaf b y ≡ false) bound (entry w k x) d.0 (other-leaf w k b x h.0), distinct-behind bound w k x h.1 d.1)

-- ---- what `bind` gives

pub bind-new : (w : ℕ) (k : LeafKey) (x : Wanted) (bound : List Bound) → same_wanted x Nothing ≡ false → same_wanted (wanted_for bound w k) Nothing ≡ true → bind w k x bound ≡ Some (bound ++ entry w k x ∷ [])
unfolding bind
bind-new w k x bound f t = cond-false (same_wanted x Nothing) None _ f ∙ cond-true (same_wanted (wanted_for bound w k) Nothing) _ _ t

pub bind-again : (w : ℕ) (k : LeafKey) (x : Wanted) (bound : List Bound) → same_wanted x Nothing ≡ false → same_wanted (wanted_for bound w k) Nothing ≡ false → same_wanted (wanted_for bound w k) x ≡ true → bind w k x bound ≡ Some bound
unfolding bind
bind-again w k x bound f g t = cond-false (same_wanted x Nothing) None _ f ∙ cond-false (same_wanted (wanted_for bound w k) Nothing) _ _ g ∙ cond-true (same_wanted (wanted_for bound w k) x) _ _ t

-- lists of which each leaf is bound once, and to something
pub record Good (bound : List Bound) : Type 0 where
  pub solid : Solid bound
  pub once : IsDistinct same_leaf bound

-- what binding one leaf leaves
pub record Binds (w : ℕ) (k : LeafKey) (x : Wanted) (bound after : List Bound) : Type 0 where
  pub more : List Bound
  pub grows : after ≡ bound ++ more
  pub of : AllByRecursion (λ b. (b.width ≡ w) × (b.key ≡ k)) more
  pub good : Good after
  pub keeps : (u : ℕ) (l : LeafKey) → IsBound bound u l → wanted_for after u l ≡ wanted_for bound u l
  pub is : wanted_for after w k ≡ x
  pub something : same_wanted x Nothing ≡ false

pub bind-binds : (w : ℕ) (k : LeafKey) (x : Wanted) (bound after : List Bound) → Good bound → bind w k x bound ≡ Some after → Binds w k x bound after
unfolding bind
bind-binds w k x bound after g e = elim (cases_Bool (same_wanted x Nothing)) [
  | inl t ↦ absurd (none-some after (sym (cond-true (same_wanted x Nothing) None _ t) ∙ e))
  | inr f ↦
      let e1 = sym (cond-false (same_wanted x Nothing) None _ f) ∙ e in
      elim (cases_Bool (same_wanted (wanted_for bound w k) Nothing)) [
        | inl t ↦
            let same : bound ++ entry w k x ∷ [] ≡ after = some-same _ _ (sym (cond-true (same_wanted (wanted_for bound w k) Nothing) _ _ t) ∙ e1) in
            let none = no_entry bound w k g.solid t in
            subst (Binds w k x bound) same (record {
              more = entry w k x ∷ [];
              grows = refl;
              of = ((refl, refl), tt);
              good = record { solid = all-behind (λ b. same_wanted b.wanted Nothing ≡ false) bound (entry w k x) g.solid f; once = distinct-behind bound w k x none g.once };
              keeps = λ u l h. kept bound (entry w k x) u l h;
              is = last bound w k x none;
              something = f;
            })
        | inr h ↦
            let e2 = sym (cond-false (same_wanted (wanted_for bound w k) Nothing) _ _ h) ∙ e1 in
            elim (cases_Bool (same_wanted (wanted_for bound w k) x)) [
              | inl t ↦
                  let same : bound ≡ after = some-same _ _ (sym (cond-true (same_wanted (wanted_for bound w k) x) _ _ t) ∙ e2) in
                  subst (Binds w k x bound) same (record {
                    more = [];
                    grows = sym (append-nil bound);
                    of = tt;
                    good = g;
                    keeps = λ u l b. refl;
                    is = wanted-same (wanted_for bound w k) x t;
                    something = f;
                  })
              | inr n ↦ absurd (none-some after (sym (cond-false (same_wanted (wanted_for bound w k) x) _ _ n) ∙ e2))
            ]
      ]
]
