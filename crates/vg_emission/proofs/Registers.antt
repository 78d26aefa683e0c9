-- What lines do to scalars and registers, and what a draft knows of them.
use Rattle.std.proofs.Common.{◌≡◌, ℕ, ◌+◌, ◌<◌, List, [], ◌∷◌, ◌++◌, length, Option, Some, None, sym, ap, subst, ◌∙◌, ◌⊎◌, inl, inr, arith, length-append, get_or}
use Rattle.std.specs.Prelude.{slice_set}
use Rattle.std.proofs.Math.ListN.{set}
use Rattle.std.proofs.lemmas.Bool.{cases_eq, cases_lt}
use Rattle.std.proofs.lemmas.List.{get_or-set_same, get_or-set_other, get_or_append_left, set_past, get_or_push, length_push}
use Rattle.vg_program.specs.Meaning.{State, with_scalar, with_vector}
use Rattle.vg_emission.specs.Draft.{Draft, found, with_name, with_held, with_vectors, with_built}
use Rattle.vg_emission.specs.Emission.{Job, operand_at, pack_at}
use Rattle.vg_emission.specs.Promises.{Fills, Holds}

-- a list has this at an index
abbrev pub Has : {A : Type 0} → List A → ℕ → A → Type 0
Has {A} xs k x = (k < length xs) × ((d : A) → get_or xs k d ≡ x)

pub Has-more : {A : Type 0} (xs ys : List A) (k : ℕ) (x : A) → Has xs k x → Has (xs ++ ys) k x
Has-more xs ys k x h = (let below = h.0 in omega (arith, length-append xs ys), λ d. get_or_append_left xs ys d k h.0 ∙ h.1 d)

pub Has-last : {A : Type 0} (xs : List A) (k : ℕ) (x : A) → length xs ≡ k → Has (xs ++ x ∷ []) k x
Has-last xs k x e = (omega (arith, length_push xs x), λ d. get_or_push xs x d k e)

-- a register holds the pack of a number
abbrev pub HoldsPack : Job → (ℕ → ℕ) → ℕ → List ℕ → Type 0
HoldsPack j numbers k reg = Holds j.descriptions j.ssa numbers (pack_at j k) reg

-- what a state has is what the draft says: the numbers of values, registers that hold packs, and registers that fill operands
pub record Stands (j : Job) (numbers : ℕ → ℕ) (d : Draft) (s : State) : Type 0 where
  pub scalars : length s.scalars ≡ d.scalars
  pub vectors : length s.vectors ≡ d.vectors
  pub names : (v r : ℕ) → found d.names v ≡ Some r → Has s.scalars r (numbers v)
  pub held : (k r : ℕ) → found d.held k ≡ Some r → (reg : List ℕ) × Has s.vectors r reg × HoldsPack j numbers k reg
  pub built : (o r : ℕ) → found d.built o ≡ Some r → (reg : List ℕ) × Has s.vectors r reg × Fills numbers (operand_at j o) reg

-- what a list has after a write
pub found-set : (rs : List (Option ℕ)) (k r j q : ℕ) → found (slice_set rs k (Some r)) j ≡ Some q → ((j ≡ k) × (r ≡ q)) ⊎ (found rs j ≡ Some q)
found-set rs k r j q e = elim (cases_eq j k) [
  | inl same ↦ elim (cases_lt k (length rs)) [
    | inl h ↦ inl (same, (let now : Some r ≡ Some q = sym (get_or-set_same rs k (Some r) None h) ∙ ap (found (set rs k (Some r))) (sym same) ∙ e in cc))
    | inr h ↦ inr (ap (λ l. found l j) (sym (set_past rs k (Some r) h)) ∙ e)
  ]
  | inr other ↦ inr (sym (get_or-set_other rs k j (Some r) None other) ∙ e)
]

-- one scalar more, of a value
pub Stands-name : (j : Job) (numbers : ℕ → ℕ) (d : Draft) (s : State) (v : ℕ) → Stands j numbers d s → Stands j numbers (with_name d v) (with_scalar s (numbers v))
Stands-name j numbers d s v h = record {
  scalars = length_push s.scalars _ ∙ ap (λ n. n + 1) h.scalars;
  vectors = h.vectors;
  names = λ u r e. elim (found-set d.names v d.scalars u r e) [
    | inl same ↦ subst (λ q. Has (s.scalars ++ numbers v ∷ []) q (numbers u)) same.1
        (subst (λ w. Has (s.scalars ++ numbers v ∷ []) d.scalars (numbers w)) (sym same.0) (Has-last s.scalars d.scalars (numbers v) h.scalars))
    | inr old ↦ Has-more s.scalars _ r _ (h.names u r old)
  ];
  held = h.held;
  built = h.built;
}

-- one register more, of which nothing is said
pub Stands-vector : (j : Job) (numbers : ℕ → ℕ) (d : Draft) (s : State) (reg : List ℕ) → Stands j numbers d s → Stands j numbers (with_vectors d 1) (with_vector s reg)
Stands-vector j numbers d s reg h = record {
  scalars = h.scalars;
  vectors = length_push s.vectors reg ∙ ap (λ n. n + 1) h.vectors;
  names = h.names;
  held = λ k r e. let x = h.held k r e in (x.0, Has-more s.vectors _ r x.0 x.1, x.2);
  built = λ k r e. let x = h.built k r e in (x.0, Has-more s.vectors _ r x.0 x.1, x.2);
}

-- the register of an operand is known
pub Stands-built : (j : Job) (numbers : ℕ → ℕ) (d : Draft) (s : State) (o r : ℕ) (reg : List ℕ) → Stands j numbers d s → Has s.vectors r reg → Fills numbers (operand_at j o) reg → Stands j numbers (with_built d o r) s
Stands-built j numbers d s o r reg h has fills = record {
  scalars = h.scalars;
  vectors = h.vectors;
  names = h.names;
  held = h.held;
  built = λ k q e. elim (found-set d.built o r k q e) [
    | inl same ↦ (reg, subst (λ n. Has s.vectors n reg) same.1 has, subst (λ n. Fills numbers (operand_at j n) reg) (sym same.0) fills)
    | inr old ↦ h.built k q old
  ];
}

-- the register of a pack
pub Stands-held : (j : Job) (numbers : ℕ → ℕ) (d : Draft) (s : State) (k : ℕ) (reg : List ℕ) → Stands j numbers d s → HoldsPack j numbers k reg → Stands j numbers (with_held d k) (with_vector s reg)
Stands-held j numbers d s k reg h holds = record {
  scalars = h.scalars;
  vectors = length_push s.vectors reg ∙ ap (λ n. n + 1) h.vectors;
  names = h.names;
  held = λ n r e. elim (found-set d.held k d.vectors n r e) [
    | inl same ↦ (reg, subst (λ q. Has (s.vectors ++ reg ∷ []) q reg) same.1 (Has-last s.vectors d.vectors reg h.vectors), subst (λ q. HoldsPack j numbers q reg) (sym same.0) holds)
    | inr old ↦ let x = h.held n r old in (x.0, Has-more s.vectors _ r x.0 x.1, x.2)
  ];
  built = λ n r e. let x = h.built n r e in (x.0, Has-more s.vectors _ r x.0 x.1, x.2);
}

-- with another memory they are the same
pub Stands-memory : (j : Job) (numbers : ℕ → ℕ) (d : Draft) (s : State) (m : List ℕ) → Stands j numbers d s → Stands j numbers d (record { memory = m; scalars = s.scalars; vectors = s.vectors })
Stands-memory j numbers d s m h = record { scalars = h.scalars; vectors = h.vectors; names = h.names; held = h.held; built = h.built }
