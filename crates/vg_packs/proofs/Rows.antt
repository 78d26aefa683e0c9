-- Walks from rows, one after the other.
use Rattle.std.proofs.Common.{◌≡◌, ℕ, zero, suc, ◌+◌, ◌<◌, ◌≤◌, ◌⊎◌, Bool, List, [], ◌∷◌, length, take, get_or, refl, sym, ◌∙◌, subst, inl, inr, arith}
use Rattle.std.specs.Prelude.{flat_map}
use Rattle.std.proofs.lemmas.List.{take_all, take_more}
use Rattle.vg_plans.specs.Members.{Has}
use Rattle.vg_plans.proofs.Members.{from-flat_map, has-append, has-flat}
use Rattle.vg_packs.specs.Walk.{HasWay, IsApart, IsSettled, KeepMarks}

has-more : (v : ℕ) (list : List ℕ) (i : ℕ) → i < length list → Has v (take (i + 1) list)
    → Has v (take i list) ⊎ (get_or list i 0 ≡ v)
has-more v list i lt h =
    elim (has-append v (take i list) (get_or list i 0 ∷ []) (subst (Has v) (take_more list i 0 lt) h)) [
      | inl l ↦ inl l
      | inr r ↦ elim r [ inl e ↦ inr e | inr n ↦ absurd n ]
    ]

has-at : (list : List ℕ) (i : ℕ) → i < length list → Has (get_or list i 0) list
has-at [] i lt = absurd (omega (arith, lt))
has-at (x ∷ list) zero lt = inl refl
has-at (x ∷ list) (suc i) lt = inr (has-at list i (omega (arith, lt)))

module _ (ns : ℕ → List ℕ) (own : ℕ → Bool) (row : ℕ → List ℕ) where
  pub rows-none : (marks : List Bool) → IsSettled ns own marks → IsApart ns own [] marks
  rows-none marks s = record { starts_marked = λ x h. absurd h; closed = s.closed; away = s.away }

  pub rows-settled : (starts : List ℕ) (marks : List Bool) → IsApart ns own starts marks → IsSettled ns own marks
  rows-settled starts marks a = record { closed = a.closed; away = a.away }

  pub rows-more : (units : List ℕ) (i u : ℕ) (marks new_marks : List Bool) → i < length units → u ≡ get_or units i 0
      → IsApart ns own (flat_map row (take i units)) marks → IsApart ns own (row u) new_marks → KeepMarks marks new_marks
      → IsApart ns own (flat_map row (take (i + 1) units)) new_marks
  rows-more units i u marks new_marks lt is a b keep = record {
    starts_marked = λ x h.
        let k = from-flat_map row x (take (i + 1) units) h in
        elim (has-more k.0 units i lt k.1) [
          | inl l ↦ keep x (a.starts_marked x (has-flat row k.0 x (take i units) l k.2))
          | inr e ↦ b.starts_marked x (subst (λ v. Has x (row v)) (sym (is ∙ e)) k.2)
        ];
    closed = b.closed;
    away = b.away;
  }

  pub rows-all : (units : List ℕ) (i : ℕ) (marks : List Bool) → length units ≤ i
      → IsApart ns own (flat_map row (take i units)) marks → IsApart ns own (flat_map row units) marks
  rows-all units i marks l a = subst (λ us. IsApart ns own (flat_map row us) marks) (take_all i units l) a

  pub rows-way : (units : List ℕ) (i u : ℕ) → i < length units → u ≡ get_or units i 0 → HasWay ns own (row u)
      → HasWay ns own (flat_map row units)
  rows-way units i u lt is w =
      (w.0, has-flat row u w.0 units (subst (λ v. Has v units) (sym is) (has-at units i lt)) w.1, w.2)
