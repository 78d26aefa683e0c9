-- The least label of which two sides have other numbers of events.
use Rattle.std.proofs.Common.{◌≡◌, ℕ, ◌-◌, ◌<◌, Bool, true, false, List, [], ◌∷◌, ◌++◌, filter, map, Option, refl, sym, ap, subst, ◌∙◌, inl, inr, arith}
use Rattle.std.specs.Prelude.{◌&&◌, ◌||◌, not, nat_eq, if◌then◌else◌}
use Rattle.std.specs.List.{list_any}
use Rattle.std.specs.Option.{option_map}
use Rattle.std.proofs.lemmas.Bool.{cases_Bool, cases_lt, eqb-true, eq-eqb, lt-ltb, le-ltb}
use Rattle.vg_shapes.specs.Order.{one_if}
use Rattle.vg_paired.specs.declared.label_numbers.LabelNumbers.{LabelNumbers}
use Rattle.vg_paired.specs.declared.balance.Balance.{Balance}
use Rattle.vg_paired.specs.declared.byte_label.ByteLabel.{ByteLabel}
use Rattle.vg_paired.specs.Balances.{IsBalance, IsLeast, is_left, is_over, number_of, Takes, WithLeft}
use Rattle.vg_paired.specs.ByteLabels.{label_of}
use Rattle.vg_known.specs.Difference.{access, is_uneven, uneven_label}
use Rattle.vg_events.specs.Events.{Label}
use Rattle.vg_known.specs.Labels.{least_label}
use Rattle.vg_events.specs.Ranks.{count_label, same_label}
use Rattle.vg_events.proofs.Ranks.{same-labels}
use Rattle.vg_paired.proofs.Counts.{count-append}
use Rattle.vg_paired.proofs.Leasts.{least-one, least-same, least-there}

count-any : (l : Label) (xs : List Label) → 0 < count_label l xs → list_any (same_label l) xs ≡ true
count-any l [] h = absurd (omega arith)
count-any l (x ∷ xs) h = elim (cases_Bool (same_label l x)) [
  | inl t ↦ (λ i. t i || list_any (same_label l) xs)
  | inr f ↦ (λ i. f i || list_any (same_label l) xs) ∙ count-any l xs (let none : one_if (same_label l x) ≡ 0 = ap one_if f in omega arith)
]

-- of the labels that are kept of a list
any-kept : (u : Label → Bool) (l : Label) (xs : List Label) → list_any (same_label l) (filter u xs) ≡ (u l && list_any (same_label l) xs)
any-kept u l [] = none (u l)
  where
    none : (b : Bool) → false ≡ (b && false)
    none true = refl
    none false = refl
any-kept u l (x ∷ xs) = elim (cases_Bool (same_label l x)) [
  | inl t ↦ elim (cases_Bool (u x)) [
    | inl k ↦
        (λ i. list_any (same_label l) (if k i then x ∷ filter u xs else filter u xs)) ∙ (λ i. t i || list_any (same_label l) (filter u xs))
        ∙ (λ i. sym (ap u (same-labels l x t) ∙ k) i && (sym t i || list_any (same_label l) xs))
    | inr k ↦
        (λ i. list_any (same_label l) (if k i then x ∷ filter u xs else filter u xs)) ∙ any-kept u l xs
        ∙ (λ i. (ap u (same-labels l x t) ∙ k) i && list_any (same_label l) xs) ∙ (λ i. sym (ap u (same-labels l x t) ∙ k) i && list_any (same_label l) (x ∷ xs))
  ]
  | inr f ↦
      either (u x) f ∙ any-kept u l xs ∙ (λ i. u l && (sym f i || list_any (same_label l) xs))
]
  where
    either : (b : Bool) → same_label l x ≡ false → list_any (same_label l) (if b then x ∷ filter u xs else filter u xs) ≡ list_any (same_label l) (filter u xs)
    either true h = (λ i. h i || list_any (same_label l) (filter u xs))
    either false h = refl

differs : (a b : ℕ) → (a ≡ b → ⊥) → not (nat_eq a b) ≡ true
differs a b h = elim (cases_Bool (nat_eq a b)) [
  | inl t ↦ absurd (h (eqb-true a b t))
  | inr f ↦ ap not f
]

and-first : (a b : Bool) → (a ≡ true → b ≡ true) → a ≡ (a && b)
and-first true b h = sym (h refl)
and-first false b h = refl

-- an uneven label stands on one of the sides
uneven-there : (ls ms : List Label) (l : Label) → is_uneven ls ms l ≡ true → list_any (same_label l) (ls ++ ms) ≡ true
uneven-there ls ms l h =
    count-any l (ls ++ ms) (elim (cases_lt 0 (count_label l (ls ++ ms))) [
      | inl some ↦ some
      | inr none ↦
          let both = count-append l ls ms in
          let same : count_label l ls ≡ count_label l ms = omega arith in
          absurd (let no : false ≡ true = sym (ap not (eq-eqb _ _ same)) ∙ h in cc)
    ])

pub uneven-least : (ls ms : List Label) (o : Option Label) → IsLeast (is_uneven ls ms) o → least_label (filter (is_uneven ls ms) (ls ++ ms)) ≡ o
uneven-least ls ms o h =
    let kept = filter (is_uneven ls ms) (ls ++ ms) in
    least-one (is_uneven ls ms) (least_label kept) o
    (least-same (λ l. list_any (same_label l) kept) (is_uneven ls ms) (least_label kept)
    (λ l. and-first (is_uneven ls ms l) (list_any (same_label l) (ls ++ ms)) (uneven-there ls ms l) ∙ sym (any-kept (is_uneven ls ms) l (ls ++ ms)))
    (least-there kept))
    h

-- a label is uneven where there are too many of its events, or some are left
pub uneven-parts : (ls ms : List Label) (n : LabelNumbers) → ((l : Label) → number_of n l ≡ count_label l ls - count_label l ms) → (l : Label) →
    is_uneven ls ms l ≡ (is_over ls ms l || is_left n ls l)
uneven-parts ls ms n are l = elim (cases_lt (count_label l ls) (count_label l ms)) [
  | inl more ↦ differs _ _ (λ e. omega arith) ∙ (λ i. sym (lt-ltb _ _ more) i || is_left n ls l)
  | inr most ↦
      elim (cases_lt (count_label l ms) (count_label l ls)) [
        | inl less ↦
            let left = are l in
            differs _ _ (λ e. omega arith)
            ∙ sym ((λ i. le-ltb _ _ most i || (count-any l ls (omega arith) i && lt-ltb 0 (number_of n l) (omega arith) i)))
        | inr same ↦
            let left = are l in
            let e : count_label l ls ≡ count_label l ms = omega arith in
            ap not (eq-eqb _ _ e)
            ∙ sym ((λ i. le-ltb _ _ most i || (list_any (same_label l) ls && le-ltb 0 (number_of n l) (omega arith) i)) ∙ none (list_any (same_label l) ls))
      ]
]
  where
    none : (b : Bool) → (b && false) ≡ false
    none true = refl
    none false = refl

-- what the balance of lines finds
pub balance-finds : (ls ms : List Label) (b : Balance) (o : Option Label) → IsBalance ls ms b → WithLeft b.left ls (option_map label_of b.least) o →
    least_label (filter (is_uneven ls ms) (ls ++ ms)) ≡ o
balance-finds ls ms b o bal w =
    uneven-least ls ms o
    (least-same (λ l. is_over ls ms l || is_left b.left ls l) (is_uneven ls ms) o (uneven-parts ls ms b.left bal.left) (w (is_over ls ms) bal.least))

pub finds : (ls ms : List Label) (ks : List ByteLabel) (old b : Balance) (o : Option ByteLabel) → map label_of ks ≡ ls → IsBalance (map label_of ks) [] old → Takes old b ms →
    WithLeft b.left (map label_of ks) (option_map label_of b.least) (option_map label_of o) → uneven_label ls ms ≡ option_map (λ l. access l (count_label l ls) (count_label l ms)) (option_map label_of o)
finds ls ms ks old b o same first takes w =
    ap (option_map (λ l. access l (count_label l ls) (count_label l ms)))
    (balance-finds ls ms b (option_map label_of o) (subst (λ (q : List Label). IsBalance q ms b) same (takes (map label_of ks) [] first))
    (subst (λ (q : List Label). WithLeft b.left q (option_map label_of b.least) (option_map label_of o)) same w))
