-- What is missing among labels, one more at a time.
use Rattle.std.proofs.Common.{◌≡◌, ℕ, ◌+◌, ◌<◌, Bool, List, [], ◌∷◌, ◌++◌, length, map, take, get_or, refl, sym, ap, subst, ◌∙◌, inl, inr, append_assoc, append-nil}
use Rattle.std.proofs.lemmas.Bool.{cases_Bool, cond-true, cond-false}
use Rattle.vg_base.specs.declared.address.Address.{Address}
use Rattle.vg_shapes.specs.declared.ssa_unit.SsaUnit.{SsaUnit}
use Rattle.vg_shapes.specs.Layout.{access_of}
use Rattle.vg_events.specs.Events.{Label, labels, labels_from, labels_in, unit_labels}
use Rattle.vg_paired.specs.declared.byte_label.ByteLabel.{ByteLabel}
use Rattle.vg_paired.specs.ByteLabels.{label_of}
use Rattle.vg_paired.proofs.Counts.{byte_at, from-push, labels-push, mapped-more}
use Rattle.vg_paired.proofs.Noting.{of_label}
use Rattle.vg_levelled.specs.declared.sides.Sides.{Sides}
use Rattle.vg_levelled.specs.Adding.{Counted, FindsMissing}
use Rattle.vg_levelled.specs.Levelled.{counts, is_missing, missing}

missing-append : (met : List Bool) (ks ps xs ys : List Label)
    → missing met ks ps (xs ++ ys) ≡ missing met ks ps xs ++ missing met ks (ps ++ missing met ks ps xs) ys
missing-append met ks ps [] ys = ap (λ p. missing met ks p ys) (sym (append-nil ps))
missing-append met ks ps (x ∷ xs) ys = elim (cases_Bool (is_missing met (counts ks) (counts ps) x)) [
  | inl t ↦
      let m = missing met ks (ps ++ x ∷ []) xs in
      cond-true _ _ _ t ∙ ap (λ l. x ∷ l) (missing-append met ks (ps ++ x ∷ []) xs ys)
      ∙ ap (λ l. x ∷ m ++ missing met ks l ys) (append_assoc ps (x ∷ []) m)
      ∙ sym (ap (λ l. l ++ missing met ks (ps ++ l) ys) (cond-true _ _ _ t))
  | inr f ↦
      cond-false _ _ _ f ∙ missing-append met ks ps xs ys
      ∙ sym (ap (λ l. l ++ missing met ks (ps ++ l) ys) (cond-false _ _ _ f))
]

pub finds-none : (s : Sides) (found : List ByteLabel) → FindsMissing s s [] found found
finds-none s found ks ps h = (
  sym (append-nil (map label_of found)),
  subst (λ d. Counted ks d s) (sym (append-nil ps)) h,
  refl,
)

pub finds-more : (a b c : Sides) (xs ys : List Label) (f g h : List ByteLabel) → FindsMissing a b xs f g
    → FindsMissing b c ys g h → FindsMissing a c (xs ++ ys) f h
finds-more a b c xs ys f g h before more ks ps counted =
    let p = before ks ps counted in
    let m = missing a.met.items ks ps xs in
    let n = missing a.met.items ks (ps ++ m) ys in
    let q = more ks (ps ++ m) p.1 in
    let same : missing b.met.items ks (ps ++ m) ys ≡ n = (λ i. missing (p.2 i).items ks (ps ++ m) ys) in
    let all : m ++ n ≡ missing a.met.items ks ps (xs ++ ys) = sym (missing-append a.met.items ks ps xs ys) in (
      q.0 ∙ (λ i. p.0 i ++ same i) ∙ append_assoc (map label_of f) m n ∙ ap (λ l. map label_of f ++ l) all,
      subst (λ d. Counted ks d c) (ap (λ l. (ps ++ m) ++ l) same ∙ append_assoc ps m n ∙ ap (λ l. ps ++ l) all) q.1,
      q.2 ∙ p.2,
    )

-- one byte more
pub finds-bytes : (a b c : Sides) (w : Bool) (address : Address) (i : ℕ) (m : ByteLabel) (f g h : List ByteLabel)
    → FindsMissing a b (labels_from w address i) f g → m ≡ of_label (byte_at w address i)
    → FindsMissing b c (label_of m ∷ []) g h → FindsMissing a c (labels_from w address (i + 1)) f h
finds-bytes a b c w address i m f g h before is more =
    subst (λ ls. FindsMissing a c ls f h) (sym (from-push w address i))
    (finds-more a b c (labels_from w address i) (byte_at w address i ∷ []) f g h before
    (subst (λ (x : ByteLabel). FindsMissing b c (label_of x ∷ []) g h) is more))

-- one unit more
pub finds-units : (a b c : Sides) (us : List SsaUnit) (i : ℕ) (d : SsaUnit) (f g h : List ByteLabel) → i < length us
    → FindsMissing a b (unit_labels (take i us)) f g → FindsMissing b c (labels_in (access_of (get_or us i d))) g h
    → FindsMissing a c (unit_labels (take (i + 1) us)) f h
finds-units a b c us i d f g h inside before more =
    subst (λ ls. FindsMissing a c ls f h)
    (sym (ap labels (mapped-more access_of us i d inside)
    ∙ labels-push (map access_of (take i us)) (access_of (get_or us i d))))
    (finds-more a b c (unit_labels (take i us)) (labels_in (access_of (get_or us i d))) f g h before more)
