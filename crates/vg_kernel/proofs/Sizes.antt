-- A stem and a width as one word, taken apart and put together.
use Rattle.std.proofs.Common.{◌≡◌, ℕ, true, List, ◌++◌, length, take, drop, Some, None, refl, sym, ◌∙◌, ap, inl, inr}
use Rattle.std.proofs.lemmas.List.{take-append-drop}
use Rattle.std.proofs.Math.Seq.{take-append_seam, drop-append_seam}
use Rattle.std.specs.Prelude.{codes}
use Rattle.std.specs.Str.{bytes_eq}
use Rattle.vg_base.specs.declared.width.Width.{Width}
use Rattle.vg_base.specs.declared.width.Width.TheVariants.{W8, W16, W32, W64}
use Rattle.vg_base.proofs.Bind.{either_way}
use Rattle.vg_text.specs.Sized.{width_of, width_behind}
use Rattle.vg_kernel.specs.Words.{width_text, sized}
use Rattle.vg_kernel.proofs.Scripts.{same_text, text_is_itself}

some_once : {A : Type 0} (x y : A) → Some x ≡ Some y → x ≡ y
some_once x y e = cc

-- one width and its text
at_text : (bytes text : List ℕ) (w v : Width) → bytes_eq bytes text ≡ true → text ≡ width_text v → Some v ≡ Some w → bytes ≡ width_text w
at_text bytes text w v e t s = same_text bytes text e ∙ t ∙ ap width_text (some_once v w s)

pub width_of-found : (bytes : List ℕ) (w : Width) → width_of bytes ≡ Some w → bytes ≡ width_text w
width_of-found bytes w e = elim (either_way (bytes_eq bytes (codes "8")) (Some W8) _ e) [
  | inl a ↦ at_text bytes (codes "8") w W8 a.0 refl a.1
  | inr a ↦ elim (either_way (bytes_eq bytes (codes "16")) (Some W16) _ a.1) [
    | inl b ↦ at_text bytes (codes "16") w W16 b.0 refl b.1
    | inr b ↦ elim (either_way (bytes_eq bytes (codes "32")) (Some W32) _ b.1) [
      | inl c ↦ at_text bytes (codes "32") w W32 c.0 refl c.1
      | inr c ↦ elim (either_way (bytes_eq bytes (codes "64")) (Some W64) None c.1) [
        | inl d ↦ at_text bytes (codes "64") w W64 d.0 refl d.1
        | inr d ↦ cc
      ]
    ]
  ]
]

pub width_of-again : (w : Width) → width_of (width_text w) ≡ Some w
width_of-again W8 = refl
width_of-again W16 = refl
width_of-again W32 = refl
width_of-again W64 = refl

-- the word is the stem and the width
pub width_behind-found : (stem bytes : List ℕ) (w : Width) → width_behind stem bytes ≡ Some w → bytes ≡ sized stem w
width_behind-found stem bytes w e = elim (either_way (bytes_eq (take (length stem) bytes) stem) (width_of (drop (length stem) bytes)) None e) [
  | inl a ↦ sym (take-append-drop (length stem) bytes) ∙ ap (λ (front : List ℕ). front ++ drop (length stem) bytes) (same_text _ stem a.0) ∙ ap (λ (behind : List ℕ). stem ++ behind) (width_of-found (drop (length stem) bytes) w a.1)
  | inr a ↦ cc
]

pub width_behind-again : (stem : List ℕ) (w : Width) → width_behind stem (sized stem w) ≡ Some w
width_behind-again stem w = rw (take-append_seam stem (width_text w), drop-append_seam stem (width_text w), text_is_itself stem) (width_of-again w)
