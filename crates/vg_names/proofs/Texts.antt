-- Tests of texts may be turned.
use Rattle.std.proofs.Common.{◌≡◌, ℕ, Bool, true, false, List, refl, sym, ◌∙◌, ap, true≢false}
use Rattle.std.specs.Str.{bytes_eq}
use Rattle.vg_pseudo.proofs.Taking.{same_text, text_is_itself}

pub turned : (a b : List ℕ) → bytes_eq a b ≡ bytes_eq b a
turned a b = by (bytes_eq a b) refl (bytes_eq b a) refl
  where
    by : (x : Bool) → bytes_eq a b ≡ x → (y : Bool) → bytes_eq b a ≡ y → bytes_eq a b ≡ bytes_eq b a
    by true e true f = e ∙ sym f
    by false e false f = e ∙ sym f
    by true e false f = absurd (true≢false (sym (text_is_itself a) ∙ ap (λ (t : List ℕ). bytes_eq t a) (same_text a b e) ∙ f))
    by false e true f = absurd (true≢false (sym (text_is_itself b) ∙ ap (λ (t : List ℕ). bytes_eq t b) (same_text b a f) ∙ e))
