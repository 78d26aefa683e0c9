-- What is gathered of each name along assignments, from the first to the last.
use Rattle.std.specs.Prelude.{ℕ, zero, suc, Bool, false, List, [], ◌∷◌, map, fold, length, get_or, replicate, Option, Some, None, ◌||◌, if◌then◌else◌}
use Rattle.std.specs.Option.{option_map_or}
use Rattle.vg_base.specs.Width.{bits_of}
use Rattle.vg_pseudo.specs.Same.{same_width}
use Rattle.vg_pseudo.specs.Names.{Form, whole_element, Assignment, Register}
use Rattle.vg_pseudo.specs.Signs.{Signs, is_signed, is_signed_register}
use Rattle.vg_pseudo.specs.Resolve.{assigned_to}
use Rattle.vg_names.specs.declared.forms.Forms.{Forms}
use Rattle.vg_names.specs.declared.forms.Forms.TheVariants.{Unseen, Element, Mixed}
use Rattle.vg_names.specs.Distinct.{place_of}

-- the assignments to each of these names, gathered one after the other
abbrev pub gathered : {S : Type 0} → (S → Assignment → S) → S → List (List ℕ) → List Assignment → List S
gathered f s names as' = map (λ n. fold f s (assigned_to n as')) names

-- a list with another item at a place, if there is one
abbrev pub changed_at : {S : Type 0} → ℕ → (S → S) → List S → List S
changed_at i g [] = []
changed_at zero g (x ∷ xs) = g x ∷ xs
changed_at (suc i) g (x ∷ xs) = x ∷ changed_at i g xs

abbrev pub changed : {S : Type 0} → Option ℕ → (S → S) → List S → List S
changed None g xs = xs
changed (Some i) g xs = changed_at i g xs

-- ---- forms

-- one form more
abbrev pub form_behind : Forms → Form → Forms
form_behind Unseen (whole_element w) = Element w
form_behind (Element v) (whole_element w) = if same_width v w then Element v else Mixed
form_behind s f = Mixed

abbrev pub with_form : Forms → Assignment → Forms
with_form s a = form_behind s a.form

abbrev pub span_of_forms : Forms → Option ℕ
span_of_forms (Element w) = Some (bits_of w)
span_of_forms s = None

-- ---- signs

-- of which names the bare name is signed, where these are given and so much is known of these locals
abbrev pub whole_of : List Register → List (List ℕ) → List Bool → List ℕ → Bool
whole_of given names flags n =
    option_map_or (λ i. get_or flags i false) (place_of names n) (is_signed_register (λ r. r.signed_whole) given n)

abbrev pub signs_of : List Register → List (List ℕ) → List Bool → Signs
signs_of given names flags = record {
  slices = is_signed_register (λ r. r.signed_slices) given;
  whole = whole_of given names flags;
}

abbrev pub with_sign : Signs → Bool → Assignment → Bool
with_sign s b a = b || is_signed s a.turns a.value

-- what is known after one step more
abbrev pub signed_next : List Register → List (List ℕ) → List Assignment → List Bool → List Bool
signed_next given names as' flags = gathered (with_sign (signs_of given names flags)) false names as'

-- what is known after so many steps
abbrev pub signed_after : List Register → List (List ℕ) → List Assignment → ℕ → List Bool
signed_after given names as' zero = replicate (length names) false
signed_after given names as' (suc k) = signed_next given names as' (signed_after given names as' k)
