-- Lists that are seen by a view, and slices as a body sees them.
use Rattle.std.proofs.Common.{◌≡◌, ℕ, zero, suc, refl, ap, ◌∙◌, List, [], ◌∷◌, ◌++◌, get_or, map, ◌≤◌, length, arith}
use Rattle.std.specs.Prelude.{reverse}
use Rattle.std.proofs.lemmas.List.{map-append, reverse-append}
use Rattle.std.specs.Prelude.{set, replicate, pos, take}
use Rattle.std.proofs.lemmas.List.{map-set}
use Rattle.std.specs.Prelude.{Bool, Option, Some, None}
use Rattle.vg_text.specs.declared.place.Place.{Place}
use Rattle.vg_interval.specs.Judge.{constant, Sight, Count, Index, settled, unsettled, slice_at, element_at}
use Rattle.vg_interval.specs.Views.{seen, kept_view}
use Rattle.vg_interval.specs.declared.judged.KnownNumber.TheVariants as in_memory
use Rattle.vg_range.specs.Walk.{zeros}

pub get_or_map : {A B : Type 0} (f : A → B) (xs : List A) (k : ℕ) (d : A)
    → get_or (map f xs) k (f d) ≡ f (get_or xs k d)
get_or_map f [] k d = refl
get_or_map f (x ∷ xs) zero d = refl
get_or_map f (x ∷ xs) (suc k) d = get_or_map f xs k d

-- a slice asks only for the widths and the constants
pub seen_slice : (s : Sight) (place : Place) (g : Bool) (r : ℕ) (n : Option ℕ) (h l : Index) (c : Count)
    → slice_at (seen s.widths s.constants) place g r n h l c ≡ slice_at s place g r n h l c
seen_slice s place g r (Some n) h (settled z) c = refl
seen_slice s place g r (Some n) h (unsettled a) c = refl
seen_slice s place g r None (settled y) (settled z) c = refl
seen_slice s place g r None (settled y) (unsettled a) c = refl
seen_slice s place g r None (unsettled a) l c = refl

pub seen_element : (s : Sight) (place : Place) (g : Bool) (r size : ℕ) (k : Index) (c : Count)
    → element_at (seen s.widths s.constants) place g r size k c ≡ element_at s place g r size k c
seen_element s place g r size (settled z) c = refl
seen_element s place g r size (unsettled a) c = refl

pub view_set : {A B : Type 0} (f : A → B) (l : List A) (i : ℕ) (a : A) → map f (set l i a) ≡ set (map f l) i (f a)
view_set f l i a = map-set f l i a

pub view_set_past : {A B : Type 0} (f : A → B) (l : List A) (i : ℕ) (b : B) → length l ≤ i → set (map f l) i b ≡ map f l
view_set_past f [] i b h = refl
view_set_past f (x ∷ l) zero b h = absurd (omega arith)
view_set_past f (x ∷ l) (suc i) b h = ap (λ t. f x ∷ t) (view_set_past f l i b (omega arith))

pub zeros_are : (n : ℕ) → map kept_view (replicate n (in_memory.Constant (pos 0))) ≡ zeros n
zeros_are zero = refl
zeros_are (suc n) = ap (λ t. constant (pos 0) ∷ t) (zeros_are n)

pub view_take : {A B : Type 0} (f : A → B) (n : ℕ) (l : List A) → map f (take n l) ≡ take n (map f l)
view_take f zero l = refl
view_take f (suc n) [] = refl
view_take f (suc n) (x ∷ l) = ap (λ t. f x ∷ t) (view_take f n l)

-- the last of a list is the first of it the other way round
pub view_last : {A B : Type 0} (f : A → B) (l : List A) (x : A) → reverse (map f (l ++ x ∷ [])) ≡ f x ∷ reverse (map f l)
view_last f l x = ap reverse (map-append f l (x ∷ [])) ∙ reverse-append (map f l) (f x ∷ [])
