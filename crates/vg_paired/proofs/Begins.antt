-- The number of the first event of each access.
use Rattle.std.proofs.Common.{◌≡◌, ℕ, ◌+◌, ◌<◌, ◌≤◌, List, [], ◌∷◌, ◌++◌, length, map, take, Option, sym, ap, ◌∙◌, inl, inr, arith}
use Rattle.std.specs.Prelude.{slice_index}
use Rattle.std.proofs.lemmas.Bool.{cases_lt}
use Rattle.std.proofs.lemmas.List.{get_or_append_left, get_or-append-add, length-map}
use Rattle.vg_shapes.specs.declared.access.Access.{Access}
use Rattle.vg_events.specs.Events.{labels}
use Rattle.vg_paired.specs.declared.byte_label.ByteLabel.{ByteLabel}
use Rattle.vg_paired.specs.ByteLabels.{label_of}

-- the number of the first event of each access
pub begins-turn : (xs : List (Option Access)) (i : ℕ) (begins new : List ℕ) (n : ℕ) (all : List ByteLabel) → i < length xs → length begins ≡ i + 1 →
    ((k : ℕ) → k ≤ i → slice_index begins k ≡ length (labels (take k xs))) → map label_of all ≡ labels (take (i + 1) xs) → n ≡ length all → new ≡ begins ++ n ∷ [] →
    (k : ℕ) → k ≤ i + 1 → slice_index new k ≡ length (labels (take k xs))
begins-turn xs i begins new n all inside long before labelled is grown k small = elim (cases_lt i k) [
  | inl last ↦
      let at : k ≡ i + 1 = omega arith in
      let here : k ≡ length begins + 0 = omega arith in
      ap (λ (ys : List ℕ). slice_index ys k) grown ∙ ap (slice_index (begins ++ n ∷ [])) here ∙ get_or-append-add begins (n ∷ []) 0 0
      ∙ is ∙ sym (length-map all label_of) ∙ ap length labelled ∙ ap (λ j. length (labels (take j xs))) (sym at)
  | inr less ↦ ap (λ (ys : List ℕ). slice_index ys k) grown ∙ get_or_append_left begins (n ∷ []) 0 k (omega arith) ∙ before k less
]
