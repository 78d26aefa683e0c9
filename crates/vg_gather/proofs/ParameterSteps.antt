-- The packs of parameters, one after the other.
use Rattle.std.proofs.Common.{◌≡◌, ℕ, suc, ◌+◌, ◌<◌, Bool, List, [], ◌∷◌, ◌++◌, length, get_or, drop, sym, ap, ◌∙◌, arith, append_assoc}
use Rattle.std.specs.Prelude.{if◌then◌else◌, nat_eq}
use Rattle.std.specs.List.{prefix_len, take_while}
use Rattle.std.proofs.Math.Seq.{drop-cons}
use Rattle.std.proofs.lemmas.List.Folds.{length-prefix_len}
use Rattle.vg_shapes.specs.declared.operand.Operand.{Operand}
use Rattle.vg_shapes.specs.declared.operand.Slot.{Slot}
use Rattle.vg_gather.specs.Recipes.{packs_from, part}

pub counted : {X : Type 0} (p : X → Bool) (xs : List X) → length (take_while p xs) ≡ prefix_len p xs
counted p xs = length-prefix_len p xs

module _ (held : Operand → ℕ) (moved : List (ℕ × Slot)) (other : ℕ) (params : List ℕ) (k : ℕ) where
  abbrev pub pack_at : ℕ → ℕ
  pack_at register =
      if nat_eq (length (part moved k register).slots) 0 then other else held (part moved k register)

  pub one_more : (register pack : ℕ) (taken new whole : List ℕ) → k < length params → register ≡ get_or params k 0
      → pack ≡ pack_at register → new ≡ taken ++ pack ∷ []
      → taken ++ packs_from held moved other k (drop k params) ≡ whole
      → new ++ packs_from held moved other (k + 1) (drop (k + 1) params) ≡ whole
  one_more register pack taken new whole inside is made next before =
      let up : suc k ≡ k + 1 = omega arith in
      let cut : drop k params ≡ register ∷ drop (k + 1) params =
      drop-cons params k 0 inside ∙ ap (λ r. r ∷ drop (suc k) params) (sym is) ∙ ap (λ j. register ∷ drop j params) up
      in
      let rest = drop (k + 1) params in
      let here : packs_from held moved other k (drop k params) ≡ pack ∷ packs_from held moved other (k + 1) rest =
      ap (packs_from held moved other k) cut
      ∙ ap (λ j. pack_at register ∷ packs_from held moved other j rest) up
      ∙ ap (λ p. p ∷ packs_from held moved other (k + 1) rest) (sym made)
      in
      ap (λ l. l ++ packs_from held moved other (k + 1) rest) next
      ∙ append_assoc taken (pack ∷ []) (packs_from held moved other (k + 1) rest)
      ∙ ap (λ l. taken ++ l) (sym here) ∙ before
