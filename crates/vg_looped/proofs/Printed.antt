-- The text of a looped program is its first line, and then its programs.
use Rattle.std.proofs.Common.{◌≡◌, List, ◌++◌, ℕ, refl, sym, ap, ◌∙◌, append_assoc}
use Rattle.std.specs.Prelude.{codes}
use Rattle.vg_program.specs.Text.{line_end, signature_text, signature_of, body_text}
use Rattle.vg_looped.specs.declared.looped.Looped.{Looped}
use Rattle.vg_looped.specs.Steps.{Pair, stepped}
use Rattle.vg_looped.specs.Looped.{turns_text, first_text, programs_text, looped_text}

joined : (a b c d e : List ℕ) → (a ++ (b ++ (c ++ d))) ++ e ≡ a ++ (b ++ (c ++ (d ++ e)))
joined a b c d e = simp append_assoc

pub looped_split : (l : Looped) (xs : List Pair) → xs ≡ stepped 0 l.steps → first_text l xs ++ programs_text l ≡ looped_text l
unfolding looped_text
looped_split l xs same =
    ap (λ (ys : List Pair). first_text l ys ++ programs_text l) same
    ∙ joined (codes "looped ") (signature_text (signature_of l.block)) (turns_text l.block.params l.times (stepped 0 l.steps) l.turns) line_end (programs_text l)
