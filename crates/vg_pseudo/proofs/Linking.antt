-- Arguments linked from the last to the first.
use Rattle.std.proofs.Common.{◌≡◌, ℕ, List, [], ◌∷◌, ◌++◌, ◌-◌, length, map, take, refl, ◌∙◌, ap, arith}
use Rattle.std.proofs.lemmas.List.{map-append}
use Rattle.vg_pseudo.specs.declared.parts.Part as code_part
use Rattle.vg_pseudo.specs.declared.blocks.Block as code_block
use Rattle.vg_pseudo.specs.Views.{part_of, block_of}
use Rattle.vg_pseudo.specs.Expressions.{Part, Linked, linked_one, linked}
use Rattle.vg_pseudo.specs.Statements.{Block, followed_by, chained}

pub linked-last : (xs : List Part) (x : Part) (l : Linked) → linked (xs ++ x ∷ []) l ≡ linked xs (linked_one x l)
unfolding linked
linked-last [] x l = refl
linked-last (y ∷ ys) x l = ap (linked_one y) (linked-last ys x l)

pub chained-last : (xs : List Block) (x rest : Block) → chained (xs ++ x ∷ []) rest ≡ chained xs (followed_by x rest)
unfolding chained
chained-last [] x rest = refl
chained-last (y ∷ ys) x rest = ap (followed_by y) (chained-last ys x rest)

-- nothing is left to link
pub linked-nothing : (ps : List code_part.Part) (l : Linked) → length ps ≡ 0 → linked (map part_of ps) l ≡ l
unfolding linked
linked-nothing [] l e = refl
linked-nothing (p ∷ ps) l e = absurd (omega arith)

pub chained-nothing : (bs : List code_block.Block) (l : Block) → length bs ≡ 0 → chained (map block_of bs) l ≡ l
unfolding chained
chained-nothing [] l e = refl
chained-nothing (b ∷ bs) l e = absurd (omega arith)

-- the last of those that are left is linked
pub linked-step : (ps qs : List code_part.Part) (p : code_part.Part) (l : Linked) → ps ≡ qs ++ p ∷ [] → linked (map part_of ps) l ≡ linked (map part_of qs) (linked_one (part_of p) l)
linked-step ps qs p l e = ap (λ xs. linked (map part_of xs) l) e ∙ rw map-append (linked-last (map part_of qs) (part_of p) l)

pub chained-step : (bs cs : List code_block.Block) (b : code_block.Block) (l : Block) → bs ≡ cs ++ b ∷ [] → chained (map block_of bs) l ≡ chained (map block_of cs) (followed_by (block_of b) l)
chained-step bs cs b l e = ap (λ xs. chained (map block_of xs) l) e ∙ rw map-append (chained-last (map block_of cs) (block_of b) l)

-- what gave nothing up is empty
pub emptied : {X : Type 0} (xs ys : List X) (n : ℕ) → xs ≡ ys ++ [] → ys ≡ take (n - 1) xs → n ≡ 0 → length xs ≡ 0
emptied xs ys n all rest none =
    let less : n - 1 ≡ 0 = omega arith in
    let empty : ys ≡ [] = rest ∙ ap (λ (k : ℕ). take k xs) less in
    ap length (all ∙ ap (λ (zs : List _). zs ++ []) empty)
