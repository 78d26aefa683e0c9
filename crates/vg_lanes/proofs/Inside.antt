-- Leaves that lie inside parameters, and the test of it.
use Rattle.std.proofs.Common.{◌≡◌, ℕ, ◌+◌, ◌≤◌, refl, ap, ◌∙◌, arith, Bool, true, false, List, get_or}
use Rattle.std.specs.Prelude.{◌&&◌, ℤ, pos, negsuc, nat_eq, nat_le}
use Rattle.std.proofs.lemmas.Bool.Decides.{nat_tests}
use Rattle.vg_terms.specs.declared.term.LeafKey.{LeafKey}
use Rattle.vg_terms.specs.Term.{Tree, leaf, constant, one, two, sel}
use Rattle.vg_shapes.specs.Registers.{LeavesInside}
use Rattle.vg_lanes.specs.Inside.{is_inside, leaves_inside}

both : (a b : Bool) → (a && b) ≡ true → (a ≡ true) × (b ≡ true)
both true b h = (refl, h)
both false b h = absurd (cc)

joined : (a b : Bool) → a ≡ true → b ≡ true → (a && b) ≡ true
joined a b h k = rw (h, k) refl

key : ℕ → ℕ → ℤ → ℕ → LeafKey
key a b c d = record { kind = a; first = b; second = c; third = d }

leaf-of : (ws : List ℕ) (w a b : ℕ) (c : ℤ) (d : ℕ) → is_inside ws w (key a b c d) ≡ true → LeavesInside ws (leaf w (key a b c d))
unfolding key
leaf-of ws w a b (pos n) d h =
    let p = both (nat_eq a 0) (nat_eq d 0 && nat_le (n + w) (get_or ws b 0)) h in
    let q = both (nat_eq d 0) (nat_le (n + w) (get_or ws b 0)) p.1 in
    let ea : a ≡ 0 = grind (arith, nat_tests, p.0) in
    let ed : d ≡ 0 = grind (arith, nat_tests, q.0) in
    let le : n + w ≤ get_or ws b 0 = grind (arith, nat_tests, q.1) in
    (b, n, ap (λ x. key x b (pos n) d) ea ∙ ap (key 0 b (pos n)) ed, le)
leaf-of ws w a b (negsuc n) d h =
    absurd (let q = both (nat_eq d 0) false (both (nat_eq a 0) (nat_eq d 0 && false) h).1 in cc)

natural-le : (m n : ℕ) → m ≤ n → nat_le m n ≡ true
natural-le m n h = grind (arith, nat_tests, h)

of-leaf : (ws : List ℕ) (w : ℕ) (k : LeafKey) → LeavesInside ws (leaf w k) → is_inside ws w k ≡ true
of-leaf ws w k h = ap (is_inside ws w) h.2 ∙ natural-le (h.1 + w) (get_or ws h.0 0) h.3

pub all-inside : (ws : List ℕ) (t : Tree) → leaves_inside ws t ≡ true → LeavesInside ws t
unfolding key
all-inside ws (leaf w k) h = leaf-of ws w k.kind k.first k.second k.third h
all-inside ws (constant w v) h = tt
all-inside ws (one op w k x) h = all-inside ws x h
all-inside ws (two op w x y) h =
    let p = both (leaves_inside ws x) (leaves_inside ws y) h in (all-inside ws x p.0, all-inside ws y p.1)
all-inside ws (sel w c x y) h =
    let p = both (leaves_inside ws c) (leaves_inside ws x && leaves_inside ws y) h in
    let q = both (leaves_inside ws x) (leaves_inside ws y) p.1 in
    (all-inside ws c p.0, all-inside ws x q.0, all-inside ws y q.1)

pub inside-all : (ws : List ℕ) (t : Tree) → LeavesInside ws t → leaves_inside ws t ≡ true
inside-all ws (leaf w k) h = of-leaf ws w k h
inside-all ws (constant w v) h = refl
inside-all ws (one op w k x) h = inside-all ws x h
inside-all ws (two op w x y) h = joined (leaves_inside ws x) (leaves_inside ws y) (inside-all ws x h.0) (inside-all ws y h.1)
inside-all ws (sel w c x y) h =
    joined (leaves_inside ws c) (leaves_inside ws x && leaves_inside ws y) (inside-all ws c h.0)
    (joined (leaves_inside ws x) (leaves_inside ws y) (inside-all ws x h.1) (inside-all ws y h.2))
