-- Lanes one after the other.
use Rattle.std.proofs.Common.{◌≡◌, ℕ, suc, append_assoc, append-nil, ◌++◌, ◌+◌, ◌-◌, ◌*◌, ◌<◌, ◌≤◌, sym, ap, ◌∙◌, arith, List, [], ◌∷◌, min}
use Rattle.std.specs.Prelude.{map}
use Rattle.std.proofs.lemmas.Bool.{cond-true, cond-false, le-leb, lt-leb}
use Rattle.std.proofs.lemmas.List.{map-append}
use Rattle.std.proofs.lemmas.Nat.{row_fits}
use Rattle.vg_terms.specs.Term.{Tree, node_count}
use Rattle.vg_shapes.specs.Lane.{Lane, known, big, lane_of}
use Rattle.vg_shapes.specs.declared.lane.Lane as shape
use Rattle.vg_lift.specs.Lanes.{lanes_from, sized}

-- ---- one lane

pub is_big : (t : Tree) → 1024 < min (node_count t) 1025 → sized t ≡ big
is_big t h = cond-false _ _ _ (lt-leb (node_count t) 1024 (omega arith))

pub is_known : (t u : Tree) → min (node_count t) 1025 ≤ 1024 → u ≡ t → known u ≡ sized t
is_known t u h e = ap known e ∙ sym (cond-true _ _ _ (le-leb (node_count t) 1024 (omega arith)))

-- ---- all lanes

-- one lane more
pub next_lane : (f : ℕ → Lane) (k n : ℕ) (all : List shape.Lane) (l : shape.Lane) → k < n → lane_of l ≡ f k
    → map lane_of (all ++ l ∷ []) ++ lanes_from f (k + 1) (n - (k + 1)) ≡ map lane_of all ++ lanes_from f k (n - k)
next_lane f k n all l h e =
    let m : n - k ≡ suc (n - (k + 1)) = omega arith in
    ap (λ v. v ++ lanes_from f (k + 1) (n - (k + 1))) (map-append lane_of all (l ∷ []))
    ∙ append_assoc (map lane_of all) (lane_of l ∷ []) (lanes_from f (k + 1) (n - (k + 1)))
    ∙ ap (λ v. map lane_of all ++ (v ∷ lanes_from f (k + 1) (n - (k + 1)))) e
    ∙ ap (λ v. map lane_of all ++ lanes_from f k v) (sym m)

pub no_lane : (f : ℕ → Lane) (k n : ℕ) (all : List shape.Lane) → n ≤ k → map lane_of all ++ lanes_from f k (n - k) ≡ map lane_of all
no_lane f k n all h =
    let m : n - k ≡ 0 = omega arith in
    ap (λ v. map lane_of all ++ lanes_from f k v) m ∙ append-nil (map lane_of all)

-- each lane of so many lies inside them all
pub lane_inside : (k n w all : ℕ) → k < n → n * w ≤ all → k * w + w ≤ all
lane_inside k n w all h fits = let here = row_fits k w n w h (omega arith) in omega (arith, here, fits)
