-- Places after bytes.
use Rattle.std.proofs.Common.{◌≡◌, ℕ, ◌+◌, ◌<◌, ◌≤◌, List, length, get_or, drop, refl, drop-cons, add-one}
use Rattle.std.proofs.Math.ListN.{drop_of_length-le}
use Rattle.vg_text.specs.declared.place.Place.{Place}
use Rattle.vg_text.specs.Place.{place_behind, place_after}

-- the next byte is passed over
pub place_after-step : (p : Place) (bs : List ℕ) (i : ℕ) → i < length bs → place_after p (drop i bs) ≡ place_after (place_behind p (get_or bs i 0)) (drop (i + 1) bs)
unfolding place_after
place_after-step p bs i h = rw (add-one i, drop-cons bs i 0) refl

-- no byte is left
pub place_after-end : (p : Place) (bs : List ℕ) (i : ℕ) → length bs ≤ i → place_after p (drop i bs) ≡ p
unfolding place_after
place_after-end p bs i h = rw (drop_of_length-le bs h) refl
