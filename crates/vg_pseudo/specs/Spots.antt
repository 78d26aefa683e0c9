-- Where expressions stand.
use Rattle.vg_text.specs.declared.place.Place.{Place}
use Rattle.vg_pseudo.specs.declared.spot.Spot.{Spot}
use Rattle.vg_pseudo.specs.Tree.{Expression, number, name, slice, bit, element, part, unary, binary, choice, call}

-- without parentheses around it
abbrev pub spot_at : Place → Spot
spot_at p = record { outer = p; inner = p }

abbrev pub spot_of : Expression → Spot
spot_of (number s n) = s
spot_of (name s n) = s
spot_of (slice s n h l) = s
spot_of (bit s n k) = s
spot_of (element s n w k) = s
spot_of (part s n w) = s
spot_of (unary s o x) = s
spot_of (binary s o x y) = s
spot_of (choice s c x y) = s
spot_of (call s n a) = s

-- the first token, with the parentheses around it
abbrev pub outer_of : Expression → Place
outer_of e = (spot_of e).outer

-- in parentheses that begin here
abbrev pub around : Place → Spot → Spot
around p s = record { outer = p; inner = s.inner }

abbrev pub with_outer : Place → Expression → Expression
with_outer p (number s n) = number (around p s) n
with_outer p (name s n) = name (around p s) n
with_outer p (slice s n h l) = slice (around p s) n h l
with_outer p (bit s n k) = bit (around p s) n k
with_outer p (element s n w k) = element (around p s) n w k
with_outer p (part s n w) = part (around p s) n w
with_outer p (unary s o x) = unary (around p s) o x
with_outer p (binary s o x y) = binary (around p s) o x y
with_outer p (choice s c x y) = choice (around p s) c x y
with_outer p (call s n a) = call (around p s) n a
