-- The walk of `clap` over words that are parts.
use Rattle.std.proofs.Common.{◌≡◌, ◌∙◌, ap, Bool, true, false, ℕ, List, [], ◌∷◌, ◌++◌, Some, None, Option, refl, sym, subst, codes, map, ◌==◌, ◌&&◌}
use Rattle.std.specs.Prelude.{slice_index}
use Rattle.clap.specs.Walk.{Held, Row, Rule, Text, Waiting, Walk, has_row, idle, option, positional, used, walked}
use Rattle.clap.specs.Takes.{turn_passes}
use Rattle.vg_request.specs.declared.part.Flag.{Flag}
use Rattle.vg_request.specs.declared.part.Flag.TheVariants.{Guard, More}
use Rattle.vg_request.specs.Parts.{flag_word}
use Rattle.vg_request.proofs.Command.{shape, rules, flag_id, width_built, with_built, flag_built, files_built}

-- what waits for its use between two parts
pub data Rest : Type 0 where
  none : Rest
  of_file : Text → Rest
  of_width : Text → Rest
  of_with : Text → Rest

abbrev pub pending_at : Rest → Option (Text × List Text)
pending_at none = None
pending_at (of_file v) = Some (codes "files", v ∷ [])
pending_at (of_width v) = Some (codes "width", v ∷ [])
pending_at (of_with v) = Some (codes "with", v ∷ [])

abbrev pub waiting_at : Rest → Waiting
waiting_at (of_file v) = positional
waiting_at _ = idle

abbrev pub between : List Row → Rest → Walk
between rows r = record {
  held = record { rows = rows; pending = pending_at r; skip = 0 };
  waiting = waiting_at r;
  position = 1;
  is_trailing = false;
  stopped = None;
}

abbrev pub use_of : Rest → List Row → List Row
use_of none rows = rows
use_of (of_file v) rows = used (files_built) (v ∷ []) rows
use_of (of_width v) rows = used (width_built) (v ∷ []) rows
use_of (of_with v) rows = used (with_built) (v ∷ []) rows

-- after the word of an option, before its value
abbrev pub after_option : Text → List Row → Walk
after_option id rows = record {
  held = record { rows = rows; pending = Some (id, []); skip = 0 };
  waiting = option id;
  position = 1;
  is_trailing = false;
  stopped = None;
}

-- a word that does not begin with `-`
abbrev pub IsPlain : Text → Type 0
IsPlain v = (slice_index v 0 == 45) ≡ false

-- a width that waits for its use is the first
abbrev pub Calm : List Row → Rest → Type 0
Calm rows (of_width v) = has_row (codes "width") rows ≡ false
Calm rows _ = Unit {0}

-- no width was used, nor waits for its use
abbrev pub IsFresh : List Row → Rest → Type 0
IsFresh rows r = has_row (codes "width") (use_of r rows) ≡ false

pub at_width : (rows : List Row) (r : Rest) → Calm rows r → (walked rules [] (between rows r) (codes "--width") ≡ after_option (codes "width") (use_of r rows)) × (turn_passes shape [] (between rows r) (codes "--width") ≡ true)
unfolding walked
at_width rows none h = (refl, refl)
at_width rows (of_file v) h = (refl, refl)
at_width rows (of_width v) h = (refl, rw h refl)
at_width rows (of_with v) h = (refl, refl)

pub at_with : (rows : List Row) (r : Rest) → Calm rows r → (walked rules [] (between rows r) (codes "--with") ≡ after_option (codes "with") (use_of r rows)) × (turn_passes shape [] (between rows r) (codes "--with") ≡ true)
unfolding walked
at_with rows none h = (refl, refl)
at_with rows (of_file v) h = (refl, refl)
at_with rows (of_width v) h = (refl, rw h refl)
at_with rows (of_with v) h = (refl, refl)

pub at_value : (rows : List Row) (v : Text) → IsPlain v → (walked rules [] (after_option (codes "width") rows) v ≡ between rows (of_width v)) × (turn_passes shape [] (after_option (codes "width") rows) v ≡ true)
unfolding walked
at_value rows [] p = (refl, refl)
at_value rows (x ∷ xs) p = (rw (p, p) refl, rw (p, p) refl)

pub at_name : (rows : List Row) (v : Text) → IsPlain v → (walked rules [] (after_option (codes "with") rows) v ≡ between rows (of_with v)) × (turn_passes shape [] (after_option (codes "with") rows) v ≡ true)
unfolding walked
at_name rows [] p = (refl, refl)
at_name rows (x ∷ xs) p = (rw (p, p) refl, rw (p, p) refl)

pub at_width_is : (rows : List Row) (r : Rest) (v : Text) → Calm rows r → IsFresh rows r → (walked rules [] (between rows r) (codes "--width=" ++ v) ≡ between (used (width_built) (v ∷ []) (use_of r rows)) none) × (turn_passes shape [] (between rows r) (codes "--width=" ++ v) ≡ true)
unfolding walked
at_width_is rows none v h f = (refl, rw f refl)
at_width_is rows (of_file u) v h f = (refl, rw f refl)
at_width_is rows (of_width u) v h f = (refl, rw (h, f) refl)
at_width_is rows (of_with u) v h f = (refl, rw f refl)

pub at_with_is : (rows : List Row) (r : Rest) (v : Text) → Calm rows r → (walked rules [] (between rows r) (codes "--with=" ++ v) ≡ between (used (with_built) (v ∷ []) (use_of r rows)) none) × (turn_passes shape [] (between rows r) (codes "--with=" ++ v) ≡ true)
unfolding walked
at_with_is rows none v h = (refl, refl)
at_with_is rows (of_file u) v h = (refl, refl)
at_with_is rows (of_width u) v h = (refl, rw h refl)
at_with_is rows (of_with u) v h = (refl, refl)

pub at_file : (rows : List Row) (r : Rest) (v : Text) → IsPlain v → Calm rows r → (walked rules [] (between rows r) v ≡ between (use_of r rows) (of_file v)) × (turn_passes shape [] (between rows r) v ≡ true)
unfolding walked
at_file rows none [] p h = (refl, refl)
at_file rows (of_file u) [] p h = (refl, refl)
at_file rows (of_width u) [] p h = (refl, rw h refl)
at_file rows (of_with u) [] p h = (refl, refl)
at_file rows none (x ∷ xs) p h = (rw (p, p) refl, rw (p, p) refl)
at_file rows (of_file u) (x ∷ xs) p h = (rw (p, p) refl, rw (p, p) refl)
at_file rows (of_width u) (x ∷ xs) p h = (rw (p, p) refl, rw (p, p, h) refl)
at_file rows (of_with u) (x ∷ xs) p h = (rw (p, p) refl, rw (p, p) refl)

-- a flag where there is none before
pub at_flag : (f : Flag) (rows : List Row) (r : Rest) → Calm rows r → has_row (flag_id f) (use_of r rows) ≡ false → (walked rules [] (between rows r) (flag_word f) ≡ between (used (flag_built f) [] (use_of r rows)) none) × (turn_passes shape [] (between rows r) (flag_word f) ≡ true)
unfolding walked
at_flag Guard rows none h new = (refl, rw new refl)
at_flag Guard rows (of_file u) h new = (refl, rw new refl)
at_flag Guard rows (of_width u) h new = (refl, rw (h, new) refl)
at_flag Guard rows (of_with u) h new = (refl, rw new refl)
at_flag More rows none h new = (refl, rw new refl)
at_flag More rows (of_file u) h new = (refl, rw new refl)
at_flag More rows (of_width u) h new = (refl, rw (h, new) refl)
at_flag More rows (of_with u) h new = (refl, rw new refl)
