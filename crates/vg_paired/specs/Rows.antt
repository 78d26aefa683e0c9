-- Rows of least lines, which tell whether some later event stands too early.
use Rattle.std.specs.Prelude.{◌≡◌, ℕ, zero, suc, pos, Bool, true, false, ◌&&◌, ◌||◌, not, List, ◌∷◌, Option, Some, None, nat_eq, nat_le, slice_get, unwrap_or}
use Rattle.std.specs.List.{list_any}
use Rattle.vg_base.specs.declared.address.Address.{Address}
use Rattle.vg_shapes.specs.Depends.{conflict}
use Rattle.vg_events.specs.Events.{byte_access, Label, label_at}
use Rattle.vg_events.specs.Ranks.{same_label}
use Rattle.vg_paired.specs.declared.label_numbers.LabelNumbers.{LabelNumbers}
use Rattle.vg_paired.specs.declared.rows.Rows.{Rows as Table}
use Rattle.vg_paired.specs.Noted.{noted}

-- a later event conflicts with an earlier one as accesses of one byte, and stands on no later line
abbrev pub is_early : List Bool → List Label → (ℕ → ℕ) → ℕ → ℕ → Bool
is_early flags ls line x y =
    conflict flags (byte_access (label_at ls x)) (byte_access (label_at ls y))
    && nat_le (line y) (line x)

-- the line that is noted is no later than this one
abbrev pub within : Option ℕ → ℕ → Bool
within None t = false
within (Some r) t = nat_le r t

-- a line is noted for a label where none before it is
abbrev pub Lowers : LabelNumbers → LabelNumbers → Label → ℕ → Type 0
Lowers old new m line =
    (l : Label) (t : ℕ) →
    within (noted new l) t ≡ (within (noted old l) t || (same_label l m && nat_le line t))

abbrev pub by_byte : Label → Label
by_byte l = l

-- the bytes of a pointer are as one
abbrev pub by_pointer : Label → Label
by_pointer l =
    record {
      writes = l.writes;
      address = record { pointer = l.address.pointer; offset = pos 0 };
    }

-- for each label the least line of the events that are noted under it
abbrev pub IsRow : (Label → Label) → List Label → (ℕ → ℕ) → List ℕ → LabelNumbers → Type 0
IsRow under ls line later row =
    (l : Label) (t : ℕ) →
    within (noted row l) t
    ≡ list_any (λ y. same_label l (under (label_at ls y)) && nat_le (line y) t) later

pub record AreRows (ls : List Label) (line : ℕ → ℕ) (later : List ℕ) (rows : Table) : Type 0 where
  pub bytes : IsRow by_byte ls line later rows.bytes
  pub pointers : IsRow by_pointer ls line later rows.pointers

-- a store, or a load where the other event writes, is noted by this line
abbrev pub is_noted : LabelNumbers → Address → Bool → ℕ → Bool
is_noted row a writes t =
    within (noted row (record { writes = true; address = a })) t
    || (writes && within (noted row (record { writes = false; address = a })) t)

abbrev pub is_free : List Bool → ℕ → Bool
is_free flags p = not (unwrap_or (slice_get flags p) false)

-- through another pointer that is not noalias
abbrev pub is_noted_through : List Bool → LabelNumbers → Label → ℕ → ℕ → Bool
is_noted_through flags row l t q =
    not (nat_eq q l.address.pointer)
    && (is_free flags q && is_noted row (record { pointer = q; offset = pos 0 }) l.writes t)

-- some number below this one passes
abbrev pub any_below : ℕ → (ℕ → Bool) → Bool
any_below zero p = false
any_below (suc n) p = p n || any_below n p

-- what the rows tell of an event with this label on this line
abbrev pub is_early_by : List Bool → ℕ → Table → Label → ℕ → Bool
is_early_by flags pointers rows l t =
    is_noted rows.bytes l.address l.writes t
    || (is_free flags l.address.pointer
    && any_below pointers (is_noted_through flags rows.pointers l t))

-- an event more is put in
abbrev pub Puts : Table → Table → Label → ℕ → Type 0
Puts old new l t =
    (ls : List Label) (line : ℕ → ℕ) (later : List ℕ) (y : ℕ) →
    label_at ls y ≡ l → line y ≡ t → AreRows ls line later old → AreRows ls line (y ∷ later) new
