-- Each instance of a catalogue all of whose lanes have terms is told by them.
use Rattle.std.proofs.Common.{◌≡◌, ℕ, ◌<◌, ◌≤◌, ◌&&◌, Bool, true, false, List, [], ◌∷◌, map, refl, sym, ap, ◌∙◌, subst, arith, inl, inr, Option, Some, None}
use Rattle.std.specs.Prelude.{nat_le}
use Rattle.std.specs.List.{list_any}
use Rattle.std.specs.Str.{bytes_eq}
use Rattle.std.proofs.lemmas.Bool.{cases_Bool}
use Rattle.std.proofs.lemmas.Bool.Decides.{nat_tests}
use Rattle.std.proofs.lemmas.Option.{same_Some}
use Rattle.vg_pseudo.specs.declared.header.Header.{Header}
use Rattle.vg_pseudo.specs.declared.header.ImmRange.{ImmRange}
use Rattle.vg_names.specs.Written.{IsWritten, ResolvedAreProper}
use Rattle.vg_names.specs.Views.{resolved_of}
use Rattle.vg_range.specs.declared.checked.Checked.{Checked}
use Rattle.vg_range.specs.Immediates.{has_instance, immediate_of, IsByte}
use Rattle.vg_lift.specs.Instances.{HasLanes}
use Rattle.vg_lanes.specs.Described.{immediate}
use Rattle.vg_catalog.specs.Called.{called_by, entry_named, imm_number}
use Rattle.vg_catalog.specs.Catalogs.{entries_in}
use Rattle.vg_catalog.specs.Entries.{Entry, entry_of, name_of}
use Rattle.vg_catalog.specs.Written.{AllWritten}
use Rattle.vg_catalog.proofs.Kept.{catalog-written}
use Rattle.vg_entry_lanes.specs.Laws.{HaveLanes}
use Rattle.vg_entry_lanes.proofs.Headers.{catalog-lanes}
use Rattle.vg_program.specs.Valid.{IsImm}
use Rattle.vg_program.proofs.Steps.{same_bytes}
use Rattle.vg_known.specs.Calls.{is_opaque, lanes_of}
use Rattle.vg_known.specs.Laws.{IsTold}
use Rattle.vg_told.specs.Told.{CatalogsAreTold}
use Rattle.vg_told.proofs.Accepted.{accepted, Accepts}
use Rattle.vg_told.proofs.Lanes.{lanes-fill, lanes-mean}
use Rattle.vg_told.proofs.Calls.{are-lanes, are-true}

-- ---- immediates

number-kept : (i : Option ImmRange) (imm : Option ℕ) → IsImm i imm → imm_number (immediate i (imm_number imm)) ≡ imm_number imm
number-kept None None h = refl
number-kept None (Some k) h = absurd h
number-kept (Some r) None h = absurd h
number-kept (Some r) (Some k) h = refl

both-true : (a b : Bool) → a ≡ true → b ≡ true → (a && b) ≡ true
both-true true true e f = refl
both-true true false e f = absurd (cc)
both-true false b e f = absurd (cc)

has-it : (i : Option ImmRange) (imm : Option ℕ) → IsImm i imm → has_instance i (immediate_of i (imm_number imm)) ≡ true
has-it None None h = refl
has-it None (Some k) h = absurd h
has-it (Some r) None h = absurd h
has-it (Some r) (Some k) h =
    both-true (nat_le r.lo k) (nat_le k r.hi) (grind (arith, nat_tests, h.1)) (grind (arith, nat_tests, h.2))

is-byte : (i : Option ImmRange) (imm : Option ℕ) → IsImm i imm → IsByte (immediate_of i (imm_number imm))
is-byte None imm h = tt
is-byte (Some r) None h = absurd h
is-byte (Some r) (Some k) h = h.0

-- ---- the entry of a name

-- an accepted entry of a file, that has this name
pub record Found (e : Entry) (name : List ℕ) : Type 0 where
  pub accepts : Accepts e.header e.operation
  pub written : IsWritten e.header e.operation
  pub lanes : HasLanes e.header
  pub named : bytes_eq e.header.name name ≡ true

found : (cs : List Checked) (name : List ℕ) (e : Entry) → AllWritten (map entry_of cs) → HaveLanes (map entry_of cs) → entry_named (map entry_of cs) name ≡ Some e → Found e name
found [] name e written lanes is = absurd (cc)
found (c ∷ cs) name e written lanes is = elim (cases_Bool (bytes_eq (entry_of c).header.name name)) [
  | inl t ↦
      let here : entry_of c ≡ e = same_Some _ _ (let f = rw t at is in f) in
      subst (λ x. Found x name) here (record {
        accepts = accepted (entry_of c).header (entry_of c).operation (resolved_of c.resolved) c.accepted;
        written = written.0;
        lanes = lanes.0;
        named = t;
      })
  | inr t ↦ found cs name e written.1 lanes.1 (let f = rw t at is in f)
]

-- ---- what is told

pub told : ResolvedAreProper → (entries : List Entry) (e : Entry) (name : List ℕ) (imm : Option ℕ) → Found e name → entry_named entries name ≡ Some e → IsImm e.header.imm imm
    → list_any is_opaque (lanes_of e imm) ≡ false → IsTold (called_by entries) e imm
told proper entries e name imm f is at clear =
    let h = e.header in
    let n = imm_number imm in
    let means = lanes-mean proper h e.operation n f.accepts f.written f.lanes (has-it h.imm imm at) (is-byte h.imm imm at) in
    let fill = lanes-fill h e.operation n f.lanes in
    let named : entry_named entries (name_of e) ≡ Some e = subst (λ x. entry_named entries x ≡ Some e) (sym (same_bytes h.name name f.named)) is in
    record {
      lanes = are-lanes h e.operation n (lanes_of e imm) means fill;
      some = f.lanes.width.0;
      few = f.lanes.width.1;
      means = are-true entries e n (lanes_of e imm) named (number-kept h.imm imm at) means fill clear;
    }

pub catalogs-are-told : ResolvedAreProper → CatalogsAreTold
catalogs-are-told proper catalog name e imm is at clear =
    let cs = catalog.entries.items in
    told proper (entries_in catalog) e name imm
    (found cs name e (catalog-written catalog) (catalog-lanes catalog) is) is at clear
