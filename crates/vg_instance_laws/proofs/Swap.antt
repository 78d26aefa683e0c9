-- Two words that are turned by a call: all that the law of the checker wants is met.
use Rattle.std.proofs.Common.{◌≡◌, ◌∙◌, ℕ, true, false, inl, inr, List, [], ◌∷◌, Option, Some, None, refl, sym, ap, subst, arith, lit<, lit≤}
use Rattle.std.specs.Prelude.{codes, is_ok, map}
use Rattle.std.specs.List.{IsDistinct, list_any}
use Rattle.std.specs.Str.{bytes_eq}
use Rattle.std.proofs.lemmas.Bool.{cases_Bool}
use Rattle.std.proofs.lemmas.Option.{same_Some}
use Rattle.vg_base.specs.Bits.{bits, bytes, num}
use Rattle.vg_canon.specs.Canonical.{canonical, canonical_within, first_rule}
use Rattle.vg_rules_sum.specs.Rules.{fold_constants, merge_constants, neutral_or_absorbing, same_operands, sort_chain}
use Rattle.vg_rules_width.specs.Rules.{extend_extend, first_row, narrow_extended_sum, narrow_product, part_of_concatenation, shift_by_zero, shift_of_extension, shift_of_shift, sign_of_nonnegative, truncate_arithmetic_shift, truncate_extension, truncate_logical_shift, truncate_operation, truncate_selection, truncate_truncate, zero_on_top}
use Rattle.vg_rules_choice.specs.Rules.{known_selection, narrow_comparison, narrow_least_or_greatest, negated_selection, selection_is_least_or_greatest}
use Rattle.vg_names.specs.Written.{IsWritten, ResolvedAreProper}
use Rattle.vg_interval.specs.Interval.{fit}
use Rattle.vg_range.specs.Acceptance.{checked, judged_from}
use Rattle.vg_range.specs.Immediates.{first_imm}
use Rattle.vg_lift.specs.Instances.{HasLanes}
use Rattle.vg_terms.specs.declared.term.Term.TheVariants.{Const, Leaf}
use Rattle.vg_shapes.specs.declared.ssa.Ssa.{Ssa}
use Rattle.vg_shapes.specs.Sound.{IsSound, load_key}
use Rattle.vg_ssa.specs.Numbering.{IsNumbering, param_of, units_of}
use Rattle.vg_ssa.specs.StandsFor.{StandsFor}
use Rattle.vg_ssa.proofs.Enough.{stands-for}
use Rattle.vg_ssa.proofs.Soundness.{can-same, kernel-can, numbered-sound}
use Rattle.vg_kernel.specs.WellFormed.{IsWellFormed}
use Rattle.vg_kernel.specs.Words.{is_reserved, plain_named}
use Rattle.vg_catalog.specs.Called.{called_by, entry_named, headers_of}
use Rattle.vg_catalog.specs.Entries.{Entry}
use Rattle.vg_program.specs.Valid.{KeepsRules}
use Rattle.vg_known.specs.Difference.{difference, difference_by}
use Rattle.vg_known.specs.Laws.{CallsAreTold, SameMeansUnits}
use Rattle.vg_told.proofs.Accepted.{accepts, Accepts}
use Rattle.vg_told.proofs.Told.{Found, told}
use Rattle.vg_compile.specs.Means.{Means}
use Rattle.vg_check.proofs.Numbered.{means_kernel, told_numbered}
use Rattle.vg_instance_laws.specs.Swap.{at, swap_entries, swap_header, swap_kernel, swap_operation, swap_program, SwapIsSame}

-- ---- the entry

accepted : is_ok (checked swap_header swap_operation) ≡ true
unfolding checked judged_from fit first_imm num bits bytes
accepted = refl

written : IsWritten swap_header swap_operation
written = record {
  params = (lit≤ tt, tt);
  register = lit≤ tt;
  defines = tt;
  body = tt;
}

lanes : HasLanes swap_header
lanes = record { width = (lit< tt, lit≤ tt); fill = refl }

abbrev the-entry : Entry
the-entry = record { header = swap_header; operation = swap_operation }

pub calls-told : ResolvedAreProper → CallsAreTold (called_by swap_entries) swap_entries
calls-told proper name e imm is at clear = elim (cases_Bool (bytes_eq (codes "swap") name)) [
  | inl t ↦
      let same : the-entry ≡ e = same_Some _ _ (let f = rw t at is in f) in
      told proper swap_entries e name imm
      (subst (λ x. Found x name) same (record {
        accepts = accepts swap_header swap_operation (checked swap_header swap_operation) refl accepted;
        written = written;
        lanes = lanes;
        named = t;
      })) is at clear
  | inr f ↦ absurd (let g = rw f at is in cc)
]

-- ---- the kernel

pub names : IsDistinct bytes_eq (codes "d" ∷ codes "p" ∷ [])
unfolding IsDistinct
names = ((refl, tt), ((tt), tt))

formed : IsWellFormed swap_kernel
unfolding is_reserved plain_named
formed = record {
  name = refl;
  names = (refl, (refl, tt));
  distinct = names;
  params = lit≤ tt;
  each = (
    (record { pointer = lit< tt; offset = lit< tt }, lit≤ tt),
    (
      (record { pointer = lit< tt; offset = lit< tt }, lit≤ tt),
      (
        (record { pointer = lit< tt; offset = lit< tt }, refl, lit≤ tt, refl),
        (
          (record { pointer = lit< tt; offset = lit< tt }, refl, lit≤ tt, refl),
          tt,
        ),
      ),
    ),
  );
  statements = lit≤ tt;
  uses = lit≤ tt;
}

abbrev swap_ssa : Ssa
swap_ssa = record {
  name = codes "turn";
  params = map param_of swap_kernel.params;
  units = units_of swap_kernel;
  terms =
      Leaf 64 (load_key (at 1 0) 0)
      ∷ Leaf 64 (load_key (at 1 8) 1)
      ∷ Const 8 0
      ∷ Const 8 0
      ∷ [];
  cuts = [];
}

numbering : IsNumbering swap_kernel swap_ssa
unfolding canonical canonical_within first_rule bits num bytes
numbering = record { name = refl; params = refl; units = refl; terms = refl }

sound : IsSound swap_ssa
sound = numbered-sound swap_ssa (can-same swap_ssa (kernel-can swap_kernel formed)) numbering.terms (inl refl)

-- ---- the program

rules : KeepsRules (headers_of swap_entries) swap_program
rules = record {
  name = refl;
  params = record { few = lit≤ tt; names = (refl, (refl, tt)); distinct = names };
  lines = (
    record { pointer = lit< tt; offset = lit< tt },
    (
      (refl, record { passed = refl; immediate = tt; width = refl; charge = refl }),
      (
        (record { pointer = lit< tt; offset = lit< tt }, refl),
        tt,
      ),
    ),
  );
  cost = refl;
  small = lit< tt;
  scalar = lit≤ tt;
}

-- ---- both

no-difference : difference swap_entries swap_ssa swap_program ≡ None
unfolding difference_by canonical canonical_within first_rule bits num bytes fit checked fold_constants merge_constants neutral_or_absorbing same_operands sort_chain extend_extend first_row narrow_extended_sum narrow_product part_of_concatenation shift_by_zero shift_of_extension shift_of_shift sign_of_nonnegative truncate_arithmetic_shift truncate_extension truncate_logical_shift truncate_operation truncate_selection truncate_truncate zero_on_top known_selection narrow_comparison narrow_least_or_greatest negated_selection selection_is_least_or_greatest
no-difference = refl

pub swap-is-same : ResolvedAreProper → SameMeansUnits → SwapIsSame
swap-is-same proper law =
    record {
      accepted = accepted;
      formed = formed;
      rules = rules;
      same = sym (told_numbered swap_entries swap_kernel swap_ssa swap_program false None numbering
          (sym no-difference));
      means =
          means_kernel swap_entries swap_kernel swap_ssa swap_program numbering
          (stands-for swap_kernel swap_ssa formed numbering)
          (record { name = refl; params = refl })
          (law false (called_by swap_entries) swap_entries swap_ssa swap_program sound rules (calls-told proper)
          no-difference);
    }
