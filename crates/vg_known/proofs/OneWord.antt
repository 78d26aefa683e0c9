-- A word that is stored byte by byte: all that the law wants is met.
use Rattle.std.proofs.Common.{false, ◌≡◌, ℕ, zero, suc, ◌<◌, ◌⊎◌, inl, inr, List, [], ◌∷◌, length, take, Some, None, refl, sym, ap, ◌∙◌, arith, lit<, lit≤}
use Rattle.std.specs.Prelude.{codes, slice_index}
use Rattle.std.specs.List.{IsDistinct}
use Rattle.std.specs.Str.{bytes_eq}
use Rattle.vg_base.specs.Address.{place_of}
use Rattle.vg_base.specs.Bits.{bits, bytes, num}
use Rattle.vg_base.specs.Memory.{stored}
use Rattle.vg_base.specs.Trap.{◌>>=◌}
use Rattle.vg_terms.specs.Term.{Tree, constant}
use Rattle.vg_terms.specs.Value.{value}
use Rattle.vg_canon.specs.Canonical.{canonical, canonical_within, first_rule}
use Rattle.vg_rules_sum.specs.Rules.{fold_constants, merge_constants, neutral_or_absorbing, same_operands, sort_chain}
use Rattle.vg_rules_width.specs.Rules.{extend_extend, first_row, narrow_extended_sum, narrow_product, part_of_concatenation, shift_by_zero, shift_of_extension, shift_of_shift, sign_of_nonnegative, truncate_arithmetic_shift, truncate_extension, truncate_logical_shift, truncate_operation, truncate_selection, truncate_truncate, zero_on_top}
use Rattle.vg_rules_choice.specs.Rules.{known_selection, narrow_comparison, narrow_least_or_greatest, negated_selection, selection_is_least_or_greatest}
use Rattle.vg_program.specs.Meaning.{Instructions}
use Rattle.vg_program.specs.Valid.{KeepsRules}
use Rattle.vg_shapes.specs.RunUnits.{Reached, reached, run_units, start_of}
use Rattle.vg_shapes.specs.Sound.{environment, IsSound, term_at, TermsMean}
use Rattle.vg_order_laws.proofs.Runs.{went_well}
use Rattle.vg_known.specs.Difference.{difference, difference_by}
use Rattle.vg_known.specs.Laws.{CallsAreTold}
use Rattle.vg_known.specs.OneWord.{at, BytesMeanTheWord, one_word, two_bytes}
use Rattle.vg_known.proofs.Same.{same-means-units}

-- after any of its units each value has the number 0
zeros : (numbers : List ℕ) (v : ℕ) (t : Tree) → (numbers ≡ []) ⊎ (numbers ≡ 0 ∷ []) → v < length numbers → term_at one_word v ≡ Some t → value (environment one_word numbers) t ≡ slice_index numbers v
zeros numbers v t (inl e) low is = absurd (let l = ap length e in omega arith)
zeros numbers (suc v) t (inr e) low is = absurd (let l = ap length e in omega arith)
zeros numbers zero t (inr e) low is =
    let same : constant 8 0 ≡ t = cc in
    ap (value (environment one_word numbers)) (sym same) ∙ sym (ap (λ l. slice_index l 0) e)

terms-mean : TermsMean one_word
unfolding run_units
terms-mean places memory [] zero r are none run v t low is =
    zeros r.numbers v t (inl (let same : start_of memory [] ≡ r = cc in ap (λ (q : Reached). q.numbers) (sym same))) low is
terms-mean places memory [] (suc k) r are none run v t low is =
    zeros r.numbers v t (inr (by k (went_well (stored memory (place_of places (at 0)) (bytes 2 513) >>= λ m. Some (reached m [] 0)) (run_units places (take k [])) run))) low is
  where
    by : (k : ℕ) → ((q : Reached) × ((stored memory (place_of places (at 0)) (bytes 2 513) >>= λ m. Some (reached m [] 0)) ≡ Some q) × (run_units places (take k []) q ≡ Some r)) → r.numbers ≡ 0 ∷ []
    by k went =
        let put = went_well (stored memory (place_of places (at 0)) (bytes 2 513)) _ went.1 in
        let first : reached put.0 [] 0 ≡ went.0 = (let e : Some (reached put.0 [] 0) ≡ Some went.0 = put.2 in cc) in
        let last : went.0 ≡ r = done k went.0 went.2 in
        ap (λ (q : Reached). q.numbers) (sym last) ∙ ap (λ (q : Reached). q.numbers) (sym first)
      where
        done : (k : ℕ) (q : Reached) → run_units places (take k []) q ≡ Some r → q ≡ r
        done zero q e = cc
        done (suc k) q e = cc
terms-mean places memory (n ∷ args) k r are none run v t low is = absurd (cc)

one-name : IsDistinct bytes_eq (codes "d" ∷ [])
unfolding IsDistinct
one-name = (tt, tt)

one_word-sound : IsSound one_word
one_word-sound = record {
  name = refl;
  names = (refl, tt);
  distinct = one-name;
  params = lit≤ tt;
  stores = lit≤ tt;
  uses = lit≤ tt;
  units = ((record { pointer = lit< tt; offset = lit< tt }, (refl, lit< tt)), tt);
  earlier = (tt, tt);
  argument_terms = refl;
  unit_terms = (refl, refl);
  meaning = terms-mean;
  cuts = inl refl;
}

two_bytes-keep : KeepsRules [] two_bytes
two_bytes-keep = record {
  name = refl;
  params = record { few = lit≤ tt; names = (refl, tt); distinct = one-name };
  lines = ((record { pointer = lit< tt; offset = lit< tt }, refl), ((record { pointer = lit< tt; offset = lit< tt }, refl), tt));
  cost = refl;
  small = lit< tt;
  scalar = lit≤ tt;
}

no-calls : (called : Instructions) → CallsAreTold called []
no-calls called name e imm none is plain = absurd (cc)

same : difference [] one_word two_bytes ≡ None
unfolding difference_by canonical canonical_within first_rule bits num bytes fold_constants merge_constants neutral_or_absorbing same_operands sort_chain extend_extend first_row narrow_extended_sum narrow_product part_of_concatenation shift_by_zero shift_of_extension shift_of_shift sign_of_nonnegative truncate_arithmetic_shift truncate_extension truncate_logical_shift truncate_operation truncate_selection truncate_truncate zero_on_top known_selection narrow_comparison narrow_least_or_greatest negated_selection selection_is_least_or_greatest
same = refl

pub bytes-mean-the-word : BytesMeanTheWord
bytes-mean-the-word = record {
  same = same;
  means = λ called. same-means-units false called [] one_word two_bytes one_word-sound two_bytes-keep (no-calls called)
      same;
}
