-- Truncations of truncations, of extensions, of operations and of selections.
use Rattle.std.proofs.Common.{◌≡◌, ℕ, ◌*◌, ◌%◌, ◌^◌, ◌<◌, ◌≤◌, Bool, true, false, refl, sym, ap, ◌∙◌, arith, inl}
use Rattle.std.specs.Prelude.{nat_le, nat_eq, if◌then◌else◌}
use Rattle.std.proofs.lemmas.Bool.{leb-true, leb-false, cond_both}
use Rattle.vg_base.specs.Bits.{signed_at}
use Rattle.vg_terms.specs.declared.term.OneOp.{OneOp}
use Rattle.vg_terms.specs.declared.term.OneOp.TheVariants.{Zext, Sext, Trunc}
use Rattle.vg_terms.specs.declared.term.TwoOp.{TwoOp}
use Rattle.vg_terms.specs.declared.term.TwoOp.TheVariants.{Add, Mul, And, Or, Xor}
use Rattle.vg_terms.specs.declared.value.Env.{Env}
use Rattle.vg_terms.specs.Term.{Tree, one, two, sel, width_of, TwoFits, WellFormed}
use Rattle.vg_base.specs.Number.{residue}
use Rattle.vg_terms.specs.Value.{one_value, two_value, value}
use Rattle.vg_terms.specs.Measure.{one_weight, two_weight}
use Rattle.vg_terms.specs.Resize.{low, low_two}
use Rattle.vg_terms.proofs.Measures.{one_weight_some}
use Rattle.vg_base.proofs.LowBits.{low-low, low-below}
use Rattle.vg_terms.proofs.Values.{value-below}
use Rattle.vg_base.proofs.Signed.{residue-low, residue-signed}
use Rattle.vg_terms.specs.Resize.{keeps_low}
use Rattle.vg_terms.proofs.Narrow.{low-two}
use Rattle.vg_terms.proofs.Resizing.{low-width, low-formed, low-value, low-weight, low_two-formed, low_two-value, low_two-weight}
use Rattle.vg_rules_width.specs.Rules.{truncate_truncate, resized, truncate_extension, truncate_operation, truncate_selection}
use Rattle.vg_terms.specs.Table.{Promises, IsSound}
use Rattle.vg_terms.proofs.Tables.{given}

-- the low bits of an extension by the sign are those of the number
low_of_sext : (m w n v : ℕ) → n ≤ m → n ≤ w → v < 2 ^ w → residue m (signed_at w v) % 2 ^ n ≡ v % 2 ^ n
low_of_sext m w n v h l b =
    residue-low m n (signed_at w v) h
    ∙ sym (ap (λ r. r % 2 ^ n) (sym (residue-signed w v b)) ∙ residue-low w n (signed_at w v) l)

low_of_either : (t : Bool) (p q a b m : ℕ) → p ≡ a % m → q ≡ b % m → (if t then p else q) ≡ (if t then a else b) % m
low_of_either true p q a b m d e = d
low_of_either false p q a b m d e = e

-- to the low bits of what an operation keeps in its low bits
cut_low : (op : OneOp) (n z m y : ℕ) (x : Tree) → 0 < n → n ≤ width_of x → 0 < m → WellFormed x →
    ((env : Env) → one_value op m y (width_of x) (value env x) % 2 ^ n ≡ value env x % 2 ^ n) →
    Promises (one Trunc n z (one op m y x)) (low n x)
cut_low op n z m y x h l k f same = record {
  keeps = record {
    well_formed = low-formed n x h l f;
    width = low-width n x;
    value = λ env. low-value env n x l f ∙ sym (same env);
  };
  falls = inl (omega (arith, low-weight n x, one_weight_some op m k));
}

-- to an extension to fewer bits
cut_extension : (op : OneOp) (n z m y : ℕ) (x : Tree) → WellFormed (one op n 0 x) →
    one_weight op n ≡ one_weight op m →
    ((env : Env) → one_value op n 0 (width_of x) (value env x) ≡ one_value op m y (width_of x) (value env x) % 2 ^ n) → Promises (one Trunc n z (one op m y x)) (one op n 0 x)
cut_extension op n z m y x f e same = record {
  keeps = record { well_formed = f; width = refl; value = same };
  falls = inl (omega arith);
}

cut_twice : (n z m y : ℕ) (x : Tree) → WellFormed (one Trunc n z (one Trunc m y x)) →
    Promises (one Trunc n z (one Trunc m y x)) (low n x)
cut_twice n z m y x f =
    let inner : n ≤ m = omega (arith, f.1.0) in
    cut_low Trunc n z m y x f.0.0 (omega (arith, f.1.0, f.2.1.0)) f.2.0.0 f.2.2 (λ env. low-low (value env x) m n inner)

cut_zext : (n z m y : ℕ) (x : Tree) → WellFormed (one Trunc n z (one Zext m y x)) →
    Promises (one Trunc n z (one Zext m y x)) (resized Zext n x)
cut_zext n z m y x f =
    cond_both (nat_le n (width_of x)) (low n x) (one Zext n 0 x) (Promises (one Trunc n z (one Zext m y x)))
    (λ t. cut_low Zext n z m y x f.0.0 (leb-true n (width_of x) t) f.2.0.0 f.2.2 (λ env. refl))
    (λ t. let more = leb-false n (width_of x) t in
    let wider : width_of x ≤ n = omega arith in
    cut_extension Zext n z m y x (f.0, (more, refl), f.2.2) refl (λ env. sym (low-below (value env x) (width_of x) n (value-below env x f.2.2) wider)))

cut_sext : (n z m y : ℕ) (x : Tree) → WellFormed (one Trunc n z (one Sext m y x)) →
    Promises (one Trunc n z (one Sext m y x)) (resized Sext n x)
cut_sext n z m y x f =
    let inner : n ≤ m = omega (arith, f.1.0) in
    cond_both (nat_le n (width_of x)) (low n x) (one Sext n 0 x) (Promises (one Trunc n z (one Sext m y x)))
    (λ t. let less = leb-true n (width_of x) t in
    cut_low Sext n z m y x f.0.0 less f.2.0.0 f.2.2 (λ env. low_of_sext m (width_of x) n (value env x) inner less (value-below env x f.2.2)))
    (λ t. let more = leb-false n (width_of x) t in
    cut_extension Sext n z m y x (f.0, (more, refl), f.2.2) refl (λ env. sym (residue-low m n (signed_at (width_of x) (value env x)) inner)))

pub truncate_truncate-sound : IsSound truncate_truncate
unfolding truncate_truncate
truncate_truncate-sound (one Trunc n z (one Trunc m y x)) new f e = given _ _ new (cut_twice n z m y x f) e
truncate_truncate-sound _ new f e = absurd (cc)

pub truncate_extension-sound : IsSound truncate_extension
unfolding truncate_extension
truncate_extension-sound (one Trunc n z (one Zext m y x)) new f e = given _ _ new (cut_zext n z m y x f) e
truncate_extension-sound (one Trunc n z (one Sext m y x)) new f e = given _ _ new (cut_sext n z m y x f) e
truncate_extension-sound _ new f e = absurd (cc)

cut_operation : (op : TwoOp) (n z m : ℕ) (x y : Tree) → keeps_low op ≡ true → TwoFits op n n n →
    WellFormed (one Trunc n z (two op m x y)) → width_of x ≡ m → width_of y ≡ m →
    ((k j : ℕ) → two_weight op k j ≡ 8 * k) → Promises (one Trunc n z (two op m x y)) (low_two op n n x y)
cut_operation op n z m x y t s f e d own =
    let inner : n ≤ m = omega (arith, f.1.0) in
    let lx : n ≤ width_of x = omega arith in
    let ly : n ≤ width_of y = omega arith in
    record {
      keeps = record {
        well_formed = low_two-formed op n n x y f.0 s f.0.0 lx ly f.2.2 f.2.3;
        width = refl;
        value =
            λ env. low_two-value env op n n x y lx ly f.2.2 f.2.3
            ∙ sym (ap (λ k. two_value op m k (value env x) (value env y) % 2 ^ n) d
            ∙ low-two op m n (value env x) (value env y) t inner);
      };
      falls = inl (omega (arith, low_two-weight op n n x y, own n n, own m (width_of x), f.1.0));
    }

pub truncate_operation-sound : IsSound truncate_operation
unfolding truncate_operation
truncate_operation-sound (one Trunc n z (two Add m x y)) new f e =
    given _ _ new (cut_operation Add n z m x y refl (refl, refl) f f.2.1.0 f.2.1.1 (λ k j. refl)) e
truncate_operation-sound (one Trunc n z (two Mul m x y)) new f e =
    given _ _ new (cut_operation Mul n z m x y refl (refl, refl) f f.2.1.0 f.2.1.1 (λ k j. refl)) e
truncate_operation-sound (one Trunc n z (two And m x y)) new f e =
    given _ _ new (cut_operation And n z m x y refl (refl, refl) f f.2.1.0 f.2.1.1 (λ k j. refl)) e
truncate_operation-sound (one Trunc n z (two Or m x y)) new f e =
    given _ _ new (cut_operation Or n z m x y refl (refl, refl) f f.2.1.0 f.2.1.1 (λ k j. refl)) e
truncate_operation-sound (one Trunc n z (two Xor m x y)) new f e =
    given _ _ new (cut_operation Xor n z m x y refl (refl, refl) f f.2.1.0 f.2.1.1 (λ k j. refl)) e
truncate_operation-sound _ new f e = absurd (cc)

cut_selection : (n z m : ℕ) (c x y : Tree) → WellFormed (one Trunc n z (sel m c x y)) →
    Promises (one Trunc n z (sel m c x y)) (sel n c (low n x) (low n y))
cut_selection n z m c x y f =
    let g = f.2 in
    let lx : n ≤ width_of x = omega (arith, f.1.0, g.1.1) in
    let ly : n ≤ width_of y = omega (arith, f.1.0, g.1.2) in
    record {
      keeps = record {
        well_formed =
            (f.0, (g.1.0, low-width n x, low-width n y), g.2, low-formed n x f.0.0 lx g.3, low-formed n y f.0.0 ly g.4);
        width = refl;
        value =
            λ env. low_of_either (nat_eq (value env c) 1) _ _ (value env x) (value env y) (2 ^ n) (low-value env n x lx g.3) (low-value env n y ly g.4);
      };
      falls = inl (omega (arith, low-weight n x, low-weight n y, f.1.0));
    }

pub truncate_selection-sound : IsSound truncate_selection
unfolding truncate_selection
truncate_selection-sound (one Trunc n z (sel m c x y)) new f e = given _ _ new (cut_selection n z m c x y f) e
truncate_selection-sound _ new f e = absurd (cc)
