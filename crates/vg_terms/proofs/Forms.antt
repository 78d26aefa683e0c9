-- The test of well-formed terms says what it is to say.
use Rattle.std.proofs.Common.{◌≡◌, ℕ, ◌+◌, ◌^◌, ◌<◌, ◌≤◌, ◌↔◌, Bool, true}
use Rattle.std.specs.Prelude.{◌&&◌, nat_eq, nat_lt, nat_le}
use Rattle.std.proofs.lemmas.Bool.{and_parts, and_from, ltb-true, lt-ltb, leb-true, le-leb, eqb-true, eq-eqb}
use Rattle.vg_terms.specs.declared.term.OneOp.{OneOp}
use Rattle.vg_terms.specs.declared.term.OneOp.TheVariants.{Zext, Sext, Trunc, Lshr, Ashr}
use Rattle.vg_terms.specs.declared.term.TwoOp.{TwoOp}
use Rattle.vg_terms.specs.declared.term.TwoOp.TheVariants.{Add, Mul, And, Or, Xor, Smin, Smax, Umin, Umax, Eq, Slt, Ult, Cat}
use Rattle.vg_terms.specs.Term.{Tree, leaf, constant, one, two, sel, width_of, IsWidth, OneFits, TwoFits, WellFormed, is_width, one_fits, two_fits, sel_fits, well_formed}

-- a test that is true exactly where a fact holds
abbrev Tells : Bool → Type 0 → Type 0
Tells b P = (b ≡ true) ↔ P

both : {P Q : Type 0} (a b : Bool) → Tells a P → Tells b Q → Tells (a && b) (P × Q)
both a b h g = ((λ e. let p = and_parts a b e in (h.0 p.0, g.0 p.1)), λ p. and_from a b (h.1 p.0) (g.1 p.1))

three : {P Q R : Type 0} (a b c : Bool) → Tells a P → Tells b Q → Tells c R → Tells (a && (b && c)) (P × Q × R)
three a b c h g k =
    ((λ e. let p = and_parts a (b && c) e in let q = and_parts b c p.1 in (h.0 p.0, g.0 q.0, k.0 q.1)), λ p. and_from a (b && c) (h.1 p.0) (and_from b c (g.1 p.1) (k.1 p.2)))

less : (a b : ℕ) → Tells (nat_lt a b) (a < b)
less a b = (ltb-true a b, lt-ltb a b)

most : (a b : ℕ) → Tells (nat_le a b) (a ≤ b)
most a b = (leb-true a b, le-leb a b)

same : (a b : ℕ) → Tells (nat_eq a b) (a ≡ b)
same a b = (eqb-true a b, eq-eqb a b)

width_tells : (w : ℕ) → Tells (is_width w) (IsWidth w)
width_tells w = both _ _ (less 0 w) (most w 128)

one_tells : (op : OneOp) (w k m : ℕ) → Tells (one_fits op w k m) (OneFits op w k m)
one_tells Zext w k m = both _ _ (less m w) (same k 0)
one_tells Sext w k m = both _ _ (less m w) (same k 0)
one_tells Trunc w k m = both _ _ (less w m) (same k 0)
one_tells Lshr w k m = both _ _ (same m w) (less k w)
one_tells Ashr w k m = both _ _ (same m w) (less k w)

two_tells : (op : TwoOp) (w m n : ℕ) → Tells (two_fits op w m n) (TwoFits op w m n)
two_tells Eq w m n = both _ _ (same w 1) (same m n)
two_tells Slt w m n = both _ _ (same w 1) (same m n)
two_tells Ult w m n = both _ _ (same w 1) (same m n)
two_tells Cat w m n = same w (m + n)
two_tells Add w m n = both _ _ (same m w) (same n w)
two_tells Mul w m n = both _ _ (same m w) (same n w)
two_tells And w m n = both _ _ (same m w) (same n w)
two_tells Or w m n = both _ _ (same m w) (same n w)
two_tells Xor w m n = both _ _ (same m w) (same n w)
two_tells Smin w m n = both _ _ (same m w) (same n w)
two_tells Smax w m n = both _ _ (same m w) (same n w)
two_tells Umin w m n = both _ _ (same m w) (same n w)
two_tells Umax w m n = both _ _ (same m w) (same n w)

pub well_formed_tells : (t : Tree) → Tells (well_formed t) (WellFormed t)
well_formed_tells (leaf w k) = width_tells w
well_formed_tells (constant w v) = both _ _ (width_tells w) (less v (2 ^ w))
well_formed_tells (one op w k x) = three _ _ _ (width_tells w) (one_tells op w k (width_of x)) (well_formed_tells x)
well_formed_tells (two op w x y) =
    let f = width_tells w in
    let g = two_tells op w (width_of x) (width_of y) in
    let h = well_formed_tells x in
    let k = well_formed_tells y in (
      (λ e. let p = and_parts (is_width w) _ e in let q = and_parts (two_fits op w (width_of x) (width_of y)) _ p.1 in let r = and_parts (well_formed x) (well_formed y) q.1 in (f.0 p.0, g.0 q.0, h.0 r.0, k.0 r.1)),
      λ p. and_from _ _ (f.1 p.0) (and_from _ _ (g.1 p.1) (and_from _ _ (h.1 p.2) (k.1 p.3))),
    )
well_formed_tells (sel w c x y) =
    let f = width_tells w in
    let g = three _ _ _ (same (width_of c) 1) (same (width_of x) w) (same (width_of y) w) in
    let d = well_formed_tells c in
    let h = well_formed_tells x in
    let k = well_formed_tells y in (
      (λ e. let p = and_parts (is_width w) _ e in let q = and_parts (sel_fits w (width_of c) (width_of x) (width_of y)) _ p.1 in let r = and_parts (well_formed c) _ q.1 in let s = and_parts (well_formed x) (well_formed y) r.1 in (f.0 p.0, g.0 q.0, d.0 r.0, h.0 s.0, k.0 s.1)),
      λ p. and_from _ _ (f.1 p.0) (and_from _ _ (g.1 p.1) (and_from _ _ (d.1 p.2) (and_from _ _ (h.1 p.3) (k.1 p.4)))),
    )
