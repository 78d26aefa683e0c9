-- The turns of a block keep the limits, and no more of those that a block may have do.
use Rattle.std.proofs.Common.{◌≡◌, ℕ, zero, suc, ◌+◌, ◌-◌, ◌*◌, ◌<◌, ◌≤◌, ◌^◌, ℤ, pos, negsuc, Bool, true, false, List, [], ◌∷◌, ◌++◌, length, refl, sym, ap, subst, ◌∙◌, arith, Contains, ◌⊎◌, inl, inr, mul-le-mul_right}
use Rattle.std.specs.Prelude.{slice_index_or, sum_by, nat_le, nat_lt, ◌&&◌}
use Rattle.std.specs.List.{list_all, flat_map}
use Rattle.std.proofs.Math.Bool.{and-true}
use Rattle.std.proofs.lemmas.List.Folds.{list_all-append}
use Rattle.std.proofs.lemmas.Bool.{cases_Bool, cond-true, cond-false, leb-true, le-leb, ltb-true, lt-ltb}
use Rattle.std.proofs.lemmas.List.Elements.{All-contains}
use Rattle.std.proofs.lemmas.List.Sums.{AllPass-from_list_all}
use Rattle.vg_base.specs.Offset.{IsOffset}
use Rattle.vg_kernel.specs.Cost.{uses_of}
use Rattle.vg_kernel.specs.Layout.{Access, reads_of, statement_accesses, accesses}
use Rattle.vg_kernel.specs.Tree.{Expression, argument, assigned, literal, load, two, shift, resize, compare, select, Statement, assign, store}
use Rattle.vg_kernel.specs.WellFormed.{IsWellFormed}
use Rattle.vg_loop_laws.specs.Loops.{Loop}
use Rattle.vg_loop_laws.specs.Unrolled.{moved_address}
use Rattle.vg_loop_laws.specs.Limits.{KeepsLimits, is_offset, is_near, reads_stay, statement_stays, keeps_limits, turns_of}
use Rattle.vg_loop_laws.specs.Laws.{FewerKeepLimits, AreMost, TurnsAreMost}
use Rattle.vg_loop_laws.proofs.Kept.{earlier_stays, address-one}
use Rattle.vg_loop_laws.proofs.KnownOffsets.{offsets-known}

both : (a b : Bool) → (a && b) ≡ true → (a ≡ true) × (b ≡ true)
both true b e = (refl, e)
both false b e = absurd (cc)

joined : (a b : Bool) → a ≡ true → b ≡ true → (a && b) ≡ true
joined a b e f = (λ i. e i && f i)

offset-told : (z : ℤ) → is_offset z ≡ true → IsOffset z
offset-told (pos n) e = ltb-true n (2 ^ 31) e
offset-told (negsuc n) e = ltb-true n (2 ^ 31) e

offset-tells : (z : ℤ) → IsOffset z → is_offset z ≡ true
offset-tells (pos n) h = lt-ltb n (2 ^ 31) h
offset-tells (negsuc n) h = lt-ltb n (2 ^ 31) h

-- whether an access keeps its offset
abbrev stays : List ℕ → ℕ → Access → Bool
stays steps u x = is_near steps u x.address

reads-stay : (steps : List ℕ) (u : ℕ) (e : Expression) → reads_stay steps u e ≡ list_all (stays steps u) (reads_of e)
reads-stay steps u (argument k w) = refl
reads-stay steps u (assigned k t) = refl
reads-stay steps u (literal w n) = refl
reads-stay steps u (load w a) = sym (and-true (is_near steps u a))
reads-stay steps u (two op w x y) =
    (λ i. reads-stay steps u x i && reads-stay steps u y i) ∙ sym (list_all-append (stays steps u) (reads_of x) (reads_of y))
reads-stay steps u (shift op w k x) = reads-stay steps u x
reads-stay steps u (resize op w v x) = reads-stay steps u x
reads-stay steps u (compare op w x y) =
    (λ i. reads-stay steps u x i && reads-stay steps u y i) ∙ sym (list_all-append (stays steps u) (reads_of x) (reads_of y))
reads-stay steps u (select w c x y) =
    (λ i. reads-stay steps u c i && (reads-stay steps u x i && reads-stay steps u y i))
    ∙ ap (λ (b : Bool). list_all (stays steps u) (reads_of c) && b) (sym (list_all-append (stays steps u) (reads_of x) (reads_of y)))
    ∙ sym (list_all-append (stays steps u) (reads_of c) (reads_of x ++ reads_of y))

statement-stays : (steps : List ℕ) (u : ℕ) (s : Statement) → statement_stays steps u s ≡ list_all (stays steps u) (statement_accesses s)
statement-stays steps u (assign e) = reads-stay steps u e
statement-stays steps u (store w a e) =
    (λ i. reads-stay steps u e i && sym (and-true (is_near steps u a)) i) ∙ sym (list_all-append (stays steps u) (reads_of e) _)

all-stay : (steps : List ℕ) (u : ℕ) (ss : List Statement)
    → list_all (statement_stays steps u) ss ≡ list_all (stays steps u) (flat_map statement_accesses ss)
all-stay steps u [] = refl
all-stay steps u (s ∷ ss) =
    (λ i. statement-stays steps u s i && all-stay steps u ss i)
    ∙ sym (list_all-append (stays steps u) (statement_accesses s) (flat_map statement_accesses ss))

-- what the test says of the limits
pub limits-told : (l : Loop) (n : ℕ) → 1 ≤ n → keeps_limits l n ≡ true → KeepsLimits l n
unfolding keeps_limits
limits-told l n some e =
    let few = both (nat_le (n * length l.kernel.statements) 4096) _ e in
    let used = both (nat_le (n * sum_by uses_of l.kernel.statements) 8192) _ few.1 in
    let all = AllPass-from_list_all (stays l.steps (n - 1)) (accesses l.kernel) (sym (all-stay l.steps (n - 1) l.kernel.statements) ∙ used.1) in
    record {
      some = some;
      statements = leb-true _ _ few.0;
      uses = leb-true _ _ used.0;
      offsets = λ x has. offset-told _ (All-contains (λ y. stays l.steps (n - 1) y ≡ true) (accesses l.kernel) x all has);
    }

all-pass : (p : Access → Bool) (xs : List Access) → ((x : Access) → Contains xs x → p x ≡ true) → list_all p xs ≡ true
all-pass p [] h = refl
all-pass p (x ∷ xs) h =
    joined (p x) (list_all p xs) (h x (0, omega arith, refl))
    (all-pass p xs (λ y has. h y (suc has.0, (let below = has.1 in omega (arith, below)), has.2)))

pub limits-tell : (l : Loop) (n : ℕ) → KeepsLimits l n → keeps_limits l n ≡ true
unfolding keeps_limits
limits-tell l n keep =
    joined (nat_le (n * length l.kernel.statements) 4096) _ (le-leb _ _ keep.statements)
    (joined (nat_le (n * sum_by uses_of l.kernel.statements) 8192) _ (le-leb _ _ keep.uses)
    (all-stay l.steps (n - 1) l.kernel.statements ∙ all-pass (stays l.steps (n - 1)) (accesses l.kernel) (λ x has. offset-tells _ (keep.offsets x has))))

pub fewer-keep-limits : FewerKeepLimits
fewer-keep-limits l n most is keep some less =
    let statements : n * length l.kernel.statements ≤ most * length l.kernel.statements = mul-le-mul_right (length l.kernel.statements) less in
    let uses : n * sum_by uses_of l.kernel.statements ≤ most * sum_by uses_of l.kernel.statements = mul-le-mul_right (sum_by uses_of l.kernel.statements) less in
    let few = keep.statements in
    let used = keep.uses in
    record {
      some = some;
      statements = omega (arith, statements, few);
      uses = omega (arith, uses, used);
      offsets = earlier_stays l most (n - 1) (omega (arith, some, less)) (offsets-known l.kernel is) keep.offsets;
    }

-- one turn keeps the limits, as the kernel does
one-keeps-limits : (l : Loop) → IsWellFormed l.kernel → KeepsLimits l 1
one-keeps-limits l is =
    let few = is.statements in
    let used = is.uses in
    record {
      some = omega arith;
      statements = omega (arith, few);
      uses = omega (arith, used);
      offsets = λ x has. subst (λ a. IsOffset a.offset) (sym (address-one l.steps x.address)) (offsets-known l.kernel is x has);
    }

abbrev OneOf : ℕ → Type 0
OneOf k = (16 ≡ k) ⊎ ((8 ≡ k) ⊎ ((4 ≡ k) ⊎ ((2 ≡ k) ⊎ (1 ≡ k))))

one-of : (k : ℕ) → Contains (16 ∷ 8 ∷ 4 ∷ 2 ∷ 1 ∷ []) k → OneOf k
one-of k (zero, below, e) = inl e
one-of k (suc zero, below, e) = inr (inl e)
one-of k (suc (suc zero), below, e) = inr (inr (inl e))
one-of k (suc (suc (suc zero)), below, e) = inr (inr (inr (inl e)))
one-of k (suc (suc (suc (suc zero))), below, e) = inr (inr (inr (inr e)))
one-of k (suc (suc (suc (suc (suc i)))), below, e) = absurd (omega (arith, below))

-- so many turns that do not keep the limits are none that keep them
refused : (l : Loop) (n k : ℕ) → keeps_limits l n ≡ false → n ≡ k → KeepsLimits l k → k ≤ 0
refused l n k e same keep =
    let kept : keeps_limits l n ≡ true = ap (keeps_limits l) same ∙ limits-tell l k keep in
    let never : true ≡ false = sym kept ∙ e in
    absurd (cc)

pub turns-are-most : TurnsAreMost
unfolding turns_of
turns-are-most l is = elim (cases_Bool (keeps_limits l 16)) [
  | inl a ↦ subst (AreMost l) (sym (cond-true _ _ _ a)) (record {
    keep = limits-told l 16 (omega arith) a;
    listed = (0, omega arith, refl);
    most = λ k has keep. below16 k (one-of k has);
  })
  | inr a ↦ elim (cases_Bool (keeps_limits l 8)) [
    | inl b ↦ subst (AreMost l) (sym (cond-false _ _ _ a ∙ cond-true _ _ _ b)) (record {
      keep = limits-told l 8 (omega arith) b;
      listed = (1, omega arith, refl);
      most = λ k has keep. below8 k (λ e. refused l 16 k a e keep) (one-of k has);
    })
    | inr b ↦ elim (cases_Bool (keeps_limits l 4)) [
      | inl d ↦ subst (AreMost l) (sym (cond-false _ _ _ a ∙ cond-false _ _ _ b ∙ cond-true _ _ _ d)) (record {
        keep = limits-told l 4 (omega arith) d;
        listed = (2, omega arith, refl);
        most = λ k has keep. below4 k (λ e. refused l 16 k a e keep) (λ e. refused l 8 k b e keep) (one-of k has);
      })
      | inr d ↦ elim (cases_Bool (keeps_limits l 2)) [
        | inl f ↦ subst (AreMost l) (sym (cond-false _ _ _ a ∙ cond-false _ _ _ b ∙ cond-false _ _ _ d ∙ cond-true _ _ _ f)) (record {
          keep = limits-told l 2 (omega arith) f;
          listed = (3, omega arith, refl);
          most = λ k has keep. below2 k (λ e. refused l 16 k a e keep) (λ e. refused l 8 k b e keep) (λ e. refused l 4 k d e keep) (one-of k has);
        })
        | inr f ↦ subst (AreMost l) (sym (cond-false _ _ _ a ∙ cond-false _ _ _ b ∙ cond-false _ _ _ d ∙ cond-false _ _ _ f)) (record {
          keep = one-keeps-limits l is;
          listed = (4, omega arith, refl);
          most = λ k has keep. below1 k (λ e. refused l 16 k a e keep) (λ e. refused l 8 k b e keep) (λ e. refused l 4 k d e keep) (λ e. refused l 2 k f e keep) (one-of k has);
        })
      ]
    ]
  ]
]
  where
    below16 : (k : ℕ) → OneOf k → k ≤ 16
    below16 k (inl e) = omega (arith, e)
    below16 k (inr (inl e)) = omega (arith, e)
    below16 k (inr (inr (inl e))) = omega (arith, e)
    below16 k (inr (inr (inr (inl e)))) = omega (arith, e)
    below16 k (inr (inr (inr (inr e)))) = omega (arith, e)

    below8 : (k : ℕ) → (16 ≡ k → k ≤ 0) → OneOf k → k ≤ 8
    below8 k x16 (inl e) = let none = x16 e in omega (arith, none)
    below8 k x16 (inr (inl e)) = omega (arith, e)
    below8 k x16 (inr (inr (inl e))) = omega (arith, e)
    below8 k x16 (inr (inr (inr (inl e)))) = omega (arith, e)
    below8 k x16 (inr (inr (inr (inr e)))) = omega (arith, e)

    below4 : (k : ℕ) → (16 ≡ k → k ≤ 0) → (8 ≡ k → k ≤ 0) → OneOf k → k ≤ 4
    below4 k x16 x8 (inl e) = let none = x16 e in omega (arith, none)
    below4 k x16 x8 (inr (inl e)) = let none = x8 e in omega (arith, none)
    below4 k x16 x8 (inr (inr (inl e))) = omega (arith, e)
    below4 k x16 x8 (inr (inr (inr (inl e)))) = omega (arith, e)
    below4 k x16 x8 (inr (inr (inr (inr e)))) = omega (arith, e)

    below2 : (k : ℕ) → (16 ≡ k → k ≤ 0) → (8 ≡ k → k ≤ 0) → (4 ≡ k → k ≤ 0) → OneOf k → k ≤ 2
    below2 k x16 x8 x4 (inl e) = let none = x16 e in omega (arith, none)
    below2 k x16 x8 x4 (inr (inl e)) = let none = x8 e in omega (arith, none)
    below2 k x16 x8 x4 (inr (inr (inl e))) = let none = x4 e in omega (arith, none)
    below2 k x16 x8 x4 (inr (inr (inr (inl e)))) = omega (arith, e)
    below2 k x16 x8 x4 (inr (inr (inr (inr e)))) = omega (arith, e)

    below1 : (k : ℕ) → (16 ≡ k → k ≤ 0) → (8 ≡ k → k ≤ 0) → (4 ≡ k → k ≤ 0) → (2 ≡ k → k ≤ 0) → OneOf k → k ≤ 1
    below1 k x16 x8 x4 x2 (inl e) = let none = x16 e in omega (arith, none)
    below1 k x16 x8 x4 x2 (inr (inl e)) = let none = x8 e in omega (arith, none)
    below1 k x16 x8 x4 x2 (inr (inr (inl e))) = let none = x4 e in omega (arith, none)
    below1 k x16 x8 x4 x2 (inr (inr (inr (inl e)))) = let none = x2 e in omega (arith, none)
    below1 k x16 x8 x4 x2 (inr (inr (inr (inr e)))) = omega (arith, e)
