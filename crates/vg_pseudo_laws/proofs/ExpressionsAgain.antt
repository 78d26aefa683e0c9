-- Expressions that are in the language are read. An expression of a level is read up to the operators of the level, which
-- join it to what stands after.
use Rattle.std.proofs.Common.{◌≡◌, ℕ, zero, suc, ◌+◌, ◌<◌, ◌≤◌, false, List, ◌∷◌, ◌++◌, Option, Some, None, Result, Ok, refl, sym, ◌∙◌, subst, inl, inr, arith}
use Rattle.std.specs.Prelude.{codes, nat_eq, if◌then◌else◌}
use Rattle.std.specs.Option.{option_map_or}
use Rattle.std.proofs.lemmas.Bool.{le-leb, eq-eqb, eqb-true, cases_Bool}
use Rattle.vg_base.specs.Bind.{◌>>=◌}
use Rattle.vg_base.proofs.Bind.{bind_to}
use Rattle.vg_text.specs.declared.place.Place.{Place}
use Rattle.vg_text.specs.Words.{Reading, Spelled}
use Rattle.vg_pseudo.specs.declared.operators.BinaryOp.{BinaryOp}
use Rattle.vg_pseudo.specs.declared.fault.PseudoFault.{PseudoFault}
use Rattle.vg_pseudo.specs.Tree.{binary, choice}
use Rattle.vg_pseudo.specs.Spots.{spot_at, outer_of}
use Rattle.vg_pseudo.specs.Definitions.{Context}
use Rattle.vg_pseudo.specs.Words.{level_of, operator_named}
use Rattle.vg_pseudo.specs.Grammar.{Words, Is}
use Rattle.vg_pseudo.specs.Reader.{next_at, expect_at, accept_at}
use Rattle.vg_pseudo.specs.Expressions.{Part, Inner, above_two, above_three, operator_of, operator_at, join_at, joined_one, joined_at, compared_at, choice_at, chosen_at, behind_at, level_at, expression_at}
use Rattle.vg_pseudo_laws.proofs.Standing.{Reads}
use Rattle.vg_pseudo_laws.proofs.WordsAgain.{next-again, split, expect-again, accept-again, accept-not, Ends, ends-tighter, ends-text, ends-operator, ends-mark}
use Rattle.vg_pseudo_laws.proofs.OperandsAgain.{Gives, GivesOperand}

-- the operator of a word that binds as this level does
operator-is : (level : ℕ) (bytes : List ℕ) (op : BinaryOp) → operator_named bytes ≡ Some op → level_of op ≡ level → operator_of level bytes ≡ Some op
operator-is level bytes op e k = rw e (rw (eq-eqb (level_of op) level k) refl)

operator-not : (level : ℕ) (bytes : List ℕ) → ((op : BinaryOp) → operator_named bytes ≡ Some op → level < level_of op) → operator_of level bytes ≡ None
operator-not level bytes h = by (operator_named bytes) refl
  where
    by : (o : Option BinaryOp) → operator_named bytes ≡ o → option_map_or (λ op. if nat_eq (level_of op) level then Some op else None) o None ≡ None
    by (Some op) k =
        let l = h op k in
        elim (cases_Bool (nat_eq (level_of op) level)) [ inl t ↦ absurd (let same = eqb-true (level_of op) level t in omega arith) | inr f ↦ rw f refl ]
    by None k = refl

operator-taken : (level : ℕ) (w : Spelled) (r n : Reading) (op : BinaryOp) → next_at r ≡ Ok (w, n) → operator_of level w.bytes ≡ Some op → operator_at level r ≡ Ok (Some op, n)
operator-taken level w r n op e k = bind_to (next_at r) _ e (subst (λ (o : Option BinaryOp). option_map_or {U = Result (Option BinaryOp × Reading) PseudoFault} (λ op. Ok (Some op, n)) o (Ok (None, r)) ≡ Ok (Some op, n)) (sym k) refl)

operator-left : (level : ℕ) (w : Spelled) (r n : Reading) → next_at r ≡ Ok (w, n) → operator_of level w.bytes ≡ None → operator_at level r ≡ Ok (None, r)
operator-left level w r n e k = bind_to (next_at r) _ e (subst (λ (o : Option BinaryOp). option_map_or {U = Result (Option BinaryOp × Reading) PseudoFault} (λ op. Ok (Some op, n)) o (Ok (None, r)) ≡ Ok (None, r)) (sym k) refl)

no_operator : (level : ℕ) (m : Reading) → Ends level m → operator_at level m ≡ Ok (None, m)
no_operator level m end = operator-left level end.word m end.behind end.next (operator-not level end.word.bytes end.loose)

module _ (context : Context) where
  -- how an expression of this level is read where so many nodes may stand below its root
  abbrev pub at_level : Place → ℕ → ℕ → Reading → Result (Part × Reading) PseudoFault
  at_level whole room level r = level_at context whole (expression_at context whole room) room level r

  -- it is read, where it ends after its words
  abbrev pub Closes : ℕ → Words → Part → Type 0
  Closes level ws x = (whole : Place) (room : ℕ) (r m : Reading) → Reads ws r m → Ends level m → x.depth ≤ suc room → at_level whole room level r ≡ Ok (x, m)

  -- what reading it has come to, where an operator of its level may follow
  pub record Reached (whole : Place) (room level : ℕ) (r : Reading) (x : Part) (m : Reading) : Type 0 where
    pub joins : ℕ
    pub enough : suc room ≤ joins + x.depth
    pub read : at_level whole room (suc level) r ≡ joined_at whole (expression_at context whole room) room level joins x m

  -- a level whose operators repeat
  abbrev pub Repeats : ℕ → Type 0
  Repeats level = (level ≡ 3 → ⊥) × (level ≡ 7 → ⊥)

  abbrev pub Reaches : ℕ → Words → Part → Type 0
  Reaches zero ws x = Unit {0}
  Reaches (suc level) ws x = Repeats level → (whole : Place) (room : ℕ) (r m : Reading) → Reads ws r m → Ends level m → x.depth ≤ suc room → Reached whole room level r x m

  -- the law of an expression
  pub record Law (level : ℕ) (ws : Words) (x : Part) : Type 0 where
    pub closes : Closes level ws x
    pub reaches : Reaches level ws x
    pub some : 1 ≤ x.depth

  pub gives : (level : ℕ) (ws : Words) (x : Part) → Law level ws x → (whole : Place) (room : ℕ) → x.depth ≤ room → Gives (expression_at context whole room) level ws x
  unfolding expression_at
  gives level ws x law whole zero deep = λ r m h end. absurd (let s = law.some in omega arith)
  gives level ws x law whole (suc room) deep = λ r m h end. law.closes whole room r m h end deep

  pub operand-law : (ws : Words) (x : Part) → 1 ≤ x.depth → ((whole : Place) (room : ℕ) → x.depth ≤ suc room → GivesOperand context (expression_at context whole room) ws x) → Law 0 ws x
  unfolding level_at
  operand-law ws x some reads = record { closes = λ whole room r m h end deep. reads whole room deep r m h end; reaches = tt; some = some }

  -- no operator of the level follows
  joined-ends : (whole : Place) (inner : Inner) (room level joins : ℕ) (x : Part) (m : Reading) → Ends (suc level) m → joined_at whole inner room level joins x m ≡ Ok (x, m)
  unfolding joined_at
  joined-ends whole inner room level zero x m end = bind_to (operator_at (suc level) m) _ (no_operator (suc level) m end) refl
  joined-ends whole inner room level (suc joins) x m end = bind_to (operator_at (suc level) m) _ (no_operator (suc level) m end) refl

  compared-ends : (whole : Place) (inner : Inner) (room : ℕ) (x : Part) (m : Reading) → Ends 4 m → compared_at whole inner room x m ≡ Ok (x, m)
  unfolding compared_at
  compared-ends whole inner room x m end = bind_to (operator_at 4 m) _ (no_operator 4 m end) refl

  chosen-ends : (whole : Place) (inner : Inner) (room : ℕ) (x : Part) (m : Reading) → Ends 8 m → chosen_at whole inner room x m ≡ Ok (x, m)
  unfolding chosen_at
  chosen-ends whole inner room x m end = bind_to (accept_at (codes "?") m) _ (accept-not (codes "?") end.word m end.behind (end.mark refl) end.next) refl

  behind-joined : (whole : Place) (inner : Inner) (room level : ℕ) (x : Part) (m : Reading) → Repeats level → behind_at whole inner room level x m ≡ joined_at whole inner room level room x m
  behind-joined whole inner room level x m other = rw (test level 7 other.1, test level 3 other.0) refl
    where
      test : (l k : ℕ) → (l ≡ k → ⊥) → nat_eq l k ≡ false
      test l k n = elim (cases_Bool (nat_eq l k)) [ inl t ↦ absurd (n (eqb-true l k t)) | inr f ↦ f ]

  -- nothing of the level follows
  behind-ends : (whole : Place) (inner : Inner) (room level : ℕ) (x : Part) (m : Reading) → Ends (suc level) m → behind_at whole inner room level x m ≡ Ok (x, m)
  behind-ends whole inner room level x m end =
      elim (cases_Bool (nat_eq level 7)) [
        | inl t ↦ (let is = eqb-true level 7 t in subst (λ (l : ℕ). behind_at whole inner room l x m ≡ Ok (x, m)) (sym is) (chosen-ends whole inner room x m (subst (λ (l : ℕ). Ends (suc l) m) is end)))
        | inr f ↦ elim (cases_Bool (nat_eq level 3)) [
          | inl t ↦ (let is = eqb-true level 3 t in subst (λ (l : ℕ). behind_at whole inner room l x m ≡ Ok (x, m)) (sym is) (compared-ends whole inner room x m (subst (λ (l : ℕ). Ends (suc l) m) is end)))
          | inr g ↦ rw (f, g) (joined-ends whole inner room level room x m end)
        ]
      ]

  pub tighter-law : (level : ℕ) (ws : Words) (x : Part) → level ≤ 7 → Law level ws x → Law (suc level) ws x
  unfolding level_at
  tighter-law level ws x few law = record {
    closes = λ whole room r m h end deep. bind_to (at_level whole room level r) _ (law.closes whole room r m h (ends-tighter level m end few) deep) (behind-ends whole (expression_at context whole room) room level x m end);
    reaches = λ other whole room r m h end deep. record {
      joins = room;
      enough = let s = law.some in omega arith;
      read = bind_same (at_level whole room level r) _ (law.closes whole room r m h end deep) ∙ behind-joined whole (expression_at context whole room) room level x m other;
    };
    some = law.some;
  }
    where
      bind_same : {A B E : Type 0} (y : Result A E) (f : A → Result B E) {a : A} → y ≡ Ok a → (y >>= f) ≡ f a
      bind_same y f e = rw e refl

  -- an operator and its right operand
  one-joined : (whole : Place) (inner : Inner) (room level : ℕ) (left : Part) (op : BinaryOp) (ys : Words) (y : Part) (r m : Reading) → left.depth ≤ room → Gives inner level ys y → Reads ys r m → Ends level m
      → joined_one whole inner room level left op r ≡ Ok (above_two (binary (spot_at (outer_of left.expression)) op left.expression y.expression) left y, m)
  unfolding join_at
  one-joined whole inner room level left op ys y r m few law h end = rw (le-leb left.depth room few) (bind_to (inner level r) _ (law r m h end) refl)

  joined-more : (whole : Place) (inner : Inner) (room level joins : ℕ) (left x : Part) (op : BinaryOp) (r q m : Reading) → operator_at (suc level) r ≡ Ok (Some op, q) → joined_one whole inner room level left op q ≡ Ok (x, m)
      → joined_at whole inner room level (suc joins) left r ≡ joined_at whole inner room level joins x m
  unfolding joined_at
  joined-more whole inner room level joins left x op r q m e f = rw e (rw f refl)

  joined-reaches : (op : BinaryOp) (w : Spelled) (level : ℕ) (xs ys : Words) (x y : Part) → Law (suc level) xs x → operator_named w.bytes ≡ Some op → level_of op ≡ suc level → Law level ys y
      → Reaches (suc level) (xs ++ w ∷ ys) (above_two (binary (spot_at (outer_of x.expression)) op x.expression y.expression) x y)
  joined-reaches op w level xs ys x y left named binds right other whole room r m h end deep =
      let a = split xs h in
      let b = next-again a.second in
      let f = left.reaches other whole room r a.middle a.first (ends-operator level op w b.behind a.middle b.next named (omega arith)) (omega arith) in
      let one = one-joined whole (expression_at context whole room) room level x op ys y b.behind m (omega arith) (gives level ys y right whole room (omega arith)) b.rest end in
      go f.joins f.enough a.middle b.behind f.read (operator-taken (suc level) w a.middle b.behind op b.next (operator-is (suc level) w.bytes op named binds)) one
    where
      go : (joins : ℕ) → suc room ≤ joins + x.depth → (q p : Reading) → at_level whole room (suc level) r ≡ joined_at whole (expression_at context whole room) room level joins x q → operator_at (suc level) q ≡ Ok (Some op, p)
          → joined_one whole (expression_at context whole room) room level x op p ≡ Ok (above_two (binary (spot_at (outer_of x.expression)) op x.expression y.expression) x y, m)
          → Reached whole room level r (above_two (binary (spot_at (outer_of x.expression)) op x.expression y.expression) x y) m
      go zero enough q p read t one = absurd (omega arith)
      go (suc joins) enough q p read t one = record { joins = joins; enough = omega arith; read = read ∙ joined-more whole (expression_at context whole room) room level joins x _ op q p m t one }

  pub joined-law : (op : BinaryOp) (w : Spelled) (level : ℕ) (xs ys : Words) (x y : Part) → level ≤ 7 → Repeats level → Law (suc level) xs x → operator_named w.bytes ≡ Some op → level_of op ≡ suc level → Law level ys y
      → Law (suc level) (xs ++ w ∷ ys) (above_two (binary (spot_at (outer_of x.expression)) op x.expression y.expression) x y)
  joined-law op w level xs ys x y few repeats left named binds right =
      let reaches = joined-reaches op w level xs ys x y left named binds right in
      record {
        closes = λ whole room r m h end deep. (
            let f = reaches repeats whole room r m h (ends-tighter level m end few) deep in
            f.read ∙ joined-ends whole (expression_at context whole room) room level f.joins _ m end
            );
        reaches = reaches;
        some = omega arith;
      }

  pub compared-law : (op : BinaryOp) (w : Spelled) (xs ys : Words) (x y : Part) → Law 3 xs x → operator_named w.bytes ≡ Some op → level_of op ≡ 4 → Law 3 ys y
      → Law 4 (xs ++ w ∷ ys) (above_two (binary (spot_at (outer_of x.expression)) op x.expression y.expression) x y)
  unfolding level_at compared_at
  compared-law op w xs ys x y left named binds right = record {
    closes = λ whole room r m h end deep. (
        let a = split xs h in
        let b = next-again a.second in
        bind_to (at_level whole room 3 r) _ (left.closes whole room r a.middle a.first (ends-operator 3 op w b.behind a.middle b.next named (omega arith)) (omega arith))
        (bind_to (operator_at 4 a.middle) _ (operator-taken 4 w a.middle b.behind op b.next (operator-is 4 w.bytes op named binds))
        (one-joined whole (expression_at context whole room) room 3 x op ys y b.behind m (omega arith) (gives 3 ys y right whole room (omega arith)) b.rest (ends-tighter 3 m end (omega arith))))
        );
    reaches = λ other. absurd (other.0 refl);
    some = omega arith;
  }

  pub chosen-law : (mark colon : Spelled) (cs xs ys : Words) (c x y : Part) → Law 7 cs c → Is mark (codes "?") → Law 8 xs x → Is colon (codes ":") → Law 8 ys y
      → Law 8 (cs ++ mark ∷ (xs ++ colon ∷ ys)) (above_three (choice (spot_at (outer_of c.expression)) c.expression x.expression y.expression) c x y)
  unfolding level_at chosen_at choice_at
  chosen-law mark colon cs xs ys c x y condition mark_is first colon_is second = record {
    closes = λ whole room r m h end deep. (
        let a = split cs h in
        let b = next-again a.second in
        let d = split xs b.rest in
        let e = next-again d.second in
        let fits : c.depth ≤ room = omega arith in
        bind_to (at_level whole room 7 r) _ (condition.closes whole room r a.middle a.first (ends-mark mark b.behind a.middle b.next mark_is) (omega arith))
        (bind_to (accept_at (codes "?") a.middle) _ (accept-again (codes "?") mark a.middle b.behind mark_is b.next)
        (rw (le-leb c.depth room fits)
        (bind_to (expression_at context whole room 8 b.behind) _ (gives 8 xs x first whole room (omega arith) b.behind d.middle d.first (ends-text 8 (codes ":") colon e.behind d.middle e.next colon_is refl))
        (bind_to (expect_at (codes ":") d.middle) _ (expect-again (codes ":") colon d.middle e.behind colon_is e.next)
        (bind_to (expression_at context whole room 8 e.behind) _ (gives 8 ys y second whole room (omega arith) e.behind m e.rest end) refl)))))
        );
    reaches = λ other. absurd (other.1 refl);
    some = omega arith;
  }
