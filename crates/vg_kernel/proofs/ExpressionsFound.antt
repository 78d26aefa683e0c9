-- What is read as an expression is in the language. The invariant is `Found`; a reader of inner expressions keeps it.
use Rattle.std.proofs.Common.{◌≡◌, ℕ, zero, suc, ◌+◌, ◌<◌, ◌≤◌, Bool, true, false, [], ◌∷◌, ◌++◌, Option, Some, None, Result, Ok, Err, refl, sym, ◌∙◌, ap, subst, inl, inr, arith}
use Rattle.std.specs.Prelude.{codes, max, nat_lt, nat_le, nat_eq, is_some, if◌then◌else◌}
use Rattle.std.specs.Option.{option_map_or}
use Rattle.std.specs.Str.{bytes_eq}
use Rattle.std.proofs.lemmas.Bool.{ltb-true, leb-true, eqb-true}
use Rattle.vg_base.specs.Bind.{◌>>=◌, or_fault}
use Rattle.vg_base.specs.Trap.{◌>>=◌ as ◌>>◌}
use Rattle.vg_base.proofs.Bind.{bind_ok, tested_ok, either_way}
use Rattle.vg_base.specs.declared.width.Width.{Width}
use Rattle.vg_base.specs.Width.{bits_of}
use Rattle.vg_scalar.specs.declared.two_op.TwoOp.{TwoOp}
use Rattle.vg_scalar.specs.declared.shift.Shift.{Shift}
use Rattle.vg_scalar.specs.declared.resize.Resize.{Resize}
use Rattle.vg_text.specs.declared.place.Place.{Place}
use Rattle.vg_text.specs.Number.{decimal_value}
use Rattle.vg_text.specs.Words.{Reading, Spelled, word_at}
use Rattle.vg_text.specs.Byte.{begins_digit}
use Rattle.vg_kernel.specs.declared.fault.KernelFault.TheVariants.{Shape, ShiftRange, NestingTooDeep}
use Rattle.vg_kernel.specs.declared.function.Function.{Function}
use Rattle.vg_kernel.specs.declared.function.Function.TheVariants as functions
use Rattle.vg_kernel.specs.declared.given.Given.{Given}
use Rattle.vg_kernel.specs.declared.given.Given.TheVariants as given
use Rattle.vg_kernel.specs.Cost.{expression_cost}
use Rattle.vg_kernel.specs.Expressions.{Scan, Part, Inner, Operator, leaf_part, judged, value_of, load_at, whole_at, pair_at, pair_end, resize_end, amount_at, shift_end, select_end, select_at, arguments_at, call_at, named_at, operand_at, operator_word, operator_at, join_at, joined_at, level_at, expression_at}
use Rattle.vg_kernel.specs.Grammar.{Is, name, number, negative, pair, moved, resized, chosen, tighter, joined, value_given}
use Rattle.vg_kernel.specs.Names.{Names, given_as}
use Rattle.vg_kernel.specs.Nodes.{width_in, pair_node, resize_node, select_node}
use Rattle.vg_kernel.specs.Reader.{next_at, expect_at}
use Rattle.vg_kernel.specs.Tree.{Expression, argument, assigned, literal, shift}
use Rattle.vg_text.specs.Sized.{width_behind}
use Rattle.vg_kernel.specs.Words.{sized, level_of, operator_named, plain_named, function_named, is_free}
use Rattle.vg_kernel.proofs.Scripts.{Spells, Spells-append, same_text, ok_once, fault-some, next-found, tested-found, expect-found, true_fact}
use Rattle.vg_kernel.proofs.Sizes.{width_behind-found}
use Rattle.vg_kernel.proofs.PlacesFound.{decimal-some}
use Rattle.vg_kernel.proofs.OperandsFound.{Found, Sound, at, judged-found, closed-found, literal-found, leaf-found, load-found, parenthesised-found, pair-found, pair-cost, resize-cost, select-cost}

-- no word has no name of a function, and is no operator
function_of_nothing : is_some (function_named []) ≡ false
unfolding plain_named
function_of_nothing = refl

nothing_is_no_operator : is_some (operator_named []) ≡ false
unfolding operator_named
nothing_is_no_operator = refl

-- a call: the words before its arguments are the name of the function and `(`
record Opened (r0 r : Reading) (word opening : Spelled) (f : Function) : Type 0 where
  named : function_named word.bytes ≡ Some f
  is_opening : Is opening (codes "(")
  spells : Spells r0 (word ∷ opening ∷ []) r

pair_call-found : (names : Names) (room : ℕ) (inner : Inner) → Sound names room inner → (f : Function) (r0 r : Reading) (word opening : Spelled) (used : ℕ) (x : Part × Part) (p : Part) → Opened r0 r word opening f
    → pair_at inner r used ≡ Ok x → pair_end f word.place x.0 x.1 ≡ Ok p → Found names (room + 1) 0 (at r0 used) p
unfolding pair_end
pair_call-found names room inner sound f r0 r word opening used x p o e h =
    let both = pair-found names room inner sound r used x e in
    let n = bind_ok (judged word.place x.1.scan.used (pair_node f x.0.expression x.1.expression)) _ h in
    let j = judged-found word.place x.1.scan.used (pair_node f x.0.expression x.1.expression) n.0 n.1 in
    let c = closed-found n.0.0 (max x.0.depth x.1.depth) x.1.scan.reading n.0.1 p n.2 in
    let u0 = both.first.used in
    let u1 = both.second.used in
    let cost = pair-cost f x.0.expression x.1.expression n.0.0 j.0 in
    let s3 = Spells-append both.between x.1.scan.reading p.scan.reading both.second.words (c.0 ∷ []) both.second.spells c.2 in
    let s2 = Spells-append x.0.scan.reading both.between p.scan.reading (both.comma ∷ []) (both.second.words ++ c.0 ∷ []) both.spells s3 in
    let s1 = Spells-append r x.0.scan.reading p.scan.reading both.first.words (both.comma ∷ (both.second.words ++ c.0 ∷ [])) both.first.spells s2 in
    let s0 = Spells-append r0 r p.scan.reading (word ∷ opening ∷ []) (both.first.words ++ both.comma ∷ (both.second.words ++ c.0 ∷ [])) o.spells s1 in
    subst (λ (q : Part). Found names (room + 1) 0 (at r0 used) q) (sym c.3)
    (record {
      words = word ∷ opening ∷ (both.first.words ++ both.comma ∷ (both.second.words ++ c.0 ∷ []));
      is = pair f word opening both.comma c.0 x.0.depth x.1.depth both.first.words both.second.words x.0.expression x.1.expression n.0.0 o.named o.is_opening both.first.is both.is_comma both.second.is c.1 j.0;
      spells = s0;
      used = omega (arith, j.1, u0, u1, cost);
      few = λ l. omega (arith, j.1, j.2);
      deep = omega (arith, both.first.deep, both.second.deep);
    })

resize_call-found : (names : Names) (room : ℕ) (inner : Inner) → Sound names room inner → (op : Resize) (to : Width) (r0 r : Reading) (word opening : Spelled) (used : ℕ) (x p : Part) → Opened r0 r word opening (functions.Resize op to)
    → whole_at inner r used ≡ Ok x → resize_end op to word.place x ≡ Ok p → Found names (room + 1) 0 (at r0 used) p
unfolding resize_end
resize_call-found names room inner sound op to r0 r word opening used x p o e h =
    let f = sound 5 (at r used) x e in
    let n = bind_ok (judged word.place x.scan.used (resize_node op to x.expression)) _ h in
    let j = judged-found word.place x.scan.used (resize_node op to x.expression) n.0 n.1 in
    let c = closed-found n.0.0 x.depth x.scan.reading n.0.1 p n.2 in
    let u0 = f.used in
    let cost = resize-cost op to x.expression n.0.0 j.0 in
    let s1 = Spells-append r x.scan.reading p.scan.reading f.words (c.0 ∷ []) f.spells c.2 in
    let s0 = Spells-append r0 r p.scan.reading (word ∷ opening ∷ []) (f.words ++ c.0 ∷ []) o.spells s1 in
    subst (λ (q : Part). Found names (room + 1) 0 (at r0 used) q) (sym c.3)
    (record {
      words = word ∷ opening ∷ (f.words ++ c.0 ∷ []);
      is = resized op to word opening c.0 x.depth f.words x.expression n.0.0 o.named o.is_opening f.is c.1 j.0;
      spells = s0;
      used = omega (arith, j.1, u0, cost);
      few = λ l. omega (arith, j.1, j.2);
      deep = omega (arith, f.deep);
    })

amount-found : (width : Width) (r : Reading) (x : ℕ × Reading) → amount_at width r ≡ Ok x → (digits : Spelled) × (decimal_value digits.bytes ≡ Some x.0) × (x.0 < bits_of width) × Spells r (digits ∷ []) x.1
unfolding amount_at
amount-found width r x e =
    let w = bind_ok (next_at r) _ e in
    let n = bind_ok (or_fault (decimal_value w.0.0.bytes) (Shape w.0.0.place)) _ w.2 in
    let t = tested_ok (nat_lt n.0 (bits_of width)) (Ok (n.0, w.0.1)) (ShiftRange w.0.0.place) n.2 in
    let spelled = fault-some (decimal_value w.0.0.bytes) _ n.0 n.1 in
    subst (λ (q : ℕ × Reading). (digits : Spelled) × (decimal_value digits.bytes ≡ Some q.0) × (q.0 < bits_of width) × Spells r (digits ∷ []) q.1) (ok_once (n.0, w.0.1) x t.1)
    (w.0.0, spelled, ltb-true n.0 (bits_of width) t.0, next-found r w.0 w.1 (decimal-some w.0.0.bytes n.0 spelled))

shift_call-found : (names : Names) (room : ℕ) (inner : Inner) → Sound names room inner → (op : Shift) (r0 r : Reading) (word opening : Spelled) (used : ℕ) (x p : Part) → Opened r0 r word opening (functions.Shift op)
    → whole_at inner r used ≡ Ok x → shift_end op word.place x ≡ Ok p → Found names (room + 1) 0 (at r0 used) p
unfolding shift_end
shift_call-found names room inner sound op r0 r word opening used x p o e h =
    let f = sound 5 (at r used) x e in
    let n = bind_ok (judged word.place x.scan.used (width_in x.expression)) _ h in
    let j = judged-found word.place x.scan.used (width_in x.expression) n.0 n.1 in
    let m = bind_ok (expect_at (codes ",") x.scan.reading) _ n.2 in
    let a = bind_ok (amount_at n.0.0 m.0) _ m.2 in
    let comma = expect-found 44 [] x.scan.reading m.0 m.1 in
    let amount = amount-found n.0.0 m.0 a.0 a.1 in
    let c = closed-found (shift op n.0.0 a.0.0 x.expression) x.depth a.0.1 n.0.1 p a.2 in
    let u0 = f.used in
    let s3 = Spells-append m.0 a.0.1 p.scan.reading (amount.0 ∷ []) (c.0 ∷ []) amount.3 c.2 in
    let s2 = Spells-append x.scan.reading m.0 p.scan.reading (comma.0 ∷ []) (amount.0 ∷ c.0 ∷ []) comma.2 s3 in
    let s1 = Spells-append r x.scan.reading p.scan.reading f.words (comma.0 ∷ amount.0 ∷ c.0 ∷ []) f.spells s2 in
    let s0 = Spells-append r0 r p.scan.reading (word ∷ opening ∷ []) (f.words ++ comma.0 ∷ amount.0 ∷ c.0 ∷ []) o.spells s1 in
    subst (λ (q : Part). Found names (room + 1) 0 (at r0 used) q) (sym c.3)
    (record {
      words = word ∷ opening ∷ (f.words ++ comma.0 ∷ amount.0 ∷ c.0 ∷ []);
      is = moved op word opening comma.0 amount.0 c.0 x.depth a.0.0 f.words x.expression n.0.0 o.named o.is_opening f.is comma.1 amount.1 amount.2 c.1 j.0;
      spells = s0;
      used = omega (arith, j.1, u0);
      few = λ l. omega (arith, j.1, j.2);
      deep = omega (arith, f.deep);
    })

select_call-found : (names : Names) (room : ℕ) (inner : Inner) → Sound names room inner → (r0 r : Reading) (word opening : Spelled) (used : ℕ) (p : Part) → Opened r0 r word opening functions.Select → select_at inner word.place r used ≡ Ok p → Found names (room + 1) 0 (at r0 used) p
unfolding select_at select_end
select_call-found names room inner sound r0 r word opening used p o e =
    let t = bind_ok (whole_at inner r used) _ e in
    let m = bind_ok (expect_at (codes ",") t.0.scan.reading) _ t.2 in
    let x = bind_ok (pair_at inner m.0 t.0.scan.used) _ m.2 in
    let n = bind_ok (judged word.place x.0.1.scan.used (select_node t.0.expression x.0.0.expression x.0.1.expression)) _ x.2 in
    let j = judged-found word.place x.0.1.scan.used (select_node t.0.expression x.0.0.expression x.0.1.expression) n.0 n.1 in
    let c = closed-found n.0.0 (max t.0.depth (max x.0.0.depth x.0.1.depth)) x.0.1.scan.reading n.0.1 p n.2 in
    let f = sound 5 (at r used) t.0 t.1 in
    let first = expect-found 44 [] t.0.scan.reading m.0 m.1 in
    let both = pair-found names room inner sound m.0 t.0.scan.used x.0 x.1 in
    let u = f.used in
    let u0 = both.first.used in
    let u1 = both.second.used in
    let cost = select-cost t.0.expression x.0.0.expression x.0.1.expression n.0.0 j.0 in
    let end = both.second.words ++ c.0 ∷ [] in
    let s5 = Spells-append both.between x.0.1.scan.reading p.scan.reading both.second.words (c.0 ∷ []) both.second.spells c.2 in
    let s4 = Spells-append x.0.0.scan.reading both.between p.scan.reading (both.comma ∷ []) end both.spells s5 in
    let s3 = Spells-append m.0 x.0.0.scan.reading p.scan.reading both.first.words (both.comma ∷ end) both.first.spells s4 in
    let s2 = Spells-append t.0.scan.reading m.0 p.scan.reading (first.0 ∷ []) (both.first.words ++ both.comma ∷ end) first.2 s3 in
    let s1 = Spells-append r t.0.scan.reading p.scan.reading f.words (first.0 ∷ (both.first.words ++ both.comma ∷ end)) f.spells s2 in
    let s0 = Spells-append r0 r p.scan.reading (word ∷ opening ∷ []) (f.words ++ first.0 ∷ (both.first.words ++ both.comma ∷ end)) o.spells s1 in
    subst (λ (q : Part). Found names (room + 1) 0 (at r0 used) q) (sym c.3)
    (record {
      words = word ∷ opening ∷ (f.words ++ first.0 ∷ (both.first.words ++ both.comma ∷ end));
      is = chosen word opening first.0 both.comma c.0 t.0.depth x.0.0.depth x.0.1.depth f.words both.first.words both.second.words t.0.expression x.0.0.expression x.0.1.expression n.0.0 o.named o.is_opening f.is first.1 both.first.is both.is_comma both.second.is c.1 j.0;
      spells = s0;
      used = omega (arith, j.1, u, u0, u1, cost);
      few = λ l. omega (arith, j.1, j.2);
      deep = omega (arith, f.deep, both.first.deep, both.second.deep);
    })

call-found : (names : Names) (room : ℕ) (inner : Inner) → Sound names room inner → (f : Function) (r0 r : Reading) (word : Spelled) (used : ℕ) (p : Part) → Spells r0 (word ∷ []) r → function_named word.bytes ≡ Some f
    → call_at inner f word.place r used ≡ Ok p → Found names (room + 1) 0 (at r0 used) p
unfolding call_at
call-found names room inner sound f r0 r word used p first named e =
    let o = bind_ok (expect_at (codes "(") r) _ e in
    let opening = expect-found 40 [] r o.0 o.1 in
    let opened : Opened r0 o.0 word opening.0 f = record { named = named; is_opening = opening.1; spells = Spells-append r0 r o.0 (word ∷ []) (opening.0 ∷ []) first opening.2 } in
    by f opened o.2
  where
    by : (f : Function) → {o : Reading} → {w : Spelled} → Opened r0 o word w f → arguments_at inner f word.place o used ≡ Ok p → Found names (room + 1) 0 (at r0 used) p
    by (functions.Two op) {o} {w} h e = let x = bind_ok (pair_at inner o used) _ e in pair_call-found names room inner sound (functions.Two op) r0 o word w used x.0 p h x.1 x.2
    by (functions.Compare op) {o} {w} h e = let x = bind_ok (pair_at inner o used) _ e in pair_call-found names room inner sound (functions.Compare op) r0 o word w used x.0 p h x.1 x.2
    by (functions.Shift op) {o} {w} h e = let x = bind_ok (whole_at inner o used) _ e in shift_call-found names room inner sound op r0 o word w used x.0 p h x.1 x.2
    by (functions.Resize op to) {o} {w} h e = let x = bind_ok (whole_at inner o used) _ e in resize_call-found names room inner sound op to r0 o word w used x.0 p h x.1 x.2
    by functions.Select {o} {w} h e = select_call-found names room inner sound r0 o word w used p h e

-- the value of a name
value-found : (g : Option Given) (place : Place) (e : Expression) → value_of g place ≡ Ok e → ((g >> value_given) ≡ Some e) × (expression_cost e ≡ 0)
value-found (Some (given.Pointer k)) place e h = cc
value-found (Some (given.Argument k w)) place e h = let s : argument k w ≡ e = ok_once _ e h in (ap Some s, rw (← s) refl)
value-found (Some (given.Assigned k t)) place e h = let s : assigned k t ≡ e = ok_once _ e h in (ap Some s, rw (← s) refl)
value-found None place e h = cc

-- an operand that begins with a name
named-found : (names : Names) (room : ℕ) (inner : Inner) → Sound names room inner → (r0 : Reading) (x : Spelled × Reading) (used : ℕ) (p : Part) → next_at r0 ≡ Ok x → named_at names inner x.0 x.1 used ≡ Ok p → Found names (room + 1) 0 (at r0 used) p
unfolding named_at
named-found names room inner sound r0 x used p next e =
    elim (either_way (is_free x.0.bytes) _ _ e) [
      | inl free ↦
          let v = bind_ok (value_of (given_as names x.0.bytes) x.0.place) _ free.1 in
          let known = value-found (given_as names x.0.bytes) x.0.place v.0 v.1 in
          let same = ok_once (leaf_part v.0 x.1 used) p v.2 in
          let word = tested-found is_free r0 x next free.0 refl in
          subst (λ (q : Part). Found names (room + 1) 0 (at r0 used) q) same
          (leaf-found names room r0 used (leaf_part v.0 x.1 used) v.0 (x.0 ∷ []) (name x.0 v.0 (true_fact _ free.0, known.0)) known.1 word refl)
      | inr other ↦ by_function (function_named x.0.bytes) refl other.1
    ]
  where
    by_load : (o : Option Width) → width_behind (codes "load") x.0.bytes ≡ o → option_map_or (λ width. load_at names width x.0.place x.1 used) o (Err (Shape x.0.place)) ≡ Ok p → Found names (room + 1) 0 (at r0 used) p
    by_load (Some w) k h =
        let is = width_behind-found (codes "load") x.0.bytes w k in
        load-found names room r0 x.1 x.0 w used p (next-found r0 x next (λ none. let no : [] ≡ sized (codes "load") w = sym none ∙ is in cc)) is h
    by_load None k h = cc

    by_function : (o : Option Function) → function_named x.0.bytes ≡ o
        → option_map_or (λ function. call_at inner function x.0.place x.1 used) o (option_map_or (λ width. load_at names width x.0.place x.1 used) (width_behind (codes "load") x.0.bytes) (Err (Shape x.0.place))) ≡ Ok p → Found names (room + 1) 0 (at r0 used) p
    by_function (Some f) k h = call-found names room inner sound f r0 x.1 x.0 used p (tested-found (λ b. is_some (function_named b)) r0 x next (ap is_some k) function_of_nothing) k h
    by_function None k h = by_load (width_behind (codes "load") x.0.bytes) refl h

-- an operand
operand-found : (names : Names) (room : ℕ) (inner : Inner) → Sound names room inner → (s : Scan) (p : Part) → operand_at names inner s ≡ Ok p → Found names (room + 1) 0 s p
unfolding operand_at
operand-found names room inner sound s p e =
    let w = bind_ok (next_at s.reading) _ e in
    elim (either_way (bytes_eq w.0.0.bytes (codes "(")) _ _ w.2) [
      | inl opened ↦
          let is = same_text w.0.0.bytes (codes "(") opened.0 in
          parenthesised-found names room inner sound s.reading w.0.1 w.0.0 s.used p (next-found s.reading w.0 w.1 (λ none. let no : [] ≡ codes "(" = sym none ∙ is in cc)) is opened.1
      | inr more ↦ elim (either_way (bytes_eq w.0.0.bytes (codes "-")) _ _ more.1) [
        | inl minus ↦
            let is = same_text w.0.0.bytes (codes "-") minus.0 in
            let sign = next-found s.reading w.0 w.1 (λ none. let no : [] ≡ codes "-" = sym none ∙ is in cc) in
            let d = bind_ok (next_at w.0.1) _ minus.1 in
            let l = literal-found true w.0.0.place d.0.0 d.0.1 s.used p d.2 in
            let digits = next-found w.0.1 d.0 d.1 (decimal-some d.0.0.bytes l.3.0 l.3.1) in
            let all = Spells-append s.reading w.0.1 p.scan.reading (w.0.0 ∷ []) (d.0.0 ∷ l.0 ∷ []) sign (Spells-append w.0.1 d.0.1 p.scan.reading (d.0.0 ∷ []) (l.0 ∷ []) digits l.4) in
            leaf-found names room s.reading s.used p (literal l.1 l.2) (w.0.0 ∷ d.0.0 ∷ l.0 ∷ []) (negative w.0.0 d.0.0 l.0 l.1 l.2 is l.3) refl all l.5
        | inr word ↦ elim (either_way (begins_digit w.0.0.bytes) _ _ word.1) [
          | inl digit ↦
              let l = literal-found false w.0.0.place w.0.0 w.0.1 s.used p digit.1 in
              let digits = tested-found begins_digit s.reading w.0 w.1 digit.0 refl in
              leaf-found names room s.reading s.used p (literal l.1 l.2) (w.0.0 ∷ l.0 ∷ []) (number w.0.0 l.0 l.1 l.2 l.3) refl (Spells-append s.reading w.0.1 p.scan.reading (w.0.0 ∷ []) (l.0 ∷ []) digits l.4) l.5
          | inr named ↦ named-found names room inner sound s.reading w.0 s.used p w.1 named.1
        ]
      ]
    ]

-- an operator
operator-found : (level : ℕ) (r : Reading) (o : Operator) → operator_at level r ≡ Some o → (w : Spelled) × (operator_named w.bytes ≡ Some o.op) × (level_of o.op ≡ level) × (w.place ≡ o.place) × Spells r (w ∷ []) o.behind
operator-found level r o e = by_word (word_at r) refl e
  where
    by_op : (w : Spelled × Reading) (n : Option TwoOp) → operator_named w.0.bytes ≡ n → word_at r ≡ Ok w
        → option_map_or (λ op. if nat_eq (level_of op) level then Some (record { op = op; place = w.0.place; behind = w.1 }) else None) n None ≡ Some o
        → (v : Spelled) × (operator_named v.bytes ≡ Some o.op) × (level_of o.op ≡ level) × (v.place ≡ o.place) × Spells r (v ∷ []) o.behind
    by_op w (Some op) k t h =
        let l = level_test (nat_eq (level_of op) level) (record { op = op; place = w.0.place; behind = w.1 }) h in
        let word = tested-found (λ b. is_some (operator_named b)) r w (rw t refl) (ap is_some k) nothing_is_no_operator in
        subst (λ (q : Operator). (v : Spelled) × (operator_named v.bytes ≡ Some q.op) × (level_of q.op ≡ level) × (v.place ≡ q.place) × Spells r (v ∷ []) q.behind) l.1 (w.0, k, eqb-true (level_of op) level l.0, refl, word)
      where
        level_test : (b : Bool) (q : Operator) → (if b then Some q else None) ≡ Some o → (b ≡ true) × (q ≡ o)
        level_test true q h = (refl, cc)
        level_test false q h = cc
    by_op w None k t h = cc

    by_word : (x : Result (Spelled × Reading) Place) → word_at r ≡ x → operator_word level x ≡ Some o → (w : Spelled) × (operator_named w.bytes ≡ Some o.op) × (level_of o.op ≡ level) × (w.place ≡ o.place) × Spells r (w ∷ []) o.behind
    by_word (Ok w) t h = by_op w (operator_named w.0.bytes) refl t h
    by_word (Err q) t h = cc

-- an operator and its right operand
join-found : (names : Names) (room : ℕ) (inner : Inner) → Sound names room inner → (level : ℕ) (s : Scan) (left : Part) (o : Operator) (p : Part) → Found names (room + 1) (suc level) s left → left.depth ≤ room → operator_at (suc level) left.scan.reading ≡ Some o → join_at inner level left o ≡ Ok p → Found names (room + 1) (suc level) s p
unfolding join_at
join-found names room inner sound level s left o p f low found e =
    let w = operator-found (suc level) left.scan.reading o found in
    let right = bind_ok (inner level (at o.behind left.scan.used)) _ e in
    let g = sound level (at o.behind left.scan.used) right.0 right.1 in
    let n = bind_ok (judged o.place right.0.scan.used (pair_node (functions.Two o.op) left.expression right.0.expression)) _ right.2 in
    let j = judged-found o.place right.0.scan.used (pair_node (functions.Two o.op) left.expression right.0.expression) n.0 n.1 in
    let u0 = f.used in
    let u1 = g.used in
    let cost = pair-cost (functions.Two o.op) left.expression right.0.expression n.0.0 j.0 in
    subst (λ (q : Part). Found names (room + 1) (suc level) s q) (ok_once (record { expression = n.0.0; depth = max left.depth right.0.depth + 1; scan = at right.0.scan.reading n.0.1 }) p n.2)
    (record {
      words = f.words ++ w.0 ∷ g.words;
      is = joined o.op w.0 level left.depth right.0.depth f.words g.words left.expression right.0.expression n.0.0 f.is w.1 w.2 g.is j.0;
      spells = Spells-append s.reading left.scan.reading right.0.scan.reading f.words (w.0 ∷ g.words) f.spells (Spells-append left.scan.reading o.behind right.0.scan.reading (w.0 ∷ []) g.words w.4 g.spells);
      used = omega (arith, j.1, u0, u1, cost);
      few = λ l. omega (arith, j.1, j.2);
      deep = omega (arith, low, g.deep);
    })

joined-found : (names : Names) (room : ℕ) (inner : Inner) → Sound names room inner → (level joins : ℕ) (s : Scan) (left p : Part) → Found names (room + 1) (suc level) s left → joined_at inner level room joins left ≡ Ok p → Found names (room + 1) (suc level) s p
unfolding joined_at
joined-found names room inner sound level zero s left p f e = by (operator_at (suc level) left.scan.reading) e
  where
    by : (o : Option Operator) → option_map_or (λ operator. Err (NestingTooDeep operator.place)) o (Ok left) ≡ Ok p → Found names (room + 1) (suc level) s p
    by None e = subst (λ (q : Part). Found names (room + 1) (suc level) s q) (ok_once left p e) f
    by (Some o) e = cc
joined-found names room inner sound level (suc joins) s left p f e = by (operator_at (suc level) left.scan.reading) refl e (λ x g h. joined-found names room inner sound level joins s x p g h)
  where
    by : (o : Option Operator) → operator_at (suc level) left.scan.reading ≡ o
        → option_map_or (λ operator. if nat_le left.depth room then (join_at inner level left operator >>= joined_at inner level room joins) else Err (NestingTooDeep operator.place)) o (Ok left) ≡ Ok p
        → ((x : Part) → Found names (room + 1) (suc level) s x → joined_at inner level room joins x ≡ Ok p → Found names (room + 1) (suc level) s p) → Found names (room + 1) (suc level) s p
    by None k e go = subst (λ (q : Part). Found names (room + 1) (suc level) s q) (ok_once left p e) f
    by (Some o) k e go =
        let t = tested_ok (nat_le left.depth room) (join_at inner level left o >>= joined_at inner level room joins) (NestingTooDeep o.place) e in
        let x = bind_ok (join_at inner level left o) _ t.1 in
        go x.0 (join-found names room inner sound level s left o x.0 f (leb-true left.depth room t.0) k x.1) x.2

level-found : (names : Names) (room : ℕ) (inner : Inner) → Sound names room inner → (level : ℕ) (s : Scan) (p : Part) → level_at names inner room level s ≡ Ok p → Found names (room + 1) level s p
unfolding level_at
level-found names room inner sound zero s p e = operand-found names room inner sound s p e
level-found names room inner sound (suc level) s p e =
    let left = bind_ok (level_at names inner room level s) _ e in
    let f = level-found names room inner sound level s left.0 left.1 in
    let looser : Found names (room + 1) (suc level) s left.0 = record { words = f.words; is = tighter level left.0.depth f.words left.0.expression f.is; spells = f.spells; used = f.used; few = f.few; deep = f.deep } in
    joined-found names room inner sound level room s left.0 p looser left.2

pub expression-found : (names : Names) (room : ℕ) → Sound names room (expression_at names room)
unfolding expression_at
expression-found names zero level s p e = let w = bind_ok (next_at s.reading) _ e in cc (w.2)
expression-found names (suc room) level s p e = let f = level-found names room (expression_at names room) (expression-found names room) level s p e in
    record { words = f.words; is = f.is; spells = f.spells; used = f.used; few = f.few; deep = omega (arith, f.deep) }
