-- Expressions that are in the language are read. An expression is read up to the operators of its own level, which join
-- it to what stands after: `Opens` says so, and `Closes` what comes of it where none follows.
use Rattle.std.proofs.Common.{◌≡◌, ℕ, zero, suc, ◌+◌, ◌-◌, ◌<◌, ◌≤◌, Bool, true, false, List, [], ◌∷◌, ◌++◌, Option, Some, None, Result, Ok, refl, sym, ◌∙◌, ap, subst, inl, inr, arith, append_assoc}
use Rattle.std.specs.Prelude.{codes, max, nat_eq, is_some, if◌then◌else◌}
use Rattle.std.specs.Option.{option_map, option_map_or}
use Rattle.std.specs.Str.{bytes_eq}
use Rattle.std.proofs.lemmas.Bool.{lt-ltb, eq-eqb, eqb-true, cases_Bool}
use Rattle.vg_base.specs.Trap.{◌>>=◌ as ◌>>◌}
use Rattle.vg_base.specs.declared.address.Address.{Address}
use Rattle.vg_base.specs.declared.width.Width.{Width}
use Rattle.vg_base.specs.Width.{bits_of}
use Rattle.vg_scalar.specs.declared.two_op.TwoOp.{TwoOp}
use Rattle.vg_scalar.specs.declared.shift.Shift.{Shift}
use Rattle.vg_scalar.specs.declared.resize.Resize.{Resize}
use Rattle.vg_text.specs.declared.place.Place.{Place}
use Rattle.vg_text.specs.Number.{decimal_value}
use Rattle.vg_text.specs.Words.{Reading, Spelled}
use Rattle.vg_text.specs.Token.{Lexemes, token, finish, fault}
use Rattle.vg_text.specs.Byte.{begins_digit}
use Rattle.vg_kernel.specs.declared.fault.KernelFault.{KernelFault}
use Rattle.vg_kernel.specs.declared.function.Function.{Function}
use Rattle.vg_kernel.specs.declared.function.Function.TheVariants as functions
use Rattle.vg_kernel.specs.declared.given.Given.{Given}
use Rattle.vg_kernel.specs.declared.given.Given.TheVariants as given
use Rattle.vg_kernel.specs.Cost.{expression_cost}
use Rattle.vg_kernel.specs.Expressions.{Scan, Part, Inner, Operator, load_at, parenthesised_at, pair_at, pair_end, resize_end, amount_at, shift_end, select_end, select_at, arguments_at, call_at, named_at, operand_at, operator_word, operator_at, join_at, joined_at, level_at, expression_at}
use Rattle.vg_kernel.specs.Grammar.{Is, IsValue, IsLiteral, SpellsAddress, IsExpression, name, number, negative, read, parenthesised, pair, moved, resized, chosen, tighter, joined, value_given}
use Rattle.vg_kernel.specs.Names.{Names, given_as}
use Rattle.vg_kernel.specs.Nodes.{width_in, pair_node, resize_node, select_node}
use Rattle.vg_kernel.specs.Script.{Words, script_from, script_left}
use Rattle.vg_kernel.specs.Tree.{Expression, argument, assigned, literal, load, shift}
use Rattle.vg_text.specs.Sized.{width_behind}
use Rattle.vg_kernel.specs.Words.{sized, level_of, operator_named, plain_named, function_named, is_reserved, is_free}
use Rattle.vg_kernel.proofs.Joins.{joined-none, joined-step}
use Rattle.vg_kernel.proofs.OperandsFound.{at, pair-cost, resize-cost, select-cost}
use Rattle.vg_kernel.proofs.OperandsAgain.{Gets, counted-again, judged-again, closed-again, free-no_digit, decimal-digit, load-named, value-again, literal-again, pair-arguments, named-again, call-again}
use Rattle.vg_kernel.proofs.Sizes.{width_behind-again}
use Rattle.vg_kernel.proofs.WordsAgain.{IsNoSign, not_text, word-again, next-again, expect-again, address-again}

-- no operator in front of these words binds tighter than this level
abbrev pub Loose : ℕ → Words → Type 0
Loose level [] = Unit {0}
Loose level (w ∷ ws) = (op : TwoOp) → operator_named w.bytes ≡ Some op → level ≤ level_of op

pub looser : (level : ℕ) (ws : Words) → Loose (suc level) ws → Loose level ws
looser level [] h = tt
looser level (w ∷ ws) h = λ op e. let k = h op e in omega arith

-- a word that is no operator
pub loose-word : (level : ℕ) (w : Spelled) (ws : Words) (text : List ℕ) → Is w text → operator_named text ≡ None → Loose level (w ∷ ws)
loose-word level w ws text is none = λ op e. let no : None ≡ Some op = sym none ∙ ap operator_named (sym is) ∙ e in absurd (cc)

-- the words that end an expression
pub loose-close : (level : ℕ) (w : Spelled) (ws : Words) → Is w (codes ")") → Loose level (w ∷ ws)
unfolding operator_named
loose-close level w ws is = loose-word level w ws (codes ")") is refl

pub loose-comma : (level : ℕ) (w : Spelled) (ws : Words) → Is w (codes ",") → Loose level (w ∷ ws)
unfolding operator_named
loose-comma level w ws is = loose-word level w ws (codes ",") is refl

pub loose-end : (level : ℕ) (w : Spelled) (ws : Words) → Is w (codes ";") → Loose level (w ∷ ws)
unfolding operator_named
loose-end level w ws is = loose-word level w ws (codes ";") is refl

-- no such operator is found
operator-none : (level : ℕ) (r : Reading) (ws : Words) → script_left r ≡ Some ws → Loose (suc level) ws → operator_at level r ≡ None
unfolding script_from operator_named
operator-none level r ws e h = by_left r.text r.left ws e h
  where
    by_op : (w : Spelled) (r : Reading) (o : Option TwoOp) → operator_named w.bytes ≡ o → ((op : TwoOp) → operator_named w.bytes ≡ Some op → suc level ≤ level_of op)
        → option_map_or {U = Option Operator} (λ op. if nat_eq (level_of op) level then Some (record { op = op; place = w.place; behind = r }) else None) o None ≡ None
    by_op w r (Some op) k h =
        let l = h op k in
        elim (cases_Bool (nat_eq (level_of op) level)) [ inl t ↦ absurd (let same = eqb-true (level_of op) level t in omega (arith, l)) | inr f ↦ rw f refl ]
    by_op w r None k h = refl

    token_step : (w : Spelled) (r : Reading) (ws : Words) (o : Option Words) → option_map (λ b. w ∷ b) o ≡ Some ws → Loose (suc level) ws → operator_word level (Ok (w, r)) ≡ None
    token_step w r ws None e h = cc
    token_step w r [] (Some b) e h = let no : w ∷ b ≡ [] = cc in cc
    token_step w r (v ∷ vs) (Some b) e h =
        let all : w ∷ b ≡ v ∷ vs = cc in
        let same : w ≡ v = cc in
        by_op w r (operator_named w.bytes) refl (λ op k. h op (ap (λ (u : Spelled). operator_named u.bytes) (sym same) ∙ k))

    by_left : (text : List ℕ) (ls : Lexemes) (ws : Words) → script_from text ls ≡ Some ws → Loose (suc level) ws → operator_at level (record { text = text; left = ls }) ≡ None
    by_left text (token t rest) ws e h = token_step _ _ ws (script_from text rest) e h
    by_left text (finish t) ws e h = refl
    by_left text (fault p) ws e h = cc

-- an operator is found
operator-again : (level : ℕ) (r : Reading) (w : Spelled) (op : TwoOp) (ws : Words) → script_left r ≡ Some (w ∷ ws) → operator_named w.bytes ≡ Some op → level_of op ≡ level
    → (r' : Reading) × (operator_at level r ≡ Some (record { op = op; place = w.place; behind = r' })) × (script_left r' ≡ Some ws)
operator-again level r w op ws e k l =
    let x = word-again r w ws e in
    (x.0, rw (x.1, k, eq-eqb (level_of op) level l) refl, x.2)

-- what is left to be read after an expression of a level: the operators of that level
abbrev continued : Inner → ℕ → ℕ → ℕ → Part → Result Part KernelFault
continued inner room joins zero p = Ok p
continued inner room joins (suc level) p = joined_at inner level room joins p

-- An expression stands in front of what is left, and its reader comes to where it has been read and may go on with the
-- operators of its level, of which enough may still follow.
record Opened (names : Names) (level d : ℕ) (e : Expression) (room : ℕ) (s : Scan) (behind : Words) : Type 0 where
  rest : Reading
  joins : ℕ
  used : ℕ
  reads : level_at names (expression_at names room) room level s ≡ continued (expression_at names room) room joins level (record { expression = e; depth = d; scan = at rest used })
  counts : used ≡ s.used + expression_cost e
  enough : room < joins + d
  left : script_left rest ≡ Some behind

abbrev Opens : Names → ℕ → ℕ → Words → Expression → Type 0
Opens names level d ws e =
    (room : ℕ) (s : Scan) (behind : Words) → d ≤ room + 1 → script_left s.reading ≡ Some (ws ++ behind) → s.used + expression_cost e ≤ 8192 → Loose level behind → Opened names level d e room s behind

-- and it is read whole, where no operator of its level follows
pub record Closed (names : Names) (level d : ℕ) (e : Expression) (room : ℕ) (s : Scan) (behind : Words) : Type 0 where
  pub rest : Reading
  pub used : ℕ
  pub reads : expression_at names room level s ≡ Ok (record { expression = e; depth = d; scan = at rest used })
  pub counts : used ≡ s.used + expression_cost e
  pub left : script_left rest ≡ Some behind

abbrev pub Closes : Names → ℕ → ℕ → Words → Expression → Type 0
Closes names level d ws e =
    (room : ℕ) (s : Scan) (behind : Words) → d ≤ room → script_left s.reading ≡ Some (ws ++ behind) → s.used + expression_cost e ≤ 8192 → Loose (suc level) behind → Closed names level d e room s behind

-- an expression has a node
depth-some : (names : Names) (level d : ℕ) (ws : Words) (e : Expression) → IsExpression names level d ws e → 0 < d
depth-some names _ _ _ _ (name word e v) = omega arith
depth-some names _ _ _ _ (number digits type w n l) = omega arith
depth-some names _ _ _ _ (negative sign digits type w n i l) = omega arith
depth-some names _ _ _ _ (read word o c ws w a i j k l) = omega arith
depth-some names _ _ _ _ (parenthesised o c d ws e i j k) = omega arith
depth-some names _ _ _ _ (pair f word o m c d d' xs ys x y e i j k l n p q) = omega arith
depth-some names _ _ _ _ (moved op word o m a c d k xs x w i j l n p q t u) = omega arith
depth-some names _ _ _ _ (resized op to word o c d xs x e i j k l n) = omega arith
depth-some names _ _ _ _ (chosen word o m m' c d d' d'' cs xs ys t x y e i j k l n p q u v) = omega arith
depth-some names _ _ _ _ (tighter level d ws e i) = depth-some names level d ws e i
depth-some names _ _ _ _ (joined op sign level d d' xs ys x y e i j k l n) = omega arith

-- no operator follows
continued-end : (inner : Inner) (room joins level : ℕ) (p : Part) (ws : Words) → script_left p.scan.reading ≡ Some ws → Loose (suc level) ws → continued inner room joins level p ≡ Ok p
continued-end inner room joins zero p ws e h = refl
continued-end inner room joins (suc level) p ws e h = joined-none inner level room joins p (operator-none (suc level) p.scan.reading ws e h)

closes : (names : Names) (level d : ℕ) (ws : Words) (e : Expression) → 0 < d → Opens names level d ws e → Closes names level d ws e
unfolding expression_at
closes names level d ws e some opens zero s behind deep left few loose = absurd (omega arith)
closes names level d ws e some opens (suc room) s behind deep left few loose =
    let o = opens room s behind (omega arith) left few (looser level behind loose) in
    record {
      rest = o.rest;
      used = o.used;
      reads = o.reads ∙ continued-end (expression_at names room) room o.joins level _ behind o.left loose;
      counts = o.counts;
      left = o.left;
    }

-- an operand alone: what its reader gives
operand : (names : Names) (d : ℕ) (e : Expression) (room : ℕ) (s : Scan) (behind : Words) (rest : Reading) (used : ℕ) → 0 < d → operand_at names (expression_at names room) s ≡ Ok (record { expression = e; depth = d; scan = at rest used })
    → used ≡ s.used + expression_cost e → script_left rest ≡ Some behind → Opened names 0 d e room s behind
unfolding level_at
operand names d e room s behind rest used some reads counts left = record {
  rest = rest;
  joins = room;
  used = used;
  reads = reads;
  counts = counts;
  enough = omega arith;
  left = left;
}

-- a value or a literal costs nothing
free_cost : (names : Names) (word : Spelled) (e : Expression) → IsValue names word e → expression_cost e ≡ 0
free_cost names word e v = by (given_as names word.bytes) v.1
  where
    by : (g : Option Given) → (g >> value_given) ≡ Some e → expression_cost e ≡ 0
    by (Some (given.Pointer k)) h = cc
    by (Some (given.Argument k w)) h = let same : argument k w ≡ e = cc in rw (← same) refl
    by (Some (given.Assigned k t)) h = let same : assigned k t ≡ e = cc in rw (← same) refl
    by None h = cc

name-opens : (names : Names) (word : Spelled) (e : Expression) → IsValue names word e → Opens names 0 1 (word ∷ []) e
unfolding named_at is_reserved plain_named
name-opens names word e v room s behind deep left few loose =
    let n = next-again s.reading word behind left in
    let free : is_free word.bytes ≡ true = v.0 in
    let a = not_text is_free word.bytes (codes "(") free refl in
    let b = not_text is_free word.bytes (codes "-") free refl in
    let c = free-no_digit word.bytes free in
    let value = value-again (given_as names word.bytes) word.place e v.1 in
    operand names 1 e room s behind n.0 s.used (omega arith)
    (named-again names (expression_at names room) s word n.0 n.1 a b c ∙ rw (free, value) refl)
    (omega (arith, free_cost names word e v)) n.2

number-opens : (names : Names) (digits type : Spelled) (w : Width) (n : ℕ) → IsLiteral false digits type w n → Opens names 0 1 (digits ∷ type ∷ []) (literal w n)
unfolding operand_at
number-opens names digits type w n l room s behind deep left few loose =
    let d = next-again s.reading digits (type ∷ behind) left in
    let digit = decimal-digit digits.bytes l.0 l.1 in
    let a = not_text begins_digit digits.bytes (codes "(") digit refl in
    let b = not_text begins_digit digits.bytes (codes "-") digit refl in
    let x = literal-again false digits.place digits type w n d.0 s.used behind l d.2 in
    operand names 1 (literal w n) room s behind x.0 s.used (omega arith) (rw (d.1, a, b, digit) x.1) (omega arith) x.2

negative-opens : (names : Names) (sign digits type : Spelled) (w : Width) (n : ℕ) → Is sign (codes "-") → IsLiteral true digits type w n → Opens names 0 1 (sign ∷ digits ∷ type ∷ []) (literal w n)
unfolding operand_at
negative-opens names sign digits type w n is l room s behind deep left few loose =
    let g = next-again s.reading sign (digits ∷ type ∷ behind) left in
    let d = next-again g.0 digits (type ∷ behind) g.2 in
    let a : bytes_eq sign.bytes (codes "(") ≡ false = ap (λ (t : List ℕ). bytes_eq t (codes "(")) is in
    let b : bytes_eq sign.bytes (codes "-") ≡ true = ap (λ (t : List ℕ). bytes_eq t (codes "-")) is in
    let x = literal-again true sign.place digits type w n d.0 s.used behind l d.2 in
    operand names 1 (literal w n) room s behind x.0 s.used (omega arith) (rw (g.1, a, b, d.1) x.1) (omega arith) x.2

-- the words that end a place are no signs
no_sign : (v : Spelled) (text : List ℕ) → Is v text → bytes_eq text (codes "+") ≡ false → bytes_eq text (codes "-") ≡ false → IsNoSign v
no_sign v text is a b = (ap (λ (t : List ℕ). bytes_eq t (codes "+")) is ∙ a, ap (λ (t : List ℕ). bytes_eq t (codes "-")) is ∙ b)

load-reads : (names : Names) (opening closing : Spelled) (ws : Words) (w : Width) (a : Address) (place : Place) (r : Reading) (used : ℕ) (behind : Words) → Is opening (codes "(") → SpellsAddress names ws a → Is closing (codes ")")
    → used < 8192 → script_left r ≡ Some (opening ∷ ((ws ++ closing ∷ []) ++ behind)) → Gets (load_at names w place r used) (load w a) 1 (used + 1) behind
unfolding load_at
load-reads names opening closing ws w a place r used behind i j k few left =
    let m = counted-again place used few in
    let o = expect-again (codes "(") r opening ((ws ++ closing ∷ []) ++ behind) i left in
    let f = address-again names ws a o.0 closing behind j (no_sign closing (codes ")") k refl refl) (subst (λ (t : Words). script_left o.0 ≡ Some t) (append_assoc ws (closing ∷ []) behind) o.2) in
    let c = expect-again (codes ")") f.0 closing behind k f.2 in
    (c.0, rw (m, o.1, f.1, c.1) refl, c.2)

load-opens : (names : Names) (word opening closing : Spelled) (ws : Words) (w : Width) (a : Address) → Is word (sized (codes "load") w) → Is opening (codes "(") → SpellsAddress names ws a → Is closing (codes ")")
    → Opens names 0 1 (word ∷ opening ∷ (ws ++ closing ∷ [])) (load w a)
unfolding named_at is_reserved plain_named
load-opens names word opening closing ws w a is i j k room s behind deep left few loose =
    let n = next-again s.reading word (opening ∷ ((ws ++ closing ∷ []) ++ behind)) left in
    let known = load-named w in
    let spelled = width_behind-again (codes "load") w in
    let test : (bytes : List ℕ) → Bool = λ bytes. is_some (width_behind (codes "load") bytes) in
    let some : is_some (width_behind (codes "load") word.bytes) ≡ true = ap test is ∙ ap is_some spelled in
    let free : is_free word.bytes ≡ false = ap is_free is ∙ known.0 in
    let function : function_named word.bytes ≡ None = ap function_named is ∙ known.1 in
    let width : width_behind (codes "load") word.bytes ≡ Some w = ap (width_behind (codes "load")) is ∙ spelled in
    let b = not_text test word.bytes (codes "(") some refl in
    let c = not_text test word.bytes (codes "-") some refl in
    let digit : begins_digit word.bytes ≡ false = ap begins_digit is in
    let x = load-reads names opening closing ws w a word.place n.0 s.used behind i j k (omega (arith, few)) n.2 in
    operand names 1 (load w a) room s behind x.0 (s.used + 1) (omega arith)
    (named-again names (expression_at names room) s word n.0 n.1 b c digit ∙ rw (free, function, width) x.1) refl x.2

parenthesised-opens : (names : Names) (opening closing : Spelled) (d : ℕ) (ws : Words) (e : Expression) → Is opening (codes "(") → Closes names 5 d ws e → Is closing (codes ")") → Opens names 0 (d + 1) (opening ∷ (ws ++ closing ∷ [])) e
unfolding operand_at parenthesised_at
parenthesised-opens names opening closing d ws e is inside end room s behind deep left few loose =
    let o = next-again s.reading opening ((ws ++ closing ∷ []) ++ behind) left in
    let a : bytes_eq opening.bytes (codes "(") ≡ true = ap (λ (t : List ℕ). bytes_eq t (codes "(")) is in
    let i = inside room (at o.0 s.used) (closing ∷ behind) (omega arith) (subst (λ (t : Words). script_left o.0 ≡ Some t) (append_assoc ws (closing ∷ []) behind) o.2) few (loose-close 6 closing behind end) in
    let c = expect-again (codes ")") i.rest closing behind end i.left in
    operand names (d + 1) e room s behind c.0 i.used (omega arith) (rw (o.1, a, i.reads, c.1) refl) i.counts c.2

-- two expressions with a comma between
record PairRead (inner : Inner) (r : Reading) (used : ℕ) (x y : Expression) (d d' : ℕ) (behind : Words) : Type 0 where
  between : Reading
  middle : ℕ
  rest : Reading
  after : ℕ
  reads : pair_at inner r used ≡ Ok (record { expression = x; depth = d; scan = at between middle }, record { expression = y; depth = d'; scan = at rest after })
  counts : after ≡ used + expression_cost x + expression_cost y
  left : script_left rest ≡ Some behind

pair-reads : (names : Names) (room : ℕ) (r : Reading) (used : ℕ) (comma : Spelled) (d d' : ℕ) (xs ys : Words) (x y : Expression) (behind : Words) → Closes names 5 d xs x → Is comma (codes ",") → Closes names 5 d' ys y
    → d ≤ room → d' ≤ room → script_left r ≡ Some (xs ++ comma ∷ (ys ++ behind)) → used + expression_cost x + expression_cost y ≤ 8192 → Loose 6 behind → PairRead (expression_at names room) r used x y d d' behind
unfolding pair_at
pair-reads names room r used comma d d' xs ys x y behind first is second deep deep' left few loose =
    let a = first room (at r used) (comma ∷ (ys ++ behind)) deep left (omega arith) (loose-comma 6 comma (ys ++ behind) is) in
    let c = expect-again (codes ",") a.rest comma (ys ++ behind) is a.left in
    let u = a.counts in
    let b = second room (at c.0 a.used) behind deep' c.2 (omega (arith, u)) loose in
    record { between = a.rest; middle = a.used; rest = b.rest; after = b.used; reads = rw (a.reads, c.1, b.reads) refl; counts = omega (arith, u, b.counts); left = b.left }

-- `(` after the name of a function
opened-call : (names : Names) (room : ℕ) (s : Scan) (word opening : Spelled) (f : Function) (ws : Words) → function_named word.bytes ≡ Some f → Is opening (codes "(") → script_left s.reading ≡ Some (word ∷ opening ∷ ws)
    → (r : Reading) × (operand_at names (expression_at names room) s ≡ arguments_at (expression_at names room) f word.place r s.used) × (script_left r ≡ Some ws)
unfolding call_at
opened-call names room s word opening f ws k is left =
    let n = next-again s.reading word (opening ∷ ws) left in
    let o = expect-again (codes "(") n.0 opening ws is n.2 in
    (o.0, call-again names (expression_at names room) s word n.0 f n.1 k ∙ rw o.1 refl, o.2)

-- words between commas, put together in another way
regroup : (xs ys behind : Words) (comma closing : Spelled) → (xs ++ comma ∷ (ys ++ closing ∷ [])) ++ behind ≡ xs ++ comma ∷ (ys ++ closing ∷ behind)
regroup xs ys behind comma closing = append_assoc xs (comma ∷ (ys ++ closing ∷ [])) behind ∙ ap (λ (t : Words). xs ++ comma ∷ t) (append_assoc ys (closing ∷ []) behind)

pair-opens : (names : Names) (f : Function) (word opening comma closing : Spelled) (d d' : ℕ) (xs ys : Words) (x y e : Expression) → function_named word.bytes ≡ Some f → Is opening (codes "(")
    → Closes names 5 d xs x → Is comma (codes ",") → Closes names 5 d' ys y → Is closing (codes ")") → pair_node f x y ≡ Some e → Opens names 0 (max d d' + 1) (word ∷ opening ∷ (xs ++ comma ∷ (ys ++ closing ∷ []))) e
unfolding pair_end
pair-opens names f word opening comma closing d d' xs ys x y e k i first l second q node room s behind deep left few loose =
    let o = opened-call names room s word opening f ((xs ++ comma ∷ (ys ++ closing ∷ [])) ++ behind) k i left in
    let cost = pair-cost f x y e node in
    let b = pair-reads names room o.0 s.used comma d d' xs ys x y (closing ∷ behind) first l second (omega arith) (omega arith) (subst (λ (t : Words). script_left o.0 ≡ Some t) (regroup xs ys behind comma closing) o.2) (omega (arith, cost)) (loose-close 6 closing behind q) in
    let u = b.counts in
    let j = judged-again word.place b.after (pair_node f x y) e (omega (arith, cost, u)) node in
    let c = closed-again e (max d d') b.rest (b.after + 1) closing behind q b.left in
    operand names (max d d' + 1) e room s behind c.0 (b.after + 1) (omega arith)
    (o.1 ∙ pair-arguments (expression_at names room) f x y e word.place o.0 s.used node ∙ rw (b.reads, j) c.1) (omega (arith, cost, u)) c.2

resized-opens : (names : Names) (op : Resize) (to : Width) (word opening closing : Spelled) (d : ℕ) (xs : Words) (x e : Expression) → function_named word.bytes ≡ Some (functions.Resize op to) → Is opening (codes "(")
    → Closes names 5 d xs x → Is closing (codes ")") → resize_node op to x ≡ Some e → Opens names 0 (d + 1) (word ∷ opening ∷ (xs ++ closing ∷ [])) e
unfolding resize_end
resized-opens names op to word opening closing d xs x e k i first q node room s behind deep left few loose =
    let o = opened-call names room s word opening (functions.Resize op to) ((xs ++ closing ∷ []) ++ behind) k i left in
    let cost = resize-cost op to x e node in
    let a = first room (at o.0 s.used) (closing ∷ behind) (omega arith) (subst (λ (t : Words). script_left o.0 ≡ Some t) (append_assoc xs (closing ∷ []) behind) o.2) (omega (arith, cost)) (loose-close 6 closing behind q) in
    let u = a.counts in
    let j = judged-again word.place a.used (resize_node op to x) e (omega (arith, cost, u)) node in
    let c = closed-again e d a.rest (a.used + 1) closing behind q a.left in
    operand names (d + 1) e room s behind c.0 (a.used + 1) (omega arith) (o.1 ∙ rw (a.reads, j) c.1) (omega (arith, cost, u)) c.2

moved-opens : (names : Names) (op : Shift) (word opening comma amount closing : Spelled) (d k : ℕ) (xs : Words) (x : Expression) (w : Width) → function_named word.bytes ≡ Some (functions.Shift op) → Is opening (codes "(")
    → Closes names 5 d xs x → Is comma (codes ",") → decimal_value amount.bytes ≡ Some k → k < bits_of w → Is closing (codes ")") → width_in x ≡ Some w
    → Opens names 0 (d + 1) (word ∷ opening ∷ (xs ++ comma ∷ amount ∷ closing ∷ [])) (shift op w k x)
unfolding shift_end amount_at
moved-opens names op word opening comma amount closing d k xs x w named i first l digits below q width room s behind deep left few loose =
    let o = opened-call names room s word opening (functions.Shift op) ((xs ++ comma ∷ amount ∷ closing ∷ []) ++ behind) named i left in
    let a = first room (at o.0 s.used) (comma ∷ amount ∷ closing ∷ behind) (omega arith) (subst (λ (t : Words). script_left o.0 ≡ Some t) (append_assoc xs (comma ∷ amount ∷ closing ∷ []) behind) o.2) (omega arith)
    (loose-comma 6 comma (amount ∷ closing ∷ behind) l) in
    let u = a.counts in
    let j = judged-again word.place a.used (width_in x) w (omega (arith, u)) width in
    let m = expect-again (codes ",") a.rest comma (amount ∷ closing ∷ behind) l a.left in
    let n = next-again m.0 amount (closing ∷ behind) m.2 in
    let c = closed-again (shift op w k x) d n.0 (a.used + 1) closing behind q n.2 in
    operand names (d + 1) (shift op w k x) room s behind c.0 (a.used + 1) (omega arith) (o.1 ∙ rw (a.reads, j, m.1, n.1, digits, lt-ltb k (bits_of w) below) c.1) (omega (arith, u)) c.2

chosen-opens : (names : Names) (word opening comma comma' closing : Spelled) (d d' d'' : ℕ) (cs xs ys : Words) (t x y e : Expression) → function_named word.bytes ≡ Some functions.Select → Is opening (codes "(")
    → Closes names 5 d cs t → Is comma (codes ",") → Closes names 5 d' xs x → Is comma' (codes ",") → Closes names 5 d'' ys y → Is closing (codes ")") → select_node t x y ≡ Some e
    → Opens names 0 (max d (max d' d'') + 1) (word ∷ opening ∷ (cs ++ comma ∷ (xs ++ comma' ∷ (ys ++ closing ∷ [])))) e
unfolding select_at select_end
chosen-opens names word opening comma comma' closing d d' d'' cs xs ys t x y e k i first l second l' third q node room s behind deep left few loose =
    let end = xs ++ comma' ∷ (ys ++ closing ∷ []) in
    let o = opened-call names room s word opening functions.Select ((cs ++ comma ∷ end) ++ behind) k i left in
    let cost = select-cost t x y e node in
    let group : (cs ++ comma ∷ end) ++ behind ≡ cs ++ comma ∷ (xs ++ comma' ∷ (ys ++ closing ∷ behind)) = append_assoc cs (comma ∷ end) behind ∙ ap (λ (u : Words). cs ++ comma ∷ u) (regroup xs ys behind comma' closing) in
    let a = first room (at o.0 s.used) (comma ∷ (xs ++ comma' ∷ (ys ++ closing ∷ behind))) (omega arith) (subst (λ (u : Words). script_left o.0 ≡ Some u) group o.2) (omega (arith, cost))
    (loose-comma 6 comma (xs ++ comma' ∷ (ys ++ closing ∷ behind)) l) in
    let v = a.counts in
    let m = expect-again (codes ",") a.rest comma (xs ++ comma' ∷ (ys ++ closing ∷ behind)) l a.left in
    let b = pair-reads names room m.0 a.used comma' d' d'' xs ys x y (closing ∷ behind) second l' third (omega arith) (omega arith) m.2 (omega (arith, cost, v)) (loose-close 6 closing behind q) in
    let u = b.counts in
    let j = judged-again word.place b.after (select_node t x y) e (omega (arith, cost, u, v)) node in
    let c = closed-again e (max d (max d' d'')) b.rest (b.after + 1) closing behind q b.left in
    operand names (max d (max d' d'') + 1) e room s behind c.0 (b.after + 1) (omega arith) (o.1 ∙ rw (a.reads, m.1, b.reads, j) c.1) (omega (arith, cost, u, v)) c.2

-- an expression of a level is one of the next looser level
tighter-opens : (names : Names) (level d : ℕ) (ws : Words) (e : Expression) → 0 < d → Opens names level d ws e → Opens names (suc level) d ws e
unfolding level_at
tighter-opens names level d ws e some opens room s behind deep left few loose =
    let o = opens room s behind deep left few (looser level behind loose) in
    let reads = o.reads ∙ continued-end (expression_at names room) room o.joins level (record { expression = e; depth = d; scan = at o.rest o.used }) behind o.left loose in
    record { rest = o.rest; joins = room; used = o.used; reads = rw reads refl; counts = o.counts; enough = omega arith; left = o.left }

-- an operator and its right operand
join-again : (names : Names) (room level d d' : ℕ) (op : TwoOp) (sign : Spelled) (x y e : Expression) (r : Reading) (used : ℕ) (ys behind : Words) → Closes names level d' ys y → pair_node (functions.Two op) x y ≡ Some e → d' ≤ room
    → script_left r ≡ Some (ys ++ behind) → used + expression_cost y < 8192 → Loose (suc level) behind → (left : Reading)
    → (rest : Reading) × (join_at (expression_at names room) level (record { expression = x; depth = d; scan = at left used }) (record { op = op; place = sign.place; behind = r }) ≡ Ok (record { expression = e; depth = max d d' + 1; scan = at rest (used + expression_cost y + 1) })) × (script_left rest ≡ Some behind)
unfolding join_at
join-again names room level d d' op sign x y e r used ys behind second node deep left few loose before =
    let b = second room (at r used) behind deep left (omega arith) loose in
    let u = b.counts in
    let j = judged-again sign.place b.used (pair_node (functions.Two op) x y) e (omega (arith, u)) node in
    (b.rest, rw (b.reads, j, u) refl, b.left)

joined-opens : (names : Names) (op : TwoOp) (sign : Spelled) (level d d' : ℕ) (xs ys : Words) (x y e : Expression) → 0 < d → Opens names (suc level) d xs x → operator_named sign.bytes ≡ Some op → level_of op ≡ suc level
    → Closes names level d' ys y → pair_node (functions.Two op) x y ≡ Some e → Opens names (suc level) (max d d' + 1) (xs ++ sign ∷ ys) e
joined-opens names op sign level d d' xs ys x y e some first k l second node room s behind deep left few loose =
    let cost = pair-cost (functions.Two op) x y e node in
    let front : Loose (suc level) (sign ∷ (ys ++ behind)) = λ o h. let same : op ≡ o = let s : Some op ≡ Some o = sym k ∙ h in cc in omega (arith, l, ap level_of same) in
    let o = first room s (sign ∷ (ys ++ behind)) (omega arith) (subst (λ (t : Words). script_left s.reading ≡ Some t) (append_assoc xs (sign ∷ ys) behind) left) (omega (arith, cost)) front in
    let u = o.counts in
    let enough = o.enough in
    let g = operator-again (suc level) o.rest sign op (ys ++ behind) o.left k l in
    let j = join-again names room level d d' op sign x y e g.0 o.used ys behind second node (omega arith) g.2 (omega (arith, cost, u)) loose o.rest in
    let before : Part = record { expression = x; depth = d; scan = at o.rest o.used } in
    let more : suc (o.joins - 1) ≡ o.joins = omega (arith, enough) in
    let step = joined-step (expression_at names room) level room (o.joins - 1) before (record { op = op; place = sign.place; behind = g.0 }) g.1 (omega arith) in
    let again : joined_at (expression_at names room) level room o.joins before ≡ joined_at (expression_at names room) level room (o.joins - 1) (record { expression = e; depth = max d d' + 1; scan = at j.0 (o.used + expression_cost y + 1) }) =
    subst (λ (n : ℕ). joined_at (expression_at names room) level room n before ≡ joined_at (expression_at names room) level room (o.joins - 1) (record { expression = e; depth = max d d' + 1; scan = at j.0 (o.used + expression_cost y + 1) })) more (step ∙ rw j.1 refl) in
    record { rest = j.0; joins = o.joins - 1; used = o.used + expression_cost y + 1; reads = o.reads ∙ again; counts = omega (arith, cost, u); enough = omega (arith, enough); left = j.2 }

opens : (names : Names) (level d : ℕ) (ws : Words) (e : Expression) → IsExpression names level d ws e → Opens names level d ws e
opens names _ _ _ _ (name word e v) = name-opens names word e v
opens names _ _ _ _ (number digits type w n l) = number-opens names digits type w n l
opens names _ _ _ _ (negative sign digits type w n i l) = negative-opens names sign digits type w n i l
opens names _ _ _ _ (read word o c ws w a i j k l) = load-opens names word o c ws w a i j k l
opens names _ _ _ _ (parenthesised o c d ws e i j k) = parenthesised-opens names o c d ws e i (closes names 5 d ws e (depth-some names 5 d ws e j) (opens names 5 d ws e j)) k
opens names _ _ _ _ (pair f word o m c d d' xs ys x y e i j k l n p q) =
    pair-opens names f word o m c d d' xs ys x y e i j (closes names 5 d xs x (depth-some names 5 d xs x k) (opens names 5 d xs x k)) l (closes names 5 d' ys y (depth-some names 5 d' ys y n) (opens names 5 d' ys y n)) p q
opens names _ _ _ _ (moved op word o m a c d k xs x w i j l n p q t u) =
    moved-opens names op word o m a c d k xs x w i j (closes names 5 d xs x (depth-some names 5 d xs x l) (opens names 5 d xs x l)) n p q t u
opens names _ _ _ _ (resized op to word o c d xs x e i j k l n) =
    resized-opens names op to word o c d xs x e i j (closes names 5 d xs x (depth-some names 5 d xs x k) (opens names 5 d xs x k)) l n
opens names _ _ _ _ (chosen word o m m' c d d' d'' cs xs ys t x y e i j k l n p q u v) =
    chosen-opens names word o m m' c d d' d'' cs xs ys t x y e i j (closes names 5 d cs t (depth-some names 5 d cs t k) (opens names 5 d cs t k)) l
    (closes names 5 d' xs x (depth-some names 5 d' xs x n) (opens names 5 d' xs x n)) p (closes names 5 d'' ys y (depth-some names 5 d'' ys y q) (opens names 5 d'' ys y q)) u v
opens names _ _ _ _ (tighter level d ws e i) = tighter-opens names level d ws e (depth-some names level d ws e i) (opens names level d ws e i)
opens names _ _ _ _ (joined op sign level d d' xs ys x y e i j k l n) =
    joined-opens names op sign level d d' xs ys x y e (depth-some names (suc level) d xs x i) (opens names (suc level) d xs x i) j k (closes names level d' ys y (depth-some names level d' ys y l) (opens names level d' ys y l)) n

-- an expression of the language is read
pub expression-again : (names : Names) (level d : ℕ) (ws : Words) (e : Expression) → IsExpression names level d ws e → Closes names level d ws e
expression-again names level d ws e is = closes names level d ws e (depth-some names level d ws e is) (opens names level d ws e is)
