-- The lines of a trial's kernel by their items, and what each of them spells.
use Rattle.std.proofs.Common.{lit<, ◌≡◌, ℕ, zero, suc, ◌+◌, ◌-◌, ◌^◌, ◌<◌, ◌≤◌, max, true, false, ◌==◌, List, [], ◌∷◌, ◌++◌, length, Some, pos, inl, refl, ◌∙◌, ap, arith, append_assoc, length-append}
use Rattle.std.specs.Prelude.{codes, IsTrue}
use Rattle.std.specs.Fmt.{decimal}
use Rattle.std.specs.List.{list_all}
use Rattle.std.proofs.lemmas.Bool.{ne_eqb, leb-true, and_parts, and_from, lt-ltb, cond-true, cond-false, eq-eqb}
use Rattle.std.proofs.lemmas.Fmt.{length-decimal-le}
use Rattle.vg_base.specs.declared.width.Width.{Width}
use Rattle.vg_base.specs.declared.width.Width.TheVariants.{W8, W16, W32}
use Rattle.vg_base.specs.Width.{bits_of}
use Rattle.vg_scalar.specs.declared.two_op.TwoOp.{TwoOp}
use Rattle.vg_scalar.specs.declared.two_op.TwoOp.TheVariants.{Add, Mul, Smin, Smax}
use Rattle.vg_scalar.specs.declared.shift.Shift.{Shift}
use Rattle.vg_scalar.specs.declared.shift.Shift.TheVariants.{Lshr}
use Rattle.vg_scalar.specs.declared.resize.Resize.{Resize}
use Rattle.vg_scalar.specs.declared.resize.Resize.TheVariants.{Sext, Zext, Trunc}
use Rattle.vg_text.specs.declared.place.Place.{Place}
use Rattle.vg_text.specs.Byte.{is_digit}
use Rattle.vg_text.specs.Number.{value_from, decimal_value}
use Rattle.vg_text.specs.Place.{place_after}
use Rattle.vg_text.specs.Token.{front_of}
use Rattle.vg_text.proofs.Printed.{decimal_value-decimal}
use Rattle.vg_kernel.specs.declared.function.Function.{Function}
use Rattle.vg_kernel.specs.declared.function.Function.TheVariants as functions
use Rattle.vg_kernel.specs.declared.given.Given.TheVariants as given
use Rattle.vg_kernel.specs.Grammar.{SpellsAddress, IsExpression, number, negative, read, pair, moved, resized, tighter, joined, IsStatement}
use Rattle.vg_kernel.specs.Names.{Names, parameter_named, given_as, names_of}
use Rattle.vg_kernel.specs.Nodes.{width_in, pair_node, resize_node}
use Rattle.vg_kernel.specs.Script.{Words}
use Rattle.vg_kernel.specs.Tree.{Expression, Statement, literal, load, two, shift, resize, store}
use Rattle.vg_kernel.specs.Words.{sized, level_of, operator_named, plain_named, function_named, is_reserved, is_free, adjoins, literal_of}
use Rattle.vg_trial.specs.TrialKernel.{params, d_at, p_at, q_at, product, sum_stored, pair_stored, products_stored, clamped_stored, average_stored}
use Rattle.vg_trial.specs.Trial.{line_text, sum_line, pair_line, product_line, clamped_line, average_line}
use Rattle.vg_trial.proofs.Scripts.{Item, plain, number as digits, gap_of, bytes_of, written, past, past_all, words_of, words_in, word, end_all, AreSmall, before, white-words, items-words}

-- the names of a trial's parameters
abbrev pub names : Names
names = names_of params

-- the items of `p + n`
abbrev address_items : List ℕ → ℕ → List Item
address_items pointer n = plain [] pointer ∷ plain (codes " ") (codes "+") ∷ digits (codes " ") n ∷ []

-- the items of `f(x)`, with a gap in front
abbrev call_items : List ℕ → List ℕ → List Item → List Item
call_items gap f xs = plain gap f ∷ plain [] (codes "(") ∷ (xs ++ plain [] (codes ")") ∷ [])

-- the items of `f(x, y)`, with a gap in front
abbrev pair_items : List ℕ → List ℕ → List Item → List Item → List Item
pair_items gap f xs ys = plain gap f ∷ plain [] (codes "(") ∷ (xs ++ plain [] (codes ",") ∷ (ys ++ plain [] (codes ")") ∷ []))

-- the items of `x + y` or `x * y`
abbrev joined_items : List Item → List ℕ → List Item → List Item
joined_items xs sign ys = xs ++ plain (codes " ") sign ∷ ys

-- the items of `f(x, amount)`, with a gap in front
abbrev shift_items : List ℕ → List ℕ → List Item → List ℕ → List Item
shift_items gap f xs amount = plain gap f ∷ plain [] (codes "(") ∷ (xs ++ plain [] (codes ",") ∷ plain (codes " ") amount ∷ plain [] (codes ")") ∷ [])

-- the items of a literal, with a gap in front
abbrev literal_items : List ℕ → List ℕ → List ℕ → List Item
literal_items gap bytes type = plain gap bytes ∷ plain [] type ∷ []

-- the items of a load, with a gap in front
abbrev load_items : List ℕ → Width → List ℕ → ℕ → List Item
load_items gap w pointer n = call_items gap (sized (codes "load") w) (address_items pointer n)

-- the items of a store to `d`
abbrev store_items : Width → ℕ → List Item → List Item
store_items w to xs =
    plain [] (sized (codes "store") w) ∷ plain [] (codes "(")
    ∷ (address_items (codes "d") to ++ plain [] (codes ",") ∷ (xs ++ plain [] (codes ")") ∷ plain [] (codes ";") ∷ []))

-- the words of items and of those after them
words_of-append : (p : Place) (xs ys : List Item) → words_of p (xs ++ ys) ≡ words_of p xs ++ words_of (past_all p xs) ys
words_of-append p [] ys = refl
words_of-append p (x ∷ xs) ys = ap (λ (ws : Words). word (bytes_of x) (place_after p (gap_of x)) ∷ ws) (words_of-append (past p x) xs ys)

-- items that spell an expression, wherever they stand
abbrev Spell : List Item → ℕ → ℕ → Expression → Type 0
Spell xs level d e = (p : Place) → IsExpression names level d (words_of p xs) e

-- a pointer of a trial
abbrev IsNamed : List ℕ → ℕ → Type 0
IsNamed pointer k = IsTrue (is_free pointer) × (given_as names pointer ≡ Some (given.Pointer k))

d_named : IsNamed (codes "d") 0
unfolding is_reserved plain_named parameter_named
d_named = (refl, refl)

p_named : IsNamed (codes "p") 1
unfolding is_reserved plain_named parameter_named
p_named = (refl, refl)

q_named : IsNamed (codes "q") 2
unfolding is_reserved plain_named parameter_named
q_named = (refl, refl)

-- `p + n` spells an address
spells_address : (p : Place) (pointer : List ℕ) (k n : ℕ) → IsNamed pointer k → n < 10000 → SpellsAddress names (words_of p (address_items pointer n)) (record { pointer = k; offset = pos n })
spells_address p pointer k n named small = (named, inl (refl, (n, decimal_value-decimal n (omega arith), cond-true _ _ _ (lt-ltb n (2 ^ 31) (omega arith)))))

-- a load from `p + n`
spell_load : (gap : List ℕ) (w : Width) (pointer : List ℕ) (k n : ℕ) → IsNamed pointer k → n < 10000 → Spell (load_items gap w pointer n) 0 1 (load w (record { pointer = k; offset = pos n }))
spell_load gap w pointer k n named small p =
    let inside = past_all p (plain gap (sized (codes "load") w) ∷ plain [] (codes "(") ∷ []) in
    read _ _ _ (words_of inside (address_items pointer n)) w (record { pointer = k; offset = pos n }) refl refl (spells_address inside pointer k n named small) refl

-- what spells an expression with no operator outside of calls spells it at each level
looser : (level d : ℕ) (xs : List Item) (e : Expression) → Spell xs 0 d e → Spell xs level d e
looser zero d xs e is p = is p
looser (suc level) d xs e is p = tighter level d (words_of p xs) e (looser level d xs e is p)

-- what spells a sum spells a whole expression
whole_sum : (d : ℕ) (xs : List Item) (e : Expression) → Spell xs 2 d e → Spell xs 5 d e
whole_sum d xs e is p =
    let ws = words_of p xs in
    tighter 4 d ws e (tighter 3 d ws e (tighter 2 d ws e (is p)))

-- two operands and the operator between them
spell_joined : (op : TwoOp) (sign : List ℕ) (level d d' : ℕ) (xs ys : List Item) (x y e : Expression) → operator_named sign ≡ Some op → level_of op ≡ suc level → pair_node (functions.Two op) x y ≡ Some e
    → Spell xs (suc level) d x → Spell ys level d' y → Spell (joined_items xs sign ys) (suc level) (max d d' + 1) e
spell_joined op sign level d d' xs ys x y e named high node left right p =
    let between = past_all p xs in
    rw (words_of-append p xs (plain (codes " ") sign ∷ ys))
    (joined op _ level d d' (words_of p xs) (words_of (past between (plain (codes " ") sign)) ys) x y e (left p) named high (right (past between (plain (codes " ") sign))) node)

-- a function of two
spell_pair : (gap name : List ℕ) (f : Function) (d d' : ℕ) (xs ys : List Item) (x y e : Expression) → function_named name ≡ Some f → pair_node f x y ≡ Some e
    → Spell xs 5 d x → Spell ys 5 d' y → Spell (pair_items gap name xs ys) 0 (max d d' + 1) e
spell_pair gap name f d d' xs ys x y e named node left right p =
    let first = past_all p (plain gap name ∷ plain [] (codes "(") ∷ []) in
    let second = past (past_all first xs) (plain [] (codes ",")) in
    rw (words_of-append first xs (plain [] (codes ",") ∷ (ys ++ plain [] (codes ")") ∷ [])), words_of-append second ys (plain [] (codes ")") ∷ []))
    (pair f _ _ _ _ d d' (words_of first xs) (words_of second ys) x y e named refl (left first) refl (right second) refl node)

-- an extension or a truncation
spell_resized : (gap name : List ℕ) (op : Resize) (to : Width) (d : ℕ) (xs : List Item) (x e : Expression) → function_named name ≡ Some (functions.Resize op to) → resize_node op to x ≡ Some e
    → Spell xs 5 d x → Spell (call_items gap name xs) 0 (d + 1) e
spell_resized gap name op to d xs x e named node inside p =
    let first = past_all p (plain gap name ∷ plain [] (codes "(") ∷ []) in
    rw (words_of-append first xs (plain [] (codes ")") ∷ []))
    (resized op to _ _ _ d (words_of first xs) x e named refl (inside first) refl node)

-- a shift
spell_shift : (gap name amount : List ℕ) (op : Shift) (w : Width) (d k : ℕ) (xs : List Item) (x : Expression) → function_named name ≡ Some (functions.Shift op) → decimal_value amount ≡ Some k → k < bits_of w → width_in x ≡ Some w
    → Spell xs 5 d x → Spell (shift_items gap name xs amount) 0 (d + 1) (shift op w k x)
spell_shift gap name amount op w d k xs x named value few width inside p =
    let first = past_all p (plain gap name ∷ plain [] (codes "(") ∷ []) in
    rw (words_of-append first xs (plain [] (codes ",") ∷ plain (codes " ") amount ∷ plain [] (codes ")") ∷ []))
    (moved op _ _ _ _ _ d k (words_of first xs) x w named refl (inside first) refl value few refl width)

-- the place after digits is in their line
one_line : (p : Place) (ds : List ℕ) → list_all is_digit ds ≡ true → ((place_after p ds).line ≡ p.line) × ((place_after p ds).column ≡ p.column + length ds)
unfolding place_after
one_line p [] all = (refl, omega arith)
one_line p (d ∷ ds) all =
    let both = and_parts (is_digit d) (list_all is_digit ds) all in
    let other : (d == 10) ≡ false = ne_eqb d 10 (λ e. let low : 48 ≤ d = leb-true 48 d ((and_parts _ _ both.0).0) in omega arith) in
    let more = one_line (record { line = p.line; column = p.column + 1 }) ds both.1 in
    let step = ap (λ (q : Place). place_after q ds) (cond-false (d == 10) (record { line = p.line + 1; column = 1 }) (record { line = p.line; column = p.column + 1 }) other) in
    (ap (λ (q : Place). q.line) step ∙ more.0, ap (λ (q : Place). q.column) step ∙ more.1 ∙ omega arith)

-- a type with no gap in front adjoins the digits before it
adjoined : (p : Place) (bytes type : List ℕ) → list_all is_digit bytes ≡ true → adjoins (word bytes p) (word type (place_after (place_after p bytes) [])) ≡ true
unfolding place_after
adjoined p bytes type all = let at = one_line p bytes all in and_from _ _ (eq-eqb _ _ at.0) (eq-eqb _ _ at.1)

-- a literal
spell_literal : (gap bytes : List ℕ) (w : Width) (m n : ℕ) → list_all is_digit bytes ≡ true → decimal_value bytes ≡ Some m → literal_of false w m ≡ Some n
    → Spell (literal_items gap bytes (sized (codes "i") w)) 0 1 (literal w n)
spell_literal gap bytes w m n all value fits p =
    number _ _ w n (m, value, adjoined (place_after p gap) bytes (sized (codes "i") w) all, refl, fits)

-- a literal after `-`
spell_negative : (gap bytes : List ℕ) (w : Width) (m n : ℕ) → list_all is_digit bytes ≡ true → decimal_value bytes ≡ Some m → literal_of true w m ≡ Some n
    → Spell (plain gap (codes "-") ∷ literal_items [] bytes (sized (codes "i") w)) 0 1 (literal w n)
spell_negative gap bytes w m n all value fits p =
    let at = past p (plain gap (codes "-")) in
    negative _ _ _ w n refl (m, value, adjoined (place_after at []) bytes (sized (codes "i") w) all, refl, fits)

-- a store to `d`
spell_store : (w : Width) (to d : ℕ) (xs : List Item) (e : Expression) (p : Place) → to < 10000 → d ≤ 256 → width_in e ≡ Some w → Spell xs 5 d e → IsStatement names (words_of p (store_items w to xs)) (store w (d_at to) e) names
spell_store w to d xs e p small few width is =
    let first = word (sized (codes "store") w) (place_after p []) in
    let opening = word (codes "(") (place_after (past p (plain [] (sized (codes "store") w))) []) in
    let inside = past_all p (plain [] (sized (codes "store") w) ∷ plain [] (codes "(") ∷ []) in
    let place = words_of inside (address_items (codes "d") to) in
    let comma = word (codes ",") (place_after (past_all inside (address_items (codes "d") to)) []) in
    let second = past (past_all inside (address_items (codes "d") to)) (plain [] (codes ",")) in
    let behind = past_all second xs in
    let closing = word (codes ")") (place_after behind []) in
    let end = word (codes ";") (place_after (past behind (plain [] (codes ")"))) []) in
    let whole = ap (λ (ws : Words). first ∷ opening ∷ (place ++ comma ∷ ws)) (words_of-append second xs (plain [] (codes ")") ∷ plain [] (codes ";") ∷ [])) in
    (first, opening, comma, closing, end, place, words_of second xs, refl, refl, spells_address inside (codes "d") 0 to d_named small, refl, (d, is second, few), refl, refl, width, whole, refl)

-- a sum
spell_sum : (d d' : ℕ) (xs ys : List Item) (x y e : Expression) → pair_node (functions.Two Add) x y ≡ Some e → Spell xs 2 d x → Spell ys 1 d' y → Spell (joined_items xs (codes "+") ys) 2 (max d d' + 1) e
unfolding operator_named
spell_sum d d' xs ys x y e node left right = spell_joined Add (codes "+") 1 d d' xs ys x y e refl refl node left right

-- a product
spell_product : (d d' : ℕ) (xs ys : List Item) (x y e : Expression) → pair_node (functions.Two Mul) x y ≡ Some e → Spell xs 1 d x → Spell ys 0 d' y → Spell (joined_items xs (codes "*") ys) 1 (max d d' + 1) e
unfolding operator_named
spell_product d d' xs ys x y e node left right = spell_joined Mul (codes "*") 0 d d' xs ys x y e refl refl node left right

-- a text that spells a statement, wherever it stands, and ends it
pub record IsLine (text : List ℕ) (s : Statement) : Type 0 where
  pub size : length text ≤ 240
  pub spells : (p : Place) (rest : List ℕ) → (ws : Words) × (q : Place) × (words_in 0 p (text ++ rest) ≡ before ws (words_in 0 q rest)) × IsStatement names ws s names

-- a line by its items
line_of : (text : List ℕ) (is : List Item) (s : Statement) → length text ≤ 240 → ((rest : List ℕ) → text ++ rest ≡ written is (codes "\n" ++ rest)) → ((rest : List ℕ) → end_all is (codes "\n" ++ rest) ≡ true)
    → AreSmall is → ((p : Place) → IsStatement names (words_of p is) s names) → IsLine text s
line_of text is s size same ended small spelled = record {
  size = size;
  spells = λ p rest. (
    words_of p is,
    place_after (past_all p is) (codes "\n"),
    ap (words_in 0 p) (same rest) ∙ items-words p is (codes "\n" ++ rest) (ended rest) small ∙ ap (before (words_of p is)) (white-words (past_all p is) (codes "\n") rest refl),
    spelled p,
  );
}

-- the sum of two dwords, each at a pointer
abbrev loads_items : List ℕ → List ℕ → ℕ → ℕ → List Item
loads_items low high from from' = joined_items (load_items (codes " ") W32 low from) (codes "+") (load_items (codes " ") W32 high from')

spell_loads : (low high : List ℕ) (k k' from from' : ℕ) → IsNamed low k → IsNamed high k' → from < 10000 → from' < 10000
    → Spell (loads_items low high from from') 5 2 (two Add W32 (load W32 (record { pointer = k; offset = pos from })) (load W32 (record { pointer = k'; offset = pos from' })))
spell_loads low high k k' from from' named named' small small' =
    let left = load_items (codes " ") W32 low from in
    let right = load_items (codes " ") W32 high from' in
    let x = load W32 (record { pointer = k; offset = pos from }) in
    let y = load W32 (record { pointer = k'; offset = pos from' }) in
    whole_sum 2 (joined_items left (codes "+") right) (two Add W32 x y)
    (spell_sum 1 1 left right x y (two Add W32 x y) refl (looser 2 1 left x (spell_load (codes " ") W32 low k from named small)) (looser 1 1 right y (spell_load (codes " ") W32 high k' from' named' small')))

-- a small number has at most four digits
few_digits : (n : ℕ) → n < 10000 → length (decimal n) ≤ 4
few_digits n small = length-decimal-le 4 n (lit< tt) small (omega arith)

-- the sum of two dwords
pub sum_is_line : (to from : ℕ) → to < 10000 → from < 10000 → IsLine (line_text (sum_line to from)) (sum_stored to from)
unfolding line_text end_all front_of
sum_is_line to from small few =
    let a = few_digits to small in
    let b = few_digits from few in
    let sum = loads_items (codes "p") (codes "q") from from in
    line_of _ (store_items W32 to sum) (sum_stored to from) (simp length-append (omega arith)) (λ rest. simp append_assoc) (λ rest. refl) (assumption)
    (λ p. spell_store W32 to 2 sum _ p small (omega arith) refl (spell_loads (codes "p") (codes "q") 1 2 from from p_named q_named few few))

-- the sum of two dwords that stand beside each other, at p
pub low_pair_is_line : (to from : ℕ) → to < 10000 → from + 4 < 10000 → IsLine (line_text (pair_line to (codes "p") from)) (pair_stored to (p_at from) (p_at (from + 4)))
unfolding line_text end_all front_of
low_pair_is_line to from small few =
    let less : from < 10000 = omega arith in
    let a = few_digits to small in
    let b = few_digits from less in
    let c = few_digits (from + 4) few in
    let sum = loads_items (codes "p") (codes "p") from (from + 4) in
    line_of _ (store_items W32 to sum) (pair_stored to (p_at from) (p_at (from + 4))) (simp length-append (omega arith)) (λ rest. simp append_assoc) (λ rest. refl) (assumption)
    (λ p. spell_store W32 to 2 sum _ p small (omega arith) refl (spell_loads (codes "p") (codes "p") 1 1 from (from + 4) p_named p_named less few))

-- the same, at q
pub high_pair_is_line : (to from : ℕ) → to < 10000 → from + 4 < 10000 → IsLine (line_text (pair_line to (codes "q") from)) (pair_stored to (q_at from) (q_at (from + 4)))
unfolding line_text end_all front_of
high_pair_is_line to from small few =
    let less : from < 10000 = omega arith in
    let a = few_digits to small in
    let b = few_digits from less in
    let c = few_digits (from + 4) few in
    let sum = loads_items (codes "q") (codes "q") from (from + 4) in
    line_of _ (store_items W32 to sum) (pair_stored to (q_at from) (q_at (from + 4))) (simp length-append (omega arith)) (λ rest. simp append_assoc) (λ rest. refl) (assumption)
    (λ p. spell_store W32 to 2 sum _ p small (omega arith) refl (spell_loads (codes "q") (codes "q") 2 2 from (from + 4) q_named q_named less few))

-- an extended word
abbrev extended_items : List ℕ → List ℕ → ℕ → List Item
extended_items gap pointer from = call_items gap (codes "sext32") (load_items [] W16 pointer from)

spell_extended : (gap pointer : List ℕ) (k from : ℕ) → IsNamed pointer k → from < 10000 → Spell (extended_items gap pointer from) 0 2 (resize Sext W32 W16 (load W16 (record { pointer = k; offset = pos from })))
unfolding plain_named
spell_extended gap pointer k from named small =
    let x = load W16 (record { pointer = k; offset = pos from }) in
    let xs = load_items [] W16 pointer from in
    spell_resized gap (codes "sext32") Sext W32 1 xs x (resize Sext W32 W16 x) refl refl (looser 5 1 xs x (spell_load [] W16 pointer k from named small))

-- the product of the words at p and q
abbrev product_items : ℕ → List Item
product_items from = joined_items (extended_items (codes " ") (codes "p") from) (codes "*") (extended_items (codes " ") (codes "q") from)

spell_words : (from : ℕ) → from < 10000 → Spell (product_items from) 1 3 (product from)
spell_words from small =
    let left = extended_items (codes " ") (codes "p") from in
    let right = extended_items (codes " ") (codes "q") from in
    let x = resize Sext W32 W16 (load W16 (p_at from)) in
    let y = resize Sext W32 W16 (load W16 (q_at from)) in
    spell_product 2 2 left right x y (product from) refl (looser 1 2 left x (spell_extended (codes " ") (codes "p") 1 from p_named small)) (spell_extended (codes " ") (codes "q") 2 from q_named small)

-- the sum of two products of words
pub products_are_line : (to from : ℕ) → to < 10000 → from + 2 < 10000 → IsLine (line_text (product_line to from)) (products_stored to from)
unfolding line_text end_all front_of
products_are_line to from small few =
    let less : from < 10000 = omega arith in
    let a = few_digits to small in
    let b = few_digits from less in
    let c = few_digits (from + 2) few in
    let left = product_items from in
    let right = product_items (from + 2) in
    let sum = joined_items left (codes "+") right in
    let e = two Add W32 (product from) (product (from + 2)) in
    line_of _ (store_items W32 to sum) (products_stored to from) (simp length-append (omega arith)) (λ rest. simp append_assoc) (λ rest. refl) (assumption)
    (λ p. spell_store W32 to 4 sum e p small (omega arith) refl
    (whole_sum 4 sum e (spell_sum 3 3 left right (product from) (product (from + 2)) e refl (λ q. tighter 1 3 (words_of q left) (product from) (spell_words from less q)) (spell_words (from + 2) few))))

-- a dword, kept in the range of signed words
abbrev clamped_items : ℕ → List Item
clamped_items from =
    call_items (codes " ") (codes "trunc16")
    (pair_items [] (codes "smin")
    (pair_items [] (codes "smax") (load_items [] W32 (codes "p") from) (plain (codes " ") (codes "-") ∷ literal_items [] (codes "32768") (codes "i32")))
    (literal_items (codes " ") (codes "32767") (codes "i32")))

spell_clamped : (from : ℕ) → from < 10000
    → Spell (clamped_items from) 0 4 (resize Trunc W16 W32 (two Smin W32 (two Smax W32 (load W32 (p_at from)) (literal W32 (2 ^ 32 - 32768))) (literal W32 32767)))
unfolding plain_named decimal_value value_from
spell_clamped from small =
    let x = load W32 (p_at from) in
    let low = literal W32 (2 ^ 32 - 32768) in
    let high = literal W32 32767 in
    let xs = load_items [] W32 (codes "p") from in
    let lows = plain (codes " ") (codes "-") ∷ literal_items [] (codes "32768") (codes "i32") in
    let highs = literal_items (codes " ") (codes "32767") (codes "i32") in
    let greatest = two Smax W32 x low in
    let least = two Smin W32 greatest high in
    let greatests = pair_items [] (codes "smax") xs lows in
    let leasts = pair_items [] (codes "smin") greatests highs in
    spell_resized (codes " ") (codes "trunc16") Trunc W16 3 leasts least (resize Trunc W16 W32 least) refl refl
    (looser 5 3 leasts least
    (spell_pair [] (codes "smin") (functions.Two Smin) 2 1 greatests highs greatest high least refl refl
    (looser 5 2 greatests greatest
    (spell_pair [] (codes "smax") (functions.Two Smax) 1 1 xs lows x low greatest refl refl (looser 5 1 xs x (spell_load [] W32 (codes "p") 1 from p_named small))
    (looser 5 1 lows low (spell_negative (codes " ") (codes "32768") W32 32768 (2 ^ 32 - 32768) refl refl refl))))
    (looser 5 1 highs high (spell_literal (codes " ") (codes "32767") W32 32767 32767 refl refl refl))))

pub clamped_is_line : (to from : ℕ) → to < 10000 → from < 10000 → IsLine (line_text (clamped_line to from)) (clamped_stored to from)
unfolding line_text end_all front_of value_from
clamped_is_line to from small few =
    let a = few_digits to small in
    let b = few_digits from few in
    line_of _ (store_items W16 to (clamped_items from)) (clamped_stored to from) (simp length-append (omega arith)) (λ rest. simp append_assoc) (λ rest. refl) (assumption)
    (λ p. spell_store W16 to 4 (clamped_items from) _ p small (omega arith) refl (looser 5 4 (clamped_items from) _ (spell_clamped from few)))

-- an extended byte
abbrev byte_items : List ℕ → List ℕ → ℕ → List Item
byte_items gap pointer from = call_items gap (codes "zext16") (load_items [] W8 pointer from)

spell_byte : (gap pointer : List ℕ) (k from : ℕ) → IsNamed pointer k → from < 10000 → Spell (byte_items gap pointer from) 0 2 (resize Zext W16 W8 (load W8 (record { pointer = k; offset = pos from })))
unfolding plain_named
spell_byte gap pointer k from named small =
    let x = load W8 (record { pointer = k; offset = pos from }) in
    let xs = load_items [] W8 pointer from in
    spell_resized gap (codes "zext16") Zext W16 1 xs x (resize Zext W16 W8 x) refl refl (looser 5 1 xs x (spell_load [] W8 pointer k from named small))

-- the sum of the bytes at p and q and one
abbrev bytes_items : ℕ → List Item
bytes_items from = joined_items (joined_items (byte_items [] (codes "p") from) (codes "+") (byte_items (codes " ") (codes "q") from)) (codes "+") (literal_items (codes " ") (codes "1") (codes "i16"))

-- the average of two bytes, rounded up
abbrev average_items : ℕ → List Item
average_items from = call_items (codes " ") (codes "trunc8") (shift_items [] (codes "lshr") (bytes_items from) (codes "1"))

spell_bytes : (from : ℕ) → from < 10000
    → Spell (bytes_items from) 2 4 (two Add W16 (two Add W16 (resize Zext W16 W8 (load W8 (p_at from))) (resize Zext W16 W8 (load W8 (q_at from)))) (literal W16 1))
unfolding decimal_value value_from
spell_bytes from small =
    let x = resize Zext W16 W8 (load W8 (p_at from)) in
    let y = resize Zext W16 W8 (load W8 (q_at from)) in
    let one = literal W16 1 in
    let xs = byte_items [] (codes "p") from in
    let ys = byte_items (codes " ") (codes "q") from in
    let ones = literal_items (codes " ") (codes "1") (codes "i16") in
    let both = two Add W16 x y in
    spell_sum 3 1 (joined_items xs (codes "+") ys) ones both one (two Add W16 both one) refl
    (spell_sum 2 2 xs ys x y both refl (looser 2 2 xs x (spell_byte [] (codes "p") 1 from p_named small)) (looser 1 2 ys y (spell_byte (codes " ") (codes "q") 2 from q_named small)))
    (looser 1 1 ones one (spell_literal (codes " ") (codes "1") W16 1 1 refl refl refl))

spell_average : (from : ℕ) → from < 10000
    → Spell (average_items from) 0 6 (resize Trunc W8 W16 (shift Lshr W16 1 (two Add W16 (two Add W16 (resize Zext W16 W8 (load W8 (p_at from))) (resize Zext W16 W8 (load W8 (q_at from)))) (literal W16 1))))
unfolding plain_named decimal_value value_from
spell_average from small =
    let sum = two Add W16 (two Add W16 (resize Zext W16 W8 (load W8 (p_at from))) (resize Zext W16 W8 (load W8 (q_at from)))) (literal W16 1) in
    let half = shift Lshr W16 1 sum in
    let sums = bytes_items from in
    let halves = shift_items [] (codes "lshr") sums (codes "1") in
    spell_resized (codes " ") (codes "trunc8") Trunc W8 5 halves half (resize Trunc W8 W16 half) refl refl
    (looser 5 5 halves half (spell_shift [] (codes "lshr") (codes "1") Lshr W16 4 1 sums sum refl refl (lit< tt) refl (whole_sum 4 sums sum (spell_bytes from small))))

pub average_is_line : (to from : ℕ) → to < 10000 → from < 10000 → IsLine (line_text (average_line to from)) (average_stored to from)
unfolding line_text end_all front_of value_from
average_is_line to from small few =
    let a = few_digits to small in
    let b = few_digits from few in
    line_of _ (store_items W8 to (average_items from)) (average_stored to from) (simp length-append (omega arith)) (λ rest. simp append_assoc) (λ rest. refl) (assumption)
    (λ p. spell_store W8 to 6 (average_items from) _ p small (omega arith) refl (looser 5 6 (average_items from) _ (spell_average from few)))
