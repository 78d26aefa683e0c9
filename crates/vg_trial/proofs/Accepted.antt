-- The text of a trial's kernel is in the language of kernels, and spells the trial's kernel.
use Rattle.std.proofs.Common.{◌≡◌, ℕ, zero, suc, ◌+◌, ◌-◌, ◌*◌, ◌<◌, ◌≤◌, Bool, true, false, List, [], ◌∷◌, ◌++◌, length, Some, refl, sym, ◌∙◌, ap, arith, append_assoc, append-nil, length-append}
use Rattle.std.specs.Prelude.{codes, IsTrue, nat_lt, sum_by, if◌then◌else◌}
use Rattle.std.specs.List.{IsDistinct}
use Rattle.std.proofs.lemmas.List.Sums.{sum_by-append}
use Rattle.vg_text.specs.declared.place.Place.{Place}
use Rattle.vg_text.specs.Place.{first_place, place_after}
use Rattle.vg_text.specs.Token.{front_of}
use Rattle.vg_kernel.specs.declared.parameter.KParamKind.TheVariants.{Pointer}
use Rattle.vg_kernel.specs.Cost.{uses_of}
use Rattle.vg_kernel.specs.Grammar.{IsStatement, AreStatements, IsParameter, AreParameters, IsKernel, IsKernelText}
use Rattle.vg_kernel.specs.Script.{Words}
use Rattle.vg_kernel.specs.Tree.{Statement}
use Rattle.vg_kernel.specs.Words.{is_free, is_reserved, plain_named}
use Rattle.vg_trial.specs.declared.shape.Shape.{Shape}
use Rattle.vg_trial.specs.declared.shape.Shape.TheVariants.{Sums, Products, Clamped, Averages, Pairs}
use Rattle.vg_trial.specs.Trial.{groups, shape_of, statements_in, line_text, pair_line, statement, statements, groups_text, kernel_text}
use Rattle.vg_trial.specs.TrialKernel.{params, kernel, p_at, q_at, pair_stored, statement_made, made, groups_made}
use Rattle.vg_trial.proofs.Scripts.{Item, plain, past, past_all, words_of, words_in, word, end_all, before, before-none, before-append, white-words, items-words, script_of-words}
use Rattle.vg_trial.proofs.Lines.{names, IsLine, sum_is_line, products_are_line, clamped_is_line, average_is_line, low_pair_is_line, high_pair_is_line}

-- two dwords that stand beside each other
pairs_are_line : (t : Bool) (to from from' : ℕ) → to < 10000 → from + 4 < 10000 → from' + 4 < 10000
    → IsLine (line_text (if t then pair_line to (codes "p") from else pair_line to (codes "q") from'))
    (if t then pair_stored to (p_at from) (p_at (from + 4)) else pair_stored to (q_at from') (q_at (from' + 4)))
pairs_are_line true to from from' small few few' = low_pair_is_line to from small few
pairs_are_line false to from from' small few few' = high_pair_is_line to from' small few'

-- statement i of group k
statement_is_line : (s : Shape) (k i : ℕ) → k < 40 → i < 16 → IsLine (line_text (statement s k i)) (statement_made s k i)
statement_is_line Sums k i few less = sum_is_line (16 * k + 4 * i) (32 * k + 4 * i) (omega arith) (omega arith)
statement_is_line Products k i few less = products_are_line (16 * k + 4 * i) (32 * k + 4 * i) (omega arith) (omega arith)
statement_is_line Clamped k i few less = clamped_is_line (16 * k + 2 * i) (32 * k + 4 * i) (omega arith) (omega arith)
statement_is_line Averages k i few less = average_is_line (16 * k + i) (32 * k + i) (omega arith) (omega arith)
statement_is_line Pairs k i few less = pairs_are_line (nat_lt i 2) (16 * k + 4 * i) (32 * k + 8 * i) (32 * k + 8 * (i - 2)) (omega arith) (omega arith) (omega arith)

-- statements that give no names
AreStores : Words → List Statement → Type 0
AreStores words [] = words ≡ []
AreStores words (s ∷ ss) = (front rest : Words) × IsStatement names front s names × AreStores rest ss × (words ≡ front ++ rest)

-- statements after statements
stores-append : (ws vs : Words) (ss rs : List Statement) → AreStores ws ss → AreStores vs rs → AreStores (ws ++ vs) (ss ++ rs)
unfolding AreStores
stores-append ws vs [] rs none more = rw none more
stores-append ws vs (s ∷ ss) rs (front, rest, is, behind, whole) more =
    (front, rest ++ vs, is, stores-append rest vs ss rs behind more, ap (λ (t : Words). t ++ vs) whole ∙ append_assoc front rest vs)

-- they are statements of a kernel
stores-statements : (ws : Words) (ss : List Statement) → AreStores ws ss → AreStatements names ws ss
unfolding AreStores
stores-statements ws [] none = none
stores-statements ws (s ∷ ss) (front, rest, is, behind, whole) = (front, rest, names, is, stores-statements rest ss behind, whole)

-- a text of lines, with the statements that they spell, wherever it stands
record AreLines (text : List ℕ) (ss : List Statement) : Type 0 where
  size : length text ≤ 240 * length ss
  spells : (p : Place) (rest : List ℕ) → (ws : Words) × (q : Place) × (words_in 0 p (text ++ rest) ≡ before ws (words_in 0 q rest)) × AreStores ws ss

-- no line, one line, and lines after lines
no_lines : AreLines [] []
unfolding AreStores
no_lines = record { size = omega arith; spells = λ p rest. ([], p, before-none (words_in 0 p rest), refl) }

line_alone : (text : List ℕ) (s : Statement) → IsLine text s → AreLines text (s ∷ [])
unfolding AreStores
line_alone text s line = record {
  size = omega (arith, line.size);
  spells = λ p rest. let (ws, q, read, is) = line.spells p rest in (ws, q, read, (ws, [], is, refl, sym (append-nil ws)));
}

lines-append : (xs ys : List ℕ) (ss rs : List Statement) → AreLines xs ss → AreLines ys rs → AreLines (xs ++ ys) (ss ++ rs)
lines-append xs ys ss rs first second = record {
  size = simp length-append (omega (arith, first.size, second.size));
  spells = λ p rest.
      let (ws, q, read, are) = first.spells p (ys ++ rest) in
      let (vs, q', read', are') = second.spells q rest in
      (ws ++ vs, q', ap (words_in 0 p) (append_assoc xs ys rest) ∙ read ∙ ap (before ws) read' ∙ before-append ws vs (words_in 0 q' rest), stores-append ws vs ss rs are are');
}

-- the statements of a group
statements_are_lines : (s : Shape) (k i : ℕ) → k < 40 → i ≤ 16 → AreLines (statements s k i) (made s k i)
unfolding statements made
statements_are_lines s k zero few less = no_lines
statements_are_lines s k (suc i) few less =
    lines-append (statements s k i) (line_text (statement s k i)) (made s k i) (statement_made s k i ∷ []) (statements_are_lines s k i few (omega arith))
    (line_alone (line_text (statement s k i)) (statement_made s k i) (statement_is_line s k i few (omega arith)))

few_statements : (s : Shape) → statements_in s ≤ 16
few_statements Sums = omega arith
few_statements Products = omega arith
few_statements Clamped = omega arith
few_statements Averages = omega arith
few_statements Pairs = omega arith

-- the statements of groups
groups_are_lines : (n k : ℕ) → k ≤ 40 → AreLines (groups_text n k) (groups_made n k)
unfolding groups_text groups_made
groups_are_lines n zero few = no_lines
groups_are_lines n (suc k) few =
    let s = shape_of n k in
    lines-append (groups_text n k) (statements s k (statements_in s)) (groups_made n k) (made s k (statements_in s)) (groups_are_lines n k (omega arith))
    (statements_are_lines s k (statements_in s) (omega arith) (few_statements s))

-- the loads and operations of a statement of a shape
uses_in : Shape → ℕ
uses_in Sums = 3
uses_in Products = 11
uses_in Clamped = 4
uses_in Averages = 8
uses_in Pairs = 3

statement-uses : (s : Shape) (k i : ℕ) → uses_of (statement_made s k i) ≡ uses_in s
unfolding uses_in
statement-uses Sums k i = refl
statement-uses Products k i = refl
statement-uses Clamped k i = refl
statement-uses Averages k i = refl
statement-uses Pairs k i = by_test (nat_lt i 2)
  where
    by_test : (t : Bool) → uses_of (if t then pair_stored (16 * k + 4 * i) (p_at (32 * k + 8 * i)) (p_at (32 * k + 8 * i + 4)) else pair_stored (16 * k + 4 * i) (q_at (32 * k + 8 * (i - 2))) (q_at (32 * k + 8 * (i - 2) + 4))) ≡ 3
    by_test true = refl
    by_test false = refl

-- the statements of a shape, and their loads and operations
made-counts : (s : Shape) (k i : ℕ) → (length (made s k i) ≡ i) × (sum_by uses_of (made s k i) ≡ i * uses_in s)
unfolding made
made-counts s k zero = (refl, omega arith)
made-counts s k (suc i) =
    let more = made-counts s k i in (
      omega (arith, more.0, length-append (made s k i) (statement_made s k i ∷ [])),
      sum_by-append uses_of (made s k i) (statement_made s k i ∷ []) ∙ rw (more.1, statement-uses s k i) (grind arith),
    )

-- a group has at most 16 statements, and 128 loads and operations
group-counts : (s : Shape) (k : ℕ) → (length (made s k (statements_in s)) ≤ 16) × (sum_by uses_of (made s k (statements_in s)) ≤ 128)
unfolding uses_in
group-counts Sums k = let c = made-counts Sums k 4 in (omega (arith, c.0), omega (arith, c.1))
group-counts Products k = let c = made-counts Products k 4 in (omega (arith, c.0), omega (arith, c.1))
group-counts Clamped k = let c = made-counts Clamped k 8 in (omega (arith, c.0), omega (arith, c.1))
group-counts Averages k = let c = made-counts Averages k 16 in (omega (arith, c.0), omega (arith, c.1))
group-counts Pairs k = let c = made-counts Pairs k 4 in (omega (arith, c.0), omega (arith, c.1))

-- so many times as much in groups
groups-counts : (n k : ℕ) → (length (groups_made n k) ≤ 16 * k) × (sum_by uses_of (groups_made n k) ≤ 128 * k)
unfolding groups_made
groups-counts n zero = (omega arith, omega arith)
groups-counts n (suc k) =
    let s = shape_of n k in
    let more = groups-counts n k in
    let one = group-counts s k in (
      omega (arith, more.0, one.0, length-append (groups_made n k) (made s k (statements_in s))),
      omega (arith, more.1, one.1, sum_by-append uses_of (groups_made n k) (made s k (statements_in s))),
    )

-- the items of `name: ptr`, with a gap in front
abbrev pointer_items : List ℕ → List ℕ → List Item
pointer_items gap name = plain gap name ∷ plain [] (codes ":") ∷ plain (codes " ") (codes "ptr") ∷ []

spell_pointer : (p : Place) (gap name : List ℕ) → IsTrue (is_free name) → IsParameter (words_of p (pointer_items gap name)) (record { name = name; kind = Pointer false })
spell_pointer p gap name free =
    let second = past p (plain gap name) in
    let type = word (codes "ptr") (place_after (past second (plain [] (codes ":"))) (codes " ")) in
    (word name (place_after p gap), word (codes ":") (place_after second []), type ∷ [], refl, free, refl, (type, refl, refl), refl)

-- the items of `d: noalias ptr`
abbrev apart_items : List Item
apart_items = plain [] (codes "d") ∷ plain [] (codes ":") ∷ plain (codes " ") (codes "noalias") ∷ plain (codes " ") (codes "ptr") ∷ []

spell_apart : (p : Place) → IsParameter (words_of p apart_items) (record { name = codes "d"; kind = Pointer true })
unfolding is_reserved plain_named
spell_apart p =
    let second = past p (plain [] (codes "d")) in
    let third = past second (plain [] (codes ":")) in
    let mark = word (codes "noalias") (place_after third (codes " ")) in
    let type = word (codes "ptr") (place_after (past third (plain (codes " ") (codes "noalias"))) (codes " ")) in
    (word (codes "d") (place_after p []), word (codes ":") (place_after second []), mark ∷ type ∷ [], refl, refl, refl, (mark, type, refl, refl, refl), refl)

-- the items of the parameters
abbrev parameters_items : List Item
parameters_items = apart_items ++ (plain [] (codes ",") ∷ (pointer_items (codes " ") (codes "p") ++ (plain [] (codes ",") ∷ pointer_items (codes " ") (codes "q"))))

-- `d: noalias ptr, p: ptr, q: ptr`
spell_parameters : (p : Place) → AreParameters (words_of p parameters_items) params
unfolding is_reserved plain_named
spell_parameters p =
    let first = past_all p apart_items in
    let second = past first (plain [] (codes ",")) in
    let third = past_all second (pointer_items (codes " ") (codes "p")) in
    let fourth = past third (plain [] (codes ",")) in
    let last = words_of fourth (pointer_items (codes " ") (codes "q")) in
    let comma = word (codes ",") (place_after third []) in (
      words_of p apart_items,
      words_of first (plain [] (codes ",") ∷ (pointer_items (codes " ") (codes "p") ++ (plain [] (codes ",") ∷ pointer_items (codes " ") (codes "q")))),
      spell_apart p,
      (
        word (codes ",") (place_after first []),
        words_of second (pointer_items (codes " ") (codes "p")),
        comma ∷ last,
        refl,
        spell_pointer second (codes " ") (codes "p") refl,
        (comma, last, [], refl, spell_pointer fourth (codes " ") (codes "q") refl, refl, sym (ap (λ (ws : Words). comma ∷ ws) (append-nil last))),
        refl,
      ),
      refl,
    )

-- the items in front of the statements
abbrev front_items : List Item
front_items =
    plain [] (codes "kernel") ∷ plain (codes " ") (codes "trial") ∷ plain [] (codes "(")
    ∷ (parameters_items ++ plain [] (codes ")") ∷ plain (codes " ") (codes "{") ∷ [])

-- each of them ends where its bytes end
front_ends : (rest : List ℕ) → end_all front_items (codes "\n" ++ rest) ≡ true
unfolding end_all front_of
front_ends rest = refl

-- the last line is one word
last-words : (p : Place) → words_in 0 p (codes "}\n") ≡ Some (word (codes "}") p ∷ [])
unfolding words_in front_of
last-words p = refl

-- the words in front of the statements, the statements and the last word are those of a kernel
spell_kernel : (n : ℕ) (p q : Place) (inside : Words) → AreStores inside (groups_made n (groups n)) → IsKernel (words_of p front_items ++ (inside ++ word (codes "}") q ∷ [])) (kernel n)
unfolding IsDistinct is_reserved plain_named
spell_kernel n p q inside are =
    let before_name = past p (plain [] (codes "kernel")) in
    let behind_name = past before_name (plain (codes " ") (codes "trial")) in
    let first = past behind_name (plain [] (codes "(")) in
    let behind = past_all first parameters_items in
    let few : groups n ≤ 40 = omega arith in
    let counts = groups-counts n (groups n) in
    record {
      first = word (codes "kernel") (place_after p []);
      is_first = refl;
      named = word (codes "trial") (place_after before_name (codes " "));
      is_named = refl;
      free = refl;
      opening = word (codes "(") (place_after behind_name []);
      is_opening = refl;
      between = words_of first parameters_items;
      params = spell_parameters first;
      distinct = ((refl, (refl, tt)), ((refl, tt), (tt, tt)));
      few = omega arith;
      closing = word (codes ")") (place_after behind []);
      is_closing = refl;
      begin = word (codes "{") (place_after (past behind (plain [] (codes ")"))) (codes " "));
      is_begin = refl;
      inside = inside;
      statements = stores-statements inside (groups_made n (groups n)) are;
      lines = omega (arith, counts.0);
      uses = omega (arith, counts.1);
      end = word (codes "}") q;
      is_end = refl;
      whole = refl;
    }

-- the text of a trial's kernel is in the language of kernels
pub kernel_text-accepted : (n : ℕ) → IsKernelText (kernel_text n) (kernel n)
unfolding place_after
kernel_text-accepted n =
    let few : groups n ≤ 40 = omega arith in
    let lines = groups_are_lines n (groups n) few in
    let counts = groups-counts n (groups n) in
    let tail = groups_text n (groups n) ++ codes "}\n" in
    let begin = place_after (past_all first_place front_items) (codes "\n") in
    let front = words_of first_place front_items in
    let (inside, q, read, are) = lines.spells begin (codes "}\n") in
    let last = word (codes "}") q in
    record {
      size = simp length-append (omega (arith, lines.size, counts.0));
      words = front ++ (inside ++ last ∷ []);
      tokens =
          script_of-words (kernel_text n)
          ∙ items-words first_place front_items (codes "\n" ++ tail) (front_ends tail) (assumption)
          ∙ ap (before front) (white-words (past_all first_place front_items) (codes "\n") tail refl ∙ read ∙ ap (before inside) (last-words q));
      kernel = spell_kernel n first_place q inside are;
    }
