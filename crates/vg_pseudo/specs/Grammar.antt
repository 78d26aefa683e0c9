-- The language of operation texts: which words spell which operation, one production after the other. How the words are
-- read is in `Reader`, `Expressions`, `Statements` and `Operations`; here is only what they may be.
use Rattle.std.specs.Prelude.{◌≡◌, ℕ, suc, ◌+◌, ◌≤◌, ◌<◌, max, Bool, true, false, List, [], ◌∷◌, ◌++◌, length, Option, Some, None, is_some, Ok, IsTrue, ◌⊎◌, codes}
use Rattle.vg_base.specs.declared.width.Width.{Width}
use Rattle.vg_text.specs.Words.{Reading, Spelled, word_at}
use Rattle.vg_pseudo.specs.declared.operators.UnaryOp.{UnaryOp}
use Rattle.vg_pseudo.specs.declared.operators.BinaryOp.{BinaryOp}
use Rattle.vg_pseudo.specs.declared.operation.DefineParam.{DefineParam}
use Rattle.vg_pseudo.specs.declared.definitions.Callee.{Callee}
use Rattle.vg_pseudo.specs.declared.words.Function.TheVariants as functions
use Rattle.vg_pseudo.specs.Tree.{Expression, number, name, slice, bit, element, part, unary, binary, choice, Statements, stop, assign, above, repeat, choose, way, last, pick, arm, Define, Operation}
use Rattle.vg_pseudo.specs.Spots.{spot_at, outer_of, with_outer}
use Rattle.vg_pseudo.specs.Definitions.{Context, Known, callee_of, with_callee}
use Rattle.vg_pseudo.specs.Words.{level_of, operator_named, prefix_named, function_named, element_named, number_of, is_free}
use Rattle.vg_pseudo.specs.Expressions.{Part, leaf, above_one, above_two, above_three, linked, linked_none, call_of, takes}

abbrev pub Words : Type 0
Words = List Spelled

-- a word with this text
abbrev pub Is : Spelled → List ℕ → Type 0
Is word text = word.bytes ≡ text

-- a name
abbrev pub IsName : Spelled → Type 0
IsName word = IsTrue (is_free word.bytes)

-- what a call counts for: in a DEFINE the depth of the DEFINE that is called, which is below 64; else nothing
abbrev pub Counts : Context → Option Callee → ℕ → Type 0
Counts context (Some k) calls =
    ((context.inside ≡ true) × (k.depth < 64) × (calls ≡ k.depth)) ⊎ ((context.inside ≡ false) × (calls ≡ 0))
Counts context None calls = calls ≡ 0

-- An expression, by how loose its operators may be. Level 0 has no operators outside of calls, parentheses and
-- brackets; levels 1 to 7 have those that bind as loose or tighter, and level 8 has the choice by `?` too. On
-- the left of an operator stands its own level, on the right the next tighter one, so operators of one level
-- nest to the left; but a comparison has the next tighter level on both sides. `AreMore` are further arguments,
-- each after a comma.
mutual
  pub data IsExpression (context : Context) : ℕ → Words → Part → Type 0 where
    literal : (w : Spelled) (n : ℕ)
        → number_of w.bytes ≡ Some n
        → IsExpression context 0 (w ∷ []) (leaf (number (spot_at w.place) n))
    named : (w : Spelled)
        → IsName w
        → IsExpression context 0 (w ∷ []) (leaf (name (spot_at w.place) w.bytes))
    sliced : (w opening colon closing : Spelled) (hs ls : Words) (h l : Part)
        → IsName w
        → Is opening (codes "[")
        → IsExpression context 7 hs h
        → Is colon (codes ":")
        → IsExpression context 7 ls l
        → Is closing (codes "]")
        → IsExpression context 0 (w ∷ opening ∷ (hs ++ colon ∷ (ls ++ closing ∷ [])))
        (above_two (slice (spot_at w.place) w.bytes h.expression l.expression) h l)
    indexed : (w opening closing : Spelled) (ks : Words) (k : Part)
        → IsName w
        → Is opening (codes "[")
        → IsExpression context 7 ks k
        → Is closing (codes "]")
        → IsExpression context 0 (w ∷ opening ∷ (ks ++ closing ∷ []))
        (above_one (bit (spot_at w.place) w.bytes k.expression) k)
    placed : (w dot text opening closing : Spelled) (size : Width) (ks : Words) (k : Part)
        → IsName w
        → Is dot (codes ".")
        → element_named text.bytes ≡ Some size
        → Is opening (codes "[")
        → IsExpression context 7 ks k
        → Is closing (codes "]")
        → IsExpression context 0 (w ∷ dot ∷ text ∷ opening ∷ (ks ++ closing ∷ []))
        (above_one (element (spot_at w.place) w.bytes size k.expression) k)
    parted : (w dot text : Spelled) (size : Width)
        → IsName w
        → Is dot (codes ".")
        → element_named text.bytes ≡ Some size
        → IsExpression context 0 (w ∷ dot ∷ text ∷ []) (leaf (part (spot_at w.place) w.bytes size))
    parenthesised : (opening closing : Spelled) (xs : Words) (x : Part)
        → Is opening (codes "(")
        → IsExpression context 8 xs x
        → Is closing (codes ")")
        → IsExpression context 0 (opening ∷ (xs ++ closing ∷ []))
        (above_one (with_outer opening.place x.expression) x)
    prefixed : (op : UnaryOp) (w : Spelled) (xs : Words) (x : Part)
        → prefix_named w.bytes ≡ Some op
        → IsExpression context 0 xs x
        → IsExpression context 0 (w ∷ xs) (above_one (unary (spot_at w.place) op x.expression) x)
    function_of_one : (op : UnaryOp) (w opening closing : Spelled) (xs : Words) (x : Part)
        → function_named w.bytes ≡ Some (functions.One op)
        → Is opening (codes "(")
        → IsExpression context 8 xs x
        → Is closing (codes ")")
        → IsExpression context 0 (w ∷ opening ∷ (xs ++ closing ∷ []))
        (above_one (unary (spot_at w.place) op x.expression) x)
    function_of_two : (op : BinaryOp) (w opening comma closing : Spelled) (xs ys : Words) (x y : Part)
        → function_named w.bytes ≡ Some (functions.Two op)
        → Is opening (codes "(")
        → IsExpression context 8 xs x
        → Is comma (codes ",")
        → IsExpression context 8 ys y
        → Is closing (codes ")")
        → IsExpression context 0 (w ∷ opening ∷ (xs ++ comma ∷ (ys ++ closing ∷ [])))
        (above_two (binary (spot_at w.place) op x.expression y.expression) x y)
    called : (w opening closing : Spelled) (calls : ℕ) (xs rest : Words) (x : Part) (ps : List Part)
        → IsName w
        → Is opening (codes "(")
        → Counts context (callee_of context.known w.bytes) calls
        → IsExpression context 8 xs x
        → AreMore context rest ps
        → takes (callee_of context.known w.bytes) (length (x ∷ ps)) ≡ true
        → Is closing (codes ")")
        → IsExpression context 0 (w ∷ opening ∷ (xs ++ (rest ++ closing ∷ [])))
        (call_of w (linked (x ∷ ps) (linked_none calls)))
    tighter : (level : ℕ) (xs : Words) (x : Part)
        → IsExpression context level xs x
        → IsExpression context (suc level) xs x
    joined : (op : BinaryOp) (w : Spelled) (level : ℕ) (xs ys : Words) (x y : Part)
        → IsExpression context (suc level) xs x
        → operator_named w.bytes ≡ Some op
        → level_of op ≡ suc level
        → (suc level ≡ 4 → ⊥)
        → IsExpression context level ys y
        → IsExpression context (suc level) (xs ++ w ∷ ys)
        (above_two (binary (spot_at (outer_of x.expression)) op x.expression y.expression) x y)
    compared : (op : BinaryOp) (w : Spelled) (xs ys : Words) (x y : Part)
        → IsExpression context 3 xs x
        → operator_named w.bytes ≡ Some op
        → level_of op ≡ 4
        → IsExpression context 3 ys y
        → IsExpression context 4 (xs ++ w ∷ ys)
        (above_two (binary (spot_at (outer_of x.expression)) op x.expression y.expression) x y)
    chosen : (mark colon : Spelled) (cs xs ys : Words) (c x y : Part)
        → IsExpression context 7 cs c
        → Is mark (codes "?")
        → IsExpression context 8 xs x
        → Is colon (codes ":")
        → IsExpression context 8 ys y
        → IsExpression context 8 (cs ++ mark ∷ (xs ++ colon ∷ ys))
        (above_three (choice (spot_at (outer_of c.expression)) c.expression x.expression y.expression) c x y)

  pub data AreMore (context : Context) : Words → List Part → Type 0 where
    none : AreMore context [] []
    more : (comma : Spelled) (xs rest : Words) (x : Part) (ps : List Part)
        → Is comma (codes ",")
        → IsExpression context 8 xs x
        → AreMore context rest ps
        → AreMore context (comma ∷ (xs ++ rest)) (x ∷ ps)

-- a whole expression of at most 64 nodes one below the other, parentheses counted
abbrev pub IsWhole : Context → Words → Part → Type 0
IsWhole context ws x = IsExpression context 8 ws x × (x.depth ≤ 64)

-- an index of a target, which is an expression of its own
abbrev pub IsOwnIndex : Context → Words → Part → Type 0
IsOwnIndex context ws x = IsExpression context 7 ws x × (x.depth ≤ 64)

-- the forms of target with a name, brackets or an element
abbrev pub is_target : Expression → Bool
is_target (name s n) = true
is_target (slice s n h l) = true
is_target (bit s n k) = true
is_target (element s n w k) = true
is_target (part s n w) = true
is_target _ = false

-- a target: it begins with its name, so that no parentheses stand around it, and each index is an expression of its own
abbrev pub IsTarget : Context → Spelled → Words → Part → Type 0
IsTarget context w rest x =
    IsName w × IsExpression context 0 (w ∷ rest) x × IsTrue (is_target x.expression) × (x.depth ≤ 65)

-- the words do not begin with this one
abbrev pub BeginsNot : List ℕ → Words → Type 0
BeginsNot text [] = Unit {0}
BeginsNot text (w ∷ ws) = Is w text → ⊥

-- Statements that nest at most so deep, with the greatest depth of the DEFINEs that they call. The ways of an IF stand
-- after its first word; `ELSE IF` goes on with them, so that what stands after the last ELSE does not begin with IF.
mutual
  pub data AreStatements (context : Context) : ℕ → Words → Statements → ℕ → Type 0 where
    done : (room : ℕ) → AreStatements context room [] stop 0
    assigned : (room calls : ℕ) (w sign : Spelled) (ts es rest : Words) (t e : Part) (s : Statements)
        → IsTarget context w ts t
        → Is sign (codes ":=")
        → IsWhole context es e
        → AreStatements context (suc room) rest s calls
        → AreStatements context (suc room) (w ∷ (ts ++ sign ∷ (es ++ rest)))
        (assign w.place t.expression e.expression s) (max (max t.calls e.calls) calls)
    assigned_above : (room calls : ℕ) (w opening greatest colon closing sign : Spelled) (ls es rest : Words)
        (l e : Part) (s : Statements)
        → IsName w
        → Is opening (codes "[")
        → Is greatest (codes "MAX")
        → Is colon (codes ":")
        → IsOwnIndex context ls l
        → Is closing (codes "]")
        → Is sign (codes ":=")
        → IsWhole context es e
        → AreStatements context (suc room) rest s calls
        → AreStatements context (suc room)
        (w ∷ opening ∷ greatest ∷ colon ∷ (ls ++ closing ∷ sign ∷ (es ++ rest)))
        (above w.place w.bytes l.expression e.expression s) (max (max l.calls e.calls) calls)
    repeated : (room calls calls' : ℕ) (w variable sign to closing : Spelled) (xs ys body rest : Words)
        (x y : Part) (s t : Statements)
        → Is w (codes "FOR")
        → IsName variable
        → Is sign (codes ":=")
        → IsWhole context xs x
        → Is to (codes "to")
        → IsWhole context ys y
        → AreStatements context room body s calls
        → Is closing (codes "ENDFOR")
        → AreStatements context (suc room) rest t calls'
        → AreStatements context (suc room)
        (w ∷ variable ∷ sign ∷ (xs ++ to ∷ (ys ++ (body ++ closing ∷ rest))))
        (repeat w.place variable.bytes x.expression y.expression s t)
        (max (max (max x.calls y.calls) calls) calls')
    chosen_way : (room calls calls' : ℕ) (w closing : Spelled) (inside rest : Words) (ways s : Statements)
        → Is w (codes "IF")
        → AreWays context room inside ways calls
        → Is closing (codes "FI")
        → AreStatements context (suc room) rest s calls'
        → AreStatements context (suc room) (w ∷ (inside ++ closing ∷ rest)) (choose ways s) (max calls calls')
    picked_arm : (room calls calls' : ℕ) (w of closing : Spelled) (es inside rest : Words) (e : Part)
        (arms s : Statements)
        → Is w (codes "CASE")
        → IsWhole context es e
        → Is of (codes "OF")
        → AreArms context room inside arms calls
        → Is closing (codes "ESAC")
        → AreStatements context (suc room) rest s calls'
        → AreStatements context (suc room) (w ∷ (es ++ of ∷ (inside ++ closing ∷ rest)))
        (pick e.expression arms s) (max (max e.calls calls) calls')

  pub data AreWays (context : Context) : ℕ → Words → Statements → ℕ → Type 0 where
    last_way : (room calls : ℕ) (es body : Words) (e : Part) (s : Statements)
        → IsWhole context es e
        → AreStatements context room body s calls
        → AreWays context room (es ++ body) (way e.expression s (last stop)) (max e.calls calls)
    way_and_else : (room calls calls' : ℕ) (other : Spelled) (es body rest : Words) (e : Part) (s t : Statements)
        → IsWhole context es e
        → AreStatements context room body s calls
        → Is other (codes "ELSE")
        → BeginsNot (codes "IF") rest
        → AreStatements context room rest t calls'
        → AreWays context room (es ++ (body ++ other ∷ rest)) (way e.expression s (last t))
        (max (max e.calls calls) calls')
    way_and_more : (room calls calls' : ℕ) (other again : Spelled) (es body rest : Words) (e : Part) (s ways : Statements)
        → IsWhole context es e
        → AreStatements context room body s calls
        → Is other (codes "ELSE")
        → Is again (codes "IF")
        → AreWays context room rest ways calls'
        → AreWays context room (es ++ (body ++ other ∷ again ∷ rest)) (way e.expression s ways)
        (max (max e.calls calls) calls')

  pub data AreArms (context : Context) : ℕ → Words → Statements → ℕ → Type 0 where
    no_arm : (room : ℕ) → AreArms context room [] stop 0
    arm_and_more : (room calls calls' n : ℕ) (w colon : Spelled) (body rest : Words) (s arms : Statements)
        → number_of w.bytes ≡ Some n
        → Is colon (codes ":")
        → AreStatements context room body s calls
        → AreArms context room rest arms calls'
        → AreArms context room (w ∷ colon ∷ (body ++ rest)) (arm n s arms) (max calls calls')

-- `name`, or `name[high:0]`
abbrev pub IsParam : Words → DefineParam → Type 0
IsParam (w ∷ []) p = IsName w × Is w p.name × (p.high ≡ None)
IsParam (w ∷ opening ∷ high ∷ colon ∷ low ∷ closing ∷ []) p =
    IsName w
    × Is w p.name
    × Is opening (codes "[")
    × (number_of high.bytes ≡ p.high)
    × IsTrue (is_some p.high)
    × Is colon (codes ":")
    × (number_of low.bytes ≡ Some 0)
    × Is closing (codes "]")
IsParam _ p = ⊥

-- further parameters, each after a comma
abbrev pub AreMoreParams : Words → List DefineParam → Type 0
AreMoreParams words [] = words ≡ []
AreMoreParams words (p ∷ ps) =
    (comma : Spelled)
    × (front rest : Words)
    × Is comma (codes ",")
    × IsParam front p
    × AreMoreParams rest ps
    × (words ≡ comma ∷ (front ++ rest))

-- one parameter or more
abbrev pub AreParams : Words → List DefineParam → Type 0
AreParams words [] = ⊥
AreParams words (p ∷ ps) =
    (front rest : Words)
    × IsParam front p
    × AreMoreParams rest ps
    × (words ≡ front ++ rest)

-- `DEFINE name (parameters) { statements RETURN expression }`, and its depth
pub record IsDefine (known : List Known) (words : Words) (d : Define) (depth : ℕ) : Type 0 where
  pub first : Spelled
  pub is_first : Is first (codes "DEFINE")
  pub named : Spelled
  pub is_name : IsName named
  pub is_named : Is named d.name
  pub opening : Spelled
  pub is_opening : Is opening (codes "(")
  pub between : Words
  pub params : AreParams between d.params
  pub closing : Spelled
  pub is_closing : Is closing (codes ")")
  pub begin : Spelled
  pub is_begin : Is begin (codes "{")
  pub inside : Words
  pub calls : ℕ
  pub statements : AreStatements (record { known = known; inside = true }) 64 inside d.body calls
  pub return : Spelled
  pub is_return : Is return (codes "RETURN")
  pub back : Words
  pub answer : Part
  pub is_answer : IsWhole (record { known = known; inside = true }) back answer
  pub same : answer.expression ≡ d.answer
  pub end : Spelled
  pub is_end : Is end (codes "}")
  pub deep : depth ≡ max calls answer.calls + 1
  pub whole : words ≡ first ∷ named ∷ opening ∷ (between ++ closing ∷ begin ∷ (inside ++ return ∷ (back ++ end ∷ [])))

-- DEFINEs one after the other, each with those known before it, and what is known after them
abbrev pub AreDefines : List Known → Words → List Define → List Known → Type 0
AreDefines known words [] behind = (words ≡ []) × (behind ≡ known)
AreDefines known words (d ∷ ds) behind =
    (front rest : Words)
    × (depth : ℕ)
    × IsDefine known front d depth
    × AreDefines (with_callee known d.name (record { arity = length d.params; depth = depth })) rest ds behind
    × (words ≡ front ++ rest)

-- an operation, with the END that closes it
pub record IsOperation (words : Words) (o : Operation) : Type 0 where
  pub front : Words
  pub known : List Known
  pub defines : AreDefines [] front o.defines known
  pub inside : Words
  pub calls : ℕ
  pub statements : AreStatements (record { known = known; inside = false }) 64 inside o.body calls
  pub end : Spelled
  pub is_end : Is end (codes "END")
  pub whole : words ≡ front ++ (inside ++ end ∷ [])

-- these words stand between the two moments of reading a text
unfoldable pub Stand : Words → Reading → Reading → Type 0
Stand [] r q = r ≡ q
Stand (w ∷ ws) r q = (m : Reading) × (word_at r ≡ Ok (w, m)) × (w.is_end ≡ false) × Stand ws m q

-- words at the front of what is left spell the operation, and this is left after them
abbrev pub IsOperationText : Reading → Operation → Reading → Type 0
IsOperationText r o q = (words : Words) × Stand words r q × IsOperation words o
