-- The language of kernels: which words spell which kernel, one production after the other. How the
-- words are read is in `Reader`, `Expressions` and `Statements`; here is only what they may be.
use Rattle.std.specs.Prelude.{◌≡◌, ℕ, suc, ◌+◌, ◌≤◌, ◌<◌, max, Bool, true, false, List, [], ◌∷◌, ◌++◌, length, map, Option, Some, None, sum_by, ℤ, pos, ◌⊎◌, IsTrue, codes}
use Rattle.std.specs.List.{IsDistinct}
use Rattle.std.specs.Str.{bytes_eq}
use Rattle.vg_base.specs.Trap.{◌>>=◌}
use Rattle.vg_base.specs.declared.address.Address.{Address}
use Rattle.vg_base.specs.declared.width.Width.{Width}
use Rattle.vg_base.specs.Width.{bits_of}
use Rattle.vg_scalar.specs.declared.two_op.TwoOp.{TwoOp}
use Rattle.vg_scalar.specs.declared.shift.Shift.{Shift}
use Rattle.vg_scalar.specs.declared.resize.Resize.{Resize}
use Rattle.vg_text.specs.Number.{decimal_value}
use Rattle.vg_text.specs.Words.{Spelled}
use Rattle.vg_kernel.specs.declared.function.Function.{Function}
use Rattle.vg_kernel.specs.declared.function.Function.TheVariants as functions
use Rattle.vg_kernel.specs.declared.given.Given.{Given}
use Rattle.vg_kernel.specs.declared.given.Given.TheVariants as given
use Rattle.vg_kernel.specs.declared.parameter.KParam.{KParam}
use Rattle.vg_kernel.specs.declared.parameter.KParamKind.{KParamKind}
use Rattle.vg_kernel.specs.declared.parameter.KParamKind.TheVariants.{Pointer, Integer}
use Rattle.vg_kernel.specs.Tree.{Expression, argument, assigned, literal, load, shift, Statement, assign, store, Tree, type_of}
use Rattle.vg_kernel.specs.Words.{sized, level_of, operator_named, function_named, is_free, adjoins, offset_of, literal_of}
use Rattle.vg_kernel.specs.Names.{Names, given_as, names_of, with_name}
use Rattle.vg_kernel.specs.Nodes.{width_in, pair_node, resize_node, select_node}
use Rattle.vg_kernel.specs.Cost.{uses_of}
use Rattle.vg_kernel.specs.Script.{Words, script_of}

-- a word with this text
abbrev pub Is : Spelled → List ℕ → Type 0
Is word text = word.bytes ≡ text

-- the name of the k-th pointer
abbrev pub IsPointer : Names → Spelled → ℕ → Type 0
IsPointer names word k =
    IsTrue (is_free word.bytes) × (given_as names word.bytes ≡ Some (given.Pointer k))

-- a decimal number as a distance above or below a pointer
abbrev pub IsDistance : Bool → Spelled → ℤ → Type 0
IsDistance negative digits offset =
    (n : ℕ) × (decimal_value digits.bytes ≡ Some n) × (offset_of negative n ≡ Some offset)

-- `+ n` or `- n`
abbrev pub SpellsOffset : Spelled → Spelled → ℤ → Type 0
SpellsOffset sign digits offset =
    (Is sign (codes "+") × IsDistance false digits offset)
    ⊎ (Is sign (codes "-") × IsDistance true digits offset)

-- `p`, `p + n` or `p - n`
abbrev pub SpellsAddress : Names → Words → Address → Type 0
SpellsAddress names (p ∷ []) a = IsPointer names p a.pointer × (a.offset ≡ pos 0)
SpellsAddress names (p ∷ sign ∷ n ∷ []) a =
    IsPointer names p a.pointer × SpellsOffset sign n a.offset
SpellsAddress names _ a = ⊥

-- the value that a name stands for; a pointer is none
abbrev pub value_given : Given → Option Expression
value_given (given.Pointer k) = None
value_given (given.Argument k w) = Some (argument k w)
value_given (given.Assigned k t) = Some (assigned k t)

-- the name of a value
abbrev pub IsValue : Names → Spelled → Expression → Type 0
IsValue names word e =
    IsTrue (is_free word.bytes) × ((given_as names word.bytes >>= value_given) ≡ Some e)

-- digits and a type right after them: a number at a width
abbrev pub IsLiteral : Bool → Spelled → Spelled → Width → ℕ → Type 0
IsLiteral negative digits type w n =
    (m : ℕ)
    × (decimal_value digits.bytes ≡ Some m)
    × (adjoins digits type ≡ true)
    × Is type (sized (codes "i") w)
    × (literal_of negative w m ≡ Some n)

-- An expression, by how loose its operators may be and how many nodes it has one below the other,
-- parentheses counted. Level 0 has no operators outside of calls and parentheses, level 1 has `*`,
-- 2 `+ -`, 3 `&`, 4 `^`, and 5 `|`. On the left of an operator stands its own level, on the right
-- the next tighter one, so operators of one level nest to the left.
pub data IsExpression (names : Names) : ℕ → ℕ → Words → Expression → Type 0 where
  name : (word : Spelled) (e : Expression)
      → IsValue names word e
      → IsExpression names 0 1 (word ∷ []) e
  number : (digits type : Spelled) (w : Width) (n : ℕ)
      → IsLiteral false digits type w n
      → IsExpression names 0 1 (digits ∷ type ∷ []) (literal w n)
  negative : (sign digits type : Spelled) (w : Width) (n : ℕ)
      → Is sign (codes "-")
      → IsLiteral true digits type w n
      → IsExpression names 0 1 (sign ∷ digits ∷ type ∷ []) (literal w n)
  read : (word opening closing : Spelled) (ws : Words) (w : Width) (a : Address)
      → Is word (sized (codes "load") w)
      → Is opening (codes "(")
      → SpellsAddress names ws a
      → Is closing (codes ")")
      → IsExpression names 0 1 (word ∷ opening ∷ (ws ++ closing ∷ [])) (load w a)
  parenthesised : (opening closing : Spelled) (d : ℕ) (ws : Words) (e : Expression)
      → Is opening (codes "(")
      → IsExpression names 5 d ws e
      → Is closing (codes ")")
      → IsExpression names 0 (d + 1) (opening ∷ (ws ++ closing ∷ [])) e
  pair : (f : Function) (word opening comma closing : Spelled) (d d' : ℕ) (xs ys : Words)
      (x y e : Expression)
      → function_named word.bytes ≡ Some f
      → Is opening (codes "(")
      → IsExpression names 5 d xs x
      → Is comma (codes ",")
      → IsExpression names 5 d' ys y
      → Is closing (codes ")")
      → pair_node f x y ≡ Some e
      → IsExpression names 0 (max d d' + 1)
      (word ∷ opening ∷ (xs ++ comma ∷ (ys ++ closing ∷ []))) e
  moved : (op : Shift) (word opening comma amount closing : Spelled) (d k : ℕ) (xs : Words)
      (x : Expression) (w : Width)
      → function_named word.bytes ≡ Some (functions.Shift op)
      → Is opening (codes "(")
      → IsExpression names 5 d xs x
      → Is comma (codes ",")
      → decimal_value amount.bytes ≡ Some k
      → k < bits_of w
      → Is closing (codes ")")
      → width_in x ≡ Some w
      → IsExpression names 0 (d + 1)
      (word ∷ opening ∷ (xs ++ comma ∷ amount ∷ closing ∷ [])) (shift op w k x)
  resized : (op : Resize) (to : Width) (word opening closing : Spelled) (d : ℕ) (xs : Words)
      (x e : Expression)
      → function_named word.bytes ≡ Some (functions.Resize op to)
      → Is opening (codes "(")
      → IsExpression names 5 d xs x
      → Is closing (codes ")")
      → resize_node op to x ≡ Some e
      → IsExpression names 0 (d + 1) (word ∷ opening ∷ (xs ++ closing ∷ [])) e
  chosen : (word opening comma comma' closing : Spelled) (d d' d'' : ℕ) (cs xs ys : Words)
      (c x y e : Expression)
      → function_named word.bytes ≡ Some functions.Select
      → Is opening (codes "(")
      → IsExpression names 5 d cs c
      → Is comma (codes ",")
      → IsExpression names 5 d' xs x
      → Is comma' (codes ",")
      → IsExpression names 5 d'' ys y
      → Is closing (codes ")")
      → select_node c x y ≡ Some e
      → IsExpression names 0 (max d (max d' d'') + 1)
      (word ∷ opening ∷ (cs ++ comma ∷ (xs ++ comma' ∷ (ys ++ closing ∷ [])))) e
  tighter : (level d : ℕ) (ws : Words) (e : Expression)
      → IsExpression names level d ws e
      → IsExpression names (suc level) d ws e
  joined : (op : TwoOp) (sign : Spelled) (level d d' : ℕ) (xs ys : Words) (x y e : Expression)
      → IsExpression names (suc level) d xs x
      → operator_named sign.bytes ≡ Some op
      → level_of op ≡ suc level
      → IsExpression names level d' ys y
      → pair_node (functions.Two op) x y ≡ Some e
      → IsExpression names (suc level) (max d d' + 1) (xs ++ sign ∷ ys) e

-- an expression of at most 256 nodes one below the other
abbrev pub IsWhole : Names → Words → Expression → Type 0
IsWhole names ws e = (d : ℕ) × IsExpression names 5 d ws e × (d ≤ 256)

-- `name = expression;` with a name that was not given before, or `storeW(place, expression);` of
-- one width
abbrev pub IsStatement : Names → Words → Statement → Names → Type 0
IsStatement names words (assign e) behind =
    (word equals end : Spelled)
    × (ws : Words)
    × IsTrue (is_free word.bytes)
    × (given_as names word.bytes ≡ None)
    × Is equals (codes "=")
    × IsWhole names ws e
    × Is end (codes ";")
    × (words ≡ word ∷ equals ∷ (ws ++ end ∷ []))
    × (behind ≡ with_name names word.bytes (type_of e))
IsStatement names words (store w a e) behind =
    (word opening comma closing end : Spelled)
    × (to from : Words)
    × Is word (sized (codes "store") w)
    × Is opening (codes "(")
    × SpellsAddress names to a
    × Is comma (codes ",")
    × IsWhole names from e
    × Is closing (codes ")")
    × Is end (codes ";")
    × (width_in e ≡ Some w)
    × (words ≡ word ∷ opening ∷ (to ++ comma ∷ (from ++ closing ∷ end ∷ [])))
    × (behind ≡ names)

-- statements, one after the other, each with the names given before it
abbrev pub AreStatements : Names → Words → List Statement → Type 0
AreStatements names words [] = words ≡ []
AreStatements names words (s ∷ ss) =
    (front rest : Words)
    × (behind : Names)
    × IsStatement names front s behind
    × AreStatements behind rest ss
    × (words ≡ front ++ rest)

-- `ptr`, `noalias ptr` or a type
abbrev pub IsKind : Words → KParamKind → Type 0
IsKind words (Pointer false) = (word : Spelled) × Is word (codes "ptr") × (words ≡ word ∷ [])
IsKind words (Pointer true) =
    (first second : Spelled)
    × Is first (codes "noalias")
    × Is second (codes "ptr")
    × (words ≡ first ∷ second ∷ [])
IsKind words (Integer w) = (word : Spelled) × Is word (sized (codes "i") w) × (words ≡ word ∷ [])

-- `name: kind`
abbrev pub IsParameter : Words → KParam → Type 0
IsParameter words p =
    (word colon : Spelled)
    × (kind : Words)
    × Is word p.name
    × IsTrue (is_free p.name)
    × Is colon (codes ":")
    × IsKind kind p.kind
    × (words ≡ word ∷ colon ∷ kind)

-- after a parameter, each with a comma before it
abbrev pub AreMore : Words → List KParam → Type 0
AreMore words [] = words ≡ []
AreMore words (p ∷ ps) =
    (comma : Spelled)
    × (front rest : Words)
    × Is comma (codes ",")
    × IsParameter front p
    × AreMore rest ps
    × (words ≡ comma ∷ (front ++ rest))

-- joined by commas
abbrev pub AreParameters : Words → List KParam → Type 0
AreParameters words [] = words ≡ []
AreParameters words (p ∷ ps) =
    (front rest : Words) × IsParameter front p × AreMore rest ps × (words ≡ front ++ rest)

-- `kernel name (parameters) { statements }`, with at most 16 parameters of different names, 4,096
-- statements, and 8,192 loads and operations
pub record IsKernel (words : Words) (k : Tree) : Type 0 where
  pub first : Spelled
  pub is_first : Is first (codes "kernel")
  pub named : Spelled
  pub is_named : Is named k.name
  pub free : IsTrue (is_free k.name)
  pub opening : Spelled
  pub is_opening : Is opening (codes "(")
  pub between : Words
  pub params : AreParameters between k.params
  pub distinct : IsDistinct bytes_eq (map (λ p. p.name) k.params)
  pub few : length k.params ≤ 16
  pub closing : Spelled
  pub is_closing : Is closing (codes ")")
  pub begin : Spelled
  pub is_begin : Is begin (codes "{")
  pub inside : Words
  pub statements : AreStatements (names_of k.params) inside k.statements
  pub lines : length k.statements ≤ 4096
  pub uses : sum_by uses_of k.statements ≤ 8192
  pub end : Spelled
  pub is_end : Is end (codes "}")
  pub whole : words ≡ first ∷ named ∷ opening ∷ (between ++ closing ∷ begin ∷ (inside ++ end ∷ []))

-- a text of at most 262,144 bytes whose words spell the kernel
pub record IsKernelText (text : List ℕ) (k : Tree) : Type 0 where
  pub size : length text ≤ 262144
  pub words : Words
  pub tokens : script_of text ≡ Some words
  pub kernel : IsKernel words k
