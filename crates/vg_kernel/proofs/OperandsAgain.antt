-- Operands that are in the language are read: their single parts.
use Rattle.std.proofs.Common.{◌≡◌, ℕ, ◌+◌, ◌<◌, Bool, true, false, List, [], ◌∷◌, Option, Some, None, Result, Ok, refl, ◌∙◌, ap, inl, inr, arith}
use Rattle.std.specs.Prelude.{codes, is_some, if◌then◌else◌, ◌||◌, ◌&&◌, not}
use Rattle.std.specs.Option.{option_map}
use Rattle.std.specs.Str.{bytes_eq}
use Rattle.std.specs.List.{list_all}
use Rattle.std.proofs.lemmas.Bool.{lt-ltb, and_parts}
use Rattle.vg_base.proofs.Bind.{either_way}
use Rattle.vg_base.specs.Bind.{◌>>=◌}
use Rattle.vg_base.specs.Trap.{◌>>=◌ as ◌>>◌}
use Rattle.vg_base.specs.declared.width.Width.{Width}
use Rattle.vg_base.specs.declared.width.Width.TheVariants.{W8, W16, W32, W64}
use Rattle.vg_scalar.specs.declared.resize.Resize.TheVariants.{Sext, Zext, Trunc}
use Rattle.vg_text.specs.declared.place.Place.{Place}
use Rattle.vg_text.specs.Byte.{begins_digit, is_name_text, is_letter, is_digit}
use Rattle.vg_text.specs.Number.{decimal_value, is_decimal}
use Rattle.vg_text.specs.Words.{Reading, Spelled}
use Rattle.vg_kernel.specs.declared.fault.KernelFault.{KernelFault}
use Rattle.vg_kernel.specs.declared.function.Function.{Function}
use Rattle.vg_kernel.specs.declared.function.Function.TheVariants as functions
use Rattle.vg_kernel.specs.declared.given.Given.{Given}
use Rattle.vg_kernel.specs.declared.given.Given.TheVariants as given
use Rattle.vg_kernel.specs.Expressions.{Scan, Part, Inner, counted, judged, value_of, literal_at, closed_at, pair_at, pair_end, arguments_at, call_at, named_at, operand_at}
use Rattle.vg_kernel.specs.Grammar.{Is, IsLiteral, value_given}
use Rattle.vg_kernel.specs.Names.{Names}
use Rattle.vg_kernel.specs.Nodes.{pair_node}
use Rattle.vg_kernel.specs.Reader.{next_at}
use Rattle.vg_kernel.specs.Script.{Words, script_left}
use Rattle.vg_kernel.specs.Tree.{Expression, argument, assigned, literal}
use Rattle.vg_text.specs.Sized.{width_behind}
use Rattle.vg_kernel.specs.Words.{sized, is_reserved, is_free, first_of, plain_named, sized_named, function_named}
use Rattle.vg_kernel.proofs.OperandsFound.{at}
use Rattle.vg_kernel.proofs.Scripts.{same_text}
use Rattle.vg_kernel.proofs.Sizes.{width_behind-again, width_behind-found}
use Rattle.vg_kernel.proofs.WordsAgain.{not_text, next-again, expect-again}

-- an expression is read, and these words are left
abbrev pub Gets : Result Part KernelFault → Expression → ℕ → ℕ → Words → Type 0
Gets read e d used behind = (r : Reading) × (read ≡ Ok (record { expression = e; depth = d; scan = at r used })) × (script_left r ≡ Some behind)

pub counted-again : (place : Place) (used : ℕ) → used < 8192 → counted place used ≡ Ok (used + 1)
counted-again place used h = rw (lt-ltb used 8192 h) refl

pub judged-again : {A : Type 0} (place : Place) (used : ℕ) (node : Option A) (x : A) → used < 8192 → node ≡ Some x → judged place used node ≡ Ok (x, used + 1)
judged-again place used node x h e = rw (lt-ltb used 8192 h, e) refl

pub closed-again : (node : Expression) (depth : ℕ) (r : Reading) (used : ℕ) (closing : Spelled) (behind : Words) → Is closing (codes ")") → script_left r ≡ Some (closing ∷ behind) → Gets (closed_at node depth r used) node (depth + 1) used behind
unfolding closed_at
closed-again node depth r used closing behind is e =
    let c = expect-again (codes ")") r closing behind is e in
    (c.0, rw c.1 refl, c.2)

-- a name begins with a letter
letter-no_digit : (b : ℕ) → is_letter b ≡ true → is_digit b ≡ false
letter-no_digit b h = grind arith

pub free-no_digit : (bytes : List ℕ) → is_free bytes ≡ true → begins_digit bytes ≡ false
free-no_digit [] h = refl
free-no_digit (b ∷ bs) h =
    let name = and_parts (is_name_text (b ∷ bs)) (not (is_reserved (b ∷ bs))) h in
    letter-no_digit b ((and_parts (is_letter b) _ name.0).0)

-- a decimal number begins with a digit
test_held : (c d : Bool) (v n : ℕ) → (if c && d then Some v else None) ≡ Some n → c ≡ true
test_held true d v n e = refl
test_held false d v n e = cc

pub decimal-digit : (bytes : List ℕ) (n : ℕ) → decimal_value bytes ≡ Some n → begins_digit bytes ≡ true
unfolding decimal_value
decimal-digit [] n e = cc
decimal-digit (b ∷ bs) n e =
    let all = (and_parts _ (list_all is_digit (b ∷ bs)) (test_held (is_decimal (b ∷ bs)) _ _ n e)).1 in
    (and_parts (is_digit b) (list_all is_digit bs) all).0

-- a function is no name that may be given
or_true : (a : Bool) → (a || true) ≡ true
or_true true = refl
or_true false = refl

and_false : (a : Bool) → (a && false) ≡ false
and_false true = refl
and_false false = refl

fourth : (a b c d e g h : Bool) → d ≡ true → (a || b || c || d || e || g || h) ≡ true
fourth a b c d e g h k = rw (k, or_true (a || b || c)) refl

function-reserved : (bytes : List ℕ) → is_some (function_named bytes) ≡ true → is_reserved bytes ≡ true
unfolding is_reserved
function-reserved bytes e =
    fourth (bytes_eq bytes (codes "kernel")) (bytes_eq bytes (codes "ptr")) (bytes_eq bytes (codes "noalias")) (is_some (function_named bytes)) (is_some (width_behind (codes "i") bytes))
    (is_some (width_behind (codes "load") bytes)) (is_some (width_behind (codes "store") bytes)) e

pub function-not_free : (bytes : List ℕ) (f : Function) → function_named bytes ≡ Some f → is_free bytes ≡ false
function-not_free bytes f e = ap (λ (b : Bool). is_name_text bytes && not b) (function-reserved bytes (ap is_some e)) ∙ and_false (is_name_text bytes)

-- and no number
step : (bytes text : List ℕ) (g f : Function) (rest : Option Function) → begins_digit text ≡ false → (if bytes_eq bytes text then Some g else rest) ≡ Some f → (rest ≡ Some f → begins_digit bytes ≡ false) → begins_digit bytes ≡ false
step bytes text g f rest h e go = elim (either_way (bytes_eq bytes text) (Some g) rest e) [ inl a ↦ ap begins_digit (same_text bytes text a.0) ∙ h | inr b ↦ go b.1 ]

plain-no_digit : (bytes : List ℕ) (f : Function) → plain_named bytes ≡ Some f → begins_digit bytes ≡ false
unfolding plain_named
plain-no_digit b f e =
    step b (codes "smin") _ f _ refl e (λ e. step b (codes "smax") _ f _ refl e (λ e. step b (codes "umin") _ f _ refl e (λ e. step b (codes "umax") _ f _ refl e
    (λ e. step b (codes "eq") _ f _ refl e (λ e. step b (codes "slt") _ f _ refl e (λ e. step b (codes "ult") _ f _ refl e (λ e. step b (codes "shl") _ f _ refl e
    (λ e. step b (codes "lshr") _ f _ refl e (λ e. step b (codes "ashr") _ f _ refl e (λ e. step b (codes "select") _ f _ refl e (λ e. nothing f e)))))))))))
  where
    nothing : (f : Function) → None ≡ Some f → begins_digit b ≡ false
    nothing f e = cc

sized-no_digit : (bytes : List ℕ) (f : Function) → sized_named bytes ≡ Some f → begins_digit bytes ≡ false
sized-no_digit bytes f e = by (width_behind (codes "sext") bytes) (width_behind (codes "zext") bytes) (width_behind (codes "trunc") bytes) refl refl refl e
  where
    by : (s z t : Option Width) → width_behind (codes "sext") bytes ≡ s → width_behind (codes "zext") bytes ≡ z → width_behind (codes "trunc") bytes ≡ t
        → first_of (option_map (functions.Resize Sext) s) (first_of (option_map (functions.Resize Zext) z) (option_map (functions.Resize Trunc) t)) ≡ Some f → begins_digit bytes ≡ false
    by (Some w) z t h k l e = ap begins_digit (width_behind-found (codes "sext") bytes w h)
    by None (Some w) t h k l e = ap begins_digit (width_behind-found (codes "zext") bytes w k)
    by None None (Some w) h k l e = ap begins_digit (width_behind-found (codes "trunc") bytes w l)
    by None None None h k l e = cc

function-no_digit : (bytes : List ℕ) (f : Function) → function_named bytes ≡ Some f → begins_digit bytes ≡ false
function-no_digit bytes f e = by (plain_named bytes) refl e
  where
    by : (o : Option Function) → plain_named bytes ≡ o → first_of o (sized_named bytes) ≡ Some f → begins_digit bytes ≡ false
    by (Some g) k e = plain-no_digit bytes g k
    by None k e = sized-no_digit bytes f e

-- the name of a load
pub load-named : (w : Width) → (is_free (sized (codes "load") w) ≡ false) × (function_named (sized (codes "load") w) ≡ None)
unfolding is_reserved plain_named
load-named W8 = (refl, refl)
load-named W16 = (refl, refl)
load-named W32 = (refl, refl)
load-named W64 = (refl, refl)

-- the value of a name
pub value-again : (g : Option Given) (place : Place) (e : Expression) → (g >> value_given) ≡ Some e → value_of g place ≡ Ok e
value-again (Some (given.Pointer k)) place e h = cc
value-again (Some (given.Argument k w)) place e h = let same : argument k w ≡ e = cc in ap Ok same
value-again (Some (given.Assigned k t)) place e h = let same : assigned k t ≡ e = cc in ap Ok same
value-again None place e h = cc

-- a literal after its digits
pub literal-again : (minus : Bool) (first : Place) (digits type : Spelled) (w : Width) (n : ℕ) (r : Reading) (used : ℕ) (behind : Words) → IsLiteral minus digits type w n → script_left r ≡ Some (type ∷ behind)
    → Gets (literal_at minus first digits r used) (literal w n) 1 used behind
unfolding literal_at
literal-again minus first digits type w n r used behind (m, number, near, typed, fits) e =
    let t = next-again r type behind e in
    let width : width_behind (codes "i") type.bytes ≡ Some w = ap (width_behind (codes "i")) typed ∙ width_behind-again (codes "i") w in
    (t.0, rw (number, t.1, near, width, fits) refl, t.2)

-- the arguments of a function of two numbers
pub pair-arguments : (inner : Inner) (f : Function) (x y e : Expression) (place : Place) (r : Reading) (used : ℕ) → pair_node f x y ≡ Some e → arguments_at inner f place r used ≡ (pair_at inner r used >>= λ both. pair_end f place both.0 both.1)
pair-arguments inner (functions.Two op) x y e place r used h = refl
pair-arguments inner (functions.Compare op) x y e place r used h = refl
pair-arguments inner (functions.Shift op) x y e place r used h = cc
pair-arguments inner (functions.Resize op w) x y e place r used h = cc
pair-arguments inner functions.Select x y e place r used h = cc

-- an operand that begins with a name
pub named-again : (names : Names) (inner : Inner) (s : Scan) (w : Spelled) (r : Reading) → next_at s.reading ≡ Ok (w, r) → bytes_eq w.bytes (codes "(") ≡ false → bytes_eq w.bytes (codes "-") ≡ false → begins_digit w.bytes ≡ false
    → operand_at names inner s ≡ named_at names inner w r s.used
unfolding operand_at
named-again names inner s w r e a b c = rw (e, a, b, c) refl

pub call-again : (names : Names) (inner : Inner) (s : Scan) (word : Spelled) (r : Reading) (f : Function) → next_at s.reading ≡ Ok (word, r) → function_named word.bytes ≡ Some f → operand_at names inner s ≡ call_at inner f word.place r s.used
unfolding named_at plain_named
call-again names inner s word r f e k =
    let test : (bytes : List ℕ) → Bool = λ bytes. is_some (function_named bytes) in
    let some = ap is_some k in
    let a = not_text test word.bytes (codes "(") some refl in
    let b = not_text test word.bytes (codes "-") some refl in
    named-again names inner s word r e a b (function-no_digit word.bytes f k) ∙ rw (function-not_free word.bytes f k, k) refl
