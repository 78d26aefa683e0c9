-- Words that stand next are read, and what may end an expression.
use Rattle.std.proofs.Common.{◌≡◌, ℕ, suc, ◌<◌, ◌≤◌, Bool, true, false, List, [], ◌∷◌, ◌++◌, Option, Some, None, Ok, refl, sym, ◌∙◌, ap, subst, inl, inr, arith}
use Rattle.std.specs.Prelude.{codes, is_some, not, ◌&&◌, ◌||◌, ◌==◌, take, length}
use Rattle.std.specs.Str.{bytes_eq}
use Rattle.std.specs.List.{list_all}
use Rattle.std.proofs.lemmas.Slice.Eq.{bytes_eq-Decides}
use Rattle.std.proofs.lemmas.Bool.{cases_Bool}
use Rattle.vg_text.specs.Byte.{is_digit, begins_digit, is_letter, is_name_text}
use Rattle.vg_text.specs.Number.{decimal_value}
use Rattle.vg_text.specs.Words.{Reading, Spelled}
use Rattle.vg_pseudo.specs.declared.operators.BinaryOp.{BinaryOp}
use Rattle.vg_pseudo.specs.Grammar.{Words, Is, IsName, Stand}
use Rattle.vg_pseudo.specs.Reader.{or_token, next_at, expect_at, accept_at, name_at}
use Rattle.vg_text.specs.Sized.{width_behind}
use Rattle.vg_pseudo.specs.Words.{level_of, operator_named, prefix_named, function_named, number_of, is_free, is_reserved, is_statement_word, is_header_word, is_operator_word}
use Rattle.vg_pseudo.proofs.Taking.{same_text}
use Rattle.vg_pseudo_laws.proofs.Standing.{Reads, no-words}

-- a word stands next, and these after it
pub record Next (w : Spelled) (ws : Words) (r m : Reading) : Type 0 where
  pub behind : Reading
  pub next : next_at r ≡ Ok (w, behind)
  pub one : Reads (w ∷ []) r behind
  pub rest : Reads ws behind m

next-stands : (w : Spelled) (ws : Words) (r m : Reading) → Stand (w ∷ ws) r m → Next w ws r m
unfolding Stand
next-stands w ws r m (n, read, some, rest) = record { behind = n; next = ap or_token read; one = record { stand = (n, read, some, refl) }; rest = record { stand = rest } }

pub next-again : {w : Spelled} {ws : Words} {r m : Reading} → Reads (w ∷ ws) r m → Next w ws r m
next-again {w} {ws} {r} {m} h = next-stands w ws r m h.stand

-- nothing stands between
pub no-more : {r m : Reading} → Reads [] r m → r ≡ m
unfolding Stand
no-more h = h.stand

-- words, and those after them
pub record Parts (ws vs : Words) (r m : Reading) : Type 0 where
  pub middle : Reading
  pub first : Reads ws r middle
  pub second : Reads vs middle m

split-stand : (ws vs : Words) (r m : Reading) → Stand (ws ++ vs) r m → Parts ws vs r m
unfolding Stand
split-stand [] vs r m h = record { middle = r; first = no-words r; second = record { stand = h } }
split-stand (w ∷ ws) vs r m (n, read, some, rest) = let p = split-stand ws vs n m rest in record { middle = p.middle; first = record { stand = (n, read, some, p.first.stand) }; second = p.second }

pub split : (ws : Words) {vs : Words} {r m : Reading} → Reads (ws ++ vs) r m → Parts ws vs r m
split ws {vs} {r} {m} h = split-stand ws vs r m h.stand

-- a text tests as itself
is_text : (w : Spelled) (text : List ℕ) → Is w text → bytes_eq w.bytes text ≡ true
is_text w text is = (bytes_eq-Decides w.bytes text).1 is

-- this very word
pub expect-again : (text : List ℕ) (w : Spelled) (r n : Reading) → Is w text → next_at r ≡ Ok (w, n) → expect_at text r ≡ Ok (w, n)
expect-again text w r n is e = rw (e, is_text w text is) refl

pub accept-again : (text : List ℕ) (w : Spelled) (r n : Reading) → Is w text → next_at r ≡ Ok (w, n) → accept_at text r ≡ Ok (true, n)
accept-again text w r n is e = rw (e, is_text w text is) refl

pub accept-not : (text : List ℕ) (w : Spelled) (r n : Reading) → bytes_eq w.bytes text ≡ false → next_at r ≡ Ok (w, n) → accept_at text r ≡ Ok (false, r)
accept-not text w r n is e = rw (e, is) refl

pub name-again : (w : Spelled) (r n : Reading) → IsName w → next_at r ≡ Ok (w, n) → name_at r ≡ Ok (w, n)
name-again w r n is e = rw (e, is) refl

-- a text that a test tells from another is not that
pub not_text : (p : List ℕ → Bool) (bytes text : List ℕ) → p bytes ≡ true → p text ≡ false → bytes_eq bytes text ≡ false
not_text p bytes text t f = elim (cases_Bool (bytes_eq bytes text)) [ inl e ↦ absurd (let same : false ≡ true = sym f ∙ ap p (sym (same_text bytes text e)) ∙ t in cc) | inr e ↦ e ]

pub and-left : (a b : Bool) → (a && b) ≡ true → a ≡ true
and-left true b e = refl
and-left false b e = cc

pub and-right : (a b : Bool) → (a && b) ≡ true → b ≡ true
and-right true b e = e
and-right false b e = cc

or-third : (a b c d : Bool) → (a || b || c || d) ≡ false → c ≡ false
or-third true b c d e = cc
or-third false true c d e = cc
or-third false false true d e = cc
or-third false false false d e = refl

or-left : (a b : Bool) → (a || b) ≡ false → a ≡ false
or-left true b e = cc
or-left false b e = refl

not-true : (a : Bool) → not a ≡ true → a ≡ false
not-true true e = cc
not-true false e = refl

pub is_none : {A : Type 0} (o : Option A) → is_some o ≡ false → o ≡ None
is_none (Some x) e = cc
is_none None e = refl

and_false : (a b : Bool) → (a && (false && b)) ≡ false
and_false true b = refl
and_false false b = refl

-- what a number begins with
pub number-digit : (bytes : List ℕ) → begins_digit bytes ≡ false → number_of bytes ≡ None
unfolding decimal_value
number-digit [] e = refl
number-digit (b ∷ bs) e =
    let other : bytes_eq (take 2 (b ∷ bs)) (codes "0x") ≡ false = not_text (λ text. not (begins_digit text)) (take 2 (b ∷ bs)) (codes "0x") (ap not e) refl in
    rw (other, e, and_false (not (length (b ∷ bs) == 0)) (list_all is_digit bs)) refl

pub number-begins : (bytes : List ℕ) (n : ℕ) → number_of bytes ≡ Some n → begins_digit bytes ≡ true
number-begins bytes n e = elim (cases_Bool (begins_digit bytes)) [ inl t ↦ t | inr f ↦ absurd (let none = number-digit bytes f in let bad : None ≡ Some n = sym none ∙ e in cc) ]

-- a number is no operator
pub number-operator : (bytes : List ℕ) → begins_digit bytes ≡ true → operator_named bytes ≡ None
number-operator bytes t =
    let no : (text : List ℕ) → begins_digit text ≡ false → bytes_eq bytes text ≡ false = λ text f. not_text begins_digit bytes text t f in
    rw (no (codes "OR") refl, no (codes "XOR") refl, no (codes "AND") refl, no (codes "*") refl, no (codes "==") refl, no (codes "!=") refl, no (codes "<") refl, no (codes "<=") refl, no (codes ">") refl, no (codes ">=") refl, no (codes "<<") refl, no (codes ">>") refl, no (codes "+") refl, no (codes "-") refl) refl

pub prefix-not : (p : List ℕ → Bool) (bytes : List ℕ) → p bytes ≡ true → p (codes "NOT") ≡ false → p (codes "-") ≡ false → prefix_named bytes ≡ None
prefix-not p bytes t f g = rw (not_text p bytes (codes "NOT") t f, not_text p bytes (codes "-") t g) refl

-- nor a function
width-not : (stem bytes : List ℕ) → bytes_eq (take (length stem) bytes) stem ≡ false → width_behind stem bytes ≡ None
width-not stem bytes e = rw e refl

number-function : (bytes : List ℕ) → begins_digit bytes ≡ true → function_named bytes ≡ None
number-function [] h = cc
number-function (c ∷ cs) h =
    let no : (text : List ℕ) → begins_digit text ≡ false → bytes_eq (c ∷ cs) text ≡ false = λ text f. not_text begins_digit (c ∷ cs) text h f in
    let sized : (stem : List ℕ) → begins_digit (take (length stem) (c ∷ cs)) ≡ true → begins_digit stem ≡ false → width_behind stem (c ∷ cs) ≡ None = λ stem t f. width-not stem (c ∷ cs) (not_text begins_digit (take (length stem) (c ∷ cs)) stem t f) in
    rw (no (codes "ABS") refl, no (codes "Signed") refl, no (codes "MIN") refl, no (codes "MAX") refl, sized (codes "SignExtend") h refl, sized (codes "ZeroExtend") h refl, sized (codes "SaturateU") h refl, sized (codes "Saturate") h refl, sized (codes "Truncate") h refl) refl

or-fourth : (a b c d : Bool) → d ≡ true → (a || b || c || d) ≡ true
or-fourth true b c d e = refl
or-fourth false true c d e = refl
or-fourth false false true d e = refl
or-fourth false false false d e = e

and-not : (a b : Bool) → b ≡ true → (a && not b) ≡ false
and-not true b e = ap not e
and-not false b e = refl

-- a function is no name, no prefix and no number
pub record Named (bytes : List ℕ) : Type 0 where
  pub not_free : is_free bytes ≡ false
  pub no_prefix : prefix_named bytes ≡ None
  pub no_number : number_of bytes ≡ None

pub function-is : (bytes : List ℕ) → is_some (function_named bytes) ≡ true → Named bytes
function-is bytes h =
    let test : List ℕ → Bool = λ b. is_some (function_named b) in
    record {
      not_free = and-not (is_name_text bytes) (is_reserved bytes) (or-fourth (is_statement_word bytes) (is_header_word bytes) (is_operator_word bytes) (is_some (function_named bytes)) h);
      no_prefix = prefix-not test bytes h refl refl;
      no_number = elim (cases_Bool (begins_digit bytes)) [
        | inl t ↦ absurd (let none = number-function bytes t in let bad : false ≡ true = sym (ap is_some none) ∙ h in cc)
        | inr f ↦ number-digit bytes f
      ];
    }

-- a name is no number, no operator and no function
pub record Free (bytes : List ℕ) : Type 0 where
  pub no_operator : operator_named bytes ≡ None
  pub no_prefix : prefix_named bytes ≡ None
  pub no_number : number_of bytes ≡ None

letter-digit : (b : ℕ) → is_letter b ≡ true → is_digit b ≡ false
letter-digit b h = grind arith

name-digit : (bytes : List ℕ) → is_name_text bytes ≡ true → begins_digit bytes ≡ false
name-digit [] h = refl
name-digit (b ∷ bs) h = letter-digit b (and-left (is_letter b) _ h)

operator-free : (bytes : List ℕ) → is_reserved bytes ≡ false → is_some (operator_named bytes) ≡ false
operator-free bytes e = or-left (is_some (operator_named bytes)) (is_some (prefix_named bytes)) (or-third (is_statement_word bytes) (is_header_word bytes) (is_operator_word bytes) (is_some (function_named bytes)) e)

pub free-is : (bytes : List ℕ) → is_free bytes ≡ true → Free bytes
free-is bytes h =
    let reserved = not-true (is_reserved bytes) (and-right (is_name_text bytes) (not (is_reserved bytes)) h) in
    record {
      no_operator = is_none (operator_named bytes) (operator-free bytes reserved);
      no_prefix = prefix-not is_free bytes h refl refl;
      no_number = number-digit bytes (name-digit bytes (and-left (is_name_text bytes) (not (is_reserved bytes)) h));
    }

-- What may stand after an expression of a level.
pub record Ends (level : ℕ) (m : Reading) : Type 0 where
  pub word : Spelled
  pub behind : Reading
  pub next : next_at m ≡ Ok (word, behind)
  pub loose : (op : BinaryOp) → operator_named word.bytes ≡ Some op → level < level_of op
  pub mark : level ≡ 8 → bytes_eq word.bytes (codes "?") ≡ false
  pub round : bytes_eq word.bytes (codes "(") ≡ false
  pub square : bytes_eq word.bytes (codes "[") ≡ false
  pub dot : bytes_eq word.bytes (codes ".") ≡ false

pub ends-tighter : (level : ℕ) (m : Reading) → Ends (suc level) m → level ≤ 7 → Ends level m
ends-tighter level m h few = record { word = h.word; behind = h.behind; next = h.next; loose = λ op e. (let l = h.loose op e in omega arith); mark = λ e. absurd (omega arith); round = h.round; square = h.square; dot = h.dot }

-- what ends an expression of any level
abbrev pub stops : List ℕ → Bool
stops b = not (is_some (operator_named b)) && (not (bytes_eq b (codes "?")) && (not (bytes_eq b (codes "(")) && (not (bytes_eq b (codes "[")) && not (bytes_eq b (codes ".")))))

ends-stop : (level : ℕ) (v : Spelled) (n m : Reading) → next_at m ≡ Ok (v, n) → operator_named v.bytes ≡ None → bytes_eq v.bytes (codes "?") ≡ false → bytes_eq v.bytes (codes "(") ≡ false → bytes_eq v.bytes (codes "[") ≡ false → bytes_eq v.bytes (codes ".") ≡ false → Ends level m
ends-stop level v n m e none a b c d = record { word = v; behind = n; next = e; loose = λ op k. absurd (let bad : None ≡ Some op = sym none ∙ k in cc); mark = λ k. a; round = b; square = c; dot = d }

-- a word of a text
pub ends-text : (level : ℕ) (text : List ℕ) (v : Spelled) (n m : Reading) → next_at m ≡ Ok (v, n) → Is v text → stops text ≡ true → Ends level m
ends-text level text v n m e is s =
    let t : stops v.bytes ≡ true = ap stops is ∙ s in
    let a = and-right (not (is_some (operator_named v.bytes))) _ t in
    let b = and-right (not (bytes_eq v.bytes (codes "?"))) _ a in
    let c = and-right (not (bytes_eq v.bytes (codes "("))) _ b in
    ends-stop level v n m e (is_none (operator_named v.bytes) (not-true _ (and-left _ _ t))) (not-true _ (and-left _ _ a)) (not-true _ (and-left _ _ b)) (not-true _ (and-left _ _ c)) (not-true _ (and-right _ _ c))

pub ends-name : (level : ℕ) (v : Spelled) (n m : Reading) → next_at m ≡ Ok (v, n) → is_free v.bytes ≡ true → Ends level m
ends-name level v n m e h = (let no : (text : List ℕ) → is_free text ≡ false → bytes_eq v.bytes text ≡ false = λ text f. not_text is_free v.bytes text h f in ends-stop level v n m e (free-is v.bytes h).no_operator (no (codes "?") refl) (no (codes "(") refl) (no (codes "[") refl) (no (codes ".") refl))

pub ends-number : (level : ℕ) (v : Spelled) (k : ℕ) (n m : Reading) → next_at m ≡ Ok (v, n) → number_of v.bytes ≡ Some k → Ends level m
ends-number level v k n m e h =
    let digit = number-begins v.bytes k h in
    let no : (text : List ℕ) → begins_digit text ≡ false → bytes_eq v.bytes text ≡ false = λ text f. not_text begins_digit v.bytes text digit f in
    ends-stop level v n m e (number-operator v.bytes digit) (no (codes "?") refl) (no (codes "(") refl) (no (codes "[") refl) (no (codes ".") refl)

-- an operator
pub ends-operator : (level : ℕ) (op : BinaryOp) (v : Spelled) (n m : Reading) → next_at m ≡ Ok (v, n) → operator_named v.bytes ≡ Some op → level < level_of op → Ends level m
ends-operator level op v n m e is l =
    let some : (text : List ℕ) → is_some (operator_named text) ≡ false → bytes_eq v.bytes text ≡ false = λ text f. not_text (λ b. is_some (operator_named b)) v.bytes text (ap is_some is) f in
    record {
      word = v;
      behind = n;
      next = e;
      loose = λ o k. (let same : op ≡ o = (let both : Some op ≡ Some o = sym is ∙ k in cc) in subst (λ (p : BinaryOp). level < level_of p) same l);
      mark = λ k. some (codes "?") refl;
      round = some (codes "(") refl;
      square = some (codes "[") refl;
      dot = some (codes ".") refl;
    }

-- `?` after a condition
pub ends-mark : (v : Spelled) (n m : Reading) → next_at m ≡ Ok (v, n) → Is v (codes "?") → Ends 7 m
ends-mark v n m e is =
    let none : operator_named v.bytes ≡ None = ap operator_named is in
    record {
      word = v;
      behind = n;
      next = e;
      loose = λ op k. absurd (let bad : None ≡ Some op = sym none ∙ k in cc);
      mark = λ k. absurd (omega arith);
      round = ap (λ (b : List ℕ). bytes_eq b (codes "(")) is;
      square = ap (λ (b : List ℕ). bytes_eq b (codes "[")) is;
      dot = ap (λ (b : List ℕ). bytes_eq b (codes ".")) is;
    }
