-- Operands that are in the language are read.
use Rattle.std.proofs.Common.{◌≡◌, ℕ, Bool, true, false, List, [], ◌∷◌, ◌++◌, length, Option, Some, None, Result, Ok, Err, refl, sym, ap, subst, inl, inr}
use Rattle.std.specs.Prelude.{codes, is_some, if◌then◌else◌}
use Rattle.std.specs.Option.{option_map_or}
use Rattle.std.specs.Str.{bytes_eq}
use Rattle.std.proofs.lemmas.Bool.{lt-ltb}
use Rattle.vg_base.proofs.Bind.{bind_to}
use Rattle.vg_text.specs.Byte.{begins_digit}
use Rattle.vg_text.specs.Words.{Reading, Spelled}
use Rattle.vg_pseudo.specs.declared.operators.UnaryOp.{UnaryOp}
use Rattle.vg_pseudo.specs.declared.fault.PseudoFault.{PseudoFault}
use Rattle.vg_pseudo.specs.declared.fault.PseudoFault.TheVariants.{Shape}
use Rattle.vg_pseudo.specs.Tree.{number, unary}
use Rattle.vg_pseudo.specs.Spots.{spot_at, with_outer}
use Rattle.vg_pseudo.specs.Definitions.{Context, callee_of}
use Rattle.vg_pseudo.specs.Words.{prefix_named, function_named, number_of, is_free}
use Rattle.vg_pseudo.specs.Grammar.{Words, Is, IsName, Counts}
use Rattle.vg_pseudo.specs.Reader.{next_at, expect_at, accept_at, items_behind}
use Rattle.vg_pseudo.specs.Expressions.{Part, Inner, leaf, above_one, parenthesised_at, prefixed_at, arguments_at, function_of, function_at, linked, linked_none, call_of, counted, takes, call_at, free_at, named_at, plain_at, operand_at}
use Rattle.vg_pseudo_laws.proofs.Standing.{Reads, ◌▷◌, Reads-fewer}
use Rattle.vg_pseudo_laws.proofs.WordsAgain.{next-again, no-more, split, expect-again, accept-again, accept-not, not_text, number-begins, prefix-not, free-is, function-is, Ends, ends-text}
use Rattle.vg_pseudo_laws.proofs.ListsAgain.{Steps, ended, step, steps-again}
use Rattle.vg_pseudo_laws.proofs.FormsAgain.{GivesForm}

-- an expression of these words and this level is read, where it ends after them
abbrev pub Gives : Inner → ℕ → Words → Part → Type 0
Gives inner level ws x = (r m : Reading) → Reads ws r m → Ends level m → inner level r ≡ Ok (x, m)

-- an operand of these words is read
abbrev pub GivesOperand : Context → Inner → Words → Part → Type 0
GivesOperand context inner ws x = (r m : Reading) → Reads ws r m → Ends 0 m → operand_at context inner r ≡ Ok (x, m)

-- a list of arguments is read after `(`
abbrev pub GivesArguments : Inner → Words → List Part → Type 0
GivesArguments inner ws ps = (r m : Reading) → Reads ws r m → arguments_at inner r ≡ Ok (ps, m)

module _ (context : Context) (inner : Inner) where
  -- an operand that begins with a word that is no parenthesis
  plain-operand : (w : Spelled) (r n : Reading) (y : Result (Part × Reading) PseudoFault) → next_at r ≡ Ok (w, n) → bytes_eq w.bytes (codes "(") ≡ false → plain_at context inner w n ≡ y → operand_at context inner r ≡ y
  unfolding operand_at
  plain-operand w r n y e f g = rw (e, f) g

  pub literal-operand : (w : Spelled) (n : ℕ) → number_of w.bytes ≡ Some n → GivesOperand context inner (w ∷ []) (leaf (number (spot_at w.place) n))
  literal-operand w n is r m h end =
      let a = next-again h in
      let same = no-more a.rest in
      let digit = number-begins w.bytes n is in
      plain-operand w r a.behind _ a.next (not_text begins_digit w.bytes (codes "(") digit refl)
      (rw (prefix-not begins_digit w.bytes digit refl refl, is) (ap (λ (q : Reading). Ok (leaf (number (spot_at w.place) n), q)) same))

  named-free : (w : Spelled) (n : Reading) (y : Result (Part × Reading) PseudoFault) → is_free w.bytes ≡ true → free_at context inner w n ≡ y → named_at context inner w n ≡ y
  named-free w n y is g = subst (λ (b : Bool). (if b then free_at context inner w n else option_map_or (λ f. function_at inner f w.place n) (function_named w.bytes) (Err (Shape w.place))) ≡ y) (sym is) g

  named-function : (w : Spelled) (n : Reading) (f : _) (y : Result (Part × Reading) PseudoFault) → is_free w.bytes ≡ false → function_named w.bytes ≡ Some f → function_at inner f w.place n ≡ y → named_at context inner w n ≡ y
  named-function w n f y is k g =
      subst (λ (b : Bool). (if b then free_at context inner w n else option_map_or (λ f. function_at inner f w.place n) (function_named w.bytes) (Err (Shape w.place))) ≡ y) (sym is)
      (subst (λ (o : Option _). option_map_or (λ f. function_at inner f w.place n) o (Err (Shape w.place)) ≡ y) (sym k) g)

  plain-named : (w : Spelled) (n : Reading) (y : Result (Part × Reading) PseudoFault) → prefix_named w.bytes ≡ None → number_of w.bytes ≡ None → named_at context inner w n ≡ y → plain_at context inner w n ≡ y
  plain-named w n y p q g =
      subst (λ (o : Option UnaryOp). option_map_or (λ op. prefixed_at inner op w.place n) o (option_map_or {U = Result (Part × Reading) PseudoFault} (λ k. Ok (leaf (number (spot_at w.place) k), n)) (number_of w.bytes) (named_at context inner w n)) ≡ y) (sym p)
      (subst (λ (o : Option ℕ). option_map_or {U = Result (Part × Reading) PseudoFault} (λ k. Ok (leaf (number (spot_at w.place) k), n)) o (named_at context inner w n) ≡ y) (sym q) g)

  -- an operand that begins with a name
  free-operand : (w : Spelled) (r n : Reading) (y : Result (Part × Reading) PseudoFault) → next_at r ≡ Ok (w, n) → IsName w → free_at context inner w n ≡ y → operand_at context inner r ≡ y
  free-operand w r n y e free g =
      let f = free-is w.bytes free in
      let is : is_free w.bytes ≡ true = free in
      plain-operand w r n y e (not_text is_free w.bytes (codes "(") is refl) (plain-named w n y f.no_prefix f.no_number (named-free w n y is g))

  pub form-operand : (w : Spelled) (ws : Words) (x : Part) → IsName w → GivesForm (inner 7) w ws x → ((r m : Reading) → Reads ws r m → Ends 0 m → accept_at (codes "(") r ≡ Ok (false, r)) → GivesOperand context inner (w ∷ ws) x
  unfolding free_at
  form-operand w ws x free law round r m h end =
      let a = next-again h in
      free-operand w r a.behind _ a.next free (bind_to (accept_at (codes "(") a.behind) _ (round a.behind m a.rest end) (law a.behind m a.rest end))

  pub parenthesised-operand : (opening closing : Spelled) (xs : Words) (x : Part) → Is opening (codes "(") → Gives inner 8 xs x → Is closing (codes ")") → GivesOperand context inner (opening ∷ (xs ++ closing ∷ [])) (above_one (with_outer opening.place x.expression) x)
  unfolding operand_at parenthesised_at
  parenthesised-operand opening closing xs x opening_is law closing_is r m h end =
      let a = next-again h in
      let b = split xs a.rest in
      let c = next-again b.second in
      let same = no-more c.rest in
      let last : Ends 8 b.middle = ends-text 8 (codes ")") closing c.behind b.middle c.next closing_is refl in
      let is : bytes_eq opening.bytes (codes "(") ≡ true = ap (λ (t : List ℕ). bytes_eq t (codes "(")) opening_is in
      rw (a.next, is)
      (bind_to (inner 8 a.behind) _ (law a.behind b.middle b.first last)
      (bind_to (expect_at (codes ")") b.middle) _ (expect-again (codes ")") closing b.middle c.behind closing_is c.next) (ap (λ (q : Reading). Ok (above_one (with_outer opening.place x.expression) x, q)) same)))

  pub prefixed-operand : (op : UnaryOp) (w : Spelled) (xs : Words) (x : Part) → prefix_named w.bytes ≡ Some op → Gives inner 0 xs x → GivesOperand context inner (w ∷ xs) (above_one (unary (spot_at w.place) op x.expression) x)
  unfolding prefixed_at
  prefixed-operand op w xs x is law r m h end =
      let a = next-again h in
      plain-operand w r a.behind _ a.next (not_text (λ b. is_some (prefix_named b)) w.bytes (codes "(") (ap is_some is) refl)
      (rw is (bind_to (inner 0 a.behind) _ (law a.behind m a.rest end) refl))

  pub function-operand : (f : _) (w opening : Spelled) (ws : Words) (ps : List Part) (node : Part) → function_named w.bytes ≡ Some f → Is opening (codes "(") → GivesArguments inner ws ps → function_of f w.place ps ≡ Some node → GivesOperand context inner (w ∷ opening ∷ ws) node
  unfolding function_at
  function-operand f w opening ws ps node is opening_is law takes_them r m h end =
      let a = next-again h in
      let b = next-again a.rest in
      let some = ap is_some is in
      let k = function-is w.bytes some in
      plain-operand w r a.behind _ a.next (not_text (λ t. is_some (function_named t)) w.bytes (codes "(") some refl)
      (plain-named w a.behind _ k.no_prefix k.no_number
      (named-function w a.behind f _ k.not_free is
      (bind_to (expect_at (codes "(") a.behind) _ (expect-again (codes "(") opening a.behind b.behind opening_is b.next)
      (bind_to (arguments_at inner b.behind) _ (law b.behind m b.rest) (rw takes_them refl)))))

  pub called-operand : (w opening : Spelled) (ws : Words) (calls : ℕ) (ps : List Part) → IsName w → Is opening (codes "(") → Counts context (callee_of context.known w.bytes) calls → GivesArguments inner ws ps → takes (callee_of context.known w.bytes) (length ps) ≡ true
      → GivesOperand context inner (w ∷ opening ∷ ws) (call_of w (linked ps (linked_none calls)))
  unfolding free_at call_at
  called-operand w opening ws calls ps free opening_is counts law takes_them r m h end =
      let a = next-again h in
      let b = next-again a.rest in
      free-operand w r a.behind _ a.next free
      (bind_to (accept_at (codes "(") a.behind) _ (accept-again (codes "(") opening a.behind b.behind opening_is b.next)
      (bind_to (counted context (callee_of context.known w.bytes) w.place) _ (counted-again (callee_of context.known w.bytes) counts)
      (bind_to (arguments_at inner b.behind) _ (law b.behind m b.rest) (rw takes_them refl))))
    where
      counted-again : (callee : Option _) → Counts context callee calls → counted context callee w.place ≡ Ok calls
      counted-again (Some k) (inl is) = rw (is.0, lt-ltb k.depth 64 is.1) (ap Ok (sym is.2))
      counted-again (Some k) (inr is) = rw is.0 (ap Ok (sym is.1))
      counted-again None is = ap Ok (sym is)

-- further arguments, where no comma follows
pub record GivesMore (inner : Inner) (ws : Words) (ps : List Part) : Type 0 where
  pub begins : (r m : Reading) → Reads ws r m → Ends 8 m → Ends 8 r
  pub steps : (r m : Reading) → Reads ws r m → Ends 8 m → accept_at (codes ",") m ≡ Ok (false, m) → Steps (accept_at (codes ",")) (inner 8) ps r m

pub no-arguments : (inner : Inner) → GivesMore inner [] []
no-arguments inner = record {
  begins = λ r m h end. subst (Ends 8) (sym (no-more h)) end;
  steps = λ r m h end none. subst (λ (q : Reading). Steps (accept_at (codes ",")) (inner 8) [] q m) (sym (no-more h)) (ended m m none);
}

pub more-arguments : (inner : Inner) (comma : Spelled) (xs rest : Words) (x : Part) (ps : List Part) → Is comma (codes ",") → Gives inner 8 xs x → GivesMore inner rest ps → GivesMore inner (comma ∷ (xs ++ rest)) (x ∷ ps)
more-arguments inner comma xs rest x ps is law others = record { begins = begins; steps = steps }
  where
    begins : (r m : Reading) → Reads (comma ∷ (xs ++ rest)) r m → Ends 8 m → Ends 8 r
    begins r m h end = let a = next-again h in ends-text 8 (codes ",") comma a.behind r a.next is refl

    steps : (r m : Reading) → Reads (comma ∷ (xs ++ rest)) r m → Ends 8 m → accept_at (codes ",") m ≡ Ok (false, m) → Steps (accept_at (codes ",")) (inner 8) (x ∷ ps) r m
    steps r m h end none =
        let a = next-again h in
        let b = split xs a.rest in
        let last = others.begins b.middle m b.second end in
        let fewer = Reads-fewer (a.one ▷ b.first) in
        step r a.behind b.middle m x ps (accept-again (codes ",") comma r a.behind is a.next) (law a.behind b.middle b.first last) fewer (others.steps b.middle m b.second end none)

-- arguments and the parenthesis after them
pub arguments-again : (inner : Inner) (xs rest : Words) (x : Part) (ps : List Part) (closing : Spelled) → Gives inner 8 xs x → GivesMore inner rest ps → Is closing (codes ")") → GivesArguments inner (xs ++ (rest ++ closing ∷ [])) (x ∷ ps)
unfolding arguments_at
arguments-again inner xs rest x ps closing law others closing_is r m h =
    let a = split xs h in
    let b = split rest a.second in
    let c = next-again b.second in
    let same = no-more c.rest in
    let end : Ends 8 b.middle = ends-text 8 (codes ")") closing c.behind b.middle c.next closing_is refl in
    let none = accept-not (codes ",") closing b.middle c.behind (ap (λ (t : List ℕ). bytes_eq t (codes ",")) closing_is) c.next in
    bind_to (inner 8 r) _ (law r a.middle a.first (others.begins a.middle b.middle b.first end))
    (bind_to (items_behind (accept_at (codes ",")) (inner 8) (x ∷ []) a.middle) _ (steps-again (accept_at (codes ",")) (inner 8) (x ∷ []) (others.steps a.middle b.middle b.first end none))
    (bind_to (expect_at (codes ")") b.middle) _ (expect-again (codes ")") closing b.middle c.behind closing_is c.next) (ap (λ (q : Reading). Ok (x ∷ ps, q)) same)))
