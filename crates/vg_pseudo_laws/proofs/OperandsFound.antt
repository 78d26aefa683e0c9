-- What is read as an operand is in the language.
use Rattle.std.proofs.Common.{◌≡◌, ℕ, suc, ◌+◌, ◌≤◌, true, false, List, [], ◌∷◌, ◌++◌, length, Option, Some, None, Result, Ok, Err, refl, sym, ◌∙◌, ap, subst, inl, inr, arith, append-nil}
use Rattle.std.specs.Prelude.{codes, max, is_some, nat_lt}
use Rattle.std.specs.Option.{option_map_or}
use Rattle.std.specs.Str.{bytes_eq}
use Rattle.std.proofs.lemmas.Bool.{ltb-true}
use Rattle.vg_base.specs.Bind.{or_fault}
use Rattle.vg_base.proofs.Bind.{bind_ok, tested_ok, either_way}
use Rattle.vg_text.specs.declared.place.Place.{Place}
use Rattle.vg_text.specs.Number.{decimal_value}
use Rattle.vg_text.specs.Words.{Reading, Spelled}
use Rattle.vg_pseudo.specs.declared.operators.UnaryOp.{UnaryOp}
use Rattle.vg_pseudo.specs.declared.fault.PseudoFault.{PseudoFault}
use Rattle.vg_pseudo.specs.declared.fault.PseudoFault.TheVariants.{Shape, NestingTooDeep}
use Rattle.vg_pseudo.specs.Tree.{number}
use Rattle.vg_pseudo.specs.Spots.{spot_at}
use Rattle.vg_pseudo.specs.Definitions.{Context, callee_of}
use Rattle.vg_pseudo.specs.Words.{prefix_named, function_named, number_of, is_free}
use Rattle.vg_pseudo.specs.Grammar.{Words, Is, IsName, Counts, IsExpression, literal, parenthesised, prefixed, function_of_one, function_of_two, called, AreMore, none, more}
use Rattle.vg_pseudo.specs.Reader.{next_at, expect_at, accept_at, items_behind}
use Rattle.vg_pseudo.specs.Expressions.{Part, Inner, form_at, leaf, parenthesised_at, prefixed_at, arguments_at, function_of, function_at, linked, linked_none, call_of, counted, takes, call_at, free_at, named_at, plain_at, operand_at}
use Rattle.vg_pseudo.proofs.Functions.{function_of-found}
use Rattle.vg_pseudo.proofs.Taking.{ok_once}
use Rattle.vg_pseudo_laws.proofs.Standing.{Reads, ◌▷◌, FoundWord, fault-some, true_fact, this-word, tested-found, expect-found, accept-found}
use Rattle.vg_pseudo_laws.proofs.ListsFound.{FoundItem, Many, nothing, another, SoundItems, items-found}
use Rattle.vg_pseudo_laws.proofs.FormsFound.{Found, Sound, form-found}

-- a list of further arguments with one more before
abbrev MoreArguments : Context → Words → Part → Type 0
MoreArguments context ws x = (rest : Words) (ps : List Part) → AreMore context rest ps → AreMore context (ws ++ rest) (x ∷ ps)

-- Arguments were read, and the parenthesis after them.
record FoundArguments (context : Context) (room : ℕ) (r : Reading) (x : List Part × Reading) : Type 0 where
  first : Words
  part : Part
  is_first : IsExpression context 8 first part
  deep : part.depth ≤ room
  rest : Words
  parts : List Part
  are : AreMore context rest parts
  all_deep : (calls : ℕ) → (linked parts (linked_none calls)).depth ≤ room
  closing : Spelled
  is_closing : Is closing (codes ")")
  reads : Reads (first ++ (rest ++ closing ∷ [])) r x.1
  same : x.0 ≡ part ∷ parts

module _ (context : Context) (room : ℕ) (inner : Inner) (sound : Sound context room inner) where
  -- an argument after a comma
  abbrev OneArgument : Words → Part → Type 0
  OneArgument ws x = MoreArguments context ws x × (x.depth ≤ room)

  arguments-sound : SoundItems OneArgument (accept_at (codes ",")) (inner 8)
  arguments-sound = record { goes = goes; stays = stays }
    where
      goes : (r q : Reading) (x : Part × Reading) → accept_at (codes ",") r ≡ Ok (true, q) → inner 8 q ≡ Ok x → FoundItem OneArgument r x
      goes r q x e h =
          elim (accept-found 44 [] r (true, q) e) [
            | inl comma ↦
                let f = sound 8 q x h in
                record {
                  first = comma.1.word;
                  rest = f.words;
                  is = (λ rest ps are. more comma.1.word f.words rest x.0 ps comma.1.is f.is are, f.deep);
                  reads = comma.1.reads ▷ f.reads;
                }
            | inr absent ↦ absurd (let bad = absent.0 in cc)
          ]

      stays : (r q : Reading) → accept_at (codes ",") r ≡ Ok (false, q) → q ≡ r
      stays r q e =
          elim (accept-found 44 [] r (false, q) e) [
            | inl comma ↦ absurd (let bad = comma.0 in cc)
            | inr absent ↦ absent.1
          ]

  are_arguments : {ws : Words} {ps : List Part} → Many OneArgument ws ps → AreMore context ws ps
  are_arguments nothing = none
  are_arguments (another ws vs x xs one rest) = one.0 vs xs (are_arguments rest)

  are_deep : (calls : ℕ) {ws : Words} {ps : List Part} → Many OneArgument ws ps → (linked ps (linked_none calls)).depth ≤ room
  unfolding linked
  are_deep calls nothing = omega arith
  are_deep calls (another ws vs x xs one rest) = let h = are_deep calls rest in let d = one.1 in omega arith

  arguments-found : (r : Reading) (x : List Part × Reading) → arguments_at inner r ≡ Ok x → FoundArguments context room r x
  unfolding arguments_at
  arguments-found r x e =
      let a = bind_ok (inner 8 r) _ e in
      let b = bind_ok (items_behind (accept_at (codes ",")) (inner 8) (a.0.0 ∷ []) a.0.1) _ a.2 in
      let c = bind_ok (expect_at (codes ")") b.0.1) _ b.2 in
      let f = sound 8 r a.0 a.1 in
      let g = items-found OneArgument (accept_at (codes ",")) (inner 8) arguments-sound (a.0.0 ∷ []) a.0.1 b.0 b.1 in
      let closing = expect-found 41 [] b.0.1 c.0 c.1 in
      subst (FoundArguments context room r) (ok_once _ x c.2)
      (record {
        first = f.words;
        part = a.0.0;
        is_first = f.is;
        deep = f.deep;
        rest = g.words;
        parts = g.items;
        are = are_arguments g.are;
        all_deep = λ calls. are_deep calls g.are;
        closing = closing.word;
        is_closing = closing.is;
        reads = f.reads ▷ g.reads ▷ closing.reads;
        same = g.all;
      })

  parenthesised-found : (r m : Reading) (x : Part × Reading) → (w : Spelled) → Is w (codes "(") × Reads (w ∷ []) r m → parenthesised_at inner w.place m ≡ Ok x → Found context (suc room) 0 r x
  unfolding parenthesised_at
  parenthesised-found r m x w first e =
      let y = bind_ok (inner 8 m) _ e in
      let c = bind_ok (expect_at (codes ")") y.0.1) _ y.2 in
      let f = sound 8 m y.0 y.1 in
      let closing = expect-found 41 [] y.0.1 c.0 c.1 in
      subst (Found context (suc room) 0 r) (ok_once _ x c.2)
      (record {
        words = w ∷ (f.words ++ closing.word ∷ []);
        is = parenthesised w closing.word f.words y.0.0 first.0 f.is closing.is;
        reads = first.1 ▷ f.reads ▷ closing.reads;
        deep = let d = f.deep in omega arith;
      })

  prefixed-found : (op : UnaryOp) (w : Spelled) (r m : Reading) (x : Part × Reading) → prefix_named w.bytes ≡ Some op → Reads (w ∷ []) r m → prefixed_at inner op w.place m ≡ Ok x → Found context (suc room) 0 r x
  unfolding prefixed_at
  prefixed-found op w r m x is first e =
      let y = bind_ok (inner 0 m) _ e in
      let f = sound 0 m y.0 y.1 in
      subst (Found context (suc room) 0 r) (ok_once _ x y.2)
      (record {
        words = w ∷ f.words;
        is = prefixed op w f.words y.0.0 is f.is;
        reads = first ▷ f.reads;
        deep = let d = f.deep in omega arith;
      })

  -- one further argument, or none
  no_more : {rest : Words} {ps : List Part} → AreMore context rest ps → ps ≡ [] → rest ≡ []
  no_more none e = refl
  no_more (more comma xs rest x ps is one are) e = cc

  of_one-found : (w : Spelled) (r m q : Reading) (parts : List Part × Reading) (x node : Part) (opening : FoundWord (codes "(") m q) (f : FoundArguments context room q parts)
      → parts.0 ≡ x ∷ []
      → ((xs : Words) (closing : Spelled) → IsExpression context 8 xs x → Is closing (codes ")") → IsExpression context 0 (w ∷ opening.word ∷ (xs ++ closing ∷ [])) node)
      → node.depth ≡ x.depth + 1 → Reads (w ∷ []) r m → Found context (suc room) 0 r (node, parts.1)
  of_one-found w r m q parts x node opening f all builds deep first =
      let whole : f.part ∷ f.parts ≡ x ∷ [] = sym f.same ∙ all in
      let part : f.part ≡ x = cc in
      let rest : f.rest ≡ [] = no_more f.are cc in
      record {
        words = w ∷ opening.word ∷ (f.first ++ f.closing ∷ []);
        is = builds f.first f.closing (subst (IsExpression context 8 f.first) part f.is_first) f.is_closing;
        reads = first ▷ opening.reads ▷ subst (λ (ws : Words). Reads (f.first ++ (ws ++ f.closing ∷ [])) q parts.1) rest f.reads;
        deep = let d = f.deep in let same : f.part.depth ≡ x.depth = ap (λ (p : Part). p.depth) part in omega arith;
      }

  -- one further argument
  record OneMore (rest : Words) (y : Part) : Type 0 where
    comma : Spelled
    is_comma : Is comma (codes ",")
    words : Words
    is : IsExpression context 8 words y
    same : rest ≡ comma ∷ (words ++ [])

  one_more : {rest : Words} {ps : List Part} (y : Part) → AreMore context rest ps → ps ≡ y ∷ [] → OneMore rest y
  one_more y none e = cc
  one_more y (more comma xs rest x ps is one are) e =
      let last : rest ≡ [] = no_more are cc in
      let part : x ≡ y = cc in
      record {
        comma = comma;
        is_comma = is;
        words = xs;
        is = subst (IsExpression context 8 xs) part one;
        same = ap (λ (ws : Words). comma ∷ (xs ++ ws)) last;
      }

  of_two-found : (w : Spelled) (r m q : Reading) (parts : List Part × Reading) (x y node : Part) (opening : FoundWord (codes "(") m q) (f : FoundArguments context room q parts)
      → parts.0 ≡ x ∷ y ∷ []
      → ((xs ys : Words) (comma closing : Spelled) → IsExpression context 8 xs x → Is comma (codes ",") → IsExpression context 8 ys y → Is closing (codes ")") → IsExpression context 0 (w ∷ opening.word ∷ (xs ++ comma ∷ (ys ++ closing ∷ []))) node)
      → node.depth ≤ suc room → Reads (w ∷ []) r m → Found context (suc room) 0 r (node, parts.1)
  of_two-found w r m q parts x y node opening f all builds deep first =
      let whole : f.part ∷ f.parts ≡ x ∷ y ∷ [] = sym f.same ∙ all in
      let part : f.part ≡ x = cc in
      let more = one_more y f.are cc in
      let rest : f.rest ≡ more.comma ∷ more.words = more.same ∙ ap (λ (ws : Words). more.comma ∷ ws) (append-nil more.words) in
      record {
        words = w ∷ opening.word ∷ (f.first ++ more.comma ∷ (more.words ++ f.closing ∷ []));
        is = builds f.first more.words more.comma f.closing (subst (IsExpression context 8 f.first) part f.is_first) more.is_comma more.is f.is_closing;
        reads = first ▷ opening.reads ▷ subst (λ (ws : Words). Reads (f.first ++ (ws ++ f.closing ∷ [])) q parts.1) rest f.reads;
        deep = deep;
      }

  two_deep : {q : Reading} {parts : List Part × Reading} (x y : Part) → FoundArguments context room q parts → parts.0 ≡ x ∷ y ∷ [] → max x.depth y.depth ≤ room
  unfolding linked
  two_deep x y f all =
      let whole : f.part ∷ f.parts ≡ x ∷ y ∷ [] = sym f.same ∙ all in
      let part : f.part.depth ≡ x.depth = cc in
      let last : f.parts ≡ y ∷ [] = cc in
      let d = f.deep in
      let ds : (linked (y ∷ []) (linked_none 0)).depth ≤ room = subst (λ (ps : List Part). (linked ps (linked_none 0)).depth ≤ room) last (f.all_deep 0) in
      omega arith

  function-found : (w : Spelled) (r m : Reading) (f : _) (x : Part × Reading) → function_named w.bytes ≡ Some f → Reads (w ∷ []) r m → function_at inner f w.place m ≡ Ok x → Found context (suc room) 0 r x
  unfolding function_at
  function-found w r m f x is first e =
      let o = bind_ok (expect_at (codes "(") m) _ e in
      let a = bind_ok (arguments_at inner o.0.1) _ o.2 in
      let n = bind_ok (or_fault (function_of f w.place a.0.0) (Shape w.place)) _ a.2 in
      let opening = expect-found 40 [] m o.0 o.1 in
      let args = arguments-found o.0.1 a.0 a.1 in
      subst (Found context (suc room) 0 r) (ok_once _ x n.2)
      (elim (function_of-found f w.place a.0.0 n.0 (fault-some (function_of f w.place a.0.0) _ n.0 n.1)) [
        | inl one ↦
            subst (λ (p : Part). Found context (suc room) 0 r (p, a.0.1)) one.same
            (of_one-found w r m o.0.1 a.0 one.argument _ opening args one.all (λ xs closing is_x is_closing. function_of_one one.op w opening.word closing xs one.argument (is ∙ ap Some one.is) opening.is is_x is_closing) refl first)
        | inr two ↦
            let deep = two_deep two.first two.second args two.all in
            subst (λ (p : Part). Found context (suc room) 0 r (p, a.0.1)) two.same
            (of_two-found w r m o.0.1 a.0 two.first two.second _ opening args two.all
            (λ xs ys comma closing is_x is_comma is_y is_closing. function_of_two two.op w opening.word comma closing xs ys two.first two.second (is ∙ ap Some two.is) opening.is is_x is_comma is_y is_closing)
            (omega arith) first)
      ])

  counted-found : (place : Place) (callee : Option _) (calls : ℕ) → counted context callee place ≡ Ok calls → Counts context callee calls
  counted-found place (Some k) calls e =
      elim (either_way context.inside _ _ e) [
        | inl inside ↦
            let t = tested_ok (nat_lt k.depth 64) (Ok k.depth) (NestingTooDeep place) inside.1 in
            inl (inside.0, ltb-true k.depth 64 t.0, sym (ok_once _ _ t.1))
        | inr outside ↦ inr (outside.0, sym (ok_once _ _ outside.1))
      ]
  counted-found place None calls e = sym (ok_once _ _ e)

  call-found : (w : Spelled) (r m : Reading) (x : Part × Reading) → IsName w → FoundWord (codes "(") r m → call_at context inner w m ≡ Ok x → (rest : Words) × IsExpression context 0 (w ∷ rest) x.0 × Reads rest r x.1 × (x.0.depth ≤ suc room)
  unfolding call_at linked
  call-found w r m x name_is opening e =
      let k = bind_ok (counted context (callee_of context.known w.bytes) w.place) _ e in
      let a = bind_ok (arguments_at inner m) _ k.2 in
      let t = tested_ok (takes (callee_of context.known w.bytes) (length a.0.0)) _ (Shape w.place) a.2 in
      let f = arguments-found m a.0 a.1 in
      let counts = counted-found w.place (callee_of context.known w.bytes) k.0 k.1 in
      subst (λ (y : Part × Reading). (rest : Words) × IsExpression context 0 (w ∷ rest) y.0 × Reads rest r y.1 × (y.0.depth ≤ suc room)) (ap (λ (ps : List Part). (call_of w (linked ps (linked_none k.0)), a.0.1)) (sym f.same) ∙ ok_once _ x t.1) (
        opening.word ∷ (f.first ++ (f.rest ++ f.closing ∷ [])),
        called w opening.word f.closing k.0 f.first f.rest f.part f.parts name_is opening.is counts f.is_first f.are (ap (λ (ps : List Part). takes (callee_of context.known w.bytes) (length ps)) (sym f.same) ∙ t.0) f.is_closing,
        opening.reads ▷ f.reads,
        (let d = f.deep in let ds = f.all_deep k.0 in omega arith),
      )

  free-found : (w : Spelled) (r m : Reading) (x : Part × Reading) → IsName w → Reads (w ∷ []) r m → free_at context inner w m ≡ Ok x → Found context (suc room) 0 r x
  unfolding free_at
  free-found w r m x name_is first e =
      let o = bind_ok (accept_at (codes "(") m) _ e in
      elim (accept-found 40 [] m o.0 o.1) [
        | inl opening ↦
            let f = call-found w m o.0.1 x name_is opening.1 (rw opening.0 at o.2) in
            record { words = w ∷ f.0; is = f.1; reads = first ▷ f.2; deep = f.3 }
        | inr absent ↦
            let f = form-found context room (inner 7) (sound 7) w m x name_is (subst (λ (n : Reading). form_at (inner 7) w n ≡ Ok x) absent.1 (rw absent.0 at o.2)) in
            record { words = w ∷ f.rest; is = f.is; reads = first ▷ f.reads; deep = f.deep }
      ]

  nothing_is_no_function : is_some (function_named []) ≡ false
  nothing_is_no_function = refl

  nothing_is_no_prefix : is_some (prefix_named []) ≡ false
  nothing_is_no_prefix = refl

  named-found : (r : Reading) (w : Spelled × Reading) (x : Part × Reading) → next_at r ≡ Ok w → named_at context inner w.0 w.1 ≡ Ok x → Found context (suc room) 0 r x
  named-found r w x t e =
      elim (either_way (is_free w.0.bytes) _ _ e) [
        | inl free ↦ free-found w.0 r w.1 x (true_fact _ free.0) (tested-found is_free r w t free.0 refl) free.1
        | inr other ↦ by (function_named w.0.bytes) refl other.1
      ]
    where
      by : (o : Option _) → function_named w.0.bytes ≡ o → option_map_or (λ f. function_at inner f w.0.place w.1) o (Err (Shape w.0.place)) ≡ Ok x → Found context (suc room) 0 r x
      by (Some f) k h = function-found w.0 r w.1 f x k (tested-found (λ b. is_some (function_named b)) r w t (ap is_some k) nothing_is_no_function) h
      by None k h = cc

  literal-found : (r : Reading) (w : Spelled × Reading) (n : ℕ) (x : Part × Reading) → next_at r ≡ Ok w → number_of w.0.bytes ≡ Some n → (let all : Result (Part × Reading) PseudoFault = Ok (leaf (number (spot_at w.0.place) n), w.1) in all ≡ Ok x) → Found context (suc room) 0 r x
  unfolding decimal_value
  literal-found r w n x t k h =
      subst (Found context (suc room) 0 r) (ok_once _ x h)
      (record { words = w.0 ∷ []; is = literal w.0 n k; reads = tested-found (λ b. is_some (number_of b)) r w t (ap is_some k) refl; deep = omega arith })

  plain-found : (r : Reading) (w : Spelled × Reading) (x : Part × Reading) → next_at r ≡ Ok w → plain_at context inner w.0 w.1 ≡ Ok x → Found context (suc room) 0 r x
  plain-found r w x t e = by_prefix (prefix_named w.0.bytes) refl e
    where
      by_number : (o : Option ℕ) → number_of w.0.bytes ≡ o → option_map_or {U = Result (Part × Reading) PseudoFault} (λ n. Ok (leaf (number (spot_at w.0.place) n), w.1)) o (named_at context inner w.0 w.1) ≡ Ok x → Found context (suc room) 0 r x
      by_number (Some n) k h = literal-found r w n x t k h
      by_number None k h = named-found r w x t h

      by_prefix : (o : Option UnaryOp) → prefix_named w.0.bytes ≡ o
          → option_map_or (λ op. prefixed_at inner op w.0.place w.1) o (option_map_or {U = Result (Part × Reading) PseudoFault} (λ n. Ok (leaf (number (spot_at w.0.place) n), w.1)) (number_of w.0.bytes) (named_at context inner w.0 w.1)) ≡ Ok x → Found context (suc room) 0 r x
      by_prefix (Some op) k h = prefixed-found op w.0 r w.1 x k (tested-found (λ b. is_some (prefix_named b)) r w t (ap is_some k) nothing_is_no_prefix) h
      by_prefix None k h = by_number (number_of w.0.bytes) refl h

  pub operand-found : (r : Reading) (x : Part × Reading) → operand_at context inner r ≡ Ok x → Found context (suc room) 0 r x
  unfolding operand_at
  operand-found r x e =
      let w = bind_ok (next_at r) _ e in
      elim (either_way (bytes_eq w.0.0.bytes (codes "(")) _ _ w.2) [
        | inl opened ↦ parenthesised-found r w.0.1 x w.0.0 (this-word 40 [] r w.0 w.1 opened.0) opened.1
        | inr plain ↦ plain-found r w.0 x w.1 plain.1
      ]
