-- Each expression of the language is read.
use Rattle.std.proofs.Common.{◌≡◌, ℕ, zero, suc, ◌≤◌, true, false, List, [], ◌∷◌, ◌++◌, length, Some, Ok, refl, ◌∙◌, ap, subst, arith, append-nil}
use Rattle.std.specs.Prelude.{codes}
use Rattle.std.specs.Str.{bytes_eq}
use Rattle.vg_base.proofs.Bind.{bind_to, bind_ok}
use Rattle.vg_base.specs.declared.width.Width.{Width}
use Rattle.vg_text.specs.declared.place.Place.{Place}
use Rattle.vg_text.specs.Words.{Reading, Spelled}
use Rattle.vg_pseudo.specs.declared.operators.UnaryOp.{UnaryOp}
use Rattle.vg_pseudo.specs.declared.operators.BinaryOp.{BinaryOp}
use Rattle.vg_pseudo.specs.declared.operators.BinaryOp.TheVariants.{Or, Xor, And, Equal, NotEqual, Less, LessOrEqual, Greater, GreaterOrEqual, ShiftLeft, ShiftRight, Add, Subtract, Multiply, Minimum, Maximum}
use Rattle.vg_pseudo.specs.Tree.{slice, bit, element, unary}
use Rattle.vg_pseudo.specs.Spots.{spot_at, with_outer}
use Rattle.vg_pseudo.specs.Definitions.{Context, callee_of}
use Rattle.vg_pseudo.specs.Words.{level_of, element_named, prefix_named, function_named}
use Rattle.vg_pseudo.specs.Grammar.{Words, Is, IsName, Counts, IsWhole, IsOwnIndex, IsExpression, literal, named, sliced, indexed, placed, parted, parenthesised, prefixed, function_of_one, function_of_two, called, tighter, joined, compared, chosen, AreMore, none, more}
use Rattle.vg_pseudo.specs.Reader.{next_at, accept_at}
use Rattle.vg_pseudo.specs.Expressions.{Part, Inner, level_at, operand_at, above_one, above_two, function_of, linked, linked_none, call_of, takes, expression_at, whole_at, own_index_at}
use Rattle.vg_pseudo_laws.proofs.Standing.{Reads}
use Rattle.vg_pseudo_laws.proofs.WordsAgain.{next-again, no-more, accept-not, Ends}
use Rattle.vg_pseudo_laws.proofs.FormsAgain.{GivesIndex, named-form, indexed-form, sliced-form, parted-form, placed-form}
use Rattle.vg_pseudo_laws.proofs.OperandsAgain.{Gives, GivesArguments, literal-operand, form-operand, parenthesised-operand, prefixed-operand, function-operand, called-operand, GivesMore, no-arguments, more-arguments, arguments-again}
use Rattle.vg_pseudo_laws.proofs.ExpressionsAgain.{Law, Repeats, gives, operand-law, tighter-law, joined-law, compared-law, chosen-law}

-- what stands after a name is no call
not_round : (w : Spelled) (text : List ℕ) → Is w text → bytes_eq text (codes "(") ≡ false → (rest : Words) (r m : Reading) → Reads (w ∷ rest) r m → accept_at (codes "(") r ≡ Ok (false, r)
not_round w text is other rest r m h = (let a = next-again h in accept-not (codes "(") w r a.behind (ap (λ (t : List ℕ). bytes_eq t (codes "(")) is ∙ other) a.next)

end_not_round : (r m : Reading) → Reads [] r m → Ends 0 m → accept_at (codes "(") r ≡ Ok (false, r)
end_not_round r m h end = accept-not (codes "(") end.word r end.behind end.round (ap next_at (no-more h) ∙ end.next)

-- an operator binds at level 7 or tighter
tight : (op : BinaryOp) → level_of op ≤ 7
tight Multiply = omega arith
tight Add = omega arith
tight Subtract = omega arith
tight ShiftLeft = omega arith
tight ShiftRight = omega arith
tight Equal = omega arith
tight NotEqual = omega arith
tight Less = omega arith
tight LessOrEqual = omega arith
tight Greater = omega arith
tight GreaterOrEqual = omega arith
tight And = omega arith
tight Xor = omega arith
tight Or = omega arith
tight Minimum = omega arith
tight Maximum = omega arith

module _ (context : Context) where
  -- further arguments are read, where so many nodes are enough for each
  abbrev MoreLaw : Words → List Part → Type 0
  MoreLaw ws ps = (whole : Place) (room calls : ℕ) → (linked ps (linked_none calls)).depth ≤ room → GivesMore (expression_at context whole room) ws ps

  sliced-law : (w opening colon closing : Spelled) (hs ls : Words) (h l : Part) → IsName w → Is opening (codes "[") → Is colon (codes ":") → Is closing (codes "]") → Law context 7 hs h → Law context 7 ls l
      → Law context 0 (w ∷ opening ∷ (hs ++ colon ∷ (ls ++ closing ∷ []))) (above_two (slice (spot_at w.place) w.bytes h.expression l.expression) h l)
  sliced-law w opening colon closing hs ls h l is opening_is colon_is closing_is high low =
      operand-law context _ _ (omega arith) (λ whole room deep. form-operand context (expression_at context whole room) w _ _ is
      (sliced-form (expression_at context whole room 7) w opening colon closing hs ls h l opening_is (gives context 7 hs h high whole room (omega arith)) colon_is (gives context 7 ls l low whole room (omega arith)) closing_is)
      (λ r m reads end. not_round opening (codes "[") opening_is refl _ r m reads))

  indexed-law : (w opening closing : Spelled) (ks : Words) (k : Part) → IsName w → Is opening (codes "[") → Is closing (codes "]") → Law context 7 ks k
      → Law context 0 (w ∷ opening ∷ (ks ++ closing ∷ [])) (above_one (bit (spot_at w.place) w.bytes k.expression) k)
  indexed-law w opening closing ks k is opening_is closing_is law =
      operand-law context _ _ (omega arith) (λ whole room deep. form-operand context (expression_at context whole room) w _ _ is
      (indexed-form (expression_at context whole room 7) w opening closing ks k opening_is (gives context 7 ks k law whole room (omega arith)) closing_is)
      (λ r m reads end. not_round opening (codes "[") opening_is refl _ r m reads))

  placed-law : (w dot text opening closing : Spelled) (size : Width) (ks : Words) (k : Part) → IsName w → Is dot (codes ".") → element_named text.bytes ≡ Some size → Is opening (codes "[") → Is closing (codes "]") → Law context 7 ks k
      → Law context 0 (w ∷ dot ∷ text ∷ opening ∷ (ks ++ closing ∷ [])) (above_one (element (spot_at w.place) w.bytes size k.expression) k)
  placed-law w dot text opening closing size ks k is dot_is text_is opening_is closing_is law =
      operand-law context _ _ (omega arith) (λ whole room deep. form-operand context (expression_at context whole room) w _ _ is
      (placed-form (expression_at context whole room 7) w dot text opening closing size ks k dot_is text_is opening_is (gives context 7 ks k law whole room (omega arith)) closing_is)
      (λ r m reads end. not_round dot (codes ".") dot_is refl _ r m reads))

  parenthesised-law : (opening closing : Spelled) (xs : Words) (x : Part) → Is opening (codes "(") → Is closing (codes ")") → Law context 8 xs x → Law context 0 (opening ∷ (xs ++ closing ∷ [])) (above_one (with_outer opening.place x.expression) x)
  parenthesised-law opening closing xs x opening_is closing_is law =
      operand-law context _ _ (omega arith) (λ whole room deep. parenthesised-operand context (expression_at context whole room) opening closing xs x opening_is (gives context 8 xs x law whole room (omega arith)) closing_is)

  prefixed-law : (op : UnaryOp) (w : Spelled) (xs : Words) (x : Part) → prefix_named w.bytes ≡ Some op → Law context 0 xs x → Law context 0 (w ∷ xs) (above_one (unary (spot_at w.place) op x.expression) x)
  prefixed-law op w xs x is law = operand-law context _ _ (omega arith) (λ whole room deep. prefixed-operand context (expression_at context whole room) op w xs x is (gives context 0 xs x law whole room (omega arith)))

  -- a function of arguments that are read
  function-law : (f : _) (w opening : Spelled) (ws : Words) (ps : List Part) (node : Part) → function_named w.bytes ≡ Some f → Is opening (codes "(") → function_of f w.place ps ≡ Some node → 1 ≤ node.depth
      → ((whole : Place) (room : ℕ) → node.depth ≤ suc room → GivesArguments (expression_at context whole room) ws ps) → Law context 0 (w ∷ opening ∷ ws) node
  function-law f w opening ws ps node is opening_is of some args = operand-law context _ _ some (λ whole room deep. function-operand context (expression_at context whole room) f w opening ws ps node is opening_is (args whole room deep) of)

  called-law : (w opening closing : Spelled) (calls : ℕ) (xs rest : Words) (x : Part) (ps : List Part) → IsName w → Is opening (codes "(") → Counts context (callee_of context.known w.bytes) calls → takes (callee_of context.known w.bytes) (length (x ∷ ps)) ≡ true
      → Is closing (codes ")") → Law context 8 xs x → MoreLaw rest ps → Law context 0 (w ∷ opening ∷ (xs ++ (rest ++ closing ∷ []))) (call_of w (linked (x ∷ ps) (linked_none calls)))
  unfolding linked
  called-law w opening closing calls xs rest x ps is opening_is counts takes_them closing_is first others =
      operand-law context _ _ (omega arith) (λ whole room deep. called-operand context (expression_at context whole room) w opening _ calls (x ∷ ps) is opening_is counts
      (arguments-again (expression_at context whole room) xs rest x ps closing (gives context 8 xs x first whole room (omega arith)) (others whole room calls (omega arith)) closing_is) takes_them)

  more-law : (comma : Spelled) (xs rest : Words) (x : Part) (ps : List Part) → Is comma (codes ",") → Law context 8 xs x → MoreLaw rest ps → MoreLaw (comma ∷ (xs ++ rest)) (x ∷ ps)
  unfolding linked
  more-law comma xs rest x ps is first others whole room calls deep = more-arguments (expression_at context whole room) comma xs rest x ps is (gives context 8 xs x first whole room (omega arith)) (others whole room calls (omega arith))

  repeats : (op : BinaryOp) (level : ℕ) → level_of op ≡ suc level → (suc level ≡ 4 → ⊥) → Repeats context level
  repeats op level binds other = (λ e. other (ap suc e), λ e. absurd (let l = tight op in omega arith))

  two-arguments : (whole : Place) (room : ℕ) (comma closing : Spelled) (xs ys : Words) (y z : Part) → Is comma (codes ",") → Is closing (codes ")") → Gives (expression_at context whole room) 8 xs y → Gives (expression_at context whole room) 8 ys z
      → GivesArguments (expression_at context whole room) (xs ++ comma ∷ (ys ++ closing ∷ [])) (y ∷ z ∷ [])
  two-arguments whole room comma closing xs ys y z comma_is closing_is first second =
      let others = more-arguments (expression_at context whole room) comma ys [] z [] comma_is second (no-arguments _) in
      subst (λ (ws : Words). GivesArguments (expression_at context whole room) (xs ++ comma ∷ (ws ++ closing ∷ [])) (y ∷ z ∷ [])) (append-nil ys)
      (arguments-again (expression_at context whole room) xs (comma ∷ (ys ++ [])) y (z ∷ []) closing first others closing_is)

  mutual
    pub law : (level : ℕ) (ws : Words) (x : Part) → IsExpression context level ws x → level ≤ 8 → Law context level ws x
    law _ _ _ (literal w n is) few = operand-law context _ _ (omega arith) (λ whole room deep. literal-operand context (expression_at context whole room) w n is)
    law _ _ _ (named w is) few = operand-law context _ _ (omega arith) (λ whole room deep. form-operand context (expression_at context whole room) w [] _ is (named-form _ w) (λ r m h end. end_not_round r m h end))
    law _ _ _ (sliced w opening colon closing hs ls h l is opening_is is_h colon_is is_l closing_is) few = sliced-law w opening colon closing hs ls h l is opening_is colon_is closing_is (law 7 hs h is_h (omega arith)) (law 7 ls l is_l (omega arith))
    law _ _ _ (indexed w opening closing ks k is opening_is is_k closing_is) few = indexed-law w opening closing ks k is opening_is closing_is (law 7 ks k is_k (omega arith))
    law _ _ _ (placed w dot text opening closing size ks k is dot_is text_is opening_is is_k closing_is) few = placed-law w dot text opening closing size ks k is dot_is text_is opening_is closing_is (law 7 ks k is_k (omega arith))
    law _ _ _ (parted w dot text size is dot_is text_is) few = operand-law context _ _ (omega arith) (λ whole room deep. form-operand context (expression_at context whole room) w _ _ is (parted-form _ w dot text size dot_is text_is) (λ r m h end. not_round dot (codes ".") dot_is refl _ r m h))
    law _ _ _ (parenthesised opening closing xs y opening_is is_y closing_is) few = parenthesised-law opening closing xs y opening_is closing_is (law 8 xs y is_y (omega arith))
    law _ _ _ (prefixed op w xs y is is_y) few = prefixed-law op w xs y is (law 0 xs y is_y (omega arith))
    law _ _ _ (function_of_one op w opening closing xs y is opening_is is_y closing_is) few =
        (let first = law 8 xs y is_y (omega arith) in function-law _ w opening _ (y ∷ []) _ is opening_is refl (omega arith) (λ whole room deep. arguments-again (expression_at context whole room) xs [] y [] closing (gives context 8 xs y first whole room (omega arith)) (no-arguments _) closing_is))
    law _ _ _ (function_of_two op w opening comma closing xs ys y z is opening_is is_y comma_is is_z closing_is) few =
        let first = law 8 xs y is_y (omega arith) in
        let second = law 8 ys z is_z (omega arith) in
        function-law _ w opening _ (y ∷ z ∷ []) _ is opening_is refl (omega arith) (λ whole room deep. two-arguments whole room comma closing xs ys y z comma_is closing_is (gives context 8 xs y first whole room (omega arith)) (gives context 8 ys z second whole room (omega arith)))
    law _ _ _ (called w opening closing calls xs rest y ps is opening_is counts is_y are takes_them closing_is) few = called-law w opening closing calls xs rest y ps is opening_is counts takes_them closing_is (law 8 xs y is_y (omega arith)) (laws rest ps are)
    law _ _ _ (tighter level ws x is) few = tighter-law context level ws x (omega arith) (law level ws x is (omega arith))
    law _ _ _ (joined op w level xs ys y z is_y name_is binds other is_z) few =
        joined-law context op w level xs ys y z (omega arith) (repeats op level binds other) (law (suc level) xs y is_y few) name_is binds (law level ys z is_z (omega arith))
    law _ _ _ (compared op w xs ys y z is_y name_is binds is_z) few = compared-law context op w xs ys y z (law 3 xs y is_y (omega arith)) name_is binds (law 3 ys z is_z (omega arith))
    law _ _ _ (chosen mark colon cs xs ys c y z is_c mark_is is_y colon_is is_z) few = chosen-law context mark colon cs xs ys c y z (law 7 cs c is_c (omega arith)) mark_is (law 8 xs y is_y (omega arith)) colon_is (law 8 ys z is_z (omega arith))

    laws : (ws : Words) (ps : List Part) → AreMore context ws ps → MoreLaw ws ps
    laws _ _ none = λ whole room calls deep. no-arguments _
    laws _ _ (more comma xs rest x ps is is_x are) = more-law comma xs rest x ps is (law 8 xs x is_x (omega arith)) (laws rest ps are)

-- where an expression was read, a word stood
level-starts : (context : Context) (whole : Place) (inner : Inner) (room level : ℕ) (r : Reading) (x : Part × Reading) → level_at context whole inner room level r ≡ Ok x → (w : Spelled × Reading) × (next_at r ≡ Ok w)
unfolding level_at operand_at
level-starts context whole inner room zero r x e = let w = bind_ok (next_at r) _ e in (w.0, w.1)
level-starts context whole inner room (suc level) r x e = let y = bind_ok (level_at context whole inner room level r) _ e in level-starts context whole inner room level r y.0 y.1

starts : (context : Context) (whole : Place) (room level : ℕ) (r : Reading) (x : Part × Reading) → expression_at context whole room level r ≡ Ok x → (w : Spelled × Reading) × (next_at r ≡ Ok w)
unfolding expression_at
starts context whole zero level r x e = let w = bind_ok (next_at r) _ e in (w.0, w.1)
starts context whole (suc room) level r x e = level-starts context whole (expression_at context whole room) room level r x e

-- a whole expression is read
pub whole-again : (context : Context) (ws : Words) (x : Part) → IsWhole context ws x → (r m : Reading) → Reads ws r m → Ends 8 m → whole_at context r ≡ Ok (x, m)
whole-again context ws x is r m h end =
    let all = gives context 8 ws x (law context 8 ws x is.0 (omega arith)) in
    let w = starts context end.word.place 64 8 r (x, m) (all end.word.place 64 is.1 r m h end) in
    bind_to (next_at r) _ w.1 (all w.0.0.place 64 is.1 r m h end)

pub own_index-again : (context : Context) (ws : Words) (x : Part) → IsOwnIndex context ws x → GivesIndex (own_index_at context) ws x
own_index-again context ws x is r m h end =
    let all = gives context 7 ws x (law context 7 ws x is.0 (omega arith)) in
    let w = starts context end.word.place 64 7 r (x, m) (all end.word.place 64 is.1 r m h end) in
    bind_to (next_at r) _ w.1 (all w.0.0.place 64 is.1 r m h end)
