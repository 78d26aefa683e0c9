-- What is read as statements is in the language.
use Rattle.std.proofs.Common.{◌≡◌, ℕ, zero, suc, ◌+◌, ◌≤◌, ◌==◌, Bool, true, false, List, [], ◌∷◌, ◌++◌, length, Option, Some, None, Result, Ok, refl, sym, ◌∙◌, ap, subst, inl, inr, arith, append_assoc, append-nil}
use Rattle.std.specs.Prelude.{codes, IsTrue, is_some, sum_by, if◌then◌else◌}
use Rattle.std.specs.Option.{option_map_or}
use Rattle.std.specs.Str.{bytes_eq}
use Rattle.std.proofs.lemmas.Bool.{eqb-true}
use Rattle.std.proofs.lemmas.List.Sums.{sum_by-cons}
use Rattle.vg_base.specs.Bind.{◌>>=◌, or_fault}
use Rattle.vg_base.proofs.Bind.{bind_ok, tested_ok, refused_ok, either_way}
use Rattle.vg_base.specs.declared.address.Address.{Address}
use Rattle.vg_base.specs.declared.width.Width.{Width}
use Rattle.vg_base.specs.Width.{bits_of}
use Rattle.vg_base.proofs.SameWidth.{width-same}
use Rattle.vg_text.specs.declared.place.Place.{Place}
use Rattle.vg_text.specs.Words.{Reading, Spelled}
use Rattle.vg_kernel.specs.declared.fault.KernelFault.{KernelFault}
use Rattle.vg_kernel.specs.declared.fault.KernelFault.TheVariants.{Shape, DuplicateName, WidthMismatch}
use Rattle.vg_kernel.specs.declared.given.Given.{Given}
use Rattle.vg_kernel.specs.Cost.{uses_of}
use Rattle.vg_kernel.specs.Expressions.{Scan, Part}
use Rattle.vg_kernel.specs.Grammar.{Is, SpellsAddress, IsStatement, AreStatements}
use Rattle.vg_kernel.specs.Names.{Names, given_as, with_name}
use Rattle.vg_kernel.specs.Nodes.{width_in, one_width}
use Rattle.vg_kernel.specs.Reader.{next_at, expect_at, address_at}
use Rattle.vg_kernel.specs.Script.{Words}
use Rattle.vg_kernel.specs.Statements.{Step, outer_at, assignment_at, has_width, store_end, store_at, statement_at, closing_at, statements_at}
use Rattle.vg_kernel.specs.Tree.{Expression, Statement, assign, store, type_of}
use Rattle.vg_text.specs.Sized.{width_behind}
use Rattle.vg_kernel.specs.Words.{sized, is_free}
use Rattle.vg_kernel.proofs.ExpressionsFound.{expression-found}
use Rattle.vg_kernel.proofs.OperandsFound.{Found, at}
use Rattle.vg_kernel.proofs.PlacesFound.{address-found}
use Rattle.vg_kernel.proofs.Scripts.{Spells, Spells-append, same_text, ok_once, fault-some, next-found, tested-found, expect-found, true_fact}
use Rattle.vg_kernel.proofs.Sizes.{width_behind-found}

-- an expression with the width of the store
has_width-found : (w : Width) (e : Expression) → has_width w e ≡ true → width_in e ≡ Some w
has_width-found w e h = by (width_in e) h
  where
    same : (b : Bool) (v : Width) → (bits_of w == bits_of v) ≡ b → is_some (if b then Some w else None) ≡ true → Some v ≡ Some w
    same true v k h = ap Some (width-same v w (sym (eqb-true (bits_of w) (bits_of v) k)))
    same false v k h = cc

    by : (o : Option Width) → is_some (option_map_or (one_width w) o None) ≡ true → o ≡ Some w
    by (Some v) h = same (bits_of w == bits_of v) v refl h
    by None h = cc

-- A statement was read: its words, and what it counts for.
record FoundStep (names : Names) (r : Reading) (used : ℕ) (x : Step) : Type 0 where
  words : Words
  is : IsStatement names words x.statement x.names
  spells : Spells r words x.scan.reading
  counts : x.scan.used ≡ used + uses_of x.statement
  few : used ≤ 8192 → x.scan.used ≤ 8192

assignment-found : (names : Names) (r0 r : Reading) (word : Spelled) (used : ℕ) (x : Step) → Spells r0 (word ∷ []) r → IsTrue (is_free word.bytes) → given_as names word.bytes ≡ None → assignment_at names word.bytes r used ≡ Ok x → FoundStep names r0 used x
unfolding assignment_at
assignment-found names r0 r word used x first free fresh e =
    let q = bind_ok (expect_at (codes "=") r) _ e in
    let v = bind_ok (outer_at names q.0 used) _ q.2 in
    let d = bind_ok (expect_at (codes ";") v.0.scan.reading) _ v.2 in
    let equals = expect-found 61 [] r q.0 q.1 in
    let end = expect-found 59 [] v.0.scan.reading d.0 d.1 in
    let f = expression-found names 256 5 (at q.0 used) v.0 v.1 in
    let tail = f.words ++ end.0 ∷ [] in
    let s2 = Spells-append q.0 v.0.scan.reading d.0 f.words (end.0 ∷ []) f.spells end.2 in
    let s1 = Spells-append r q.0 d.0 (equals.0 ∷ []) tail equals.2 s2 in
    let s0 = Spells-append r0 r d.0 (word ∷ []) (equals.0 ∷ tail) first s1 in
    subst (FoundStep names r0 used) (ok_once (record { statement = assign v.0.expression; names = with_name names word.bytes (type_of v.0.expression); scan = at d.0 v.0.scan.used }) x d.2)
    (record {
      words = word ∷ equals.0 ∷ tail;
      is = (word, equals.0, end.0, f.words, free, fresh, equals.1, (v.0.depth, f.is, f.deep), end.1, refl, refl);
      spells = s0;
      counts = f.used;
      few = f.few;
    })

store_some : (w : Width) (bytes : List ℕ) → bytes ≡ sized (codes "store") w → bytes ≡ [] → ⊥
store_some w bytes is none = let no : [] ≡ sized (codes "store") w = sym none ∙ is in cc

-- `);` after what is stored
record StoreEnd (w : Width) (to : Address) (v : Part) (x : Statement × Scan) : Type 0 where
  closing : Spelled
  end : Spelled
  is_closing : Is closing (codes ")")
  is_end : Is end (codes ";")
  spells : Spells v.scan.reading (closing ∷ end ∷ []) x.1.reading
  same : x ≡ (store w to v.expression, at x.1.reading v.scan.used)

store_end-found : (w : Width) (to : Address) (v : Part) (x : Statement × Scan) → store_end w to v ≡ Ok x → StoreEnd w to v x
unfolding store_end
store_end-found w to v x e =
    let c = bind_ok (expect_at (codes ")") v.scan.reading) _ e in
    let d = bind_ok (expect_at (codes ";") c.0) _ c.2 in
    let closing = expect-found 41 [] v.scan.reading c.0 c.1 in
    let end = expect-found 59 [] c.0 d.0 d.1 in
    subst (StoreEnd w to v) (ok_once (store w to v.expression, at d.0 v.scan.used) x d.2)
    (record { closing = closing.0; end = end.0; is_closing = closing.1; is_end = end.1; spells = Spells-append v.scan.reading c.0 d.0 (closing.0 ∷ []) (end.0 ∷ []) closing.2 end.2; same = refl })

-- a store of parts that were found
store-whole : (names : Names) (r0 r o t m : Reading) (word opening comma : Spelled) (w : Width) (to : Address) (ws : Words) (used : ℕ) (v : Part) (x : Statement × Scan) → Is word (sized (codes "store") w) → Spells r0 (word ∷ []) r
    → Is opening (codes "(") → Spells r (opening ∷ []) o → SpellsAddress names ws to → Spells o ws t → Is comma (codes ",") → Spells t (comma ∷ []) m → Found names 256 5 (at m used) v → width_in v.expression ≡ Some w → StoreEnd w to v x
    → FoundStep names r0 used (record { statement = x.0; names = names; scan = x.1 })
store-whole names r0 r o t m word opening comma w to ws used v x is first i si place sp l sl f width z =
    let tail = f.words ++ z.closing ∷ z.end ∷ [] in
    let s4 = Spells-append m v.scan.reading x.1.reading f.words (z.closing ∷ z.end ∷ []) f.spells z.spells in
    let s3 = Spells-append t m x.1.reading (comma ∷ []) tail sl s4 in
    let s2 = Spells-append o t x.1.reading ws (comma ∷ tail) sp s3 in
    let s1 = Spells-append r o x.1.reading (opening ∷ []) (ws ++ comma ∷ tail) si s2 in
    let s0 = Spells-append r0 r x.1.reading (word ∷ []) (opening ∷ (ws ++ comma ∷ tail)) first s1 in
    subst (λ (q : Statement × Scan). FoundStep names r0 used (record { statement = q.0; names = names; scan = q.1 })) (sym z.same)
    (record {
      words = word ∷ opening ∷ (ws ++ comma ∷ tail);
      is = (word, opening, comma, z.closing, z.end, ws, f.words, is, i, place, l, (v.depth, f.is, f.deep), z.is_closing, z.is_end, width, refl, refl);
      spells = s0;
      counts = f.used;
      few = f.few;
    })

store-found : (names : Names) (r0 r : Reading) (word : Spelled) (used : ℕ) (x : Step) → next_at r0 ≡ Ok (word, r) → store_at names word r used ≡ Ok x → FoundStep names r0 used x
unfolding store_at
store-found names r0 r word used x next e =
    let w = bind_ok (or_fault (width_behind (codes "store") word.bytes) (Shape word.place)) _ e in
    let o = bind_ok (expect_at (codes "(") r) _ w.2 in
    let a = bind_ok (address_at names o.0) _ o.2 in
    let m = bind_ok (expect_at (codes ",") a.0.1) _ a.2 in
    let v = bind_ok (outer_at names m.0 used) _ m.2 in
    let t = tested_ok (has_width w.0 v.0.expression) (store_end w.0 a.0.0 v.0 >>= λ s. Ok (record { statement = s.0; names = names; scan = s.1 })) (WidthMismatch word.place) v.2 in
    let z = bind_ok (store_end w.0 a.0.0 v.0) _ t.1 in
    let is = width_behind-found (codes "store") word.bytes w.0 (fault-some _ _ w.0 w.1) in
    let opening = expect-found 40 [] r o.0 o.1 in
    let to = address-found names o.0 a.0 a.1 in
    let comma = expect-found 44 [] a.0.1 m.0 m.1 in
    subst (FoundStep names r0 used) (ok_once _ x z.2)
    (store-whole names r0 r o.0 a.0.1 m.0 word opening.0 comma.0 w.0 a.0.0 to.0 used v.0 z.0 is (next-found r0 (word, r) next (store_some w.0 word.bytes is)) opening.1 opening.2 to.1 to.2 comma.1 comma.2
    (expression-found names 256 5 (at m.0 used) v.0 v.1) (has_width-found w.0 v.0.expression t.0) (store_end-found w.0 a.0.0 v.0 z.0 z.1))

none_given : (g : Option Given) → is_some g ≡ false → g ≡ None
none_given (Some x) e = cc
none_given None e = refl

statement-found : (names : Names) (r0 r : Reading) (word : Spelled) (used : ℕ) (x : Step) → next_at r0 ≡ Ok (word, r) → statement_at names word r used ≡ Ok x → FoundStep names r0 used x
unfolding statement_at
statement-found names r0 r word used x next e =
    elim (either_way (is_free word.bytes) _ (store_at names word r used) e) [
      | inl free ↦
          let t = refused_ok (is_some (given_as names word.bytes)) (assignment_at names word.bytes r used) (DuplicateName word.place) free.1 in
          assignment-found names r0 r word used x (tested-found is_free r0 (word, r) next free.0 refl) (true_fact _ free.0) (none_given (given_as names word.bytes) t.0) t.1
      | inr other ↦ store-found names r0 r word used x next other.1
    ]

-- statements after those that were done, and the brace that ends them
pub record FoundStatements (room : ℕ) (names : Names) (done : List Statement) (s : Scan) (x : (List Statement × Place) × Reading) : Type 0 where
  pub rest : List Statement
  pub words : Words
  pub brace : Spelled
  pub is_brace : Is brace (codes "}")
  pub all : x.0.0 ≡ done ++ rest
  pub are : AreStatements names words rest
  pub few : length rest ≤ room
  pub spells : Spells s.reading (words ++ brace ∷ []) x.1
  pub uses : s.used ≤ 8192 → s.used + sum_by uses_of rest ≤ 8192

statements-none : (room : ℕ) (names : Names) (done : List Statement) (s : Scan) (brace : Spelled) (place : Place) (r : Reading) (x : (List Statement × Place) × Reading) → Is brace (codes "}") → Spells s.reading (brace ∷ []) r → (let whole : Result ((List Statement × Place) × Reading) KernelFault = Ok ((done, place), r) in whole ≡ Ok x) → FoundStatements room names done s x
statements-none room names done s brace place r x is spells e =
    subst (FoundStatements room names done s) (ok_once ((done, place), r) x e)
    (record { rest = []; words = []; brace = brace; is_brace = is; all = sym (append-nil done); are = refl; few = omega arith; spells = spells; uses = λ h. omega arith })

statements-one : (room : ℕ) (names : Names) (done : List Statement) (s : Scan) (y : Step) (x : (List Statement × Place) × Reading) → FoundStep names s.reading s.used y → FoundStatements room y.names (done ++ y.statement ∷ []) y.scan x → FoundStatements (suc room) names done s x
statements-one room names done s y x one more =
    let counts = one.counts in
    let sum = sum_by-cons uses_of y.statement more.rest in
    record {
      rest = y.statement ∷ more.rest;
      words = one.words ++ more.words;
      brace = more.brace;
      is_brace = more.is_brace;
      all = more.all ∙ append_assoc done (y.statement ∷ []) more.rest;
      are = (one.words, more.words, y.names, one.is, more.are, refl);
      few = let l = more.few in omega arith;
      spells = subst (λ (t : Words). Spells s.reading t x.1) (sym (append_assoc one.words more.words (more.brace ∷ []))) (Spells-append s.reading y.scan.reading x.1 one.words (more.words ++ more.brace ∷ []) one.spells more.spells);
      uses = λ h. let k = more.uses (one.few h) in omega (arith, counts, sum);
    }

-- the brace that ends statements
brace-found : (r : Reading) (w : Spelled × Reading) → next_at r ≡ Ok w → bytes_eq w.0.bytes (codes "}") ≡ true → Is w.0 (codes "}") × Spells r (w.0 ∷ []) w.1
brace-found r w e t =
    let is = same_text w.0.bytes (codes "}") t in
    (is, next-found r w e (λ none. let no : [] ≡ codes "}" = sym none ∙ is in cc))

pub statements-found : (room : ℕ) (names : Names) (done : List Statement) (s : Scan) (x : (List Statement × Place) × Reading) → statements_at room names done s ≡ Ok x → FoundStatements room names done s x
unfolding statements_at
statements-found zero names done s x e =
    let c = bind_ok (closing_at s.reading) _ e in
    let w = bind_ok (next_at s.reading) _ c.1 in
    let t = tested_ok (bytes_eq w.0.0.bytes (codes "}")) (Ok (w.0.0.place, w.0.1)) _ w.2 in
    let brace = brace-found s.reading w.0 w.1 t.0 in
    statements-none 0 names done s w.0.0 c.0.0 c.0.1 x brace.0 (subst (λ (q : Place × Reading). Spells s.reading (w.0.0 ∷ []) q.1) (ok_once (w.0.0.place, w.0.1) c.0 t.1) brace.1) c.2
statements-found (suc room) names done s x e =
    let w = bind_ok (next_at s.reading) _ e in
    elim (either_way (bytes_eq w.0.0.bytes (codes "}")) (Ok ((done, w.0.0.place), w.0.1)) _ w.2) [
      | inl ended ↦ (let brace = brace-found s.reading w.0 w.1 ended.0 in statements-none (suc room) names done s w.0.0 w.0.0.place w.0.1 x brace.0 brace.1 ended.1)
      | inr more ↦
          let y = bind_ok (statement_at names w.0.0 w.0.1 s.used) _ more.1 in
          statements-one room names done s y.0 x (statement-found names s.reading w.0.1 w.0.0 s.used y.0 w.1 y.1) (statements-found room y.0.names (done ++ y.0.statement ∷ []) y.0.scan x y.2)
    ]
