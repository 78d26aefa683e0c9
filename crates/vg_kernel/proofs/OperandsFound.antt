-- What is read as an operand is in the language.
use Rattle.std.proofs.Common.{◌≡◌, ℕ, ◌+◌, ◌<◌, ◌≤◌, Bool, true, false, [], ◌∷◌, ◌++◌, Option, Some, None, Ok, refl, sym, ◌∙◌, ap, subst, arith}
use Rattle.std.specs.Prelude.{codes, nat_lt, if◌then◌else◌}
use Rattle.std.specs.Option.{option_map}
use Rattle.std.proofs.lemmas.Bool.{ltb-true}
use Rattle.vg_base.specs.Bind.{or_fault}
use Rattle.vg_base.specs.Trap.{◌>>=◌}
use Rattle.vg_base.proofs.Bind.{bind_ok, tested_ok}
use Rattle.vg_base.specs.declared.width.Width.{Width}
use Rattle.vg_scalar.specs.declared.resize.Resize.{Resize}
use Rattle.vg_text.specs.declared.place.Place.{Place}
use Rattle.vg_text.specs.Number.{decimal_value}
use Rattle.vg_text.specs.Words.{Reading, Spelled}
use Rattle.vg_kernel.specs.declared.fault.KernelFault.TheVariants.{Shape, WidthMismatch, LiteralRange, TooMany}
use Rattle.vg_kernel.specs.declared.function.Function.{Function}
use Rattle.vg_kernel.specs.declared.function.Function.TheVariants as functions
use Rattle.vg_kernel.specs.Cost.{expression_cost}
use Rattle.vg_kernel.specs.Expressions.{Scan, Part, Inner, leaf_part, counted, judged, literal_at, load_at, whole_at, parenthesised_at, closed_at, pair_at}
use Rattle.vg_kernel.specs.Grammar.{Is, IsLiteral, IsExpression, read, parenthesised}
use Rattle.vg_kernel.specs.Names.{Names}
use Rattle.vg_kernel.specs.Nodes.{width_in, common_width, pair_node, resize_node, select_node, is_resize, is_bit}
use Rattle.vg_kernel.specs.Reader.{next_at, expect_at, address_at}
use Rattle.vg_kernel.specs.Script.{Words}
use Rattle.vg_kernel.specs.Tree.{Expression, literal, load, two, resize, compare, select}
use Rattle.vg_text.specs.Sized.{width_behind}
use Rattle.vg_kernel.specs.Words.{sized, adjoins, literal_of}
use Rattle.vg_kernel.proofs.Scripts.{Spells, Spells-append, ok_once, fault-some, next-found, expect-found}
use Rattle.vg_kernel.proofs.Sizes.{width_behind-found}
use Rattle.vg_kernel.proofs.PlacesFound.{address-found}

-- An expression was read: the words that it has, what it counts for, and how deep it is at most.
pub record Found (names : Names) (most level : ℕ) (s : Scan) (p : Part) : Type 0 where
  pub words : Words
  pub is : IsExpression names level p.depth words p.expression
  pub spells : Spells s.reading words p.scan.reading
  pub used : p.scan.used ≡ s.used + expression_cost p.expression
  pub few : s.used ≤ 8192 → p.scan.used ≤ 8192
  pub deep : p.depth ≤ most

-- whatever a reader of inner expressions gives is in the language, and at most so deep
abbrev pub Sound : Names → ℕ → Inner → Type 0
Sound names room inner = (level : ℕ) (s : Scan) (p : Part) → inner level s ≡ Ok p → Found names room level s p

abbrev pub at : Reading → ℕ → Scan
at r used = record { reading = r; used = used }

counted-found : (place : Place) (used more : ℕ) → counted place used ≡ Ok more → (more ≡ used + 1) × (used < 8192)
counted-found place used more e =
    let t = tested_ok (nat_lt used 8192) (Ok (used + 1)) (TooMany place) e in
    (sym (ok_once (used + 1) more t.1), ltb-true used 8192 t.0)

pub judged-found : {A : Type 0} (place : Place) (used : ℕ) (node : Option A) (x : A × ℕ) → judged place used node ≡ Ok x → (node ≡ Some x.0) × (x.1 ≡ used + 1) × (used < 8192)
judged-found place used node x e =
    let c = bind_ok (counted place used) _ e in
    let n = bind_ok (or_fault node (WidthMismatch place)) _ c.2 in
    let k = counted-found place used c.0 c.1 in
    let same = ok_once (n.0, c.0) x n.2 in
    (fault-some node _ n.0 n.1 ∙ ap (λ (q : _). Some q.0) same, sym (ap (λ (q : _). q.1) same) ∙ k.0, k.1)

-- `)` after an operation
pub closed-found : (node : Expression) (depth : ℕ) (r : Reading) (used : ℕ) (p : Part) → closed_at node depth r used ≡ Ok p
    → (closing : Spelled) × Is closing (codes ")") × Spells r (closing ∷ []) p.scan.reading × (p ≡ record { expression = node; depth = depth + 1; scan = at p.scan.reading used })
unfolding closed_at
closed-found node depth r used p e =
    let c = bind_ok (expect_at (codes ")") r) _ e in
    let w = expect-found 41 [] r c.0 c.1 in
    let same = ok_once (record { expression = node; depth = depth + 1; scan = at c.0 used }) p c.2 in
    let reading : c.0 ≡ p.scan.reading = ap (λ (q : Part). q.scan.reading) same in
    (w.0, w.1, subst (λ (q : Reading). Spells r (w.0 ∷ []) q) reading w.2, sym same ∙ ap (λ (q : Reading). record { expression = node; depth = depth + 1; scan = at q used }) reading)

-- a literal after its digits
pub literal-found : (minus : Bool) (first : Place) (digits : Spelled) (r : Reading) (used : ℕ) (p : Part) → literal_at minus first digits r used ≡ Ok p
    → (type : Spelled) × (w : Width) × (n : ℕ) × IsLiteral minus digits type w n × Spells r (type ∷ []) p.scan.reading × (p ≡ leaf_part (literal w n) p.scan.reading used)
unfolding literal_at
literal-found minus first digits r used p e =
    let m = bind_ok (or_fault (decimal_value digits.bytes) (Shape digits.place)) _ e in
    let t = bind_ok (next_at r) _ m.2 in
    let w = bind_ok (or_fault (if adjoins digits t.0.0 then width_behind (codes "i") t.0.0.bytes else None) (Shape t.0.0.place)) _ t.2 in
    let v = bind_ok (or_fault (literal_of minus w.0 m.0) (LiteralRange first)) _ w.2 in
    let typed = two_ways (adjoins digits t.0.0) (width_behind (codes "i") t.0.0.bytes) w.0 (fault-some _ _ w.0 w.1) in
    let spelled = width_behind-found (codes "i") t.0.0.bytes w.0 typed.1 in
    let word = next-found r t.0 t.1 (λ none. let no : [] ≡ sized (codes "i") w.0 = sym none ∙ spelled in cc) in
    let same = ok_once (leaf_part (literal w.0 v.0) t.0.1 used) p v.2 in
    let reading : t.0.1 ≡ p.scan.reading = ap (λ (q : Part). q.scan.reading) same in (
      t.0.0,
      w.0,
      v.0,
      (m.0, fault-some _ _ m.0 m.1, typed.0, spelled, fault-some _ _ v.0 v.1),
      subst (λ (q : Reading). Spells r (t.0.0 ∷ []) q) reading word,
      sym same ∙ ap (λ (q : Reading). leaf_part (literal w.0 v.0) q used) reading,
    )
  where
    two_ways : (b : Bool) (o : Option Width) (w : Width) → (if b then o else None) ≡ Some w → (b ≡ true) × (o ≡ Some w)
    two_ways true o w e = (refl, e)
    two_ways false o w e = cc

-- a part that counts for nothing
pub leaf-found : (names : Names) (room : ℕ) (r : Reading) (used : ℕ) (p : Part) (e : Expression) (ws : Words) → IsExpression names 0 1 ws e → expression_cost e ≡ 0 → Spells r ws p.scan.reading → p ≡ leaf_part e p.scan.reading used → Found names (room + 1) 0 (at r used) p
leaf-found names room r used p e ws is free spells same =
    subst (λ (q : Part). Found names (room + 1) 0 (at r used) q) (sym same) (record { words = ws; is = is; spells = spells; used = omega (arith, free); few = λ h. h; deep = omega arith })

-- a load after its name
pub load-found : (names : Names) (room : ℕ) (r0 r : Reading) (word : Spelled) (width : Width) (used : ℕ) (p : Part) → Spells r0 (word ∷ []) r → Is word (sized (codes "load") width) → load_at names width word.place r used ≡ Ok p → Found names (room + 1) 0 (at r0 used) p
unfolding load_at
load-found names room r0 r word width used p first is e =
    let m = bind_ok (counted word.place used) _ e in
    let o = bind_ok (expect_at (codes "(") r) _ m.2 in
    let a = bind_ok (address_at names o.0) _ o.2 in
    let c = bind_ok (expect_at (codes ")") a.0.1) _ a.2 in
    let k = counted-found word.place used m.0 m.1 in
    let opening = expect-found 40 [] r o.0 o.1 in
    let place = address-found names o.0 a.0 a.1 in
    let closing = expect-found 41 [] a.0.1 c.0 c.1 in
    let all = Spells-append r0 r c.0 (word ∷ []) (opening.0 ∷ (place.0 ++ closing.0 ∷ [])) first
    (Spells-append r o.0 c.0 (opening.0 ∷ []) (place.0 ++ closing.0 ∷ []) opening.2 (Spells-append o.0 a.0.1 c.0 place.0 (closing.0 ∷ []) place.2 closing.2)) in
    subst (λ (q : Part). Found names (room + 1) 0 (at r0 used) q) (ok_once (leaf_part (load width a.0.0) c.0 m.0) p c.2)
    (record {
      words = word ∷ opening.0 ∷ (place.0 ++ closing.0 ∷ []);
      is = read word opening.0 closing.0 place.0 width a.0.0 is opening.1 place.1 closing.1;
      spells = all;
      used = k.0;
      few = λ h. omega (arith, k.0, k.1);
      deep = omega arith;
    })

-- an expression in parentheses
pub parenthesised-found : (names : Names) (room : ℕ) (inner : Inner) → Sound names room inner → (r0 r : Reading) (opening : Spelled) (used : ℕ) (p : Part) → Spells r0 (opening ∷ []) r → Is opening (codes "(") → parenthesised_at inner r used ≡ Ok p → Found names (room + 1) 0 (at r0 used) p
unfolding parenthesised_at
parenthesised-found names room inner sound r0 r opening used p first is e =
    let i = bind_ok (whole_at inner r used) _ e in
    let c = bind_ok (expect_at (codes ")") i.0.scan.reading) _ i.2 in
    let f = sound 5 (at r used) i.0 i.1 in
    let closing = expect-found 41 [] i.0.scan.reading c.0 c.1 in
    subst (λ (q : Part). Found names (room + 1) 0 (at r0 used) q) (ok_once (record { expression = i.0.expression; depth = i.0.depth + 1; scan = at c.0 i.0.scan.used }) p c.2)
    (record {
      words = opening ∷ (f.words ++ closing.0 ∷ []);
      is = parenthesised opening closing.0 i.0.depth f.words i.0.expression is f.is closing.1;
      spells = Spells-append r0 r c.0 (opening ∷ []) (f.words ++ closing.0 ∷ []) first (Spells-append r i.0.scan.reading c.0 f.words (closing.0 ∷ []) f.spells closing.2);
      used = f.used;
      few = f.few;
      deep = omega (arith, f.deep);
    })

-- two expressions with a comma between
pub record Pair (names : Names) (room : ℕ) (s : Scan) (x y : Part) : Type 0 where
  pub comma : Spelled
  pub is_comma : Is comma (codes ",")
  pub between : Reading
  pub first : Found names room 5 s x
  pub spells : Spells x.scan.reading (comma ∷ []) between
  pub second : Found names room 5 (at between x.scan.used) y

pub pair-found : (names : Names) (room : ℕ) (inner : Inner) → Sound names room inner → (r : Reading) (used : ℕ) (x : Part × Part) → pair_at inner r used ≡ Ok x → Pair names room (at r used) x.0 x.1
unfolding pair_at
pair-found names room inner sound r used x e =
    let a = bind_ok (whole_at inner r used) _ e in
    let c = bind_ok (expect_at (codes ",") a.0.scan.reading) _ a.2 in
    let b = bind_ok (whole_at inner c.0 a.0.scan.used) _ c.2 in
    let w = expect-found 44 [] a.0.scan.reading c.0 c.1 in
    subst (λ (q : Part × Part). Pair names room (at r used) q.0 q.1) (ok_once (a.0, b.0) x b.2)
    (record { comma = w.0; is_comma = w.1; between = c.0; first = sound 5 (at r used) a.0 a.1; spells = w.2; second = sound 5 (at c.0 a.0.scan.used) b.0 b.1 })

-- the cost of an operation is one more than that of its operands
pub pair-cost : (f : Function) (x y e : Expression) → pair_node f x y ≡ Some e → expression_cost e ≡ expression_cost x + expression_cost y + 1
pair-cost (functions.Two op) x y e h = by (common_width x y) h
  where
    by : (o : Option Width) → option_map (λ w. two op w x y) o ≡ Some e → expression_cost e ≡ expression_cost x + expression_cost y + 1
    by (Some w) h = let s : two op w x y ≡ e = cc in rw (← s) refl
    by None h = cc
pair-cost (functions.Compare op) x y e h = by (common_width x y) h
  where
    by : (o : Option Width) → option_map (λ w. compare op w x y) o ≡ Some e → expression_cost e ≡ expression_cost x + expression_cost y + 1
    by (Some w) h = let s : compare op w x y ≡ e = cc in rw (← s) refl
    by None h = cc
pair-cost (functions.Shift op) x y e h = cc
pair-cost (functions.Resize op w) x y e h = cc
pair-cost functions.Select x y e h = cc

pub resize-cost : (op : Resize) (to : Width) (x e : Expression) → resize_node op to x ≡ Some e → expression_cost e ≡ expression_cost x + 1
resize-cost op to x e h = by (width_in x) h
  where
    at_width : (v : Width) (b : Bool) → (if b then Some (resize op to v x) else None) ≡ Some e → expression_cost e ≡ expression_cost x + 1
    at_width v true h = let s : resize op to v x ≡ e = cc in rw (← s) refl
    at_width v false h = cc

    by : (o : Option Width) → (o >>= λ v. if is_resize op to v then Some (resize op to v x) else None) ≡ Some e → expression_cost e ≡ expression_cost x + 1
    by (Some v) h = at_width v (is_resize op to v) h
    by None h = cc

pub select-cost : (c x y e : Expression) → select_node c x y ≡ Some e → expression_cost e ≡ expression_cost c + expression_cost x + expression_cost y + 1
select-cost c x y e h = by_bit (is_bit c) h
  where
    by : (o : Option Width) → option_map (λ w. select w c x y) o ≡ Some e → expression_cost e ≡ expression_cost c + expression_cost x + expression_cost y + 1
    by (Some w) h = let s : select w c x y ≡ e = cc in rw (← s) refl
    by None h = cc

    by_bit : (b : Bool) → (if b then option_map (λ w. select w c x y) (common_width x y) else None) ≡ Some e → expression_cost e ≡ expression_cost c + expression_cost x + expression_cost y + 1
    by_bit true h = by (common_width x y) h
    by_bit false h = cc
