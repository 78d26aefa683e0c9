-- Entries of a catalogue as ghost values.
use Rattle.std.proofs.Common.{◌≡◌, ℕ, List, ap, refl, arith}
use Rattle.std.specs.Coded.{Coded, codes}
use base.Stored.{Gv, gnum, gcons, num, gnil}
use Rattle.vg_forms.specs.Coded.{first, kind, rest}
use Rattle.vg_base.specs.declared.width.Width.{Width}
use Rattle.vg_text.specs.declared.place.Place.{Place}
use Rattle.vg_pseudo.specs.declared.spot.Spot.{Spot}
use Rattle.vg_pseudo.specs.declared.operators.UnaryOp.{UnaryOp}
use Rattle.vg_pseudo.specs.declared.operators.BinaryOp.{BinaryOp}
use Rattle.vg_pseudo.specs.Tree.{Expression, Arguments, Statements}
use Rattle.vg_pseudo.specs.Tree.{number, name, slice, bit, element, part, unary, binary, choice, call, end, more}
use Rattle.vg_pseudo.specs.Tree.{stop, assign, above, repeat, choose, way, last, pick, arm}

pub spot_code : Coded Spot
spot_code = Prim.hlevel codes

pub place_code : Coded Place
place_code = Prim.hlevel codes

pub width_code : Coded Width
width_code = Prim.hlevel codes

pub unary_code : Coded UnaryOp
unary_code = Prim.hlevel codes

pub binary_code : Coded BinaryOp
binary_code = Prim.hlevel codes

pub bytes_code : Coded (List ℕ)
bytes_code = Prim.hlevel codes

-- the kind of a node, and what stands in it
abbrev pub node : ℕ → Gv → Gv → Gv → Gv → Gv
node kind a b c d = gcons (gnum kind) (gcons a (gcons b (gcons c d)))

abbrev one : Gv → Gv
one g = first (rest g)

abbrev two : Gv → Gv
two g = first (rest (rest g))

abbrev three : Gv → Gv
three g = first (rest (rest (rest g)))

abbrev four : Gv → Gv
four g = rest (rest (rest (rest g)))

-- ---- expressions

abbrev mutual
  pub expression : Expression → Gv
  expression (number s n) = node 0 (spot_code.code s) (gnum n) gnil gnil
  expression (name s n) = node 1 (spot_code.code s) (bytes_code.code n) gnil gnil
  expression (slice s n h l) = node 2 (spot_code.code s) (bytes_code.code n) (expression h) (expression l)
  expression (bit s n k) = node 3 (spot_code.code s) (bytes_code.code n) (expression k) gnil
  expression (element s n w k) = node 4 (spot_code.code s) (bytes_code.code n) (width_code.code w) (expression k)
  expression (part s n w) = node 5 (spot_code.code s) (bytes_code.code n) (width_code.code w) gnil
  expression (unary s o x) = node 6 (spot_code.code s) (unary_code.code o) (expression x) gnil
  expression (binary s o x y) = node 7 (spot_code.code s) (binary_code.code o) (expression x) (expression y)
  expression (choice s c x y) = node 8 (spot_code.code s) (expression c) (expression x) (expression y)
  expression (call s n a) = node 9 (spot_code.code s) (bytes_code.code n) (arguments a) gnil

  pub arguments : Arguments → Gv
  arguments end = node 0 gnil gnil gnil gnil
  arguments (more x a) = node 1 (expression x) (arguments a) gnil gnil

mutual
  pub same_expression : (t u : Expression) → expression t ≡ expression u → t ≡ u
  same_expression (number s n) (number r m) p = λ i. number (spot_code.inj s r (ap one p) i) (ap (λ g. num (two g)) p i)
  same_expression (name s n) (name r m) p = λ i. name (spot_code.inj s r (ap one p) i) (bytes_code.inj n m (ap two p) i)
  same_expression (slice s n h l) (slice r m g k) p =
      λ i. slice (spot_code.inj s r (ap one p) i) (bytes_code.inj n m (ap two p) i) (same_expression h g (ap three p) i) (same_expression l k (ap four p) i)
  same_expression (bit s n k) (bit r m l) p =
      λ i. bit (spot_code.inj s r (ap one p) i) (bytes_code.inj n m (ap two p) i) (same_expression k l (ap three p) i)
  same_expression (element s n w k) (element r m v l) p =
      λ i. element (spot_code.inj s r (ap one p) i) (bytes_code.inj n m (ap two p) i) (width_code.inj w v (ap three p) i) (same_expression k l (ap four p) i)
  same_expression (part s n w) (part r m v) p =
      λ i. part (spot_code.inj s r (ap one p) i) (bytes_code.inj n m (ap two p) i) (width_code.inj w v (ap three p) i)
  same_expression (unary s o x) (unary r q y) p =
      λ i. unary (spot_code.inj s r (ap one p) i) (unary_code.inj o q (ap two p) i) (same_expression x y (ap three p) i)
  same_expression (binary s o x y) (binary r q z u) p =
      λ i. binary (spot_code.inj s r (ap one p) i) (binary_code.inj o q (ap two p) i) (same_expression x z (ap three p) i) (same_expression y u (ap four p) i)
  same_expression (choice s c x y) (choice r d z u) p =
      λ i. choice (spot_code.inj s r (ap one p) i) (same_expression c d (ap two p) i) (same_expression x z (ap three p) i) (same_expression y u (ap four p) i)
  same_expression (call s n a) (call r m b) p =
      λ i. call (spot_code.inj s r (ap one p) i) (bytes_code.inj n m (ap two p) i) (same_arguments a b (ap three p) i)
  same_expression (number s n) _ p = absurd (let e = ap kind p in omega (arith, e))
  same_expression (name s n) _ p = absurd (let e = ap kind p in omega (arith, e))
  same_expression (slice s n h l) _ p = absurd (let e = ap kind p in omega (arith, e))
  same_expression (bit s n k) _ p = absurd (let e = ap kind p in omega (arith, e))
  same_expression (element s n w k) _ p = absurd (let e = ap kind p in omega (arith, e))
  same_expression (part s n w) _ p = absurd (let e = ap kind p in omega (arith, e))
  same_expression (unary s o x) _ p = absurd (let e = ap kind p in omega (arith, e))
  same_expression (binary s o x y) _ p = absurd (let e = ap kind p in omega (arith, e))
  same_expression (choice s c x y) _ p = absurd (let e = ap kind p in omega (arith, e))
  same_expression (call s n a) _ p = absurd (let e = ap kind p in omega (arith, e))

  pub same_arguments : (t u : Arguments) → arguments t ≡ arguments u → t ≡ u
  same_arguments end end p = refl
  same_arguments (more x a) (more y b) p =
      λ i. more (same_expression x y (ap one p) i) (same_arguments a b (ap two p) i)
  same_arguments end _ p = absurd (let e = ap kind p in omega (arith, e))
  same_arguments (more x a) _ p = absurd (let e = ap kind p in omega (arith, e))

abbrev pub expression_code : Coded Expression
expression_code = record { code = expression; inj = same_expression }

-- ---- statements

abbrev pub statements : Statements → Gv
statements stop = node 0 gnil gnil gnil gnil
statements (assign p t e s) = node 1 (place_code.code p) (expression t) (expression e) (statements s)
statements (above p n l e s) =
    node 2 (gcons (place_code.code p) (bytes_code.code n)) (expression l) (expression e) (statements s)
statements (repeat p n a b s t) =
    node 3 (gcons (place_code.code p) (bytes_code.code n)) (gcons (expression a) (expression b)) (statements s) (statements t)
statements (choose a s) = node 4 (statements a) (statements s) gnil gnil
statements (way c s a) = node 5 (expression c) (statements s) (statements a) gnil
statements (last s) = node 6 (statements s) gnil gnil gnil
statements (pick e a s) = node 7 (expression e) (statements a) (statements s) gnil
statements (arm n s a) = node 8 (gnum n) (statements s) (statements a) gnil

pub same_statements : (t u : Statements) → statements t ≡ statements u → t ≡ u
same_statements stop stop p = refl
same_statements (assign q t e s) (assign r u f v) p =
    λ i. assign (place_code.inj q r (ap one p) i) (same_expression t u (ap two p) i) (same_expression e f (ap three p) i) (same_statements s v (ap four p) i)
same_statements (above q n l e s) (above r m k f v) p =
    λ i. above (place_code.inj q r (ap (λ g. first (one g)) p) i) (bytes_code.inj n m (ap (λ g. rest (one g)) p) i) (same_expression l k (ap two p) i) (same_expression e f (ap three p) i)
    (same_statements s v (ap four p) i)
same_statements (repeat q n a b s t) (repeat r m c d u v) p =
    λ i. repeat (place_code.inj q r (ap (λ g. first (one g)) p) i) (bytes_code.inj n m (ap (λ g. rest (one g)) p) i) (same_expression a c (ap (λ g. first (two g)) p) i)
    (same_expression b d (ap (λ g. rest (two g)) p) i) (same_statements s u (ap three p) i) (same_statements t v (ap four p) i)
same_statements (choose a s) (choose b t) p =
    λ i. choose (same_statements a b (ap one p) i) (same_statements s t (ap two p) i)
same_statements (way c s a) (way d t b) p =
    λ i. way (same_expression c d (ap one p) i) (same_statements s t (ap two p) i) (same_statements a b (ap three p) i)
same_statements (last s) (last t) p = λ i. last (same_statements s t (ap one p) i)
same_statements (pick e a s) (pick f b t) p =
    λ i. pick (same_expression e f (ap one p) i) (same_statements a b (ap two p) i) (same_statements s t (ap three p) i)
same_statements (arm n s a) (arm m t b) p =
    λ i. arm (ap (λ g. num (one g)) p i) (same_statements s t (ap two p) i) (same_statements a b (ap three p) i)
same_statements stop _ p = absurd (let e = ap kind p in omega (arith, e))
same_statements (assign q t e s) _ p = absurd (let k = ap kind p in omega (arith, k))
same_statements (above q n l e s) _ p = absurd (let k = ap kind p in omega (arith, k))
same_statements (repeat q n a b s t) _ p = absurd (let k = ap kind p in omega (arith, k))
same_statements (choose a s) _ p = absurd (let k = ap kind p in omega (arith, k))
same_statements (way c s a) _ p = absurd (let k = ap kind p in omega (arith, k))
same_statements (last s) _ p = absurd (let k = ap kind p in omega (arith, k))
same_statements (pick e a s) _ p = absurd (let k = ap kind p in omega (arith, k))
same_statements (arm n s a) _ p = absurd (let k = ap kind p in omega (arith, k))

abbrev pub statements_code : Coded Statements
statements_code = record { code = statements; inj = same_statements }
