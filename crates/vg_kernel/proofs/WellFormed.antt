-- What is in the language is well formed.
use Rattle.std.proofs.Common.{◌≡◌, ℕ, zero, suc, ◌+◌, ◌-◌, ◌<◌, ◌≤◌, ◌^◌, ◌==◌, Bool, true, false, List, [], ◌∷◌, ◌++◌, length, map, Option, Some, None, ℤ, refl, sym, ◌∙◌, ap, subst, inl, inr, arith, append-nil}
use Rattle.std.specs.Prelude.{pos, negsuc, nat_lt, IsTrue, max, slice_get, if◌then◌else◌}
use Rattle.std.specs.List.{AllByRecursion}
use Rattle.std.specs.Option.{option_map}
use Rattle.std.specs.Str.{bytes_eq}
use Rattle.std.proofs.lemmas.Bool.{ltb-true, eqb-true}
use Rattle.std.proofs.lemmas.List.{map-append}
use Rattle.std.proofs.lemmas.Nat.{pow_pos}
use Rattle.vg_base.specs.Offset.{IsOffset, IsAddress}
use Rattle.vg_base.specs.Trap.{◌>>=◌}
use Rattle.vg_base.proofs.Bind.{either_way}
use Rattle.vg_base.specs.declared.address.Address.{Address}
use Rattle.vg_base.specs.declared.width.Width.{Width}
use Rattle.vg_base.specs.Width.{bits_of}
use Rattle.vg_scalar.specs.declared.resize.Resize.{Resize}
use Rattle.vg_kernel.specs.declared.function.Function.{Function}
use Rattle.vg_kernel.specs.declared.function.Function.TheVariants as functions
use Rattle.vg_kernel.specs.declared.given.Given.{Given}
use Rattle.vg_kernel.specs.declared.given.Given.TheVariants as given
use Rattle.vg_kernel.specs.declared.parameter.KParam.{KParam}
use Rattle.vg_kernel.specs.declared.parameter.KParamKind.{KParamKind}
use Rattle.vg_kernel.specs.declared.parameter.KParamKind.TheVariants.{Pointer, Integer}
use Rattle.vg_kernel.specs.declared.value_type.ValueType.{ValueType}
use Rattle.vg_kernel.specs.declared.value_type.ValueType.TheVariants as types
use Rattle.vg_kernel.specs.Grammar as grammar
use Rattle.vg_kernel.specs.Grammar.{value_given}
use Rattle.vg_kernel.specs.Names.{AssignedName, Names, is_pointer, given_of, parameter_named, assigned_named, given_as, names_of, with_name}
use Rattle.vg_kernel.specs.Nodes.{width_of_type, width_in, one_width, common_width, pair_node, is_resize, resize_node, is_bit, select_node}
use Rattle.vg_kernel.specs.Script.{Words}
use Rattle.vg_kernel.specs.Tree.{Expression, argument, assigned, two, resize, compare, select, Statement, assign, store, Tree, type_of, gives}
use Rattle.vg_kernel.specs.WellFormed.{pointers, integer_widths, IsExpression, depth, IsStatement, AreStatements, IsWellFormed}
use Rattle.vg_kernel.specs.Words.{is_free, first_of, offset_of, literal_of}
use Rattle.vg_base.proofs.SameWidth.{width-same}

some_once : {A : Type 0} (x y : A) → Some x ≡ Some y → x ≡ y
some_once x y e = cc

-- what a name stands for is there: a pointer among the pointers, an integer with its width
IsThere : List KParam → List ValueType → Given → Type 0
IsThere params types (given.Pointer k) = k < length (pointers params)
IsThere params types (given.Argument k w) = slice_get (integer_widths params) k ≡ Some w
IsThere params types (given.Assigned k t) = slice_get types k ≡ Some t

-- the types of the names given by statements
abbrev pub types_in : Names → List ValueType
types_in names = map (λ (a : AssignedName). a.value_type) names.assigned

-- the same, after so many pointers and so many integers
IsThereFrom : ℕ → ℕ → List KParam → Given → Type 0
IsThereFrom pointers_before integers_before ps (given.Pointer k) = (j : ℕ) × (k ≡ pointers_before + j) × (j < length (pointers ps))
IsThereFrom pointers_before integers_before ps (given.Argument k w) = (j : ℕ) × (k ≡ integers_before + j) × (slice_get (integer_widths ps) j ≡ Some w)
IsThereFrom pointers_before integers_before ps (given.Assigned k t) = ⊥

-- the pointers and the widths with one parameter more
with_pointer : (p : KParam) (ps : List KParam) (noalias : Bool) → p.kind ≡ Pointer noalias → (length (pointers (p ∷ ps)) ≡ length (pointers ps) + 1) × (integer_widths (p ∷ ps) ≡ integer_widths ps)
with_pointer p ps noalias e = (rw e (omega arith), rw e refl)

with_integer : (p : KParam) (ps : List KParam) (w : Width) → p.kind ≡ Integer w → (length (pointers (p ∷ ps)) ≡ length (pointers ps)) × (integer_widths (p ∷ ps) ≡ w ∷ integer_widths ps)
with_integer p ps w e = (rw e refl, rw e refl)

-- the first parameter is there
first-there : (p : KParam) (ps : List KParam) (n m : ℕ) → IsThereFrom n m (p ∷ ps) (given_of p.kind n m)
unfolding IsThereFrom
first-there p ps n m = by p.kind refl
  where
    by : (k : KParamKind) → p.kind ≡ k → IsThereFrom n m (p ∷ ps) (given_of k n m)
    by (Pointer noalias) e = (0, omega arith, rw e (omega arith))
    by (Integer w) e = (0, omega arith, rw e refl)

-- one that is there after a parameter is there with it
later-there : (p : KParam) (ps : List KParam) (n m : ℕ) (g : Given) → (is_pointer p.kind ≡ true → IsThereFrom (n + 1) m ps g) → (is_pointer p.kind ≡ false → IsThereFrom n (m + 1) ps g) → IsThereFrom n m (p ∷ ps) g
unfolding IsThereFrom
later-there p ps n m (given.Pointer k) f h = by p.kind refl
  where
    by : (q : KParamKind) → p.kind ≡ q → (j : ℕ) × (k ≡ n + j) × (j < length (pointers (p ∷ ps)))
    by (Pointer noalias) e = let x = f (ap is_pointer e) in let c = with_pointer p ps noalias e in (x.0 + 1, omega (arith, x.1), omega (arith, x.2, c.0))
    by (Integer w) e = let x = h (ap is_pointer e) in let c = with_integer p ps w e in (x.0, x.1, omega (arith, x.2, c.0))
later-there p ps n m (given.Argument k v) f h = by p.kind refl
  where
    by : (q : KParamKind) → p.kind ≡ q → (j : ℕ) × (k ≡ m + j) × (slice_get (integer_widths (p ∷ ps)) j ≡ Some v)
    by (Pointer noalias) e = let x = f (ap is_pointer e) in let c = with_pointer p ps noalias e in (x.0, x.1, ap (λ (l : List Width). slice_get l x.0) c.1 ∙ x.2)
    by (Integer w) e = let x = h (ap is_pointer e) in let c = with_integer p ps w e in (suc x.0, omega (arith, x.1), ap (λ (l : List Width). slice_get l (suc x.0)) c.1 ∙ x.2)
later-there p ps n m (given.Assigned k t) f h = by (is_pointer p.kind) refl
  where
    by : (b : Bool) → is_pointer p.kind ≡ b → ⊥
    by true e = f e
    by false e = h e

parameter-there : (ps : List KParam) (n m : ℕ) (name : List ℕ) (g : Given) → parameter_named n m ps name ≡ Some g → IsThereFrom n m ps g
unfolding parameter_named
parameter-there [] n m name g e = absurd (cc)
parameter-there (p ∷ ps) n m name g e =
    elim (either_way (bytes_eq p.name name) (Some (given_of p.kind n m)) _ e) [
      | inl found ↦ subst (IsThereFrom n m (p ∷ ps)) (some_once _ g found.1) (first-there p ps n m)
      | inr more ↦
          later-there p ps n m g (λ t. parameter-there ps (n + 1) m name g (ap (λ (b : Bool). if b then parameter_named (n + 1) m ps name else parameter_named n (m + 1) ps name) (sym t) ∙ more.1))
          (λ t. parameter-there ps n (m + 1) name g (ap (λ (b : Bool). if b then parameter_named (n + 1) m ps name else parameter_named n (m + 1) ps name) (sym t) ∙ more.1))
    ]

-- a name given by a statement is there
assigned-there : (rest : List AssignedName) (n : ℕ) (name : List ℕ) (g : Given) → assigned_named n rest name ≡ Some g
    → (j : ℕ) × (t : ValueType) × (g ≡ given.Assigned (n + j) t) × (slice_get (map (λ (a : AssignedName). a.value_type) rest) j ≡ Some t)
unfolding assigned_named
assigned-there [] n name g e = absurd (cc)
assigned-there (a ∷ rest) n name g e =
    elim (either_way (bytes_eq a.name name) (Some (given.Assigned n a.value_type)) _ e) [
      | inl found ↦ (let zero_more : n + 0 ≡ n = omega arith in (0, a.value_type, sym (some_once _ g found.1) ∙ ap (λ (k : ℕ). given.Assigned k a.value_type) (sym zero_more), refl))
      | inr more ↦
          let x = assigned-there rest (n + 1) name g more.1 in
          let same : n + 1 + x.0 ≡ n + suc x.0 = omega arith in
          (suc x.0, x.1, x.2 ∙ ap (λ (k : ℕ). given.Assigned k x.1) same, x.3)
    ]

given-there : (names : Names) (name : List ℕ) (g : Given) → given_as names name ≡ Some g → IsThere names.params (types_in names) g
unfolding IsThere IsThereFrom
given-there names name g e = by (parameter_named 0 0 names.params name) refl e
  where
    from_start : (g : Given) → IsThereFrom 0 0 names.params g → IsThere names.params (types_in names) g
    from_start (given.Pointer k) x = omega (arith, x.1, x.2)
    from_start (given.Argument k w) x = let same : k ≡ x.0 = omega (arith, x.1) in rw same x.2
    from_start (given.Assigned k t) x = absurd x

    by : (o : Option Given) → parameter_named 0 0 names.params name ≡ o → first_of o (assigned_named 0 names.assigned name) ≡ Some g → IsThere names.params (types_in names) g
    by (Some h) k e = from_start g (parameter-there names.params 0 0 name g (k ∙ e))
    by None k e =
        let x = assigned-there names.assigned 0 name g e in
        let zero_more : 0 + x.0 ≡ x.0 = omega arith in
        subst (IsThere names.params (types_in names)) (sym (x.2 ∙ ap (λ (n : ℕ). given.Assigned n x.1) zero_more)) x.3

-- an offset that is read has 32 bits
offset_of-fits : (negative : Bool) (n : ℕ) (offset : ℤ) → offset_of negative n ≡ Some offset → IsOffset offset
offset_of-fits true zero offset e = subst IsOffset (some_once (pos 0) offset e) (omega arith)
offset_of-fits true (suc n) offset e = elim (either_way (nat_lt n (2 ^ 31)) (Some (negsuc n)) None e) [
  | inl fits ↦ subst IsOffset (some_once (negsuc n) offset fits.1) (ltb-true n (2 ^ 31) fits.0)
  | inr out ↦ cc
]
offset_of-fits false n offset e = elim (either_way (nat_lt n (2 ^ 31)) (Some (pos n)) None e) [
  | inl fits ↦ subst IsOffset (some_once (pos n) offset fits.1) (ltb-true n (2 ^ 31) fits.0)
  | inr out ↦ cc
]

-- where an access begins
address-well_formed : (names : Names) (ws : Words) (a : Address) → grammar.SpellsAddress names ws a → IsAddress (length (pointers names.params)) a
unfolding IsThere
address-well_formed names [] a is = absurd is
address-well_formed names (p ∷ []) a is = record { pointer = given-there names p.bytes (given.Pointer a.pointer) is.0.1; offset = subst IsOffset (sym is.1) (omega arith) }
address-well_formed names (p ∷ s ∷ []) a is = absurd is
address-well_formed names (p ∷ s ∷ d ∷ []) a is = record {
  pointer = given-there names p.bytes (given.Pointer a.pointer) is.0.1;
  offset = elim is.1 [ inl plus ↦ offset_of-fits false plus.1.0 a.offset plus.1.2 | inr minus ↦ offset_of-fits true minus.1.0 a.offset minus.1.2 ];
}
address-well_formed names (p ∷ s ∷ d ∷ x ∷ xs) a is = absurd is

-- a literal lies below 2 to its width
literal_of-below : (negative : Bool) (w : Width) (m n : ℕ) → literal_of negative w m ≡ Some n → n < 2 ^ bits_of w
literal_of-below true w zero n e = let same = some_once 0 n e in omega (arith, same, pow_pos (bits_of w))
literal_of-below true w (suc m) n e = elim (either_way (nat_lt m (2 ^ (bits_of w - 1))) (Some (2 ^ bits_of w - suc m)) None e) [
  | inl fits ↦ (let same = some_once _ n fits.1 in omega (arith, same, pow_pos (bits_of w)))
  | inr out ↦ cc
]
literal_of-below false w m n e = elim (either_way (nat_lt m (2 ^ bits_of w)) (Some m) None e) [
  | inl fits ↦ subst (λ (k : ℕ). k < 2 ^ bits_of w) (some_once m n fits.1) (ltb-true m (2 ^ bits_of w) fits.0)
  | inr out ↦ cc
]

-- an expression with a width is an integer of that width
width-type : (t : ValueType) (w : Width) → width_of_type t ≡ Some w → t ≡ types.Integer w
width-type types.Bit w e = cc
width-type (types.Integer v) w e = ap types.Integer (some_once v w e)

bit-type : (e : Expression) → is_bit e ≡ true → type_of e ≡ types.Bit
bit-type e h = by (type_of e) h
  where
    by : (t : ValueType) → elim t [ types.Bit ↦ true | types.Integer w ↦ false ] ≡ true → t ≡ types.Bit
    by types.Bit h = refl
    by (types.Integer w) h = cc

-- two integers of one width
common-types : (x y : Expression) (w : Width) → common_width x y ≡ Some w → (type_of x ≡ types.Integer w) × (type_of y ≡ types.Integer w)
common-types x y w h = by (width_in x) (width_in y) refl refl h
  where
    same : (b : Bool) (v u : Width) → (bits_of v == bits_of u) ≡ b → (if b then Some v else None) ≡ Some w → (v ≡ w) × (u ≡ w)
    same true v u k h = let first = some_once v w h in (first, sym (width-same v u (eqb-true (bits_of v) (bits_of u) k)) ∙ first)
    same false v u k h = cc

    by : (a b : Option Width) → width_in x ≡ a → width_in y ≡ b → (a >>= λ v. b >>= λ u. one_width v u) ≡ Some w → (type_of x ≡ types.Integer w) × (type_of y ≡ types.Integer w)
    by (Some v) (Some u) k l h =
        let both = same (bits_of v == bits_of u) v u refl h in
        (width-type (type_of x) w (k ∙ ap Some both.0), width-type (type_of y) w (l ∙ ap Some both.1))
    by (Some v) None k l h = cc
    by None b k l h = cc

-- a node over well-formed operands is well formed
both-width : {A : Type 0} (o : Option Width) (f : Width → A) (e : A) → option_map f o ≡ Some e → (w : Width) × (o ≡ Some w) × (f w ≡ e)
both-width (Some w) f e h = (w, refl, some_once (f w) e h)
both-width None f e h = cc

pair-well_formed : (params : List KParam) (ts : List ValueType) (f : Function) (x y e : Expression) → pair_node f x y ≡ Some e → IsExpression params ts x → IsExpression params ts y → IsExpression params ts e × (depth e ≡ max (depth x) (depth y) + 1)
pair-well_formed params ts (functions.Two op) x y e h i j =
    let b = both-width (common_width x y) (λ w. two op w x y) e h in
    let t = common-types x y b.0 b.1 in
    subst (λ (q : Expression). IsExpression params ts q × (depth q ≡ max (depth x) (depth y) + 1)) b.2 ((t.0, t.1, i, j), refl)
pair-well_formed params ts (functions.Compare op) x y e h i j =
    let b = both-width (common_width x y) (λ w. compare op w x y) e h in
    let t = common-types x y b.0 b.1 in
    subst (λ (q : Expression). IsExpression params ts q × (depth q ≡ max (depth x) (depth y) + 1)) b.2 ((t.0, t.1, i, j), refl)
pair-well_formed params ts (functions.Shift op) x y e h i j = cc
pair-well_formed params ts (functions.Resize op w) x y e h i j = cc
pair-well_formed params ts functions.Select x y e h i j = cc

true_is : (b : Bool) → b ≡ true → IsTrue b
true_is true e = refl
true_is false e = cc

resize-well_formed : (params : List KParam) (ts : List ValueType) (op : Resize) (to : Width) (x e : Expression) → resize_node op to x ≡ Some e → IsExpression params ts x → IsExpression params ts e × (depth e ≡ depth x + 1)
resize-well_formed params ts op to x e h i = by (width_in x) refl h
  where
    by : (o : Option Width) → width_in x ≡ o → (o >>= λ from. if is_resize op to from then Some (resize op to from x) else None) ≡ Some e → IsExpression params ts e × (depth e ≡ depth x + 1)
    by (Some v) k h = elim (either_way (is_resize op to v) (Some (resize op to v x)) None h) [
      | inl fits ↦ subst (λ (q : Expression). IsExpression params ts q × (depth q ≡ depth x + 1)) (some_once _ e fits.1) ((width-type (type_of x) v k, true_is _ fits.0, i), refl)
      | inr out ↦ cc
    ]
    by None k h = cc

select-well_formed : (params : List KParam) (ts : List ValueType) (c x y e : Expression) → select_node c x y ≡ Some e → IsExpression params ts c → IsExpression params ts x → IsExpression params ts y
    → IsExpression params ts e × (depth e ≡ max (depth c) (max (depth x) (depth y)) + 1)
select-well_formed params ts c x y e h i j k = elim (either_way (is_bit c) (option_map (λ w. select w c x y) (common_width x y)) None h) [
  | inl bit ↦
      let b = both-width (common_width x y) (λ w. select w c x y) e bit.1 in
      let t = common-types x y b.0 b.1 in
      subst (λ (q : Expression). IsExpression params ts q × (depth q ≡ max (depth c) (max (depth x) (depth y)) + 1)) b.2 ((bit-type c bit.0, t.0, t.1, i, j, k), refl)
  | inr none ↦ cc
]

value-well_formed : (names : Names) (name : List ℕ) (e : Expression) → (given_as names name >>= value_given) ≡ Some e → IsExpression names.params (types_in names) e × (depth e ≤ 1)
unfolding IsThere
value-well_formed names name e h = by (given_as names name) refl h
  where
    by : (g : Option Given) → given_as names name ≡ g → (g >>= value_given) ≡ Some e → IsExpression names.params (types_in names) e × (depth e ≤ 1)
    by (Some (given.Pointer k)) k' h = cc
    by (Some (given.Argument k w)) k' h =
        subst (λ (q : Expression). IsExpression names.params (types_in names) q × (depth q ≤ 1)) (some_once (argument k w) e h) (given-there names name (given.Argument k w) k', omega arith)
    by (Some (given.Assigned k t)) k' h =
        subst (λ (q : Expression). IsExpression names.params (types_in names) q × (depth q ≤ 1)) (some_once (assigned k t) e h) (given-there names name (given.Assigned k t) k', omega arith)
    by None k' h = cc

-- an expression of the language is well formed, and no deeper than it is written
Fine : Names → ℕ → Expression → Type 0
Fine names d e = IsExpression names.params (types_in names) e × (depth e ≤ d)

expression-well_formed : (names : Names) (level d : ℕ) (ws : Words) (e : Expression) → grammar.IsExpression names level d ws e → Fine names d e
unfolding Fine
expression-well_formed names _ _ _ _ (grammar.name word e v) = value-well_formed names word.bytes e v.1
expression-well_formed names _ _ _ _ (grammar.number digits type w n l) = (literal_of-below false w l.0 n l.4, omega arith)
expression-well_formed names _ _ _ _ (grammar.negative sign digits type w n i l) = (literal_of-below true w l.0 n l.4, omega arith)
expression-well_formed names _ _ _ _ (grammar.read word o c ws w a i j k l) = (address-well_formed names ws a k, omega arith)
expression-well_formed names _ _ _ _ (grammar.parenthesised o c d ws e i j k) = let f = expression-well_formed names 5 d ws e j in (f.0, omega (arith, f.1))
expression-well_formed names _ _ _ _ (grammar.pair f word o m c d d' xs ys x y e i j k l n p q) =
    let g = expression-well_formed names 5 d xs x k in
    let h = expression-well_formed names 5 d' ys y n in
    let r = pair-well_formed names.params (types_in names) f x y e q g.0 h.0 in
    (r.0, omega (arith, r.1, g.1, h.1))
expression-well_formed names _ _ _ _ (grammar.moved op word o m a c d k xs x w i j l n p q t u) =
    let g = expression-well_formed names 5 d xs x l in
    ((width-type (type_of x) w u, q, g.0), omega (arith, g.1))
expression-well_formed names _ _ _ _ (grammar.resized op to word o c d xs x e i j k l n) =
    let g = expression-well_formed names 5 d xs x k in
    let r = resize-well_formed names.params (types_in names) op to x e n g.0 in
    (r.0, omega (arith, r.1, g.1))
expression-well_formed names _ _ _ _ (grammar.chosen word o m m' c d d' d'' cs xs ys t x y e i j k l n p q u v) =
    let f = expression-well_formed names 5 d cs t k in
    let g = expression-well_formed names 5 d' xs x n in
    let h = expression-well_formed names 5 d'' ys y q in
    let r = select-well_formed names.params (types_in names) t x y e v f.0 g.0 h.0 in
    (r.0, omega (arith, r.1, f.1, g.1, h.1))
expression-well_formed names _ _ _ _ (grammar.tighter level d ws e i) = expression-well_formed names level d ws e i
expression-well_formed names _ _ _ _ (grammar.joined op sign level d d' xs ys x y e i j k l n) =
    let g = expression-well_formed names (suc level) d xs x i in
    let h = expression-well_formed names level d' ys y l in
    let r = pair-well_formed names.params (types_in names) (functions.Two op) x y e n g.0 h.0 in
    (r.0, omega (arith, r.1, g.1, h.1))

types-with : (names : Names) (name : List ℕ) (t : ValueType) → types_in (with_name names name t) ≡ types_in names ++ t ∷ []
types-with names name t = rw map-append refl

-- a statement, and the types of the names after it
statement-well_formed : (names : Names) (ws : Words) (s : Statement) (behind : Names) → grammar.IsStatement names ws s behind → IsStatement names.params (types_in names) s × (behind.params ≡ names.params) × (types_in behind ≡ types_in names ++ gives s)
unfolding Fine
statement-well_formed names ws (assign e) behind (word, equals, end, inside, free, fresh, eq, (d, is, deep), ends, same, now) =
    let f = expression-well_formed names 5 d inside e is in
    ((f.0, omega (arith, f.1)), ap (λ (n : Names). n.params) now, ap types_in now ∙ types-with names word.bytes (type_of e))
statement-well_formed names ws (store w a e) behind (word, opening, comma, closing, end, to, from, is, i, place, l, (d, whole, deep), j, k, width, same, now) =
    let f = expression-well_formed names 5 d from e whole in
    ((address-well_formed names to a place, f.0, omega (arith, f.1), width-type (type_of e) w width), ap (λ (n : Names). n.params) now, ap types_in now ∙ sym (append-nil (types_in names)))

pub statements-well_formed : (names : Names) (ws : Words) (ss : List Statement) → grammar.AreStatements names ws ss → AreStatements names.params (types_in names) ss
statements-well_formed names ws [] are = tt
statements-well_formed names ws (s ∷ ss) (front, rest, behind, one, more, same) =
    let f = statement-well_formed names front s behind one in
    let g = statements-well_formed behind rest ss more in
    (f.0, subst (λ (ps : List KParam). AreStatements ps (types_in names ++ gives s) ss) f.1 (subst (λ (ts : List ValueType). AreStatements behind.params ts ss) f.2 g))

more-free : (ws : Words) (ps : List KParam) → grammar.AreMore ws ps → AllByRecursion (λ p. IsTrue (is_free p.name)) ps
more-free ws [] are = tt
more-free ws (p ∷ ps) (comma, front, rest, is, (word, colon, kind, i, free, colon_is, kind_is, words_are), others, same) = (free, more-free rest ps others)

pub names-free : (ws : Words) (ps : List KParam) → grammar.AreParameters ws ps → AllByRecursion (λ p. IsTrue (is_free p.name)) ps
names-free ws [] are = tt
names-free ws (p ∷ ps) (front, rest, (word, colon, kind, i, free, colon_is, kind_is, words_are), others, same) = (free, more-free rest ps others)

pub kernel-well_formed : (text : List ℕ) (k : Tree) → grammar.IsKernelText text k → IsWellFormed k
kernel-well_formed text k is = record {
  name = is.kernel.free;
  names = names-free is.kernel.between k.params is.kernel.params;
  distinct = is.kernel.distinct;
  params = is.kernel.few;
  each = statements-well_formed (names_of k.params) is.kernel.inside k.statements is.kernel.statements;
  statements = is.kernel.lines;
  uses = is.kernel.uses;
}
