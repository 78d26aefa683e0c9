-- What a lane that fits a value tells of the value, and of what the leaves of the lane are bound
-- to.
use Rattle.std.proofs.Common.{◌≡◌, ℕ, ◌+◌, ◌^◌, ◌<◌, ◌≤◌, true, false, List, [], ◌∷◌, ◌++◌, Some, refl, sym, ap, subst, ◌∙◌, ◌⊎◌, inl, inr, get_or}
use Rattle.std.specs.Prelude.{◌&&◌, if◌then◌else◌, nat_eq, Option}
use Rattle.std.specs.List.{AllByRecursion, IsDistinct}
use Rattle.std.proofs.lemmas.Bool.{cases_Bool, cases_lt, cond-false, cond-true, le-ltb, lt-ltb, or_cases}
use Rattle.std.proofs.lemmas.Option.{none-some}
use Rattle.vg_base.specs.Trap.{◌>>=◌}
use Rattle.vg_base.specs.Width.{bits_of}
use Rattle.vg_base.specs.declared.width.Width.{Width}
use Rattle.vg_plans.specs.Members.{Has}
use Rattle.vg_plans.proofs.Lists.{has-append_left, has-append_right}
use Rattle.vg_terms.specs.declared.term.LeafKey.{LeafKey}
use Rattle.vg_terms.specs.Root.{is_constant}
use Rattle.vg_terms.specs.Term.{Tree, leaf, constant, one, two, sel, WellFormed, width_of}
use Rattle.vg_terms.specs.Value.{same_key}
use Rattle.vg_shapes.specs.declared.match_table.Bound.{Bound}
use Rattle.vg_shapes.specs.declared.leaf.Leaf.{Leaf}
use Rattle.vg_shapes.specs.declared.ssa.Ssa.{Ssa}
use Rattle.vg_shapes.specs.declared.ssa_unit.Operands.{Operands}
use Rattle.vg_shapes.specs.declared.ssa_unit.Operator.{Operator}
use Rattle.vg_shapes.specs.declared.ssa_unit.SsaUnit.{SsaUnit}
use Rattle.vg_shapes.specs.declared.ssa_unit.SsaUnit.TheVariants.{Load, Store, Operation}
use Rattle.vg_shapes.specs.declared.wanted.Wanted.{Wanted}
use Rattle.vg_shapes.specs.declared.wanted.Wanted.TheVariants.{Value, Constant, Nothing}
use Rattle.vg_shapes.specs.Fits.{EachLeaf, FitsBy, FitsWide, has_leaf, is_compound, replaced, same_leaf, StandsFor, turned, turned_at, wanted_for}
use Rattle.vg_shapes.specs.Leaves.{leaf_of, leaves}
use Rattle.vg_shapes.specs.Operands.{MayBeWanted}
use Rattle.vg_shapes.specs.Registers.{bits_key, LeavesInside}
use Rattle.vg_shapes.specs.Sound.{AreCuts, cut_at, cut_key, cuts_of, IsSound, IsUnitTerm, name_at, name_of, result_bits, term_at, unit_name, value_bits}
use Rattle.vg_shapes.specs.Units.{arguments, unit_at}
use Rattle.vg_shapes.proofs.Turning.{turned-keeps}
use Rattle.vg_shapes.proofs.ValueTerms.{IsArgumentTerm, IsWorkTerm, known, known-width, unit-width}
use Rattle.vg_shapes.proofs.WholeTables.{none-cut, none-turned}
use Rattle.vg_match.proofs.Binding.{leaf-itself, leaf-same}
use Rattle.vg_match.proofs.Laws.{by-way}
use Rattle.vg_kernel_plans.specs.Wants.{is_wanted}
use Rattle.vg_plan_laws.proofs.Terms.{term-known, term-width, went}

-- ---- leaves

-- what holds of each leaf of a term holds of one that it has
pub leaf-holds : (P : ℕ → LeafKey → Type 0) (t : Tree) (w : ℕ) (k : LeafKey) → EachLeaf P t
    → has_leaf w k t ≡ true → P w k
leaf-holds P (leaf u l) w k h e =
    let same = leaf-same w k (record { key = l; width = u; wanted = Nothing }) e in
    subst (λ x. P x k) (sym same.0) (subst (P u) (sym same.1) h)
leaf-holds P (constant u n) w k h e = absurd (cc)
leaf-holds P (one op u n x) w k h e = leaf-holds P x w k h e
leaf-holds P (two op u x y) w k h e = elim (or_cases (has_leaf w k x) (has_leaf w k y) e) [
  | inl t ↦ leaf-holds P x w k h.0 t
  | inr t ↦ leaf-holds P y w k h.1 t
]
leaf-holds P (sel u c x y) w k h e = elim (or_cases (has_leaf w k c) _ e) [
  | inl t ↦ leaf-holds P c w k h.0 t
  | inr r ↦ elim (or_cases (has_leaf w k x) (has_leaf w k y) r) [
    | inl t ↦ leaf-holds P x w k h.1 t
    | inr t ↦ leaf-holds P y w k h.2 t
  ]
]

-- a leaf that a term has is listed
each-listed : (t : Tree) → EachLeaf (λ w k. Has (leaf_of w k) (leaves t)) t
each-listed t = from t (leaves t) (λ l h. h)
  where
    from : (t : Tree) (ls : List Leaf) → ((l : Leaf) → Has l (leaves t) → Has l ls)
        → EachLeaf (λ w k. Has (leaf_of w k) ls) t
    from (leaf w k) ls into = into (leaf_of w k) (inl refl)
    from (constant w n) ls into = tt
    from (one op w k x) ls into = from x ls into
    from (two op w x y) ls into = (
      from x ls (λ l h. into l (has-append_left l (leaves x) (leaves y) h)),
      from y ls (λ l h. into l (has-append_right l (leaves x) (leaves y) h)),
    )
    from (sel w c x y) ls into = (
      from c ls (λ l h. into l (has-append_left l (leaves c) (leaves x ++ leaves y) h)),
      from x ls (λ l h. into l
          (has-append_right l (leaves c) (leaves x ++ leaves y)
          (has-append_left l (leaves x) (leaves y) h))),
      from y ls (λ l h. into l
          (has-append_right l (leaves c) (leaves x ++ leaves y)
          (has-append_right l (leaves x) (leaves y) h))),
    )

pub leaf-listed : (t : Tree) (w : ℕ) (k : LeafKey) → has_leaf w k t ≡ true
    → Has (leaf_of w k) (leaves t)
leaf-listed t w k e = leaf-holds (λ w k. Has (leaf_of w k) (leaves t)) t w k (each-listed t) e

-- a leaf that a term has is bits inside a parameter
abbrev pub IsInside : List ℕ → ℕ → LeafKey → Type 0
IsInside ws w k =
    (parameter : ℕ) × (low : ℕ) × (k ≡ bits_key parameter low) × (low + w ≤ get_or ws parameter 0)

pub each-inside : (ws : List ℕ) (t : Tree) → LeavesInside ws t → EachLeaf (IsInside ws) t
each-inside ws (leaf w k) h = h
each-inside ws (constant w n) h = tt
each-inside ws (one op w k x) h = each-inside ws x h
each-inside ws (two op w x y) h = (each-inside ws x h.0, each-inside ws y h.1)
each-inside ws (sel w c x y) h = (each-inside ws c h.0, each-inside ws x h.1, each-inside ws y h.2)

-- two facts of each leaf
pub each-both : (P Q R : ℕ → LeafKey → Type 0) → ((w : ℕ) (k : LeafKey) → P w k → Q w k → R w k)
    → (t : Tree) → EachLeaf P t → EachLeaf Q t → EachLeaf R t
each-both P Q R f (leaf w k) p q = f w k p q
each-both P Q R f (constant w n) p q = tt
each-both P Q R f (one op w k x) p q = each-both P Q R f x p q
each-both P Q R f (two op w x y) p q = (each-both P Q R f x p.0 q.0, each-both P Q R f y p.1 q.1)
each-both P Q R f (sel w c x y) p q =
    (each-both P Q R f c p.0 q.0, each-both P Q R f x p.1 q.1, each-both P Q R f y p.2 q.2)

-- ---- what leaves are bound to

-- an entry for a leaf
abbrev pub IsEntry : List Bound → ℕ → LeafKey → Type 0
IsEntry bound w k =
    (b : Bound) × Has b bound × (b.width ≡ w) × (b.key ≡ k) × (b.wanted ≡ wanted_for bound w k)

pub entry-of : (bound : List Bound) (w : ℕ) (k : LeafKey) → is_wanted (wanted_for bound w k) ≡ true
    → IsEntry bound w k
entry-of [] w k t = absurd (cc)
entry-of (b ∷ bound) w k t =
    let test = nat_eq w b.width && same_key k b.key in
    elim (cases_Bool test) [
      | inl hit ↦
          let same = leaf-same w k b hit in (
            b,
            inl refl,
            sym same.0,
            sym same.1,
            sym
                (cond-true test b.wanted (wanted_for bound w k) hit),
          )
      | inr miss ↦
          let later = cond-false test b.wanted (wanted_for bound w k) miss in
          let rest = entry-of bound w k (subst (λ x. is_wanted x ≡ true) later t) in
          (rest.0, inr rest.1, rest.2, rest.3, rest.4 ∙ sym later)
    ]

-- where each leaf is bound once, an entry is what the leaf is bound to
pub entry-is : (bound : List Bound) (b : Bound) → IsDistinct same_leaf bound → Has b bound
    → wanted_for bound b.width b.key ≡ b.wanted
unfolding IsDistinct
entry-is [] b once has = absurd has
entry-is (x ∷ bound) b once has = elim has [
  | inl e ↦
      cond-true _ _ _ (subst (λ y. (nat_eq b.width y.width && same_key b.key y.key) ≡ true) (sym e)
      (leaf-itself b.width b.key))
      ∙ ap (λ (y : Bound). y.wanted) e
  | inr more ↦ elim (cases_Bool (nat_eq b.width x.width && same_key b.key x.key)) [
    | inl hit ↦
        let same = leaf-same b.width b.key x hit in
        absurd (apart bound b x.width x.key (sym same.0) (sym same.1) once.0 more)
    | inr miss ↦ cond-false _ _ _ miss ∙ entry-is bound b once.1 more
  ]
]
  where
    apart : (bound : List Bound) (b : Bound) (w : ℕ) (k : LeafKey) → w ≡ b.width → k ≡ b.key
        → AllByRecursion (λ y. (nat_eq w y.width && same_key k y.key) ≡ false) bound → Has b bound
        → ⊥
    apart [] b w k e f h has = has
    apart (y ∷ bound) b w k e f h has = elim has [
      | inl s ↦
          let no : (nat_eq b.width b.width && same_key b.key b.key) ≡ false =
          (λ i. nat_eq (sym e i) (ap (λ (z : Bound). z.width) (sym s) i) && same_key (sym f i)
          (ap (λ (z : Bound). z.key) (sym s) i)) ∙ h.0 in
          let yes = leaf-itself b.width b.key in
          cc
      | inr more ↦ apart bound b w k e f h.1 more
    ]

stands-wanted : (names : ℕ → Option Tree) (v : ℕ) (t : Tree) (x : Wanted) → StandsFor names v t x
    → is_wanted x ≡ true
stands-wanted names v t (Value u) h = refl
stands-wanted names v t (Constant w n) h = refl
stands-wanted names v t Nothing h = absurd h

each-stand-wanted : (names : ℕ → Option Tree) (v : ℕ) (by : ℕ → LeafKey → Tree) (bound : List Bound)
    (t : Tree)
    → EachLeaf (λ w k. StandsFor names v (by w k) (wanted_for bound w k)) t
    → EachLeaf (λ w k. is_wanted (wanted_for bound w k) ≡ true) t
each-stand-wanted names v by bound t h =
    each-both (λ w k. StandsFor names v (by w k) (wanted_for bound w k))
    (λ w k. StandsFor names v (by w k) (wanted_for bound w k))
    (λ w k. is_wanted (wanted_for bound w k) ≡ true)
    (λ w k p q. stands-wanted names v (by w k) (wanted_for bound w k) p) t h h

-- each leaf is bound to something
pub each-wanted : (ssa : Ssa) (t : Tree) (v : ℕ) (bound : List Bound) → FitsWide ssa t v bound
    → EachLeaf (λ w k. is_wanted (wanted_for bound w k) ≡ true) t
each-wanted ssa t v bound f =
    by-way ssa t v bound f (λ g. each-stand-wanted (term_at ssa) v g.by bound t g.leaves)
    (λ g. each-stand-wanted (name_at ssa) v g.by bound t g.leaves)
    (λ g. each-stand-wanted (name_at ssa) v g.by bound t g.leaves)

-- ---- what is fitted, and names

-- a value whose term is no leaf and no constant is an operation, as wide as the term
pub record IsOperated (ssa : Ssa) (v : ℕ) (t : Tree) : Type 0 where
  pub op : Operator
  pub size : Width
  pub amount : ℕ
  pub takes : Operands
  pub at : unit_at ssa v ≡ Some (Operation op size amount takes)
  pub formed : WellFormed t
  pub wide : width_of t ≡ result_bits op size

-- what is given for values tells them, where it is no leaf and no constant
abbrev Tells : Ssa → (ℕ → Option Tree) → Type 0
Tells ssa given =
    (v : ℕ) (t : Tree) → given v ≡ Some t → is_compound t ≡ true → IsOperated ssa v t

-- what is given for values is as wide as they are, where it is no constant
abbrev Widens : Ssa → (ℕ → Option Tree) → Type 0
Widens ssa given =
    (v : ℕ) (t : Tree) → given v ≡ Some t → is_constant t ≡ false
    → value_bits ssa v ≡ Some (width_of t)

operated : (ssa : Ssa) (v : ℕ) (t : Tree) → IsArgumentTerm ssa v t ⊎ IsWorkTerm ssa v t
    → is_compound t ≡ true → IsOperated ssa v t
operated ssa v t (inl a) c =
    absurd (let no : is_compound t ≡ false = ap is_compound a.3 in cc)
operated ssa v t (inr w) c = work w.0 w.1 w.2
  where
    work : (u : SsaUnit) → unit_at ssa v ≡ Some u → IsUnitTerm v u t → IsOperated ssa v t
    work (Load a w) e is = absurd (let no : is_compound t ≡ false = ap is_compound is in cc)
    work (Store a w x) e is = absurd (let no : is_compound t ≡ false = ap is_compound is in cc)
    work (Operation op w k xs) e is =
        record { op = op; size = w; amount = k; takes = xs; at = e; formed = is.0; wide = is.1 }

terms-tell : (ssa : Ssa) → IsSound ssa → Tells ssa (term_at ssa)
terms-tell ssa sound v t e c = operated ssa v t (term-known ssa v t sound e) c

cuts-tell : (ssa : Ssa) → AreCuts ssa → Tells ssa (cut_at ssa)
cuts-tell ssa cuts v t e c =
    operated ssa v t (known ssa (cuts_of ssa) cuts.argument_terms cuts.unit_terms v t e) c

turned-compound : (t u : Tree) → turned t ≡ Some u → is_compound t ≡ true
turned-compound (leaf w k) u e = absurd (none-some u e)
turned-compound (constant w n) u e = absurd (none-some u e)
turned-compound (one op w k x) u e = refl
turned-compound (two op w x y) u e = refl
turned-compound (sel w c x y) u e = refl

turned-tell : (ssa : Ssa) → AreCuts ssa → Tells ssa (turned_at ssa)
turned-tell ssa cuts v u e c =
    let t = went (cut_at ssa v) turned u e in
    let own = cuts-tell ssa cuts v t.0 t.1 (turned-compound t.0 u t.2) in
    let keeps = turned-keeps t.0 u own.formed t.2 in
    record {
      op = own.op;
      size = own.size;
      amount = own.amount;
      takes = own.takes;
      at = own.at;
      formed = keeps.well_formed;
      wide = keeps.width ∙ own.wide;
    }

terms-widen : (ssa : Ssa) → IsSound ssa → Widens ssa (term_at ssa)
terms-widen ssa sound v t e c = term-width ssa v t sound e c

-- a name is as wide as the cut term
named-width : (s : Tree) (n : ℕ) (t : Tree)
    → Some (if nat_eq (width_of s) 1 then s else leaf (width_of s) (cut_key n)) ≡ Some t
    → width_of t ≡ width_of s
named-width s n t e = elim (cases_Bool (nat_eq (width_of s) 1)) [
  | inl y ↦
      let same : Some s ≡ Some t = ap Some (sym (cond-true _ _ _ y)) ∙ e in
      let own : s ≡ t = cc in
      ap width_of (sym own)
  | inr f ↦
      let same : Some (leaf (width_of s) (cut_key n)) ≡ Some t =
      ap Some (sym (cond-false _ _ _ f)) ∙ e in
      let own : leaf (width_of s) (cut_key n) ≡ t = cc in
      ap width_of (sym own)
]

names-widen : (ssa : Ssa) → AreCuts ssa → Widens ssa (name_at ssa)
names-widen ssa cuts v t e c =
    let cut = went (cut_at ssa v) (name_of ssa v) t e in
    let told = known ssa (cuts_of ssa) cuts.argument_terms cuts.unit_terms v cut.0 cut.1 in
    elim (cases_lt v (arguments ssa)) [
      | inl below ↦
          let same : Some cut.0 ≡ Some t =
          sym (cond-true _ _ _ (lt-ltb v (arguments ssa) below)) ∙ cut.2 in
          let own : cut.0 ≡ t = cc in
          known-width ssa (cuts_of ssa) cuts.argument_terms cuts.unit_terms v t
          (cut.1 ∙ ap Some own) c
      | inr above ↦
          let name : (unit_at ssa v >>= unit_name v cut.0) ≡ Some t =
          sym (cond-false _ _ _ (le-ltb v (arguments ssa) above)) ∙ cut.2 in
          let u = went (unit_at ssa v) (unit_name v cut.0) t name in
          by cut.0 u.0 u.1 u.2 (of-unit cut.0 told u.0 u.1)
    ]
  where
    of-unit : (s : Tree) → IsArgumentTerm ssa v s ⊎ IsWorkTerm ssa v s → (u : SsaUnit)
        → unit_at ssa v ≡ Some u → IsUnitTerm v u s
    of-unit s (inl a) u g =
        absurd (none-some u (sym (cond-true _ _ _ (lt-ltb v (arguments ssa) a.1)) ∙ g))
    of-unit s (inr w) u g =
        let same : Some w.0 ≡ Some u = sym w.1 ∙ g in
        let own : w.0 ≡ u = cc in
        subst (λ x. IsUnitTerm v x s) own w.2

    by : (s : Tree) (u : SsaUnit) → unit_at ssa v ≡ Some u → unit_name v s u ≡ Some t
        → IsUnitTerm v u s → value_bits ssa v ≡ Some (width_of t)
    by s (Load a w) g name is =
        unit-width ssa v (Load a w) g
        ∙ ap Some (let same : leaf (bits_of w) (cut_key v) ≡ t = cc in ap width_of same)
    by s (Store a w x) g name is = absurd (none-some t name)
    by s (Operation op w k xs) g name is =
        unit-width ssa v (Operation op w k xs) g
        ∙ ap Some (sym is.1 ∙ sym (named-width s v t name))

-- what holds wherever what is fitted tells its value and names are as wide as theirs holds of a lane
-- that fits a value of a sound kernel
by-sound : {P : Type 0} (ssa : Ssa) (t : Tree) (v : ℕ) (bound : List Bound) → IsSound ssa
    → FitsWide ssa t v bound
    → ((terms names : ℕ → Option Tree) → Tells ssa terms → Widens ssa names
    → FitsBy terms names t v bound → P)
    → P
by-sound ssa t v bound sound f on =
    by-way ssa t v bound f
    (λ g. on (term_at ssa) (term_at ssa) (terms-tell ssa sound) (terms-widen ssa sound) g)
    (λ g. elim sound.cuts [
      | inl none ↦ absurd (none-cut ssa t v bound none g)
      | inr cuts ↦ on (cut_at ssa) (name_at ssa) (cuts-tell ssa cuts) (names-widen ssa cuts) g
    ])
    (λ g. elim sound.cuts [
      | inl none ↦ absurd (none-turned ssa t v bound none g)
      | inr cuts ↦ on (turned_at ssa) (name_at ssa) (turned-tell ssa cuts) (names-widen ssa cuts) g
    ])

-- ---- the value

-- a lane and what it is where its leaves are replaced
record IsReplaced (t whole : Tree) : Type 0 where
  compound : is_compound whole ≡ true
  wide : width_of whole ≡ width_of t

still-compound : (by : ℕ → LeafKey → Tree) (t : Tree) → is_compound t ≡ true
    → IsReplaced t (replaced by t)
still-compound by (leaf w k) e = absurd (cc)
still-compound by (constant w n) e = absurd (cc)
still-compound by (one op w k x) e = record { compound = refl; wide = refl }
still-compound by (two op w x y) e = record { compound = refl; wide = refl }
still-compound by (sel w c x y) e = record { compound = refl; wide = refl }

-- a value that a lane fits is an operation as wide as the lane
pub record IsFitted (ssa : Ssa) (v : ℕ) (t : Tree) : Type 0 where
  pub op : Operator
  pub size : Width
  pub amount : ℕ
  pub takes : Operands
  pub at : unit_at ssa v ≡ Some (Operation op size amount takes)
  pub wide : width_of t ≡ result_bits op size

pub fitted : (ssa : Ssa) (t : Tree) (v : ℕ) (bound : List Bound) → IsSound ssa
    → FitsWide ssa t v bound → IsFitted ssa v t
fitted ssa t v bound sound f =
    by-sound ssa t v bound sound f (λ terms names tells widens g.
    let c = still-compound g.by t g.compound in
    let own = tells v (replaced g.by t) g.whole c.compound in
    record {
      op = own.op;
      size = own.size;
      amount = own.amount;
      takes = own.takes;
      at = own.at;
      wide = sym c.wide ∙ own.wide;
    })

pub fitted-width : (ssa : Ssa) (t : Tree) (v : ℕ) (bound : List Bound) → IsSound ssa
    → FitsWide ssa t v bound → value_bits ssa v ≡ Some (width_of t)
fitted-width ssa t v bound sound f =
    let own = fitted ssa t v bound sound f in
    unit-width ssa v (Operation own.op own.size own.amount own.takes) own.at
    ∙ ap Some (sym own.wide)

-- ---- what the leaves want

each-formed : (by : ℕ → LeafKey → Tree) (t : Tree) → WellFormed (replaced by t)
    → EachLeaf (λ w k. WellFormed (by w k)) t
each-formed by (leaf w k) h = h
each-formed by (constant w n) h = tt
each-formed by (one op w k x) h = each-formed by x h.2
each-formed by (two op w x y) h = (each-formed by x h.2, each-formed by y h.3)
each-formed by (sel w c x y) h = (each-formed by c h.2, each-formed by x h.3, each-formed by y h.4)

stands-may : (ssa : Ssa) (names : ℕ → Option Tree) (v w : ℕ) (t : Tree) (x : Wanted)
    → Widens ssa names → WellFormed t
    → width_of t ≡ w → StandsFor names v t x → MayBeWanted ssa w x
stands-may ssa names v w t (Value u) widens formed wide h = widens u t h.2 h.0 ∙ ap Some wide
stands-may ssa names v w t (Constant m n) widens formed wide h =
    let same : m ≡ w = sym (ap width_of h) ∙ wide in
    let low = (subst WellFormed h formed).1 in
    (same, subst (λ k. n < 2 ^ k) same low)
stands-may ssa names v w t Nothing widens formed wide h = absurd h

pub each-may : (ssa : Ssa) (t : Tree) (v : ℕ) (bound : List Bound) → IsSound ssa
    → FitsWide ssa t v bound → EachLeaf (λ w k. MayBeWanted ssa w (wanted_for bound w k)) t
each-may ssa t v bound sound f =
    by-sound ssa t v bound sound f (λ terms names tells widens g.
    let c = still-compound g.by t g.compound in
    let formed = each-formed g.by t (tells v (replaced g.by t) g.whole c.compound).formed in
    each-both (λ w k. WellFormed (g.by w k) × (width_of (g.by w k) ≡ w))
    (λ w k. StandsFor names v (g.by w k) (wanted_for bound w k))
    (λ w k. MayBeWanted ssa w (wanted_for bound w k))
    (λ w k p q. stands-may ssa names v w (g.by w k) (wanted_for bound w k) widens p.0 p.1 q) t
    (each-both (λ w k. WellFormed (g.by w k)) (λ w k. width_of (g.by w k)
    ≡ w) (λ w k. WellFormed (g.by w k)
    × (width_of (g.by w k) ≡ w)) (λ w k p q. (p, q)) t formed g.widths)
    g.leaves)
