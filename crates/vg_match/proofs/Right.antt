-- What is found to fit does, with what is bound.
use Rattle.std.proofs.Common.{◌≡◌, ℕ, Bool, true, false, List, [], ◌++◌, Option, Some, None, refl, sym, ap, subst, ◌∙◌, append_assoc, append-nil, get_or, inl}
use Rattle.std.specs.Prelude.{◌&&◌, ◌||◌, nat_eq, if◌then◌else◌}
use Rattle.std.specs.List.{AllByRecursion, IsDistinct}
use Rattle.std.specs.Option.{option_and_then}
use Rattle.std.proofs.lemmas.Bool.{and_parts, or_left, or_right, eqb-true}
use Rattle.std.proofs.lemmas.Option.{get_or_from_slice_get, none-some}
use Rattle.vg_terms.specs.declared.term.LeafKey.{LeafKey}
use Rattle.vg_terms.specs.Order.{is_same_term, one_tag, two_tag}
use Rattle.vg_terms.specs.Term.{Tree, leaf, constant, one, two, sel, width_of}
use Rattle.vg_terms.specs.Value.{same_key}
use Rattle.vg_terms.proofs.Orders.{same_term, one_tag-same, two_tag-same}
use Rattle.vg_shapes.specs.declared.match_table.Bound.{Bound}
use Rattle.vg_shapes.specs.declared.wanted.Wanted.{Wanted}
use Rattle.vg_shapes.specs.declared.wanted.Wanted.TheVariants.{Value, Constant, Nothing}
use Rattle.vg_shapes.specs.Fits.{EachLeaf, FitsBy, has_leaf, is_compound, replaced, StandsFor, wanted_for}
use Rattle.vg_shapes.specs.Wanted.{same_wanted}
use Rattle.vg_match.specs.Fit.{bind, fit, standing}
use Rattle.vg_match.proofs.Binding.{bind-binds, Good, IsBound, leaf-itself}
use Rattle.vg_match.proofs.Standing.{Lists, stands-is, stands-only, stands-something}
use Rattle.vg_match.proofs.Members.{all-append, all-weaker, some-same}
use Rattle.vg_match.proofs.Complete.{fits, MayStand}

pub then-some : {X Y : Type 0} (f : X → Option Y) (o : Option X) (y : Y) → option_and_then f o ≡ Some y → (x : X) × (o ≡ Some x) × (f x ≡ Some y)
then-some f None y e = absurd (none-some y e)
then-some f (Some x) y e = (x, refl, e)

pub if-some : {X : Type 0} (c : Bool) (o : Option X) (y : X) → (if c then o else None) ≡ Some y → (c ≡ true) × (o ≡ Some y)
if-some true o y e = (refl, e)
if-some false o y e = absurd (none-some y e)

-- the term of what a leaf is bound to
abbrev no_term : Tree
no_term = constant 8 0

abbrev term_of : List Tree → Wanted → Tree
term_of ts (Value u) = get_or ts u no_term
term_of ts (Constant w n) = constant w n
term_of ts Nothing = no_term

abbrev term_for : List Tree → List Bound → ℕ → LeafKey → Tree
term_for ts bound w k = term_of ts (wanted_for bound w k)

-- what is bound in the first is bound to the same in the second
abbrev Keeps : List Bound → List Bound → Type 0
Keeps old new = (w : ℕ) (k : LeafKey) → IsBound old w k → wanted_for new w k ≡ wanted_for old w k

keeps-both : (a b c : List Bound) → Keeps a b → Keeps b c → Keeps a c
keeps-both a b c f g w k h =
    let there : IsBound b w k = subst (λ x. same_wanted x Nothing ≡ false) (sym (f w k h)) h in
    g w k there ∙ f w k h

abbrev AreLeaves : Tree → List Bound → Type 0
AreLeaves p bs = AllByRecursion (λ b. has_leaf b.width b.key p ≡ true) bs

module _ (names : ℕ → Option Tree) (list : List Tree) (lists : Lists names list) (v : ℕ) where
  stands-term : (t : Tree) (x : Wanted) → StandsFor names v t x → term_of list x ≡ t
  stands-term t (Value u) h = get_or_from_slice_get list u t no_term ((lists u t h.0).1 h.2)
  stands-term t (Constant w n) h = sym h
  stands-term t Nothing h = absurd h

  -- with these bindings the term of a lane is the term of a value
  record Means (p t : Tree) (final : List Bound) : Type 0 where
    pub whole : replaced (term_for list final) p ≡ t
    pub widths : EachLeaf (λ w k. width_of (term_for list final w k) ≡ w) p
    pub leaves : EachLeaf (λ w k. StandsFor names v (term_for list final w k) (wanted_for final w k)) p

  record Right (p t : Tree) (bound after : List Bound) : Type 0 where
    pub more : List Bound
    pub grows : after ≡ bound ++ more
    pub of : AreLeaves p more
    pub good : Good after
    pub keeps : Keeps bound after
    pub means : (final : List Bound) → Keeps after final → Means p t final

  right-leaf : (w : ℕ) (k : LeafKey) (t : Tree) (bound after : List Bound) → Good bound → width_of t ≡ w → bind w k (standing list v t) bound ≡ Some after → Right (leaf w k) t bound after
  right-leaf w k t bound after g wide e =
      let x = standing list v t in
      let b = bind-binds w k x bound after g e in
      let stands : StandsFor names v t x = stands-is names list lists v t x refl b.something in
      let there : IsBound after w k = subst (λ y. same_wanted y Nothing ≡ false) (sym b.is) b.something in
      record {
        more = b.more;
        grows = b.grows;
        of = all-weaker (λ b. (b.width ≡ w) × (b.key ≡ k)) (λ b. has_leaf b.width b.key (leaf w k) ≡ true)
            (λ b h. subst (λ u. (nat_eq u w && same_key b.key k) ≡ true) (sym h.0) (subst (λ l. (nat_eq w w && same_key l k) ≡ true) (sym h.1) (leaf-itself w k)))
            b.more b.of;
        good = b.good;
        keeps = b.keeps;
        means = λ final f.
            let is : wanted_for final w k ≡ x = f w k there ∙ b.is in
            let same : term_for list final w k ≡ t = ap (term_of list) is ∙ stands-term t x stands in
            record {
              whole = same;
              widths = ap width_of same ∙ wide;
              leaves = subst (λ y. StandsFor names v y (wanted_for final w k)) (sym same) (subst (StandsFor names v t) (sym is) stands);
            };
      }

  joined : (bound mid after m n : List Bound) → mid ≡ bound ++ m → after ≡ mid ++ n → after ≡ bound ++ (m ++ n)
  joined bound mid after m n e f = f ∙ ap (λ l. l ++ n) e ∙ append_assoc bound m n

  right : (p t : Tree) (bound after : List Bound) → Good bound → fit list v p t bound ≡ Some after → Right p t bound after
  unfolding fit
  right (leaf w k) t bound after g e =
      let c = if-some (nat_eq (width_of t) w) (bind w k (standing list v t) bound) after e in
      right-leaf w k t bound after g (eqb-true (width_of t) w c.0) c.1
  right (constant w n) t bound after g e =
      let c = if-some (is_same_term (constant w n) t) (Some bound) after e in
      let s = some-same bound after c.1 in
      record {
        more = [];
        grows = sym s ∙ sym (append-nil bound);
        of = tt;
        good = subst Good s g;
        keeps = subst (Keeps bound) s (λ u l h. refl);
        means = λ final f. record { whole = same_term (constant w n) t c.0; widths = tt; leaves = tt };
      }
  right (one op w k x) (one o u j y) bound after g e =
      let c = if-some (nat_eq (one_tag op) (one_tag o) && (nat_eq w u && nat_eq k j)) (fit list v x y bound) after e in
      let a = and_parts (nat_eq (one_tag op) (one_tag o)) (nat_eq w u && nat_eq k j) c.0 in
      let d = and_parts (nat_eq w u) (nat_eq k j) a.1 in
      let s = right x y bound after g c.1 in
      let eo = one_tag-same op o (eqb-true (one_tag op) (one_tag o) a.0) in
      let ew = eqb-true w u d.0 in
      let ek = eqb-true k j d.1 in
      record {
        more = s.more;
        grows = s.grows;
        of = s.of;
        good = s.good;
        keeps = s.keeps;
        means = λ final f.
            let m = s.means final f in
            record { whole = λ i. one (eo i) (ew i) (ek i) (m.whole i); widths = m.widths; leaves = m.leaves };
      }
  right (two op w x y) (two o u p q) bound after g e =
      let c = if-some (nat_eq (two_tag op) (two_tag o) && nat_eq w u) (option_and_then (fit list v y q) (fit list v x p bound)) after e in
      let a = and_parts (nat_eq (two_tag op) (two_tag o)) (nat_eq w u) c.0 in
      let m = then-some (fit list v y q) (fit list v x p bound) after c.1 in
      let s = right x p bound m.0 g m.1 in
      let z = right y q m.0 after s.good m.2 in
      let eo = two_tag-same op o (eqb-true (two_tag op) (two_tag o) a.0) in
      let ew = eqb-true w u a.1 in
      record {
        more = s.more ++ z.more;
        grows = joined bound m.0 after s.more z.more s.grows z.grows;
        of = all-append (λ b. has_leaf b.width b.key (two op w x y) ≡ true) s.more z.more
            (all-weaker (λ b. has_leaf b.width b.key x ≡ true) (λ b. has_leaf b.width b.key (two op w x y) ≡ true) (λ b h. or_left (has_leaf b.width b.key x) (has_leaf b.width b.key y) h) s.more s.of)
            (all-weaker (λ b. has_leaf b.width b.key y ≡ true) (λ b. has_leaf b.width b.key (two op w x y) ≡ true) (λ b h. or_right (has_leaf b.width b.key x) (has_leaf b.width b.key y) h) z.more z.of);
        good = z.good;
        keeps = keeps-both bound m.0 after s.keeps z.keeps;
        means = λ final f.
            let l = s.means final (keeps-both m.0 after final z.keeps f) in
            let r = z.means final f in
            record { whole = λ i. two (eo i) (ew i) (l.whole i) (r.whole i); widths = (l.widths, r.widths); leaves = (l.leaves, r.leaves) };
      }
  right (sel w c x y) (sel u d p q) bound after g e =
      let a = if-some (nat_eq w u) (option_and_then (λ more. option_and_then (fit list v y q) (fit list v x p more)) (fit list v c d bound)) after e in
      let m = then-some (λ more. option_and_then (fit list v y q) (fit list v x p more)) (fit list v c d bound) after a.1 in
      let n = then-some (fit list v y q) (fit list v x p m.0) after m.2 in
      let r = right c d bound m.0 g m.1 in
      let s = right x p m.0 n.0 r.good n.1 in
      let z = right y q n.0 after s.good n.2 in
      let ew = eqb-true w u a.0 in
      let P = λ (b : Bound). has_leaf b.width b.key (sel w c x y) ≡ true in
      record {
        more = r.more ++ (s.more ++ z.more);
        grows = joined bound m.0 after r.more (s.more ++ z.more) r.grows (joined m.0 n.0 after s.more z.more s.grows z.grows);
        of = all-append P r.more (s.more ++ z.more)
            (all-weaker (λ b. has_leaf b.width b.key c ≡ true) P (λ b h. or_left (has_leaf b.width b.key c) (has_leaf b.width b.key x || has_leaf b.width b.key y) h) r.more r.of)
            (all-append P s.more z.more
            (all-weaker (λ b. has_leaf b.width b.key x ≡ true) P (λ b h. or_right (has_leaf b.width b.key c) (has_leaf b.width b.key x || has_leaf b.width b.key y) (or_left (has_leaf b.width b.key x) (has_leaf b.width b.key y) h)) s.more s.of)
            (all-weaker (λ b. has_leaf b.width b.key y ≡ true) P (λ b h. or_right (has_leaf b.width b.key c) (has_leaf b.width b.key x || has_leaf b.width b.key y) (or_right (has_leaf b.width b.key x) (has_leaf b.width b.key y) h)) z.more z.of));
        good = z.good;
        keeps = keeps-both bound m.0 after r.keeps (keeps-both m.0 n.0 after s.keeps z.keeps);
        means = λ final f.
            let j = r.means final (keeps-both m.0 after final (keeps-both m.0 n.0 after s.keeps z.keeps) f) in
            let k = s.means final (keeps-both n.0 after final z.keeps f) in
            let l = z.means final f in
            record { whole = λ i. sel (ew i) (j.whole i) (k.whole i) (l.whole i); widths = (j.widths, k.widths, l.widths); leaves = (j.leaves, k.leaves, l.leaves) };
      }
  right (one op w k x) t bound after g e = absurd (none-some after e)
  right (two op w x y) t bound after g e = absurd (none-some after e)
  right (sel w c x y) t bound after g e = absurd (none-some after e)

  nothing-bound : Good []
  unfolding IsDistinct
  nothing-bound = record { solid = tt; once = tt }

  -- what is found fits
  pub found-fits : (terms : ℕ → Option Tree) (p t : Tree) (bound : List Bound) → is_compound p ≡ true → terms v ≡ Some t → fit list v p t [] ≡ Some bound → FitsBy terms names p v bound
  found-fits terms p t bound c at e =
      let r = right p t [] bound nothing-bound e in
      let m = r.means bound (λ w k h. refl) in
      record {
        by = term_for list bound;
        compound = c;
        widths = m.widths;
        whole = at ∙ ap Some (sym m.whole);
        leaves = m.leaves;
        alone = subst (AreLeaves p) (sym r.grows) r.of;
        once = r.good.once;
      }

  each-both : (by : ℕ → LeafKey → Tree) (bound : List Bound) (p : Tree) → EachLeaf (λ w k. width_of (by w k) ≡ w) p → EachLeaf (λ w k. StandsFor names v (by w k) (wanted_for bound w k)) p → EachLeaf (MayStand list v by) p
  each-both by bound (leaf w k) h g =
      (h, subst (λ x. same_wanted x Nothing ≡ false) (sym (stands-only names list lists v (by w k) (wanted_for bound w k) g)) (stands-something names v (by w k) (wanted_for bound w k) g))
  each-both by bound (constant w n) h g = tt
  each-both by bound (one op w k x) h g = each-both by bound x h g
  each-both by bound (two op w x y) h g = (each-both by bound x h.0 g.0, each-both by bound y h.1 g.1)
  each-both by bound (sel w c x y) h g = (each-both by bound c h.0 g.0, each-both by bound x h.1 g.1, each-both by bound y h.2 g.2)

  -- what fits is found
  pub fit-found : (terms : ℕ → Option Tree) (p t : Tree) (bound : List Bound) → terms v ≡ Some t → FitsBy terms names p v bound → (b : List Bound) × (fit list v p t [] ≡ Some b)
  fit-found terms p t bound at f =
      let r = fits list v f.by p [] (λ w k. inl refl) (each-both f.by bound p f.widths f.leaves) in
      let same : replaced f.by p ≡ t = some-same _ _ (sym f.whole ∙ at) in
      (r.after, subst (λ y. fit list v p y [] ≡ Some r.after) same r.is)
