-- What may follow a plan and what it costs go by its packs.
use Rattle.std.proofs.Common.{◌≡◌, ℕ, zero, suc, ◌+◌, Bool, true, false, List, [], ◌∷◌, ◌++◌, length, refl, sym, ◌∙◌, ap, subst, inl, inr, arith}
use Rattle.std.specs.Prelude.{not, ◌&&◌, if◌then◌else◌, flat_map, filter, sum_by, nat_eq, min}
use Rattle.std.specs.List.{list_any, list_all}
use Rattle.std.proofs.lemmas.Bool.{cases_Bool}
use Rattle.std.proofs.lemmas.Bool.Decides.{nat_tests}
use Rattle.vg_plans.specs.Levels.{distinct}
use Rattle.vg_plans.specs.Members.{Has, Every, AllDiffer}
use Rattle.vg_plans.specs.Crowded.{IsPlan, empty, more, GoesByPacks}
use Rattle.vg_plans.specs.World.{World, IsWorld, is_in, has_pack, same_packs, is_packed, needs, is_held_back, left_after, is_empty, has_no_cycle, stays_plan, tried, tried_for, follows, can_shuffle, least_shuffle, is_reused, recipe_cost, inserted, operands, scalar_lines, plan_cost}
use Rattle.vg_plans.proofs.Lists.{has-append_left, has-append_right, has-flat_map, every-distinct, every-has, stays, distinct-differ}
use Rattle.vg_plans.proofs.Members.{Includes, SameMembers, has-append, from-flat_map, any-found, any-is, any-same, any-agree, all-agree, filter-agree, sum-agree, flat_map-agree, has-filter, from-filter, Unique, unique-push, sum-same, flat_map-same, append-same}

module _ {P O N : Type 0} (w : World P O N) (is : IsWorld w) where
  has-pack : (plan : List P) (p : P) → has_pack w plan p ≡ true → Has p plan
  has-pack plan p t = let k = any-found (w.same_pack p) plan t in subst (λ q. Has q plan) (sym (is.pack_is p k.0 k.2)) k.1

  pack-has : (plan : List P) (p : P) → Has p plan → has_pack w plan p ≡ true
  pack-has plan p h = any-is (w.same_pack p) p plan h (is.pack_itself p)

  all-includes : (a b : List P) → list_all (has_pack w b) a ≡ true → Includes a b
  all-includes [] b t = λ x h. absurd h
  all-includes (p ∷ a) b t = elim (cases_Bool (has_pack w b p)) [
    | inl u ↦ λ x h. elim h [ inl e ↦ subst (λ q. Has q b) e (has-pack b p u) | inr r ↦ all-includes a b (rw u at t) x r ]
    | inr f ↦ absurd (let e : false ≡ true = rw f at t in cc)
  ]

  includes-all : (a b : List P) → Includes a b → list_all (has_pack w b) a ≡ true
  includes-all [] b i = refl
  includes-all (p ∷ a) b i = let u = pack-has b p (i p (inl refl)) in rw u (includes-all a b (λ x h. i x (inr h)))

  and-parts : (a b : Bool) → (a && b) ≡ true → (a ≡ true) × (b ≡ true)
  and-parts true b e = (refl, e)
  and-parts false b e = absurd (cc)

  pub same-members : (a b : List P) → same_packs w a b ≡ true → SameMembers a b
  same-members a b t = let k = and-parts _ _ t in record { there = all-includes a b k.0; back = all-includes b a k.1 }

  pub members-same : (a b : List P) → SameMembers a b → same_packs w a b ≡ true
  members-same a b s = rw (includes-all a b s.there) (includes-all b a s.back)

  pub same-longer : (a b : List P) (p : P) → SameMembers a b → SameMembers (a ++ p ∷ []) (b ++ p ∷ [])
  same-longer a b p s = record {
    there = λ x h. elim (has-append x a (p ∷ []) h) [ inl l ↦ has-append_left x b (p ∷ []) (s.there x l) | inr r ↦ has-append_right x b (p ∷ []) r ];
    back = λ x h. elim (has-append x b (p ∷ []) h) [ inl l ↦ has-append_left x a (p ∷ []) (s.back x l) | inr r ↦ has-append_right x a (p ∷ []) r ];
  }

  module _ (a b : List P) (s : SameMembers a b) where
    packed-same : (v : ℕ) → is_packed w a v ≡ is_packed w b v
    packed-same v = any-same (λ p. is_in v (w.units_of p)) a b s

    needs-same : (v : ℕ) → SameMembers (needs w a v) (needs w b v)
    needs-same v = rw (packed-same v) (elim (is_packed w b v) as (λ t. SameMembers (if t then flat_map (λ p. if is_in v (w.units_of p) then w.needs_of p else []) a else w.depends_of v) (if t then flat_map (λ p. if is_in v (w.units_of p) then w.needs_of p else []) b else w.depends_of v)) [
      | true ↦ flat_map-same (λ p. if is_in v (w.units_of p) then w.needs_of p else []) a b s
      | false ↦ record { there = λ x h. h; back = λ x h. h }
    ])

    held_back-same : (left : List ℕ) (v : ℕ) → is_held_back w a left v ≡ is_held_back w b left v
    held_back-same left v = any-same (λ x. is_in x left) (needs w a v) (needs w b v) (needs-same v)

    left-same : (rounds : ℕ) (left : List ℕ) → left_after w a rounds left ≡ left_after w b rounds left
    left-same zero left = refl
    left-same (suc rounds) left = rw (filter-agree (is_held_back w a left) (is_held_back w b left) (held_back-same left) left) (left-same rounds (filter (is_held_back w b left) left))

    cycle-same : has_no_cycle w a ≡ has_no_cycle w b
    cycle-same = ap (is_empty w) (left-same (length w.units) w.units)

    tried-same : (p : P) → Has p (tried w a) → Has p (tried w b)
    tried-same p h = elim (has-append p w.groups (flat_map (λ q. flat_map (tried_for w) (w.operands_of q)) a) h) [
      | inl l ↦ has-append_left p w.groups (flat_map (λ q. flat_map (tried_for w) (w.operands_of q)) b) l
      | inr r ↦ let k = from-flat_map (λ q. flat_map (tried_for w) (w.operands_of q)) p a r in
          has-append_right p w.groups (flat_map (λ q. flat_map (tried_for w) (w.operands_of q)) b) (has-flat_map (λ q. flat_map (tried_for w) (w.operands_of q)) k.0 p b (s.there k.0 k.1) k.2)
    ]

  stays-same : (a b : List P) → SameMembers a b → (p : P) → stays_plan w a p ≡ stays_plan w b p
  stays-same a b s p = rw (any-agree (is_packed w a) (is_packed w b) (packed-same a b s) (w.units_of p), cycle-same (a ++ p ∷ []) (b ++ p ∷ []) (same-longer a b p s)) refl

  follows-same : (a b : List P) → SameMembers a b → (p : P) → Has p (follows w a) → Has p (follows w b)
  follows-same a b s p h =
      let k = from-filter (stays_plan w a) p (tried w a) h in
      has-filter (stays_plan w b) p (tried w b) (tried-same a b s p k.0) (sym (stays-same a b s p) ∙ k.1)

  -- a plan has no pack twice
  and-left : (x y : Bool) → (x && y) ≡ true → x ≡ true
  and-left x y e = (and-parts x y e).0

  not-false : (x : Bool) → not x ≡ true → x ≡ false
  not-false true e = absurd (cc)
  not-false false e = refl

  is-new : (plan : List P) (p : P) → Has p (tried w plan) → stays_plan w plan p ≡ true → Has p plan → ⊥
  is-new plan p m t h =
      let free = not-false (list_any (is_packed w plan) (w.units_of p)) (and-left (not (list_any (is_packed w plan) (w.units_of p))) (has_no_cycle w (plan ++ p ∷ [])) t) in
      let one = is.has_unit plan p m in
      let unit = any-found (nat_eq one.0) (w.units_of p) one.1 in
      let v = unit.0 in
      let here : is_in v (w.units_of p) ≡ true = any-is (nat_eq v) v (w.units_of p) unit.1 (grind (arith, nat_tests)) in
      let packed : is_packed w plan v ≡ true = any-is (λ q. is_in v (w.units_of q)) p plan h here in
      let some : list_any (is_packed w plan) (w.units_of p) ≡ true = any-is (is_packed w plan) v (w.units_of p) unit.1 packed in
      cc

  unique-plan : (plan : List P) → IsPlan (follows w) plan → Unique plan
  unique-plan _ empty = tt
  unique-plan _ (more plan p m h) = unique-push p plan (unique-plan plan m) (let k = from-filter (stays_plan w plan) p (tried w plan) h in is-new plan p k.0 k.1)

  -- distinct operands
  differ-unique : (os : List O) → AllDiffer w.same_operand os → Unique os
  differ-unique [] d = tt
  differ-unique (o ∷ os) d = ((λ h. let f : w.same_operand o o ≡ false = every-has (λ y. w.same_operand o y ≡ false) o os d.0 h in let t = is.operand_itself o in absurd (cc)), differ-unique os d.1)

  operand-turned : (o q : O) → w.same_operand o q ≡ true → w.same_operand q o ≡ true
  operand-turned o q t = subst (λ z. w.same_operand z o ≡ true) (is.operand_is o q t) (is.operand_itself o)

  has-every : (os : List O) → Every (λ o. Has o os) os
  has-every os = from_has os (λ o h. h)
    where
      from_has : (qs : List O) → ((o : O) → Has o qs → Has o os) → Every (λ o. Has o os) qs
      from_has [] f = tt
      from_has (q ∷ qs) f = (f q (inl refl), from_has qs (λ o h. f o (inr h)))

  distinct-members : (os : List O) → SameMembers (distinct w.same_operand os) os
  distinct-members os = record {
    there = λ o h. every-has (λ q. Has q os) o (distinct w.same_operand os) (every-distinct (λ q. Has q os) w.same_operand [] os (has-every os)) h;
    back = λ o h. let k = stays w.same_operand is.operand_itself o [] os h in
        elim k.1 [ inl none ↦ absurd none | inr d ↦ subst (λ q. Has q (distinct w.same_operand os)) (sym (is.operand_is o k.0 k.2)) d ];
  }

  operands-same : (a b : List P) → SameMembers a b → SameMembers (operands w a) (operands w b)
  operands-same a b s =
      let m = distinct-members (flat_map w.operands_of a) in
      let n = distinct-members (flat_map w.operands_of b) in
      let f = flat_map-same w.operands_of a b s in
      record { there = λ o h. n.back o (f.there o (m.there o h)); back = λ o h. m.back o (f.back o (n.there o h)) }

  -- recipes
  module _ (a b : List P) (s : SameMembers a b) where
    can-same : (x : ℕ × List N) → can_shuffle w a x ≡ can_shuffle w b x
    can-same x = all-agree (λ n. list_any (λ p. w.gives p n) a) (λ n. list_any (λ p. w.gives p n) b) (λ n. any-same (λ p. w.gives p n) a b s) x.1

    least-same : (cost : ℕ) (xs : List (ℕ × List N)) → least_shuffle w a cost xs ≡ least_shuffle w b cost xs
    least-same cost [] = refl
    least-same cost (x ∷ xs) = rw (can-same x) (least-same (if can_shuffle w b x then min x.0 cost else cost) xs)

    reused-same : (o : O) → is_reused w a o ≡ is_reused w b o
    reused-same o = any-same (λ p. w.holds p o) a b s

    recipe-same : (o : O) → recipe_cost w a o ≡ recipe_cost w b o
    recipe-same o = rw (reused-same o, least-same (1 + length (w.values_of o)) (w.shuffles o)) refl

    inserted-same : (o : O) → inserted w a o ≡ inserted w b o
    inserted-same o = rw (reused-same o, any-agree (can_shuffle w a) (can_shuffle w b) can-same (w.shuffles o)) refl

    scalar-same : (m n vs : List ℕ) → SameMembers m n → scalar_lines w a m vs ≡ scalar_lines w b n vs
    scalar-same m n [] k = refl
    scalar-same m n (v ∷ vs) k =
        rw (packed-same a b s v, any-same (nat_eq v) m n k, scalar-same (w.uses_of v ++ m) (w.uses_of v ++ n) vs (append-same (w.uses_of v) m n k), scalar-same m n vs k) refl

  cost-same : (a b : List P) → IsPlan (follows w) a → IsPlan (follows w) b → SameMembers a b → plan_cost w a ≡ plan_cost w b
  cost-same a b m n s =
      let o = operands-same a b s in
      let u_a = differ-unique (operands w a) (distinct-differ w.same_operand operand-turned [] (flat_map w.operands_of a)) in
      let u_b = differ-unique (operands w b) (distinct-differ w.same_operand operand-turned [] (flat_map w.operands_of b)) in
      let prices : sum_by w.price a ≡ sum_by w.price b = sum-same w.price a b (unique-plan a m) (unique-plan b n) s in
      let recipes : sum_by (recipe_cost w a) (operands w a) ≡ sum_by (recipe_cost w b) (operands w b) =
      sum-agree (recipe_cost w a) (recipe_cost w b) (recipe-same a b s) (operands w a) ∙ sum-same (recipe_cost w b) (operands w a) (operands w b) u_a u_b o in
      let same_inserts = flat_map-agree (inserted w a) (inserted w b) (inserted-same a b s) (operands w a) in
      let inserts : SameMembers (flat_map (inserted w a) (operands w a)) (flat_map (inserted w b) (operands w b)) =
      subst (λ l. SameMembers l (flat_map (inserted w b) (operands w b))) (sym same_inserts) (flat_map-same (inserted w b) (operands w a) (operands w b) o) in
      let scalars = scalar-same a b s _ _ w.units inserts in
      rw (prices, recipes, scalars) refl

  pub go_by_packs : GoesByPacks (follows w) (same_packs w) (plan_cost w)
  go_by_packs = record {
    itself = λ a. members-same a a (record { there = λ x h. h; back = λ x h. h });
    turned = λ a b t. let m = same-members a b t in members-same b a (record { there = m.back; back = m.there });
    joined = λ a b c t u. let m = same-members a b t in let n = same-members b c u in members-same a c (record { there = λ x h. n.there x (m.there x h); back = λ x h. m.back x (n.back x h) });
    longer = λ a b p t. members-same (a ++ p ∷ []) (b ++ p ∷ []) (same-longer a b p (same-members a b t));
    follow = λ a b p m n t h. follows-same a b (same-members a b t) p h;
    costs = λ a b m n t. cost-same a b m n (same-members a b t);
  }
