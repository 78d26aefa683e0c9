-- Boards that grow.
use Rattle.std.proofs.Common.{◌≡◌, ℕ, ◌+◌, ◌<◌, ◌≤◌, true, List, [], ◌∷◌, ◌++◌, map, length, get_or, refl, sym, ◌∙◌, ap, subst, inl, inr, arith, append-nil, append_assoc, length-append, take, get_or-set_same, get_or-set_other}
use Rattle.std.specs.Prelude.{Option, Some, None, is_some, nat_eq, nat_lt, set}
use Rattle.std.proofs.lemmas.Bool.{cases_Bool}
use Rattle.std.proofs.lemmas.Bool.Decides.{nat_tests}
use Rattle.std.proofs.lemmas.List.{get_or_append_left, length-set, take_more}
use Rattle.std.proofs.Math.Seq.{get_or-append_seam}
use Rattle.vg_kernel_plans.proofs.SameTests.{pack-is, pack-itself}
use Rattle.vg_kernel_plans.specs.SameAs.{same_pack}
use Rattle.vg_plans.proofs.Lists.{take-whole}
use Rattle.vg_kernel_plans.specs.declared.choice.Choice.{Choice}
use Rattle.vg_shapes.specs.declared.match_table.Match.{Match}
use Rattle.vg_shapes.specs.declared.operand.Operand.{Operand}
use Rattle.vg_shapes.specs.declared.pack.Pack.{Pack}
use Rattle.vg_shapes.specs.declared.ssa.Ssa.{Ssa}
use Rattle.vg_shapes.specs.Description.{Description}
use Rattle.vg_beam.specs.declared.pack_table.PackTable.{PackTable}
use Rattle.vg_beam.specs.PackTable.{AreNumbered, AreProduced, AreTaken, Grows, IsPackTable, IsNumbered, IsOpened, no_pack, numbers_in, pack_at, produced_at, produced_by}
use Rattle.vg_beam.specs.Key.{AreApart, Names, first_place}
use Rattle.vg_beam.specs.PackWords.{words_of}
use Rattle.vg_beam.proofs.Numbers.{apart-push, at-left, names-grow, names-none, names-push, place-end, place-none, place-passes}

pub grows-same : (packs : List Pack) → Grows packs packs
grows-same packs = ([], sym (append-nil packs))

pub grows-join : (a b d : List Pack) → Grows a b → Grows b d → Grows a d
grows-join a b d g h = (g.0 ++ h.0, h.1 ∙ ap (λ l. l ++ h.0) g.1 ∙ append_assoc a g.0 h.0)

pub names-along : (packs longer : List Pack) (ns : List ℕ) (named : List Pack) → Grows packs longer
    → Names no_pack packs ns named → Names no_pack longer ns named
names-along packs longer ns named g a =
    subst (λ l. Names no_pack l ns named) (sym g.1) (names-grow no_pack packs g.0 ns named a)

pub at-along : (packs longer : List Pack) (n : ℕ) → Grows packs longer → n < length packs → pack_at longer n ≡ pack_at packs n
at-along packs longer n g l = ap (λ q. pack_at q n) g.1 ∙ at-left no_pack packs g.0 n l

pub inside-along : (packs longer : List Pack) (n : ℕ) → Grows packs longer → n < length packs → n < length longer
inside-along packs longer n g l = let e = ap length g.1 in omega (arith, l, e, length-append packs g.0)

module _ (ch : Choice) (ds : List Description) (matches : List Match) (ssa : Ssa) where
  produced-along : (packs longer : List Pack) (p : Pack) (o : Option (List ℕ)) → Grows packs longer
      → AreProduced ch ds matches ssa packs p o → AreProduced ch ds matches ssa longer p o
  produced-along packs longer p None g a = tt
  produced-along packs longer p (Some numbers) g a = names-along packs longer numbers (produced_by ch ds matches ssa p) g a

  produced-push : (packs : List Pack) (produced : List (Option (List ℕ))) (p : Pack) → length produced ≡ length packs
      → ((n : ℕ) → n < length packs → AreProduced ch ds matches ssa packs (pack_at packs n) (get_or produced n None))
      → (n : ℕ) → n < length (packs ++ p ∷ [])
      → AreProduced ch ds matches ssa (packs ++ p ∷ []) (pack_at (packs ++ p ∷ []) n) (get_or (produced ++ None ∷ []) n None)
  produced-push packs produced p long a n l = elim (cases_Bool (nat_lt n (length packs))) [
    | inl t ↦
        let i : n < length packs = grind (arith, nat_tests, t) in
        let j : n < length produced = omega (arith, i, long) in
        let g : Grows packs (packs ++ p ∷ []) = (p ∷ [], refl) in
        subst (λ q. AreProduced ch ds matches ssa (packs ++ p ∷ []) q (get_or (produced ++ None ∷ []) n None)) (sym (at-along packs (packs ++ p ∷ []) n g i))
        (subst (AreProduced ch ds matches ssa (packs ++ p ∷ []) (pack_at packs n)) (sym (get_or_append_left produced (None ∷ []) None n j))
        (produced-along packs (packs ++ p ∷ []) (pack_at packs n) (get_or produced n None) g (a n i)))
    | inr f ↦
        let k : length packs ≤ n = grind (arith, nat_tests, f) in
        let e : n ≡ length produced = omega (arith, l, k, long, length-append packs (p ∷ [])) in
        let none : get_or (produced ++ None ∷ []) n None ≡ None = ap (λ m. get_or (produced ++ None ∷ []) m None) e ∙ get_or-append_seam produced None [] None in
        subst (AreProduced ch ds matches ssa (packs ++ p ∷ []) (pack_at (packs ++ p ∷ []) n)) (sym none) tt
  ]

  taken-push : (packs : List Pack) (operands : List (List Operand)) (p : Pack) (os : List Operand) → length operands ≡ length packs
      → ((n : ℕ) → n < length packs → AreTaken ds matches ssa (pack_at packs n) (get_or operands n [])) → AreTaken ds matches ssa p os
      → (n : ℕ) → n < length (packs ++ p ∷ [])
      → AreTaken ds matches ssa (pack_at (packs ++ p ∷ []) n) (get_or (operands ++ os ∷ []) n [])
  taken-push packs operands p os long a own n l = elim (cases_Bool (nat_lt n (length packs))) [
    | inl t ↦
        let i : n < length packs = grind (arith, nat_tests, t) in
        let j : n < length operands = omega (arith, i, long) in
        let g : Grows packs (packs ++ p ∷ []) = (p ∷ [], refl) in
        subst (λ q. AreTaken ds matches ssa q (get_or (operands ++ os ∷ []) n [])) (sym (at-along packs (packs ++ p ∷ []) n g i))
        (subst (AreTaken ds matches ssa (pack_at packs n)) (sym (get_or_append_left operands (os ∷ []) [] n j)) (a n i))
    | inr f ↦
        let k : length packs ≤ n = grind (arith, nat_tests, f) in
        let e : n ≡ length packs = omega (arith, l, k, length-append packs (p ∷ [])) in
        let d : n ≡ length operands = e ∙ sym long in
        subst (λ q. AreTaken ds matches ssa q (get_or (operands ++ os ∷ []) n []))
        (sym (ap (pack_at (packs ++ p ∷ [])) e ∙ get_or-append_seam packs p [] no_pack))
        (subst (AreTaken ds matches ssa p)
        (sym (ap (λ m. get_or (operands ++ os ∷ []) m []) d ∙ get_or-append_seam operands os [] [])) own)
  ]

  pub number-there : (b : PackTable) (p : Pack) (place : ℕ) → place ≡ first_place (same_pack p) b.packs.items → place < length b.packs.items
      → IsPackTable ch ds matches ssa b → IsNumbered ch ds matches ssa b b p place
  number-there b p place e l is = record {
    pack_table = is;
    grows = grows-same b.packs.items;
    inside = l;
    pack =
        let k : first_place (same_pack p) b.packs.items < length b.packs.items = subst (λ n. n < length b.packs.items) e l in
        let t = place-passes (same_pack p) b.packs.items no_pack k in
        ap (pack_at b.packs.items) e ∙ sym (pack-is p (pack_at b.packs.items (first_place (same_pack p) b.packs.items)) t);
  }

  pub number-new : (old new : PackTable) (p : Pack) (os : List Operand) (place : ℕ) → place ≡ first_place (same_pack p) old.packs.items → length old.packs.items ≤ place
      → IsPackTable ch ds matches ssa old → new.packs.items ≡ old.packs.items ++ p ∷ [] → new.produced.items ≡ old.produced.items ++ None ∷ []
      → new.operands.items ≡ old.operands.items ++ os ∷ [] → AreTaken ds matches ssa p os
      → map (λ k. k.items) new.places.keys ≡ map words_of new.packs.items
      → IsNumbered ch ds matches ssa old new p place
  number-new old new p os place e l is packs produced operands own places =
      let k : length old.packs.items ≤ first_place (same_pack p) old.packs.items = subst (λ n. length old.packs.items ≤ n) e l in
      let at_end : place ≡ length old.packs.items = e ∙ place-end (same_pack p) old.packs.items k in
      record {
        pack_table = record {
          apart = subst (AreApart no_pack) (sym packs)
              (apart-push no_pack same_pack pack-itself old.packs.items p (place-none (same_pack p) old.packs.items no_pack k) is.apart);
          places = places;
          long =
              ap length produced ∙ length-append old.produced.items (None ∷ []) ∙ ap (λ n. n + 1) is.long
              ∙ sym (length-append old.packs.items (p ∷ [])) ∙ ap length (sym packs);
          taken =
              ap length operands ∙ length-append old.operands.items (os ∷ []) ∙ ap (λ n. n + 1) is.taken
              ∙ sym (length-append old.packs.items (p ∷ [])) ∙ ap length (sym packs);
          operands = λ n i.
              subst (λ q. AreTaken ds matches ssa (pack_at q n) (get_or new.operands.items n [])) (sym packs)
              (subst (λ o. AreTaken ds matches ssa (pack_at (old.packs.items ++ p ∷ []) n) (get_or o n [])) (sym operands)
              (taken-push old.packs.items old.operands.items p os is.taken is.operands own n (subst (λ q. n < length q) packs i)));
          produced = λ n i.
              subst (λ q. AreProduced ch ds matches ssa q (pack_at q n) (get_or new.produced.items n None)) (sym packs)
              (subst (λ o. AreProduced ch ds matches ssa (old.packs.items ++ p ∷ []) (pack_at (old.packs.items ++ p ∷ []) n) (get_or o n None)) (sym produced)
              (produced-push old.packs.items old.produced.items p is.long is.produced n (subst (λ q. n < length q) packs i)));
        };
        grows = (p ∷ [], packs);
        inside = let m = ap length packs in omega (arith, at_end, m, length-append old.packs.items (p ∷ []));
        pack = ap (λ q. pack_at q place) packs ∙ ap (pack_at (old.packs.items ++ p ∷ [])) at_end ∙ get_or-append_seam old.packs.items p [] no_pack;
      }

  -- one pack more of many
  pub all-step : (first mid new : PackTable) (ns : List ℕ) (done : List Pack) (p : Pack) (n : ℕ) → Grows first.packs.items mid.packs.items
      → Names no_pack mid.packs.items ns done → IsNumbered ch ds matches ssa mid new p n
      → AreNumbered ch ds matches ssa first new (done ++ p ∷ []) (ns ++ n ∷ [])
  all-step first mid new ns done p n g a is = record {
    pack_table = is.pack_table;
    grows = grows-join first.packs.items mid.packs.items new.packs.items g is.grows;
    names = names-push no_pack new.packs.items ns done n p (names-along mid.packs.items new.packs.items ns done is.grows a) is.inside is.pack;
  }

  -- many packs, one after the other
  pub all-first : (b : PackTable) (ns : List ℕ) → ns ≡ [] → IsPackTable ch ds matches ssa b → AreNumbered ch ds matches ssa b b [] ns
  all-first b ns e is = record {
    pack_table = is;
    grows = grows-same b.packs.items;
    names = subst (λ l. Names no_pack b.packs.items l []) (sym e) (names-none no_pack b.packs.items);
  }

  pub all-next : (first mid new : PackTable) (ns next : List ℕ) (ps : List Pack) (i : ℕ) (p : Pack) (n : ℕ) → i < length ps → p ≡ get_or ps i p
      → AreNumbered ch ds matches ssa first mid (take i ps) ns → IsNumbered ch ds matches ssa mid new p n → next ≡ ns ++ n ∷ []
      → AreNumbered ch ds matches ssa first new (take (i + 1) ps) next
  all-next first mid new ns next ps i p n l e a is f =
      let more : take (i + 1) ps ≡ take i ps ++ p ∷ [] = take_more ps i p l ∙ ap (λ q. take i ps ++ q ∷ []) (sym e) in
      subst (λ q. AreNumbered ch ds matches ssa first new q next) (sym more)
      (subst (AreNumbered ch ds matches ssa first new (take i ps ++ p ∷ [])) (sym f) (all-step first mid new ns (take i ps) p n a.grows a.names is))

  pub all-end : (first new : PackTable) (ns : List ℕ) (ps : List Pack) (i : ℕ) → length ps ≤ i
      → AreNumbered ch ds matches ssa first new (take i ps) ns → AreNumbered ch ds matches ssa first new ps ns
  all-end first new ns ps i l a = subst (λ q. AreNumbered ch ds matches ssa first new q ns) (take-whole i ps l) a

  opened : (packs : List Pack) (p : Pack) (o : Option (List ℕ)) → is_some o ≡ true → AreProduced ch ds matches ssa packs p o
      → Names no_pack packs (numbers_in o) (produced_by ch ds matches ssa p)
  opened packs p None t a = absurd (cc)
  opened packs p (Some numbers) t a = a

  pub open-there : (b : PackTable) (n : ℕ) → IsPackTable ch ds matches ssa b → n < length b.packs.items → is_some (get_or b.produced.items n None) ≡ true
      → IsOpened ch ds matches ssa b b n
  open-there b n is l t = record {
    pack_table = is;
    grows = grows-same b.packs.items;
    produced = opened b.packs.items (pack_at b.packs.items n) (get_or b.produced.items n None) t (is.produced n l);
  }

  pub open-new : (old mid new : PackTable) (n : ℕ) (packs : List Pack) (numbers : List ℕ) → n < length old.packs.items
      → AreNumbered ch ds matches ssa old mid packs numbers → packs ≡ produced_by ch ds matches ssa (pack_at old.packs.items n)
      → new.packs.items ≡ mid.packs.items → new.produced.items ≡ set mid.produced.items n (Some numbers)
      → new.operands.items ≡ mid.operands.items → new.places.keys ≡ mid.places.keys → IsOpened ch ds matches ssa old new n
  open-new old mid new n packs numbers l are e same produced operands keys =
      let inside = inside-along old.packs.items mid.packs.items n are.grows l in
      let there : n < length mid.produced.items = omega (arith, inside, are.pack_table.long) in
      let names : Names no_pack mid.packs.items numbers (produced_by ch ds matches ssa (pack_at old.packs.items n)) =
      subst (Names no_pack mid.packs.items numbers) e are.names in
      let noted : get_or new.produced.items n None ≡ Some numbers =
      ap (λ o. get_or o n None) produced ∙ get_or-set_same mid.produced.items n (Some numbers) None there in
      record {
        pack_table = record {
          apart = subst (AreApart no_pack) (sym same) are.pack_table.apart;
          places = ap (map (λ k. k.items)) keys ∙ are.pack_table.places ∙ ap (map words_of) (sym same);
          long = ap length produced ∙ length-set mid.produced.items n (Some numbers) ∙ are.pack_table.long ∙ ap length (sym same);
          taken = ap length operands ∙ are.pack_table.taken ∙ ap length (sym same);
          operands = λ m i.
              subst (λ q. AreTaken ds matches ssa (pack_at q m) (get_or new.operands.items m [])) (sym same)
              (subst (λ o. AreTaken ds matches ssa (pack_at mid.packs.items m) (get_or o m [])) (sym operands)
              (are.pack_table.operands m (subst (λ q. m < length q) same i)));
          produced = λ m i. subst (λ q. AreProduced ch ds matches ssa q (pack_at q m) (get_or new.produced.items m None)) (sym same)
              (each m (subst (λ q. m < length q) same i) names noted);
        };
        grows = (are.grows.0, same ∙ are.grows.1);
        produced = subst (λ q. Names no_pack q (produced_at new n) (produced_by ch ds matches ssa (pack_at old.packs.items n))) (sym same)
            (subst (λ o. Names no_pack mid.packs.items (numbers_in o) (produced_by ch ds matches ssa (pack_at old.packs.items n))) (sym noted) names);
      }
    where
      each : (m : ℕ) → m < length mid.packs.items → Names no_pack mid.packs.items numbers (produced_by ch ds matches ssa (pack_at old.packs.items n))
          → get_or new.produced.items n None ≡ Some numbers
          → AreProduced ch ds matches ssa mid.packs.items (pack_at mid.packs.items m) (get_or new.produced.items m None)
      each m i names noted = elim (cases_Bool (nat_eq m n)) [
        | inl t ↦
            let k : n ≡ m = grind (arith, nat_tests, t) in
            subst (λ z. AreProduced ch ds matches ssa mid.packs.items (pack_at mid.packs.items z) (get_or new.produced.items z None)) k
            (subst (AreProduced ch ds matches ssa mid.packs.items (pack_at mid.packs.items n)) (sym noted)
            (subst (λ p. Names no_pack mid.packs.items numbers (produced_by ch ds matches ssa p)) (sym (at-along old.packs.items mid.packs.items n are.grows l)) names))
        | inr f ↦
            let ne : m ≡ n → ⊥ = λ k. grind (arith, nat_tests, f, k) in
            let other : get_or new.produced.items m None ≡ get_or mid.produced.items m None =
            ap (λ o. get_or o m None) produced ∙ get_or-set_other mid.produced.items n m (Some numbers) None ne in
            subst (AreProduced ch ds matches ssa mid.packs.items (pack_at mid.packs.items m)) (sym other) (are.pack_table.produced m i)
      ]
