-- Plans of a level that are met and kept.
use Rattle.std.proofs.Common.{◌≡◌, ℕ, ◌+◌, ◌<◌, ◌≤◌, Bool, true, false, List, [], ◌∷◌, ◌++◌, length, map, take, get_or, refl, sym, ◌∙◌, ap, subst, inl, inr, append-nil, append_assoc}
use Rattle.std.specs.Prelude.{◌||◌, bytes_eq, filter, flat_map, not}
use Rattle.std.specs.List.{AllByRecursion, list_any}
use Rattle.std.proofs.lemmas.Bool.{cases_Bool}
use Rattle.std.proofs.lemmas.List.{map-append, take_more}
use Rattle.vg_cost.specs.Running.{StandsFor}
use Rattle.vg_kernel_plans.proofs.Tried.{is-packing_by}
use Rattle.vg_kernel_plans.specs.Fed.{IsPlanBy, groups_by, packing_by}
use Rattle.vg_kernel_plans.specs.Laws.{cost_of}
use Rattle.vg_kernel_plans.specs.Packing.{packing}
use Rattle.vg_kernel_plans.specs.Taken.{IsShort}
use Rattle.vg_packs.proofs.Free.{free-first}
use Rattle.vg_packs.proofs.Completion.{stays-by}
use Rattle.vg_packs.proofs.Turns.{stays-free}
use Rattle.vg_packs.specs.Walk.{IsFree, NameEarlierUnits, is_in_plan}
use Rattle.vg_plans.proofs.Lists.{every-append, has-map, take-whole}
use Rattle.vg_plans.proofs.Members.{from-filter, has-filter}
use Rattle.vg_plans.specs.Crowded.{empty, more}
use Rattle.vg_plans.specs.Levels.{distinct_onto}
use Rattle.vg_plans.specs.Members.{Every, Has}
use Rattle.vg_plans.specs.World.{World, is_in, same_packs, stays_plan, tried}
use Rattle.vg_kernel_plans.specs.declared.choice.Choice.{Choice}
use Rattle.vg_shapes.specs.declared.match_table.Match.{Match}
use Rattle.vg_shapes.specs.declared.operand.Operand.{Operand}
use Rattle.vg_shapes.specs.declared.pack.Pack.{Pack}
use Rattle.vg_shapes.specs.declared.ssa.Ssa.{Ssa}
use Rattle.vg_shapes.specs.Description.{Description}
use Rattle.vg_shapes.specs.Pack.{units_of}
use Rattle.vg_beam.specs.declared.pack_table.PackTable.{PackTable}
use Rattle.vg_beam.specs.declared.candidate.Candidate.{Candidate}
use Rattle.vg_beam.specs.declared.beam_plan.BeamPlan.{BeamPlan}
use Rattle.vg_beam.specs.declared.met_plans.MetPlans.{MetPlans}
use Rattle.vg_beam.specs.declared.priced_plan.PricedPlan.{PricedPlan}
use Rattle.vg_beam.specs.PackTable.{Grows, IsPackTable, IsOpened, no_pack, pack_at, produced_at, produced_by}
use Rattle.vg_beam.specs.Candidate.{AreGrown, CanGrow, IsCandidate, IsGrown, IsPlaced, grown_plan, grown_plans}
use Rattle.vg_beam.specs.Chosen.{HaveShortPacksBy}
use Rattle.vg_beam.specs.BeamPlan.{IsKept, is_apart, plan_at, plan_of, plans_of}
use Rattle.vg_beam.specs.Key.{AreApart, IsKey, Names, has_key, with_number}
use Rattle.vg_beam.specs.MetPlans.{IsMet, Meets, is_known}
use Rattle.vg_beam.specs.Priced.{priced, priced_plans}
use Rattle.vg_beam.proofs.Boards.{at-along, grows-join, grows-same, inside-along, names-along}
use Rattle.vg_beam.proofs.Growing.{HasPrice, filter-all, filter-front, filter-narrow, flat-snoc, grown-known, grown-new, grown-refused, grown-step}
use Rattle.vg_beam.proofs.Keys.{key-longer, same-key}
use Rattle.vg_beam.proofs.Numbers.{every-any, every-at, has-at, key-grow, key-none, names-filter, names-join, zero-at}

all-last : (plan : List Pack) (p : Pack) → AllByRecursion IsShort (plan ++ p ∷ []) → IsShort p
all-last [] p a = a.0
all-last (q ∷ plan) p a = all-last plan p a.1

any-snoc : {X : Type 0} (test : X → Bool) (xs : List X) (x : X) → list_any test (xs ++ x ∷ []) ≡ (test x || list_any test xs)
any-snoc test [] x = refl
any-snoc test (y ∷ xs) x = ap (λ b. test y || b) (any-snoc test xs x) ∙ turn (test y) (test x) (list_any test xs)
  where
    turn : (a b c : Bool) → (a || (b || c)) ≡ (b || (a || c))
    turn true true c = refl
    turn true false c = refl
    turn false b c = refl

-- ---- packs that share no unit with a plan

any-wider : (f g : ℕ → Bool) → ((v : ℕ) → f v ≡ true → g v ≡ true) → (vs : List ℕ) → list_any f vs ≡ true → list_any g vs ≡ true
any-wider f g h [] t = absurd (cc)
any-wider f g h (v ∷ vs) t = elim (cases_Bool (f v)) [
  | inl u ↦ rw (h v u) refl
  | inr n ↦ elim (cases_Bool (g v)) [
    | inl w ↦ rw w refl
    | inr z ↦ rw z (any-wider f g h vs (rw n at t))
  ]
]

any-none : (vs : List ℕ) → list_any (λ v. false) vs ≡ false
any-none [] = refl
any-none (v ∷ vs) = any-none vs

or-true : (b : Bool) → (b || true) ≡ true
or-true true = refl
or-true false = refl

longer-has : (plan : List Pack) (p : Pack) (v : ℕ) → is_in_plan plan v ≡ true → is_in_plan (plan ++ p ∷ []) v ≡ true
longer-has plan p v t = any-snoc (λ q. is_in v (units_of q)) plan p ∙ ap (λ b. is_in v (units_of p) || b) t ∙ or-true (is_in v (units_of p))

pub apart-shorter : (plan : List Pack) (p q : Pack) → is_apart (plan ++ p ∷ []) q ≡ true → is_apart plan q ≡ true
apart-shorter plan p q t = elim (cases_Bool (list_any (is_in_plan plan) (units_of q))) [
  | inl u ↦
      let k = any-wider (is_in_plan plan) (is_in_plan (plan ++ p ∷ [])) (longer-has plan p) (units_of q) u in
      absurd (let n : not true ≡ true = rw k at t in cc)
  | inr f ↦ rw f refl
]

pub apart-none : (q : Pack) → is_apart [] q ≡ true
apart-none q = ap not (any-none (units_of q))

module _ (ch : Choice) (ds : List Description) (matches : List Match) (ssa : Ssa) (deps : List (ℕ × ℕ)) where
  abbrev world : World Pack Operand Operand
  world = packing_by ch ds matches ssa deps

  pub plan-free : NameEarlierUnits ssa deps → (plan : List Pack) → IsPlanBy ch ds matches ssa deps plan → IsFree matches ssa deps plan
  plan-free earlier _ empty = free-first matches ssa deps earlier.earlier
  plan-free earlier _ (more plan p is h) =
      let t = (from-filter (stays_plan world plan) p (tried world plan) h).1 in
      stays-free ds matches ssa deps plan p (sym (sym t ∙ stays-by ch ds matches ssa deps plan p))

  pub longer-plan : (plan : List Pack) (p : Pack) → IsPlanBy ch ds matches ssa deps plan → Has p (tried world plan)
      → stays_plan (packing [] matches ssa deps) plan p ≡ true → IsPlanBy ch ds matches ssa deps (plan ++ p ∷ [])
  longer-plan plan p is h t =
      more plan p is (has-filter (stays_plan world plan) p (tried world plan) h (stays-by ch ds matches ssa deps plan p ∙ t))

  pub overlap-stays : (plan : List Pack) (p : Pack) → list_any (is_in_plan plan) (units_of p) ≡ true
      → stays_plan (packing [] matches ssa deps) plan p ≡ false
  overlap-stays plan p t = rw t refl

  stays-apart : (plan : List Pack) (p : Pack) → stays_plan world plan p ≡ true → is_apart plan p ≡ true
  stays-apart plan p t = elim (cases_Bool (list_any (is_in_plan plan) (units_of p))) [
    | inl u ↦ absurd (let k = overlap-stays plan p u in let e = stays-by ch ds matches ssa deps plan p in cc)
    | inr f ↦ rw f refl
  ]

  pub last-short : HaveShortPacksBy ch ds matches ssa deps → (plan : List Pack) (p : Pack) → IsPlanBy ch ds matches ssa deps (plan ++ p ∷ []) → IsShort p
  last-short short plan p is = all-last plan p (short (plan ++ p ∷ []) is)

  -- ---- meeting

  module _ (packs : List Pack) (level : List BeamPlan) where
    pub meets-none : (plan : List Pack) (m : MetPlans) → IsMet ch ds matches ssa deps packs level m
        → Meets ch ds matches ssa deps packs level plan [] m m
    meets-none plan m is = record { met = is; plans = refl }

    pub meets-known : (plan : List Pack) (p : Pack) (m : MetPlans) (key : List ℕ) → IsMet ch ds matches ssa deps packs level m
        → IsKey no_pack packs key (plan ++ p ∷ []) → is_known m key ≡ true
        → Meets ch ds matches ssa deps packs level plan (p ∷ []) m m
    meets-known plan p m key is k t = record {
      met = is;
      plans = grown-known (stays_plan world plan) (same_packs world) plan (grown_plans packs level m.candidates.items) p
          (sym (is.known key (plan ++ p ∷ []) k) ∙ t);
    }

    pub meets-refused : (plan : List Pack) (p : Pack) (m : MetPlans) → IsMet ch ds matches ssa deps packs level m
        → stays_plan (packing [] matches ssa deps) plan p ≡ false
        → Meets ch ds matches ssa deps packs level plan (p ∷ []) m m
    meets-refused plan p m is f = record {
      met = is;
      plans = grown-refused (stays_plan world plan) (same_packs world) plan (grown_plans packs level m.candidates.items) p
          (stays-by ch ds matches ssa deps plan p ∙ f);
    }

    pub meets-new : (plan : List Pack) (p : Pack) (old new : MetPlans) (key : List ℕ) (c : Candidate) → AreApart no_pack packs
        → IsMet ch ds matches ssa deps packs level old
        → IsKey no_pack packs key (plan ++ p ∷ []) → is_known old key ≡ false
        → stays_plan (packing [] matches ssa deps) plan p ≡ true
        → new.candidates.items ≡ old.candidates.items ++ c ∷ []
        → ((q : List ℕ) → is_known new q ≡ (bytes_eq q key || is_known old q))
        → grown_plan packs level c ≡ plan ++ p ∷ []
        → IsCandidate ch ds matches ssa deps packs level c
        → Meets ch ds matches ssa deps packs level plan (p ∷ []) old new
    meets-new plan p old new key c apart is k f t items known e candidate =
        let whole : grown_plans packs level new.candidates.items ≡ grown_plans packs level old.candidates.items ++ (plan ++ p ∷ []) ∷ [] =
        ap (grown_plans packs level) items ∙ map-append (grown_plan packs level) old.candidates.items (c ∷ [])
        ∙ ap (λ q. grown_plans packs level old.candidates.items ++ q ∷ []) e in
        record {
          met = record {
            candidates = subst (Every (IsCandidate ch ds matches ssa deps packs level)) (sym items)
                (every-append (IsCandidate ch ds matches ssa deps packs level) old.candidates.items (c ∷ []) is.candidates (candidate, tt));
            known = λ q other j.
                known q
                ∙ ap (λ b. b || is_known old q) (same-key world (is-packing_by ch ds matches ssa deps) no_pack packs apart q key other (plan ++ p ∷ []) j k)
                ∙ ap (λ b. same_packs world other (plan ++ p ∷ []) || b) (is.known q other j)
                ∙ sym (any-snoc (same_packs world other) (grown_plans packs level old.candidates.items) (plan ++ p ∷ []))
                ∙ ap (list_any (same_packs world other)) (sym whole);
          };
          plans = whole ∙ grown-new (stays_plan world plan) (same_packs world) plan (grown_plans packs level old.candidates.items) p
              (stays-by ch ds matches ssa deps plan p ∙ t) (sym (is.known key (plan ++ p ∷ []) k) ∙ f);
        }

    pub met-first : (m : MetPlans) → m.candidates.items ≡ [] → m.keys.keys ≡ [] → IsMet ch ds matches ssa deps packs level m
    met-first m none keys = record {
      candidates = subst (Every (IsCandidate ch ds matches ssa deps packs level)) (sym none) tt;
      known = λ q other j.
          ap (λ ks. has_key (λ k. k.items) ks q) keys
          ∙ sym (ap (λ cs. list_any (same_packs world other) (grown_plans packs level cs)) none);
    }

    pub meets-step : (plan : List Pack) (numbers : List ℕ) (i n : ℕ) (old mid new : MetPlans) → i < length numbers → n ≡ get_or numbers i n
        → Meets ch ds matches ssa deps packs level plan (map (pack_at packs) (take i numbers)) old mid
        → Meets ch ds matches ssa deps packs level plan (pack_at packs n ∷ []) mid new
        → Meets ch ds matches ssa deps packs level plan (map (pack_at packs) (take (i + 1) numbers)) old new
    meets-step plan numbers i n old mid new l is a b = record {
      met = b.met;
      plans = grown-step (stays_plan world plan) (same_packs world) plan (pack_at packs) numbers i n
          (grown_plans packs level old.candidates.items) (grown_plans packs level mid.candidates.items) (grown_plans packs level new.candidates.items)
          l is a.plans b.plans;
    }

    pub meets-end : (plan : List Pack) (numbers : List ℕ) (i : ℕ) (old new : MetPlans) → length numbers ≤ i
        → Names no_pack packs numbers (filter (is_apart plan) (tried world plan))
        → Meets ch ds matches ssa deps packs level plan (map (pack_at packs) (take i numbers)) old new
        → Meets ch ds matches ssa deps packs level plan (tried world plan) old new
    meets-end plan numbers i old new l names a =
        let b = subst (λ ps. Meets ch ds matches ssa deps packs level plan ps old new) (ap (map (pack_at packs)) (take-whole i numbers l) ∙ names.names) a in
        record {
          met = b.met;
          plans = b.plans
              ∙ ap (λ ps. distinct_onto (same_packs world) (grown_plans packs level old.candidates.items) (map (λ p. plan ++ p ∷ []) ps))
              (filter-narrow (is_apart plan) (stays_plan world plan) (stays-apart plan) (tried world plan));
        }

    -- a number that is tried
    pub number-tried : (plan : List Pack) (numbers : List ℕ) (i : ℕ) → i < length numbers
        → Names no_pack packs numbers (filter (is_apart plan) (tried world plan))
        → (get_or numbers i 0 < length packs) × Has (pack_at packs (get_or numbers i 0)) (tried world plan)
    number-tried plan numbers i l names = (
      every-at (λ n. n < length packs) numbers i (get_or numbers i 0) names.inside l (zero-at numbers i l),
      (from-filter (is_apart plan) (pack_at packs (get_or numbers i 0)) (tried world plan)
          (subst (Has (pack_at packs (get_or numbers i 0))) names.names
          (has-map (pack_at packs) (get_or numbers i 0) numbers (has-at numbers i (get_or numbers i 0) l (zero-at numbers i l))))).0,
    )

    -- a candidate that is met
    pub is-candidate : (parent pack cost : ℕ) → parent < length level → pack < length packs
        → IsPlanBy ch ds matches ssa deps (plan_at level parent ++ pack_at packs pack ∷ [])
        → cost ≡ cost_of ds matches ssa deps (plan_at level parent ++ pack_at packs pack ∷ [])
        → IsCandidate ch ds matches ssa deps packs level (record { parent = parent; pack = pack; cost = cost })
    is-candidate parent pack cost l m is price = record {
      placed = record { parent = l; pack = m };
      plan = is;
      cost = price;
    }

    -- what holds of all candidates
    pub all-placed : (cs : List Candidate) → Every (IsCandidate ch ds matches ssa deps packs level) cs → Every (IsPlaced packs level) cs
    all-placed [] a = tt
    all-placed (c ∷ cs) a = (a.0.placed, all-placed cs a.1)

    pub all-plans : (cs : List Candidate) → Every (IsCandidate ch ds matches ssa deps packs level) cs
        → Every (IsPlanBy ch ds matches ssa deps) (grown_plans packs level cs)
    all-plans [] a = tt
    all-plans (c ∷ cs) a = (a.0.plan, all-plans cs a.1)

    pub all-growing : HaveShortPacksBy ch ds matches ssa deps → (cs : List Candidate) → Every (IsCandidate ch ds matches ssa deps packs level) cs
        → Every (CanGrow ch ds matches ssa packs level) cs
    all-growing short [] a = tt
    all-growing short (c ∷ cs) a = (
      record {
        placed = a.0.placed;
        short = last-short short (plan_at level c.parent) (pack_at packs c.pack) a.0.plan;
        plan = (deps, a.0.plan);
      },
      all-growing short cs a.1,
    )

    pub all-priced : (cs : List Candidate) → Every (IsCandidate ch ds matches ssa deps packs level) cs
        → Every (HasPrice (λ (p : PricedPlan). p.plan) (λ (p : PricedPlan). p.cost) (cost_of ds matches ssa deps)) (priced_plans packs level cs)
    all-priced [] a = tt
    all-priced (c ∷ cs) a = (a.0.cost, all-priced cs a.1)

    pub each-priced : (cs : List Candidate) → Every (IsCandidate ch ds matches ssa deps packs level) cs
        → Every (HasPrice (grown_plan packs level) (λ (c : Candidate). c.cost) (cost_of ds matches ssa deps)) cs
    each-priced [] a = tt
    each-priced (c ∷ cs) a = (a.0.cost, each-priced cs a.1)

-- ---- the least of candidates

pub own-prices : (packs : List Pack) (level : List BeamPlan) (cs : List Candidate)
    → Every (HasPrice (priced packs level) (λ (c : Candidate). c.cost) (λ (p : PricedPlan). p.cost)) cs
own-prices packs level [] = tt
own-prices packs level (c ∷ cs) = (refl, own-prices packs level cs)

pub plans-priced : (packs : List Pack) (level : List BeamPlan) (cs : List Candidate)
    → map (λ (p : PricedPlan). p.plan) (priced_plans packs level cs) ≡ grown_plans packs level cs
plans-priced packs level [] = refl
plans-priced packs level (c ∷ cs) = ap (λ l. grown_plan packs level c ∷ l) (plans-priced packs level cs)

-- ---- growing

module _ (ch : Choice) (ds : List Description) (matches : List Match) (ssa : Ssa) where
  abbrev independent : World Pack Operand Operand
  independent = packing_by ch ds matches ssa []

  pub kept-along : (packs longer : List Pack) (k : BeamPlan) → Grows packs longer → IsKept ch ds matches ssa packs k → IsKept ch ds matches ssa longer k
  kept-along packs longer k g is = record {
    stands = is.stands;
    key = subst (λ l. IsKey no_pack l k.key (plan_of k)) (sym g.1) (key-grow no_pack packs g.0 k.key (plan_of k) is.key);
    tried = names-along packs longer k.tried (filter (is_apart (plan_of k)) (tried independent (plan_of k))) g is.tried;
  }

  pub all-along : (packs longer : List Pack) (ks : List BeamPlan) → Grows packs longer → Every (IsKept ch ds matches ssa packs) ks
      → Every (IsKept ch ds matches ssa longer) ks
  all-along packs longer [] g a = tt
  all-along packs longer (k ∷ ks) g a = (kept-along packs longer k g a.0, all-along packs longer ks g a.1)

  pub grown-along : (packs longer : List Pack) (level : List BeamPlan) (c : Candidate) → Grows packs longer → c.pack < length packs
      → grown_plan longer level c ≡ grown_plan packs level c
  grown-along packs longer level c g l = ap (λ p. plan_at level c.parent ++ p ∷ []) (at-along packs longer c.pack g l)

  pub candidate-along : (packs longer : List Pack) (level : List BeamPlan) (c : Candidate) → Grows packs longer
      → CanGrow ch ds matches ssa packs level c → CanGrow ch ds matches ssa longer level c
  candidate-along packs longer level c g is = record {
    placed = record { parent = is.placed.parent; pack = inside-along packs longer c.pack g is.placed.pack };
    short = subst IsShort (sym (at-along packs longer c.pack g is.placed.pack)) is.short;
    plan = (is.plan.0, subst (IsPlanBy ch ds matches ssa is.plan.0) (sym (grown-along packs longer level c g is.placed.pack)) is.plan.1);
  }

  pub kept-grown : (old new : PackTable) (k next : BeamPlan) (n : ℕ) → n < length old.packs.items → IsKept ch ds matches ssa old.packs.items k
      → IsOpened ch ds matches ssa old new n
      → plan_of next ≡ plan_of k ++ pack_at old.packs.items n ∷ [] → StandsFor ds matches ssa next.running
      → next.key ≡ with_number n k.key
      → next.tried ≡ filter (λ m. is_apart (plan_of next) (pack_at new.packs.items m)) (k.tried ++ produced_at new n)
      → IsKept ch ds matches ssa new.packs.items next
  kept-grown old new k next n l is o e stands key numbers =
      let there = kept-along old.packs.items new.packs.items k o.grows is in
      let p = pack_at old.packs.items n in
      let plan = plan_of k ++ p ∷ [] in
      let same : pack_at new.packs.items n ≡ p = at-along old.packs.items new.packs.items n o.grows l in
      let behind : tried independent plan ≡ tried independent (plan_of k) ++ produced_by ch ds matches ssa p =
      ap (λ q. groups_by ch ssa ++ q) (flat-snoc (produced_by ch ds matches ssa) (plan_of k) p)
      ∙ sym (append_assoc (groups_by ch ssa) (flat_map (produced_by ch ds matches ssa) (plan_of k)) (produced_by ch ds matches ssa p)) in
      let all = names-join no_pack new.packs.items k.tried (produced_at new n) (filter (is_apart (plan_of k)) (tried independent (plan_of k)))
      (produced_by ch ds matches ssa p) there.tried o.produced in
      let apart = names-filter no_pack (is_apart plan) new.packs.items (k.tried ++ produced_at new n) _ all in
      let front = filter-front (is_apart (plan_of k)) (is_apart plan) (apart-shorter (plan_of k) p) (tried independent (plan_of k)) (produced_by ch ds matches ssa p)
      ∙ ap (filter (is_apart plan)) (sym behind) in
      record {
        stands = stands;
        key = subst (λ q. IsKey no_pack new.packs.items next.key q) (sym e)
            (subst (λ q. IsKey no_pack new.packs.items q plan) (sym key)
            (subst (λ q. IsKey no_pack new.packs.items (with_number n k.key) (plan_of k ++ q ∷ [])) same
            (key-longer no_pack new.packs.items k.key (plan_of k) n there.key (inside-along old.packs.items new.packs.items n o.grows l))));
        tried = subst (λ q. Names no_pack new.packs.items next.tried (filter (is_apart q) (tried independent q))) (sym e)
            (subst (λ q. Names no_pack new.packs.items q (filter (is_apart plan) (tried independent plan)))
            (sym (numbers ∙ ap (λ q. filter (λ m. is_apart q (pack_at new.packs.items m)) (k.tried ++ produced_at new n)) e))
            (subst (Names no_pack new.packs.items (filter (λ m. is_apart plan (pack_at new.packs.items m)) (k.tried ++ produced_at new n))) front apart));
      }

  pub kept-first : (packs : List Pack) (k : BeamPlan) (groups : List Pack) → plan_of k ≡ [] → StandsFor ds matches ssa k.running
      → k.key ≡ [] → Names no_pack packs k.tried groups → groups ≡ groups_by ch ssa → IsKept ch ds matches ssa packs k
  kept-first packs k groups e stands key names g = record {
    stands = stands;
    key = subst (λ q. IsKey no_pack packs k.key q) (sym e) (subst (λ q. IsKey no_pack packs q []) (sym key) (key-none no_pack packs));
    tried = subst (λ q. Names no_pack packs k.tried (filter (is_apart q) (tried independent q))) (sym e)
        (subst (Names no_pack packs k.tried)
        (g ∙ sym (append-nil (groups_by ch ssa)) ∙ sym (filter-all (is_apart []) apart-none (tried independent []))) names);
  }

  pub grown-first : (b : PackTable) (level : List BeamPlan) (ks : List BeamPlan) → ks ≡ [] → IsPackTable ch ds matches ssa b
      → AreGrown ch ds matches ssa b b level [] ks
  grown-first b level ks e is = record {
    pack_table = is;
    grows = grows-same b.packs.items;
    kept = subst (Every (IsKept ch ds matches ssa b.packs.items)) (sym e) tt;
    plans = ap plans_of e;
  }

  pub grown-more : (first mid new : PackTable) (level : List BeamPlan) (cs : List Candidate) (i : ℕ) (d : Candidate) (ks next : List BeamPlan) (k : BeamPlan)
      → i < length cs → AreGrown ch ds matches ssa first mid level (take i cs) ks
      → IsGrown ch ds matches ssa mid new level (get_or cs i d) k → Every (CanGrow ch ds matches ssa first.packs.items level) cs → next ≡ ks ++ k ∷ []
      → AreGrown ch ds matches ssa first new level (take (i + 1) cs) next
  grown-more first mid new level cs i d ks next k l a b all e =
      let c = get_or cs i d in
      let candidate = every-any (CanGrow ch ds matches ssa first.packs.items level) cs i d all l in
      let more : take (i + 1) cs ≡ take i cs ++ c ∷ [] = take_more cs i d l in
      let plan : plan_of k ≡ grown_plan first.packs.items level c =
      b.plan ∙ grown-along first.packs.items mid.packs.items level c a.grows candidate.placed.pack in
      record {
        pack_table = b.pack_table;
        grows = grows-join first.packs.items mid.packs.items new.packs.items a.grows b.grows;
        kept = subst (Every (IsKept ch ds matches ssa new.packs.items)) (sym e)
            (every-append (IsKept ch ds matches ssa new.packs.items) ks (k ∷ [])
            (all-along mid.packs.items new.packs.items ks b.grows a.kept) (b.kept, tt));
        plans =
            ap plans_of e ∙ map-append plan_of ks (k ∷ []) ∙ ap (λ q. q ++ plan_of k ∷ []) a.plans
            ∙ ap (λ q. grown_plans first.packs.items level (take i cs) ++ q ∷ []) plan
            ∙ sym (ap (grown_plans first.packs.items level) more ∙ map-append (grown_plan first.packs.items level) (take i cs) (c ∷ []));
      }

  pub grown-all : (old new : PackTable) (level : List BeamPlan) (cs : List Candidate) (i : ℕ) (ks : List BeamPlan) → length cs ≤ i
      → AreGrown ch ds matches ssa old new level (take i cs) ks → AreGrown ch ds matches ssa old new level cs ks
  grown-all old new level cs i ks l a = subst (λ q. AreGrown ch ds matches ssa old new level q ks) (take-whole i cs l) a
