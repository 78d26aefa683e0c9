-- Where packs take at most two operands for each of their units, the walk ends before so many turns
-- as twice the units. So many operands wait at most as turns are left: each turn takes one of them, and
-- a pack that joins uses up half a turn of each of its units for the operands that it brings.
use Rattle.std.proofs.Common.{◌≡◌, ℕ, zero, suc, ◌+◌, ◌*◌, ◌≤◌, ◌⊎◌, Bool, true, false, List, [], ◌∷◌, ◌++◌, length, refl, sym, ◌∙◌, ap, subst, inl, inr, arith, length-append, append_assoc, append-nil}
use Rattle.std.specs.Prelude.{flat_map, find, ◌||◌, Option, Some, None}
use Rattle.std.proofs.lemmas.Bool.{cases_Bool}
use Rattle.vg_plans.specs.Crowded.{IsPlan, empty, more}
use Rattle.vg_plans.specs.Members.{Has, Every}
use Rattle.vg_plans.specs.PlainPlan.{first_producer, is_settled, plain_plan, walk, with_groups}
use Rattle.vg_plans.specs.World.{World, follows, is_reused, stays_plan, tried, tried_for}
use Rattle.vg_plans.proofs.Lists.{every-append, has-append_left, has-append_right, has-flat_map}
use Rattle.vg_plans.proofs.Members.{any-found, any-is, from-filter, from-flat_map, has-append, has-filter}
use Rattle.vg_plans.proofs.Plain.{plain-plan}
use Rattle.vg_plain_laws.specs.Walk.{IsTried, WalksTo, ended, joined, left, settled}

-- ---- how many operands and units packs have

pub total : {P X : Type 0} → (P → List X) → List P → ℕ
total f [] = 0
total f (p ∷ ps) = length (f p) + total f ps

one-more : {P X : Type 0} (f : P → List X) (ps : List P) (p : P) → total f (ps ++ p ∷ []) ≡ total f ps + length (f p)
unfolding total
one-more f [] p = omega arith
one-more f (q ∷ ps) p = let rest = one-more f ps p in omega (arith, rest)

pub total-flat : {P X : Type 0} (f : P → List X) (ps : List P) → length (flat_map f ps) ≡ total f ps
unfolding total
total-flat f [] = refl
total-flat f (p ∷ ps) = let rest = total-flat f ps in omega (arith, rest, length-append (f p) (flat_map f ps))

-- ---- the first that passes a test

find-is : {X : Type 0} (test : X → Bool) (xs : List X) (x : X) → find test xs ≡ Some x → Has x xs × (test x ≡ true)
find-is test [] x e = absurd (cc)
find-is test (y ∷ ys) x e = elim (cases_Bool (test y)) [
  | inl t ↦ let same : y ≡ x = (let g = rw t at e in cc) in (inl same, subst (λ z. test z ≡ true) same t)
  | inr f ↦ let k = find-is test ys x (rw f at e) in (inr k.0, k.1)
]

-- ---- the walk

module _ {P O N : Type 0} (w : World P O N) where
  -- a pack that is tried takes at most two operands for each of its units
  abbrev pub TakeTwo : Type 0
  TakeTwo = (plan : List P) (p : P) → Has p (tried w plan) → length (w.operands_of p) ≤ 2 * length (w.units_of p)

  -- the packs of a plan have at most so many units
  abbrev pub HaveUnits : ℕ → Type 0
  HaveUnits n = (plan : List P) → IsPlan (follows w) plan → total w.units_of plan ≤ n

  -- an operand of a pack of the plan
  abbrev IsOpen : List P → O → Type 0
  IsOpen plan o = (p : P) × Has p plan × Has o (w.operands_of p)

  still-open : (plan : List P) (p : P) (queue : List O) → Every (IsOpen plan) queue
      → Every (IsOpen (plan ++ p ∷ [])) queue
  still-open plan p [] open_ = tt
  still-open plan p (o ∷ queue) open_ =
      ((open_.0.0, has-append_left open_.0.0 plan (p ∷ []) open_.0.1, open_.0.2), still-open plan p queue open_.1)

  each-open : (plan : List P) (os : List O) → ((o : O) → Has o os → IsOpen plan o) → Every (IsOpen plan) os
  each-open plan [] f = tt
  each-open plan (o ∷ os) f = (f o (inl refl), each-open plan os (λ q h. f q (inr h)))

  -- the producers of an operand of the plan are tried
  producer-tried : (plan : List P) (o : O) (p : P) → IsOpen plan o → Has p (w.producers o) → Has p (tried w plan)
  producer-tried plan o p open_ h =
      has-append_right p w.groups _
      (has-flat_map (λ q. flat_map (tried_for w) (w.operands_of q)) open_.0 p plan open_.1
      (has-flat_map (tried_for w) o p (w.operands_of open_.0) open_.2 (has-append_left p (w.producers o) (w.feeders o) h)))

  module _ (n : ℕ) (two : TakeTwo) (few : HaveUnits n) where
    -- so many operands wait at most as turns are left
    abbrev IsInTime : ℕ → List P → List O → Type 0
    IsInTime turns plan queue = length queue + 2 * n ≤ turns + 2 * total w.units_of plan

    -- the walk ends in so many turns, and in any more alike
    record Ends (turns : ℕ) (plan : List P) (queue : List O) : Type 0 where
      pub walked : WalksTo w plan queue (walk w turns plan queue)
      pub stays : (m : ℕ) → turns ≤ m → walk w m plan queue ≡ walk w turns plan queue

    joined-in-time : (turns : ℕ) (plan : List P) (o : O) (queue : List O) (p : P)
        → length (w.operands_of p) ≤ 2 * length (w.units_of p)
        → IsInTime (suc turns) plan (o ∷ queue) → IsInTime turns (plan ++ p ∷ []) (queue ++ w.operands_of p)
    joined-in-time turns plan o queue p most in_time =
        omega (arith, most, in_time, one-more w.units_of plan p, length-append queue (w.operands_of p))

    ends : (turns : ℕ) (plan : List P) (queue : List O) → Every (IsOpen plan) queue → IsPlan (follows w) plan
        → IsInTime turns plan queue → Ends turns plan queue
    unfolding walk
    ends zero plan [] open_ is in_time = record { walked = ended plan; stays = none }
      where
        none : (m : ℕ) → zero ≤ m → walk w m plan [] ≡ plan
        none zero l = refl
        none (suc m) l = refl
    ends zero plan (o ∷ queue) open_ is in_time = absurd (let most = few plan is in omega (arith, most, in_time))
    ends (suc turns) plan [] open_ is in_time = record { walked = ended plan; stays = none }
      where
        none : (m : ℕ) → suc turns ≤ m → walk w m plan [] ≡ plan
        none zero l = refl
        none (suc m) l = refl
    ends (suc turns) plan (o ∷ queue) open_ is in_time = elim (cases_Bool (is_settled w plan o)) [
      | inl t ↦
          let rest = ends turns plan queue open_.1 is (omega (arith, in_time)) in
          record {
            walked = rw t (settled plan (walk w turns plan queue) o queue t rest.walked);
            stays = λ m l. later m l (λ k less. rw t (rest.stays k less));
          }
      | inr f ↦ by f (λ _. ends turns plan queue open_.1 is (omega (arith, in_time)))
          (λ p waits grown in_time. ends turns (plan ++ p ∷ []) (queue ++ w.operands_of p) waits grown in_time)
          (first_producer w plan o) refl
    ]
      where
        later : (m : ℕ) → suc turns ≤ m
            → ((k : ℕ) → turns ≤ k → walk w (suc k) plan (o ∷ queue) ≡ walk w (suc turns) plan (o ∷ queue))
            → walk w m plan (o ∷ queue) ≡ walk w (suc turns) plan (o ∷ queue)
        later zero l same = absurd (omega (arith, l))
        later (suc k) l same = same k (omega (arith, l))

        by : is_settled w plan o ≡ false → (Unit {0} → Ends turns plan queue)
            → ((p : P) → Every (IsOpen (plan ++ p ∷ [])) (queue ++ w.operands_of p) → IsPlan (follows w)
            (plan ++ p ∷ [])
            → IsInTime turns (plan ++ p ∷ []) (queue ++ w.operands_of p)
            → Ends turns (plan ++ p ∷ []) (queue ++ w.operands_of p))
            → (found : Option P) → first_producer w plan o ≡ found → Ends (suc turns) plan (o ∷ queue)
        by f without with_ None e =
            let rest = without tt in
            record {
              walked = rw (f, e) (left plan (walk w turns plan queue) o queue f e rest.walked);
              stays = λ m l. later m l (λ k less. rw (f, e) (rest.stays k less));
            }
        by f without with_ (Some p) e =
            let found = find-is (stays_plan w plan) (w.producers o) p e in
            let tries = producer-tried plan o p open_.0 found.0 in
            let grown = more plan p is (has-filter (stays_plan w plan) p (tried w plan) tries found.1) in
            let waits = every-append (IsOpen (plan ++ p ∷ [])) queue (w.operands_of p) (still-open plan p queue open_.1)
            (each-open (plan ++ p ∷ []) (w.operands_of p)
            (λ q h. (p, has-append_right p plan (p ∷ []) (inl refl), h))) in
            let rest = with_ p waits grown (joined-in-time turns plan o queue p (two plan p tries) in_time) in
            record {
              walked = rw (f, e) (joined plan (walk w turns (plan ++ p ∷ []) (queue ++ w.operands_of p)) o queue p f
                  e rest.walked);
              stays = λ m l. later m l (λ k less. rw (f, e) (rest.stays k less));
            }

    -- the packs of a plan take at most two operands for each of their units
    plan-two : (plan : List P) → IsPlan (follows w) plan → total w.operands_of plan ≤ 2 * total w.units_of plan
    unfolding total
    plan-two _ empty = omega arith
    plan-two _ (more plan p is h) =
        let most = two plan p (from-filter (stays_plan w plan) p (tried w plan) h).0 in
        omega (arith, plan-two plan is, most, one-more w.operands_of plan p, one-more w.units_of plan p)

    -- the groups with which the walk starts
    abbrev start : List P
    start = with_groups w [] w.groups

    start-plan : IsPlan (follows w) start
    unfolding walk
    start-plan = plain-plan w 0

    -- the walk from any plan, where the operands of its packs wait
    own-ends : (turns : ℕ) (plan : List P) → 2 * n ≤ turns → IsPlan (follows w) plan → Ends turns plan (flat_map w.operands_of plan)
    own-ends turns plan l is =
        ends turns plan (flat_map w.operands_of plan)
        (each-open plan (flat_map w.operands_of plan) (λ o h. from-flat_map w.operands_of o plan h)) is
        (omega (arith, l, total-flat w.operands_of plan, plan-two plan is))

    pub own-walks : (plan : List P) → IsPlan (follows w) plan → WalksTo w plan (flat_map w.operands_of plan) (walk w (2 * n) plan (flat_map w.operands_of plan))
    own-walks plan is = (own-ends (2 * n) plan (omega arith) is).walked

    pub own-stays : (turns : ℕ) (plan : List P) → 2 * n ≤ turns → IsPlan (follows w) plan
        → walk w turns plan (flat_map w.operands_of plan) ≡ walk w (2 * n) plan (flat_map w.operands_of plan)
    own-stays turns plan l is = (own-ends (2 * n) plan (omega arith) is).stays turns l

    pub plain-walks : WalksTo w start (flat_map w.operands_of start) (plain_plan w (2 * n))
    plain-walks = own-walks start start-plan

    pub plain-stays : (turns : ℕ) → 2 * n ≤ turns → plain_plan w turns ≡ plain_plan w (2 * n)
    plain-stays turns l = own-stays turns start l start-plan

  -- ---- nothing is left to try

  settled-more : (plan : List P) (p : P) (o : O) → is_settled w plan o ≡ true → is_settled w (plan ++ p ∷ []) o ≡ true
  settled-more plan p o t = elim (cases_Bool (is_reused w plan o)) [
    | inl u ↦
        let k = any-found (λ q. w.holds q o) plan u in
        let again : is_reused w (plan ++ p ∷ []) o ≡ true = any-is (λ q. w.holds q o) k.0 (plan ++ p ∷ [])
        (has-append_left k.0 plan (p ∷ []) k.1) k.2 in
        rw again refl
    | inr f ↦ (let constant : w.is_constant o ≡ true = rw f at t in rw constant
        (either (is_reused w (plan ++ p ∷ []) o)))
  ]
    where
      either : (b : Bool) → (b || true) ≡ true
      either true = refl
      either false = refl

  tried-more : (plan : List P) (p : P) (o : O) → IsTried w plan o → IsTried w (plan ++ p ∷ []) o
  tried-more plan p o is = elim is [
    | inl t ↦ inl (settled-more plan p o t)
    | inr r ↦ elim r [
      | inl made ↦ inr (inl (made.0, has-append_left made.0 plan (p ∷ []) made.1, made.2))
      | inr none ↦ inr (inr (
        none.0,
        none.1 ++ p ∷ [],
        ap (λ ps. ps ++ p ∷ []) none.2 ∙ append_assoc none.0 none.1
            (p ∷ []),
        none.3,
      ))
    ]
  ]

  -- each operand of a pack waits or was tried
  abbrev AllTried : List P → List O → Type 0
  AllTried plan queue = (p : P) (o : O) → Has p plan → Has o (w.operands_of p) → Has o queue ⊎ IsTried w plan o

  first-tried : (plan : List P) (o : O) (queue : List O) → IsTried w plan o → AllTried plan (o ∷ queue)
      → AllTried plan queue
  first-tried plan o queue is all p q h k = elim (all p q h k) [
    | inl waits ↦ elim waits [
      | inl e ↦ inr (subst (IsTried w plan) e is)
      | inr r ↦ inl r
    ]
    | inr t ↦ inr t
  ]

  pub walked-tried : (plan last : List P) (queue : List O) → WalksTo w plan queue last → AllTried plan queue
      → AllTried last []
  walked-tried _ _ _ (ended plan) all = all
  walked-tried _ _ _ (settled plan last o queue t rest) all =
      walked-tried plan last queue rest (first-tried plan o queue (inl t) all)
  walked-tried _ _ _ (left plan last o queue f e rest) all =
      walked-tried plan last queue rest (first-tried plan o queue (inr (inr (plan, [], sym (append-nil plan), e))) all)
  walked-tried _ _ _ (joined plan last o queue p f e rest) all =
      walked-tried (plan ++ p ∷ []) last (queue ++ w.operands_of p) rest
      (λ q x h k. elim (has-append q plan (p ∷ []) h) [
        | inl old ↦ elim (all q x old k) [
          | inl waits ↦ elim waits [
            | inl same ↦ inr (subst (IsTried w (plan ++ p ∷ [])) same
                (inr (inl (
                  p,
                  has-append_right p plan (p ∷ []) (inl refl),
                  (find-is (stays_plan w plan) (w.producers o) p e).0,
                ))))
            | inr r ↦ inl (has-append_left x queue (w.operands_of p) r)
          ]
          | inr t ↦ inr (tried-more plan p x t)
        ]
        | inr new ↦ inl (has-append_right x queue (w.operands_of p) (of_new q x new k))
      ])
    where
      of_new : (q : P) (x : O) → Has q (p ∷ []) → Has x (w.operands_of q) → Has x (w.operands_of p)
      of_new q x h k = elim h [
        | inl same ↦ subst (λ y. Has x (w.operands_of y)) (sym same) k
        | inr none ↦ absurd none
      ]

  module _ (n : ℕ) (two : TakeTwo) (few : HaveUnits n) where
    -- of the plain plan all operands are tried
    pub plain-tried : (p : P) (o : O) → Has p (plain_plan w (2 * n)) → Has o (w.operands_of p)
        → IsTried w (plain_plan w (2 * n)) o
    plain-tried p o h k =
        let start = with_groups w [] w.groups in
        let waits : AllTried start (flat_map w.operands_of start) = λ q x has own. inl
        (has-flat_map w.operands_of q x start has own) in
        elim (walked-tried start (plain_plan w (2 * n)) (flat_map w.operands_of start) (plain-walks n two few) waits
        p o h k) [
          | inl none ↦ absurd none
          | inr t ↦ t
        ]
