-- Units marked and pushed one after the other, and what a walk down keeps.
use Rattle.std.proofs.Common.{◌≡◌, ℕ, zero, suc, ◌+◌, ◌<◌, ◌⊎◌, Bool, true, false, List, [], ◌∷◌, ◌++◌, length, take, get_or, refl, sym, ◌∙◌, subst, inl, inr, arith, length-append, get_or-set_same, get_or-set_other}
use Rattle.std.specs.Prelude.{set, All, nat_eq}
use Rattle.std.specs.List.{list_any}
use Rattle.std.proofs.lemmas.List.{take_more, length-set}
use Rattle.std.proofs.lemmas.Bool.{cases_Bool}
use Rattle.std.proofs.lemmas.Bool.Decides.{nat_tests}
use Rattle.vg_plans.specs.Members.{Has}
use Rattle.vg_plans.proofs.Members.{any-found, has-append, has-left, has-right}
use Rattle.vg_packs.specs.Walk.{IsAt, Way, there, down, HasWay, IsApart, IsSettled, Pushed, count_open}

true-not-false : (b : Bool) → b ≡ true → b ≡ false → ⊥
true-not-false b t f = let e : true ≡ false = sym t ∙ f in absurd (cc)

count-set : (marks : List Bool) (x : ℕ) → x < length marks → get_or marks x false ≡ false → count_open (set marks x true) + 1 ≡ count_open marks
count-set [] x lt f = absurd (omega arith)
count-set (b ∷ marks) zero lt f = rw f (omega arith)
count-set (true ∷ marks) (suc x) lt f = count-set marks x (omega arith) f
count-set (false ∷ marks) (suc x) lt f = let h = count-set marks x (omega arith) f in omega arith

has-more : (v : ℕ) (list : List ℕ) (i : ℕ) → i < length list → Has v (take (i + 1) list) → Has v (take i list) ⊎ (get_or list i 0 ≡ v)
has-more v list i lt h = elim (has-append v (take i list) (get_or list i 0 ∷ []) (subst (Has v) (take_more list i 0 lt) h)) [
  | inl l ↦ inl l
  | inr r ↦ elim r [ inl e ↦ inr e | inr n ↦ absurd n ]
]

more-has : (v : ℕ) (list : List ℕ) (i : ℕ) → i < length list → Has v (take i list) ⊎ (get_or list i 0 ≡ v) → Has v (take (i + 1) list)
more-has v list i lt h = subst (Has v) (sym (take_more list i 0 lt)) (elim h [ inl l ↦ has-left v (take i list) (get_or list i 0 ∷ []) l | inr e ↦ has-right v (take i list) (get_or list i 0 ∷ []) (inl e) ])

pub pushed-none : (marks : List Bool) (stack : List ℕ) → Pushed [] marks stack marks stack
pushed-none marks stack = record {
  stays = λ v h. h;
  whole = λ v h. absurd h;
  new = λ v h. inl h;
  kept = λ v h. h;
  from = λ v h. inl h;
  long = refl;
  level = refl;
}

pub pushed-old : (list : List ℕ) (i : ℕ) (marks : List Bool) (stack : List ℕ) (marks1 marks2 : List Bool) (stack1 stack2 : List ℕ) → Pushed (take i list) marks stack marks1 stack1 → i < length list →
    get_or marks1 (get_or list i 0) false ≡ true → marks2 ≡ marks1 → stack2 ≡ stack1 → Pushed (take (i + 1) list) marks stack marks2 stack2
pushed-old list i marks stack marks1 marks2 stack1 stack2 p lt t em es =
    subst (λ m. Pushed (take (i + 1) list) marks stack m stack2) (sym em) (subst (Pushed (take (i + 1) list) marks stack marks1) (sym es) (record {
      stays = p.stays;
      whole = λ v h. elim (has-more v list i lt h) [ inl l ↦ p.whole v l | inr e ↦ subst (IsAt marks1) e t ];
      new = λ v h. elim (p.new v h) [ inl l ↦ inl l | inr r ↦ inr (more-has v list i lt (inl r.0), r.1) ];
      kept = p.kept;
      from = λ v h. elim (p.from v h) [ inl l ↦ inl l | inr r ↦ inr (more-has v list i lt (inl r)) ];
      long = p.long;
      level = p.level;
    }))

pub pushed-new : (list : List ℕ) (i : ℕ) (marks : List Bool) (stack : List ℕ) (marks1 marks2 : List Bool) (stack1 stack2 : List ℕ) → Pushed (take i list) marks stack marks1 stack1 → i < length list →
    get_or list i 0 < length marks1 → get_or marks1 (get_or list i 0) false ≡ false → marks2 ≡ set marks1 (get_or list i 0) true → stack2 ≡ stack1 ++ get_or list i 0 ∷ [] → Pushed (take (i + 1) list) marks stack marks2 stack2
pushed-new list i marks stack marks1 marks2 stack1 stack2 p lt inside f em es =
    let x = get_or list i 0 in
    let same : get_or (set marks1 x true) x false ≡ true = get_or-set_same marks1 x true false inside in
    let keep : (v : ℕ) → IsAt marks1 v → IsAt (set marks1 x true) v = λ v h. elim (cases_Bool (nat_eq v x)) [
      | inl t ↦ let e : x ≡ v = grind (arith, nat_tests, t) in subst (IsAt (set marks1 x true)) e same
      | inr g ↦ let ne : v ≡ x → ⊥ = λ e. grind (arith, nat_tests, g, e) in get_or-set_other marks1 x v true false ne ∙ h
    ] in
    let back : (v : ℕ) → IsAt (set marks1 x true) v → IsAt marks1 v ⊎ (x ≡ v) = λ v h. elim (cases_Bool (nat_eq v x)) [
      | inl t ↦ inr (grind (arith, nat_tests, t))
      | inr g ↦ let ne : v ≡ x → ⊥ = λ e. grind (arith, nat_tests, g, e) in inl (sym (get_or-set_other marks1 x v true false ne) ∙ h)
    ] in
    subst (λ m. Pushed (take (i + 1) list) marks stack m stack2) (sym em) (subst (Pushed (take (i + 1) list) marks stack (set marks1 x true)) (sym es) (record {
      stays = λ v h. keep v (p.stays v h);
      whole = λ v h. elim (has-more v list i lt h) [ inl l ↦ keep v (p.whole v l) | inr e ↦ subst (IsAt (set marks1 x true)) e same ];
      new = λ v h. elim (back v h) [
        | inl l ↦ elim (p.new v l) [ inl a ↦ inl a | inr r ↦ inr (more-has v list i lt (inl r.0), has-left v stack1 (x ∷ []) r.1) ]
        | inr e ↦ inr (more-has v list i lt (inr e), has-right v stack1 (x ∷ []) (inl e))
      ];
      kept = λ v h. has-left v stack1 (x ∷ []) (p.kept v h);
      from = λ v h. elim (has-append v stack1 (x ∷ []) h) [
        | inl l ↦ elim (p.from v l) [ inl a ↦ inl a | inr r ↦ inr (more-has v list i lt (inl r)) ]
        | inr r ↦ elim r [ inl e ↦ inr (more-has v list i lt (inr e)) | inr n ↦ absurd n ]
      ];
      long = length-set marks1 x true ∙ p.long;
      level = let h = count-set marks1 x inside f in let l = p.level in omega (arith, length-append stack1 (x ∷ []));
    }))

pub all-has : (P : ℕ → Type 0) (xs : List ℕ) → All P xs → (v : ℕ) → Has v xs → P v
all-has P [] a v h = absurd h
all-has P (x ∷ xs) a v h = elim h [ inl e ↦ subst P e (a 0 0 (omega arith)) | inr r ↦ all-has P xs (λ k d lt. a (suc k) d (omega arith)) v r ]

pub no-way : (needs : ℕ → List ℕ) (own : ℕ → Bool) (marks : List Bool) → IsSettled needs own marks → (v : ℕ) → IsAt marks v → Way needs own v → ⊥
no-way needs own marks s v h (there u t) = true-not-false (own v) t (s.away v h)
no-way needs own marks s v h (down u x k w) = no-way needs own marks s x (s.closed v x h k) w

-- what the search keeps
pub record Searches (needs : ℕ → List ℕ) (own : ℕ → Bool) (bound : ℕ) (old : List Bool) (starts : List ℕ) (marks : List Bool) (stack : List ℕ) : Type 0 where
  pub long : length marks ≡ bound
  pub stays : (v : ℕ) → IsAt old v → IsAt marks v
  pub starts_marked : (x : ℕ) → Has x starts → IsAt marks x
  pub done : (v : ℕ) → IsAt marks v → Has v stack ⊎ ((own v ≡ false) × ((x : ℕ) → Has x (needs v) → IsAt marks x))
  pub leads : (v : ℕ) → IsAt marks v → Way needs own v → HasWay needs own starts
  pub on : (v : ℕ) → Has v stack → IsAt marks v
  pub inside : (v : ℕ) → Has v stack → v < bound

pub begins : (needs : ℕ → List ℕ) (own : ℕ → Bool) (bound : ℕ) (starts : List ℕ) (marks new_marks : List Bool) (stack : List ℕ) → length marks ≡ bound → IsSettled needs own marks → All (λ v. v < bound) starts →
    Pushed starts marks [] new_marks stack → Searches needs own bound marks starts new_marks stack
begins needs own bound starts marks new_marks stack long clear ins p = record {
  long = p.long ∙ long;
  stays = p.stays;
  starts_marked = p.whole;
  done = λ v h. elim (p.new v h) [ inl a ↦ inr (clear.away v a, λ x k. p.stays x (clear.closed v x a k)) | inr r ↦ inl r.1 ];
  leads = λ v h w. elim (p.new v h) [ inl a ↦ absurd (no-way needs own marks clear v a w) | inr r ↦ (v, r.0, w) ];
  on = λ v h. elim (p.from v h) [ inl n ↦ absurd n | inr r ↦ p.whole v r ];
  inside = λ v h. elim (p.from v h) [ inl n ↦ absurd n | inr r ↦ all-has (λ u. u < bound) starts ins v r ];
}

pub goes-on : (needs : ℕ → List ℕ) (own : ℕ → Bool) (bound : ℕ) (old : List Bool) (starts : List ℕ) (marks new_marks : List Bool) (front stack : List ℕ) (v : ℕ) → Searches needs own bound old starts marks (front ++ v ∷ []) → own v ≡ false →
    All (λ x. x < bound) (needs v) → Pushed (needs v) marks front new_marks stack → Searches needs own bound old starts new_marks stack
goes-on needs own bound old starts marks new_marks front stack v s f ins p = record {
  long = p.long ∙ s.long;
  stays = λ x h. p.stays x (s.stays x h);
  starts_marked = λ x h. p.stays x (s.starts_marked x h);
  done = λ u h. elim (p.new u h) [
    | inl a ↦ elim (s.done u a) [
      | inl k ↦ elim (has-append u front (v ∷ []) k) [
        | inl l ↦ inl (p.kept u l)
        | inr r ↦ elim r [ inl e ↦ inr (subst (λ z. own z ≡ false) e f, λ x m. p.whole x (subst (λ z. Has x (needs z)) (sym e) m)) | inr n ↦ absurd n ]
      ]
      | inr d ↦ inr (d.0, λ x m. p.stays x (d.1 x m))
    ]
    | inr r ↦ inl r.1
  ];
  leads = λ u h w. elim (p.new u h) [ inl a ↦ s.leads u a w | inr r ↦ s.leads v (s.on v (has-right v front (v ∷ []) (inl refl))) (down v u r.0 w) ];
  on = λ u h. elim (p.from u h) [ inl l ↦ p.stays u (s.on u (has-left u front (v ∷ []) l)) | inr r ↦ p.whole u r ];
  inside = λ u h. elim (p.from u h) [ inl l ↦ s.inside u (has-left u front (v ∷ []) l) | inr r ↦ all-has (λ x. x < bound) (needs v) ins u r ];
}

pub ends : (needs : ℕ → List ℕ) (own : ℕ → Bool) (bound : ℕ) (old : List Bool) (starts : List ℕ) (marks : List Bool) → Searches needs own bound old starts marks [] → IsApart needs own starts marks
ends needs own bound old starts marks s = record {
  starts_marked = s.starts_marked;
  closed = λ v x h m. elim (s.done v h) [ inl n ↦ absurd n | inr d ↦ d.1 x m ];
  away = λ v h. elim (s.done v h) [ inl n ↦ absurd n | inr d ↦ d.0 ];
}

pub finds : (needs : ℕ → List ℕ) (own : ℕ → Bool) (bound : ℕ) (old : List Bool) (starts : List ℕ) (marks : List Bool) (front : List ℕ) (v : ℕ) → Searches needs own bound old starts marks (front ++ v ∷ []) → own v ≡ true → HasWay needs own starts
finds needs own bound old starts marks front v s t = s.leads v (s.on v (has-right v front (v ∷ []) (inl refl))) (there v t)

pub finds-need : (needs : ℕ → List ℕ) (own : ℕ → Bool) (bound : ℕ) (old : List Bool) (starts : List ℕ) (marks : List Bool) (front : List ℕ) (v : ℕ) → Searches needs own bound old starts marks (front ++ v ∷ []) → list_any own (needs v) ≡ true → HasWay needs own starts
finds-need needs own bound old starts marks front v s t =
    let k = any-found own (needs v) t in
    s.leads v (s.on v (has-right v front (v ∷ []) (inl refl))) (down v k.0 k.1 (there k.0 k.2))

pub inside-here : (needs : ℕ → List ℕ) (own : ℕ → Bool) (bound : ℕ) (old : List Bool) (starts : List ℕ) (marks : List Bool) (front : List ℕ) (v : ℕ) → Searches needs own bound old starts marks (front ++ v ∷ []) → v < bound
inside-here needs own bound old starts marks front v s = s.inside v (has-right v front (v ∷ []) (inl refl))
