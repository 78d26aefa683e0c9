-- The producers of an operand, as the tests of the code say.
use Rattle.std.proofs.Common.{◌≡◌, ℕ, suc, ◌+◌, ◌/◌, ◌<◌, ◌≤◌, Bool, true, false, List, [], ◌∷◌, ◌++◌, drop, get_or, length, map, refl, sym, ◌∙◌, ap, arith, append_assoc, append-nil}
use Rattle.std.specs.Prelude.{◌&&◌, if◌then◌else◌, nat_eq, Option}
use Rattle.std.proofs.lemmas.List.{drop_all, drop_more}
use Rattle.vg_kernel_plans.specs.Producers.{call_producer, call_producers, can_be_produced, lanes_for, load_producer, producers}
use Rattle.vg_kernel_plans.specs.Wants.{wanted_slots, wanted_values}
use Rattle.vg_shapes.specs.declared.match_table.Match.{Match}
use Rattle.vg_shapes.specs.declared.operand.Operand.{Operand}
use Rattle.vg_shapes.specs.declared.operand.Slot.{Slot}
use Rattle.vg_shapes.specs.declared.pack.Pack.{Pack}
use Rattle.vg_shapes.specs.declared.pack.Pack.TheVariants.{Loads, Call}
use Rattle.vg_shapes.specs.declared.ssa.Ssa.{Ssa}
use Rattle.vg_shapes.specs.Description.{Description}
use Rattle.vg_packs.specs.Making.{are_wanted_loads, is_wanted_call, can_be_packed}

if-on : (b : Bool) (p : Pack) → b ≡ true → (if b then p ∷ [] else []) ≡ p ∷ []
if-on true p e = refl
if-on false p e = absurd (cc)

if-off : (b : Bool) (p : Pack) → b ≡ false → (if b then p ∷ [] else []) ≡ []
if-off true p e = absurd (cc)
if-off false p e = refl

load-made : (ssa : Ssa) (o : Operand) (slots : List Slot) (us : List ℕ) (b : Bool) → can_be_produced o ≡ true
    → slots ≡ wanted_slots o → us ≡ wanted_values o → b ≡ are_wanted_loads ssa o.register slots us
    → load_producer ssa o ≡ (if b then Loads us ∷ [] else [])
load-made ssa o slots us b t s u h =
    let own = wanted_values o in
    let same : b ≡ are_wanted_loads ssa o.register (wanted_slots o) own =
    h ∙ ap (λ xs. are_wanted_loads ssa o.register xs us) s ∙ ap (are_wanted_loads ssa o.register (wanted_slots o)) u
    in
    ap (λ c. if c && are_wanted_loads ssa o.register (wanted_slots o) own then Loads own ∷ [] else []) t
    ∙ ap (λ c. if c then Loads own ∷ [] else []) (sym same)
    ∙ ap (λ xs. if b then Loads xs ∷ [] else []) (sym u)

pub load-there : (ssa : Ssa) (o : Operand) (slots : List Slot) (us : List ℕ) (b : Bool) (old new : List Pack)
    → can_be_produced o ≡ true → slots ≡ wanted_slots o → us ≡ wanted_values o
    → b ≡ are_wanted_loads ssa o.register slots us → b ≡ true → new ≡ old ++ Loads us ∷ []
    → new ≡ old ++ load_producer ssa o
load-there ssa o slots us b old new t s u h e n =
    n ∙ ap (λ xs. old ++ xs) (sym (load-made ssa o slots us b t s u h ∙ if-on b (Loads us) e))

pub load-absent : (ssa : Ssa) (o : Operand) (slots : List Slot) (us : List ℕ) (b : Bool) (old new : List Pack)
    → can_be_produced o ≡ true → slots ≡ wanted_slots o → us ≡ wanted_values o
    → b ≡ are_wanted_loads ssa o.register slots us → b ≡ false → new ≡ old
    → new ≡ old ++ load_producer ssa o
load-absent ssa o slots us b old new t s u h e n =
    n ∙ sym (append-nil old) ∙ ap (λ xs. old ++ xs) (sym (load-made ssa o slots us b t s u h ∙ if-off b (Loads us) e))

call-made : (ds : List Description) (matches : List Match) (ssa : Ssa) (o : Operand) (d : ℕ) (e : Description)
    (slots : List Slot) (lanes : List (Option ℕ)) (b : Bool) → can_be_produced o ≡ true
    → slots ≡ wanted_slots o → nat_eq e.register o.register ≡ true
    → lanes ≡ lanes_for (e.register / e.lane_width) 0 e.lane_width o.slots
    → b ≡ is_wanted_call ds matches ssa slots d e.lane_width lanes
    → call_producer ds matches ssa o d e ≡ (if b then Call d lanes ∷ [] else [])
call-made ds matches ssa o d e slots lanes b t s r l h =
    let own = lanes_for (e.register / e.lane_width) 0 e.lane_width o.slots in
    let test = is_wanted_call ds matches ssa (wanted_slots o) d e.lane_width own in
    let same : b ≡ test =
    h ∙ ap (λ xs. is_wanted_call ds matches ssa xs d e.lane_width lanes) s
    ∙ ap (is_wanted_call ds matches ssa (wanted_slots o) d e.lane_width) l
    in
    ap (λ c. if c && (nat_eq e.register o.register && test) then Call d own ∷ [] else []) t
    ∙ ap (λ c. if c && test then Call d own ∷ [] else []) r
    ∙ ap (λ c. if c then Call d own ∷ [] else []) (sym same)
    ∙ ap (λ xs. if b then Call d xs ∷ [] else []) (sym l)

pub call-there : (ds : List Description) (matches : List Match) (ssa : Ssa) (o : Operand) (d : ℕ) (e : Description)
    (slots : List Slot) (lanes : List (Option ℕ)) (b : Bool) (old new : List Pack) → can_be_produced o ≡ true
    → slots ≡ wanted_slots o → nat_eq e.register o.register ≡ true
    → lanes ≡ lanes_for (e.register / e.lane_width) 0 e.lane_width o.slots
    → b ≡ is_wanted_call ds matches ssa slots d e.lane_width lanes → b ≡ true → new ≡ old ++ Call d lanes ∷ []
    → new ≡ old ++ call_producer ds matches ssa o d e
call-there ds matches ssa o d e slots lanes b old new t s r l h f n =
    n ∙ ap (λ xs. old ++ xs) (sym (call-made ds matches ssa o d e slots lanes b t s r l h ∙ if-on b (Call d lanes) f))

pub call-absent : (ds : List Description) (matches : List Match) (ssa : Ssa) (o : Operand) (d : ℕ) (e : Description)
    (slots : List Slot) (lanes : List (Option ℕ)) (b : Bool) (old new : List Pack) → can_be_produced o ≡ true
    → slots ≡ wanted_slots o → nat_eq e.register o.register ≡ true
    → lanes ≡ lanes_for (e.register / e.lane_width) 0 e.lane_width o.slots
    → b ≡ is_wanted_call ds matches ssa slots d e.lane_width lanes → b ≡ false → new ≡ old
    → new ≡ old ++ call_producer ds matches ssa o d e
call-absent ds matches ssa o d e slots lanes b old new t s r l h f n =
    n ∙ sym (append-nil old)
    ∙ ap (λ xs. old ++ xs) (sym (call-made ds matches ssa o d e slots lanes b t s r l h ∙ if-off b (Call d lanes) f))

pub call-apart : (ds : List Description) (matches : List Match) (ssa : Ssa) (o : Operand) (d : ℕ) (e : Description)
    (old new : List Pack) → can_be_produced o ≡ true → nat_eq e.register o.register ≡ false → new ≡ old
    → new ≡ old ++ call_producer ds matches ssa o d e
call-apart ds matches ssa o d e old new t r n =
    let own = lanes_for (e.register / e.lane_width) 0 e.lane_width o.slots in
    let test = is_wanted_call ds matches ssa (wanted_slots o) d e.lane_width own in
    let none : call_producer ds matches ssa o d e ≡ [] =
    ap (λ c. if c && (nat_eq e.register o.register && test) then Call d own ∷ [] else []) t
    ∙ ap (λ c. if c && test then Call d own ∷ [] else []) r
    in
    n ∙ sym (append-nil old) ∙ ap (λ xs. old ++ xs) (sym none)

-- ---- all of them

pub calls-more : {X : Type 0} (view : X → Description) (ds : List Description) (matches : List Match) (ssa : Ssa) (o : Operand)
    (xs : List X) (k : ℕ) (x : X) (old new whole : List Pack) → k < length xs → x ≡ get_or xs k x
    → new ≡ old ++ call_producer ds matches ssa o k (view x)
    → old ++ call_producers ds matches ssa o k (map view (drop k xs)) ≡ whole
    → new ++ call_producers ds matches ssa o (k + 1) (map view (drop (k + 1) xs)) ≡ whole
calls-more view ds matches ssa o xs k x old new whole l is n h =
    let s : k + 1 ≡ suc k = omega arith in
    let rest = map view (drop (k + 1) xs) in
    ap (λ ps. ps ++ call_producers ds matches ssa o (k + 1) rest) n
    ∙ append_assoc old (call_producer ds matches ssa o k (view x)) _
    ∙ ap (λ j. old ++ (call_producer ds matches ssa o k (view x) ++ call_producers ds matches ssa o j rest)) s
    ∙ ap (λ ys. old ++ call_producers ds matches ssa o k (map view ys)) (ap (λ y. y ∷ drop (k + 1) xs) is ∙ sym (drop_more xs k x l))
    ∙ h

pub calls-end : {X : Type 0} (view : X → Description) (ds : List Description) (matches : List Match) (ssa : Ssa) (o : Operand)
    (xs : List X) (k : ℕ) (old whole : List Pack) → length xs ≤ k
    → old ++ call_producers ds matches ssa o k (map view (drop k xs)) ≡ whole → old ≡ whole
calls-end view ds matches ssa o xs k old whole l h =
    sym (append-nil old)
    ∙ ap (λ ys. old ++ call_producers ds matches ssa o k (map view ys)) (sym (drop_all k xs l))
    ∙ h

no-calls : (ds : List Description) (matches : List Match) (ssa : Ssa) (o : Operand) (d : ℕ) (es : List Description)
    → can_be_produced o ≡ false → call_producers ds matches ssa o d es ≡ []
no-calls ds matches ssa o d [] f = refl
no-calls ds matches ssa o d (e ∷ es) f =
    let own = lanes_for (e.register / e.lane_width) 0 e.lane_width o.slots in
    let test = is_wanted_call ds matches ssa (wanted_slots o) d e.lane_width own in
    let none : call_producer ds matches ssa o d e ≡ [] =
    ap (λ c. if c && (nat_eq e.register o.register && test) then Call d own ∷ [] else []) f
    in
    ap (λ ps. ps ++ call_producers ds matches ssa o (suc d) es) none ∙ no-calls ds matches ssa o (suc d) es f

may-is : (o : Operand) (slots : List Slot) (us : List ℕ) (b : Bool) → slots ≡ wanted_slots o → us ≡ wanted_values o
    → b ≡ can_be_packed slots us → b ≡ can_be_produced o
may-is o slots us b s u h = h ∙ ap (λ xs. can_be_packed xs us) s ∙ ap (can_be_packed (wanted_slots o)) u

pub may-produced : (o : Operand) (slots : List Slot) (us : List ℕ) (b : Bool) → slots ≡ wanted_slots o → us ≡ wanted_values o
    → b ≡ can_be_packed slots us → b ≡ true → can_be_produced o ≡ true
may-produced o slots us b s u h t = sym (may-is o slots us b s u h) ∙ t

pub none-produced : (ds : List Description) (matches : List Match) (ssa : Ssa) (o : Operand) (slots : List Slot) (us : List ℕ) (b : Bool)
    → slots ≡ wanted_slots o → us ≡ wanted_values o → b ≡ can_be_packed slots us → b ≡ false
    → producers ds matches ssa o ≡ []
none-produced ds matches ssa o slots us b s u h f =
    let own = wanted_values o in
    let no : can_be_produced o ≡ false = sym (may-is o slots us b s u h) ∙ f in
    ap (λ c. (if c && are_wanted_loads ssa o.register (wanted_slots o) own then Loads own ∷ [] else []) ++ call_producers ds matches ssa o 0 ds) no
    ∙ no-calls ds matches ssa o 0 ds no
