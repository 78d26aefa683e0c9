-- Lines that bring numbers and operands into registers. They leave memory alone.
use Rattle.std.proofs.Common.{◌≡◌, ℕ, suc, ◌+◌, ◌*◌, ◌/◌, ◌<◌, ◌≤◌, List, [], ◌∷◌, ◌++◌, length, map, Option, Some, None, refl, sym, ap, subst, ◌∙◌, ◌⊎◌, inl, inr, arith}
use Rattle.std.specs.Prelude.{slice_index, unwrap_or}
use Rattle.std.proofs.lemmas.Bool.{cases_Bool, cond-true, cond-false, lt-ltb, le-ltb}
use Rattle.vg_base.specs.Trap.{◌>>=◌}
use Rattle.vg_base.specs.Bits.{bits, bits_of_bytes}
use Rattle.vg_base.specs.declared.width.Width.{Width}
use Rattle.vg_base.specs.Width.{bits_of}
use Rattle.vg_bits.specs.Range.{replaced}
use Rattle.vg_program.specs.declared.line.Line.{Line}
use Rattle.vg_program.specs.declared.line.Line.TheVariants as line
use Rattle.vg_program.specs.declared.operand.Operand.TheVariants.{Register}
use Rattle.vg_program.specs.Meaning.{State, Instructions, Inputs, operand_number, with_scalar, with_vector, register_bits, lane_number, with_lane, step, run}
use Rattle.vg_shapes.specs.declared.operand.Operand.{Operand}
use Rattle.vg_shapes.specs.declared.operand.Slot.{Slot}
use Rattle.vg_shapes.specs.declared.wanted.Wanted.{Wanted}
use Rattle.vg_shapes.specs.declared.wanted.Wanted.TheVariants.{Value, Constant, Nothing}
use Rattle.vg_shapes.specs.RunUnits.{number_of}
use Rattle.vg_shapes.specs.Units.{arguments}
use Rattle.vg_kernel_plans.specs.declared.recipe.Recipe.{Recipe}
use Rattle.vg_kernel_plans.specs.declared.recipe.Recipe.TheVariants as recipe
use Rattle.vg_order_laws.proofs.Sequences.{bind_same, bind_twice}
use Rattle.vg_emission.specs.Draft.{Draft, Made, found, with_name, with_vectors, with_built}
use Rattle.vg_emission.specs.Emission.{Job, AllPlaced, Placed, build, build_all, call_of, constant_bytes, description_at, extracts, inserts, number_for, operand_at, place, place_once, recipe_at, registers_of, value_slots, width_for}
use Rattle.vg_emission.specs.Promises.{AllFill, AllHold, answer, Fills, inserted, LanesHave, RecipeFills}
use Rattle.vg_emission.proofs.Registers.{Has, Has-more, Has-last, Stands, Stands-name, Stands-vector, Stands-built}

pub run-append : (c : Instructions) (i : Inputs) (ls ms : List Line) (s : State) → run c i (ls ++ ms) s ≡ (run c i ls s >>= run c i ms)
unfolding run
run-append c i [] ms s = refl
run-append c i (l ∷ ls) ms s = bind_same (step c i l s) _ _ (run-append c i ls ms) ∙ sym (bind_twice (step c i l s) (run c i ls) (run c i ms))

-- what runs goes on where the lines before it end
pub run-joined : (c : Instructions) (i : Inputs) (ls ms : List Line) (s t u : State) → run c i ls s ≡ Some t → run c i ms t ≡ Some u → run c i (ls ++ ms) s ≡ Some u
run-joined c i ls ms s t u e g = run-append c i ls ms s ∙ ap (λ o. o >>= run c i ms) e ∙ g

-- ---- what stands for values and constants

-- an argument, a constant, or a value that has a scalar
abbrev pub Known : Job → Draft → Wanted → Type 0
Known j d (Value v) = (v < arguments j.ssa) ⊎ ((r : ℕ) × (arguments j.ssa ≤ v) × (found d.names v ≡ Some r))
Known j d (Constant w n) = Unit {0}
Known j d Nothing = Unit {0}

-- the arguments have the numbers of their values
abbrev pub ArgumentsHave : Job → (ℕ → ℕ) → Inputs → Type 0
ArgumentsHave j numbers i = (v : ℕ) → v < arguments j.ssa → slice_index i.args v ≡ numbers v

pub number-has : (j : Job) (numbers : ℕ → ℕ) (i : Inputs) (d : Draft) (s : State) (x : Wanted) → ArgumentsHave j numbers i → Stands j numbers d s → Known j d x
    → operand_number i s.scalars (number_for j d x) ≡ number_of numbers x
number-has j numbers i d s (Constant w n) args h k = refl
number-has j numbers i d s Nothing args h k = refl
number-has j numbers i d s (Value v) args h (inl below) = ap (operand_number i s.scalars) (cond-true _ _ _ (lt-ltb v (arguments j.ssa) below)) ∙ args v below
number-has j numbers i d s (Value v) args h (inr k) =
    ap (operand_number i s.scalars) (cond-false _ _ _ (le-ltb v (arguments j.ssa) k.1) ∙ ap (λ o. Register (unwrap_or o 0)) k.2) ∙ (h.names v k.0 k.2).1 0

-- ---- lines that lead on

-- The lines lead to a state that has what the draft says, with the same memory. No register is lost.
pub record Leads (j : Job) (numbers : ℕ → ℕ) (c : Instructions) (i : Inputs) (s : State) (ls : List Line) (d : Draft) (t : State) : Type 0 where
  pub runs : run c i ls s ≡ Some t
  pub stands : Stands j numbers d t
  pub memory : t.memory ≡ s.memory
  pub grown : (k : ℕ) (x : List ℕ) → Has s.vectors k x → Has t.vectors k x

pub leads-nowhere : (j : Job) (numbers : ℕ → ℕ) (c : Instructions) (i : Inputs) (s : State) (d : Draft) → Stands j numbers d s → Leads j numbers c i s [] d s
unfolding run
leads-nowhere j numbers c i s d h = record { runs = refl; stands = h; memory = refl; grown = λ k x g. g }

pub leads-first : (j : Job) (numbers : ℕ → ℕ) (c : Instructions) (i : Inputs) (s t u : State) (l : Line) (ls : List Line) (d : Draft) → step c i l s ≡ Some t → t.memory ≡ s.memory → ((k : ℕ) (x : List ℕ) → Has s.vectors k x → Has t.vectors k x) → Leads j numbers c i t ls d u → Leads j numbers c i s (l ∷ ls) d u
unfolding run
leads-first j numbers c i s t u l ls d e m g r = record { runs = ap (λ o. o >>= run c i ls) e ∙ r.runs; stands = r.stands; memory = r.memory ∙ m; grown = λ k x h. r.grown k x (g k x h) }

pub leads-then : (j : Job) (numbers : ℕ → ℕ) (c : Instructions) (i : Inputs) (s t u : State) (ls ms : List Line) (d e : Draft) → Leads j numbers c i s ls d t → Leads j numbers c i t ms e u → Leads j numbers c i s (ls ++ ms) e u
leads-then j numbers c i s t u ls ms d e first r = record { runs = run-joined c i ls ms s t u first.runs r.runs; stands = r.stands; memory = r.memory ∙ first.memory; grown = λ k x h. r.grown k x (first.grown k x h) }

-- ---- values taken out of registers

pub extracts-run : (j : Job) (numbers : ℕ → ℕ) (c : Instructions) (i : Inputs) (d : Draft) (s : State) (r : ℕ) (reg : List ℕ) (w : Width) (n : ℕ) (us : List (Option ℕ)) → Stands j numbers d s → Has s.vectors r reg → LanesHave numbers (bits_of w) n us reg
    → (t : State) × Leads j numbers c i s (extracts j d r w n us).lines (extracts j d r w n us).draft t
extracts-run j numbers c i d s r reg w n [] h has lanes = (s, leads-nowhere j numbers c i s d h)
extracts-run j numbers c i d s r reg w n (None ∷ us) h has lanes = extracts-run j numbers c i d s r reg w (n + 1) us h has lanes
extracts-run j numbers c i d s r reg w n (Some v ∷ us) h has lanes =
    let Goal : Made → Type 0 = λ made. (t : State) × Leads j numbers c i s made.lines made.draft t in
    let next = with_scalar s (numbers v) in
    let made = extracts j (with_name d v) r w (n + 1) us in
    elim (cases_Bool (j.needed v)) [
      | inr f ↦ subst Goal (sym (cond-false _ _ _ f)) (extracts-run j numbers c i d s r reg w (n + 1) us h has lanes.1)
      | inl b ↦ subst Goal (sym (cond-true _ _ _ b))
          (let rest = extracts-run j numbers c i (with_name d v) next r reg w (n + 1) us (Stands-name j numbers d s v h) has lanes.1 in (
            rest.0,
            leads-first j numbers c i s next rest.0 (line.Extract r n w) made.lines made.draft
                (ap (λ x. Some (with_scalar s (lane_number (bits_of w) n x))) (has.1 []) ∙ ap (λ k. Some (with_scalar s k)) lanes.0)
                refl (λ k x g. g) rest.1,
          ))
    ]

-- ---- values put into registers

-- a slot is a lane of a width
abbrev pub IsLaneSlot : Slot → Type 0
IsLaneSlot s = (bits_of (width_for s.width) ≡ s.width) × (s.low / s.width * s.width ≡ s.low)

put-lane : (s : Slot) (n : ℕ) (reg : List ℕ) → IsLaneSlot s → with_lane (bits_of (width_for s.width)) (s.low / s.width) n reg ≡ replaced s.low (bits s.width n) reg
put-lane s n reg h = ap (λ b. with_lane b (s.low / s.width) n reg) h.0 ∙ ap (λ l. replaced l (bits s.width n) reg) h.1

abbrev pub SlotsKnown : Job → Draft → List Slot → Type 0
SlotsKnown j d [] = Unit {0}
SlotsKnown j d (x ∷ xs) = Known j d x.wanted × IsLaneSlot x × SlotsKnown j d xs

pub inserts-run : (j : Job) (numbers : ℕ → ℕ) (c : Instructions) (i : Inputs) (d : Draft) (s : State) (b r : ℕ) (reg : List ℕ) (xs : List Slot) → ArgumentsHave j numbers i → Stands j numbers d s → Has s.vectors r reg → r + 1 ≡ d.vectors → SlotsKnown j d xs
    → (t : State) × Leads j numbers c i s (inserts j d b r xs) (with_vectors d (length xs)) t × Has t.vectors (r + length xs) (inserted numbers xs reg)
inserts-run j numbers c i d s b r reg [] args h has last known = (
  s,
  leads-nowhere j numbers c i s (with_vectors d 0) (record { scalars = h.scalars; vectors = h.vectors ∙ omega arith; names = h.names; held = h.held; built = h.built }),
  subst (λ k. Has s.vectors k reg) (let e : r ≡ r + 0 = omega arith in e) has,
)
inserts-run j numbers c i d s b r reg (x ∷ xs) args h has last known =
    let next = replaced x.low (bits x.width (number_of numbers x.wanted)) reg in
    let t = with_vector s next in
    let l = line.Insert r b (x.low / x.width) (width_for x.width) (number_for j d x.wanted) in
    let first : step c i l s ≡ Some t =
    ap (λ y. Some (with_vector s (with_lane (bits_of (width_for x.width)) (x.low / x.width) y (register_bits s.vectors r)))) (number-has j numbers i d s x.wanted args h known.0)
    ∙ ap (λ v. Some (with_vector s (with_lane (bits_of (width_for x.width)) (x.low / x.width) (number_of numbers x.wanted) v))) (has.1 [])
    ∙ ap (λ v. Some (with_vector s v)) (put-lane x (number_of numbers x.wanted) reg known.1) in
    let rest = inserts-run j numbers c i (with_vectors d 1) t b (r + 1) next xs args (Stands-vector j numbers d s next h) (Has-last s.vectors (r + 1) next (h.vectors ∙ sym last)) (omega arith) known.2 in
    let more = leads-first j numbers c i s t rest.0 l (inserts j d b (r + 1) xs) (with_vectors (with_vectors d 1) (length xs)) first refl (λ k y g. Has-more s.vectors _ k y g) rest.1 in
    let all : d.vectors + 1 + length xs ≡ d.vectors + suc (length xs) = omega arith in
    let there : r + 1 + length xs ≡ r + suc (length xs) = omega arith in (
      rest.0,
      record { runs = more.runs; stands = record { scalars = more.stands.scalars; vectors = more.stands.vectors ∙ all; names = more.stands.names; held = more.stands.held; built = more.stands.built }; memory = more.memory; grown = more.grown },
      subst (λ k. Has rest.0.vectors k (inserted numbers (x ∷ xs) reg)) there rest.2,
    )

-- ---- recipes

-- registers of these numbers are there
abbrev pub AllHave : List (List ℕ) → List ℕ → List (List ℕ) → Type 0
AllHave vectors [] rs = rs ≡ []
AllHave vectors (k ∷ ks) [] = ⊥
AllHave vectors (k ∷ ks) (r ∷ rs) = Has vectors k r × AllHave vectors ks rs

pub all-have_bits : (vectors : List (List ℕ)) (ks : List ℕ) (rs : List (List ℕ)) → AllHave vectors ks rs → map (λ v. register_bits vectors v) ks ≡ rs
all-have_bits vectors [] rs h = sym h
all-have_bits vectors (k ∷ ks) [] h = absurd h
all-have_bits vectors (k ∷ ks) (r ∷ rs) h = λ i. h.0.1 [] i ∷ all-have_bits vectors ks rs h.1 i

-- packs of these numbers have registers
abbrev pub AllHeld : Draft → List ℕ → Type 0
AllHeld d [] = Unit {0}
AllHeld d (k ∷ ks) = ((r : ℕ) × (found d.held k ≡ Some r)) × AllHeld d ks

-- what has to have run before an operand is brought into a register
abbrev pub RecipeReady : Job → Draft → Operand → Recipe → Type 0
RecipeReady j d o (recipe.Reuse k) = (r : ℕ) × (found d.held k ≡ Some r)
RecipeReady j d o (recipe.Constant bs) = Unit {0}
RecipeReady j d o (recipe.Shuffle e packs) = AllHeld d packs
RecipeReady j d o recipe.Inserts = SlotsKnown j d (value_slots o)

-- the registers of packs
record PacksHeld (j : Job) (numbers : ℕ → ℕ) (d : Draft) (s : State) (ks : List ℕ) : Type 0 where
  regs : List (List ℕ)
  have : AllHave s.vectors (registers_of d ks) regs
  hold : AllHold j numbers ks regs

packs-held : (j : Job) (numbers : ℕ → ℕ) (d : Draft) (s : State) (ks : List ℕ) → Stands j numbers d s → AllHeld d ks → PacksHeld j numbers d s ks
packs-held j numbers d s [] h ready = record { regs = []; have = refl; hold = refl }
packs-held j numbers d s (k ∷ ks) h ready =
    let x = h.held k ready.0.0 ready.0.1 in
    let at : unwrap_or (found d.held k) 0 ≡ ready.0.0 = ap (λ q. unwrap_or q 0) ready.0.1 in
    let rest = packs-held j numbers d s ks h ready.1 in
    record { regs = x.0 ∷ rest.regs; have = (subst (λ q. Has s.vectors q x.0) (sym at) x.1, rest.have); hold = (x.2, rest.hold) }

-- the lines of a placed operand lead to a state where its register is filled
pub record Builds (j : Job) (numbers : ℕ → ℕ) (c : Instructions) (i : Inputs) (s : State) (o : Operand) (made : Placed) (t : State) : Type 0 where
  pub leads : Leads j numbers c i s made.lines made.draft t
  pub reg : List ℕ
  pub has : Has t.vectors made.register reg
  pub fills : Fills numbers o reg

-- one line that gives a register which fills an operand
new-register : (j : Job) (numbers : ℕ → ℕ) (c : Instructions) (i : Inputs) (d : Draft) (s : State) (o : ℕ) (l : Line) (reg : List ℕ) → Stands j numbers d s → step c i l s ≡ Some (with_vector s reg) → Fills numbers (operand_at j o) reg
    → (t : State) × Builds j numbers c i s (operand_at j o) (record { lines = l ∷ []; draft = with_built (with_vectors d 1) o d.vectors; register = d.vectors }) t
new-register j numbers c i d s o l reg h steps fills =
    let t = with_vector s reg in
    let has = Has-last s.vectors d.vectors reg h.vectors in
    let stands = Stands-built j numbers (with_vectors d 1) t o d.vectors reg (Stands-vector j numbers d s reg h) has fills in
    (t, record { leads = leads-first j numbers c i s t t l [] _ steps refl (λ k y g. Has-more s.vectors _ k y g) (leads-nowhere j numbers c i t _ stands); reg = reg; has = has; fills = fills })

recipe-runs : (j : Job) (numbers : ℕ → ℕ) (c : Instructions) (i : Inputs) (d : Draft) (s : State) (o : ℕ) (way : Recipe) → ArgumentsHave j numbers i → Stands j numbers d s → RecipeFills j c numbers (operand_at j o) way → RecipeReady j d (operand_at j o) way
    → (t : State) × Builds j numbers c i s (operand_at j o) (place j d o way) t
recipe-runs j numbers c i d s o (recipe.Reuse k) args h right ready =
    let x = h.held k ready.0 ready.1 in
    let fills = right x.0 x.2 in
    let at : unwrap_or (found d.held k) 0 ≡ ready.0 = ap (λ q. unwrap_or q 0) ready.1 in
    let has = subst (λ q. Has s.vectors q x.0) (sym at) x.1 in
    (s, record { leads = leads-nowhere j numbers c i s _ (Stands-built j numbers d s o _ x.0 h has fills); reg = x.0; has = has; fills = fills })
recipe-runs j numbers c i d s o (recipe.Constant bs) args h right ready = new-register j numbers c i d s o (line.Constant bs) (bits_of_bytes bs) h refl right
recipe-runs j numbers c i d s o (recipe.Shuffle e packs) args h right ready =
    let x = packs-held j numbers d s packs h ready in
    let desc = description_at j e in
    new-register j numbers c i d s o (call_of desc (registers_of d packs)) (answer c desc x.regs) h
    (ap (λ rs. Some (with_vector s (c desc.name rs desc.imm))) (all-have_bits s.vectors (registers_of d packs) x.regs x.have)) (right x.regs x.hold)
recipe-runs j numbers c i d s o recipe.Inserts args h right ready =
    let own = operand_at j o in
    let xs = value_slots own in
    let bs = constant_bytes own in
    let reg = bits_of_bytes bs in
    let t = with_vector s reg in
    let has = Has-last s.vectors d.vectors reg h.vectors in
    let rest = inserts-run j numbers c i (with_vectors d 1) t own.register d.vectors reg xs args (Stands-vector j numbers d s reg h) has refl ready in
    let last = rest.1 in
    let stands = Stands-built j numbers (with_vectors (with_vectors d 1) (length xs)) rest.0 o (d.vectors + length xs) (inserted numbers xs reg) last.stands rest.2 right in
    let now : Leads j numbers c i t (inserts j d own.register d.vectors xs) (with_built (with_vectors (with_vectors d 1) (length xs)) o (d.vectors + length xs)) rest.0 = record { runs = last.runs; stands = stands; memory = last.memory; grown = last.grown } in
    (rest.0, record { leads = leads-first j numbers c i s t rest.0 (line.Constant bs) (inserts j d own.register d.vectors xs) _ refl refl (λ k y g. Has-more s.vectors _ k y g) now; reg = inserted numbers xs reg; has = rest.2; fills = right })

-- an operand, whether it was built before or not
abbrev pub Ready : Job → Draft → ℕ → Type 0
Ready j d o = RecipeReady j d (operand_at j o) (recipe_at j o)

abbrev pub IsRight : Job → Instructions → (ℕ → ℕ) → ℕ → Type 0
IsRight j c numbers o = RecipeFills j c numbers (operand_at j o) (recipe_at j o)

pub build-runs : (j : Job) (numbers : ℕ → ℕ) (c : Instructions) (i : Inputs) (d : Draft) (s : State) (o : ℕ) → ArgumentsHave j numbers i → Stands j numbers d s → IsRight j c numbers o → Ready j d o
    → (t : State) × Builds j numbers c i s (operand_at j o) (build j d o) t
build-runs j numbers c i d s o args h right ready = by (found d.built o) refl
  where
    by : (q : Option ℕ) → found d.built o ≡ q → (t : State) × Builds j numbers c i s (operand_at j o) (place_once j d o q) t
    by None e = recipe-runs j numbers c i d s o (recipe_at j o) args h right ready
    by (Some r) e = let x = h.built o r e in (s, record { leads = leads-nowhere j numbers c i s d h; reg = x.0; has = x.1; fills = x.2 })

-- ---- several operands

-- an operand that is brought into a register leaves what values and packs have
pub build-keeps : (j : Job) (d : Draft) (o : ℕ) (q : Option ℕ) (way : Recipe) → recipe_at j o ≡ way → ((place_once j d o q).draft.names ≡ d.names) × ((place_once j d o q).draft.held ≡ d.held)
build-keeps j d o (Some k) way e = (refl, refl)
build-keeps j d o None (recipe.Reuse k) e = (ap (λ q. (place j d o q).draft.names) e, ap (λ q. (place j d o q).draft.held) e)
build-keeps j d o None (recipe.Constant bs) e = (ap (λ q. (place j d o q).draft.names) e, ap (λ q. (place j d o q).draft.held) e)
build-keeps j d o None (recipe.Shuffle x ks) e = (ap (λ q. (place j d o q).draft.names) e, ap (λ q. (place j d o q).draft.held) e)
build-keeps j d o None recipe.Inserts e = (ap (λ q. (place j d o q).draft.names) e, ap (λ q. (place j d o q).draft.held) e)

known-kept : (j : Job) (d e : Draft) (x : Wanted) → e.names ≡ d.names → Known j d x → Known j e x
known-kept j d e (Constant w n) same k = tt
known-kept j d e Nothing same k = tt
known-kept j d e (Value v) same (inl h) = inl h
known-kept j d e (Value v) same (inr h) = inr (h.0, h.1, ap (λ l. found l v) same ∙ h.2)

slots-kept : (j : Job) (d e : Draft) (xs : List Slot) → e.names ≡ d.names → SlotsKnown j d xs → SlotsKnown j e xs
slots-kept j d e [] same k = tt
slots-kept j d e (x ∷ xs) same k = (known-kept j d e x.wanted same k.0, k.1, slots-kept j d e xs same k.2)

held-kept : (d e : Draft) (ks : List ℕ) → e.held ≡ d.held → AllHeld d ks → AllHeld e ks
held-kept d e [] same h = tt
held-kept d e (k ∷ ks) same h = ((h.0.0, ap (λ l. found l k) same ∙ h.0.1), held-kept d e ks same h.1)

recipe-kept : (j : Job) (d e : Draft) (o : Operand) (way : Recipe) → e.names ≡ d.names → e.held ≡ d.held → RecipeReady j d o way → RecipeReady j e o way
recipe-kept j d e o (recipe.Reuse k) names held h = (h.0, ap (λ l. found l k) held ∙ h.1)
recipe-kept j d e o (recipe.Constant bs) names held h = tt
recipe-kept j d e o (recipe.Shuffle x ks) names held h = held-kept d e ks held h
recipe-kept j d e o recipe.Inserts names held h = slots-kept j d e (value_slots o) names h

abbrev pub AllReady : Job → Draft → List ℕ → Type 0
AllReady j d [] = Unit {0}
AllReady j d (o ∷ os) = Ready j d o × AllReady j d os

abbrev pub AllRight : Job → Instructions → (ℕ → ℕ) → List ℕ → Type 0
AllRight j c numbers [] = Unit {0}
AllRight j c numbers (o ∷ os) = IsRight j c numbers o × AllRight j c numbers os

pub all-kept : (j : Job) (d e : Draft) (os : List ℕ) → e.names ≡ d.names → e.held ≡ d.held → AllReady j d os → AllReady j e os
all-kept j d e [] names held h = tt
all-kept j d e (o ∷ os) names held h = (recipe-kept j d e (operand_at j o) (recipe_at j o) names held h.0, all-kept j d e os names held h.1)

pub record AllBuilt (j : Job) (numbers : ℕ → ℕ) (c : Instructions) (i : Inputs) (s : State) (os : List ℕ) (made : AllPlaced) (t : State) : Type 0 where
  pub leads : Leads j numbers c i s made.lines made.draft t
  pub regs : List (List ℕ)
  pub have : AllHave t.vectors made.registers regs
  pub fill : AllFill j numbers os regs

pub builds-run : (j : Job) (numbers : ℕ → ℕ) (c : Instructions) (i : Inputs) (d : Draft) (s : State) (os : List ℕ) → ArgumentsHave j numbers i → Stands j numbers d s → AllRight j c numbers os → AllReady j d os → (t : State) × AllBuilt j numbers c i s os (build_all j d os) t
builds-run j numbers c i d s [] args h right ready = (s, record { leads = leads-nowhere j numbers c i s d h; regs = []; have = refl; fill = refl })
builds-run j numbers c i d s (o ∷ os) args h right ready =
    let first = build-runs j numbers c i d s o args h right.0 ready.0 in
    let one = first.1 in
    let keeps = build-keeps j d o (found d.built o) (recipe_at j o) refl in
    let e = (build j d o).draft in
    let rest = builds-run j numbers c i e first.0 os args one.leads.stands right.1 (all-kept j d e os keeps.0 keeps.1 ready.1) in
    let others = rest.1 in (
      rest.0,
      record {
        leads = leads-then j numbers c i s first.0 rest.0 (build j d o).lines (build_all j e os).lines e (build_all j e os).draft one.leads others.leads;
        regs = one.reg ∷ others.regs;
        have = (others.leads.grown (build j d o).register one.reg one.has, others.have);
        fill = (one.fills, others.fill);
      },
    )
