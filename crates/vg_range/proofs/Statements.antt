-- In an accepted instance the script of statements does what they do: IFs, CASEs, and lists of statements.
use Rattle.std.proofs.Common.{◌≡◌, ℕ, ◌^◌, ◌<◌, refl, sym, ap, ◌∙◌, subst, arith, inl, inr, ◌⊎◌, Bool, true, false, List, [], ◌∷◌, length}
use Rattle.std.specs.Prelude.{ℤ, pos, not, nat_eq, if◌then◌else◌, Option, Some, None, Result, Ok}
use Rattle.std.specs.Ordering.{int_eq}
use Rattle.std.proofs.lemmas.Bool.{cases_Bool, and_parts}
use Rattle.vg_base.proofs.Bind.{bind_ok}
use Rattle.vg_base.specs.Bind.{◌>>=◌}
use Rattle.vg_base.specs.Number.{residue}
use Rattle.vg_text.specs.declared.place.Place.{Place}
use Rattle.vg_pseudo.specs.Resolved.{Expr, Target, Code, stop, assign, skip, repeat, choose, way, last, pick, arm}
use Rattle.vg_pseudo.specs.Value.{State, value, bits_in, count}
use Rattle.vg_pseudo.specs.Instance.{kept_widths}
use Rattle.vg_pseudo.specs.Run.{Functions, seen, run, run_ways, run_arm}
use Rattle.vg_script.specs.Script.{Word, width_of, Script}
use Rattle.vg_script.specs.Script as script
use Rattle.vg_script.specs.Cells.{Cells, word_value, after, after_arm}
use Rattle.vg_script.specs.Formed.{Formed, ScriptFormed}
use Rattle.vg_interval.specs.declared.fault.RangeFault.{RangeFault}
use Rattle.vg_interval.specs.Found.{Found, Operand, fixed, moving, operand, condition}
use Rattle.vg_interval.specs.Judge.{KnownNumber, Count, step, Sight, spot_of, judge}
use Rattle.vg_range.specs.Walk.{WalkState, at_count, WalkContext, with_script, judged, constant_at, assign_at, join, in_turn, turns_at, Ways, no_ways, joined_with, with_way, is_empty, in_front, does_nothing, branch_of, closed, beginning, Arms, arms_in_front, arms_do_nothing, pick_of, with_arm, arms_of, way_taken, walk, walk_ways, arm_taken, all_arms}
use Rattle.vg_interval.proofs.Intervals.{Fits}
use Rattle.vg_interval.proofs.Words.{Tells, same-residue, small_residue}
use Rattle.vg_interval.proofs.Covers.{cells, Covers, Holds, operand-ok, holds-fits, condition-tells}
use Rattle.vg_interval.proofs.Judging.{AllKeep, Knows, judge-covers}
use Rattle.vg_range.proofs.Walking.{Spares, empty-is, Together, GoesWith, ok_stand, same_stand, counted, scripted, constant_at-is, assign-goes, turns-go, join-left, join-right, run-length}

-- ---- ways

-- none of these ways is taken from these cells; or one is, and leads to those
abbrev AllOff : List (Word × Script) → Cells → Type 0
AllOff [] c = Unit {0}
AllOff (w ∷ ws) c = (nat_eq (word_value c w.0) 1 ≡ false) × AllOff ws c

abbrev Taken : List (Word × Script) → Cells → Cells → Type 0
Taken [] c d = ⊥
Taken (w ∷ ws) c d = Taken ws c d ⊎ (AllOff ws c × (nat_eq (word_value c w.0) 1 ≡ true) × (after w.1 c ≡ d))

off-in_front : (ws : List (Word × Script)) (t : Script) (c : Cells) → AllOff ws c → after (in_front ws t) c ≡ after t c
off-in_front [] t c h = refl
off-in_front (w ∷ ws) t c h = off-in_front ws (script.way w.0 w.1 t) c h.1 ∙ rw h.0 refl

taken-in_front : (ws : List (Word × Script)) (t : Script) (c d : Cells) → Taken ws c d → after (in_front ws t) c ≡ d
taken-in_front [] t c d h = absurd h
taken-in_front (w ∷ ws) t c d (inl h) = taken-in_front ws (script.way w.0 w.1 t) c d h
taken-in_front (w ∷ ws) t c d (inr h) = off-in_front ws (script.way w.0 w.1 t) c h.0 ∙ rw h.1 h.2

abbrev WaysFormed : List ℕ → List (Word × Script) → Type 0
WaysFormed vs [] = Unit {0}
WaysFormed vs (w ∷ ws) = ((width_of w.0 ≡ 1) × Formed w.0 × ScriptFormed vs w.1) × WaysFormed vs ws

in_front-formed : (vs : List ℕ) (ws : List (Word × Script)) (t : Script) → WaysFormed vs ws → ScriptFormed vs t → ScriptFormed vs (in_front ws t)
in_front-formed vs [] t h p = p
in_front-formed vs (w ∷ ws) t h p = in_front-formed vs ws (script.way w.0 w.1 t) h.1 (h.0.0, h.0.1, h.0.2, p)

nothing-taken : (ws : List (Word × Script)) (t : Script) (c d : Cells) → does_nothing ws t ≡ true → Taken ws c d → c ≡ d
nothing-taken [] t c d e h = absurd h
nothing-taken (w ∷ ws) t c d e (inl h) = nothing-taken ws t c d (and_parts (is_empty w.1) (does_nothing ws t) e).1 h
nothing-taken (w ∷ ws) t c d e (inr h) =
    ap (λ v. after v c) (sym (empty-is w.1 (and_parts (is_empty w.1) (does_nothing ws t) e).0)) ∙ h.2

nothing-last : (ws : List (Word × Script)) (t : Script) → does_nothing ws t ≡ true → t ≡ script.stop
nothing-last [] t e = empty-is t e
nothing-last (w ∷ ws) t e = nothing-last ws t (and_parts (is_empty w.1) (does_nothing ws t) e).1

off-branch : (ws : List (Word × Script)) (t : Script) (c : Cells) → AllOff ws c → after (branch_of ws t) c ≡ after t c
off-branch [] t c h = refl
off-branch (w ∷ ws) t c h = elim (cases_Bool (does_nothing (w ∷ ws) t)) [
  | inl e ↦ rw (e, nothing-last (w ∷ ws) t e) refl
  | inr e ↦ rw e (off-in_front (w ∷ ws) (script.last t) c h)
]

taken-branch : (ws : List (Word × Script)) (t : Script) (c d : Cells) → Taken ws c d → after (branch_of ws t) c ≡ d
taken-branch [] t c d h = absurd h
taken-branch (w ∷ ws) t c d h = elim (cases_Bool (does_nothing (w ∷ ws) t)) [
  | inl e ↦ rw e (nothing-taken (w ∷ ws) t c d e h)
  | inr e ↦ rw e (taken-in_front (w ∷ ws) (script.last t) c d h)
]

branch-formed : (vs : List ℕ) (ws : List (Word × Script)) (t : Script) → WaysFormed vs ws → ScriptFormed vs t → ScriptFormed vs (branch_of ws t)
branch-formed vs [] t h p = p
branch-formed vs (w ∷ ws) t h p = elim (cases_Bool (does_nothing (w ∷ ws) t)) [
  | inl e ↦ rw e tt
  | inr e ↦ rw e (in_front-formed vs (w ∷ ws) (script.last t) h p)
]

-- what is known with other facts on number variables
with_numbers : (s : Sight) (ks js : List KnownNumber) (v : _) → Knows s ks v → AllKeep js v.state.numbers → Knows s js v
with_numbers s ks js v h p = record { cells = h.cells; small = h.small; numbers = p; constants = h.constants; turns = h.turns; calls = h.calls }

-- numbers that some way may leave
abbrev JoinedSome : Option (List KnownNumber) → ℕ → Type 0
JoinedSome None n = Unit {0}
JoinedSome (Some js) n = (zs : List ℤ) × AllKeep js zs × (length zs ≡ n)

-- the ways found so far of an IF that begins in this state: none is taken, or one is that leads to another state
abbrev Going : WalkContext → Functions → State → Ways → Option State → Type 0
Going x fs s found None = AllOff found.scripts (cells s)
Going x fs s found (Some t) =
    Taken found.scripts (cells s) (cells t)
    × ((js : List KnownNumber) × (found.joined ≡ Some js) × Knows x.sight js (seen fs x.sight.turns t)) × (length t.numbers ≡ length s.numbers)

record Gone (x : WalkContext) (fs : Functions) (s : State) (found : Ways) (o : Option State) : Type 0 where
  pub formed : WaysFormed (kept_widths x.sight.widths) found.scripts
  pub joined : JoinedSome found.joined (length s.numbers)
  pub going : Going x fs s found o

abbrev left_by : Option State → State → State
left_by None s = s
left_by (Some t) s = t

-- where an IF or a CASE begins, a script of its own begins too
begins : (x : WalkContext) (fs : Functions) (c : Cells) (w : WalkState) (s : State) (n : Count) → Together x fs c w s → Together x fs (cells s) (beginning w n) s
begins x fs c w s n h = record { knows = h.knows; same = refl; formed = tt }

joined-new : (o : Option (List KnownNumber)) (n : ℕ) (ks : List KnownNumber) (zs : List ℤ) → JoinedSome o n → AllKeep ks zs → length zs ≡ n → AllKeep (joined_with o ks) zs
joined-new None n ks zs j p e = p
joined-new (Some js) n ks zs j p e = join-right js ks j.0 zs (j.2 ∙ sym e) j.1 p

joined-old : (js ks : List KnownNumber) (ys zs : List ℤ) (o : Option (List KnownNumber)) → o ≡ Some js → AllKeep js ys → AllKeep ks zs → length ys ≡ length zs → AllKeep (joined_with o ks) ys
joined-old js ks ys zs o e p q l = rw e (join-left js ks ys zs l p q)

closes : (x : WalkContext) (fs : Functions) (c : Cells) (w v : WalkState) (s t : State) (found : Ways) (o : Option State) → x.is_kept ≡ true → Together x fs c w s
    → Gone x fs s found o → Together x fs (cells s) v t → length t.numbers ≡ length s.numbers → Together x fs c (closed x w found v) (left_by o t)
closes x fs c w v s t found None kept h g k e =
    scripted x fs c (at_count w v.count) (joined_with found.joined v.numbers) s t (branch_of found.scripts v.script) kept (counted x fs c w s v.count h)
    (with_numbers x.sight v.numbers _ (seen fs x.sight.turns t) k.knows (joined-new found.joined (length s.numbers) v.numbers t.numbers g.joined k.knows.numbers e))
    (off-branch found.scripts v.script (cells s) g.going ∙ k.same)
    (branch-formed (kept_widths x.sight.widths) found.scripts v.script g.formed k.formed)
closes x fs c w v s t found (Some u) kept h g k e =
    let js = g.going.1.0 in
    let knows = g.going.1.2 in
    scripted x fs c (at_count w v.count) (joined_with found.joined v.numbers) s u (branch_of found.scripts v.script) kept (counted x fs c w s v.count h)
    (with_numbers x.sight js _ (seen fs x.sight.turns u) knows
    (joined-old js v.numbers u.numbers t.numbers found.joined g.going.1.1 knows.numbers k.knows.numbers (g.going.2 ∙ sym e)))
    (taken-branch found.scripts v.script (cells s) (cells u) g.going.0)
    (branch-formed (kept_widths x.sight.widths) found.scripts v.script g.formed k.formed)

-- one way more
abbrev next_left : Option State → Bool → State → Option State
next_left None v t = if v then Some t else None
next_left (Some u) v t = Some u

abbrev more_ways : Word → WalkState → Ways → Ways
more_ways y u found = record { scripts = (y, u.script) ∷ found.scripts; joined = Some (joined_with found.joined u.numbers) }

kept-way : (x : WalkContext) (y : Word) (u : WalkState) (found : Ways) → x.is_kept ≡ true → with_way x y u found ≡ more_ways y u found
kept-way x y u found e = rw e refl

told_one : (b : Bool) (n : ℕ) → n ≡ (if b then 1 else 0) → nat_eq n 1 ≡ b
told_one true n e = rw e refl
told_one false n e = rw e refl

gone-more : (x : WalkContext) (fs : Functions) (s t : State) (y : Word) (u : WalkState) (found : Ways) (o : Option State) (v : Bool) → Gone x fs s found o
    → Tells x.sight.widths (cells s) y v → Together x fs (cells s) u t → length t.numbers ≡ length s.numbers
    → Gone x fs s (more_ways y u found) (next_left o v t)
gone-more x fs s t y u found o v g tells k e = record {
  formed = ((tells.wide, tells.formed, k.formed), g.formed);
  joined = (t.numbers, joined-new found.joined (length s.numbers) u.numbers t.numbers g.joined k.knows.numbers e, e);
  going = going o v g.going (told_one v _ tells.bit);
}
  where
    going : (o : Option State) (v : Bool) → Going x fs s found o → nat_eq (word_value (cells s) y) 1 ≡ v → Going x fs s (more_ways y u found) (next_left o v t)
    going None false q p = (p, q)
    going None true q p = (
      inr (q, p, k.same),
      (_, refl, with_numbers x.sight u.numbers _ (seen fs x.sight.turns t) k.knows (joined-new found.joined (length s.numbers) u.numbers t.numbers g.joined k.knows.numbers e)),
      e,
    )
    going (Some r) v q p = (
      inl q.0,
      (_, refl, with_numbers x.sight q.1.0 _ (seen fs x.sight.turns r) q.1.2 (joined-old q.1.0 u.numbers r.numbers t.numbers found.joined q.1.1 q.1.2.numbers k.knows.numbers (q.2 ∙ sym e))),
      q.2,
    )

left-next : (o : Option State) (b : Bool) (t r : State) → left_by (next_left o (not b) t) r ≡ left_by o (if b then r else t)
left-next None true t r = refl
left-next None false t r = refl
left-next (Some u) b t r = refl

-- ---- arms

abbrev AllOther : List (ℕ × Script) → ℕ → Type 0
AllOther [] v = Unit {0}
AllOther (a ∷ rest) v = (nat_eq v a.0 ≡ false) × AllOther rest v

abbrev Matched : List (ℕ × Script) → ℕ → Cells → Cells → Type 0
Matched [] v c d = ⊥
Matched (a ∷ rest) v c d = Matched rest v c d ⊎ (AllOther rest v × (nat_eq v a.0 ≡ true) × (after a.1 c ≡ d))

other-arms : (ws : List (ℕ × Script)) (t : Script) (v : ℕ) (c : Cells) → AllOther ws v → after_arm v (arms_in_front ws t) c ≡ after_arm v t c
other-arms [] t v c h = refl
other-arms (a ∷ ws) t v c h = other-arms ws (script.arm a.0 a.1 t) v c h.1 ∙ rw h.0 refl

matched-arms : (ws : List (ℕ × Script)) (t : Script) (v : ℕ) (c d : Cells) → Matched ws v c d → after_arm v (arms_in_front ws t) c ≡ d
matched-arms [] t v c d h = absurd h
matched-arms (a ∷ ws) t v c d (inl h) = matched-arms ws (script.arm a.0 a.1 t) v c d h
matched-arms (a ∷ ws) t v c d (inr h) = other-arms ws (script.arm a.0 a.1 t) v c h.0 ∙ rw h.1 h.2

nothing-matched : (ws : List (ℕ × Script)) (v : ℕ) (c d : Cells) → arms_do_nothing ws ≡ true → Matched ws v c d → c ≡ d
nothing-matched [] v c d e h = absurd h
nothing-matched (a ∷ ws) v c d e (inl h) = nothing-matched ws v c d (and_parts (is_empty a.1) (arms_do_nothing ws) e).1 h
nothing-matched (a ∷ ws) v c d e (inr h) =
    ap (λ u. after u c) (sym (empty-is a.1 (and_parts (is_empty a.1) (arms_do_nothing ws) e).0)) ∙ h.2

abbrev ArmsFormed : List ℕ → List (ℕ × Script) → Type 0
ArmsFormed vs [] = Unit {0}
ArmsFormed vs (a ∷ rest) = ScriptFormed vs a.1 × ArmsFormed vs rest

arms_in_front-formed : (vs : List ℕ) (ws : List (ℕ × Script)) (t : Script) → ArmsFormed vs ws → ScriptFormed vs t → ScriptFormed vs (arms_in_front ws t)
arms_in_front-formed vs [] t h p = p
arms_in_front-formed vs (a ∷ ws) t h p = arms_in_front-formed vs ws (script.arm a.0 a.1 t) h.1 (h.0, p)

abbrev Chosen : WalkContext → Functions → State → Arms → ℕ → Option State → Type 0
Chosen x fs s found v None = AllOther found.scripts v
Chosen x fs s found v (Some t) = Matched found.scripts v (cells s) (cells t) × Knows x.sight found.joined (seen fs x.sight.turns t) × (length t.numbers ≡ length s.numbers)

record Armed (x : WalkContext) (fs : Functions) (s : State) (found : Arms) (v : ℕ) (o : Option State) : Type 0 where
  pub formed : ArmsFormed (kept_widths x.sight.widths) found.scripts
  pub base : AllKeep found.joined s.numbers
  pub chosen : Chosen x fs s found v o

abbrev more_arms : ℕ → WalkState → Arms → Arms
more_arms n u found = record { scripts = (n, u.script) ∷ found.scripts; joined = join found.joined u.numbers }

kept-arm : (x : WalkContext) (n : ℕ) (u : WalkState) (found : Arms) → x.is_kept ≡ true → with_arm x n u found ≡ more_arms n u found
kept-arm x n u found e = rw e refl

armed-more : (x : WalkContext) (fs : Functions) (s t : State) (n : ℕ) (u : WalkState) (found : Arms) (v : ℕ) (o : Option State) → Armed x fs s found v o
    → Together x fs (cells s) u t → length t.numbers ≡ length s.numbers → Armed x fs s (more_arms n u found) v (next_left o (nat_eq v n) t)
armed-more x fs s t n u found v o g k e = record {
  formed = (k.formed, g.formed);
  base = join-left found.joined u.numbers s.numbers t.numbers (sym e) g.base k.knows.numbers;
  chosen = choosing o (nat_eq v n) refl g.chosen;
}
  where
    choosing : (o : Option State) (b : Bool) → nat_eq v n ≡ b → Chosen x fs s found v o → Chosen x fs s (more_arms n u found) v (next_left o b t)
    choosing None false p q = (p, q)
    choosing None true p q = (
      inr (q, p, k.same),
      with_numbers x.sight u.numbers _ (seen fs x.sight.turns t) k.knows (join-right found.joined u.numbers s.numbers t.numbers (sym e) g.base k.knows.numbers),
      e,
    )
    choosing (Some r) b p q = (
      inl q.0,
      with_numbers x.sight found.joined _ (seen fs x.sight.turns r) q.1 (join-left found.joined u.numbers r.numbers t.numbers (q.2 ∙ sym e) q.1.numbers k.knows.numbers),
      q.2,
    )

left-arm : (o : Option State) (b : Bool) (t r : State) → left_by (next_left o b t) r ≡ left_by o (if b then t else r)
left-arm None true t r = refl
left-arm None false t r = refl
left-arm (Some u) b t r = refl

picks : (x : WalkContext) (fs : Functions) (c : Cells) (w : WalkState) (s : State) (y : Word) (found : Arms) (n : Count) (o : Option State) → x.is_kept ≡ true
    → Together x fs c w s → (width_of y ≡ 128) × Formed y
    → Armed x fs s found (word_value (cells s) y) o
    → Together x fs c (with_script x (pick_of y found.scripts) (record { numbers = found.joined; count = n; script = w.script })) (left_by o s)
picks x fs c w s y found n o kept h wide g =
    scripted x fs c (at_count w n) found.joined s (left_by o s) (pick_of y found.scripts) kept (counted x fs c w s n h) (knows o g.chosen) (leads o g.chosen) formed
  where
    knows : (o : Option State) → Chosen x fs s found (word_value (cells s) y) o → Knows x.sight found.joined (seen fs x.sight.turns (left_by o s))
    knows None q = with_numbers x.sight w.numbers found.joined (seen fs x.sight.turns s) h.knows g.base
    knows (Some t) q = q.1

    leads : (o : Option State) → Chosen x fs s found (word_value (cells s) y) o → after (pick_of y found.scripts) (cells s) ≡ cells (left_by o s)
    leads None q = elim (cases_Bool (arms_do_nothing found.scripts)) [
      | inl e ↦ rw e refl
      | inr e ↦ rw e (other-arms found.scripts script.stop (word_value (cells s) y) (cells s) q)
    ]
    leads (Some t) q = elim (cases_Bool (arms_do_nothing found.scripts)) [
      | inl e ↦ rw e (nothing-matched found.scripts (word_value (cells s) y) (cells s) (cells t) e q.0)
      | inr e ↦ rw e (matched-arms found.scripts script.stop (word_value (cells s) y) (cells s) (cells t) q.0)
    ]

    formed : ScriptFormed (kept_widths x.sight.widths) (pick_of y found.scripts)
    formed = elim (cases_Bool (arms_do_nothing found.scripts)) [
      | inl e ↦ rw e tt
      | inr e ↦ rw e (wide.0, wide.1, arms_in_front-formed (kept_widths x.sight.widths) found.scripts script.stop g.formed tt)
    ]

arm_is : (z : ℤ) (n : ℕ) → Fits z → n < 2 ^ 127 → nat_eq (residue 128 z) n ≡ int_eq z (pos n)
arm_is z n f h =
    let e : residue 128 (pos n) ≡ n = small_residue n (omega (arith, h)) in
    subst (λ v. nat_eq (residue 128 z) v ≡ int_eq z (pos n)) e (same-residue z (pos n) f (record { small = h }))

-- ---- statements

abbrev Picked : Type 0
Picked = Arms × Count

abbrev picked_ok : Picked → Result Picked RangeFault
picked_ok p = Ok p

same_picked : {a b : Picked} → picked_ok a ≡ picked_ok b → a ≡ b
same_picked e = cc

if_zero : (z : ℤ) (b : Bool) (r t : State) → int_eq z (pos 0) ≡ b → (if b then r else t) ≡ (if int_eq z (pos 0) then r else t)
if_zero z b r t e = ap (λ v. if v then r else t) (sym e)

no-more : (x : WalkContext) (fs : Functions) → x.is_kept ≡ true → (c : Cells) (w v : WalkState) (s : State) (found : Ways) (o : Option State) (n : Count)
    → Together x fs c w s → Gone x fs s found o → ok_stand (closed x w found (beginning w n)) ≡ Ok v → Together x fs c v (left_by o s)
no-more x fs kept c w v s found o n h g e =
    subst (λ y. Together x fs c y (left_by o s)) (same_stand e) (closes x fs c w (beginning w n) s s found o kept h g (begins x fs c w s n h) refl)

-- What is to be shown of statements: that a walk goes with their run, also as the ways of an IF and as the arms of a CASE.
record Sound (d : Code) : Type 0 where
  pub walks : (x : WalkContext) (fs : Functions) → x.is_kept ≡ true → Spares x.sight.constants d → GoesWith x fs (walk x d) (run fs x.sight.turns d)
  pub ways : (x : WalkContext) (fs : Functions) → x.is_kept ≡ true → Spares x.sight.constants d
      → (c : Cells) (w v : WalkState) (s : State) (found : Ways) (o : Option State) (n : Count) → Together x fs c w s → Gone x fs s found o
      → walk_ways x d w found n ≡ Ok v → Together x fs c v (left_by o (run_ways fs x.sight.turns d s))
  pub one_arm : (x : WalkContext) (fs : Functions) → x.is_kept ≡ true → Spares x.sight.constants d
      → (c : Cells) (w v : WalkState) (s : State) (z : ℤ) → Together x fs c w s → arm_taken x d w z ≡ Ok v → Together x fs c v (run_arm fs x.sight.turns z d s)
  pub arms : (x : WalkContext) (fs : Functions) → x.is_kept ≡ true → Spares x.sight.constants d
      → (c : Cells) (w : WalkState) (s : State) (found : Arms) (o : Option State) (n : Count) (z : ℤ) (r : Arms × Count) → Fits z → Together x fs c w s
      → Armed x fs s found (residue 128 z) o → all_arms x d w found n ≡ Ok r
      → (p : Option State) × Armed x fs s r.0 (residue 128 z) p × (left_by p s ≡ left_by o (run_arm fs x.sight.turns z d s))

-- what is no way and no arm
stays : (x : WalkContext) (fs : Functions) (c : Cells) (w v : WalkState) (s : State) → Together x fs c w s → ok_stand w ≡ Ok v → Together x fs c v s
stays x fs c w v s h e = subst (λ y. Together x fs c y s) (same_stand e) h

no-arms : (x : WalkContext) (fs : Functions) (s : State) (found : Arms) (o : Option State) (n : Count) (v : ℕ) (r : Arms × Count) → Armed x fs s found v o
    → picked_ok (found, n) ≡ Ok r → (p : Option State) × Armed x fs s r.0 v p × (left_by p s ≡ left_by o s)
no-arms x fs s found o n v r g e = (o, subst (λ a. Armed x fs s a.0 v o) (same_picked e) g, refl)

stop-sound : Sound stop
stop-sound = record {
  walks = λ x fs kept spares c w v s h e. stays x fs c w v s h e;
  ways = λ x fs kept spares c w v s found o n h g e. no-more x fs kept c w v s found o n h g e;
  one_arm = λ x fs kept spares c w v s z h e. stays x fs c w v s h e;
  arms = λ x fs kept spares c w s found o n z r fits h g e. no-arms x fs s found o n (residue 128 z) r g e;
}

assign-walks : (p : Place) (t : Target) (a : Expr) (rest : Code) → Sound rest → (x : WalkContext) (fs : Functions) → x.is_kept ≡ true
    → Spares x.sight.constants (assign p t a rest) → GoesWith x fs (walk x (assign p t a rest)) (run fs x.sight.turns (assign p t a rest))
assign-walks p t a rest q x fs kept spares c w v s h e =
    let u = bind_ok (assign_at x p t a w) _ e in
    let k = assign-goes x fs p t a kept spares.0 c w u.0 s h u.1 in
    q.walks x fs kept spares.1 c u.0 v _ k u.2

assign-sound : (p : Place) (t : Target) (a : Expr) (rest : Code) → Sound rest → Sound (assign p t a rest)
assign-sound p t a rest q = record {
  walks = assign-walks p t a rest q;
  ways = λ x fs kept spares c w v s found o n h g e. no-more x fs kept c w v s found o n h g e;
  one_arm = λ x fs kept spares c w v s z h e. stays x fs c w v s h e;
  arms = λ x fs kept spares c w s found o n z r fits h g e. no-arms x fs s found o n (residue 128 z) r g e;
}

skip-walks : (p : Place) (rest : Code) → Sound rest → (x : WalkContext) (fs : Functions) → x.is_kept ≡ true
    → Spares x.sight.constants (skip p rest) → GoesWith x fs (walk x (skip p rest)) (run fs x.sight.turns (skip p rest))
skip-walks p rest q x fs kept spares c w v s h e =
    let n = bind_ok (step p w.count) _ e in
    q.walks x fs kept spares c (at_count w n.0) v s (counted x fs c w s n.0 h) n.2

skip-sound : (p : Place) (rest : Code) → Sound rest → Sound (skip p rest)
skip-sound p rest q = record {
  walks = skip-walks p rest q;
  ways = λ x fs kept spares c w v s found o n h g e. no-more x fs kept c w v s found o n h g e;
  one_arm = λ x fs kept spares c w v s z h e. stays x fs c w v s h e;
  arms = λ x fs kept spares c w s found o n z r fits h g e. no-arms x fs s found o n (residue 128 z) r g e;
}

repeat-walks : (p : Place) (a b : Expr) (body rest : Code) → Sound body → Sound rest → (x : WalkContext) (fs : Functions) → x.is_kept ≡ true
    → Spares x.sight.constants (repeat p a b body rest) → GoesWith x fs (walk x (repeat p a b body rest)) (run fs x.sight.turns (repeat p a b body rest))
repeat-walks p a b body rest i q x fs kept spares c w v s h e =
    let first = bind_ok (constant_at x w a) _ e in
    let final = bind_ok (constant_at x first.0.1 b) _ first.2 in
    let u = bind_ok (turns_at (λ z y. walk (in_turn x z) body y) p first.0.0 (count first.0.0 final.0.0) final.0.1) _ final.2 in
    let from = constant_at-is x fs c w s a first.0 h first.1 in
    let to = constant_at-is x fs c first.0.1 s b final.0 from.stands final.1 in
    let k = turns-go x fs p (λ z y. walk (in_turn x z) body y) (λ z y. run fs (z ∷ x.sight.turns) body y)
    (λ z. i.walks (in_turn x z) fs kept spares.0) (count first.0.0 final.0.0) first.0.0 c final.0.1 u.0 s to.stands u.1 in
    q.walks x fs kept spares.1 c u.0 v _ (rw (from.value, to.value) k) u.2

repeat-sound : (p : Place) (a b : Expr) (body rest : Code) → Sound body → Sound rest → Sound (repeat p a b body rest)
repeat-sound p a b body rest i q = record {
  walks = repeat-walks p a b body rest i q;
  ways = λ x fs kept spares c w v s found o n h g e. no-more x fs kept c w v s found o n h g e;
  one_arm = λ x fs kept spares c w v s z h e. stays x fs c w v s h e;
  arms = λ x fs kept spares c w s found o n z r fits h g e. no-arms x fs s found o n (residue 128 z) r g e;
}

choose-walks : (inner rest : Code) → Sound inner → Sound rest → (x : WalkContext) (fs : Functions) → x.is_kept ≡ true
    → Spares x.sight.constants (choose inner rest) → GoesWith x fs (walk x (choose inner rest)) (run fs x.sight.turns (choose inner rest))
choose-walks inner rest i q x fs kept spares c w v s h e =
    let u = bind_ok (walk_ways x inner w no_ways w.count) _ e in
    let k = i.ways x fs kept spares.0 c w u.0 s no_ways None w.count h (record { formed = tt; joined = tt; going = tt }) u.1 in
    q.walks x fs kept spares.1 c u.0 v _ k u.2

choose-sound : (inner rest : Code) → Sound inner → Sound rest → Sound (choose inner rest)
choose-sound inner rest i q = record {
  walks = choose-walks inner rest i q;
  ways = λ x fs kept spares c w v s found o n h g e. no-more x fs kept c w v s found o n h g e;
  one_arm = λ x fs kept spares c w v s z h e. stays x fs c w v s h e;
  arms = λ x fs kept spares c w s found o n z r fits h g e. no-arms x fs s found o n (residue 128 z) r g e;
}

-- a way by what is found of its condition
way-sound : (a : Expr) (body more : Code) → Sound body → Sound more → (x : WalkContext) (fs : Functions) → x.is_kept ≡ true → Spares x.sight.constants (way a body more)
    → (c : Cells) (w v : WalkState) (s : State) (found : Ways) (o : Option State) (f : Found) (n : Count) (q : Operand) → Together x fs c w s → Gone x fs s found o
    → Covers x.sight.widths (cells s) f (value (seen fs x.sight.turns s) a) (bits_in (seen fs x.sight.turns s) a)
    → Holds x.sight.widths (cells s) q (value (seen fs x.sight.turns s) a)
    → way_taken q (walk x body (beginning w n)) (λ u. walk_ways x more w (with_way x (condition f q) u found) u.count) (walk_ways x more w found n) (closed x w found) ≡ Ok v
    → Together x fs c v (left_by o (run_ways fs x.sight.turns (way a body more) s))
way-sound a body more i j x fs kept spares c w v s found o f n (fixed z) h g covers holds e = elim (cases_Bool (int_eq z (pos 0))) [
  | inl t ↦
      let e' : walk_ways x more w found n ≡ Ok v = subst (λ b. (if b then walk_ways x more w found n else (walk x body (beginning w n) >>= λ u. ok_stand (closed x w found u))) ≡ Ok v) t e in
      rw (holds.0, t) (j.ways x fs kept spares.1 c w v s found o n h g e')
  | inr t ↦
      let e' : (walk x body (beginning w n) >>= λ u. ok_stand (closed x w found u)) ≡ Ok v = subst (λ b. (if b then walk_ways x more w found n else (walk x body (beginning w n) >>= λ u. ok_stand (closed x w found u))) ≡ Ok v) t e in
      let u = bind_ok (walk x body (beginning w n)) _ e' in
      let k = i.walks x fs kept spares.0 (cells s) (beginning w n) u.0 s (begins x fs c w s n h) u.1 in
      rw (holds.0, t) (subst (λ y. Together x fs c y (left_by o (run fs x.sight.turns body s))) (same_stand u.2)
      (closes x fs c w u.0 s (run fs x.sight.turns body s) found o kept h g k (run-length body fs x.sight.turns s)))
]
way-sound a body more i j x fs kept spares c w v s found o f n (moving m y) h g covers holds e =
    let sight = seen fs x.sight.turns s in
    let z = value sight a in
    let u = bind_ok (walk x body (beginning w n)) _ e in
    let k = i.walks x fs kept spares.0 (cells s) (beginning w n) u.0 s (begins x fs c w s n h) u.1 in
    let t = run fs x.sight.turns body s in
    let tells = condition-tells x.sight.widths (cells s) f (moving m y) z (bits_in sight a) covers holds in
    let g' = gone-more x fs s t (condition f (moving m y)) u.0 found o (not (int_eq z (pos 0))) g tells k (run-length body fs x.sight.turns s) in
    let e' : walk_ways x more w (more_ways (condition f (moving m y)) u.0 found) u.0.count ≡ Ok v =
    subst (λ r. walk_ways x more w r u.0.count ≡ Ok v) (kept-way x (condition f (moving m y)) u.0 found kept) u.2 in
    let r = j.ways x fs kept spares.1 c w v s (more_ways (condition f (moving m y)) u.0 found) (next_left o (not (int_eq z (pos 0))) t) u.0.count h g' e' in
    subst (Together x fs c v) (left-next o (int_eq z (pos 0)) t (run_ways fs x.sight.turns more s)) r

way-ways : (a : Expr) (body more : Code) → Sound body → Sound more → (x : WalkContext) (fs : Functions) → x.is_kept ≡ true → Spares x.sight.constants (way a body more)
    → (c : Cells) (w v : WalkState) (s : State) (found : Ways) (o : Option State) (n : Count) → Together x fs c w s → Gone x fs s found o
    → walk_ways x (way a body more) w found n ≡ Ok v → Together x fs c v (left_by o (run_ways fs x.sight.turns (way a body more) s))
way-ways a body more i j x fs kept spares c w v s found o n h g e =
    let sight = seen fs x.sight.turns s in
    let f = bind_ok (judge x.sight w.numbers a n) _ e in
    let q = bind_ok (operand (spot_of a) f.0.0) _ f.2 in
    let covers = judge-covers a x.sight w.numbers sight n f.0.1 f.0.0 h.knows f.1 in
    let holds = operand-ok x.sight.widths (cells s) (spot_of a) f.0.0 (value sight a) (bits_in sight a) q.0 h.knows.cells.bits q.1 covers in
    way-sound a body more i j x fs kept spares c w v s found o f.0.0 f.0.1 q.0 h g covers holds q.2

ways-sound : (a : Expr) (body more : Code) → Sound body → Sound more → Sound (way a body more)
ways-sound a body more i j = record {
  walks = λ x fs kept spares c w v s h e. stays x fs c w v s h e;
  ways = way-ways a body more i j;
  one_arm = λ x fs kept spares c w v s z h e. stays x fs c w v s h e;
  arms = λ x fs kept spares c w s found o n z r fits h g e. no-arms x fs s found o n (residue 128 z) r g e;
}

last-ways : (body : Code) → Sound body → (x : WalkContext) (fs : Functions) → x.is_kept ≡ true → Spares x.sight.constants (last body)
    → (c : Cells) (w v : WalkState) (s : State) (found : Ways) (o : Option State) (n : Count) → Together x fs c w s → Gone x fs s found o
    → walk_ways x (last body) w found n ≡ Ok v → Together x fs c v (left_by o (run_ways fs x.sight.turns (last body) s))
last-ways body i x fs kept spares c w v s found o n h g e =
    let u = bind_ok (walk x body (beginning w n)) _ e in
    let k = i.walks x fs kept spares (cells s) (beginning w n) u.0 s (begins x fs c w s n h) u.1 in
    subst (λ y. Together x fs c y (left_by o (run fs x.sight.turns body s))) (same_stand u.2)
    (closes x fs c w u.0 s (run fs x.sight.turns body s) found o kept h g k (run-length body fs x.sight.turns s))

last-sound : (body : Code) → Sound body → Sound (last body)
last-sound body i = record {
  walks = λ x fs kept spares c w v s h e. stays x fs c w v s h e;
  ways = last-ways body i;
  one_arm = λ x fs kept spares c w v s z h e. stays x fs c w v s h e;
  arms = λ x fs kept spares c w s found o n z r fits h g e. no-arms x fs s found o n (residue 128 z) r g e;
}

-- a CASE by what is found of its selector
case-sound : (d : Code) → Sound d → (x : WalkContext) (fs : Functions) → x.is_kept ≡ true → Spares x.sight.constants d
    → (c : Cells) (w v : WalkState) (s : State) (z : ℤ) (q : Operand) → Together x fs c w s → Holds x.sight.widths (cells s) q z
    → arms_of x w q (arm_taken x d) (all_arms x d) ≡ Ok v → Together x fs c v (run_arm fs x.sight.turns z d s)
case-sound d i x fs kept spares c w v s z (fixed y) h holds e = rw holds.0 (i.one_arm x fs kept spares c w v s y h e)
case-sound d i x fs kept spares c w v s z (moving m y) h holds e =
    let begun : Arms = record { scripts = []; joined = w.numbers } in
    let found = bind_ok (all_arms x d w begun w.count) _ e in
    let st = holds.stands in
    let fits = holds-fits x.sight.widths (cells s) (moving m y) z holds in
    let start : Armed x fs s begun (residue 128 z) None = record { formed = tt; base = h.knows.numbers; chosen = tt } in
    let r = i.arms x fs kept spares c w s begun None w.count z found.0 fits h start found.1 in
    let g = subst (λ k. Armed x fs s found.0.0 k r.0) (sym st.bits) r.1 in
    subst (λ t. Together x fs c v t) r.2
    (subst (λ b. Together x fs c b (left_by r.0 s)) (same_stand found.2)
    (picks x fs c w s y found.0.0 found.0.1 r.0 kept h (st.wide, st.formed) g))

pick-walks : (a : Expr) (inner rest : Code) → Sound inner → Sound rest → (x : WalkContext) (fs : Functions) → x.is_kept ≡ true
    → Spares x.sight.constants (pick a inner rest) → GoesWith x fs (walk x (pick a inner rest)) (run fs x.sight.turns (pick a inner rest))
pick-walks a inner rest i q x fs kept spares c w v s h e =
    let sight = seen fs x.sight.turns s in
    let f = bind_ok (judged x w a) _ e in
    let o = bind_ok (operand (spot_of a) f.0.0) _ f.2 in
    let u = bind_ok (arms_of x (at_count w f.0.1) o.0 (arm_taken x inner) (all_arms x inner)) _ o.2 in
    let covers = judge-covers a x.sight w.numbers sight w.count f.0.1 f.0.0 h.knows f.1 in
    let holds = operand-ok x.sight.widths (cells s) (spot_of a) f.0.0 (value sight a) (bits_in sight a) o.0 h.knows.cells.bits o.1 covers in
    let k = case-sound inner i x fs kept spares.0 c (at_count w f.0.1) u.0 s (value sight a) o.0 (counted x fs c w s f.0.1 h) holds u.1 in
    q.walks x fs kept spares.1 c u.0 v _ k u.2

pick-sound : (a : Expr) (inner rest : Code) → Sound inner → Sound rest → Sound (pick a inner rest)
pick-sound a inner rest i q = record {
  walks = pick-walks a inner rest i q;
  ways = λ x fs kept spares c w v s found o n h g e. no-more x fs kept c w v s found o n h g e;
  one_arm = λ x fs kept spares c w v s z h e. stays x fs c w v s h e;
  arms = λ x fs kept spares c w s found o n z r fits h g e. no-arms x fs s found o n (residue 128 z) r g e;
}

arm-one : (n : ℕ) (body more : Code) → Sound body → Sound more → (x : WalkContext) (fs : Functions) → x.is_kept ≡ true → Spares x.sight.constants (arm n body more)
    → (c : Cells) (w v : WalkState) (s : State) (z : ℤ) → Together x fs c w s → arm_taken x (arm n body more) w z ≡ Ok v
    → Together x fs c v (run_arm fs x.sight.turns z (arm n body more) s)
arm-one n body more i j x fs kept spares c w v s z h e = elim (cases_Bool (int_eq z (pos n))) [
  | inl t ↦ rw t (i.walks x fs kept spares.1 c w v s h (subst (λ b. (if b then walk x body w else arm_taken x more w z) ≡ Ok v) t e))
  | inr t ↦ rw t (j.one_arm x fs kept spares.2 c w v s z h (subst (λ b. (if b then walk x body w else arm_taken x more w z) ≡ Ok v) t e))
]

arm-all : (m : ℕ) (body more : Code) → Sound body → Sound more → (x : WalkContext) (fs : Functions) → x.is_kept ≡ true → Spares x.sight.constants (arm m body more)
    → (c : Cells) (w : WalkState) (s : State) (found : Arms) (o : Option State) (n : Count) (z : ℤ) (r : Arms × Count) → Fits z → Together x fs c w s
    → Armed x fs s found (residue 128 z) o → all_arms x (arm m body more) w found n ≡ Ok r
    → (p : Option State) × Armed x fs s r.0 (residue 128 z) p × (left_by p s ≡ left_by o (run_arm fs x.sight.turns z (arm m body more) s))
arm-all m body more i j x fs kept spares c w s found o n z r fits h g e =
    let u = bind_ok (walk x body (beginning w n)) _ e in
    let k = i.walks x fs kept spares.1 (cells s) (beginning w n) u.0 s (begins x fs c w s n h) u.1 in
    let t = run fs x.sight.turns body s in
    let g' = armed-more x fs s t m u.0 found (residue 128 z) o g k (run-length body fs x.sight.turns s) in
    let e' : all_arms x more w (more_arms m u.0 found) u.0.count ≡ Ok r = subst (λ a. all_arms x more w a u.0.count ≡ Ok r) (kept-arm x m u.0 found kept) u.2 in
    let q = j.arms x fs kept spares.2 c w s (more_arms m u.0 found) (next_left o (nat_eq (residue 128 z) m) t) u.0.count z r fits h g' e' in (
      q.0,
      q.1,
      q.2 ∙ left-arm o (nat_eq (residue 128 z) m) t (run_arm fs x.sight.turns z more s)
          ∙ ap (λ b. left_by o (if b then t else run_arm fs x.sight.turns z more s)) (arm_is z m fits spares.0),
    )

arm-sound : (n : ℕ) (body more : Code) → Sound body → Sound more → Sound (arm n body more)
arm-sound n body more i j = record {
  walks = λ x fs kept spares c w v s h e. stays x fs c w v s h e;
  ways = λ x fs kept spares c w v s found o m h g e. no-more x fs kept c w v s found o m h g e;
  one_arm = arm-one n body more i j;
  arms = arm-all n body more i j;
}

sound : (d : Code) → Sound d
sound stop = stop-sound
sound (assign p t a rest) = assign-sound p t a rest (sound rest)
sound (skip p rest) = skip-sound p rest (sound rest)
sound (repeat p a b body rest) = repeat-sound p a b body rest (sound body) (sound rest)
sound (choose inner rest) = choose-sound inner rest (sound inner) (sound rest)
sound (way a body more) = ways-sound a body more (sound body) (sound more)
sound (last body) = last-sound body (sound body)
sound (pick a inner rest) = pick-sound a inner rest (sound inner) (sound rest)
sound (arm n body more) = arm-sound n body more (sound body) (sound more)

pub walk-sound : (d : Code) (x : WalkContext) (fs : Functions) → x.is_kept ≡ true → Spares x.sight.constants d → GoesWith x fs (walk x d) (run fs x.sight.turns d)
walk-sound d = (sound d).walks
