-- In an accepted instance a script does what the statements do.
use Rattle.std.proofs.Common.{◌≡◌, ℕ, zero, suc, ◌+◌, ◌*◌, ◌^◌, ◌<◌, ◌≤◌, refl, sym, ap, ◌∙◌, subst, arith, inl, inr, Bool, true, false, List, [], ◌∷◌, get_or, set, length}
use Rattle.std.specs.Prelude.{ℤ, pos, ◌+ℤ◌, min, if◌then◌else◌, map, Option, Some, None, Result, Ok}
use Rattle.std.specs.Ordering.{int_eq}
use Rattle.std.proofs.lemmas.Bool.{cases_Bool}
use Rattle.std.proofs.lemmas.Bool.Decides.{Decides-int_eq}
use Rattle.std.proofs.lemmas.List.{map-set}
use Rattle.std.proofs.Common.{length-set}
use Rattle.vg_base.proofs.Bind.{bind_ok}
use Rattle.vg_base.specs.Bits.{num}
use Rattle.vg_base.specs.Number.{residue}
use Rattle.vg_text.specs.declared.place.Place.{Place}
use Rattle.vg_pseudo.specs.Whole.{natural}
use Rattle.vg_pseudo.specs.Resolved.{Expr, Target, bits, lane, whole, number, Code, stop, assign, skip, repeat, choose, way, last, pick, arm}
use Rattle.vg_pseudo.specs.Value.{State, value, bits_in, count}
use Rattle.vg_pseudo.specs.Instance.{kept_widths}
use Rattle.vg_pseudo.specs.Run.{Functions, seen, written, assigned, turned, run, run_ways, run_arm}
use Rattle.vg_script.specs.Script.{Word, width_of, Script}
use Rattle.vg_script.specs.Script as script
use Rattle.vg_script.specs.Cells.{Cells, word_value, after}
use Rattle.vg_script.specs.Formed.{ScriptFormed}
use Rattle.vg_interval.specs.declared.fault.RangeFault.{RangeFault}
use Rattle.vg_interval.specs.Interval.{hull}
use Rattle.vg_interval.specs.Found.{Found, Operand, fixed, moving, word_of, operand}
use Rattle.vg_interval.specs.Judge.{KnownNumber, constant, varying, Count, step, Index, settled, unsettled, index_of, bits_between, bits_of_element, spot_of}
use Rattle.vg_range.specs.Walk.{WalkState, at_count, behind, WalkContext, with_script, judged, constant_index, constant_at, Goal, goal, goal_at, stored, kept_of, target_number, assign_at, kept_span, join_kept, join, in_turn, turns_at, Ways, no_ways, joined_with, with_way, is_empty, in_front, does_nothing, branch_of, closed, beginning, Arms, arms_in_front, arms_do_nothing, pick_of, with_arm, arms_of, way_taken, walk, walk_ways, arm_taken, all_arms}
use Rattle.vg_range.specs.Walk as walking
use Rattle.vg_interval.proofs.Intervals.{In, Fits, EndsFit, hull-left, hull-right, hull_fits, le_self}
use Rattle.vg_interval.proofs.Covers.{cells, Covers, Holds, operand-ok, holds-stands}
use Rattle.vg_interval.proofs.Operators.{between-ok, element-ok, IndexIs, index-is}
use Rattle.vg_interval.proofs.Judging.{Keeps, AllKeep, Knows, judge-covers}
use Rattle.vg_range.proofs.Writing.{stored-stores, written-cells, other-register}

-- ---- what is not written

-- no statement writes a register that is constant, and the numbers of arms are those of a text
abbrev pub TargetSpares : List (Option ℕ) → Target → Type 0
TargetSpares ks (bits r h l) = get_or ks r None ≡ None
TargetSpares ks (lane r size k) = get_or ks r None ≡ None
TargetSpares ks (whole r width) = get_or ks r None ≡ None
TargetSpares ks (number k) = Unit {0}

abbrev pub Spares : List (Option ℕ) → Code → Type 0
Spares ks stop = Unit {0}
Spares ks (assign p t e rest) = TargetSpares ks t × Spares ks rest
Spares ks (skip p rest) = Spares ks rest
Spares ks (repeat p a b body rest) = Spares ks body × Spares ks rest
Spares ks (choose ways rest) = Spares ks ways × Spares ks rest
Spares ks (way c body ways) = Spares ks body × Spares ks ways
Spares ks (last body) = Spares ks body
Spares ks (pick e arms rest) = Spares ks arms × Spares ks rest
Spares ks (arm n body arms) = (n < 2 ^ 127) × Spares ks body × Spares ks arms

-- ---- scripts one after the other

pub empty-is : (t : Script) → is_empty t ≡ true → t ≡ script.stop
empty-is script.stop e = refl
empty-is (script.put r l w x) e = absurd (cc)
empty-is (script.fill r l w z) e = absurd (cc)
empty-is (script.copy r l w q m) e = absurd (cc)
empty-is (script.copy_from r l w f q m) e = absurd (cc)
empty-is (script.give k x) e = absurd (cc)
empty-is (script.both a b) e = absurd (cc)
empty-is (script.branch a) e = absurd (cc)
empty-is (script.way x a b) e = absurd (cc)
empty-is (script.last a) e = absurd (cc)
empty-is (script.pick x a) e = absurd (cc)
empty-is (script.arm n a b) e = absurd (cc)

pub behind-after : (s t : Script) (c : Cells) → after (behind s t) c ≡ after t (after s c)
behind-after s t c = elim (cases_Bool (is_empty t)) [
  | inl e ↦ rw (e, empty-is t e) refl
  | inr e ↦ elim (cases_Bool (is_empty s)) [
    | inl f ↦ rw (e, f, empty-is s f) refl
    | inr f ↦ rw (e, f) refl
  ]
]

pub behind-formed : (ws : List ℕ) (s t : Script) → ScriptFormed ws s → ScriptFormed ws t → ScriptFormed ws (behind s t)
behind-formed ws s t p q = elim (cases_Bool (is_empty t)) [
  | inl e ↦ rw e p
  | inr e ↦ elim (cases_Bool (is_empty s)) [
    | inl f ↦ rw (e, f) q
    | inr f ↦ rw (e, f) (p, q)
  ]
]

-- ---- what is kept of registers

pub kept-at : (ws : List ℕ) (r : ℕ) → get_or (kept_widths ws) r 0 ≡ min 512 (get_or ws r 0)
kept-at [] r = omega arith
kept-at (w ∷ ws) zero = refl
kept-at (w ∷ ws) (suc r) = kept-at ws r

kept-inside : (ws : List ℕ) (r n : ℕ) → n ≤ min 512 (get_or ws r 0) → n ≤ get_or (kept_widths ws) r 0
kept-inside ws r n h = subst (λ k. n ≤ k) (sym (kept-at ws r)) h

-- ---- where a walk stands

-- A walk that keeps scripts and a run stand together: what is known covers the state, and the script has led from these
-- cells to those of the state.
pub record Together (x : WalkContext) (fs : Functions) (c : Cells) (w : WalkState) (s : State) : Type 0 where
  pub knows : Knows x.sight w.numbers (seen fs x.sight.turns s)
  pub same : after w.script c ≡ cells s
  pub formed : ScriptFormed (kept_widths x.sight.widths) w.script

-- a walk goes with a run, wherever both begin
abbrev pub GoesWith : WalkContext → Functions → (WalkState → Result WalkState RangeFault) → (State → State) → Type 0
GoesWith x fs f g = (c : Cells) (w v : WalkState) (s : State) → Together x fs c w s → f w ≡ Ok v → Together x fs c v (g s)

abbrev pub ok_stand : WalkState → Result WalkState RangeFault
ok_stand w = Ok w

pub same_stand : {a b : WalkState} → ok_stand a ≡ ok_stand b → a ≡ b
same_stand e = cc

pub counted : (x : WalkContext) (fs : Functions) (c : Cells) (w : WalkState) (s : State) (n : Count) → Together x fs c w s → Together x fs c (at_count w n) s
counted x fs c w s n h = record { knows = h.knows; same = h.same; formed = h.formed }

-- a script more
pub scripted : (x : WalkContext) (fs : Functions) (c : Cells) (w : WalkState) (ks : List KnownNumber) (s u : State) (t : Script) → x.is_kept ≡ true → Together x fs c w s
    → Knows x.sight ks (seen fs x.sight.turns u) → after t (cells s) ≡ cells u → ScriptFormed (kept_widths x.sight.widths) t
    → Together x fs c (with_script x t (record { numbers = ks; count = w.count; script = w.script })) u
scripted x fs c w ks s u t kept h knows same formed = rw kept (record {
  knows = knows;
  same = behind-after w.script t c ∙ ap (after t) h.same ∙ same;
  formed = behind-formed (kept_widths x.sight.widths) w.script t h.formed formed;
})

-- ---- indices of targets

pub constant-is : (ws : List ℕ) (c : Cells) (place : Place) (i : Index) (y z : ℤ) → constant_index place i ≡ Ok y → IndexIs ws c i z → z ≡ y
constant-is ws c place (settled k) y z e h = h ∙ cc
constant-is ws c place (unsettled a) y z e h = absurd (cc)

abbrev pub Constant : Type 0
Constant = ℤ × WalkState

abbrev pub constant_ok : Constant → Result Constant RangeFault
constant_ok a = Ok a

pub same_constant : {a b : Constant} → constant_ok a ≡ constant_ok b → a ≡ b
same_constant e = cc

-- a constant index: its value, and the state with another count
pub record IsConstant (x : WalkContext) (fs : Functions) (c : Cells) (w : WalkState) (s : State) (e : Expr) (a : ℤ × WalkState) : Type 0 where
  pub value : value (seen fs x.sight.turns s) e ≡ a.0
  pub stands : Together x fs c a.1 s

pub constant_at-is : (x : WalkContext) (fs : Functions) (c : Cells) (w : WalkState) (s : State) (e : Expr) (a : Constant) → Together x fs c w s
    → constant_at x w e ≡ Ok a → IsConstant x fs c w s e a
constant_at-is x fs c w s e a h p =
    let sight = seen fs x.sight.turns s in
    let f = bind_ok (judged x w e) _ p in
    let i = bind_ok (index_of (spot_of e) f.0.0) _ f.2 in
    let z = bind_ok (constant_index (spot_of e).outer i.0) _ i.2 in
    let covers = judge-covers e x.sight w.numbers sight w.count f.0.1 f.0.0 h.knows f.1 in
    let index = index-is x.sight.widths (cells s) (spot_of e) f.0.0 (value sight e) (bits_in sight e) i.0 h.knows.cells.bits i.1 covers in
    subst (IsConstant x fs c w s e) (same_constant z.2)
    (record { value = constant-is x.sight.widths (cells s) (spot_of e).outer i.0 z.0 (value sight e) z.1 index; stands = counted x fs c w s f.0.1 h })

abbrev pub Goals : Type 0
Goals = Option Goal × WalkState

abbrev pub goal_ok : Goals → Result Goals RangeFault
goal_ok a = Ok a

pub same_goal : {a b : Goals} → goal_ok a ≡ goal_ok b → a ≡ b
same_goal e = cc

-- the bits that a target names
pub record IsGoal (x : WalkContext) (fs : Functions) (s : State) (t : Target) (g : Goal) : Type 0 where
  pub inside : g.bits.low + g.bits.width ≤ min 512 (get_or x.sight.widths g.register 0)
  pub some : 0 < g.bits.width
  pub spared : TargetSpares x.sight.constants t → get_or x.sight.constants g.register None ≡ None
  pub writes : (z : ℤ) → assigned (seen fs x.sight.turns s) t z ≡ written g.register g.bits.low g.bits.width z s

abbrev pub IsAimed : WalkContext → Functions → State → Target → Option Goal → Type 0
IsAimed x fs s t (Some g) = IsGoal x fs s t g
IsAimed x fs s t None = (k : ℕ) × (t ≡ number k)

pub goal_at-is : (x : WalkContext) (fs : Functions) (c : Cells) (place : Place) (w : WalkState) (s : State) (t : Target) (a : Goals) → Together x fs c w s
    → goal_at x place w t ≡ Ok a → Together x fs c a.1 s × IsAimed x fs s t a.0
goal_at-is x fs c place w s (bits r h l) a k e =
    let high = bind_ok (constant_at x w h) _ e in
    let low = bind_ok (constant_at x high.0.1 l) _ high.2 in
    let b = bind_ok (bits_between place (walking.width_in x r) high.0.0 low.0.0) _ low.2 in
    let p = constant_at-is x fs c w s h high.0 k high.1 in
    let q = constant_at-is x fs c high.0.1 s l low.0 p.stands low.1 in
    let i = between-ok place (walking.width_in x r) high.0.0 low.0.0 b.0 b.1 in
    let sight = seen fs x.sight.turns s in
    let first : natural (value sight l) ≡ b.0.low = ap natural q.value ∙ i.first in
    let wide : count (value sight l) (value sight h) ≡ b.0.width = ap (λ v. count v (value sight h)) q.value ∙ ap (count low.0.0) p.value ∙ i.width in
    subst (λ v. Together x fs c v.1 s × IsAimed x fs s (bits r h l) v.0) (same_goal b.2) (
      q.stands,
      record {
        inside = i.inside;
        some = i.some;
        spared = λ n. n;
        writes = λ z. ap (λ v. written r v (count (value sight l) (value sight h)) z s) first ∙ ap (λ v. written r b.0.low v z s) wide;
      },
    )
goal_at-is x fs c place w s (lane r size k) a h e =
    let index = bind_ok (constant_at x w k) _ e in
    let b = bind_ok (bits_of_element place (walking.width_in x r) size index.0.0) _ index.2 in
    let p = constant_at-is x fs c w s k index.0 h index.1 in
    let i = element-ok place (walking.width_in x r) size index.0.0 b.0 b.1 in
    let sight = seen fs x.sight.turns s in
    let first : natural (value sight k) * size ≡ b.0.low = ap (λ v. natural v * size) p.value ∙ i.first in
    subst (λ v. Together x fs c v.1 s × IsAimed x fs s (lane r size k) v.0) (same_goal b.2) (
      p.stands,
      record {
        inside = i.inside;
        some = i.some;
        spared = λ n. n;
        writes = λ z. ap (λ v. written r v size z s) first ∙ ap (λ v. written r b.0.low v z s) i.width;
      },
    )
goal_at-is x fs c place w s (whole r width) a h e =
    let b = bind_ok (bits_of_element place (walking.width_in x r) width (pos 0)) _ e in
    let i = element-ok place (walking.width_in x r) width (pos 0) b.0 b.1 in
    let none : 0 ≡ 0 * width = omega arith in
    subst (λ v. Together x fs c v.1 s × IsAimed x fs s (whole r width) v.0) (same_goal b.2) (
      h,
      record {
        inside = i.inside;
        some = i.some;
        spared = λ n. n;
        writes = λ z. ap (λ v. written r v width z s) (none ∙ i.first) ∙ ap (λ v. written r b.0.low v z s) i.width;
      },
    )
goal_at-is x fs c place w s (number k) a h e =
    subst (λ v. Together x fs c v.1 s × IsAimed x fs s (number k) v.0) (same_goal e) (h, (k, refl))

-- ---- assignments

pub keeps-set : (ks : List KnownNumber) (zs : List ℤ) (k : ℕ) (r : KnownNumber) (z : ℤ) → AllKeep ks zs → Keeps r z → AllKeep (set ks k r) (set zs k z)
keeps-set [] [] k r z h p = tt
keeps-set [] (y ∷ zs) k r z h p = absurd h
keeps-set (q ∷ ks) [] k r z h p = absurd h
keeps-set (q ∷ ks) (y ∷ zs) zero r z h p = (p, h.1)
keeps-set (q ∷ ks) (y ∷ zs) (suc k) r z h p = (h.0, keeps-set ks zs k r z h.1 p)

pub kept_of-keeps : (ws : List ℕ) (c : Cells) (a : Operand) (z : ℤ) → Holds ws c a z → Keeps (kept_of a) z
kept_of-keeps ws c (fixed y) z h = h
kept_of-keeps ws c (moving i x) z h = (h.inside, h.ends)

pub some_none : (n : ℕ) → Some n ≡ None → ⊥
some_none n e = absurd (cc)

-- what is known after a write inside of a register that is not constant
pub written-knows : (x : WalkContext) (fs : Functions) (ks : List KnownNumber) (s : State) (r low width : ℕ) (z : ℤ) → Knows x.sight ks (seen fs x.sight.turns s)
    → low + width ≤ min 512 (get_or x.sight.widths r 0) → get_or x.sight.constants r None ≡ None
    → Knows x.sight ks (seen fs x.sight.turns (written r low width z s))
written-knows x fs ks s r low width z h inside spared = record {
  cells = written-cells x.sight.widths s r low width z h.cells inside;
  small = h.small;
  numbers = h.numbers;
  constants = λ q n e.
      ap num (other-register s.registers r q _ (λ p. not_constant q n e p)) ∙ h.constants q n e;
  turns = h.turns;
  calls = h.calls;
}
  where
    not_constant : (q n : ℕ) → get_or x.sight.constants q None ≡ Some n → q ≡ r → ⊥
    not_constant q n e p = some_none n (sym e ∙ ap (λ v. get_or x.sight.constants v None) p ∙ spared)

abbrev pub cells_of : List (List ℕ) → List ℕ → Cells
cells_of rs vs = record { registers = rs; variables = vs }

abbrev pub record_numbers : State → ℕ → ℤ → State
record_numbers s k z = record { registers = s.registers; numbers = set s.numbers k z }

pub number-knows : (x : WalkContext) (fs : Functions) (ks : List KnownNumber) (s : State) (k : ℕ) (r : KnownNumber) (z : ℤ) → Knows x.sight ks (seen fs x.sight.turns s) → Keeps r z
    → Knows x.sight (set ks k r) (seen fs x.sight.turns (record { registers = s.registers; numbers = set s.numbers k z }))
number-knows x fs ks s k r z h p = record {
  cells = record { kept = h.cells.kept; bits = h.cells.bits };
  small = h.small;
  numbers = keeps-set ks s.numbers k r z h.numbers p;
  constants = h.constants;
  turns = h.turns;
  calls = h.calls;
}

pub number-cells : (s : State) (k : ℕ) (z : ℤ) (y : Word) → word_value (cells s) y ≡ residue 128 z
    → after (script.give k y) (cells s) ≡ cells (record { registers = s.registers; numbers = set s.numbers k z })
number-cells s k z y e =
    ap (λ v. cells_of s.registers (set (map (residue 128) s.numbers) k v)) e
    ∙ ap (cells_of s.registers) (sym (map-set (residue 128) s.numbers k z))

pub assigned-number : (fs : Functions) (ts : List ℤ) (s : State) (t : Target) (k : ℕ) (z : ℤ) → t ≡ number k
    → (assigned (seen fs ts s) t z ≡ record { registers = s.registers; numbers = set s.numbers k z }) × (target_number t ≡ k)
assigned-number fs ts s t k z e = rw e (refl, refl)

pub assign-goes : (x : WalkContext) (fs : Functions) (place : Place) (t : Target) (e : Expr) → x.is_kept ≡ true → TargetSpares x.sight.constants t
    → GoesWith x fs (assign_at x place t e) (λ s. assigned (seen fs x.sight.turns s) t (value (seen fs x.sight.turns s) e))
assign-goes x fs place t e kept spares c w v s h p =
    let sight = seen fs x.sight.turns s in
    let n = bind_ok (step place w.count) _ p in
    let g = bind_ok (goal_at x place (at_count w n.0) t) _ n.2 in
    let a = goal_at-is x fs c place (at_count w n.0) s t g.0 (counted x fs c w s n.0 h) g.1 in
    let f = bind_ok (judged x g.0.1 e) _ g.2 in
    let covers = judge-covers e x.sight g.0.1.numbers sight g.0.1.count f.0.1 f.0.0 a.0.knows f.1 in
    aimed g.0.0 g.0.1 f.0.0 f.0.1 a.0 a.1 covers f.2
  where
    aimed : (o : Option Goal) (u : WalkState) (f : Found) (m : Count) → Together x fs c u s → IsAimed x fs s t o
        → Covers x.sight.widths (cells s) f (value (seen fs x.sight.turns s) e) (bits_in (seen fs x.sight.turns s) e)
        → walking.assigned x (spot_of e) t o f (at_count u m) ≡ Ok v
        → Together x fs c v (assigned (seen fs x.sight.turns s) t (value (seen fs x.sight.turns s) e))
    aimed (Some g) u f m k i covers q =
        let z = value (seen fs x.sight.turns s) e in
        let made = bind_ok (stored (spot_of e) g f) _ q in
        let st = stored-stores x.sight.widths (kept_widths x.sight.widths) s (spot_of e) g.register g.bits f z (bits_in (seen fs x.sight.turns s) e) made.0 k.knows.cells.bits
        (kept-inside x.sight.widths g.register (g.bits.low + g.bits.width) i.inside) i.some covers made.1 in
        let knows = written-knows x fs u.numbers s g.register g.bits.low g.bits.width z k.knows i.inside (i.spared spares) in
        subst (λ y. Together x fs c y (assigned (seen fs x.sight.turns s) t z)) (same_stand made.2)
        (subst (Together x fs c (with_script x made.0 (at_count u m))) (sym (i.writes z))
        (scripted x fs c (at_count u m) u.numbers s (written g.register g.bits.low g.bits.width z s) made.0 kept (counted x fs c u s m k) knows st.same st.formed))
    aimed None u f m k i covers q =
        let z = value (seen fs x.sight.turns s) e in
        let a = bind_ok (operand (spot_of e) f) _ q in
        let holds = operand-ok x.sight.widths (cells s) (spot_of e) f z (bits_in (seen fs x.sight.turns s) e) a.0 k.knows.cells.bits a.1 covers in
        let stands = holds-stands x.sight.widths (cells s) a.0 z holds in
        let r = assigned-number fs x.sight.turns s t i.0 z i.1 in
        let after = record_numbers s (target_number t) z in
        let knows = number-knows x fs u.numbers s (target_number t) (kept_of a.0) z k.knows (kept_of-keeps x.sight.widths (cells s) a.0 z holds) in
        subst (λ y. Together x fs c y (assigned (seen fs x.sight.turns s) t z)) (same_stand a.2)
        (subst (Together x fs c _) (ap (λ j. record_numbers s j z) r.1 ∙ sym r.0)
        (scripted x fs c (at_count u m) (set u.numbers (target_number t) (kept_of a.0)) s after (script.give (target_number t) (word_of a.0)) kept (counted x fs c u s m k) knows
        (number-cells s (target_number t) z (word_of a.0) stands.bits) (stands.wide, stands.formed)))

-- ---- FOR

pub in_turn-together : (x : WalkContext) (fs : Functions) (c : Cells) (w : WalkState) (s : State) (z : ℤ) → Together x fs c w s → Together (in_turn x z) fs c w s
in_turn-together x fs c w s z h = record {
  knows = record {
    cells = h.knows.cells;
    small = h.knows.small;
    numbers = h.knows.numbers;
    constants = h.knows.constants;
    turns = refl;
    calls = h.knows.calls;
  };
  same = h.same;
  formed = h.formed;
}

pub out_turn-together : (x : WalkContext) (fs : Functions) (c : Cells) (w : WalkState) (s : State) (z : ℤ) → Together (in_turn x z) fs c w s → Together x fs c w s
out_turn-together x fs c w s z h = record {
  knows = record {
    cells = h.knows.cells;
    small = h.knows.small;
    numbers = h.knows.numbers;
    constants = h.knows.constants;
    turns = refl;
    calls = h.knows.calls;
  };
  same = h.same;
  formed = h.formed;
}

pub turns-go : (x : WalkContext) (fs : Functions) (place : Place) (f : ℤ → WalkState → Result WalkState RangeFault) (g : ℤ → State → State)
    → ((z : ℤ) → GoesWith (in_turn x z) fs (f z) (g z)) → (n : ℕ) (z : ℤ) → GoesWith x fs (turns_at f place z n) (turned g z n)
turns-go x fs place f g each zero z c w v s h e = subst (λ y. Together x fs c y s) (same_stand e) h
turns-go x fs place f g each (suc n) z c w v s h e =
    let m = bind_ok (step place w.count) _ e in
    let u = bind_ok (f z (at_count w m.0)) _ m.2 in
    let one = each z c (at_count w m.0) u.0 s (in_turn-together x fs c (at_count w m.0) s z (counted x fs c w s m.0 h)) u.1 in
    turns-go x fs place f g each n (z +ℤ pos 1) c u.0 v (g z s) (out_turn-together x fs c u.0 (g z s) z one) u.2

-- ---- what is known after one of several ways

pub keeps-span : (k : KnownNumber) (z : ℤ) → Keeps k z → In (kept_span k) z × EndsFit (kept_span k)
keeps-span (constant y) z h =
    (rw h.0 (record { above = le_self y; below = le_self y }), let f = subst Fits h.0 h.1 in record { first = f; last = f })
keeps-span (varying i) z h = h

pub hull-keeps-left : (a b : KnownNumber) (y z : ℤ) → Keeps a y → Keeps b z → Keeps (varying (hull (kept_span a) (kept_span b))) y
hull-keeps-left a b y z p q =
    let m = keeps-span a y p in
    let n = keeps-span b z q in
    (hull-left (kept_span a) (kept_span b) y m.0, hull_fits (kept_span a) (kept_span b) m.1 n.1)

pub hull-keeps-right : (a b : KnownNumber) (y z : ℤ) → Keeps a y → Keeps b z → Keeps (varying (hull (kept_span a) (kept_span b))) z
hull-keeps-right a b y z p q =
    let m = keeps-span a y p in
    let n = keeps-span b z q in
    (hull-right (kept_span a) (kept_span b) z n.0, hull_fits (kept_span a) (kept_span b) m.1 n.1)

pub join_kept-left : (a b : KnownNumber) (y z : ℤ) → Keeps a y → Keeps b z → Keeps (join_kept a b) y
join_kept-left (constant u) (constant v) y z p q = elim (cases_Bool (int_eq u v)) [
  | inl t ↦ rw t p
  | inr t ↦ rw t (hull-keeps-left (constant u) (constant v) y z p q)
]
join_kept-left (constant u) (varying j) y z p q = hull-keeps-left (constant u) (varying j) y z p q
join_kept-left (varying i) b y z p q = hull-keeps-left (varying i) b y z p q

pub join_kept-right : (a b : KnownNumber) (y z : ℤ) → Keeps a y → Keeps b z → Keeps (join_kept a b) z
join_kept-right (constant u) (constant v) y z p q = elim (cases_Bool (int_eq u v)) [
  | inl t ↦ rw t (q.0 ∙ sym ((Decides-int_eq u v).0 t), q.1)
  | inr t ↦ rw t (hull-keeps-right (constant u) (constant v) y z p q)
]
join_kept-right (constant u) (varying j) y z p q = hull-keeps-right (constant u) (varying j) y z p q
join_kept-right (varying i) b y z p q = hull-keeps-right (varying i) b y z p q

pub join-left : (ks js : List KnownNumber) (ys zs : List ℤ) → length ys ≡ length zs → AllKeep ks ys → AllKeep js zs → AllKeep (join ks js) ys
join-left [] js [] zs e p q = tt
join-left [] js (y ∷ ys) zs e p q = absurd p
join-left (k ∷ ks) js [] zs e p q = absurd p
join-left (k ∷ ks) [] (y ∷ ys) [] e p q = absurd (omega (arith, e))
join-left (k ∷ ks) [] (y ∷ ys) (z ∷ zs) e p q = absurd q
join-left (k ∷ ks) (j ∷ js) (y ∷ ys) [] e p q = absurd q
join-left (k ∷ ks) (j ∷ js) (y ∷ ys) (z ∷ zs) e p q = (join_kept-left k j y z p.0 q.0, join-left ks js ys zs (omega (arith, e)) p.1 q.1)

pub join-right : (ks js : List KnownNumber) (ys zs : List ℤ) → length ys ≡ length zs → AllKeep ks ys → AllKeep js zs → AllKeep (join ks js) zs
join-right [] [] [] [] e p q = tt
join-right [] (j ∷ js) [] [] e p q = absurd q
join-right [] js [] (z ∷ zs) e p q = absurd (omega (arith, e))
join-right [] js (y ∷ ys) zs e p q = absurd p
join-right (k ∷ ks) js [] zs e p q = absurd p
join-right (k ∷ ks) [] (y ∷ ys) [] e p q = absurd (omega (arith, e))
join-right (k ∷ ks) [] (y ∷ ys) (z ∷ zs) e p q = absurd q
join-right (k ∷ ks) (j ∷ js) (y ∷ ys) [] e p q = absurd q
join-right (k ∷ ks) (j ∷ js) (y ∷ ys) (z ∷ zs) e p q = (join_kept-right k j y z p.0 q.0, join-right ks js ys zs (omega (arith, e)) p.1 q.1)

-- a run keeps how many number variables there are
abbrev pub numbers_of : State → ℕ
numbers_of s = length s.numbers

pub assigned-length : (fs : Functions) (ts : List ℤ) (s : State) (t : Target) (z : ℤ) → numbers_of (assigned (seen fs ts s) t z) ≡ numbers_of s
assigned-length fs ts s (bits r h l) z = refl
assigned-length fs ts s (lane r size k) z = refl
assigned-length fs ts s (whole r width) z = refl
assigned-length fs ts s (number k) z = length-set s.numbers k z

pub turned-length : (g : ℤ → State → State) → ((z : ℤ) (s : State) → numbers_of (g z s) ≡ numbers_of s) → (n : ℕ) (z : ℤ) (s : State) → numbers_of (turned g z n s) ≡ numbers_of s
turned-length g each zero z s = refl
turned-length g each (suc n) z s = turned-length g each n (z +ℤ pos 1) (g z s) ∙ each z s

pub choice-length : (b : Bool) (s t : State) (n : ℕ) → numbers_of s ≡ n → numbers_of t ≡ n → numbers_of (if b then s else t) ≡ n
choice-length true s t n p q = p
choice-length false s t n p q = q

mutual
  pub run-length : (c : Code) (fs : Functions) (ts : List ℤ) (s : State) → numbers_of (run fs ts c s) ≡ numbers_of s
  run-length stop fs ts s = refl
  run-length (assign p t e rest) fs ts s = run-length rest fs ts _ ∙ assigned-length fs ts s t (value (seen fs ts s) e)
  run-length (skip p rest) fs ts s = run-length rest fs ts s
  run-length (repeat p a b body rest) fs ts s =
      run-length rest fs ts _ ∙ turned-length (λ z u. run fs (z ∷ ts) body u) (λ z u. run-length body fs (z ∷ ts) u)
      (count (value (seen fs ts s) a) (value (seen fs ts s) b)) (value (seen fs ts s) a) s
  run-length (choose ways rest) fs ts s = run-length rest fs ts _ ∙ ways-length ways fs ts s
  run-length (pick e arms rest) fs ts s = run-length rest fs ts _ ∙ arms-length arms fs ts (value (seen fs ts s) e) s
  run-length (way c body ways) fs ts s = refl
  run-length (last body) fs ts s = refl
  run-length (arm n body arms) fs ts s = refl

  pub ways-length : (c : Code) (fs : Functions) (ts : List ℤ) (s : State) → numbers_of (run_ways fs ts c s) ≡ numbers_of s
  ways-length (way c body ways) fs ts s = choice-length (int_eq (value (seen fs ts s) c) (pos 0)) _ _ _ (ways-length ways fs ts s) (run-length body fs ts s)
  ways-length (last body) fs ts s = run-length body fs ts s
  ways-length stop fs ts s = refl
  ways-length (assign p t e rest) fs ts s = refl
  ways-length (skip p rest) fs ts s = refl
  ways-length (repeat p a b body rest) fs ts s = refl
  ways-length (choose ways rest) fs ts s = refl
  ways-length (pick e arms rest) fs ts s = refl
  ways-length (arm n body arms) fs ts s = refl

  pub arms-length : (c : Code) (fs : Functions) (ts : List ℤ) (z : ℤ) (s : State) → numbers_of (run_arm fs ts z c s) ≡ numbers_of s
  arms-length (arm n body arms) fs ts z s = choice-length (int_eq z (pos n)) _ _ _ (run-length body fs ts s) (arms-length arms fs ts z s)
  arms-length stop fs ts z s = refl
  arms-length (assign p t e rest) fs ts z s = refl
  arms-length (skip p rest) fs ts z s = refl
  arms-length (repeat p a b body rest) fs ts z s = refl
  arms-length (choose ways rest) fs ts z s = refl
  arms-length (way c body ways) fs ts z s = refl
  arms-length (last body) fs ts z s = refl
  arms-length (pick e arms rest) fs ts z s = refl
