-- Ways that are still to be joined, and what states leave one after the other.
use Rattle.std.proofs.Common.{◌≡◌, ℕ, append_assoc, ◌++◌, ◌^◌, ◌<◌, ◌≤◌, refl, sym, ap, ◌∙◌, subst, arith, List, [], ◌∷◌, length}
use Rattle.std.specs.Prelude.{max, map}
use Rattle.std.proofs.lemmas.Bool.{lt-ltb, cond-true}
use Rattle.vg_terms.specs.Term.{Tree, constant, two}
use Rattle.vg_terms.specs.declared.term.TwoOp.TheVariants.{Eq}
use Rattle.vg_pool.specs.declared.content.Content.{Content}
use Rattle.vg_pool.specs.Pool.{Keeps, tree_at}
use Rattle.vg_script.specs.Script as script
use Rattle.vg_script.specs.Views.{script_of}
use Rattle.vg_script.specs.declared.script.Script.{size-Script}
use Rattle.vg_script.specs.declared.script.Script as declared
use Rattle.vg_lift.specs.LaneTerm as lane
use Rattle.vg_lift.specs.LaneTerm.{joined, lifted, lifted_arm, passed, term}
use Rattle.vg_lift.specs.Turns.{TurnFits, TurnsFit, taken, turns_size}
use Rattle.vg_lift.specs.declared.state.State.{State}
use Rattle.vg_lift.specs.declared.turn.Turn.{Turn}
use Rattle.vg_lift.specs.States.{AllFit, AreNodes, Leaves, Begins, StateFits, state_of, widths_in}
use Rattle.vg_lift.specs.Views.{bits_of}
use Rattle.vg_lift.proofs.Nodes.{node_kept}
use Rattle.vg_lift.specs.Passed.{AllPassedFit, PassedFits, all_passed, passed_of}
use Rattle.vg_lift.specs.declared.passed.Passed.{Passed}
use Rattle.vg_lift.proofs.StateSteps.{state_at}
use Rattle.vg_lift.proofs.Puts.{state_kept}
use Rattle.vg_lift.proofs.Begins.{passed_append, passed_behind, all_passed_fit, all_passed_kept}

-- ---- ways, over a pool that has grown

pub turn_kept : (old new : List Content) (ws : List ℕ) (t : Turn) → Keeps old new → TurnFits old ws t → TurnFits new ws t
turn_kept old new ws t k h = record { node = node_kept old new t.node 1 k h.node; formed = h.formed; is_static = h.is_static }

pub turns_kept : (old new : List Content) (ws : List ℕ) (ts : List Turn) → Keeps old new → TurnsFit old ws ts → TurnsFit new ws ts
turns_kept old new ws [] k h = tt
turns_kept old new ws (t ∷ ts) k h = (turn_kept old new ws t k h.0, turns_kept old new ws ts k h.1)

pub taken_kept : (old new : List Content) (ws : List ℕ) (b : lane.State) (ts : List Turn) (s : lane.State) → Keeps old new → TurnsFit old ws ts → taken new b ts s ≡ taken old b ts s
taken_kept old new ws b [] s k h = refl
taken_kept old new ws b (t ∷ ts) s k h =
    let first = lifted (script_of t.body.now) b in
    ap (λ c. joined c first (taken new b ts s)) (k.trees t.node ((h.0).node).within)
    ∙ ap (joined (tree_at old t.node) first) (taken_kept old new ws b ts s k h.1)

-- ---- one way more, or one less

pub turn_behind : (pool : List Content) (ws : List ℕ) (ts : List Turn) (t : Turn) → TurnsFit pool ws ts → TurnFits pool ws t → TurnsFit pool ws (ts ++ t ∷ [])
turn_behind pool ws [] t h f = (f, tt)
turn_behind pool ws (u ∷ ts) t h f = (h.0, turn_behind pool ws ts t h.1 f)

pub turns_before : (pool : List Content) (ws : List ℕ) (ts : List Turn) (t : Turn) → TurnsFit pool ws (ts ++ t ∷ []) → TurnsFit pool ws ts × TurnFits pool ws t
turns_before pool ws [] t h = (tt, h.0)
turns_before pool ws (u ∷ ts) t h = let p = turns_before pool ws ts t h.1 in ((h.0, p.0), p.1)

pub taken_last : (pool : List Content) (b : lane.State) (ts : List Turn) (t : Turn) (s : lane.State)
    → taken pool b (ts ++ t ∷ []) s ≡ taken pool b ts (joined (tree_at pool t.node) (lifted (script_of t.body.now) b) s)
taken_last pool b [] t s = refl
taken_last pool b (u ∷ ts) t s = ap (joined (tree_at pool u.node) (lifted (script_of u.body.now) b)) (taken_last pool b ts t s)

pub size_behind : (ts : List Turn) (t : Turn) → turns_size (ts ++ t ∷ []) ≡ max (turns_size ts) (size-Script t.body.now)
size_behind [] t = omega arith
size_behind (u ∷ ts) t = ap (max (size-Script u.body.now)) (size_behind ts t) ∙ omega arith

-- ---- states one after the other

pub leaves_itself : (pool : List Content) (s : State) → StateFits pool s → Leaves pool s s (state_of pool s)
leaves_itself pool s h = record { is = refl; fits = h; widths = refl; count = refl }

-- the second leaves what the first did and more
pub leaves_behind : (pool : List Content) (old now new : State) (p : lane.State) → widths_in now ≡ widths_in old → length now.variables.items ≡ length old.variables.items
    → Leaves pool now new p → Leaves pool old new p
leaves_behind pool old now new p w n h = record { is = h.is; fits = h.fits; widths = h.widths ∙ w; count = h.count ∙ n }

pub leaves_as : (pool : List Content) (old new : State) (p q : lane.State) → p ≡ q → Leaves pool old new p → Leaves pool old new q
leaves_as pool old new p q e h = record { is = h.is ∙ e; fits = h.fits; widths = h.widths; count = h.count }

-- a copy of a state
pub copied : (pool : List Content) (s t : State) → t.registers.items ≡ s.registers.items → t.variables.items ≡ s.variables.items → StateFits pool s → Leaves pool s t (state_of pool s)
copied pool s t e f h = record {
  is = state_at _ _ _ _ (ap (λ l. map (bits_of pool) l) e) (ap (λ l. map (tree_at pool) l) f);
  fits = record {
    registers = subst (λ l. AllFit pool l) (sym e) h.registers;
    variables = subst (λ l. AreNodes pool l) (sym f) h.variables;
  };
  widths = ap (λ l. map length l) e;
  count = ap length f;
}

-- an arm whose number fits into 128 bits
pub arm_taken : (x : Tree) (n : ℕ) (body arms : script.Script) (s : lane.State) → n < 2 ^ 128
    → joined (two Eq 1 x (constant 128 n)) (lifted body s) (lifted_arm x arms s) ≡ lifted_arm x (script.arm n body arms) s
arm_taken x n body arms s h = sym (cond-true _ _ _ (lt-ltb n (2 ^ 128) h))

-- ---- calls

-- the registers of a call after its statements
pub called : (now new : List Content) (ws : List ℕ) (own left : State) (p : lane.State) (t : script.Script) → Begins now ws own p → Leaves new own left (lifted t (state_of now own)) → Begins new ws left (lifted t p)
called now new ws own left p t b l = record {
  is = l.is ∙ ap (lifted t) b.is;
  fits = l.fits;
  widths_are = l.widths ∙ b.widths_are;
}

-- ---- a step of each loop

-- one thing more that is given
pub passed_step : (now new : List Content) (all more : List Passed) (first : Passed) (r : List lane.Passed) → Keeps now new → AllPassedFit now all → more ≡ all ++ first ∷ []
    → all_passed new more ++ r ≡ all_passed now all ++ (passed_of new first ∷ r)
passed_step now new all more first r k h e =
    ap (λ l. all_passed new l ++ r) e
    ∙ ap (λ l. l ++ r) (passed_append new all (first ∷ []))
    ∙ append_assoc (all_passed new all) (passed_of new first ∷ []) r
    ∙ ap (λ l. l ++ (passed_of new first ∷ r)) (all_passed_kept now new all k h)

-- the last of the ways is joined
pub turns_step : (old now new : List Content) (ws : List ℕ) (b : State) (ts rest : List Turn) (t : Turn) (s u : State) → Keeps old now → StateFits old b → TurnsFit now ws ts
    → ts ≡ rest ++ t ∷ [] → Keeps now new
    → Leaves new s u (joined (tree_at now t.node) (lifted (script_of t.body.now) (state_of now b)) (state_of now s))
    → taken new (state_of old b) rest (state_of new u) ≡ taken now (state_of old b) ts (state_of now s)
turns_step old now new ws b ts rest t s u k f fit e l h =
    let first = state_of old b in
    let all : TurnsFit now ws (rest ++ t ∷ []) = subst (TurnsFit now ws) e fit in
    let here : state_of new u ≡ joined (tree_at now t.node) (lifted (script_of t.body.now) first) (state_of now s) =
    h.is ∙ ap (λ p. joined (tree_at now t.node) (lifted (script_of t.body.now) p) (state_of now s)) (state_kept old now b k f) in
    ap (taken new first rest) here
    ∙ taken_kept now new ws first rest _ l (turns_before now ws rest t all).0
    ∙ sym (taken_last now first rest t (state_of now s))
    ∙ ap (λ q. taken now first q (state_of now s)) (sym e)

pub rest_fit : (pool : List Content) (ws : List ℕ) (ts rest : List Turn) (t : Turn) → TurnsFit pool ws ts → ts ≡ rest ++ t ∷ [] → TurnsFit pool ws rest
rest_fit pool ws ts rest t h e = (turns_before pool ws rest t (subst (TurnsFit pool ws) e h)).0

pub last_fits : (pool : List Content) (ws : List ℕ) (ts rest : List Turn) (t : Turn) → TurnsFit pool ws ts → ts ≡ rest ++ t ∷ [] → TurnFits pool ws t
last_fits pool ws ts rest t h e = (turns_before pool ws rest t (subst (TurnsFit pool ws) e h)).1

pub rest_size : (ts rest : List Turn) (t : Turn) → ts ≡ rest ++ t ∷ [] → turns_size rest ≤ turns_size ts
rest_size ts rest t e = let same : turns_size ts ≡ max (turns_size rest) (size-Script t.body.now) = ap turns_size e ∙ size_behind rest t in omega (arith, same)

pub last_size : (ts rest : List Turn) (t : Turn) → ts ≡ rest ++ t ∷ [] → size-Script t.body.now ≤ turns_size ts
last_size ts rest t e = let same : turns_size ts ≡ max (turns_size rest) (size-Script t.body.now) = ap turns_size e ∙ size_behind rest t in omega (arith, same)

-- one way more is met, whose condition has this term
pub way_step : (now new : List Content) (ws : List ℕ) (b : lane.State) (ts more : List Turn) (t : Turn) (x : Tree) (s : lane.State) → Keeps now new → TurnsFit now ws ts
    → more ≡ ts ++ t ∷ [] → tree_at new t.node ≡ x → taken new b more s ≡ taken now b ts (joined x (lifted (script_of t.body.now) b) s)
way_step now new ws b ts more t x s k h e f =
    ap (λ l. taken new b l s) e
    ∙ taken_last new b ts t s
    ∙ ap (λ y. taken new b ts (joined y (lifted (script_of t.body.now) b) s)) f
    ∙ taken_kept now new ws b ts _ k h

-- the next way of an IF, whose condition has this word
pub way_next : (now new : List Content) (ws : List ℕ) (b : lane.State) (ts more : List Turn) (t : Turn) (x : script.Word) (left rest : declared.Script) → Keeps now new → TurnsFit now ws ts
    → more ≡ ts ++ t ∷ [] → tree_at new t.node ≡ term b x → script_of left ≡ script.way x (script_of t.body.now) (script_of rest)
    → taken new b more (lifted (script_of rest) b) ≡ taken now b ts (lifted (script_of left) b)
way_next now new ws b ts more t x left rest k h e f g =
    way_step now new ws b ts more t (term b x) (lifted (script_of rest) b) k h e f
    ∙ ap (λ (d : script.Script). taken now b ts (lifted d b)) (sym g)

-- the next arm of a CASE, whose selector has this term
pub arm_next : (now new : List Content) (ws : List ℕ) (b : lane.State) (ts more : List Turn) (t : Turn) (x : Tree) (number : ℕ) (left rest : declared.Script) → Keeps now new → TurnsFit now ws ts
    → number < 2 ^ 128 → more ≡ ts ++ t ∷ [] → tree_at new t.node ≡ two Eq 1 x (constant 128 number)
    → script_of left ≡ script.arm number (script_of t.body.now) (script_of rest)
    → taken new b more (lifted_arm x (script_of rest) b) ≡ taken now b ts (lifted_arm x (script_of left) b)
arm_next now new ws b ts more t x number left rest k h small e f g =
    way_step now new ws b ts more t (two Eq 1 x (constant 128 number)) (lifted_arm x (script_of rest) b) k h e f
    ∙ ap (taken now b ts) (arm_taken x number (script_of t.body.now) (script_of rest) b small ∙ ap (λ (d : script.Script). lifted_arm x d b) (sym g))

pub turns_behind : (now new : List Content) (ws : List ℕ) (ts more : List Turn) (t : Turn) → Keeps now new → TurnsFit now ws ts → more ≡ ts ++ t ∷ [] → TurnFits new ws t → TurnsFit new ws more
turns_behind now new ws ts more t k h e f = subst (TurnsFit new ws) (sym e) (turn_behind new ws ts t (turns_kept now new ws ts k h) f)

pub more_size : (ts more : List Turn) (t : Turn) (n : ℕ) → more ≡ ts ++ t ∷ [] → turns_size ts ≤ n → size-Script t.body.now ≤ n → turns_size more ≤ n
more_size ts more t n e h g = let same : turns_size more ≡ max (turns_size ts) (size-Script t.body.now) = ap turns_size e ∙ size_behind ts t in omega (arith, same)

pub keeps_itself : (pool : List Content) → Keeps pool pool
keeps_itself pool = record { nodes = omega arith; trees = λ n h. refl }

pub pushed_first : (l m : List Turn) (t : Turn) → m ≡ l ++ t ∷ [] → l ≡ [] → m ≡ [] ++ t ∷ []
pushed_first l m t e f = e ∙ ap (λ (q : List Turn). q ++ t ∷ []) f

-- one thing more that is given, which is this
pub given_step : (now new : List Content) (s : lane.State) (all more : List Passed) (first : Passed) (p : lane.Passed) (left rest : script.Given) → Keeps now new → AllPassedFit now all
    → more ≡ all ++ first ∷ [] → passed_of new first ≡ p → passed s left ≡ p ∷ passed s rest → all_passed new more ++ passed s rest ≡ all_passed now all ++ passed s left
given_step now new s all more first p left rest k h e f g =
    passed_step now new all more first (passed s rest) k h e
    ∙ ap (λ (q : lane.Passed). all_passed now all ++ (q ∷ passed s rest)) f
    ∙ ap (λ (l : List lane.Passed). all_passed now all ++ l) (sym g)

pub passed_more : (now new : List Content) (all more : List Passed) (first : Passed) → Keeps now new → AllPassedFit now all → more ≡ all ++ first ∷ [] → PassedFits new first → AllPassedFit new more
passed_more now new all more first k h e f = subst (AllPassedFit new) (sym e) (passed_behind new all first (all_passed_fit now new all k h) f)
