-- An instance that is only judged and the same one with its script come to the same.
use Rattle.std.proofs.Common.{◌≡◌, ℕ, zero, suc, refl, sym, ap, ◌∙◌, Bool, true, false, List, [], ◌∷◌, ◌++◌, length, length-append, arith}
use Rattle.std.specs.Prelude.{take, Option, Result, Ok, Err}
use Rattle.vg_pseudo.specs.Resolved.{Function, Resolved}
use Rattle.vg_pseudo.specs.Instance.{kept_widths}
use Rattle.vg_script.specs.Script.{frame}
use Rattle.vg_interval.specs.declared.fault.RangeFault.{RangeFault}
use Rattle.vg_interval.specs.Found.{Passed, computed, answered}
use Rattle.vg_interval.specs.Found as found
use Rattle.vg_interval.specs.Judge.{Walk, spot_of, no_walk}
use Rattle.vg_range.specs.Walk.{WalkState, judged, walk, constant_passed, constants_of, given_of, context_of, begun, called, walks_from, imm_constant, instance_at}
use Rattle.vg_range.specs.Kept.{GoesAs, AcceptedAreWritten}
use Rattle.vg_range.proofs.Bare.{seen, steps_same, bare, bare_passed, all_bare, answered-same, view}
use Rattle.vg_range.proofs.Judged.{looks, counts, CallsSame, AllSame}
use Rattle.vg_range.proofs.Alike.{Alike, known_at, judged-alike}
use Rattle.vg_range.proofs.WalkedAlike.{walk-alike}

-- ---- arguments

take-bare : (n : ℕ) (ps : List Passed) → all_bare (take n ps) ≡ take n (all_bare ps)
take-bare zero [] = refl
take-bare zero (p ∷ ps) = refl
take-bare (suc n) [] = refl
take-bare (suc n) (p ∷ ps) = ap (λ qs. bare_passed p ∷ qs) (take-bare n ps)

constant-bare : (p : Passed) → constant_passed p ≡ constant_passed (bare_passed p)
constant-bare (found.constant n) = refl
constant-bare (computed x) = refl
constant-bare (found.bits r l w) = refl

constants-bare : (ws : List ℕ) (ps : List Passed) → constants_of ws ps ≡ constants_of ws (all_bare ps)
constants-bare [] ps = refl
constants-bare (w ∷ ws) [] = refl
constants-bare (w ∷ ws) (p ∷ ps) = rw (constants-bare ws ps, constant-bare p) refl

constants-same : (ws : List ℕ) (n : ℕ) (ps qs : List Passed) → all_bare ps ≡ all_bare qs → constants_of ws (take n ps) ≡ constants_of ws (take n qs)
constants-same ws n ps qs e =
    constants-bare ws (take n ps)
    ∙ ap (constants_of ws) (take-bare n ps ∙ ap (take n) e ∙ sym (take-bare n qs))
    ∙ sym (constants-bare ws (take n qs))

-- ---- calls

called-same : (k j : Bool) (us vs : List Walk) (f : Function) → AllSame us vs → CallsSame (called k us f) (called j vs f)
called-same k j us vs f h s ps qs c e =
    let b = f.body in
    let ws = kept_widths b.widths in
    let x = context_of k us b.widths (constants_of ws (take b.parameters ps)) in
    let y = context_of j vs b.widths (constants_of ws (take b.parameters qs)) in
    let alike : Alike x y = record { widths = refl; constants = constants-same ws b.parameters ps qs e; turns = refl; calls = h } in
    steps_same known_at view (walk x b.code (begun b c)) (walk y b.code (begun b c)) _ _ (walk-alike b.code x y alike (begun b c) (begun b c) refl) (λ w v p.
    steps_same view view (judged x w f.answer) (judged y v f.answer) _ _ (judged-alike x y alike w v p f.answer) (λ g i q.
    let before = frame ws b.numbers (given_of (take b.parameters ps)) w.script in
    let behind = frame ws b.numbers (given_of (take b.parameters qs)) v.script in
    steps_same bare view (answered (spot_of f.answer) before g.0) (answered (spot_of f.answer) behind i.0) _ _
    (answered-same (spot_of f.answer) before behind g.0 i.0 (looks bare g i q)) (λ l m o. rw (o, counts bare g i q) refl)))

none-same : CallsSame no_walk no_walk
none-same s ps qs c e = refl

walks-same : (us vs : List Walk) (u v : Walk) → AllSame us vs → length us ≡ length vs → CallsSame u v → AllSame (us ++ u ∷ []) (vs ++ v ∷ [])
walks-same [] [] u v h l e zero = e
walks-same [] [] u v h l e (suc k) = none-same
walks-same [] (w ∷ vs) u v h l e k = absurd (omega (arith, l))
walks-same (w ∷ us) [] u v h l e k = absurd (omega (arith, l))
walks-same (w ∷ us) (t ∷ vs) u v h l e zero = h 0
walks-same (w ∷ us) (t ∷ vs) u v h l e (suc k) = walks-same us vs u v (λ n. h (suc n)) (omega (arith, l)) e k

functions-same : (k j : Bool) (fs : List Function) (us vs : List Walk) → AllSame us vs → length us ≡ length vs → AllSame (walks_from k us fs) (walks_from j vs fs)
functions-same k j [] us vs h l = h
functions-same k j (f ∷ fs) us vs h l =
    functions-same k j fs (us ++ called k us f ∷ []) (vs ++ called j vs f ∷ [])
    (walks-same us vs (called k us f) (called j vs f) h l (called-same k j us vs f h))
    (simp (length-append) (omega (arith, l)))

-- ---- instances

instance-same : (k j : Bool) (r : Resolved) (imm : Option ℕ) → seen known_at (instance_at k r imm) ≡ seen known_at (instance_at j r imm)
instance-same k j r imm =
    let cs = imm_constant r.result imm r.body.widths in
    let x = context_of k (walks_from k [] r.functions) r.body.widths cs in
    let y = context_of j (walks_from j [] r.functions) r.body.widths cs in
    let start = begun r.body (record { steps = 0; is_dynamic = false }) in
    walk-alike r.body.code x y
    (record { widths = refl; constants = refl; turns = refl; calls = functions-same k j r.functions [] [] (λ n. none-same) refl }) start start refl

-- results that look the same, by what the first is
refused-too : (r q : Result WalkState RangeFault) → seen known_at r ≡ seen known_at q → (e : RangeFault) → r ≡ Err e → q ≡ Err e
refused-too (Ok w) q h e p = absurd (cc)
refused-too (Err d) (Ok v) h e p = absurd (cc)
refused-too (Err d) (Err c) h e p = cc

accepted-too : (r q : Result WalkState RangeFault) → seen known_at r ≡ seen known_at q → (w : WalkState) → r ≡ Ok w
    → (v : WalkState) × (q ≡ Ok v) × (v.numbers ≡ w.numbers) × (v.count ≡ w.count)
accepted-too (Err d) q h w p = absurd (cc)
accepted-too (Ok u) (Err c) h w p = absurd (cc)
accepted-too (Ok u) (Ok v) h w p =
    let e : u ≡ w = cc in
    let k : known_at v ≡ known_at w = rw (sym e) cc in
    (v, refl, ap (λ a. a.0) k, ap (λ a. a.1) k)

goes-as : (k j : Bool) (r : Resolved) (imm : Option ℕ) → GoesAs k j r imm
goes-as k j r imm = record {
  refused = refused-too (instance_at k r imm) (instance_at j r imm) (instance-same k j r imm);
  accepted = accepted-too (instance_at k r imm) (instance_at j r imm) (instance-same k j r imm);
}

pub accepted-are-written : AcceptedAreWritten
accepted-are-written r imm = (goes-as false true r imm, goes-as true false r imm)
