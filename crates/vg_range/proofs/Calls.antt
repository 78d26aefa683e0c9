-- What is found of a call covers what the call gives, and a script of an instance leaves what the instance means.
use Rattle.std.proofs.Common.{◌≡◌, ℕ, zero, suc, ◌%◌, ◌^◌, ◌+◌, ◌≤◌, refl, sym, ap, ◌∙◌, subst, arith, true, false, lit<, List, [], ◌∷◌, ◌++◌, get_or, length, take}
use Rattle.std.proofs.Common.{length-append}
use Rattle.std.specs.Prelude.{ℤ, pos, min, map, replicate, Option, Some, None, Result, Ok}
use Rattle.std.specs.Option.{option_map_or}
use Rattle.vg_base.proofs.Bind.{bind_ok}
use Rattle.vg_base.proofs.Bits.{length-bits, num-bits}
use Rattle.vg_base.specs.Bits.{num, bits}
use Rattle.vg_base.specs.Number.{residue}
use Rattle.vg_bits.proofs.BitLists.{IsBits-bits}
use Rattle.vg_pseudo.specs.declared.spot.Spot.{Spot}
use Rattle.vg_pseudo.specs.Resolved.{Expr, Target, Code, Body, Function, Resolved, stop, assign, skip, repeat, choose, way, last, pick, arm, lane, whole, number}
use Rattle.vg_pseudo.specs.Resolved as resolved
use Rattle.vg_pseudo.specs.Value.{State, Bits, value, bits_in, read}
use Rattle.vg_pseudo.specs.Value as meant
use Rattle.vg_pseudo.specs.Run.{Functions, seen}
use Rattle.vg_pseudo.specs.Instance.{entered, zeros, begun, ended, kept, kept_widths, called, functions_from, meaning}
use Rattle.vg_script.specs.Script.{Word, Low, Frame, frame, block, Script}
use Rattle.vg_script.specs.Script as script
use Rattle.vg_script.specs.Cells.{Cells, word_value, low_value, behind, numbers_given, bits_read, after}
use Rattle.vg_script.specs.Cells as cell
use Rattle.vg_script.specs.Formed.{GivenFormed, FrameFormed, ScriptFormed}
use Rattle.vg_interval.specs.declared.fault.RangeFault.{RangeFault}
use Rattle.vg_interval.specs.declared.span.Span.{Span}
use Rattle.vg_interval.specs.Interval.{slice_span, unsigned_span}
use Rattle.vg_interval.specs.Words.{extended}
use Rattle.vg_interval.specs.Found.{Found, known, handed, bit, within, wide, loose, handed_word, Passed, computed}
use Rattle.vg_interval.specs.Found as found
use Rattle.vg_interval.specs.Judge.{Count, Walk, spot_of, no_walk}
use Rattle.vg_range.specs.Walk.{WalkState, WalkContext, judged, walk, constant_passed, constants_of, given_of, context_of, walks_from, imm_constant}
use Rattle.vg_range.specs.Walk as walking
use Rattle.vg_interval.proofs.Covers.{cells, AllBits, AreCells, IsHanded, IsWithin, Covers, block-stands, handed-stands, handed-within, truth-within}
use Rattle.vg_interval.proofs.Operators.{Made, same_pair}
use Rattle.vg_names.specs.Proper.{AllSmall, WritesPast, IsProperCode, IsProperBody, AreProper}
use Rattle.vg_range.specs.Meant.{InstancesMean}
use Rattle.vg_interval.proofs.Judging.{AllKeep, PassedAll, CallAgrees, judge-covers}
use Rattle.vg_range.proofs.Walking.{Spares, TargetSpares, Together, kept-at}
use Rattle.vg_range.proofs.Statements.{walk-sound}

abbrev cells_at : List (List ℕ) → List ℕ → Cells
cells_at rs vs = record { registers = rs; variables = vs }

-- ---- registers as a body begins

same-entered : (ws ns : List ℕ) → cell.entered ws ns ≡ entered ws ns
same-entered [] ns = refl
same-entered (w ∷ ws) [] = ap (λ v. bits w 0 ∷ v) (same-entered ws [])
same-entered (w ∷ ws) (n ∷ ns) = ap (λ v. bits w n ∷ v) (same-entered ws ns)

zero_residues : (n : ℕ) → map (residue 128) (zeros n) ≡ replicate n 0
zero_residues zero = refl
zero_residues (suc n) = ap (λ v. 0 ∷ v) (zero_residues n)

length-entered : (ws ns : List ℕ) (r : ℕ) → length (get_or (entered ws ns) r []) ≡ get_or ws r 0
length-entered [] ns r = refl
length-entered (w ∷ ws) [] zero = length-bits w 0
length-entered (w ∷ ws) [] (suc r) = length-entered ws [] r
length-entered (w ∷ ws) (n ∷ ns) zero = length-bits w n
length-entered (w ∷ ws) (n ∷ ns) (suc r) = length-entered ws ns r

entered-bits : (ws ns : List ℕ) → AllBits (entered ws ns)
entered-bits [] ns = tt
entered-bits (w ∷ ws) [] = (IsBits-bits w 0, entered-bits ws [])
entered-bits (w ∷ ws) (n ∷ ns) = (IsBits-bits w n, entered-bits ws ns)

zeros-keep : (n : ℕ) → AllKeep (walking.zeros n) (zeros n)
zeros-keep zero = tt
zeros-keep (suc n) = ((refl, record { small = lit< tt }), zeros-keep n)

-- registers are declared with these widths, and all their bits are kept, or at least 512
abbrev KeepsEnough : List ℕ → Body → Type 0
KeepsEnough ws b = (r : ℕ) → min 512 (get_or ws r 0) ≤ get_or b.widths r 0

keeps-all : (b : Body) → KeepsEnough b.widths b
keeps-all b r = omega arith

keeps-kept : (b : Body) → KeepsEnough b.widths (kept b)
keeps-kept b r = omega (arith, kept-at b.widths r)

begun-cells : (ws : List ℕ) (b : Body) (given : List ℕ) → KeepsEnough ws b → AreCells ws (cells (begun b given))
begun-cells ws b given enough = record {
  kept = λ r. omega (arith, enough r, length-entered b.widths (take b.parameters given) r);
  bits = entered-bits b.widths (take b.parameters given);
}

-- ---- what is passed

passed-take : (k : ℕ) (ws : List ℕ) (c : Cells) (ps : List Passed) (ns : List ℕ) → PassedAll ws c ps ns → PassedAll ws c (take k ps) (take k ns)
passed-take zero ws c ps ns h = nothing ps ns
  where
    nothing : (ps : List Passed) (ns : List ℕ) → PassedAll ws c (take 0 ps) (take 0 ns)
    nothing [] [] = tt
    nothing [] (n ∷ ns) = tt
    nothing (p ∷ ps) [] = tt
    nothing (p ∷ ps) (n ∷ ns) = tt
passed-take (suc k) ws c [] [] h = tt
passed-take (suc k) ws c [] (n ∷ ns) h = absurd h
passed-take (suc k) ws c (p ∷ ps) [] h = absurd h
passed-take (suc k) ws c (p ∷ ps) (n ∷ ns) h = (h.0, passed-take k ws c ps ns h.1)

given-numbers : (ws : List ℕ) (c : Cells) (ps : List Passed) (ns : List ℕ) → PassedAll ws c ps ns → numbers_given c (given_of ps) ≡ ns
given-numbers ws c [] [] h = refl
given-numbers ws c [] (n ∷ ns) h = absurd h
given-numbers ws c (p ∷ ps) [] h = absurd h
given-numbers ws c (found.constant k ∷ ps) (n ∷ ns) h = ap (λ v. k ∷ v) (given-numbers ws c ps ns h.1) ∙ ap (λ v. v ∷ ns) (sym h.0)
given-numbers ws c (computed x ∷ ps) (n ∷ ns) h = ap (λ v. word_value c x ∷ v) (given-numbers ws c ps ns h.1) ∙ ap (λ v. v ∷ ns) (sym h.0.0)
given-numbers ws c (found.bits r l w ∷ ps) (n ∷ ns) h = ap (λ v. bits_read c r (low_value c l) w ∷ v) (given-numbers ws c ps ns h.1) ∙ ap (λ v. v ∷ ns) (sym h.0.0)

given-formed : (ws : List ℕ) (c : Cells) (ps : List Passed) (ns : List ℕ) → PassedAll ws c ps ns → GivenFormed (given_of ps)
given-formed ws c [] [] h = tt
given-formed ws c [] (n ∷ ns) h = absurd h
given-formed ws c (p ∷ ps) [] h = absurd h
given-formed ws c (found.constant k ∷ ps) (n ∷ ns) h = given-formed ws c ps ns h.1
given-formed ws c (computed x ∷ ps) (n ∷ ns) h = (h.0.1, h.0.2, given-formed ws c ps ns h.1)
given-formed ws c (found.bits r l w ∷ ps) (n ∷ ns) h = (h.0.1, given-formed ws c ps ns h.1)

some_number : {a b : ℕ} → Some a ≡ Some b → a ≡ b
some_number e = cc

-- a register that is given a constant has its number
constant-register : (vs ws : List ℕ) (c : Cells) (ps : List Passed) (ns : List ℕ) (r n : ℕ) → PassedAll ws c ps ns
    → get_or (constants_of vs ps) r None ≡ Some n → num (get_or (entered vs ns) r []) ≡ n
constant-register [] ws c ps ns r n h e = absurd (cc)
constant-register (v ∷ vs) ws c [] [] zero n h e = absurd (cc)
constant-register (v ∷ vs) ws c [] [] (suc r) n h e = constant-register vs ws c [] [] r n tt e
constant-register (v ∷ vs) ws c [] (m ∷ ns) r n h e = absurd h
constant-register (v ∷ vs) ws c (p ∷ ps) [] r n h e = absurd h
constant-register (v ∷ vs) ws c (found.constant k ∷ ps) (m ∷ ns) zero n h e =
    let q : k % 2 ^ v ≡ n = some_number e in num-bits v m ∙ ap (λ j. j % 2 ^ v) h.0 ∙ q
constant-register (v ∷ vs) ws c (computed x ∷ ps) (m ∷ ns) zero n h e = absurd (cc)
constant-register (v ∷ vs) ws c (found.bits q l w ∷ ps) (m ∷ ns) zero n h e = absurd (cc)
constant-register (v ∷ vs) ws c (p ∷ ps) (m ∷ ns) (suc r) n h e = constant-register vs ws c ps ns r n h.1 e

-- registers past those that are given are not constant
past-given : (k : ℕ) (vs : List ℕ) (ps : List Passed) (r : ℕ) → k ≤ r → get_or (constants_of vs (take k ps)) r None ≡ None
past-given k [] ps r h = refl
past-given zero (v ∷ vs) [] zero h = refl
past-given zero (v ∷ vs) [] (suc r) h = past-given zero vs [] r (omega arith)
past-given zero (v ∷ vs) (p ∷ ps) zero h = refl
past-given zero (v ∷ vs) (p ∷ ps) (suc r) h = past-given zero vs [] r (omega arith)
past-given (suc k) (v ∷ vs) [] zero h = refl
past-given (suc k) (v ∷ vs) [] (suc r) h = past-given zero vs [] r (omega arith)
past-given (suc k) (v ∷ vs) (p ∷ ps) zero h = absurd (omega arith)
past-given (suc k) (v ∷ vs) (p ∷ ps) (suc r) h = past-given k vs ps r (omega arith)

-- ---- statements of a body

target-spares : (k : ℕ) (cs : List (Option ℕ)) (t : Target) → ((r : ℕ) → k ≤ r → get_or cs r None ≡ None) → WritesPast k t → TargetSpares cs t
target-spares k cs (resolved.bits r h l) past p = past r p
target-spares k cs (lane r size i) past p = past r p
target-spares k cs (whole r width) past p = past r p
target-spares k cs (number i) past p = tt

code-spares : (c : Code) (k : ℕ) (cs : List (Option ℕ)) → ((r : ℕ) → k ≤ r → get_or cs r None ≡ None) → IsProperCode k c → Spares cs c
code-spares stop k cs past h = tt
code-spares (assign p t e rest) k cs past h = (target-spares k cs t past h.0, code-spares rest k cs past h.1)
code-spares (skip p rest) k cs past h = code-spares rest k cs past h
code-spares (repeat p a b body rest) k cs past h = (code-spares body k cs past h.0, code-spares rest k cs past h.1)
code-spares (choose ways rest) k cs past h = (code-spares ways k cs past h.0, code-spares rest k cs past h.1)
code-spares (way c body ways) k cs past h = (code-spares body k cs past h.0, code-spares ways k cs past h.1)
code-spares (last body) k cs past h = code-spares body k cs past h
code-spares (pick e arms rest) k cs past h = (code-spares arms k cs past h.0, code-spares rest k cs past h.1)
code-spares (arm n body arms) k cs past h = (h.0, code-spares body k cs past h.1, code-spares arms k cs past h.2)

-- ---- what a call gives

within-block : (ws vs : List ℕ) (c : Cells) (f : Frame) (i : Span) (x : Word) (z : ℤ) → FrameFormed f → IsWithin vs (behind c f) i x z
    → IsWithin ws c i (block f x) z
within-block ws vs c f i x z h p = record { inside = p.inside; ends = p.ends; stands = block-stands ws vs c f x z h p.stands }

abbrev pub found_ok : Found → Result Found RangeFault
found_ok f = Ok f

same_found : {a b : Found} → found_ok a ≡ found_ok b → a ≡ b
same_found e = cc

handed-on : (ws vs : List ℕ) (c : Cells) (f g : Frame) (r : ℕ) (l : Low) (w : ℕ) (z : ℤ) (i : Option Span) → slice_span false w ≡ i → FrameFormed f
    → IsHanded vs (behind c f) g r l w z
    → Made ws c (option_map_or (λ j. within j (block f (handed_word g r l w))) i (wide (block f (handed_word g r l w)))) z
handed-on ws vs c f g r l w z (Some i) e h p = (within-block ws vs c f i _ z h (handed-within vs (behind c f) g r l w z i p e), refl)
handed-on ws vs c f g r l w z None e h p = (block-stands ws vs c f _ z h (handed-stands vs (behind c f) g r l w z p), refl)

answered-made : (ws vs : List ℕ) (c : Cells) (s : Spot) (f : Frame) (g a : Found) (z : ℤ) (b : Option Bits) → FrameFormed f
    → AllBits (behind c f).registers → Covers vs (behind c f) g z b → found.answered s f g ≡ Ok a → Made ws c a (meant.answered b z)
answered-made ws vs c s f (known y (Some w)) a z b h cs k e = subst (λ v. Made ws c v (meant.answered b z)) (same_found e) (rw k.bits refl, refl)
answered-made ws vs c s f (known y None) a z b h cs k e = subst (λ v. Made ws c v (meant.answered b z)) (same_found e) (rw k.1 k.0, refl)
answered-made ws vs c s f (found.read g r l w) a z b h cs k e =
    subst (λ v. Made ws c v (meant.answered b z)) (same_found e)
    (record { frame = h; left = cs; slice = k.slice; value = rw k.bits refl }, refl)
answered-made ws vs c s f (handed g r l w) a z b h cs k e =
    subst (λ v. Made ws c v (meant.answered b z)) (same_found e) (rw k.1 (handed-on ws vs c f g r l w z (slice_span false w) refl h k.0))
answered-made ws vs c s f (bit x) a z b h cs k e =
    subst (λ v. Made ws c v (meant.answered b z)) (same_found e)
    (rw (k.1, k.0.1) (within-block ws vs c f (unsigned_span 1) (extended false 1 x) _ h (truth-within vs (behind c f) x k.0.0 k.0.2), refl))
answered-made ws vs c s f (within i x) a z b h cs k e =
    subst (λ v. Made ws c v (meant.answered b z)) (same_found e) (rw k.1 (within-block ws vs c f i x z h k.0, refl))
answered-made ws vs c s f (wide x) a z b h cs k e =
    subst (λ v. Made ws c v (meant.answered b z)) (same_found e) (rw k.1 (block-stands ws vs c f x z h k.0, refl))
answered-made ws vs c s f (loose x) a z b h cs k e = absurd (cc)

abbrev Agrees : List Walk → Functions → Type 0
Agrees walks fs = (k : ℕ) → CallAgrees (get_or walks k no_walk) (get_or fs k (λ ns. pos 0))

-- where a body begins, whose registers are declared with these widths and have these constants
begins : (walks : List Walk) (fs : Functions) (ws : List ℕ) (b : Body) (cs : List (Option ℕ)) (given : List ℕ) (n : Count) → Agrees walks fs
    → AllSmall ws → KeepsEnough ws b
    → ((r m : ℕ) → get_or cs r None ≡ Some m → num (get_or (entered b.widths (take b.parameters given)) r []) ≡ m)
    → Together (context_of true walks ws cs) fs (cells (begun b given)) (walking.begun b n) (begun b given)
begins walks fs ws b cs given n agree small enough same = record {
  knows = record {
    cells = begun-cells ws b given enough;
    small = small;
    numbers = zeros-keep b.numbers;
    constants = same;
    turns = refl;
    calls = agree;
  };
  same = refl;
  formed = tt;
}

frame-begins : (b : Body) (ns : List ℕ) → cells_at (cell.entered b.widths (take b.parameters ns)) (replicate b.numbers 0) ≡ cells (begun b ns)
frame-begins b ns = ap (λ v. cells_at v (replicate b.numbers 0)) (same-entered b.widths (take b.parameters ns)) ∙ ap (cells_at (entered b.widths (take b.parameters ns))) (sym (zero_residues b.numbers))

called-agrees : (walks : List Walk) (fs : Functions) (f : Function) → Agrees walks fs → IsProperBody f.body → CallAgrees (walking.called true walks f) (called fs f)
called-agrees walks fs f agree proper ws c cs at ps ns h n m a e =
    let b = f.body in
    let qs = take b.parameters ps in
    let ms = take b.parameters ns in
    let vs = kept_widths b.widths in
    let x = context_of true walks b.widths (constants_of vs qs) in
    let w = bind_ok (walk x b.code (walking.begun b n)) _ e in
    let g = bind_ok (judged x w.0 f.answer) _ w.2 in
    let r = bind_ok (found.answered (spot_of f.answer) (frame vs b.numbers (given_of qs) w.0.script) g.0.0) _ g.2 in
    let passed = passed-take b.parameters ws c ps ns h in
    let start = begins walks fs b.widths (kept b) (constants_of vs qs) ns n agree proper.small (keeps-kept b) (λ r k p. constant-register vs ws c qs ms r k passed p) in
    let spares = code-spares b.code b.parameters (constants_of vs qs) (λ r p. past-given b.parameters vs ps r p) proper.code in
    let ended' = walk-sound b.code x fs refl spares (cells (begun (kept b) ns)) (walking.begun b n) w.0 (begun (kept b) ns) start w.1 in
    let covers = judge-covers f.answer x.sight w.0.numbers (seen fs [] (ended fs (kept b) ns)) w.0.count g.0.1 g.0.0 ended'.knows g.1 in
    let fr = frame vs b.numbers (given_of qs) w.0.script in
    let left : behind c fr ≡ cells (ended fs (kept b) ns) =
    ap (λ v. after w.0.script (cells_at (cell.entered vs v) (replicate b.numbers 0))) (given-numbers ws c qs ms passed)
    ∙ ap (after w.0.script) (frame-begins (kept b) ns) ∙ ended'.same in
    let formed : FrameFormed fr = (given-formed ws c qs ms passed, ended'.formed) in
    subst (λ v. Made ws c v (called fs f ns)) (ap (λ q. q.0) (same_pair r.2))
    (answered-made ws b.widths c (spot_of f.answer) fr g.0.0 r.0 (value (seen fs [] (ended fs (kept b) ns)) f.answer) (bits_in (seen fs [] (ended fs (kept b) ns)) f.answer) formed
    (subst (λ v. AllBits v.registers) (sym left) ended'.knows.cells.bits)
    (subst (λ v. Covers b.widths v g.0.0 (value (seen fs [] (ended fs (kept b) ns)) f.answer) (bits_in (seen fs [] (ended fs (kept b) ns)) f.answer)) (sym left) covers) r.1)

-- ---- the DEFINEs one after the other

no_walk-agrees : CallAgrees no_walk (λ ns. pos 0)
no_walk-agrees ws c cs at ps ns h n m a e = subst (λ v. Made ws c v (pos 0)) (ap (λ q. q.0) (same_pair e)) (refl, refl)

agrees-append : (walks : List Walk) (fs : Functions) (w : Walk) (f : List ℕ → ℤ) → length walks ≡ length fs → Agrees walks fs → CallAgrees w f
    → Agrees (walks ++ w ∷ []) (fs ++ f ∷ [])
agrees-append [] [] w f l h p zero = p
agrees-append [] [] w f l h p (suc k) = no_walk-agrees
agrees-append [] (g ∷ fs) w f l h p k = absurd (omega (arith, l))
agrees-append (v ∷ walks) [] w f l h p k = absurd (omega (arith, l))
agrees-append (v ∷ walks) (g ∷ fs) w f l h p zero = h 0
agrees-append (v ∷ walks) (g ∷ fs) w f l h p (suc k) = agrees-append walks fs w f (omega (arith, l)) (λ j. h (suc j)) p k

all-agree : (ds : List Function) (walks : List Walk) (fs : Functions) → length walks ≡ length fs → Agrees walks fs → AreProper ds
    → Agrees (walks_from true walks ds) (functions_from fs ds)
all-agree [] walks fs l h proper = h
all-agree (d ∷ ds) walks fs l h proper =
    all-agree ds (walks ++ walking.called true walks d ∷ []) (fs ++ called fs d ∷ [])
    (simp (length-append) (omega (arith, l)))
    (agrees-append walks fs (walking.called true walks d) (called fs d) l h (called-agrees walks fs d h proper.0)) proper.1

none-agree : Agrees [] []
none-agree k = no_walk-agrees

-- ---- an instance

at_most : (vs ws : List ℕ) → ((r : ℕ) → get_or vs r 0 ≤ get_or ws r 0) → (r n : ℕ) → n ≤ get_or vs r 0 → n ≤ get_or ws r 0
at_most vs ws wider r n h = omega (arith, wider r, h)

-- what is formed over registers is formed over wider ones
wider-formed : (vs ws : List ℕ) → ((r : ℕ) → get_or vs r 0 ≤ get_or ws r 0) → (s : Script) → ScriptFormed vs s → ScriptFormed ws s
wider-formed vs ws wider script.stop h = tt
wider-formed vs ws wider (script.put r l w x) h = (h.0, at_most vs ws wider r (l + w) h.1, h.2, h.3)
wider-formed vs ws wider (script.fill r l w z) h = (h.0, at_most vs ws wider r (l + w) h.1)
wider-formed vs ws wider (script.copy r l w q m) h = (h.0, at_most vs ws wider r (l + w) h.1, h.2)
wider-formed vs ws wider (script.copy_from r l w f q m) h = (h.0, at_most vs ws wider r (l + w) h.1, h.2, h.3)
wider-formed vs ws wider (script.give k x) h = h
wider-formed vs ws wider (script.both s t) h = (wider-formed vs ws wider s h.0, wider-formed vs ws wider t h.1)
wider-formed vs ws wider (script.branch ways) h = wider-formed vs ws wider ways h
wider-formed vs ws wider (script.way x s ways) h = (h.0, h.1, wider-formed vs ws wider s h.2, wider-formed vs ws wider ways h.3)
wider-formed vs ws wider (script.last s) h = wider-formed vs ws wider s h
wider-formed vs ws wider (script.pick x arms) h = (h.0, h.1, wider-formed vs ws wider arms h.2)
wider-formed vs ws wider (script.arm n s arms) h = (wider-formed vs ws wider s h.0, wider-formed vs ws wider arms h.1)

past-imm : (k : ℕ) (imm : Option ℕ) (ws : List ℕ) (r : ℕ) → k ≤ r → get_or (imm_constant k imm ws) r None ≡ None
past-imm k imm [] r h = refl
past-imm zero imm (w ∷ ws) zero h = refl
past-imm zero imm (w ∷ ws) (suc r) h = past-imm zero imm ws r (omega arith)
past-imm (suc zero) imm (w ∷ ws) zero h = absurd (omega arith)
past-imm (suc zero) imm (w ∷ ws) (suc r) h = past-imm zero None ws r (omega arith)
past-imm (suc (suc k)) imm (w ∷ ws) zero h = absurd (omega arith)
past-imm (suc (suc k)) imm (w ∷ ws) (suc r) h = past-imm (suc k) imm ws r (omega arith)

pub instances-mean : InstancesMean
unfolding meaning
instances-mean r proper imm w e given has =
    let b = r.body in
    let fs = functions_from [] r.functions in
    let walks = walks_from true [] r.functions in
    let cs = imm_constant r.result imm b.widths in
    let agree = all-agree r.functions [] [] refl none-agree proper.functions in
    let same = λ (k n : ℕ) (p : get_or cs k None ≡ Some n). ap (λ v. num (get_or v k [])) (sym (same-entered b.widths (take b.parameters given))) ∙ has k n p in
    let start = begins walks fs b.widths b cs given (record { steps = 0; is_dynamic = false }) agree proper.body.small (keeps-all b) same in
    let spares = code-spares b.code b.parameters cs (λ q p. past-imm r.result imm b.widths q (subst (λ v. v ≤ q) proper.result p)) proper.body.code in
    let left = walk-sound b.code (context_of true walks b.widths cs) fs refl spares (cells (begun b given)) (walking.begun b (record { steps = 0; is_dynamic = false })) w (begun b given) start e in
    record {
      formed = wider-formed (kept_widths b.widths) b.widths (λ r. omega (arith, kept-at b.widths r)) w.script left.formed;
      leaves = ap (λ v. get_or (after w.script v).registers r.result []) (frame-begins b given) ∙ ap (λ v. get_or v.registers r.result []) left.same;
    }
