-- Registers and variables as a body begins.
use Rattle.std.proofs.Common.{◌≡◌, ℕ, zero, suc, add-one, append_assoc, append-nil, ◌++◌, ◌+◌, ◌-◌, ◌<◌, ◌≤◌, refl, sym, ap, ◌∙◌, subst, arith, List, [], ◌∷◌, length, get_or, take, drop, min, replicate}
use Rattle.std.specs.Prelude.{map}
use Rattle.std.proofs.lemmas.List.{map-append, replicate-append-replicate, take-replicate, take_min}
use Rattle.vg_terms.specs.Term.{constant}
use Rattle.vg_pool.specs.declared.content.Content.{Content}
use Rattle.vg_pool.specs.Pool.{Keeps, StandsFor, tree_at}
use Rattle.vg_lift.specs.Gather.{clear, inputs_from, input}
use Rattle.vg_lift.specs.LaneTerm as lane
use Rattle.vg_lift.specs.LaneTerm.{entered, bits_passed, begun}
use Rattle.vg_lift.specs.declared.bit.Bit.{Bit}
use Rattle.vg_lift.specs.declared.bit.Bit.TheVariants.{Clear, Input}
use Rattle.vg_lift.specs.declared.passed.Passed.{Passed}
use Rattle.vg_lift.specs.declared.passed.Passed.TheVariants.{Bits, Number, Parameter}
use Rattle.vg_lift.specs.Passed.{AllPassedFit, PassedFits, all_passed, passed_of, first_bits}
use Rattle.vg_lift.specs.declared.state.State.{State}
use Rattle.vg_lift.specs.States.{AllFit, AreNodes, Begins}
use Rattle.vg_lift.specs.Views.{BitsFit, IsNode, bits_of}
use Rattle.vg_lift.proofs.Nodes.{append_of, append_fit, bits_kept, bits_fit, length_bits_of}
use Rattle.vg_lift.proofs.JoinSteps.{drop_first, drop_end}
use Rattle.vg_lift.proofs.StateSteps.{all_kept, registers_kept, state_at, take_of, take_fits}
use Rattle.vg_lift.proofs.Entering.{passed-long, length-clears}

-- ---- zeros

pub clears_of : (pool : List Content) (n : ℕ) → bits_of pool (replicate n Clear) ≡ replicate n clear
clears_of pool zero = refl
clears_of pool (suc n) = ap (λ l. clear ∷ l) (clears_of pool n)

pub clears_fit : (pool : List Content) (n : ℕ) → BitsFit pool (replicate n Clear)
clears_fit pool zero = tt
clears_fit pool (suc n) = (tt, clears_fit pool n)

pub cleared_fit : (pool : List Content) (n : ℕ) (bs : List Bit) → bs ≡ replicate n Clear → BitsFit pool bs
cleared_fit pool n bs e = subst (BitsFit pool) (sym e) (clears_fit pool n)

-- so many zero bits more
pub clears_next : (k m : ℕ) (old all new : List Bit) → all ≡ old ++ replicate k Clear
    → new ≡ all ++ replicate m Clear → new ≡ old ++ replicate (k + m) Clear
clears_next k m old all new e f =
    f ∙ ap (λ l. l ++ replicate m Clear) e ∙ append_assoc old (replicate k Clear) (replicate m Clear)
    ∙ ap (λ l. old ++ l) (replicate-append-replicate k m Clear)

-- the last zero bits are appended
pub clears_end : (k m count : ℕ) (old all new : List Bit) → m ≤ 64 → k + m ≡ count → all ≡ old ++ replicate k Clear
    → new ≡ all ++ take m (replicate 64 Clear) → new ≡ old ++ replicate count Clear
clears_end k m count old all new h w e f =
    clears_next k m old all new e (f ∙ ap (λ l. all ++ l) (take-replicate m 64 Clear h))
    ∙ ap (λ n. old ++ replicate n Clear) w

-- bits cut to a width, and zeros above them
pub padded_is : (width : ℕ) (bits : List Bit)
    → take (min width (length bits)) bits ++ replicate (width - min width (length bits)) Clear
    ≡ take width bits ++ replicate (width - length bits) Clear
padded_is width bits =
    let left : width - min width (length bits) ≡ width - length bits = omega arith in
    ap (λ l. l ++ replicate (width - min width (length bits)) Clear) (take_min width bits)
    ∙ ap (λ n. take width bits ++ replicate n Clear) left

pub zeros_are : (pool : List Content) (n count : ℕ) → StandsFor pool n (constant 128 0) → map (tree_at pool) (replicate count n) ≡ replicate count (constant 128 0)
zeros_are pool n zero s = refl
zeros_are pool n (suc k) s = ap (λ t. t ∷ map (tree_at pool) (replicate k n)) s.is ∙ ap (λ l. constant 128 0 ∷ l) (zeros_are pool n k s)

pub zeros_nodes : (pool : List Content) (n count : ℕ) → IsNode pool n 128 → AreNodes pool (replicate count n)
zeros_nodes pool n zero h = tt
zeros_nodes pool n (suc k) h = (h, zeros_nodes pool n k h)

-- ---- bits of a parameter

pub next_input : (pool : List Content) (p bit width : ℕ) (all : List Bit) → bit < width
    → bits_of pool (all ++ Input p bit ∷ []) ++ inputs_from p (bit + 1) (width - (bit + 1)) ≡ bits_of pool all ++ inputs_from p bit (width - bit)
next_input pool p bit width all h =
    let n : width - bit ≡ suc (width - (bit + 1)) = omega arith in
    ap (λ l. l ++ inputs_from p (bit + 1) (width - (bit + 1))) (append_of pool all (Input p bit ∷ []))
    ∙ append_assoc (bits_of pool all) (input p bit ∷ []) (inputs_from p (bit + 1) (width - (bit + 1)))
    ∙ ap (λ k. bits_of pool all ++ (input p bit ∷ inputs_from p k (width - (bit + 1)))) (add-one bit)
    ∙ ap (λ k. bits_of pool all ++ inputs_from p bit k) (sym n)

pub no_input : (pool : List Content) (p bit width : ℕ) (all : List Bit) → width ≤ bit → bits_of pool all ++ inputs_from p bit (width - bit) ≡ bits_of pool all
no_input pool p bit width all h =
    let n : width - bit ≡ 0 = omega arith in
    ap (λ k. bits_of pool all ++ inputs_from p bit k) n ∙ append-nil (bits_of pool all)

pub input_fits : (pool : List Content) (p bit : ℕ) (all : List Bit) → BitsFit pool all → BitsFit pool (all ++ Input p bit ∷ [])
input_fits pool p bit all h = append_fit pool all (Input p bit ∷ []) h (tt, tt)

-- ---- one register

pub padded_of : (pool : List Content) (width : ℕ) (bs : List Bit) → bits_of pool (take width bs ++ replicate (width - length bs) Clear) ≡ bits_passed width (lane.of_bits (bits_of pool bs))
padded_of pool width bs =
    append_of pool (take width bs) (replicate (width - length bs) Clear)
    ∙ ap (λ l. l ++ bits_of pool (replicate (width - length bs) Clear)) (take_of pool width bs)
    ∙ ap (λ l. take width (bits_of pool bs) ++ l) (clears_of pool (width - length bs) ∙ ap (λ n. replicate (width - n) clear) (sym (length_bits_of pool bs)))

pub padded_fits : (pool : List Content) (width : ℕ) (bs : List Bit) → BitsFit pool bs → BitsFit pool (take width bs ++ replicate (width - length bs) Clear)
padded_fits pool width bs h = append_fit pool (take width bs) (replicate (width - length bs) Clear) (take_fits pool width bs h) (clears_fit pool (width - length bs))

-- ---- what is given, over a pool that has grown

pub passed_kept : (old new : List Content) (p : Passed) → Keeps old new → PassedFits old p → passed_of new p ≡ passed_of old p
passed_kept old new (Bits bs) k h = ap lane.of_bits (bits_kept old new bs k h)
passed_kept old new (Number n) k h = refl
passed_kept old new (Parameter p) k h = refl

pub passed_fits : (old new : List Content) (p : Passed) → Keeps old new → PassedFits old p → PassedFits new p
passed_fits old new (Bits bs) k h = bits_fit old new bs k h
passed_fits old new (Number n) k h = tt
passed_fits old new (Parameter p) k h = tt

pub all_passed_kept : (old new : List Content) (ps : List Passed) → Keeps old new → AllPassedFit old ps → all_passed new ps ≡ all_passed old ps
all_passed_kept old new [] k h = refl
all_passed_kept old new (p ∷ ps) k h = ap (λ q. q ∷ all_passed new ps) (passed_kept old new p k h.0) ∙ ap (λ l. passed_of old p ∷ l) (all_passed_kept old new ps k h.1)

pub all_passed_fit : (old new : List Content) (ps : List Passed) → Keeps old new → AllPassedFit old ps → AllPassedFit new ps
all_passed_fit old new [] k h = tt
all_passed_fit old new (p ∷ ps) k h = (passed_fits old new p k h.0, all_passed_fit old new ps k h.1)

pub passed_append : (pool : List Content) (ps qs : List Passed) → all_passed pool (ps ++ qs) ≡ all_passed pool ps ++ all_passed pool qs
passed_append pool [] qs = refl
passed_append pool (p ∷ ps) qs = ap (λ l. passed_of pool p ∷ l) (passed_append pool ps qs)

pub passed_behind : (pool : List Content) (ps : List Passed) (p : Passed) → AllPassedFit pool ps → PassedFits pool p → AllPassedFit pool (ps ++ p ∷ [])
passed_behind pool [] p h f = (f, tt)
passed_behind pool (q ∷ ps) p h f = (h.0, passed_behind pool ps p h.1 f)

pub passed_at : (pool : List Content) (ps : List Passed) (i : ℕ) (d : Passed) → i < length ps → AllPassedFit pool ps → PassedFits pool (get_or ps i d)
passed_at pool [] i d h f = absurd (omega arith)
passed_at pool (p ∷ ps) zero d h f = f.0
passed_at pool (p ∷ ps) (suc i) d h f = passed_at pool ps i d (omega arith) f.1

-- the register at a place, where something is given to it
pub first_given : (pool : List Content) (ps : List Passed) (i width : ℕ) (d : Passed) → i < length ps
    → bits_passed width (passed_of pool (get_or ps i d)) ≡ first_bits width (drop i (all_passed pool ps))
first_given pool [] i width d h = absurd (omega arith)
first_given pool (p ∷ ps) zero width d h = refl
first_given pool (p ∷ ps) (suc i) width d h = first_given pool ps i width d (omega arith)

-- the register at a place, where nothing is
pub first_cleared : (pool : List Content) (ps : List Passed) (i width : ℕ) → length ps ≤ i → replicate width clear ≡ first_bits width (drop i (all_passed pool ps))
first_cleared pool [] zero width h = refl
first_cleared pool [] (suc i) width h = refl
first_cleared pool (p ∷ ps) zero width h = absurd (omega arith)
first_cleared pool (p ∷ ps) (suc i) width h = first_cleared pool ps i width (omega arith)

-- ---- all registers

entered_first : (w : ℕ) (ws : List ℕ) (gs : List lane.Passed) → entered (w ∷ ws) gs ≡ first_bits w gs ∷ entered ws (drop 1 gs)
entered_first w ws [] = refl
entered_first w ws (g ∷ gs) = refl

drop_more : {A : Type 0} (i : ℕ) (l : List A) → drop 1 (drop i l) ≡ drop (i + 1) l
drop_more zero l = refl
drop_more (suc i) [] = let e : suc (i + 1) ≡ suc i + 1 = omega arith in ap (λ n. drop n []) e
drop_more (suc i) (x ∷ l) = drop_more i l ∙ (let e : suc (i + 1) ≡ suc i + 1 = omega arith in ap (λ n. drop n (x ∷ l)) e)

pub entered_step : (old now new : List Content) (i : ℕ) (bits : List Bit) (ws : List ℕ) (gs : List lane.Passed) (done : List (List Bit)) → i < length ws → Keeps now new → AllFit now done
    → bits_of new bits ≡ first_bits (get_or ws i 0) (drop i gs)
    → map (bits_of new) (done ++ bits ∷ []) ++ entered (drop (i + 1) ws) (drop (i + 1) gs) ≡ map (bits_of now) done ++ entered (drop i ws) (drop i gs)
entered_step old now new i bits ws gs done h k f e =
    let w = get_or ws i 0 in
    let rest = entered (drop (i + 1) ws) (drop (i + 1) gs) in
    ap (λ l. l ++ rest) (map-append (bits_of new) done (bits ∷ []))
    ∙ append_assoc (map (bits_of new) done) (bits_of new bits ∷ []) rest
    ∙ ap (λ l. l ++ (bits_of new bits ∷ rest)) (all_kept now new done k f)
    ∙ ap (λ b. map (bits_of now) done ++ (b ∷ rest)) e
    ∙ ap (λ l. map (bits_of now) done ++ (first_bits w (drop i gs) ∷ entered (drop (i + 1) ws) l)) (sym (drop_more i gs))
    ∙ ap (λ l. map (bits_of now) done ++ l) (sym (entered_first w (drop (i + 1) ws) (drop i gs)))
    ∙ ap (λ l. map (bits_of now) done ++ entered l (drop i gs)) (sym (drop_first 0 i ws h))

pub entered_end : (now : List Content) (i : ℕ) (ws : List ℕ) (gs : List lane.Passed) (done : List (List Bit)) → length ws ≤ i
    → map (bits_of now) done ++ entered (drop i ws) (drop i gs) ≡ map (bits_of now) done
entered_end now i ws gs done h =
    ap (λ l. map (bits_of now) done ++ entered l (drop i gs)) (drop_end i ws h) ∙ append-nil (map (bits_of now) done)

-- the registers have their widths
entered_widths : (ws : List ℕ) (gs : List lane.Passed) → map length (entered ws gs) ≡ ws
entered_widths [] gs = refl
entered_widths (w ∷ ws) [] = ap (λ n. n ∷ map length (entered ws [])) (length-clears w clear) ∙ ap (λ l. w ∷ l) (entered_widths ws [])
entered_widths (w ∷ ws) (g ∷ gs) = ap (λ n. n ∷ map length (entered ws gs)) (passed-long w g) ∙ ap (λ l. w ∷ l) (entered_widths ws gs)

lengths_of : (pool : List Content) (rs : List (List Bit)) → map length (map (bits_of pool) rs) ≡ map length rs
lengths_of pool [] = refl
lengths_of pool (r ∷ rs) = ap (λ n. n ∷ map length (map (bits_of pool) rs)) (length_bits_of pool r) ∙ ap (λ l. length r ∷ l) (lengths_of pool rs)

pub begun_widths : (pool : List Content) (rs : List (List Bit)) (ws : List ℕ) (gs : List lane.Passed) → map (bits_of pool) rs ≡ entered ws gs → map length rs ≡ ws
begun_widths pool rs ws gs e = sym (lengths_of pool rs) ∙ ap (map length) e ∙ entered_widths ws gs

pub begun_state : (old new : List Content) (s : State) (ws : List ℕ) (count : ℕ) (gs : List lane.Passed) → Keeps old new → map (bits_of old) s.registers.items ≡ entered ws gs → AllFit old s.registers.items
    → map (tree_at new) s.variables.items ≡ replicate count (constant 128 0) → AreNodes new s.variables.items → Begins new ws s (begun ws count gs)
begun_state old new s ws count gs k e f v n =
    let rs = s.registers.items in
    record {
      is = state_at _ _ _ _ (all_kept old new rs k f ∙ e) v;
      fits = record { registers = registers_kept old new rs k f; variables = n };
      widths_are = begun_widths old rs ws gs e;
    }
