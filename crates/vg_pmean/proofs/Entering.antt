-- Registers as a body begins, and the widths of registers after each step.
use Rattle.std.proofs.Common.{◌≡◌, ℕ, zero, suc, ◌+◌, ◌≤◌, ◌<◌, List, [], ◌∷◌, ◌++◌, length, get_or, set, refl, ap, ◌∙◌, arith, length-append}
use Rattle.std.specs.Prelude.{map}
use Rattle.vg_base.specs.Bits.{bits}
use Rattle.vg_base.proofs.Bits.{length-bits}
use Rattle.vg_script.specs.Cells.{Cells, entered, written}
use Rattle.vg_terms.specs.Term.{IsWidth}
use Rattle.vg_script.specs.Script.{Word, constant, slice, variable, one, two, sel, absolute, shift_left, shift_right, block, width_of}
use Rattle.vg_script.specs.Formed.{Formed}
use Rattle.vg_bits.specs.Range.{replaced}
use Rattle.vg_bits.proofs.Ranges.{length-replaced, replaced_all}
use Rattle.std.proofs.Common.{take}
use Rattle.vg_base.specs.Bits.{num, bits_of_bytes}
use Rattle.vg_bits.specs.declared.register.Reg.{Reg}
use Rattle.vg_script.specs.Views.{Whole}
use Rattle.vg_pmean.specs.Applied.{IsReady}
use Rattle.vg_pmean.specs.Held.{Alike, Held, widths_in, entered_at, filled}
use Rattle.vg_pmean.specs.declared.frame_room.FrameRoom.{FrameRoom}
use Rattle.vg_pmean.specs.FrameRoom.{Suffices, around, either, no_room}

pub length_at : (rs : List (List ℕ)) (r : ℕ) → get_or (map (λ x. length x) rs) r 0 ≡ length (get_or rs r [])
length_at [] r = refl
length_at (x ∷ rs) zero = refl
length_at (x ∷ rs) (suc r) = length_at rs r

same_lengths : (rs : List (List ℕ)) (r : ℕ) (new : List ℕ) → length new ≡ length (get_or rs r []) → map (λ x. length x) (set rs r new) ≡ map (λ x. length x) rs
same_lengths [] r new same = refl
same_lengths (x ∷ rs) zero new same = λ i. same i ∷ map (λ x. length x) rs
same_lengths (x ∷ rs) (suc r) new same = ap (λ l. length x ∷ l) (same_lengths rs r new same)

-- a write inside a register keeps the widths
pub written_widths : (c : Cells) (r low : ℕ) (new : List ℕ) → low + length new ≤ get_or (widths_in c) r 0 → widths_in (written r low new c) ≡ widths_in c
written_widths c r low new inside =
    same_lengths c.registers r (replaced low new (get_or c.registers r []))
    (length-replaced low new (get_or c.registers r []) (omega (arith, inside, length_at c.registers r)))

pub entered_at_widths : (c : Cells) (r n : ℕ) → widths_in (entered_at r n c) ≡ widths_in c
entered_at_widths c r n = same_lengths c.registers r (bits (length (get_or c.registers r [])) n) (length-bits (length (get_or c.registers r [])) n)

-- what is written over a whole register
pub whole_written : (c : Cells) (r w n m : ℕ) → w ≡ get_or (widths_in c) r 0 → bits w m ≡ bits w n → written r 0 (bits w m) c ≡ entered_at r n c
whole_written c r w n m is same =
    let all : w ≡ length (get_or c.registers r []) = is ∙ length_at c.registers r in
    let new : replaced 0 (bits w m) (get_or c.registers r []) ≡ bits (length (get_or c.registers r [])) n =
    replaced_all (bits w m) (get_or c.registers r []) (length-bits w m ∙ all) ∙ same ∙ ap (λ (k : ℕ). bits k n) all in
    ap (λ l. record { registers = set c.registers r l; variables = c.variables }) new

pub filled_widths : (ns : List ℕ) (r : ℕ) (c : Cells) → widths_in (filled r ns c) ≡ widths_in c
filled_widths [] r c = refl
filled_widths (n ∷ ns) r c = filled_widths ns (r + 1) (entered_at r n c) ∙ entered_at_widths c r n

past : (rs : List (List ℕ)) (r : ℕ) (new : List ℕ) → length rs ≤ r → set rs r new ≡ rs
past [] r new over = refl
past (x ∷ rs) zero new over = absurd (omega arith)
past (x ∷ rs) (suc r) new over = ap (λ l. x ∷ l) (past rs r new (omega arith))

-- registers that are not there
pub filled_past : (ns : List ℕ) (r : ℕ) (c : Cells) → length c.registers ≤ r → filled r ns c ≡ c
filled_past [] r c over = refl
filled_past (n ∷ ns) r c over =
    let same : entered_at r n c ≡ c = ap (λ l. record { registers = l; variables = c.variables }) (past c.registers r (bits (length (get_or c.registers r [])) n) over) in
    ap (λ d. filled (r + 1) ns d) same ∙ filled_past ns (r + 1) c (omega arith)

at_end : (xs ys : List (List ℕ)) (y : List ℕ) → get_or (xs ++ y ∷ ys) (length xs) [] ≡ y
at_end [] ys y = refl
at_end (x ∷ xs) ys y = at_end xs ys y

set_end : (xs ys : List (List ℕ)) (y z : List ℕ) → set (xs ++ y ∷ ys) (length xs) z ≡ (xs ++ z ∷ []) ++ ys
set_end [] ys y z = refl
set_end (x ∷ xs) ys y z = ap (λ l. x ∷ l) (set_end xs ys y z)

joined : (xs ys : List (List ℕ)) (y : List ℕ) → (xs ++ y ∷ []) ++ ys ≡ xs ++ y ∷ ys
joined [] ys y = refl
joined (x ∷ xs) ys y = ap (λ l. x ∷ l) (joined xs ys y)

filled_behind : (ws ns : List ℕ) (xs : List (List ℕ)) (vs : List ℕ) (r : ℕ) → r ≡ length xs
    → filled r ns (record { registers = xs ++ entered ws []; variables = vs }) ≡ record { registers = xs ++ entered ws ns; variables = vs }
filled_behind [] [] xs vs r is = refl
filled_behind (w ∷ ws) [] xs vs r is = refl
filled_behind [] (n ∷ ns) xs vs r is =
    filled_past (n ∷ ns) r (record { registers = xs ++ []; variables = vs }) (omega (arith, is, length-append xs []))
filled_behind (w ∷ ws) (n ∷ ns) xs vs r is =
    let all = xs ++ bits w 0 ∷ entered ws [] in
    let here : bits (length (get_or all r [])) n ≡ bits w n =
    ap (λ (k : ℕ). bits (length (get_or all k [])) n) is
    ∙ ap (λ l. bits (length l) n) (at_end xs (entered ws []) (bits w 0))
    ∙ ap (λ (k : ℕ). bits k n) (length-bits w 0) in
    let next : set all r (bits (length (get_or all r [])) n) ≡ (xs ++ bits w n ∷ []) ++ entered ws [] =
    (λ i. set all (is i) (here i)) ∙ set_end xs (entered ws []) (bits w 0) (bits w n) in
    let more : r + 1 ≡ length (xs ++ bits w n ∷ []) = omega (arith, is, length-append xs (bits w n ∷ [])) in
    ap (λ l. filled (r + 1) ns (record { registers = l; variables = vs })) next
    ∙ filled_behind ws ns (xs ++ bits w n ∷ []) vs (r + 1) more
    ∙ ap (λ l. record { registers = l; variables = vs }) (joined xs (entered ws ns) (bits w n))

-- a body begins with what its first registers are given
pub filled_entered : (ws ns vs : List ℕ) → filled 0 ns (record { registers = entered ws []; variables = vs }) ≡ record { registers = entered ws ns; variables = vs }
filled_entered ws ns vs = filled_behind ws ns [] vs 0 refl

pub entered_widths : (ws ns : List ℕ) → map (λ x. length x) (entered ws ns) ≡ ws
entered_widths [] ns = refl
entered_widths (w ∷ ws) [] = λ i. length-bits w 0 i ∷ entered_widths ws [] i
entered_widths (w ∷ ws) (n ∷ ns) = λ i. length-bits w n i ∷ entered_widths ws ns i

-- ---- what is formed

pub formed_width : (x : Word) → Formed x → IsWidth (width_of x)
formed_width (constant w v) f = f.0
formed_width (slice r l w) f = f.0
formed_width (variable k) f = (omega arith, omega arith)
formed_width (one op w k x) f = f.0
formed_width (two op w x y) f = f.0
formed_width (sel w c x y) f = f.0
formed_width (absolute x) f = (omega arith, omega arith)
formed_width (shift_left x n) f = (omega arith, omega arith)
formed_width (shift_right x n) f = (omega arith, omega arith)
formed_width (block g x) f = formed_width x f.1

pub entered_length : (ws ns : List ℕ) → length (entered ws ns) ≡ length ws
entered_length [] ns = refl
entered_length (w ∷ ws) [] = ap suc (entered_length ws [])
entered_length (w ∷ ws) (n ∷ ns) = ap suc (entered_length ws ns)

-- ---- room inside a call

module _ (ws : List ℕ) (n : ℕ) (g s a room : FrameRoom) (k : ℕ) (h : Suffices (around ws n (either g (either s a))) room (k + 1)) where
  pub suffices_given : Suffices g room k
  suffices_given = record { frames = omega (arith, h.frames); registers = omega (arith, h.registers); variables = omega (arith, h.variables); bits = omega (arith, h.bits) }

  pub suffices_script : Suffices s room k
  suffices_script = record { frames = omega (arith, h.frames); registers = omega (arith, h.registers); variables = omega (arith, h.variables); bits = omega (arith, h.bits) }

  pub suffices_answer : Suffices a room k
  suffices_answer = record { frames = omega (arith, h.frames); registers = omega (arith, h.registers); variables = omega (arith, h.variables); bits = omega (arith, h.bits) }

-- less is looked at when the statements are done
pub suffices_less : (ws : List ℕ) (n : ℕ) (g s a room : FrameRoom) (k : ℕ) → Suffices (around ws n (either g (either s a))) room k → Suffices (around ws n (either g (either s no_room))) room k
suffices_less ws n g s a room k h = record { frames = omega (arith, h.frames); registers = omega (arith, h.registers); variables = omega (arith, h.variables); bits = omega (arith, h.bits) }

-- ---- one more

pub filled_next : (xs : List ℕ) (k r : ℕ) (c : Cells) → k < length xs → filled r (take (k + 1) xs) c ≡ entered_at (r + k) (get_or xs k 0) (filled r (take k xs) c)
filled_next [] k r c some = absurd (omega arith)
filled_next (x ∷ xs) zero r c some = ap (λ (n : ℕ). entered_at n x c) (omega arith)
filled_next (x ∷ xs) (suc k) r c some =
    let next : suc k + 1 ≡ suc (k + 1) = omega arith in
    let place : r + 1 + k ≡ r + suc k = omega arith in
    ap (λ (n : ℕ). filled r (take n (x ∷ xs)) c) next
    ∙ filled_next xs k (r + 1) (entered_at r x c) (omega arith)
    ∙ ap (λ (n : ℕ). entered_at n (get_or xs k 0) (filled (r + 1) (take k xs) (entered_at r x c))) place

pub filled_last : (xs : List ℕ) (y r : ℕ) (c : Cells) → filled r (xs ++ y ∷ []) c ≡ entered_at (r + length xs) y (filled r xs c)
filled_last [] y r c = ap (λ (n : ℕ). entered_at n y c) (omega arith)
filled_last (x ∷ xs) y r c =
    let place : r + 1 + length xs ≡ r + suc (length xs) = omega arith in
    filled_last xs y (r + 1) (entered_at r x c) ∙ ap (λ (n : ℕ). entered_at n y (filled (r + 1) xs (entered_at r x c))) place

pub given_next : {B : ℕ} (ps : List (Reg B)) (k : ℕ) (d : Reg B) → k < length ps → get_or (map (λ p. num (bits_of_bytes p.bytes)) ps) k 0 ≡ num (bits_of_bytes (get_or ps k d).bytes)
given_next [] k d some = absurd (omega arith)
given_next (p ∷ ps) zero d some = refl
given_next (p ∷ ps) (suc k) d some = given_next ps k d (omega arith)

pub alike_more : (room : FrameRoom) (hs : List Held) (h : Held) → Alike room hs → h.room ≡ room → Alike room (hs ++ h ∷ [])
alike_more room [] h all same = (same, tt)
alike_more room (x ∷ hs) h all same = (all.0, alike_more room hs h all.1 same)

pub ready_first : (a b : FrameRoom) (i : Whole) → IsReady a i → IsReady (either a b) i
ready_first a b i h = record {
  formed = h.formed;
  enough = record { frames = omega (arith, h.enough.frames); registers = omega (arith, h.enough.registers); variables = omega (arith, h.enough.variables); bits = omega (arith, h.enough.bits) };
}

pub ready_second : (a b : FrameRoom) (i : Whole) → IsReady b i → IsReady (either a b) i
ready_second a b i h = record {
  formed = h.formed;
  enough = record { frames = omega (arith, h.enough.frames); registers = omega (arith, h.enough.registers); variables = omega (arith, h.enough.variables); bits = omega (arith, h.enough.bits) };
}

pub given_length : {B : ℕ} (ps : List (Reg B)) → length (map (λ p. num (bits_of_bytes p.bytes)) ps) ≡ length ps
given_length [] = refl
given_length (p ∷ ps) = ap suc (given_length ps)
