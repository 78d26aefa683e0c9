-- What is stored does to the cells of a script what it does to the registers of a run.
use Rattle.std.proofs.Common.{◌≡◌, ℕ, zero, suc, ◌+◌, ◌/◌, ◌%◌, ◌^◌, ◌<◌, ◌≤◌, refl, sym, ap, ◌∙◌, subst, arith, inl, inr, Bool, true, false, List, [], ◌∷◌, get_or, set, length}
use Rattle.std.proofs.Common.{length-take, length-drop}
use Rattle.std.specs.Prelude.{ℤ, min, nat_le, if◌then◌else◌, map, Option, Some, None, Result, Ok}
use Rattle.std.proofs.lemmas.Bool.{cases_Bool, leb-true, leb-false}
use Rattle.vg_base.proofs.Bind.{tested_ok}
use Rattle.vg_base.proofs.Bits.{length-bits}
use Rattle.vg_base.proofs.LowBits.{low-low}
use Rattle.std.proofs.Common.{length-append}
use Rattle.vg_base.proofs.Signed.{residue-signed, residue-low}
use Rattle.vg_base.specs.Bits.{num, bits, signed_at}
use Rattle.vg_base.specs.Number.{residue}
use Rattle.vg_bits.specs.Range.{replaced}
use Rattle.vg_bits.specs.BitList.{IsBits}
use Rattle.vg_bits.proofs.BitLists.{IsBits-bits, IsBits-append, IsBits-take, IsBits-drop, bits-mod}
use Rattle.vg_text.specs.declared.place.Place.{Place}
use Rattle.vg_pseudo.specs.declared.spot.Spot.{Spot}
use Rattle.vg_pseudo.specs.Value.{State, Bits, read}
use Rattle.vg_pseudo.specs.Run as run
use Rattle.vg_script.specs.Script.{Word, width_of, Low, at, held, Frame, Script}
use Rattle.vg_script.specs.Script as script
use Rattle.vg_script.specs.Cells.{Cells, word_value, low_value, behind, bits_read, after}
use Rattle.vg_script.specs.Cells as cell
use Rattle.vg_script.specs.Formed.{ScriptFormed}
use Rattle.vg_interval.specs.declared.fault.RangeFault.{RangeFault}
use Rattle.vg_interval.specs.declared.fault.RangeFault.TheVariants.{TooWide}
use Rattle.vg_interval.specs.Words.{extended}
use Rattle.vg_interval.specs.Found.{Found, known, handed, bit, within, wide, loose, slice_word, handed_word}
use Rattle.vg_interval.specs.Found as found
use Rattle.vg_interval.specs.Judge as judging
use Rattle.vg_range.specs.Walk.{goal, put_word, stored}
use Rattle.vg_interval.proofs.Words.{StandsFor, bit-stands}
use Rattle.vg_interval.proofs.Covers.{cells, AllBits, AreCells, Covers, bits_at, bits_small, fewer_bits, slice-stands, handed-stands}

-- ---- registers

length-replaced : (low : ℕ) (new l : List ℕ) → low + length new ≤ length l → length (replaced low new l) ≡ length l
length-replaced low new l h = simp (length-append, length-take, length-drop) (omega arith)

IsBits-replaced : (low : ℕ) (new l : List ℕ) → IsBits new → IsBits l → IsBits (replaced low new l)
IsBits-replaced low new l p q = IsBits-append _ _ (IsBits-take low l q) (IsBits-append _ _ p (IsBits-drop (low + length new) l q))

length-set-at : (ls : List (List ℕ)) (r q : ℕ) (new : List ℕ) → length new ≡ length (get_or ls r []) → length (get_or (set ls r new) q []) ≡ length (get_or ls q [])
length-set-at [] r q new h = refl
length-set-at (l ∷ ls) zero zero new h = h
length-set-at (l ∷ ls) zero (suc q) new h = refl
length-set-at (l ∷ ls) (suc r) zero new h = refl
length-set-at (l ∷ ls) (suc r) (suc q) new h = length-set-at ls r q new h

bits-set : (ls : List (List ℕ)) (r : ℕ) (new : List ℕ) → AllBits ls → IsBits new → AllBits (set ls r new)
bits-set [] r new h p = tt
bits-set (l ∷ ls) zero new h p = (p, h.1)
bits-set (l ∷ ls) (suc r) new h p = (h.0, bits-set ls r new h.1 p)

-- the cells of a body after a write inside of what is kept of a register
pub written-cells : (ws : List ℕ) (s : State) (r low width : ℕ) (z : ℤ) → AreCells ws (cells s) → low + width ≤ min 512 (get_or ws r 0)
    → AreCells ws (cells (run.written r low width z s))
written-cells ws s r low width z h inside =
    let old = get_or s.registers r [] in
    let new = bits width (residue width z) in
    let fits : low + length new ≤ length old = omega (arith, length-bits width (residue width z), inside, h.kept r) in
    record {
      kept = λ q. subst (λ n. min 512 (get_or ws q 0) ≤ n) (sym (length-set-at s.registers r q (replaced low new old) (length-replaced low new old fits))) (h.kept q);
      bits = bits-set s.registers r (replaced low new old) h.bits (IsBits-replaced low new old (IsBits-bits width (residue width z)) (bits_at s.registers r h.bits));
    }

-- another register stays
pub other-register : (ls : List (List ℕ)) (r q : ℕ) (new : List ℕ) → (q ≡ r → ⊥) → get_or (set ls r new) q [] ≡ get_or ls q []
other-register [] r q new h = refl
other-register (l ∷ ls) zero zero new h = absurd (h refl)
other-register (l ∷ ls) zero (suc q) new h = refl
other-register (l ∷ ls) (suc r) zero new h = refl
other-register (l ∷ ls) (suc r) (suc q) new h = other-register ls r q new (λ e. h (ap suc e))

-- ---- low bits

-- the low bits of a number that is read from more of them
low_of_read : (g : Bool) (w v n : ℕ) → w ≤ v → n < 2 ^ v → residue w (read g (record { width = v; number = n })) ≡ n % 2 ^ w
low_of_read true w v n h p = sym (residue-low v w (signed_at v n) h) ∙ ap (λ m. m % 2 ^ w) (residue-signed v n p)
low_of_read false w v n h p = refl

-- ---- what is stored

abbrev script_ok : Script → Result Script RangeFault
script_ok t = Ok t

same_script : {t u : Script} → script_ok t ≡ script_ok u → t ≡ u
same_script e = cc

-- a script does to the cells what a write does to the state, and is formed
pub record Stores (vs : List ℕ) (s : State) (r low width : ℕ) (z : ℤ) (t : Script) : Type 0 where
  pub same : after t (cells s) ≡ cells (run.written r low width z s)
  pub formed : ScriptFormed vs t

stores-bits : (s : State) (r low width : ℕ) (z : ℤ) (n : ℕ) → bits width n ≡ bits width (residue width z)
    → cell.written r low (bits width n) (cells s) ≡ cells (run.written r low width z s)
stores-bits s r low width z n e = ap (λ b. cell.written r low b (cells s)) e

put-stores : (ws vs : List ℕ) (s : State) (place : Place) (r : ℕ) (b : judging.Bits) (x : Word) (z : ℤ) (t : Script) → b.low + b.width ≤ get_or vs r 0 → 0 < b.width
    → StandsFor ws (cells s) x z → put_word place (goal r b) x ≡ Ok t → Stores vs s r b.low b.width z t
put-stores ws vs s place r b x z t inside some st e =
    let p = tested_ok (nat_le b.width 128) (script_ok (script.put r b.low b.width x)) (TooWide place) e in
    let most = leb-true b.width 128 p.0 in
    subst (Stores vs s r b.low b.width z) (same_script p.1) (record {
      same = stores-bits s r b.low b.width z (word_value (cells s) x)
          (ap (bits b.width) st.bits ∙ sym (bits-mod b.width (residue 128 z)) ∙ ap (bits b.width) (residue-low 128 b.width z most));
      formed = ((some, most), inside, st.wide, st.formed);
    })

fill-stores : (vs : List ℕ) (s : State) (r : ℕ) (b : judging.Bits) (y z : ℤ) → b.low + b.width ≤ get_or vs r 0 → 0 < b.width → z ≡ y
    → Stores vs s r b.low b.width z (script.fill r b.low b.width y)
fill-stores vs s r b y z inside some e = rw e (record { same = refl; formed = (some, inside) })

constant_is : (ws : List ℕ) (c : Cells) (y : ℤ) (w : Option ℕ) (z : ℤ) (b : Option Bits) → Covers ws c (known y w) z b → z ≡ y
constant_is ws c y None z b h = h.0
constant_is ws c y (Some w) z b h = h.same

copied : (w n m : ℕ) (z : ℤ) → m ≡ n % 2 ^ w → residue w z ≡ n % 2 ^ w → bits w m ≡ bits w (residue w z)
copied w n m z p q = ap (bits w) (p ∙ sym q)

-- what is stored of what was found is the value
pub stored-stores : (ws vs : List ℕ) (s : State) (p : Spot) (r : ℕ) (b : judging.Bits) (f : Found) (z : ℤ) (o : Option Bits) (t : Script) → AllBits s.registers
    → b.low + b.width ≤ get_or vs r 0 → 0 < b.width → Covers ws (cells s) f z o → stored p (goal r b) f ≡ Ok t → Stores vs s r b.low b.width z t
stored-stores ws vs s p r b (known y v) z o t cs inside some h e =
    subst (Stores vs s r b.low b.width z) (same_script e) (fill-stores vs s r b y z inside some (constant_is ws (cells s) y v z o h))
stored-stores ws vs s p r b (found.read g q l v) z o t cs inside some h e = elim (cases_Bool (nat_le b.width v)) [
  | inl y ↦
      let e' : script_ok (script.copy r b.low b.width q l) ≡ Ok t =
      subst (λ k. (if k then script_ok (script.copy r b.low b.width q l) else put_word p.outer (goal r b) (slice_word g q l v)) ≡ Ok t) y e in
      let less = leb-true b.width v y in
      let n = bits_read (cells s) q (low_value (cells s) l) v in
      subst (Stores vs s r b.low b.width z) (same_script e') (record {
        same = stores-bits s r b.low b.width z (bits_read (cells s) q (low_value (cells s) l) b.width)
            (copied b.width n _ z (fewer_bits (cells s) q (low_value (cells s) l) b.width v cs less)
            (ap (residue b.width) h.value ∙ low_of_read g b.width v n less (bits_small (cells s) q _ v cs)));
        formed = (some, inside, h.slice.formed);
      })
  | inr y ↦
      let e' : put_word p.outer (goal r b) (slice_word g q l v) ≡ Ok t =
      subst (λ k. (if k then script_ok (script.copy r b.low b.width q l) else put_word p.outer (goal r b) (slice_word g q l v)) ≡ Ok t) y e in
      let m = tested_ok (nat_le b.width 128) (script_ok (script.put r b.low b.width (slice_word g q l v))) (TooWide p.outer) e' in
      let most : v ≤ 128 = omega (arith, leb-true b.width 128 m.0, leb-false b.width v y) in
      put-stores ws vs s p.outer r b (slice_word g q l v) z t inside some
      (subst (StandsFor ws (cells s) (slice_word g q l v)) (sym h.value) (slice-stands ws (cells s) g q l v cs h.slice most)) e'
]
stored-stores ws vs s p r b (handed f q l v) z o t cs inside some h e = elim (cases_Bool (nat_le b.width v)) [
  | inl y ↦
      let e' : script_ok (script.copy_from r b.low b.width f q l) ≡ Ok t =
      subst (λ k. (if k then script_ok (script.copy_from r b.low b.width f q l) else put_word p.outer (goal r b) (handed_word f q l v)) ≡ Ok t) y e in
      let less = leb-true b.width v y in
      let c = behind (cells s) f in
      let n = bits_read c q (low_value c l) v in
      subst (Stores vs s r b.low b.width z) (same_script e') (record {
        same = stores-bits s r b.low b.width z (bits_read c q (low_value c l) b.width)
            (copied b.width n _ z (fewer_bits c q (low_value c l) b.width v h.0.left less) (ap (residue b.width) h.0.value));
        formed = (some, inside, h.0.frame, h.0.slice.formed);
      })
  | inr y ↦
      let e' : put_word p.outer (goal r b) (handed_word f q l v) ≡ Ok t =
      subst (λ k. (if k then script_ok (script.copy_from r b.low b.width f q l) else put_word p.outer (goal r b) (handed_word f q l v)) ≡ Ok t) y e in
      put-stores ws vs s p.outer r b (handed_word f q l v) z t inside some (handed-stands ws (cells s) f q l v z h.0) e'
]
stored-stores ws vs s p r b (bit x) z o t cs inside some h e =
    put-stores ws vs s p.outer r b (extended false 1 x) z t inside some
    (subst (StandsFor ws (cells s) (extended false 1 x)) (sym h.0.1) (bit-stands ws (cells s) x h.0.0 h.0.2)) e
stored-stores ws vs s p r b (within i x) z o t cs inside some h e = put-stores ws vs s p.outer r b x z t inside some h.0.stands e
stored-stores ws vs s p r b (wide x) z o t cs inside some h e = put-stores ws vs s p.outer r b x z t inside some h.0 e
stored-stores ws vs s p r b (loose x) z o t cs inside some h e = absurd (cc)
