-- A run of an instance leaves bits.
use Rattle.std.proofs.Common.{ℕ, zero, suc, ◌*◌, List, [], ◌∷◌, get_or}
use Rattle.std.specs.Prelude.{ℤ, pos, ◌+ℤ◌, Bool, true, false, if◌then◌else◌, take}
use Rattle.std.specs.Ordering.{int_eq}
use Rattle.vg_base.specs.Bits as number
use Rattle.vg_base.specs.Number.{residue}
use Rattle.vg_bits.specs.BitList.{IsBits}
use Rattle.vg_bits.proofs.BitLists.{IsBits-bits}
use Rattle.vg_shapes.specs.Registers.{AllBits}
use Rattle.vg_pseudo.specs.Whole.{natural}
use Rattle.vg_pseudo.specs.Resolved.{Resolved, Target, bits, lane, whole, number, Code, stop, assign, skip, repeat, choose, way, last, pick, arm}
use Rattle.vg_pseudo.specs.Value.{State, Sight, value, count}
use Rattle.vg_pseudo.specs.Run.{Functions, seen, written, assigned, turned, run, run_ways, run_arm}
use Rattle.vg_pseudo.specs.Instance.{entered, functions_from, meaning}
use Rattle.vg_descriptions.proofs.Bits.{at-bits, replaced-bits, set-bits}

-- the registers of a state have bits
abbrev HasBits : State → Type 0
HasBits s = AllBits s.registers

written-bits : (r low width : ℕ) (z : ℤ) (s : State) → HasBits s → HasBits (written r low width z s)
written-bits r low width z s h =
    let old = get_or s.registers r [] in
    let new = number.bits width (residue width z) in
    set-bits s.registers r _ h
    (replaced-bits low new old (IsBits-bits width (residue width z)) (at-bits s.registers r h))

assigned-bits : (s : Sight) (t : Target) (z : ℤ) → HasBits s.state → HasBits (assigned s t z)
assigned-bits s (bits r h l) z p =
    written-bits r (natural (value s l)) (count (value s l) (value s h)) z s.state p
assigned-bits s (lane r size k) z p =
    written-bits r (natural (value s k) * size) size z s.state p
assigned-bits s (whole r width) z p = written-bits r 0 width z s.state p
assigned-bits s (number k) z p = p

turned-bits : (body : ℤ → State → State) → ((z : ℤ) (s : State) → HasBits s → HasBits (body z s))
    → (z : ℤ) (n : ℕ) (s : State) → HasBits s → HasBits (turned body z n s)
turned-bits body keeps z zero s p = p
turned-bits body keeps z (suc n) s p = turned-bits body keeps (z +ℤ pos 1) n (body z s) (keeps z s p)

either-bits : (b : Bool) (s t : State) → HasBits s → HasBits t → HasBits (if b then s else t)
either-bits true s t p q = p
either-bits false s t p q = q

-- what runs over statements keeps, by each of the three ways to go through them
record Keeps (c : Code) : Type 0 where
  pub run : (fs : Functions) (ts : List ℤ) (s : State) → HasBits s → HasBits (run fs ts c s)
  pub ways : (fs : Functions) (ts : List ℤ) (s : State) → HasBits s → HasBits (run_ways fs ts c s)
  pub arms : (fs : Functions) (ts : List ℤ) (z : ℤ) (s : State) → HasBits s → HasBits (run_arm fs ts z c s)

keeps : (c : Code) → Keeps c
keeps stop = record { run = λ fs ts s p. p; ways = λ fs ts s p. p; arms = λ fs ts z s p. p }
keeps (assign at t e rest) = record {
  run = λ fs ts s p. (keeps rest).run fs ts _ (assigned-bits (seen fs ts s) t (value (seen fs ts s) e) p);
  ways = λ fs ts s p. p;
  arms = λ fs ts z s p. p;
}
keeps (skip at rest) = record {
  run = λ fs ts s p. (keeps rest).run fs ts s p;
  ways = λ fs ts s p. p;
  arms = λ fs ts z s p. p;
}
keeps (repeat at a b body rest) = record {
  run = λ fs ts s p. (keeps rest).run fs ts _
      (turned-bits (λ z u. run fs (z ∷ ts) body u) (λ z u q. (keeps body).run fs (z ∷ ts) u q)
      (value (seen fs ts s) a) (count (value (seen fs ts s) a) (value (seen fs ts s) b)) s p);
  ways = λ fs ts s p. p;
  arms = λ fs ts z s p. p;
}
keeps (choose ways rest) = record {
  run = λ fs ts s p. (keeps rest).run fs ts _ ((keeps ways).ways fs ts s p);
  ways = λ fs ts s p. p;
  arms = λ fs ts z s p. p;
}
keeps (way c body ways) = record {
  run = λ fs ts s p. p;
  ways = λ fs ts s p.
      either-bits (int_eq (value (seen fs ts s) c) (pos 0)) _ _ ((keeps ways).ways fs ts s p)
      ((keeps body).run fs ts s p);
  arms = λ fs ts z s p. p;
}
keeps (last body) = record {
  run = λ fs ts s p. p;
  ways = λ fs ts s p. (keeps body).run fs ts s p;
  arms = λ fs ts z s p. p;
}
keeps (pick e arms rest) = record {
  run = λ fs ts s p. (keeps rest).run fs ts _ ((keeps arms).arms fs ts (value (seen fs ts s) e) s p);
  ways = λ fs ts s p. p;
  arms = λ fs ts z s p. p;
}
keeps (arm n body arms) = record {
  run = λ fs ts s p. p;
  ways = λ fs ts s p. p;
  arms = λ fs ts z s p.
      either-bits (int_eq z (pos n)) _ _ ((keeps body).run fs ts s p) ((keeps arms).arms fs ts z s p);
}

entered-bits : (ws ns : List ℕ) → AllBits (entered ws ns)
entered-bits [] ns = tt
entered-bits (w ∷ ws) [] = (IsBits-bits w 0, entered-bits ws [])
entered-bits (w ∷ ws) (n ∷ ns) = (IsBits-bits w n, entered-bits ws ns)

pub meaning-bits : (r : Resolved) (given : List ℕ) → IsBits (meaning r given)
unfolding meaning
meaning-bits r given =
    at-bits _ r.result
    ((keeps r.body.code).run (functions_from [] r.functions) [] _
    (entered-bits r.body.widths (take r.body.parameters given)))
