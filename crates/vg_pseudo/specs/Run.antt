-- What statements do to the registers and the number variables of a body.
use Rattle.std.specs.Prelude.{ℕ, zero, suc, ◌*◌, ℤ, pos, ◌+ℤ◌, List, [], ◌∷◌, get_or, set, if◌then◌else◌}
use Rattle.std.specs.Ordering.{int_eq}
use Rattle.vg_base.specs.Bits as number
use Rattle.vg_bits.specs.Range.{replaced}
use Rattle.vg_base.specs.Number.{residue}
use Rattle.vg_pseudo.specs.Whole.{natural}
use Rattle.vg_pseudo.specs.Resolved.{Target, bits, lane, whole, number, Code, stop, assign, skip, repeat, choose, way, last, pick, arm}
use Rattle.vg_pseudo.specs.Value.{State, Sight, value, count}

-- what is the same in the whole body: what the DEFINEs give
abbrev pub Functions : Type 0
Functions = List (List ℕ → ℤ)

abbrev pub seen : Functions → List ℤ → State → Sight
seen fs turns s = record { functions = fs; turns = turns; state = s }

-- this many bits of a register, from a place on, become the low bits of a number
abbrev pub written : ℕ → ℕ → ℕ → ℤ → State → State
written r low width z s =
    record {
      registers = set s.registers r
          (replaced low (number.bits width (residue width z)) (get_or s.registers r []));
      numbers = s.numbers;
    }

-- what an assignment leaves: a slice keeps the low bits of the number, a number variable the whole
-- number
abbrev pub assigned : Sight → Target → ℤ → State
assigned s (bits r h l) z =
    written r (natural (value s l)) (count (value s l) (value s h)) z s.state
assigned s (lane r size k) z = written r (natural (value s k) * size) size z s.state
assigned s (whole r width) z = written r 0 width z s.state
assigned s (number k) z =
    record { registers = s.state.registers; numbers = set s.state.numbers k z }

-- so many turns, upwards from this number
abbrev pub turned : (ℤ → State → State) → ℤ → ℕ → State → State
turned body z zero s = s
turned body z (suc n) s = turned body (z +ℤ pos 1) n (body z s)

-- FOR turns with each number from its first bound to its second; IF goes the first way whose
-- condition is not 0; CASE goes the first arm whose number is the value.
abbrev mutual
  pub run : Functions → List ℤ → Code → State → State
  run fs ts stop s = s
  run fs ts (assign at t e rest) s =
      run fs ts rest (assigned (seen fs ts s) t (value (seen fs ts s) e))
  run fs ts (skip at rest) s = run fs ts rest s
  run fs ts (repeat at a b body rest) s =
      run fs ts rest (turned (λ z u. run fs (z ∷ ts) body u) (value (seen fs ts s) a)
      (count (value (seen fs ts s) a) (value (seen fs ts s) b)) s)
  run fs ts (choose ways rest) s = run fs ts rest (run_ways fs ts ways s)
  run fs ts (way c body ways) s = s
  run fs ts (last body) s = s
  run fs ts (pick e arms rest) s = run fs ts rest (run_arm fs ts (value (seen fs ts s) e) arms s)
  run fs ts (arm n body arms) s = s

  pub run_ways : Functions → List ℤ → Code → State → State
  run_ways fs ts (way c body ways) s =
      if int_eq (value (seen fs ts s) c) (pos 0) then run_ways fs ts ways s else run fs ts body s
  run_ways fs ts (last body) s = run fs ts body s
  run_ways fs ts _ s = s

  pub run_arm : Functions → List ℤ → ℤ → Code → State → State
  run_arm fs ts z (arm n body arms) s =
      if int_eq z (pos n) then run fs ts body s else run_arm fs ts z arms s
  run_arm fs ts z _ s = s
