-- How far the accesses of a kernel reach through each of its pointers.
use Rattle.std.specs.Prelude.{ℕ, List, [], ◌∷◌, Option, Some, None, ◌==◌, ◌||◌, ℤ, pos, ◌+ℤ◌, if◌then◌else◌}
use Rattle.std.specs.Int.{int_min, int_max}
use Rattle.vg_kernel.specs.Tree.{Statement, Tree}
use Rattle.vg_kernel.specs.Layout.{Access, accesses, statement_accesses}
use Rattle.vg_guard.specs.declared.reach.Reach.{Reach}

-- where an access ends, from the place of its pointer
abbrev pub access_end : Access → ℤ
access_end x = x.address.offset +ℤ pos x.size

-- what is reached with one access more
abbrev pub wider : Option Reach → Access → Reach
wider None x = record { low = x.address.offset; high = access_end x; writes = x.writes }
wider (Some r) x = record {
  low = int_min r.low x.address.offset;
  high = int_max r.high (access_end x);
  writes = r.writes || x.writes;
}

-- what is reached through a pointer with one access more, which may go through another
abbrev pub reach_with : ℕ → Option Reach → Access → Option Reach
reach_with p r x = if x.address.pointer == p then Some (wider r x) else r

-- and with these, one after the other
unfoldable pub reach_behind : ℕ → Option Reach → List Access → Option Reach
reach_behind p r [] = r
reach_behind p r (x ∷ xs) = reach_behind p (reach_with p r x) xs

-- what the accesses of a kernel reach through a pointer; None where none goes through it
abbrev pub reach_of : Tree → ℕ → Option Reach
reach_of k p = reach_behind p None (accesses k)

-- what is reached with the accesses of a statement more, and with those of statements in order
unfoldable pub reach_with_statement : ℕ → Option Reach → Statement → Option Reach
reach_with_statement p r s = reach_behind p r (statement_accesses s)

unfoldable pub reach_with_all : ℕ → Option Reach → List Statement → Option Reach
reach_with_all p r [] = r
reach_with_all p r (s ∷ ss) = reach_with_all p (reach_with_statement p r s) ss
