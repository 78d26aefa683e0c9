-- How many turns of a loop one kernel may have.
use Rattle.std.specs.Prelude.{ℕ, ◌-◌, ◌*◌, ◌≤◌, ◌^◌, List, length, sum_by, Contains, Bool, true, nat_le, nat_lt, ◌&&◌, if◌then◌else◌, ℤ, pos, negsuc}
use Rattle.std.specs.List.{list_all}
use Rattle.vg_base.specs.declared.address.Address.{Address}
use Rattle.vg_base.specs.Offset.{IsOffset}
use Rattle.vg_kernel.specs.Cost.{uses_of}
use Rattle.vg_kernel.specs.Layout.{Access, accesses}
use Rattle.vg_kernel.specs.Tree.{Expression, argument, assigned, literal, load, two, shift, resize, compare, select, Statement, assign, store}
use Rattle.vg_loop_laws.specs.Loops.{Loop}
use Rattle.vg_loop_laws.specs.Unrolled.{moved_address}

-- The kernel of so many turns keeps the limits on statements, on loads and operations, and on offsets,
-- which are greatest in the last turn.
pub record KeepsLimits (l : Loop) (n : ℕ) : Type 0 where
  pub some : 1 ≤ n
  pub statements : n * length l.kernel.statements ≤ 4096
  pub uses : n * sum_by uses_of l.kernel.statements ≤ 8192
  pub offsets : (x : Access) → Contains (accesses l.kernel) x
      → IsOffset (moved_address l.steps (n - 1) x.address).offset

-- whether a number has 32 bits with a sign
abbrev pub is_offset : ℤ → Bool
is_offset (pos n) = nat_lt n (2 ^ 31)
is_offset (negsuc n) = nat_lt n (2 ^ 31)

-- whether the offset of an address has them so many turns later
abbrev pub is_near : List ℕ → ℕ → Address → Bool
is_near steps u a = is_offset (moved_address steps u a).offset

-- and of each address from which an expression reads
abbrev pub reads_stay : List ℕ → ℕ → Expression → Bool
reads_stay steps u (argument k w) = true
reads_stay steps u (assigned k t) = true
reads_stay steps u (literal w n) = true
reads_stay steps u (load w a) = is_near steps u a
reads_stay steps u (two op w x y) = reads_stay steps u x && reads_stay steps u y
reads_stay steps u (shift op w k x) = reads_stay steps u x
reads_stay steps u (resize op w v x) = reads_stay steps u x
reads_stay steps u (compare op w x y) = reads_stay steps u x && reads_stay steps u y
reads_stay steps u (select w c x y) =
    reads_stay steps u c && (reads_stay steps u x && reads_stay steps u y)

-- and of each that a statement reads or writes
abbrev pub statement_stays : List ℕ → ℕ → Statement → Bool
statement_stays steps u (assign e) = reads_stay steps u e
statement_stays steps u (store w a e) = reads_stay steps u e && is_near steps u a

-- whether the kernel of so many turns, one at least, keeps the limits
unfoldable pub keeps_limits : Loop → ℕ → Bool
keeps_limits l n =
    nat_le (n * length l.kernel.statements) 4096
    && (nat_le (n * sum_by uses_of l.kernel.statements) 8192
    && list_all (statement_stays l.steps (n - 1)) l.kernel.statements)

-- how many turns a block has: the most that keep the limits of 16, 8, 4, 2 and 1
unfoldable pub turns_of : Loop → ℕ
turns_of l =
    if keeps_limits l 16 then 16
    else if keeps_limits l 8 then 8
    else if keeps_limits l 4 then 4
    else if keeps_limits l 2 then 2
    else 1
