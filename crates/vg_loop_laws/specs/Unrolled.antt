-- A kernel whose statements are those of so many turns of another, one turn after the other.
use Rattle.std.specs.Prelude.{ℕ, zero, suc, ◌+◌, ◌*◌, pos, ◌+ℤ◌, List, [], ◌∷◌, ◌++◌, length, map, slice_index}
use Rattle.std.specs.List.{flat_map}
use Rattle.vg_base.specs.declared.address.Address.{Address}
use Rattle.vg_kernel.specs.Tree.{Expression, argument, assigned, literal, load, two, shift, resize, compare, select, Statement, assign, store, Tree, gives}
use Rattle.vg_loop_laws.specs.Loops.{Loop}

-- an address as it is so many turns later
abbrev pub moved_address : List ℕ → ℕ → Address → Address
moved_address steps u a = record {
  pointer = a.pointer;
  offset = a.offset +ℤ pos (u * slice_index steps a.pointer);
}

-- an expression as it is so many turns later, where these turns gave so many names
abbrev pub moved : List ℕ → ℕ → ℕ → Expression → Expression
moved steps u names (argument k w) = argument k w
moved steps u names (assigned k t) = assigned (names + k) t
moved steps u names (literal w n) = literal w n
moved steps u names (load w a) = load w (moved_address steps u a)
moved steps u names (two op w x y) = two op w (moved steps u names x) (moved steps u names y)
moved steps u names (shift op w k x) = shift op w k (moved steps u names x)
moved steps u names (resize op w v x) = resize op w v (moved steps u names x)
moved steps u names (compare op w x y) =
    compare op w (moved steps u names x) (moved steps u names y)
moved steps u names (select w c x y) =
    select w (moved steps u names c) (moved steps u names x) (moved steps u names y)

abbrev pub moved_statement : List ℕ → ℕ → ℕ → Statement → Statement
moved_statement steps u names (assign e) = assign (moved steps u names e)
moved_statement steps u names (store w a e) =
    store w (moved_address steps u a) (moved steps u names e)

-- how many names statements give
abbrev pub names_given : List Statement → ℕ
names_given ss = length (flat_map gives ss)

-- the statements of the turn after so many; its names are others than theirs
abbrev pub turn_statements : List ℕ → List Statement → ℕ → List Statement
turn_statements steps ss u = map (moved_statement steps u (u * names_given ss)) ss

-- so many turns after so many
unfoldable pub unrolled_from : List ℕ → List Statement → ℕ → ℕ → List Statement
unrolled_from steps ss zero u = []
unrolled_from steps ss (suc n) u = turn_statements steps ss u ++ unrolled_from steps ss n (u + 1)

-- the kernel of so many turns of a loop
abbrev pub unrolled : Loop → ℕ → Tree
unrolled l n = record {
  name = l.kernel.name;
  params = l.kernel.params;
  statements = unrolled_from l.steps l.kernel.statements n 0;
}
