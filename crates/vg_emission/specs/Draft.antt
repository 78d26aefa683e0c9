-- What is known while lines are emitted: how many scalars and registers they define, and which of
-- them stand for values, packs and operands.
use Rattle.std.specs.Prelude.{ℕ, ◌+◌, List, Option, Some, None, replicate, slice_index_or, slice_set}
use Rattle.vg_program.specs.declared.line.Line.{Line}

-- the counts, and by the numbers of values, packs and operands the scalar or register of each
pub record Draft : Type 0 where
  pub scalars : ℕ
  pub vectors : ℕ
  pub names : List (Option ℕ)
  pub held : List (Option ℕ)
  pub built : List (Option ℕ)

-- before the first line, where there are so many values, packs and operands
abbrev pub blank : ℕ → ℕ → ℕ → Draft
blank values packs operands = record {
  scalars = 0;
  vectors = 0;
  names = replicate values None;
  held = replicate packs None;
  built = replicate operands None;
}

-- what stands for one of them, if anything does
abbrev pub found : List (Option ℕ) → ℕ → Option ℕ
found numbers k = slice_index_or numbers k None

-- one scalar more, which is a value
abbrev pub with_name : Draft → ℕ → Draft
with_name d v = record {
  scalars = d.scalars + 1;
  vectors = d.vectors;
  names = slice_set d.names v (Some d.scalars);
  held = d.held;
  built = d.built;
}

-- one register more, which holds a pack
abbrev pub with_held : Draft → ℕ → Draft
with_held d k = record {
  scalars = d.scalars;
  vectors = d.vectors + 1;
  names = d.names;
  held = slice_set d.held k (Some d.vectors);
  built = d.built;
}

-- so many registers more
abbrev pub with_vectors : Draft → ℕ → Draft
with_vectors d n = record {
  scalars = d.scalars;
  vectors = d.vectors + n;
  names = d.names;
  held = d.held;
  built = d.built;
}

-- an operand stands in this register
abbrev pub with_built : Draft → ℕ → ℕ → Draft
with_built d o r = record {
  scalars = d.scalars;
  vectors = d.vectors;
  names = d.names;
  held = d.held;
  built = slice_set d.built o (Some r);
}

-- lines, and what is known after them
pub record Made : Type 0 where
  pub lines : List Line
  pub draft : Draft
