-- What is put into a state.
use Rattle.std.proofs.Common.{◌≡◌, ℕ, zero, suc, ◌++◌, ◌+◌, ◌-◌, ◌<◌, ◌≤◌, refl, sym, ap, ◌∙◌, subst, arith, inl, inr, List, [], ◌∷◌, length, get_or, set, take, drop, min, replicate, length-append, length-take, length-drop}
use Rattle.std.specs.Prelude.{map, slice_get, Some, None}
use Rattle.std.proofs.lemmas.Bool.{cases_lt}
use Rattle.std.proofs.lemmas.Option.{slice_get_within, slice_get-get_or, get_or_from_slice_get}
use Rattle.std.proofs.lemmas.List.{map-set, length-set, take_min, drop_min}
use Rattle.vg_bits.specs.Range.{range, replaced}
use Rattle.vg_terms.specs.Term.{constant, width_of}
use Rattle.vg_pool.specs.declared.content.Content.{Content}
use Rattle.vg_pool.specs.Pool.{Keeps, StandsFor, tree_at}
use Rattle.vg_lift.specs.Gather.{bits_from, gather}
use Rattle.vg_lift.specs.LaneTerm as lane
use Rattle.vg_lift.specs.LaneTerm.{part, with_bits}
use Rattle.vg_lift.specs.declared.bit.Bit.{Bit}
use Rattle.vg_lift.specs.declared.bit.Bit.TheVariants.{Clear}
use Rattle.vg_lift.specs.declared.state.State.{State}
use Rattle.vg_lift.specs.States.{AllFit, AreNodes, Leaves, StateFits, state_of, widths_in, with_variable}
use Rattle.vg_lift.specs.Views.{BitsFit, IsNode, bits_of, node_bits}
use Rattle.vg_lift.proofs.Nodes.{append_of, append_fit, node_bits-of, node_bits-fit, length_bits_of}
use Rattle.vg_lift.proofs.Gathering.{gather-width}
use Rattle.vg_lift.proofs.Begins.{padded_of, padded_fits}
use Rattle.vg_lift.proofs.Entering.{length-clears}
use Rattle.vg_lift.proofs.StateSteps.{node_at, all_kept, trees_kept, registers_kept, nodes_kept, state_at, register_at, range_of, range_fits, take_of, drop_of, take_fits, drop_fits}

-- ---- a state over a pool that has grown

pub state_kept : (old new : List Content) (s : State) → Keeps old new → StateFits old s → state_of new s ≡ state_of old s
state_kept old new s k h =
    state_at _ _ _ _ (all_kept old new s.registers.items k h.registers) (trees_kept old new s.variables.items k h.variables)

pub state_fits : (old new : List Content) (s : State) → Keeps old new → StateFits old s → StateFits new s
state_fits old new s k h = record {
  registers = registers_kept old new s.registers.items k h.registers;
  variables = nodes_kept old new s.variables.items k h.variables;
}

-- ---- one register

lengths_at : (rs : List (List Bit)) (i : ℕ) → get_or (map length rs) i 0 ≡ length (get_or rs i [])
lengths_at [] i = refl
lengths_at (r ∷ rs) zero = refl
lengths_at (r ∷ rs) (suc i) = lengths_at rs i

pub width_at : (s : State) (i : ℕ) → get_or (widths_in s) i 0 ≡ length (get_or s.registers.items i [])
width_at s i = lengths_at s.registers.items i

bits_at : (pool : List Content) (rs : List (List Bit)) (i : ℕ) → get_or (map (bits_of pool) rs) i [] ≡ bits_of pool (get_or rs i [])
bits_at pool [] i = refl
bits_at pool (r ∷ rs) zero = refl
bits_at pool (r ∷ rs) (suc i) = bits_at pool rs i

-- a list has no more members than it has
pub drop_most : (n : ℕ) (bits : List Bit) → drop (min n (length bits)) bits ≡ drop n bits
drop_most n bits = drop_min n bits

pub take_most : (n : ℕ) (bits : List Bit) → take (min n (length bits)) bits ≡ take n bits
take_most n bits = take_min n bits

-- so many bits of a register, but those past its end
pub slice_is : (pool : List Content) (s : State) (i l w : ℕ) (bits : List Bit) → bits ≡ range l w (get_or s.registers.items i [])
    → bits_of pool bits ≡ range l w (get_or (state_of pool s).registers i [])
slice_is pool s i l w bits e =
    let x = get_or s.registers.items i [] in
    ap (bits_of pool) e ∙ range_of pool l w x ∙ ap (range l w) (sym (bits_at pool s.registers.items i))

pub slice_fits : (pool : List Content) (s : State) (i l w : ℕ) (bits : List Bit) → StateFits pool s → bits ≡ range l w (get_or s.registers.items i []) → BitsFit pool bits
slice_fits pool s i l w bits h e =
    let x = get_or s.registers.items i [] in
    subst (BitsFit pool) (sym e) (range_fits pool l w x (register_at pool s.registers.items i h.registers))

-- so many bits of a register, and zeros past its end
pub part_is : (pool : List Content) (s : State) (i l w : ℕ) (cut bits : List Bit) → cut ≡ range l w (get_or s.registers.items i [])
    → bits ≡ take w cut ++ replicate (w - length cut) Clear → bits_of pool bits ≡ part l w (get_or (state_of pool s).registers i [])
part_is pool s i l w cut bits e f = ap (bits_of pool) f ∙ padded_of pool w cut ∙ ap (lane.padded w) (slice_is pool s i l w cut e)

pub part_fits : (pool : List Content) (s : State) (i l w : ℕ) (cut bits : List Bit) → StateFits pool s → cut ≡ range l w (get_or s.registers.items i [])
    → bits ≡ take w cut ++ replicate (w - length cut) Clear → BitsFit pool bits
part_fits pool s i l w cut bits h e f = subst (BitsFit pool) (sym f) (padded_fits pool w cut (slice_fits pool s i l w cut h e))

pub part_count : (w : ℕ) (cut bits : List Bit) → bits ≡ take w cut ++ replicate (w - length cut) Clear → length bits ≡ w
part_count w cut bits f =
    ap length f ∙ length-append (take w cut) (replicate (w - length cut) Clear)
    ∙ ap (λ n. length (take w cut) + n) (length-clears (w - length cut) Clear) ∙ simp (length-take) (omega arith)

-- the node of gathered bits has their width
pub gathered_wide : (old new : List Content) (bits : List Bit) (node w : ℕ) → StandsFor new node (gather (bits_of old bits)) → length bits ≡ w → IsNode new node w
gathered_wide old new bits node w s e = record {
  within = s.within;
  wide = ap width_of s.is ∙ gather-width (bits_of old bits) ∙ length_bits_of old bits ∙ e;
}

-- ---- bits that are put

replaced_of : (pool : List Content) (l : ℕ) (new bs : List Bit) → bits_of pool (replaced l new bs) ≡ replaced l (bits_of pool new) (bits_of pool bs)
replaced_of pool l new bs =
    append_of pool (take l bs) (new ++ drop (l + length new) bs)
    ∙ ap (λ xs. xs ++ bits_of pool (new ++ drop (l + length new) bs)) (take_of pool l bs)
    ∙ ap (λ xs. take l (bits_of pool bs) ++ xs) (append_of pool new (drop (l + length new) bs)
    ∙ ap (λ ys. bits_of pool new ++ ys) (drop_of pool (l + length new) bs ∙ ap (λ n. drop (l + n) (bits_of pool bs)) (sym (same_length pool new))))
  where
    same_length : (pool : List Content) (bs : List Bit) → length (bits_of pool bs) ≡ length bs
    same_length pool [] = refl
    same_length pool (b ∷ bs) = ap suc (same_length pool bs)

replaced_fits : (pool : List Content) (l : ℕ) (new bs : List Bit) → BitsFit pool new → BitsFit pool bs → BitsFit pool (replaced l new bs)
replaced_fits pool l new bs f g =
    append_fit pool (take l bs) _ (take_fits pool l bs g) (append_fit pool new _ f (drop_fits pool (l + length new) bs g))

replaced_length : (l : ℕ) (new bs : List Bit) → l + length new ≤ length bs → length (replaced l new bs) ≡ length bs
replaced_length l new bs h =
    length-append (take l bs) (new ++ drop (l + length new) bs)
    ∙ ap (λ n. length (take l bs) + n) (length-append new (drop (l + length new) bs))
    ∙ simp (length-take, length-drop) (omega arith)

set_lengths : (rs : List (List Bit)) (i : ℕ) (r : List Bit) → length r ≡ length (get_or rs i []) → map length (set rs i r) ≡ map length rs
set_lengths [] i r e = refl
set_lengths (x ∷ rs) zero r e = ap (λ n. n ∷ map length rs) e
set_lengths (x ∷ rs) (suc i) r e = ap (λ l. length x ∷ l) (set_lengths rs i r e)

set_fits : (pool : List Content) (rs : List (List Bit)) (i : ℕ) (r : List Bit) → AllFit pool rs → BitsFit pool r → AllFit pool (set rs i r)
set_fits pool [] i r h f = tt
set_fits pool (x ∷ rs) zero r h f = (f, h.1)
set_fits pool (x ∷ rs) (suc i) r h f = (h.0, set_fits pool rs i r h.1 f)

pub put_leaves : (pool : List Content) (old new : State) (i l : ℕ) (bits : List Bit) → StateFits pool old → BitsFit pool bits
    → l + length bits ≤ get_or (widths_in old) i 0
    → new.registers.items ≡ set old.registers.items i (replaced l bits (get_or old.registers.items i []))
    → new.variables.items ≡ old.variables.items
    → Leaves pool old new (with_bits i l (bits_of pool bits) (state_of pool old))
put_leaves pool old new i l bits h f inside e g =
    let rs = old.registers.items in
    let x = get_or rs i [] in
    let y = replaced l bits x in
    record {
      is = state_at _ _ _ _
          (ap (map (bits_of pool)) e ∙ map-set (bits_of pool) rs i y
          ∙ ap (λ v. set (map (bits_of pool) rs) i v) (replaced_of pool l bits x ∙ ap (replaced l (bits_of pool bits)) (sym (bits_at pool rs i))))
          (ap (map (tree_at pool)) g);
      fits = record {
        registers = subst (AllFit pool) (sym e) (set_fits pool rs i y h.registers (replaced_fits pool l bits x f (register_at pool rs i h.registers)));
        variables = subst (AreNodes pool) (sym g) h.variables;
      };
      widths = ap (map length) e ∙ set_lengths rs i y (replaced_length l bits x (omega (arith, inside, width_at old i)));
      count = ap length g;
    }

-- ---- a variable

set_nodes : (pool : List Content) (ns : List ℕ) (k n : ℕ) → AreNodes pool ns → IsNode pool n 128 → AreNodes pool (set ns k n)
set_nodes pool [] k n h f = tt
set_nodes pool (x ∷ ns) zero n h f = (f, h.1)
set_nodes pool (x ∷ ns) (suc k) n h f = (h.0, set_nodes pool ns k n h.1 f)

pub give_leaves : (pool : List Content) (old new : State) (k n : ℕ) → StateFits pool old → IsNode pool n 128
    → new.registers.items ≡ old.registers.items → new.variables.items ≡ set old.variables.items k n
    → Leaves pool old new (with_variable k (tree_at pool n) (state_of pool old))
give_leaves pool old new k n h f e g =
    let vs = old.variables.items in
    record {
      is = state_at _ _ _ _ (ap (map (bits_of pool)) e) (ap (map (tree_at pool)) g ∙ map-set (tree_at pool) vs k n);
      fits = record {
        registers = subst (AllFit pool) (sym e) h.registers;
        variables = subst (AreNodes pool) (sym g) (set_nodes pool vs k n h.variables f);
      };
      widths = ap (map length) e;
      count = ap length g ∙ length-set vs k n;
    }

-- ---- the bits of a node

pub whole_is : (pool : List Content) (node w : ℕ) (bits : List Bit) → bits ≡ node_bits node w 0 w → bits_of pool bits ≡ bits_from (tree_at pool node) 0 w
whole_is pool node w bits e = ap (bits_of pool) e ∙ node_bits-of pool node w 0 w

pub whole_fits : (pool : List Content) (node w : ℕ) (bits : List Bit) → IsNode pool node w → bits ≡ node_bits node w 0 w → BitsFit pool bits
whole_fits pool node w bits h e = subst (BitsFit pool) (sym e) (node_bits-fit pool node w 0 w h (omega arith))

pub whole_count : (node w : ℕ) (bits : List Bit) → bits ≡ node_bits node w 0 w → length bits ≡ w
whole_count node w bits e = ap length e ∙ counted node w 0 w
  where
    counted : (node w k n : ℕ) → length (node_bits node w k n) ≡ n
    counted node w k zero = refl
    counted node w k (suc n) = ap suc (counted node w (suc k) n)

-- ---- the node of a variable

pub variable_is : (pool : List Content) (s : State) (k : ℕ) → k < length s.variables.items → get_or (state_of pool s).variables k (constant 128 0) ≡ tree_at pool (get_or s.variables.items k 0)
variable_is pool s k h = at_place s.variables.items k h
  where
    at_place : (ns : List ℕ) (k : ℕ) → k < length ns → get_or (map (tree_at pool) ns) k (constant 128 0) ≡ tree_at pool (get_or ns k 0)
    at_place [] k h = absurd (omega arith)
    at_place (n ∷ ns) zero h = refl
    at_place (n ∷ ns) (suc k) h = at_place ns k (omega arith)

pub no_variable : (pool : List Content) (s : State) (k : ℕ) → length s.variables.items ≤ k → get_or (state_of pool s).variables k (constant 128 0) ≡ constant 128 0
no_variable pool s k h = past s.variables.items k h
  where
    past : (ns : List ℕ) (k : ℕ) → length ns ≤ k → get_or (map (tree_at pool) ns) k (constant 128 0) ≡ constant 128 0
    past [] k h = refl
    past (n ∷ ns) zero h = absurd (omega arith)
    past (n ∷ ns) (suc k) h = past ns k (omega arith)

-- ---- a pool that has grown twice

pub kept_twice : (old now new : List Content) → Keeps old now → Keeps now new → Keeps old new
kept_twice old now new k l = record {
  nodes = omega (arith, k.nodes, l.nodes);
  trees = λ n h. l.trees n (omega (arith, h, k.nodes)) ∙ k.trees n h;
}

pub some_variable : (pool : List Content) (s : State) (k n : ℕ) → StateFits pool s → slice_get s.variables.items k ≡ Some n
    → StandsFor pool n (get_or (state_of pool s).variables k (constant 128 0))
some_variable pool s k n h e =
    let inside = slice_get_within s.variables.items k n e in
    let same : get_or s.variables.items k 0 ≡ n = get_or_from_slice_get s.variables.items k n 0 e in
    record {
      within = subst (λ m. m < length pool) same (node_at pool s.variables.items k inside h.variables).within;
      is = ap (tree_at pool) (sym same) ∙ sym (variable_is pool s k inside);
    }

pub some_wide : (pool : List Content) (s : State) (k n : ℕ) → StateFits pool s → slice_get s.variables.items k ≡ Some n → IsNode pool n 128
some_wide pool s k n h e =
    let inside = slice_get_within s.variables.items k n e in
    subst (λ m. IsNode pool m 128) (get_or_from_slice_get s.variables.items k n 0 e) (node_at pool s.variables.items k inside h.variables)

pub none_there : (pool : List Content) (s : State) (k : ℕ) → slice_get s.variables.items k ≡ None → get_or (state_of pool s).variables k (constant 128 0) ≡ constant 128 0
none_there pool s k e = elim (cases_lt k (length s.variables.items)) [
  | inl inside ↦ absurd (apart (sym (slice_get-get_or s.variables.items k 0 inside) ∙ e))
  | inr past ↦ no_variable pool s k past
]
  where
    apart : {n : ℕ} → Some n ≡ None → ⊥
    apart h = cc
