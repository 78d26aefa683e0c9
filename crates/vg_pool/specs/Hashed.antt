-- What a content gives to a hash: the numbers in it, and for an operation its place in the order
-- of terms.
use Rattle.std.specs.Prelude.{◌++◌}
use Rattle.std.specs.Hash.{HashWrites}
use Rattle.std.specs.Hash as fed
use Rattle.vg_terms.specs.Order.{one_tag, two_tag}
use Rattle.vg_pool.specs.declared.content.Content.{Content}
use Rattle.vg_pool.specs.declared.content.Content.TheVariants.{Leaf, Const, One, Two, Sel}

abbrev pub hashed : Content → HashWrites
hashed (Leaf w k) =
    fed.u32 w ++ fed.u8 k.kind ++ fed.u32 k.first ++ fed.i64 k.second ++ fed.u32 k.third
hashed (Const w v) = fed.u32 w ++ fed.u128 v
hashed (One op w k x) = fed.u32 (one_tag op) ++ fed.u32 w ++ fed.u32 k ++ fed.usize x
hashed (Two op w x y) = fed.u32 (two_tag op) ++ fed.u32 w ++ fed.usize x ++ fed.usize y
hashed (Sel w c x y) = fed.usize c ++ fed.usize x ++ fed.usize y
