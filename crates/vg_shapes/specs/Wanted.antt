-- When the same is wanted.
use Rattle.std.specs.Prelude.{Bool, true, false, ◌&&◌, nat_eq}
use Rattle.vg_shapes.specs.declared.wanted.Wanted.{Wanted}
use Rattle.vg_shapes.specs.declared.wanted.Wanted.TheVariants.{Value, Constant, Nothing}

abbrev pub same_wanted : Wanted → Wanted → Bool
same_wanted (Value v) (Value u) = nat_eq v u
same_wanted (Constant w n) (Constant x m) = nat_eq w x && nat_eq n m
same_wanted Nothing Nothing = true
same_wanted _ _ = false
