-- Where nothing is told without more, nothing is told with it.
use Rattle.std.proofs.Common.{◌≡◌, false, List, Option, Some, None, refl, ap}
use Rattle.std.specs.Option.{option_map}
use Rattle.vg_catalog.specs.Entries.{Entry}
use Rattle.vg_kernel.specs.Tree.{Tree}
use Rattle.vg_program.specs.declared.program.Program.{Program}
use Rattle.vg_known.specs.Difference.{difference}
use Rattle.vg_known.specs.Laws.{SameIsSameWithMore}
use Rattle.vg_check.specs.Compared.{told_difference, values_of}
use Rattle.vg_check.specs.Laws.{SameIsToldWithMore}
use Rattle.vg_check.specs.Told.{difference_text}

no-text : {A B : Type 0} (f : A → B) (o : Option A) → option_map f o ≡ None → o ≡ None
no-text f None e = refl
no-text f (Some x) e = absurd (cc)

none-told : (entries : List Entry) (k : Tree) (p : Program) → told_difference entries k p false ≡ None → difference entries (values_of k) p ≡ None
unfolding told_difference
none-told entries k p none = no-text (difference_text p.params) (difference entries (values_of k) p) none

pub told-with-more : SameIsSameWithMore → SameIsToldWithMore
unfolding told_difference
told-with-more law entries k p none =
    ap (option_map (difference_text p.params)) (law entries (values_of k) p (none-told entries k p none))
