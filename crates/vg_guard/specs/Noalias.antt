-- A kernel with every pointer `noalias`.
use Rattle.std.specs.Prelude.{map, true}
use Rattle.vg_kernel.specs.declared.parameter.KParam.{KParam}
use Rattle.vg_kernel.specs.declared.parameter.KParamKind.{KParamKind}
use Rattle.vg_kernel.specs.declared.parameter.KParamKind.TheVariants.{Pointer, Integer}
use Rattle.vg_kernel.specs.Tree.{Tree}

-- a kind, with a pointer `noalias`
abbrev pub noalias_kind : KParamKind → KParamKind
noalias_kind (Pointer noalias) = Pointer true
noalias_kind (Integer w) = Integer w

abbrev pub noalias_param : KParam → KParam
noalias_param p = record { name = p.name; kind = noalias_kind p.kind }

-- the same name and statements, and the parameters so
abbrev pub all_noalias : Tree → Tree
all_noalias k =
    record { name = k.name; params = map noalias_param k.params; statements = k.statements }
