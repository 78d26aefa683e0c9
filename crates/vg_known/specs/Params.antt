-- Whether a program has the name and the parameters of a kernel.
use Rattle.std.specs.Prelude.{Bool, true, false, ◌&&◌, nat_eq, List, [], ◌∷◌}
use Rattle.std.specs.Str.{bytes_eq}
use Rattle.vg_base.specs.Width.{bits_of}
use Rattle.vg_program.specs.declared.param.Param.{Param}
use Rattle.vg_program.specs.declared.param_kind.ParamKind.{ParamKind}
use Rattle.vg_program.specs.declared.param_kind.ParamKind.TheVariants as kind
use Rattle.vg_program.specs.declared.program.Program.{Program}
use Rattle.vg_shapes.specs.declared.ssa.Ssa.{Ssa}
use Rattle.vg_shapes.specs.declared.ssa.SsaParam.{SsaParam}
use Rattle.vg_shapes.specs.declared.ssa.SsaParamKind.{SsaParamKind}
use Rattle.vg_shapes.specs.declared.ssa.SsaParamKind.TheVariants.{Pointer, Integer}

-- `noalias` is no part of it
abbrev pub same_kind : SsaParamKind → ParamKind → Bool
same_kind (Pointer noalias) kind.Pointer = true
same_kind (Pointer noalias) (kind.Integer w) = false
same_kind (Integer v) kind.Pointer = false
same_kind (Integer v) (kind.Integer w) = nat_eq (bits_of v) (bits_of w)

abbrev pub same_params : List SsaParam → List Param → Bool
same_params [] [] = true
same_params [] (q ∷ qs) = false
same_params (p ∷ ps) [] = false
same_params (p ∷ ps) (q ∷ qs) =
    (bytes_eq p.name q.name && same_kind p.kind q.kind) && same_params ps qs

abbrev pub same_head : Ssa → Program → Bool
same_head ssa p = bytes_eq ssa.name p.name && same_params ssa.params p.params
