-- A program whose head is that of the kernel, as one without a difference, has its name and parameters.
use Rattle.std.proofs.Common.{◌≡◌, ◌&&◌, true, List, [], ◌∷◌, map, refl, sym, ap, ◌∙◌}
use Rattle.std.specs.Str.{bytes_eq}
use Rattle.std.proofs.lemmas.Bool.{and_parts, eqb-true}
use Rattle.vg_base.specs.Width.{bits_of}
use Rattle.vg_base.proofs.SameWidth.{width-same}
use Rattle.vg_program.specs.declared.param.Param.{Param}
use Rattle.vg_program.specs.declared.param_kind.ParamKind.{ParamKind}
use Rattle.vg_program.specs.declared.param_kind.ParamKind.TheVariants as kind
use Rattle.vg_program.specs.declared.program.Program.{Program}
use Rattle.vg_program.proofs.Steps.{same_bytes}
use Rattle.vg_shapes.specs.declared.ssa.Ssa.{Ssa}
use Rattle.vg_shapes.specs.declared.ssa.SsaParam.{SsaParam}
use Rattle.vg_shapes.specs.declared.ssa.SsaParamKind.{SsaParamKind}
use Rattle.vg_shapes.specs.declared.ssa.SsaParamKind.TheVariants.{Pointer, Integer}
use Rattle.vg_catalog.specs.Entries.{Entry}
use Rattle.vg_emission.specs.Program.{kind_of, param_of}
use Rattle.vg_known.specs.Difference.{difference_by, Equality}
use Rattle.vg_known.specs.Params.{same_head, same_kind, same_params}
use Rattle.vg_known.proofs.Absent.{absent}
use Rattle.vg_verify.specs.declared.verdict.Verdict.{Verdict}
use Rattle.vg_verify.specs.declared.verdict.Verdict.TheVariants.{Same}
use Rattle.vg_verify.specs.Heads.{HasHead}
use Rattle.vg_verify.specs.Verdicts.{verdict_of}

kind-same : (k : SsaParamKind) (l : ParamKind) → same_kind k l ≡ true → l ≡ kind_of k
kind-same (Pointer noalias) kind.Pointer e = refl
kind-same (Pointer noalias) (kind.Integer w) e = absurd (cc)
kind-same (Integer v) kind.Pointer e = absurd (cc)
kind-same (Integer v) (kind.Integer w) e = ap kind.Integer (sym (width-same v w (eqb-true (bits_of v) (bits_of w) e)))

param-same : (p : SsaParam) (q : Param) → (bytes_eq p.name q.name && same_kind p.kind q.kind) ≡ true → q ≡ param_of p
param-same p q e =
    let both = and_parts (bytes_eq p.name q.name) (same_kind p.kind q.kind) e in
    let name = sym (same_bytes p.name q.name both.0) in
    let same = kind-same p.kind q.kind both.1 in
    λ i. record { name = name i; kind = same i }

params-same : (ps : List SsaParam) (qs : List Param) → same_params ps qs ≡ true → qs ≡ map param_of ps
params-same [] [] e = refl
params-same [] (q ∷ qs) e = absurd (cc)
params-same (p ∷ ps) [] e = absurd (cc)
params-same (p ∷ ps) (q ∷ qs) e =
    let both = and_parts (bytes_eq p.name q.name && same_kind p.kind q.kind) (same_params ps qs) e in
    ap (λ x. x ∷ qs) (param-same p q both.0) ∙ ap (λ xs. param_of p ∷ xs) (params-same ps qs both.1)

-- a program whose head is tested to be that of a kernel has it
pub head_is : (ssa : Ssa) (p : Program) → same_head ssa p ≡ true → HasHead ssa p
head_is ssa p t =
    let both = and_parts (bytes_eq ssa.name p.name) (same_params ssa.params p.params) t in
    record {
      name = sym (same_bytes ssa.name p.name both.0);
      params = params-same ssa.params p.params both.1;
    }

pub head_same : (equal : Equality) (entries : List Entry) (ssa : Ssa) (p : Program) (v : Verdict)
    → verdict_of v ≡ difference_by equal entries ssa p → v ≡ Same → HasHead ssa p
head_same equal entries ssa p v exact same = head_is ssa p
    (absent equal entries ssa p (sym exact ∙ ap verdict_of same)).head
