-- The numbered values of a kernel in its place.
use Rattle.std.proofs.Common.{◌≡◌, ℕ, zero, suc, ◌<◌, ◌^◌, List, [], ◌∷◌, map, refl, sym, ap, ◌∙◌, subst, arith}
use Rattle.std.specs.Prelude.{All}
use Rattle.std.specs.List.{AllZip, filter_map}
use Rattle.vg_bits.specs.BitList.{IsBytes}
use Rattle.vg_kernel.specs.declared.parameter.KParam.{KParam}
use Rattle.vg_kernel.specs.declared.parameter.KParamKind.{KParamKind}
use Rattle.vg_kernel.specs.declared.parameter.KParamKind.TheVariants as kinds
use Rattle.vg_shapes.specs.Sound.{AreArguments}
use Rattle.vg_shapes.specs.Units.{integers, integers_of}
use Rattle.vg_ssa.specs.Numbering.{IsNumbering}
use Rattle.vg_ssa.specs.Numbering as ssa
use Rattle.vg_ssa.specs.StandsFor.{StandsFor}
use Rattle.vg_rewrite.proofs.Apart.{standing-is_apart}
use Rattle.vg_kernel.specs.Tree.{Tree}
use Rattle.vg_shapes.specs.declared.ssa.Ssa.{Ssa}
use Rattle.vg_emission.specs.Program as emitted
use Rattle.vg_compile.specs.Laws.{UnitsMeanKernels}
use Rattle.vg_compile.specs.Rewritten.{StandIn}
use Rattle.vg_compile.specs.Means.{Means, integer_bits, param_of}

-- ---- parameters

same-kind : (k : KParamKind) → emitted.kind_of (ssa.kind_of k) ≡ Rattle.vg_compile.specs.Means.kind_of k
same-kind (kinds.Pointer noalias) = refl
same-kind (kinds.Integer w) = refl

same-params : (ps : List KParam) → map emitted.param_of (map ssa.param_of ps) ≡ map param_of ps
same-params [] = refl
same-params (p ∷ ps) = λ i. record { name = p.name; kind = same-kind p.kind i } ∷ same-params ps i

-- ---- bytes and arguments

all-bytes : (bs : List ℕ) → All (λ b. b < 2 ^ 8) bs → IsBytes bs
all-bytes [] h = tt
all-bytes (b ∷ bs) h =
    (h zero b (omega arith), all-bytes bs (λ k d less. h (suc k) d (omega (arith, less))))

are-arguments : (ps : List KParam) (args : List ℕ)
    → AllZip (λ w n. n < 2 ^ w) (filter_map (λ p. integer_bits p.kind) ps) args
    → AreArguments (integers_of (map ssa.param_of ps)) args
are-arguments [] [] h = refl
are-arguments [] (n ∷ ns) h = absurd h
are-arguments (p ∷ ps) args h = by p.kind refl args h (λ ns. are-arguments ps ns)
  where
    by : (k : KParamKind) → p.kind ≡ k → (ns : List ℕ)
        → AllZip (λ w n. n < 2 ^ w) (filter_map (λ p. integer_bits p.kind) (p ∷ ps)) ns
        → ((ns : List ℕ) → AllZip (λ w n. n < 2 ^ w) (filter_map (λ p. integer_bits p.kind) ps) ns → AreArguments (integers_of (map ssa.param_of ps)) ns)
        → AreArguments (integers_of (map ssa.param_of (p ∷ ps))) ns
    by (kinds.Pointer noalias) e ns h rest = rw e (rest ns (rw e at h))
    by (kinds.Integer w) e [] h rest = absurd (let g = rw e at h in g)
    by (kinds.Integer w) e (n ∷ ns) h rest = let g = rw e at h in rw e (g.0, rest ns g.1)

pub units-mean-kernels : UnitsMeanKernels
units-mean-kernels called k s p stands name params means = record {
  name = name ∙ stands.named;
  params = params ∙ ap (map emitted.param_of) stands.over ∙ same-params k.params;
  same = λ memory places args input.
      let are : AreArguments (integers s) args = subst (λ ps. AreArguments (integers_of ps) args) (sym stands.over) (are-arguments k.params args input.integers) in
      means memory places args (all-bytes memory input.bytes) are ((stands.apart.layouts places).0 input.layout)
      ∙ stands.apart.runs memory places args (all-bytes memory input.bytes) are input.layout;
}

-- a kernel's numbered values stand in its place
pub own-stand : (k : Tree) (own : Ssa) → IsNumbering k own → StandsFor k own → StandIn k own
own-stand k own is stands = record { named = is.name; over = is.params; apart = standing-is_apart k own stands }
