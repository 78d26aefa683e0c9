-- The widths of integer parameters, one after the other.
use Rattle.std.proofs.Common.{◌≡◌, ℕ, zero, suc, ◌<◌, List, [], ◌∷◌, length, map, Some, None, refl, ap, ◌∙◌, arith}
use Rattle.std.specs.Prelude.{nat_lt, slice_get, slice_index_or, if◌then◌else◌}
use Rattle.std.specs.List.{cons_option}
use Rattle.std.specs.Option.{option_map}
use Rattle.std.proofs.lemmas.Bool.{cond-true, lt-ltb}
use Rattle.std.proofs.lemmas.List.{length-map}
use Rattle.vg_base.specs.Trap.{◌>>=◌}
use Rattle.vg_base.specs.declared.width.Width.{Width}
use Rattle.vg_base.specs.Width.{bits_of}
use Rattle.vg_rewrite.proofs.AtUnits.{spans-front}
use Rattle.vg_rewrite.proofs.Known.{some-same}
use Rattle.vg_shapes.specs.declared.ssa.Ssa.{Ssa}
use Rattle.vg_shapes.specs.declared.ssa.SsaParam.{SsaParam}
use Rattle.vg_shapes.specs.declared.ssa.SsaParamKind.{SsaParamKind}
use Rattle.vg_shapes.specs.declared.ssa.SsaParamKind.TheVariants.{Pointer, Integer}
use Rattle.vg_shapes.specs.Sound.{kind_bits, unit_bits, value_bits}
use Rattle.vg_shapes.specs.Units.{arguments, integers, integers_of, is_integer, unit_at}
use Rattle.vg_spans.specs.Laws.{span_at}
use Rattle.vg_spans.specs.Span.{signed_span}
use Rattle.vg_spans.specs.Spans.{argument_spans}
use Rattle.vg_spans.proofs.Runs.{none}
use Rattle.vg_ssa.specs.OfUnits.{width_of_kind, widths_of}

record ParamAt (ps : List SsaParam) (v : ℕ) (w : Width) : Type 0 where
  param : SsaParam
  at : slice_get ps v ≡ Some param
  bits : kind_bits param.kind ≡ bits_of w

param-first : (p : SsaParam) (ps : List SsaParam) (ws : List Width) (kind : SsaParamKind) → p.kind ≡ kind → ((v : ℕ) (w : Width) → slice_get ws v ≡ Some w → ParamAt ps v w)
    → (v : ℕ) (w : Width) → slice_get (cons_option (width_of_kind kind) ws) v ≡ Some w → ParamAt (if is_integer kind then p ∷ ps else ps) v w
param-first p ps ws (Pointer noalias) e rest v w h = rest v w h
param-first p ps ws (Integer m) e rest zero w h = record { param = p; at = refl; bits = ap kind_bits e ∙ ap bits_of (some-same m w h) }
param-first p ps ws (Integer m) e rest (suc v) w h = let r = rest v w h in record { param = r.param; at = r.at; bits = r.bits }

param-at : (ps : List SsaParam) (v : ℕ) (w : Width) → slice_get (widths_of ps) v ≡ Some w → ParamAt (integers_of ps) v w
param-at [] v w h = absurd (cc)
param-at (p ∷ ps) v w h = param-first p (integers_of ps) (widths_of ps) p.kind refl (param-at ps) v w h

at-below : {A : Type 0} (xs : List A) (v : ℕ) (x : A) → slice_get xs v ≡ Some x → v < length xs
at-below [] v x e = absurd (cc)
at-below (y ∷ xs) zero x e = omega arith
at-below (y ∷ xs) (suc v) x e = let rest = at-below xs v x e in omega arith

map-at : {A B : Type 0} (f : A → B) (xs : List A) (v : ℕ) (x : A) (d : B) → slice_get xs v ≡ Some x → slice_index_or (map f xs) v d ≡ f x
map-at f [] v x d e = absurd (cc)
map-at f (y ∷ xs) zero x d e = ap f (some-same y x e)
map-at f (y ∷ xs) (suc v) x d e = map-at f xs v x d e

-- what is known of an integer parameter
pub record IsParameter (ssa : Ssa) (v : ℕ) (w : Width) : Type 0 where
  pub inside : v < arguments ssa
  pub unit : unit_at ssa v ≡ None
  pub bits : value_bits ssa v ≡ Some (bits_of w)
  pub spans : span_at ssa v ≡ signed_span (bits_of w)

pub is-parameter : (ssa : Ssa) (v : ℕ) (w : Width) → slice_get (widths_of ssa.params) v ≡ Some w → IsParameter ssa v w
is-parameter ssa v w h =
    let p = param-at ssa.params v w h in
    let inside = at-below (integers ssa) v p.param p.at in
    let test = lt-ltb v (arguments ssa) inside in
    let long = length-map (integers ssa) (λ q. signed_span (kind_bits q.kind)) in
    record {
      inside = inside;
      unit = cond-true (nat_lt v (arguments ssa)) None _ test;
      bits = cond-true (nat_lt v (arguments ssa)) (option_map (λ q. kind_bits q.kind) (slice_get (integers ssa) v)) (unit_at ssa v >>= unit_bits) test ∙ ap (option_map (λ q. kind_bits q.kind)) p.at ∙ ap Some p.bits;
      spans = spans-front (argument_spans ssa.params) ssa.units v (omega arith) ∙ map-at (λ (q : SsaParam). signed_span (kind_bits q.kind)) (integers ssa) v p.param none p.at ∙ ap signed_span p.bits;
    }
