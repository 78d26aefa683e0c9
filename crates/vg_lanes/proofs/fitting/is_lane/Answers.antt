use Rattle.std.proofs.Common.{◌≡◌, sym, ap, ◌∙◌, map}
use Rattle.vg_terms.specs.Term.{tree}
use Rattle.vg_lanes.specs.Described.{registers}
use Rattle.vg_lanes.specs.Inside.{leaves_inside}
use Rattle.vg_lanes.proofs.Inside.{all-inside, inside-all}
use Rattle.vg_lanes.proofs.fitting.is_lane.Goals as goal

pub returns-then-wide : goal.returns-then-wide
returns-then-wide c =
    let ws = registers c.args.header.now in
    let t = tree c.args.term.now in
    let same : c.leaves_inside-inside.result ≡ leaves_inside ws t =
    c.leaves_inside-inside.ensures ∙ ap (λ ps. leaves_inside (map (λ p. p.register) ps) t) c.as_slice.ensures in (
      λ h. record {
        formed = c.is_well_formed-formed.ensures.0 c.if-formed.true;
        wide = sym c.width.ensures ∙ c.if-wide.true;
        inside = all-inside ws t (sym same ∙ h);
      },
      λ l. same ∙ inside-all ws t l.inside,
    )
