use Rattle.std.proofs.Common.{◌++◌, ◌∙◌, ap, map}
use Rattle.vg_forms.specs.Runs.{bits_in, cut_run}
use Rattle.vg_forms.proofs.Cutting.{cut_runs}
use Rattle.vg_forms.proofs.classes.Classes.cut_runs.Goals as goal

pub returns : goal.returns
returns c =
    ap bits_in (c.in_ok-push_cut.ensures ∙ ap (λ x. x ++ map (cut_run c.args.self.now) c.args.runs.now) c.in_ok-all.ensures.items)
    ∙ cut_runs c.args.self.now c.args.runs.now
