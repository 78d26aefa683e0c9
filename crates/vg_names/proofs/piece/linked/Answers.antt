use Rattle.std.proofs.Common.{◌≡◌, sym, ◌∙◌, ap, map, Result, Ok, refl}
use Rattle.vg_pseudo.specs.Resolve.{NameFault}
use Rattle.vg_pseudo.specs.Resolved.{Code}
use Rattle.vg_names.specs.Pieces.{behind, code_behind}
use Rattle.vg_names.specs.Views.{code_view}
use Rattle.vg_names.proofs.Stepping.{behind_last}
use Rattle.vg_names.proofs.piece.linked.Goals as goal

-- the value of a step that went well
ok-is : {x y : Code} (r : Result Code NameFault) → r ≡ Ok x → r ≡ Ok y → x ≡ y
ok-is r e f = cc

pub statements-preserved : goal.statements-preserved
statements-preserved c =
    ap (code_behind (map behind c.pop.new.self.items)) (sym (ok-is _ refl c.in-Ok.ensures))
    ∙ sym (behind_last behind c.pop.new.self.items c.in-Some.piece (code_view c.statements.code))
    ∙ ap (λ d. code_behind (map behind d) (code_view c.statements.code)) (sym c.in-Some.ensures.items)
    ∙ c.statements.invariant
