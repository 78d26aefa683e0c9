use Rattle.std.proofs.Common.{◌≡◌, ◌∙◌, ◌++◌, ◌∷◌, [], ap, sym, subst, map, take, drop, ◌+◌}
use Rattle.std.proofs.lemmas.List.{map-append}
use Rattle.vg_base.specs.Gives.{FailsBy}
use Rattle.vg_pseudo.specs.Resolve.{functions_of}
use Rattle.vg_pseudo.specs.Tree.{define_of}
use Rattle.vg_names.specs.Naming.{told}
use Rattle.vg_names.specs.Views.{function_view}
use Rattle.vg_names.proofs.LastOfNames.{one_more_mapped}
use Rattle.vg_names.proofs.ResolvingAll.{functions_done, one_done, one_fails}
use Rattle.vg_names.proofs.SortingLocals.{rest_at}
use Rattle.vg_names.proofs.operation.resolved_defines.Goals as goal

pub defines-preserved : goal.defines-preserved
defines-preserved c =
    let i = c.defines.define-index in
    let defines = c.args.defines.now in
    let x = c.define-item.result in
    let d = define_of x in
    let rest = map define_of (drop (i + 1) defines) in
    let more : c.in_ok-names.names ≡ c.defines.names ++ d.name ∷ [] = c.in_ok-names.ensures ∙ ap (λ n. c.defines.names ++ n ∷ []) c.bytes.ensures in
    let done : map function_view c.push.new.self.items ≡ map function_view c.defines.functions.items ++ function_view c.in-Ok.function ∷ [] =
    ap (map function_view) c.in_ok-push.ensures.items ∙ map-append function_view c.defines.functions.items (c.in-Ok.function ∷ []) in
    let left : map define_of (drop i defines) ≡ d ∷ rest =
    ap (map define_of) (rest_at defines i x c.defines-test.true) ∙ ap (λ y. define_of y ∷ rest) (sym c.define-item.is) in
    record {
      same =
          ap (λ fs. functions_done fs (functions_of c.in_ok-names.names rest)) done
          ∙ ap (λ ns. functions_done (map function_view c.defines.functions.items ++ function_view c.in-Ok.function ∷ []) (functions_of ns rest)) more
          ∙ one_done (map function_view c.defines.functions.items) (function_view c.in-Ok.function) c.defines.names d rest c.in-Ok.ensures
          ∙ ap (λ ds. functions_done (map function_view c.defines.functions.items) (functions_of c.defines.names ds)) (sym left)
          ∙ c.defines.invariant.same;
      names =
          more ∙ ap (λ ns. ns ++ d.name ∷ []) c.defines.invariant.names
          ∙ sym (ap (map (λ e. e.name)) (one_more_mapped define_of defines i x c.defines-test.true c.define-item.is) ∙ map-append (λ e. e.name) (map define_of (take i defines)) (d ∷ []));
    }

pub returns-in-Err-clause-functions : goal.returns-in-Err-clause-functions
returns-in-Err-clause-functions c =
    let i = c.defines.define-index in
    let defines = c.args.defines.now in
    let x = c.define-item.result in
    let rest = map define_of (drop (i + 1) defines) in
    let done = map function_view c.defines.functions.items in
    let left : map define_of (drop i defines) ≡ define_of x ∷ rest =
    ap (map define_of) (rest_at defines i x c.defines-test.true) ∙ ap (λ y. define_of y ∷ rest) (sym c.define-item.is) in
    subst (FailsBy (told c.in-Err.fault))
    (sym (ap (λ ds. functions_done done (functions_of c.defines.names ds)) left) ∙ c.defines.invariant.same)
    (one_fails done c.defines.names (define_of x) rest (told c.in-Err.fault) c.in-Err.ensures)
