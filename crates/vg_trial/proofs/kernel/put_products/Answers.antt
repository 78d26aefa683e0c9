use Rattle.std.proofs.Common.{◌≡◌, ◌++◌, List, OnOk, ap, map, subst}
use Rattle.vg_trial.specs.Trial.{Piece, product_line, line_text, piece_seen}
use Rattle.vg_trial.proofs.kernel.put_products.Goals as goal

pub returns : goal.returns
returns c =
    let same : map piece_seen c.as_slice.result.now ≡ product_line c.args.to c.args.from = ap (map piece_seen) c.as_slice.ensures in
    subst (λ (ps : List Piece). OnOk c.put_line.result (c.put_line.new.to.items ≡ c.args.text.now.items ++ line_text ps)) same c.put_line.ensures
