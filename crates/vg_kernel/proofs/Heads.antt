-- What is read as a head, and as statements after one, is well formed.
use Rattle.std.proofs.Common.{◌≡◌, ◌≤◌, List, [], length, Ok, sym, subst, arith}
use Rattle.std.specs.Prelude.{codes, sum_by}
use Rattle.vg_base.proofs.Bind.{bind_ok}
use Rattle.vg_text.specs.declared.place.Place.{Place}
use Rattle.vg_text.specs.Words.{Reading}
use Rattle.vg_kernel.specs.declared.head.Head.{Head}
use Rattle.vg_kernel.specs.Cost.{uses_of}
use Rattle.vg_kernel.specs.Names.{names_of}
use Rattle.vg_kernel.specs.Reader.{expect_at, end_at, name_at}
use Rattle.vg_kernel.specs.Statements.{parameters_at, statements_at, head_at, block_at, body_at}
use Rattle.vg_kernel.specs.Tree.{Statement, Tree}
use Rattle.vg_kernel.specs.WellFormed.{AreStatements, IsHead, IsWellFormed}
use Rattle.vg_kernel.proofs.KernelsFound.{parameters-found}
use Rattle.vg_kernel.proofs.OperandsFound.{at}
use Rattle.vg_kernel.proofs.Scripts.{ok_once, name-found}
use Rattle.vg_kernel.proofs.StatementsFound.{statements-found}
use Rattle.vg_kernel.proofs.WellFormed.{names-free, statements-well_formed}

pub head-well_formed : (r : Reading) (x : Head × Reading) → head_at r ≡ Ok x → IsHead x.0
unfolding head_at
head-well_formed r x e =
    let n = bind_ok (name_at r) _ e in
    let o = bind_ok (expect_at (codes "(") n.0.1) _ n.2 in
    let p = bind_ok (parameters_at o.0) _ o.2 in
    let name = name-found r n.0 n.1 in
    let params = parameters-found o.0 p.0 p.1 in
    let headed : Head × Reading = (record { name = n.0.0.bytes; params = p.0.0 }, p.0.1) in
    subst (λ (q : Head × Reading). IsHead q.0) (ok_once headed x p.2)
    (record { name = name.0; names = names-free params.words p.0.0 params.are; distinct = params.distinct; params = params.few })

pub block-well_formed : (h : Head) (r : Reading) (x : (Tree × Place) × Reading) → IsHead h → block_at h r ≡ Ok x → IsWellFormed x.0.0
unfolding block_at
block-well_formed h r x is e =
    let b = bind_ok (expect_at (codes "{") r) _ e in
    let s = bind_ok (statements_at 4096 (names_of h.params) [] (at b.0 0)) _ b.2 in
    let f = statements-found 4096 (names_of h.params) [] (at b.0 0) s.0 s.1 in
    let uses = f.uses (omega arith) in
    let closed : (Tree × Place) × Reading = ((record { name = h.name; params = h.params; statements = s.0.0.0 }, s.0.0.1), s.0.1) in
    subst (λ (q : (Tree × Place) × Reading). IsWellFormed q.0.0) (ok_once closed x s.2)
    (record {
      name = is.name;
      names = is.names;
      distinct = is.distinct;
      params = is.params;
      each = subst (AreStatements h.params []) (sym f.all) (statements-well_formed (names_of h.params) f.words f.rest f.are);
      statements = subst (λ (t : List Statement). length t ≤ 4096) (sym f.all) f.few;
      uses = subst (λ (t : List Statement). sum_by uses_of t ≤ 8192) (sym f.all) (omega (arith, uses));
    })

pub body-well_formed : (h : Head) (r : Reading) (x : Tree × Reading) → IsHead h → body_at h r ≡ Ok x → IsWellFormed x.0
unfolding body_at
body-well_formed h r x is e =
    let l = bind_ok (block_at h r) _ e in
    let d = bind_ok (end_at l.0.1) _ l.2 in
    let read : Tree × Reading = (l.0.0.0, d.0) in
    subst (λ (q : Tree × Reading). IsWellFormed q.0) (ok_once read x d.2) (block-well_formed h r l.0 is l.1)
