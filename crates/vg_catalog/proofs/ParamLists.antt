-- Parameters of a header, one step of reading them.
use Rattle.std.proofs.Common.{◌≡◌, ℕ, zero, suc, ◌+◌, ◌<◌, Bool, true, false, List, [], ◌∷◌, ◌++◌, Result, Ok, refl, arith}
use Rattle.std.specs.Prelude.{codes}
use Rattle.vg_base.proofs.Gives.{fails_bind}
use Rattle.vg_text.specs.Words.{Reading}
use Rattle.vg_pseudo.specs.declared.header.Param.{Param}
use Rattle.vg_catalog.specs.declared.fault.CatalogFault.{CatalogFault}
use Rattle.vg_catalog.specs.Gives.{told, Fails}
use Rattle.vg_catalog.specs.Words.{optional_word}
use Rattle.vg_catalog.specs.Headers.{param_at, params_from}

-- the word that announces a parameter
abbrev pub announced : Reading → Result (Bool × Reading) CatalogFault
announced r = optional_word (codes "PARAM") r

pub word-fails : (room : ℕ) (done : List Param) (r : Reading) (f : CatalogFault) → 0 < room → Fails f (announced r) → Fails f (params_from room done r)
unfolding params_from
word-fails zero done r f some e = absurd (omega arith)
word-fails (suc room) done r f some e = fails_bind (told f) (announced r) _ e

pub params-end : (room : ℕ) (done : List Param) (r q : Reading) (b : Bool) → 0 < room → announced r ≡ Ok (b, q) → b ≡ false → params_from room done r ≡ Ok (done, q)
unfolding params_from
params-end zero done r q b some e n = absurd (omega arith)
params-end (suc room) done r q b some e n = rw (e, n) refl

pub params-full : (room : ℕ) (done : List Param) (r : Reading) → room ≡ 0 → params_from room done r ≡ Ok (done, r)
unfolding params_from
params-full zero done r e = refl
params-full (suc room) done r e = absurd (omega (arith, e))

pub params-more : (room less : ℕ) (done : List Param) (p : Param) (r q s : Reading) (b : Bool) → room ≡ less + 1 → announced r ≡ Ok (b, q) → b ≡ true → param_at done q ≡ Ok (p, s) → params_from less (done ++ p ∷ []) s ≡ params_from room done r
unfolding params_from
params-more zero less done p r q s b e word y read = absurd (omega (arith, e))
params-more (suc room) less done p r q s b e word y read = let same : room ≡ less = omega (arith, e) in rw (word, y, read, same) refl

pub param-fails : (room : ℕ) (done : List Param) (r q : Reading) (b : Bool) (f : CatalogFault) → 0 < room → announced r ≡ Ok (b, q) → b ≡ true → Fails f (param_at done q) → Fails f (params_from room done r)
unfolding params_from
param-fails zero done r q b f some word y e = absurd (omega arith)
param-fails (suc room) done r q b f some word y e = rw (word, y) (fails_bind (told f) (param_at done q) _ e)
