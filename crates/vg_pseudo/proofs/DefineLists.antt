-- DEFINEs, one step of reading them.
use Rattle.std.proofs.Common.{◌≡◌, ℕ, zero, suc, ◌<◌, Bool, true, false, List, [], Result, Ok, refl, sym, ◌∙◌, ap, subst, arith}
use Rattle.std.specs.Prelude.{codes}
use Rattle.vg_base.specs.Bind.{◌>>=◌}
use Rattle.vg_text.specs.Words.{Reading}
use Rattle.vg_pseudo.specs.declared.fault.PseudoFault.{PseudoFault}
use Rattle.vg_pseudo.specs.Definitions.{Known, Context}
use Rattle.vg_pseudo.specs.Reads.{Fails}
use Rattle.vg_pseudo.specs.Reader.{unread, accept_at}
use Rattle.vg_pseudo.specs.Operations.{Defined, Defines, and_define, define_at, defines_from, defines_at}
use Rattle.vg_pseudo.proofs.ItemLists.{fails-bind}

-- where a DEFINE is read after these
abbrev pub inside : List Known → Context
inside known = record { known = known; inside = true }

-- a DEFINE is read
pub as_inside : (x : Context) → x.inside ≡ true → x ≡ inside x.known
as_inside x e = ap (λ (b : Bool). record { known = x.known; inside = b }) e

-- DEFINEs after those that are done, read from here on, are the whole
pub record GoesOn (whole : Result (Defines × Reading) PseudoFault) (done : Defines) (r : Reading) : Type 0 where
  pub room : ℕ
  pub enough : unread r < room
  pub read : defines_from room done r ≡ whole

module _ (whole : Result (Defines × Reading) PseudoFault) where
  -- what stands after the test
  abbrev step : ℕ → Defines → Bool × Reading → Result (Defines × Reading) PseudoFault
  step room done (true, r) = define_at (inside done.known) r >>= λ d. defines_from room (and_define done d.0) d.1
  step room done (false, r) = Ok (done, r)

  stepped : (room : ℕ) (done : Defines) (r : Reading) (b : Bool × Reading) → accept_at (codes "DEFINE") r ≡ Ok b → defines_from (suc room) done r ≡ step room done b
  unfolding defines_from
  stepped room done r (true, q) e = rw e refl
  stepped room done r (false, q) e = rw e refl

  pub test-fails : (done : Defines) (r : Reading) (fault : PseudoFault) → GoesOn whole done r → Fails fault (accept_at (codes "DEFINE") r) → Fails fault whole
  unfolding defines_from
  test-fails done r fault g e = by g.room g.enough g.read
    where
      by : (room : ℕ) → unread r < room → defines_from room done r ≡ whole → Fails fault whole
      by zero few read = absurd (omega arith)
      by (suc room) few read = subst (Fails fault) read (fails-bind fault (accept_at (codes "DEFINE") r) _ e)

  pub ends : (done : Defines) (r q : Reading) (b : Bool) → GoesOn whole done r → accept_at (codes "DEFINE") r ≡ Ok (b, q) → b ≡ false → whole ≡ Ok (done, q)
  ends done r q b g e n = by g.room g.enough g.read
    where
      by : (room : ℕ) → unread r < room → defines_from room done r ≡ whole → whole ≡ Ok (done, q)
      by zero few read = absurd (omega arith)
      by (suc room) few read = sym read ∙ stepped room done r (false, q) (rw n at e)

  pub item-fails : (done : Defines) (r q : Reading) (b : Bool) (fault : PseudoFault) → GoesOn whole done r → accept_at (codes "DEFINE") r ≡ Ok (b, q) → b ≡ true → Fails fault (define_at (inside done.known) q) → Fails fault whole
  item-fails done r q b fault g e y f = by g.room g.enough g.read
    where
      by : (room : ℕ) → unread r < room → defines_from room done r ≡ whole → Fails fault whole
      by zero few read = absurd (omega arith)
      by (suc room) few read = subst (Fails fault) (sym (stepped room done r (true, q) (rw y at e)) ∙ read) (fails-bind fault (define_at (inside done.known) q) _ f)

  pub goes_on : (done : Defines) (r q s : Reading) (b : Bool) (d : Defined) → GoesOn whole done r → accept_at (codes "DEFINE") r ≡ Ok (b, q) → b ≡ true → define_at (inside done.known) q ≡ Ok (d, s) → unread s < unread r → GoesOn whole (and_define done d) s
  goes_on done r q s b d g e y f fewer = by g.room g.enough g.read
    where
      by : (room : ℕ) → unread r < room → defines_from room done r ≡ whole → GoesOn whole (and_define done d) s
      by zero few read = absurd (omega arith)
      by (suc room) few read = record {
        room = room;
        enough = omega arith;
        read = sym (stepped room done r (true, q) (rw y at e) ∙ rw f refl) ∙ read;
      }

pub begins : (r : Reading) → GoesOn (defines_at r) (record { defines = []; known = [] }) r
begins r = record { room = suc (unread r); enough = omega arith; read = refl }
