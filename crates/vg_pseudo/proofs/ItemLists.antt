-- Lists of items, one step of reading them.
use Rattle.std.proofs.Common.{◌≡◌, ℕ, zero, suc, ◌<◌, Bool, true, false, List, [], ◌∷◌, ◌++◌, Result, Ok, refl, sym, ◌∙◌, subst, arith}
use Rattle.vg_base.specs.Bind.{◌>>=◌}
use Rattle.vg_text.specs.Words.{Reading}
use Rattle.vg_pseudo.specs.declared.fault.PseudoFault.{PseudoFault}
use Rattle.vg_base.proofs.Gives.{fails_bind}
use Rattle.vg_pseudo.specs.Reads.{told, Fails}
use Rattle.vg_pseudo.specs.Reader.{Follows, unread, items_from, items_behind}

-- a fault of a part is one of the whole
pub fails-bind : {A B : Type 0} (fault : PseudoFault) (r : Result A PseudoFault) (f : A → Result B PseudoFault) → Fails fault r → Fails fault (r >>= f)
fails-bind fault r f e = fails_bind (told fault) r f e

-- items after those that are done, read from here on, are the whole
pub record Goes {X : Type 0} (follows : Follows) (item : Reading → Result (X × Reading) PseudoFault) (whole : Result (List X × Reading) PseudoFault) (done : List X) (r : Reading) : Type 0 where
  pub room : ℕ
  pub enough : unread r < room
  pub read : items_from follows item room done r ≡ whole

module _ {X : Type 0} (follows : Follows) (item : Reading → Result (X × Reading) PseudoFault) (whole : Result (List X × Reading) PseudoFault) where
  -- what stands after the test
  abbrev step : ℕ → List X → Bool × Reading → Result (List X × Reading) PseudoFault
  step room done (true, r) = item r >>= λ x. items_from follows item room (done ++ x.0 ∷ []) x.1
  step room done (false, r) = Ok (done, r)

  stepped : (room : ℕ) (done : List X) (r : Reading) (b : Bool × Reading) → follows r ≡ Ok b → items_from follows item (suc room) done r ≡ step room done b
  unfolding items_from
  stepped room done r (true, q) e = rw e refl
  stepped room done r (false, q) e = rw e refl

  pub begins : (done : List X) (r : Reading) → Goes follows item (items_behind follows item done r) done r
  begins done r = record { room = suc (unread r); enough = omega arith; read = refl }

  pub test-fails : (done : List X) (r : Reading) (fault : PseudoFault) → Goes follows item whole done r → Fails fault (follows r) → Fails fault whole
  unfolding items_from
  test-fails done r fault g e = by g.room g.enough g.read
    where
      by : (room : ℕ) → unread r < room → items_from follows item room done r ≡ whole → Fails fault whole
      by zero few read = absurd (omega arith)
      by (suc room) few read = subst (Fails fault) read (fails-bind fault (follows r) _ e)

  pub ends : (done : List X) (r q : Reading) (b : Bool) → Goes follows item whole done r → follows r ≡ Ok (b, q) → b ≡ false → whole ≡ Ok (done, q)
  ends done r q b g e n = by g.room g.enough g.read
    where
      by : (room : ℕ) → unread r < room → items_from follows item room done r ≡ whole → whole ≡ Ok (done, q)
      by zero few read = absurd (omega arith)
      by (suc room) few read = sym read ∙ stepped room done r (false, q) (rw n at e)

  pub item-fails : (done : List X) (r q : Reading) (b : Bool) (fault : PseudoFault) → Goes follows item whole done r → follows r ≡ Ok (b, q) → b ≡ true → Fails fault (item q) → Fails fault whole
  item-fails done r q b fault g e y f = by g.room g.enough g.read
    where
      by : (room : ℕ) → unread r < room → items_from follows item room done r ≡ whole → Fails fault whole
      by zero few read = absurd (omega arith)
      by (suc room) few read = subst (Fails fault) (sym (stepped room done r (true, q) (rw y at e)) ∙ read) (fails-bind fault (item q) _ f)

  pub goes_on : (done : List X) (r q s : Reading) (b : Bool) (x : X) → Goes follows item whole done r → follows r ≡ Ok (b, q) → b ≡ true → item q ≡ Ok (x, s) → unread s < unread r → Goes follows item whole (done ++ x ∷ []) s
  goes_on done r q s b x g e y f fewer = by g.room g.enough g.read
    where
      by : (room : ℕ) → unread r < room → items_from follows item room done r ≡ whole → Goes follows item whole (done ++ x ∷ []) s
      by zero few read = absurd (omega arith)
      by (suc room) few read = record {
        room = room;
        enough = omega arith;
        read = sym (stepped room done r (true, q) (rw y at e) ∙ rw f refl) ∙ read;
      }
