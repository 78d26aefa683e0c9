-- Lists of items are read, one item after the other.
use Rattle.std.proofs.Common.{◌≡◌, ℕ, zero, suc, ◌<◌, true, false, List, [], ◌∷◌, ◌++◌, Result, Ok, sym, ◌∙◌, ap, arith, append_assoc, append-nil}
use Rattle.vg_base.proofs.Bind.{bind_to}
use Rattle.vg_text.specs.Words.{Reading}
use Rattle.vg_pseudo.specs.declared.fault.PseudoFault.{PseudoFault}
use Rattle.vg_pseudo.specs.Reader.{unread, Follows, items_from, items_behind}

-- the steps of reading items, up to where none follows
pub data Steps {X : Type 0} (follows : Follows) (item : Reading → Result (X × Reading) PseudoFault) : List X → Reading → Reading → Type 0 where
  ended : (r m : Reading) → follows r ≡ Ok (false, m) → Steps follows item [] r m
  step : (r q s m : Reading) (x : X) (xs : List X) → follows r ≡ Ok (true, q) → item q ≡ Ok (x, s) → unread s < unread r → Steps follows item xs s m → Steps follows item (x ∷ xs) r m

module _ {X : Type 0} (follows : Follows) (item : Reading → Result (X × Reading) PseudoFault) where
  from-again : (xs : List X) (r m : Reading) → Steps follows item xs r m → (room : ℕ) (done : List X) → unread r < room → items_from follows item room done r ≡ Ok (done ++ xs, m)
  unfolding items_from
  from-again xs r m steps zero done few = absurd (omega arith)
  from-again _ _ _ (ended r m e) (suc room) done few = bind_to (follows r) _ e (ap (λ (l : List X). Ok (l, m)) (sym (append-nil done)))
  from-again _ _ _ (step r q s m x xs e f fewer others) (suc room) done few =
      bind_to (follows r) _ e
      (bind_to (item q) _ f (from-again xs s m others room (done ++ x ∷ []) (omega arith) ∙ ap (λ (l : List X). Ok (l, m)) (append_assoc done (x ∷ []) xs)))

  pub steps-again : (done : List X) {xs : List X} {r m : Reading} → Steps follows item xs r m → items_behind follows item done r ≡ Ok (done ++ xs, m)
  steps-again done {xs} {r} {m} steps = from-again xs r m steps (suc (unread r)) done (omega arith)
