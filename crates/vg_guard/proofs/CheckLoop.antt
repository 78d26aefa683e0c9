-- One turn of the loop over the checks of a text, exit by exit.
use Rattle.std.proofs.Common.{◌≡◌, ℕ, zero, suc, ◌+◌, ◌<◌, List, [], ◌∷◌, ◌++◌, true, false, Ok, Err, refl, arith}
use Rattle.std.specs.Prelude.{codes}
use Rattle.vg_program.specs.declared.param.Param.{Param}
use Rattle.vg_program.specs.declared.stop.Stop.{Stop}
use Rattle.vg_program.specs.Tokens.{unfit, is_word}
use Rattle.vg_guard.specs.declared.check.Check.{Check}
use Rattle.vg_guard.specs.Grammar.{check_at, checks_at, pair_of}

pub checks_ended : (room : ℕ) (ps : List Param) (done : List Check) (last : ℕ × ℕ) (text : List ℕ) → is_word (codes "then") text ≡ true → checks_at room ps done last text ≡ Ok (done, text)
unfolding checks_at
checks_ended zero ps done last text e = rw e refl
checks_ended (suc room) ps done last text e = rw e refl

pub checks_full : (room : ℕ) (ps : List Param) (done : List Check) (last : ℕ × ℕ) (text : List ℕ) → room ≡ 0 → is_word (codes "then") text ≡ false → checks_at room ps done last text ≡ Err (unfit text)
unfolding checks_at
checks_full room ps done last text r e = rw (r, e) refl

pub checks_fault : (room : ℕ) (ps : List Param) (done : List Check) (last : ℕ × ℕ) (text : List ℕ) (stop : Stop) → 0 < room → is_word (codes "then") text ≡ false → check_at ps last text ≡ Err stop → checks_at room ps done last text ≡ Err stop
unfolding checks_at
checks_fault zero ps done last text stop h e l = absurd (omega arith)
checks_fault (suc room) ps done last text stop h e l = rw (e, l) refl

pub checks_more : (room next : ℕ) (ps : List Param) (done : List Check) (last : ℕ × ℕ) (text : List ℕ) (check : Check) (behind : List ℕ) → room ≡ next + 1 → is_word (codes "then") text ≡ false → check_at ps last text ≡ Ok (check, behind) → checks_at room ps done last text ≡ checks_at next ps (done ++ check ∷ []) (pair_of check) behind
unfolding checks_at
checks_more zero next ps done last text check behind r e l = absurd (omega arith)
checks_more (suc room) next ps done last text check behind r e l = let same : next ≡ room = omega arith in rw (e, l, same) refl
