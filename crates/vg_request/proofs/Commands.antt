-- The command that the first word is, where it is none of those before it.
use Rattle.std.proofs.Common.{◌≡◌, ◌∙◌, ℕ, true, false, List, [], ◌∷◌, drop, codes, Some, refl, sym, ap}
use Rattle.std.specs.Prelude.{slice_get, unwrap_or}
use Rattle.std.specs.Str.{bytes_eq}
use Rattle.vg_request.specs.Readable.{are_read, are_options, are_plain}
use Rattle.vg_request.specs.Request.{request_of, lift_words, explain_words, trial_words, check_words, terms_words}

begun : (ws : List (List ℕ)) (w : List ℕ) → slice_get ws 0 ≡ Some w → ws ≡ w ∷ drop 1 ws
begun [] w e = cc
begun (x ∷ ws) w e = ap (λ y. y ∷ ws) (ap (λ o. unwrap_or o x) e)

-- it is none of `compile`, `run`, `eval`
pub record IsBehindEval (w : List ℕ) : Type 0 where
  pub compile : bytes_eq w (codes "compile") ≡ false
  pub run : bytes_eq w (codes "run") ≡ false
  pub eval : bytes_eq w (codes "eval") ≡ false

pub lift_at : (ws : List (List ℕ)) (w : List ℕ) → slice_get ws 0 ≡ Some w → IsBehindEval w → bytes_eq w (codes "lift") ≡ true → request_of ws ≡ lift_words (drop 1 ws)
lift_at ws w e h is = ap request_of (begun ws w e) ∙ rw (h.compile, h.run, h.eval, is) refl

pub lift_read : (ws : List (List ℕ)) (w : List ℕ) → slice_get ws 0 ≡ Some w → IsBehindEval w → bytes_eq w (codes "lift") ≡ true → are_plain (drop 1 ws) ≡ are_read ws
lift_read ws w e h is = sym (ap are_read (begun ws w e) ∙ rw (h.compile, h.run, h.eval, is) refl)

pub explain_at : (ws : List (List ℕ)) (w : List ℕ) → slice_get ws 0 ≡ Some w → IsBehindEval w → bytes_eq w (codes "lift") ≡ false → bytes_eq w (codes "explain") ≡ true → request_of ws ≡ explain_words (drop 1 ws)
explain_at ws w e h lift is = ap request_of (begun ws w e) ∙ rw (h.compile, h.run, h.eval, lift, is) refl

pub explain_read : (ws : List (List ℕ)) (w : List ℕ) → slice_get ws 0 ≡ Some w → IsBehindEval w → bytes_eq w (codes "lift") ≡ false → bytes_eq w (codes "explain") ≡ true → are_options false (drop 1 ws) ≡ are_read ws
explain_read ws w e h lift is = sym (ap are_read (begun ws w e) ∙ rw (h.compile, h.run, h.eval, lift, is) refl)

pub trial_at : (ws : List (List ℕ)) (w : List ℕ) → slice_get ws 0 ≡ Some w → IsBehindEval w → bytes_eq w (codes "lift") ≡ false → bytes_eq w (codes "explain") ≡ false → bytes_eq w (codes "trial") ≡ true → request_of ws ≡ trial_words (drop 1 ws)
trial_at ws w e h lift explain is = ap request_of (begun ws w e) ∙ rw (h.compile, h.run, h.eval, lift, explain, is) refl

pub trial_read : (ws : List (List ℕ)) (w : List ℕ) → slice_get ws 0 ≡ Some w → IsBehindEval w → bytes_eq w (codes "lift") ≡ false → bytes_eq w (codes "explain") ≡ false → bytes_eq w (codes "trial") ≡ true → are_plain (drop 1 ws) ≡ are_read ws
trial_read ws w e h lift explain is = sym (ap are_read (begun ws w e) ∙ rw (h.compile, h.run, h.eval, lift, explain, is) refl)

pub check_at : (ws : List (List ℕ)) (w : List ℕ) → slice_get ws 0 ≡ Some w → IsBehindEval w → bytes_eq w (codes "lift") ≡ false → bytes_eq w (codes "explain") ≡ false → bytes_eq w (codes "trial") ≡ false → bytes_eq w (codes "check") ≡ true → request_of ws ≡ check_words (drop 1 ws)
check_at ws w e h lift explain trial is = ap request_of (begun ws w e) ∙ rw (h.compile, h.run, h.eval, lift, explain, trial, is) refl

pub check_read : (ws : List (List ℕ)) (w : List ℕ) → slice_get ws 0 ≡ Some w → IsBehindEval w → bytes_eq w (codes "lift") ≡ false → bytes_eq w (codes "explain") ≡ false → bytes_eq w (codes "trial") ≡ false → bytes_eq w (codes "check") ≡ true → are_options false (drop 1 ws) ≡ are_read ws
check_read ws w e h lift explain trial is = sym (ap are_read (begun ws w e) ∙ rw (h.compile, h.run, h.eval, lift, explain, trial, is) refl)

pub terms_at : (ws : List (List ℕ)) (w : List ℕ) → slice_get ws 0 ≡ Some w → IsBehindEval w → bytes_eq w (codes "lift") ≡ false → bytes_eq w (codes "explain") ≡ false → bytes_eq w (codes "trial") ≡ false → bytes_eq w (codes "check") ≡ false → bytes_eq w (codes "terms") ≡ true → request_of ws ≡ terms_words (drop 1 ws)
terms_at ws w e h lift explain trial check is = ap request_of (begun ws w e) ∙ rw (h.compile, h.run, h.eval, lift, explain, trial, check, is) refl

pub terms_read : (ws : List (List ℕ)) (w : List ℕ) → slice_get ws 0 ≡ Some w → IsBehindEval w → bytes_eq w (codes "lift") ≡ false → bytes_eq w (codes "explain") ≡ false → bytes_eq w (codes "trial") ≡ false → bytes_eq w (codes "check") ≡ false → bytes_eq w (codes "terms") ≡ true → are_options false (drop 1 ws) ≡ are_read ws
terms_read ws w e h lift explain trial check is = sym (ap are_read (begun ws w e) ∙ rw (h.compile, h.run, h.eval, lift, explain, trial, check, is) refl)
