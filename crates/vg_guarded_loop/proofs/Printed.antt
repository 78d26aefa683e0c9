-- What is appended of a block is its checks, and then its sides.
use Rattle.std.proofs.Common.{◌≡◌, ℕ, List, ◌++◌, length, Result, Ok, Err, OnOk, ap, ◌∙◌, append_assoc}
use Rattle.std.specs.Prelude.{codes}
use Rattle.vg_program.specs.declared.param.Param.{Param}
use Rattle.vg_program.specs.Text.{line_end, body_text}
use Rattle.vg_guard.specs.declared.check.Check.{Check}
use Rattle.vg_guard.specs.declared.guarded.Guarded.{Guarded}
use Rattle.vg_guard.specs.Guarded.{checks_text, end_line}
use Rattle.vg_guarded_loop.specs.GuardedLoop.{sides_text}

pub on_ok-map : {T E : Type 0} (r : Result T E) (p q : Type 0) → (p → q) → OnOk r p → OnOk r q
on_ok-map (Ok x) p q f h = f h
on_ok-map (Err e) p q f h = tt

joined : (to checks quick end fast plain slow last : List ℕ)
    → (((((((to ++ checks) ++ quick) ++ end) ++ fast) ++ plain) ++ end) ++ slow) ++ last
    ≡ to ++ (checks ++ (quick ++ (end ++ (fast ++ (plain ++ (end ++ (slow ++ last)))))))
joined to checks quick end fast plain slow last = simp append_assoc

-- each part behind those before it
pub sides-put : (g : Guarded) (params : List Param) (cs : List Check) (to a b c d e f h last : List ℕ)
    → params ≡ g.fast.params → cs ≡ g.checks
    → a ≡ to ++ checks_text params cs → b ≡ a ++ codes "then" → c ≡ b ++ line_end → d ≡ c ++ body_text g.fast
    → e ≡ d ++ codes "else" → f ≡ e ++ line_end → h ≡ f ++ body_text g.slow → last ≡ h ++ end_line (length cs)
    → last ≡ to ++ sides_text g
sides-put g params cs to a b c d e f h last same own ea eb ec ed ee ef eh el =
    let behind = λ (end : List ℕ) (x : List ℕ). x ++ end in
    el
    ∙ ap (behind (end_line (length cs))) (eh ∙ ap (behind (body_text g.slow)) (ef ∙ ap (behind line_end) (ee ∙ ap (behind (codes "else")) (ed
    ∙ ap (behind (body_text g.fast)) (ec ∙ ap (behind line_end) (eb ∙ ap (behind (codes "then")) ea))))))
    ∙ joined to (checks_text params cs) (codes "then") line_end (body_text g.fast) (codes "else") (body_text g.slow) (end_line (length cs))
    ∙ (λ i. to ++ (checks_text (same i) (own i) ++ (codes "then" ++ (line_end ++ (body_text g.fast ++ (codes "else" ++ (line_end ++ (body_text g.slow ++ end_line (length (own i))))))))))
