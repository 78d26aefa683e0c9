-- The node of a canonical form: what its term keeps.
use Rattle.std.proofs.Common.{◌≡◌, ℕ, List, sym, ◌∙◌, subst}
use Rattle.std.specs.Prelude.{Result, IfOk}
use Rattle.std.specs.declared.alloc.AllocError.{AllocError}
use Rattle.std.proofs.lemmas.Result.{IfOk-weaker}
use Rattle.vg_terms.specs.Term.{Tree, WellFormed}
use Rattle.vg_pool.specs.declared.content.Content.{Content}
use Rattle.vg_pool.specs.Pool.{StandsFor, tree_at}
use Rattle.vg_canon.specs.Canonical.{Settled, canonical}
use Rattle.vg_canon.proofs.Forms.{canonical-settled}

-- of a call's result
pub settled_node : (pool : List Content) (t : Tree) (r : Result ℕ AllocError) → IfOk r (λ form. StandsFor pool form (canonical t)) → WellFormed t → IfOk r (λ form. Settled t (tree_at pool form))
settled_node pool t r h g = IfOk-weaker r _ _ (λ form s. subst (Settled t) (sym s.is) (canonical-settled t g)) h
