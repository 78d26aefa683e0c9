-- A number made of all of a term, which is written once and then stands for the term in a hash.
use Rattle.std.specs.Prelude.{ℕ, ◌+◌, ◌*◌, ◌%◌, ◌^◌}
use Rattle.vg_terms.specs.Order.{one_tag, two_tag}
use Rattle.vg_terms.specs.Term.{Tree, leaf, constant, one, two, sel}

-- one number more
abbrev pub mixed : ℕ → ℕ → ℕ
mixed digest n = (digest * 6364136223846793005 % 2 ^ 64 + n) % 2 ^ 64

-- the same of equal terms; the offset of a load is left to its number
abbrev pub digest : Tree → ℕ
digest (leaf w k) = mixed (mixed (mixed w k.kind) k.first) k.third
digest (constant w v) = mixed (mixed 20 w) (v % 2 ^ 64)
digest (one op w k x) = mixed (mixed (mixed (one_tag op) w) k) (digest x)
digest (two op w x y) = mixed (mixed (mixed (two_tag op) w) (digest x)) (digest y)
digest (sel w c x y) = mixed (mixed (mixed w (digest c)) (digest x)) (digest y)
