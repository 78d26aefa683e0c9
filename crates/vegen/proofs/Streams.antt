-- What stands in a stream after some of the first bytes, and then more of them.
use Rattle.std.proofs.Common.{◌≡◌, ℕ, ◌+◌, ◌-◌, List, ◌++◌, take, drop, length, Option, Some, None, sym, ap, ◌∙◌, append_assoc}
use Rattle.std.proofs.Math.Seq.{take-add}
use Rattle.std.proofs.lemmas.List.{take_rest}
use Rattle.std.specs.Io.KnownBytes.{Appends}

-- the first `n`, and then the first `m` of the rest
pub appends_more : (before between now : Option (List ℕ)) (bytes : List ℕ) (n m : ℕ) → Appends before between (take n bytes)
    → Appends between now (take m (take (length bytes - n) (drop n bytes))) → Appends before now (take (n + m) bytes)
appends_more None between now bytes n m first more = tt
appends_more (Some b) None now bytes n m first more = absurd first
appends_more (Some b) (Some c) None bytes n m first more = absurd more
appends_more (Some b) (Some c) (Some d) bytes n m first more =
    let rest : take m (take (length bytes - n) (drop n bytes)) ≡ take m (drop n bytes) = ap (take m) (take_rest bytes n) in
    more ∙ ap (λ xs. xs ++ take m (take (length bytes - n) (drop n bytes))) first ∙ append_assoc b (take n bytes) _
    ∙ ap (λ xs. b ++ (take n bytes ++ xs)) rest ∙ sym (ap (λ xs. b ++ xs) (take-add n m bytes))
