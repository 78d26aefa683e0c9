-- Fronts of what is written in pieces.
use Rattle.std.proofs.Common.{◌≡◌, ℕ, zero, suc, ◌+◌, List, [], ◌∷◌, ◌++◌, length, take, Option, Some, None, refl, sym, ◌∙◌, ap, append_assoc, Result, Ok, Err}
use Rattle.std.proofs.Math.Seq.{take-append-add}
use Rattle.std.specs.Result.{OnErr}
use Rattle.std.specs.Option.{option_map}
use Rattle.vg_outside.specs.Sink.{Appends, AppendsFront}
use Rattle.vg_outside.specs.declared.sink.SinkFault.{SinkFault}

take-front : (n : ℕ) (a b : List ℕ) → (m : ℕ) × (take m (a ++ b) ≡ take n a)
take-front zero a b = (0, refl)
take-front (suc n) [] b = (0, refl)
take-front (suc n) (x ∷ a) b = let r = take-front n a b in (suc r.0, ap (λ (t : List ℕ). x ∷ t) r.1)

-- a front of a piece is a front of it and what is after
pub front_first : (before now : Option (List ℕ)) (a b : List ℕ) → AppendsFront before a now → AppendsFront before (a ++ b) now
front_first before now a b (n, e) = let m = take-front n a b in (m.0, e ∙ ap (λ (t : List ℕ). option_map (λ old. old ++ t) before) (sym m.1))

append-twice : (before : Option (List ℕ)) (a b : List ℕ) → option_map (λ old. old ++ b) (option_map (λ old. old ++ a) before) ≡ option_map (λ old. old ++ (a ++ b)) before
append-twice None a b = refl
append-twice (Some old) a b = ap Some (append_assoc old a b)

-- a piece and a front of the next
pub front_second : (before middle now : Option (List ℕ)) (a b : List ℕ) → Appends before a middle → AppendsFront middle b now → AppendsFront before (a ++ b) now
front_second before middle now a b first (n, e) =
    (length a + n, e ∙ ap (option_map (λ old. old ++ take n b)) first ∙ append-twice before a (take n b) ∙ ap (λ (t : List ℕ). option_map (λ old. old ++ t) before) (sym (take-append-add a b n)))

-- a piece and the next
pub appends_both : (before middle now : Option (List ℕ)) (a b : List ℕ) → Appends before a middle → Appends middle b now → Appends before (a ++ b) now
appends_both before middle now a b first second = second ∙ ap (option_map (λ old. old ++ b)) first ∙ append-twice before a b

-- what holds anyway holds where there is an error
pub anyway : {T E P : Type 0} (r : Result T E) → P → OnErr r P
anyway (Ok x) p = tt
anyway (Err e) p = p

-- where a piece was cut off, so is what it begins
pub cut_first : {T : Type 0} (r : Result T SinkFault) (before now : Option (List ℕ)) (a b : List ℕ) → AppendsFront before a now → OnErr r (AppendsFront before (a ++ b) now)
cut_first r before now a b front = anyway r (front_first before now a b front)

-- where the next piece was cut off, so is the whole
pub cut_second : {T : Type 0} (r : Result T SinkFault) (before middle now : Option (List ℕ)) (a b : List ℕ) → Appends before a middle → OnErr r (AppendsFront middle b now) → OnErr r (AppendsFront before (a ++ b) now)
cut_second (Ok x) before middle now a b first second = tt
cut_second (Err e) before middle now a b first second = front_second before middle now a b first second
