-- What is looked up after a note.
use Rattle.std.proofs.Common.{◌≡◌, ℕ, Bool, true, false, cond, List, [], ◌∷◌, Some, refl, sym, ◌∙◌}
use Rattle.std.specs.Prelude.{◌&&◌, ◌==◌, if◌then◌else◌}
use Rattle.std.specs.Bool.{beq}
use Rattle.std.specs.Ordering.{int_eq}
use Rattle.std.specs.Map.{lookup}
use Rattle.vg_paired.specs.declared.byte_label.ByteLabel.{ByteLabel}
use Rattle.vg_paired.specs.ByteLabels.{label_of}
use Rattle.vg_events.specs.Events.{Label}
use Rattle.vg_events.specs.Ranks.{same_bool, same_label}
use Rattle.vg_paired.proofs.Alike.{turned}

abbrev pub of_label : Label → ByteLabel
of_label l = record { writes = l.writes; pointer = l.address.pointer; offset = l.address.offset }

-- the same tests look up the same
lookup-same : (p q : ByteLabel → Bool) → ((k : ByteLabel) → p k ≡ q k) → (es : List (ByteLabel × ℕ)) → lookup p es ≡ lookup q es
lookup-same p q same [] = refl
lookup-same p q same (e ∷ es) = (λ i. cond (same e.0 i) (Some e.1) (lookup-same p q same es i))

same-bools : (a b : Bool) → beq a b ≡ same_bool a b
same-bools true true = refl
same-bools true false = refl
same-bools false true = refl
same-bools false false = refl

-- equality of the code's labels
abbrev eq : ByteLabel → ByteLabel → Bool
eq a b = beq a.writes b.writes && (a.pointer == b.pointer && int_eq a.offset b.offset)

eq-is : (a b : ByteLabel) → eq a b ≡ same_label (label_of a) (label_of b)
eq-is a b = (λ i. same-bools a.writes b.writes i && (a.pointer == b.pointer && int_eq a.offset b.offset))

-- the number of a label, as it is looked up
pub noted-here : (es : List (ByteLabel × ℕ)) (m : ByteLabel) → lookup (eq m) es ≡ lookup (λ x. same_label (label_of m) (label_of x)) es
noted-here es m = lookup-same (eq m) (λ x. same_label (label_of m) (label_of x)) (eq-is m) es

pub noted-behind : (old new : List (ByteLabel × ℕ)) (m : ByteLabel) (k : ℕ) →
    ((q : ByteLabel) → lookup (eq q) new ≡ cond (eq m q) (Some k) (lookup (eq q) old)) →
    (l : Label) → lookup (λ x. same_label l (label_of x)) new ≡ (if same_label l (label_of m) then Some k else lookup (λ x. same_label l (label_of x)) old)
noted-behind old new m k updates l =
    let q = of_label l in
    sym (noted-here new q) ∙ updates q
    ∙ (λ i. cond ((eq-is m q ∙ turned (label_of m) l) i) (Some k) (noted-here old q i))
