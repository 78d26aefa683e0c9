-- The sweep over units, from the last to the first.
use Rattle.std.proofs.Common.{◌≡◌, ℕ, suc, ◌+◌, ◌-◌, ◌<◌, ◌≤◌, Bool, true, false, List, [], ◌∷◌, length, map, get_or, Option, Some, None, refl, sym, ap, subst, ◌∙◌, arith}
use Rattle.std.specs.Prelude.{◌||◌, if◌then◌else◌}
use Rattle.std.specs.List.{find, list_any}
use Rattle.std.proofs.lemmas.List.{length-map}
use Rattle.vg_shapes.specs.Order.{numbers_from}
use Rattle.vg_events.specs.Events.{Label, label_at}
use Rattle.vg_paired.specs.declared.byte_label.ByteLabel.{ByteLabel}
use Rattle.vg_paired.specs.declared.rows.Rows.{Rows as Table}
use Rattle.vg_paired.specs.ByteLabels.{label_of}
use Rattle.vg_paired.specs.Rows.{AreRows, is_early, is_early_by, Puts}
use Rattle.vg_paired.specs.Sweeps.{ArePointers, between, is_turned, PutsBefore}
use Rattle.vg_events.proofs.Ranks.{number-inside}
use Rattle.vg_paired.proofs.Lowering.{early-is}
use Rattle.vg_paired.proofs.Heads.{label-mapped}

-- the first of some numbers, and those after it
pub between-first : (first last : ℕ) → first < last → between first last ≡ first ∷ between (first + 1) last
between-first first last less =
    let more : last - first ≡ suc (last - (first + 1)) = omega arith in ap (numbers_from first) more

pub between-none : (first last : ℕ) → last ≤ first → between first last ≡ []
between-none first last most = let none : last - first ≡ 0 = omega arith in ap (numbers_from first) none

-- one test more that fails
pub any-next : (p : ℕ → Bool) (first last : ℕ) → first < last → p first ≡ false → list_any p (between first last) ≡ list_any p (between (first + 1) last)
any-next p first last less none = ap (list_any p) (between-first first last less) ∙ (λ i. none i || list_any p (between (first + 1) last))

pub any-first : (p : ℕ → Bool) (first last : ℕ) → first < last → p first ≡ true → list_any p (between first last) ≡ true
any-first p first last less holds = ap (list_any p) (between-first first last less) ∙ (λ i. holds i || list_any p (between (first + 1) last))

-- one event more is put in
pub put-turn : (xs : List ByteLabel) (line : ℕ → ℕ) (k left last t : ℕ) (d : ByteLabel) (a b c : Table) → k < length xs → left ≡ suc k → t ≡ line k →
    left ≤ last → PutsBefore (map label_of xs) line left last a b → Puts b c (label_of (get_or xs k d)) t → PutsBefore (map label_of xs) line k last a c
put-turn xs line k left last t d a b c inside step is low before puts =
    let ls = map label_of xs in
    let long = length-map xs label_of in
    let one : k + 1 ≡ left = omega arith in
    λ end most all rows.
    let now = puts ls line (between left end) k (label-mapped xs k d inside) (sym is) (before end most all rows) in
    subst (λ es. AreRows ls line es c) (ap (λ n. k ∷ between n end) (sym one) ∙ sym (between-first k end (omega arith))) now

pub any-same : (p q : ℕ → Bool) → ((x : ℕ) → p x ≡ q x) → (xs : List ℕ) → list_any p xs ≡ list_any q xs
any-same p q same [] = refl
any-same p q same (x ∷ xs) = (λ i. same x i || any-same p q same xs i)

-- what the rows tell of a unit
pub unit-turned : (flags : List Bool) (ls : List Label) (line : ℕ → ℕ) (rows : Table) (first last : ℕ) → last ≤ length ls → AreRows ls line (between last (length ls)) rows →
    ArePointers (length flags) ls → list_any (λ x. is_early_by flags (length flags) rows (label_at ls x) (line x)) (between first last) ≡ is_turned flags ls line first last
unit-turned flags ls line rows first last inside are pointers =
    any-same (λ x. is_early_by flags (length flags) rows (label_at ls x) (line x)) (λ x. list_any (is_early flags ls line x) (between last (length ls)))
    (λ x. early-is flags ls line (between last (length ls)) rows are (length flags) x
    (λ y s. pointers y (let less = number-inside y last (length ls - last) s in omega arith))) (between first last)

-- one unit more
pub units-turn : (p : ℕ → Bool) (k left units : ℕ) (b : Bool) (old new : Option ℕ) → left ≡ suc k → left ≤ units → b ≡ p k → new ≡ (if b then Some k else old) →
    old ≡ find p (between left units) → new ≡ find p (between k units)
units-turn p k left units b old new step inside is picked before =
    let one : k + 1 ≡ left = omega arith in
    picked ∙ (λ i. if is i then Some k else before i) ∙ ap (λ n. if p k then Some k else find p (between n units)) (sym one)
    ∙ sym (ap (find p) (between-first k units (omega arith)))

-- after the last event there is none
pub rows-begin : (ls : List Label) (line : ℕ → ℕ) (rows : Table) (first : ℕ) → length ls ≤ first → AreRows ls line [] rows → AreRows ls line (between first (length ls)) rows
rows-begin ls line rows first most none = subst (λ es. AreRows ls line es rows) (sym (between-none first (length ls) most)) none

-- the rows of the events of one unit alone
pub units-early : (flags : List Bool) (ls : List Label) (line : ℕ → ℕ) (rows : Table) (first last begin end : ℕ) → end ≤ length ls → begin ≤ end → AreRows ls line (between begin end) rows →
    ArePointers (length flags) ls → list_any (λ x. is_early_by flags (length flags) rows (label_at ls x) (line x)) (between first last)
    ≡ list_any (λ x. list_any (is_early flags ls line x) (between begin end)) (between first last)
units-early flags ls line rows first last begin end inside order are pointers =
    any-same (λ x. is_early_by flags (length flags) rows (label_at ls x) (line x)) (λ x. list_any (is_early flags ls line x) (between begin end))
    (λ x. early-is flags ls line (between begin end) rows are (length flags) x
    (λ y s. pointers y (let less = number-inside y begin (end - begin) s in omega arith))) (between first last)

pub find-next : (p : ℕ → Bool) (k units : ℕ) → k < units → p k ≡ false → find p (between k units) ≡ find p (between (k + 1) units)
find-next p k units less none = ap (find p) (between-first k units less) ∙ (λ i. if none i then Some k else find p (between (k + 1) units))

pub find-here : (p : ℕ → Bool) (k units : ℕ) → k < units → p k ≡ true → find p (between k units) ≡ Some k
find-here p k units less holds = ap (find p) (between-first k units less) ∙ (λ i. if holds i then Some k else find p (between (k + 1) units))

pub find-end : (p : ℕ → Bool) (k units : ℕ) → units ≤ k → find p (between k units) ≡ None
find-end p k units most = ap (find p) (between-none k units most)

pub rows-none : (ls : List Label) (line : ℕ → ℕ) (rows : Table) (end : ℕ) → AreRows ls line [] rows → AreRows ls line (between end end) rows
rows-none ls line rows end none = subst (λ es. AreRows ls line es rows) (sym (between-none end end (omega arith))) none
