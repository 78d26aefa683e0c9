-- Both sides trap in the same runs: where a byte of an event lies outside.
use Rattle.std.proofs.Common.{◌≡◌, ℕ, zero, suc, ◌+◌, ◌<◌, ℤ, pos, negsuc, Bool, true, false, List, [], ◌∷◌, ◌++◌, length, map, Option, Some, None, refl, sym, ap, ◌∙◌, inl, inr, arith, append_assoc}
use Rattle.std.specs.Prelude.{◌+ℤ◌, ◌&&◌, ◌==◌, nat_le}
use Rattle.std.specs.List.{list_all}
use Rattle.std.specs.Option.{option_map_or}
use Rattle.std.proofs.lemmas.Bool.{cases_Bool, eqb-true, le-leb, leb-false, leb-true, lt-leb}
use Rattle.std.proofs.lemmas.List.{length_push}
use Rattle.vg_base.specs.declared.address.Address.{Address}
use Rattle.vg_base.specs.Address.{place_of}
use Rattle.vg_base.specs.Width.{size_of}
use Rattle.vg_shapes.specs.declared.access.Access.{Access}
use Rattle.vg_shapes.specs.declared.ssa_unit.SsaUnit.{SsaUnit}
use Rattle.vg_shapes.specs.declared.ssa_unit.SsaUnit.TheVariants as unit
use Rattle.vg_shapes.specs.Layout.{access_of}
use Rattle.vg_shapes.specs.Order.{count_of, numbers_from, one_if, Stands}
use Rattle.vg_shapes.specs.RunUnits.{start_of}
use Rattle.vg_program.specs.declared.line.Line.{Line}
use Rattle.vg_program.specs.declared.line.Line.TheVariants.{Load, Store, Two, Shift, Resize, Compare, Select, VectorLoad, VectorStore, Constant, Insert, Extract, Call}
use Rattle.vg_program.specs.declared.vector_size.VectorSize.{VectorSize}
use Rattle.vg_program.specs.declared.vector_size.VectorSize.TheVariants.{B4, B8, B16, B32, B64}
use Rattle.vg_program.specs.Accesses as program
use Rattle.vg_program.specs.Vectors.{bytes_of}
use Rattle.vg_program.proofs.TrapLaws.{traps_outside}
use Rattle.vg_order_laws.specs.Steps.{is_inside, stays_inside}
use Rattle.vg_order_laws.proofs.Sequences.{counts-itself}
use Rattle.vg_order_laws.proofs.Traps.{runs-trap-outside}
use Rattle.vg_events.specs.Events.{Label, label_at, labels, labels_from, labels_in, labels_of, next, no_label, unit_labels}
use Rattle.vg_events.specs.Lines.{line_access}
use Rattle.vg_events.specs.Pairs.{ArePaired, joined, Labelled}
use Rattle.vg_events.specs.Ranks.{by_rank, SameCounts}
use Rattle.vg_events.specs.Steps.{label_place}
use Rattle.vg_events.specs.Traps.{TrapTogether}
use Rattle.vg_events.proofs.Ranks.{pairing-once, pairing-paired}
use Rattle.vg_events.proofs.Runs.{some-bytes}
use Rattle.vg_events.proofs.Steps.{at-seam, next-place}

-- whether a byte lies inside a memory of this length
abbrev byte_inside : List ℕ → ℕ → Label → Bool
byte_inside places long l = is_inside long (label_place places l) 1

-- and whether what is accessed does
abbrev access_inside : List ℕ → ℕ → Option Access → Bool
access_inside places long x = option_map_or (λ a. is_inside long (place_of places a.address) a.size) x true

-- an access has some bytes
abbrev HasBytes : Option Access → Type 0
HasBytes None = Unit {0}
HasBytes (Some x) = 0 < x.size

abbrev HaveBytes : List (Option Access) → Type 0
HaveBytes [] = Unit {0}
HaveBytes (x ∷ xs) = HasBytes x × HaveBytes xs

-- ---- an access by its bytes

and-false : (b : Bool) → (b && false) ≡ false
and-false true = refl
and-false false = refl

and-true : (b : Bool) → (b && true) ≡ b
and-true true = refl
and-true false = refl

first-inside : (long : ℕ) (at : ℤ) (n : ℕ) → (is_inside long at 1 && is_inside long (at +ℤ pos 1) (suc n)) ≡ is_inside long at (suc (suc n))
first-inside long (negsuc a) n = refl
first-inside long (pos a) n = elim (cases_Bool (nat_le (a + 1 + suc n) long)) [
  | inl t ↦
      let h = leb-true _ _ t in
      let one : nat_le (a + 1) long ≡ true = le-leb _ _ (omega arith) in
      let both : nat_le (a + suc (suc n)) long ≡ true = le-leb _ _ (omega arith) in
      (λ i. one i && t i) ∙ sym both
  | inr e ↦
      let h = leb-false _ _ e in
      let both : nat_le (a + suc (suc n)) long ≡ false = lt-leb _ _ (omega arith) in
      ap (λ b. nat_le (a + 1) long && b) e ∙ and-false (nat_le (a + 1) long) ∙ sym both
]

labels-inside : (places : List ℕ) (long : ℕ) (w : Bool) (a : Address) (n : ℕ) → list_all (byte_inside places long) (labels_from w a (suc n)) ≡ is_inside long (place_of places a) (suc n)
labels-inside places long w a zero = and-true (is_inside long (place_of places a) 1)
labels-inside places long w a (suc n) =
    ap (λ b. is_inside long (place_of places a) 1 && b) (labels-inside places long w (next a) n ∙ ap (λ at. is_inside long at (suc n)) (next-place places a))
    ∙ first-inside long (place_of places a) n

all-inside : (places : List ℕ) (long : ℕ) (w : Bool) (a : Address) (n : ℕ) → 0 < n → list_all (byte_inside places long) (labels_from w a n) ≡ is_inside long (place_of places a) n
all-inside places long w a zero h = absurd (omega arith)
all-inside places long w a (suc n) h = labels-inside places long w a n

list_all-append : {A : Type 0} (P : A → Bool) (xs ys : List A) → list_all P (xs ++ ys) ≡ (list_all P xs && list_all P ys)
list_all-append P [] ys = refl
list_all-append P (x ∷ xs) ys = ap (λ b. P x && b) (list_all-append P xs ys) ∙ and-twice (P x) (list_all P xs) (list_all P ys)
  where
    and-twice : (a b c : Bool) → (a && (b && c)) ≡ ((a && b) && c)
    and-twice true b c = refl
    and-twice false b c = refl

one-inside : (places : List ℕ) (long : ℕ) (x : Option Access) → HasBytes x → list_all (byte_inside places long) (labels_in x) ≡ access_inside places long x
one-inside places long None h = refl
one-inside places long (Some x) h = all-inside places long x.writes x.address x.size h

accesses-inside : (places : List ℕ) (long : ℕ) (xs : List (Option Access)) → HaveBytes xs → list_all (byte_inside places long) (labels xs) ≡ list_all (access_inside places long) xs
accesses-inside places long [] h = refl
accesses-inside places long (x ∷ xs) h =
    list_all-append (byte_inside places long) (labels_in x) (labels xs)
    ∙ (λ i. one-inside places long x h.0 i && accesses-inside places long xs h.1 i)

-- ---- the same bytes on both sides

labelled-all : (P : Label → Bool) (ls : List Label) (w : Bool) (a : Address) (n : ℕ) (es : List ℕ) → length es ≡ n → Labelled ls w a es → list_all P (labels_from w a n) ≡ list_all (λ e. P (label_at ls e)) es
labelled-all P ls w a zero [] long h = refl
labelled-all P ls w a zero (e ∷ es) long h = absurd (omega (arith, long))
labelled-all P ls w a (suc n) [] long h = absurd (omega (arith, long))
labelled-all P ls w a (suc n) (e ∷ es) long h = (λ i. P (sym h.0 i) && labelled-all P ls w (next a) n es (omega (arith, long)) h.1 i)

paired-all : (P : Label → Bool) (ls : List Label) (xs : List (Option Access)) (ess : List (List ℕ)) → ArePaired ls xs ess → list_all P (labels xs) ≡ list_all (λ e. P (label_at ls e)) (joined ess)
paired-all P ls [] [] h = refl
paired-all P ls [] (es ∷ ess) h = absurd h
paired-all P ls (x ∷ xs) [] h = absurd h
paired-all P ls (None ∷ xs) ([] ∷ ess) h = paired-all P ls xs ess h.1
paired-all P ls (None ∷ xs) ((e ∷ es) ∷ ess) h = absurd (let bad = h.0 in cc)
paired-all P ls (Some x ∷ xs) (es ∷ ess) h =
    list_all-append P (labels_of x) (labels xs)
    ∙ (λ i. labelled-all P ls x.writes x.address x.size es h.0.0 h.0.1 i && paired-all P ls xs ess h.1 i)
    ∙ sym (list_all-append (λ e. P (label_at ls e)) es (joined ess))

-- a test of all members goes by which numbers stand in a list
and-parts : (a b : Bool) → (a && b) ≡ true → (a ≡ true) × (b ≡ true)
and-parts true b h = (refl, h)
and-parts false b h = absurd (cc)

together : (a b : Bool) → (a ≡ true → b ≡ true) → (b ≡ true → a ≡ true) → a ≡ b
together true true f g = refl
together true false f g = sym (f refl)
together false true f g = g refl
together false false f g = refl

all-each : (Q : ℕ → Bool) (es : List ℕ) → list_all Q es ≡ true → (e : ℕ) → Stands e es → Q e ≡ true
all-each Q [] h e s = absurd (omega arith)
all-each Q (x ∷ es) h e s =
    let parts = and-parts (Q x) (list_all Q es) h in
    elim (cases_Bool (e == x)) [
      | inl t ↦ ap Q (eqb-true e x t) ∙ parts.0
      | inr f ↦ all-each Q es parts.1 e (let none : one_if (e == x) ≡ 0 = ap one_if f in omega arith)
    ]

each-all : (Q : ℕ → Bool) (es : List ℕ) → ((e : ℕ) → Stands e es → Q e ≡ true) → list_all Q es ≡ true
each-all Q [] h = refl
each-all Q (x ∷ es) h = (λ i. h x (let one = counts-itself x in omega arith) i && each-all Q es (λ e s. h e (omega arith)) i)

same-members : (Q : ℕ → Bool) (es fs : List ℕ) → ((e : ℕ) → count_of e es ≡ count_of e fs) → list_all Q es ≡ list_all Q fs
same-members Q es fs same =
    together (list_all Q es) (list_all Q fs)
    (λ h. each-all Q fs (λ e s. all-each Q es h e (let k = same e in omega arith)))
    (λ h. each-all Q es (λ e s. all-each Q fs h e (let k = same e in omega arith)))

-- the labels by their numbers
by-numbers : (P : Label → Bool) (all before ls : List Label) → all ≡ before ++ ls → list_all P ls ≡ list_all (λ e. P (label_at all e)) (numbers_from (length before) (length ls))
by-numbers P all before [] e = refl
by-numbers P all before (l ∷ ls) e =
    let here : label_at all (length before) ≡ l = ap (λ q. label_at q (length before)) e ∙ at-seam before l ls no_label in
    let next_number : length (before ++ l ∷ []) ≡ length before + 1 = length_push before l ∙ omega arith in
    (λ i. P (sym here i) && (by-numbers P all (before ++ l ∷ []) ls (e ∙ sym (append_assoc before (l ∷ []) ls)) ∙ ap (λ k. list_all (λ e. P (label_at all e)) (numbers_from k (length ls))) next_number) i)

-- a test of labels has one answer on both sides
counts-all : (P : Label → Bool) (ls : List Label) (xs : List (Option Access)) → SameCounts ls (labels xs) → list_all P (labels xs) ≡ list_all P ls
counts-all P ls xs same =
    paired-all P ls xs (by_rank ls xs) (pairing-paired ls xs same)
    ∙ same-members (λ e. P (label_at ls e)) (joined (by_rank ls xs)) (numbers_from 0 (length ls)) (pairing-once ls xs same)
    ∙ sym (by-numbers P ls [] ls refl)

-- ---- units and lines

pub some-register_bytes : (z : VectorSize) → 0 < bytes_of z
some-register_bytes B4 = omega arith
some-register_bytes B8 = omega arith
some-register_bytes B16 = omega arith
some-register_bytes B32 = omega arith
some-register_bytes B64 = omega arith

units-have_bytes : (us : List SsaUnit) → HaveBytes (map access_of us)
units-have_bytes [] = tt
units-have_bytes (unit.Load a w ∷ us) = (some-bytes w, units-have_bytes us)
units-have_bytes (unit.Store a w x ∷ us) = (some-bytes w, units-have_bytes us)
units-have_bytes (unit.Operation op w k xs ∷ us) = (tt, units-have_bytes us)

line-has_bytes : (l : Line) → HasBytes (line_access l)
line-has_bytes (Load w a) = some-bytes w
line-has_bytes (Store w a v) = some-bytes w
line-has_bytes (Two op w l r) = tt
line-has_bytes (Shift op w v n) = tt
line-has_bytes (Resize op w from v) = tt
line-has_bytes (Compare op w l r) = tt
line-has_bytes (Select w c x y) = tt
line-has_bytes (VectorLoad z a) = some-register_bytes z
line-has_bytes (VectorStore z a v) = some-register_bytes z
line-has_bytes (Constant bs) = tt
line-has_bytes (Insert v bits n w x) = tt
line-has_bytes (Extract v n w) = tt
line-has_bytes (Call name vs imm bits cost) = tt

lines-have_bytes : (lines : List Line) → HaveBytes (map line_access lines)
lines-have_bytes [] = tt
lines-have_bytes (l ∷ lines) = (line-has_bytes l, lines-have_bytes lines)

units-inside : (places : List ℕ) (long : ℕ) (us : List SsaUnit) → list_all (access_inside places long) (map access_of us) ≡ list_all (stays_inside places long) us
units-inside places long [] = refl
units-inside places long (u ∷ us) = ap (λ b. access_inside places long (access_of u) && b) (units-inside places long us)

same-inside : (long : ℕ) (at : ℤ) (n : ℕ) → is_inside long at n ≡ program.is_inside long at n
same-inside long (pos a) n = refl
same-inside long (negsuc a) n = refl

line-inside : (places : List ℕ) (long : ℕ) (l : Line) → access_inside places long (line_access l) ≡ program.stays_inside places long l
line-inside places long (Load w a) = same-inside long (place_of places a) (size_of w)
line-inside places long (Store w a v) = same-inside long (place_of places a) (size_of w)
line-inside places long (Two op w l r) = refl
line-inside places long (Shift op w v n) = refl
line-inside places long (Resize op w from v) = refl
line-inside places long (Compare op w l r) = refl
line-inside places long (Select w c x y) = refl
line-inside places long (VectorLoad z a) = same-inside long (place_of places a) (bytes_of z)
line-inside places long (VectorStore z a v) = same-inside long (place_of places a) (bytes_of z)
line-inside places long (Constant bs) = refl
line-inside places long (Insert v bits n w x) = refl
line-inside places long (Extract v n w) = refl
line-inside places long (Call name vs imm bits cost) = refl

lines-inside : (places : List ℕ) (long : ℕ) (lines : List Line) → list_all (access_inside places long) (map line_access lines) ≡ list_all (program.stays_inside places long) lines
lines-inside places long [] = refl
lines-inside places long (l ∷ lines) = (λ i. line-inside places long l i && lines-inside places long lines i)

pub trap-together : TrapTogether
trap-together called p us memory places args same =
    let long = length memory in
    traps_outside called p memory places args
    ∙ sym (lines-inside places long p.lines)
    ∙ sym (accesses-inside places long (map line_access p.lines) (lines-have_bytes p.lines))
    ∙ counts-all (byte_inside places long) (unit_labels us) (map line_access p.lines) same
    ∙ accesses-inside places long (map access_of us) (units-have_bytes us)
    ∙ units-inside places long us
    ∙ sym (runs-trap-outside places us (start_of memory args))
