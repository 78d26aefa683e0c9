-- A run as the steps of its events, each a byte, where the bytes of all events are known.
use Rattle.std.proofs.Common.{◌≡◌, ℕ, zero, suc, ◌+◌, ◌<◌, ℤ, pos, negsuc, Bool, true, false, List, [], ◌∷◌, ◌++◌, length, map, get_or, Option, Some, refl, sym, ap, ◌∙◌, arith, append_assoc}
use Rattle.std.specs.Prelude.{◌+ℤ◌, slice_index}
use Rattle.std.proofs.lemmas.Int.{ints}
use Rattle.std.proofs.lemmas.List.{length_push}
use Rattle.vg_base.specs.declared.address.Address.{Address}
use Rattle.vg_base.specs.Address.{place_of}
use Rattle.vg_base.specs.Trap.{◌>>=◌}
use Rattle.vg_base.specs.Memory.{loaded, stored}
use Rattle.vg_shapes.specs.Order.{numbers_from}
use Rattle.vg_order_laws.specs.Sequence.{run_steps}
use Rattle.vg_bits.proofs.Ranges.{length-range}
use Rattle.vg_order_laws.proofs.Sequences.{bind_same, bind_twice}
use Rattle.vg_events.specs.Events.{Label, label_at, labels_from, next, no_label}
use Rattle.vg_events.specs.Steps.{byte_step, chain, event_step, label_place}
use Rattle.vg_events.specs.Pairs.{Labelled}
use Rattle.vg_events.proofs.Chains.{was-inside, chain-stored, chain-loaded, loaded-chain}

-- ---- the laws on chains, for lists that are not empty

pub stored-as-chain : (at : ℤ) (bs m : List ℕ) → 0 < length bs → chain true at bs m ≡ stored m at bs
stored-as-chain at [] m h = absurd (omega arith)
stored-as-chain at (b ∷ bs) m h = chain-stored at b bs m

pub loaded-as-chain : (at : ℤ) (bs m : List ℕ) → 0 < length bs → loaded m at (length bs) ≡ Some bs → chain false at bs m ≡ Some m
loaded-as-chain at [] m h e = absurd (omega arith)
loaded-as-chain at (b ∷ bs) m h e = chain-loaded at b bs m e

pub chain-as-loaded : (at : ℤ) (bs m t : List ℕ) → 0 < length bs → chain false at bs m ≡ Some t → (t ≡ m) × (loaded m at (length bs) ≡ Some bs)
chain-as-loaded at [] m t h e = absurd (omega arith)
chain-as-loaded at (b ∷ bs) m t h e = loaded-chain at b bs m t e

pub loaded-length : (m : List ℕ) (at : ℤ) (n : ℕ) (bs : List ℕ) → loaded m at n ≡ Some bs → length bs ≡ n
loaded-length m (negsuc a) n bs e = absurd (cc)
loaded-length m (pos a) n bs e = let got = was-inside m a n bs e in ap length got.1 ∙ length-range a n m got.0

-- ---- steps of lists of events

pub run_steps-append : {S : Type 0} (step : ℕ → S → Option S) (xs ys : List ℕ) (s : S) → run_steps step (xs ++ ys) s ≡ (run_steps step xs s >>= run_steps step ys)
unfolding run_steps
run_steps-append step [] ys s = refl
run_steps-append step (x ∷ xs) ys s = bind_same (step x s) _ _ (run_steps-append step xs ys) ∙ sym (bind_twice (step x s) (run_steps step xs) (run_steps step ys))

pub numbers_from-append : (first n k : ℕ) → numbers_from first (n + k) ≡ numbers_from first n ++ numbers_from (first + n) k
numbers_from-append first zero k =
    let at : first ≡ first + 0 = omega arith in
    let many : 0 + k ≡ k = omega arith in
    (λ i. numbers_from (at i) (many i))
numbers_from-append first (suc n) k =
    ap (numbers_from first) (let e : suc n + k ≡ suc (n + k) = omega arith in e)
    ∙ ap (λ l. first ∷ l) (numbers_from-append (first + 1) n k ∙ ap (λ f. numbers_from (first + 1) n ++ numbers_from f k) (let e : first + 1 + n ≡ first + suc n = omega arith in e))

pub length-numbers_from : (first n : ℕ) → length (numbers_from first n) ≡ n
length-numbers_from first zero = refl
length-numbers_from first (suc n) = ap suc (length-numbers_from (first + 1) n)

place-behind : (x : ℕ) (o : ℤ) → (pos x +ℤ (o +ℤ pos 1)) ≡ ((pos x +ℤ o) +ℤ pos 1)
place-behind x o = omega (arith, ints)

pub next-place : (places : List ℕ) (a : Address) → place_of places (next a) ≡ (place_of places a +ℤ pos 1)
next-place places a = place-behind (slice_index places a.pointer) a.offset

-- the steps of the bytes from an offset on are their chain
pub steps-chain : (places : List ℕ) (ls : List Label) (byte : ℕ → ℕ) (w : Bool) (a : Address) (es : List ℕ) → Labelled ls w a es → (m : List ℕ)
    → run_steps (event_step places ls byte) es m ≡ chain w (place_of places a) (map byte es) m
unfolding run_steps chain
steps-chain places ls byte w a [] h m = refl
steps-chain places ls byte w a (e ∷ es) h m =
    ap (λ (l : Label). byte_step l.writes (label_place places l) (byte e) m >>= run_steps (event_step places ls byte) es) h.0
    ∙ bind_same (byte_step w (place_of places a) (byte e) m) _ _ (λ s.
    steps-chain places ls byte w (next a) es h.1 s
    ∙ ap (λ at. chain w at (map byte es) s) (next-place places a))

-- ---- a run that is done, by its own bytes

pub at-seam : {A : Type 0} (xs : List A) (y : A) (ys : List A) (d : A) → get_or (xs ++ y ∷ ys) (length xs) d ≡ y
at-seam [] y ys d = refl
at-seam (x ∷ xs) y ys d = at-seam xs y ys d

pub labelled-numbers : (ls before rest : List Label) (w : Bool) (a : Address) (n first : ℕ) → ls ≡ before ++ (labels_from w a n ++ rest) → length before ≡ first → Labelled ls w a (numbers_from first n)
labelled-numbers ls before rest w a zero first e long = tt
labelled-numbers ls before rest w a (suc n) first e long =
    let here : Label = record { writes = w; address = a } in
    let more = labels_from w (next a) n ++ rest in (
      ap (λ (l : List Label). label_at l first) e ∙ ap (λ k. get_or (before ++ here ∷ more) k no_label) (sym long) ∙ at-seam before here more no_label,
      labelled-numbers ls (before ++ here ∷ []) rest w (next a) n (first + 1) (e ∙ sym (append_assoc before (here ∷ []) more)) (length_push before here ∙ omega (arith, long)),
    )

pub bytes-numbers : (all before bs rest : List ℕ) (first : ℕ) → all ≡ before ++ (bs ++ rest) → length before ≡ first → map (slice_index all) (numbers_from first (length bs)) ≡ bs
bytes-numbers all before [] rest first e long = refl
bytes-numbers all before (b ∷ bs) rest first e long =
    let head : slice_index all first ≡ b = ap (λ l. slice_index l first) e ∙ ap (λ k. slice_index (before ++ b ∷ (bs ++ rest)) k) (sym long) ∙ at-seam before b (bs ++ rest) 0 in
    let tail = bytes-numbers all (before ++ b ∷ []) bs rest (first + 1) (e ∙ sym (append_assoc before (b ∷ []) (bs ++ rest))) (length_push before b ∙ omega (arith, long)) in
    (λ i. head i ∷ tail i)
