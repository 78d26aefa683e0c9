-- A call is walked after those before it.
use Rattle.std.proofs.Common.{◌≡◌, ℕ, zero, suc, ◌+◌, ◌<◌, ◌≤◌, refl, sym, ap, ◌∙◌, List, [], ◌∷◌, ◌++◌, get_or, length, take, map, arith, length-append}
use Rattle.std.specs.Prelude.{Bool}
use Rattle.std.proofs.lemmas.List.{length-map}
use Rattle.vg_pseudo.specs.Resolved.{Function}
use Rattle.vg_names.specs.declared.resolved.Function as in_memory
use Rattle.vg_names.specs.Views.{code_view, expr_of, function_view}
use Rattle.vg_interval.specs.Judge.{Walk, no_walk}
use Rattle.vg_range.specs.Walk.{called, walks_from}
use Rattle.vg_range.specs.Weight.{weight, code_weight, all_weight}
use Rattle.vg_range.proofs.Lists.{view_take}

first_part : (xs ys : List Walk) (k : ℕ) → k < length xs → get_or (xs ++ ys) k no_walk ≡ get_or xs k no_walk
first_part [] ys k h = absurd (omega arith)
first_part (x ∷ xs) ys zero h = refl
first_part (x ∷ xs) ys (suc k) h = first_part xs ys k (omega arith)

last_part : (xs : List Walk) (x : Walk) → get_or (xs ++ (x ∷ [])) (length xs) no_walk ≡ x
last_part [] x = refl
last_part (y ∷ xs) x = last_part xs x

kept : (b : Bool) (ws : List Walk) (fs : List Function) (k : ℕ) → k < length ws → get_or (walks_from b ws fs) k no_walk ≡ get_or ws k no_walk
kept b ws [] k h = refl
kept b ws (f ∷ fs) k h =
    kept b (ws ++ (called b ws f ∷ [])) fs k (omega (arith, length-append ws (called b ws f ∷ [])))
    ∙ first_part ws (called b ws f ∷ []) k h

walk-at : (b : Bool) (ws : List Walk) (fs : List Function) (k : ℕ) (d : Function) → k < length fs
    → get_or (walks_from b ws fs) (length ws + k) no_walk ≡ called b (walks_from b ws (take k fs)) (get_or fs k d)
walk-at b ws [] k d h = absurd (omega arith)
walk-at b ws (f ∷ fs) zero d h =
    ap (λ n. get_or (walks_from b (ws ++ (called b ws f ∷ [])) fs) n no_walk) (omega arith)
    ∙ kept b (ws ++ (called b ws f ∷ [])) fs (length ws) (omega (arith, length-append ws (called b ws f ∷ [])))
    ∙ last_part ws (called b ws f)
walk-at b ws (f ∷ fs) (suc k) d h =
    ap (λ n. get_or (walks_from b (ws ++ (called b ws f ∷ [])) fs) n no_walk) (omega (arith, length-append ws (called b ws f ∷ [])))
    ∙ walk-at b (ws ++ (called b ws f ∷ [])) fs k d (omega arith)

get-view : (l : List in_memory.Function) (k : ℕ) (x : in_memory.Function) → x ≡ get_or l k x → k < length l
    → function_view x ≡ get_or (map function_view l) k (function_view x)
get-view [] k x e h = refl
get-view (y ∷ l) zero x e h = ap function_view e
get-view (y ∷ l) (suc k) x e h = get-view l k x e (omega arith)

pub called_is : (b : Bool) (l : List in_memory.Function) (k : ℕ) (x : in_memory.Function) → k < length l → x ≡ get_or l k x
    → called b (walks_from b [] (map function_view (take k l))) (function_view x)
    ≡ get_or (walks_from b [] (map function_view l)) k no_walk
called_is b l k x h e =
    let short : k < length (map function_view l) = omega (arith, length-map l function_view) in
    let start : 0 + k ≡ k = omega arith in
    let at = ap (λ n. get_or (walks_from b [] (map function_view l)) n no_walk) (sym start) ∙ walk-at b [] (map function_view l) k (function_view x) short in
    ap (λ v. called b (walks_from b [] v) (function_view x)) (view_take function_view k l)
    ∙ ap (called b (walks_from b [] (take k (map function_view l)))) (get-view l k x e h)
    ∙ sym at

past : (ws : List Walk) (k : ℕ) → length ws ≤ k → get_or ws k no_walk ≡ no_walk
past [] k h = refl
past (w ∷ ws) zero h = absurd (omega arith)
past (w ∷ ws) (suc k) h = past ws k (omega arith)

walks-length : (b : Bool) (ws : List Walk) (fs : List Function) → length (walks_from b ws fs) ≡ length ws + length fs
walks-length b ws [] = omega arith
walks-length b ws (f ∷ fs) = walks-length b (ws ++ (called b ws f ∷ [])) fs ∙ omega (arith, length-append ws (called b ws f ∷ []))

pub none_called : (b : Bool) (l : List in_memory.Function) (k : ℕ) → length l ≤ k
    → get_or (walks_from b [] (map function_view l)) k no_walk ≡ no_walk
none_called b l k h = past (walks_from b [] (map function_view l)) k (omega (arith, walks-length b [] (map function_view l), length-map l function_view))

-- what a call reaches is less than what its place does
pub reaches : (l : List in_memory.Function) (k : ℕ) (x : in_memory.Function) → k < length l → x ≡ get_or l k x
    → all_weight (map function_view (take k l)) + code_weight (code_view x.body.code) + weight (expr_of x.answer) < all_weight (map function_view l)
reaches [] k x h e = absurd (omega arith)
reaches (f ∷ l) zero x h e = omega (arith, ap (λ g. code_weight (code_view g.body.code)) e, ap (λ g. weight (expr_of g.answer)) e)
reaches (f ∷ l) (suc k) x h e = omega (arith, reaches l k x (omega arith) e)
