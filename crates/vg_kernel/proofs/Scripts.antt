-- The words between two moments of reading, and single words read from left to right.
use Rattle.std.proofs.Common.{◌≡◌, ℕ, Bool, true, false, List, [], ◌∷◌, ◌++◌, Option, Some, None, Result, Ok, Err, refl, sym, ◌∙◌, ap, subst, append_assoc}
use Rattle.std.specs.Option.{option_map}
use Rattle.std.specs.Str.{bytes_eq}
use Rattle.std.specs.Prelude.{IsTrue}
use Rattle.std.proofs.lemmas.Slice.Eq.{bytes_eq-Decides}
use Rattle.vg_base.specs.Bind.{or_fault}
use Rattle.vg_base.proofs.Bind.{bind_ok, tested_ok}
use Rattle.vg_text.specs.declared.place.Place.{Place}
use Rattle.vg_text.specs.Token.{Lexemes, token, finish, fault}
use Rattle.vg_text.specs.Words.{Reading, Spelled, word_at, word_from}
use Rattle.vg_kernel.specs.declared.fault.KernelFault.{KernelFault}
use Rattle.vg_kernel.specs.declared.fault.KernelFault.TheVariants.{Shape}
use Rattle.vg_kernel.specs.Script.{Words, script_from, script_left}
use Rattle.vg_kernel.specs.Words.{is_free}
use Rattle.vg_kernel.specs.Reader.{or_token, next_at, expect_at, end_at, name_at}

-- these words stand between the two
abbrev pub Spells : Reading → Words → Reading → Type 0
Spells r words r' = script_left r ≡ option_map (λ behind. words ++ behind) (script_left r')

-- words after words
pub Spells-append : (r r' r'' : Reading) (ws vs : Words) → Spells r ws r' → Spells r' vs r'' → Spells r (ws ++ vs) r''
Spells-append r r' r'' ws vs first second = first ∙ ap (option_map (λ (b : Words). ws ++ b)) second ∙ both (script_left r'')
  where
    both : (o : Option Words) → option_map (λ (b : Words). ws ++ b) (option_map (λ (b : Words). vs ++ b) o) ≡ option_map (λ (b : Words). (ws ++ vs) ++ b) o
    both None = refl
    both (Some b) = ap Some (sym (append_assoc ws vs b))

-- two texts that test as the same are the same
pub same_text : (a b : List ℕ) → bytes_eq a b ≡ true → a ≡ b
same_text a b e = (bytes_eq-Decides a b).0 e

-- a text tests as itself
pub text_is_itself : (a : List ℕ) → bytes_eq a a ≡ true
text_is_itself a = (bytes_eq-Decides a a).1 refl

-- what went well gave one thing
pub ok_once : {A E : Type 0} (x y : A) → (let r : Result A E = Ok x in r ≡ Ok y) → x ≡ y
ok_once x y e = cc

-- what there was
pub fault-some : {X : Type 0} (o : Option X) (f : KernelFault) (x : X) → or_fault o f ≡ Ok x → o ≡ Some x
fault-some (Some y) f x e = ap Some (ok_once y x e)
fault-some None f x e = cc

-- a word that is not the end is the first of the words that are left
word-found : (text : List ℕ) (ls : Lexemes) (x : Spelled × Reading) → word_from text ls ≡ Ok x → x.0.is_end ≡ false → script_from text ls ≡ option_map (λ behind. x.0 ∷ behind) (script_left x.1)
unfolding script_from
word-found text (token t rest) x e k = rw (sym (ok_once _ x e)) refl
word-found text (finish t) x e k = let real : true ≡ x.0.is_end = ap (λ (y : Spelled × Reading). y.0.is_end) (ok_once _ x e) in cc
word-found text (fault p) x e k = cc

-- at the end no word is left
end-found : (text : List ℕ) (ls : Lexemes) (x : Spelled × Reading) → word_from text ls ≡ Ok x → x.0.is_end ≡ true → (script_from text ls ≡ Some []) × (x.0.bytes ≡ [])
unfolding script_from
end-found text (token t rest) x e k = let real : false ≡ x.0.is_end = ap (λ (y : Spelled × Reading). y.0.is_end) (ok_once _ x e) in cc
end-found text (finish t) x e k = (refl, sym (ap (λ (y : Spelled × Reading). y.0.bytes) (ok_once _ x e)))
end-found text (fault p) x e k = cc

-- what the reader took as a word
word-taken : (r : Reading) (x : Spelled × Reading) → next_at r ≡ Ok x → word_at r ≡ Ok x
word-taken r x e = or_same (word_at r) x e
  where
    or_same : (y : Result (Spelled × Reading) Place) (x : Spelled × Reading) → or_token y ≡ Ok x → y ≡ Ok x
    or_same (Ok z) x e = ap Ok (ok_once z x e)
    or_same (Err p) x e = cc

-- a word with bytes was the first of those left
pub next-found : (r : Reading) (x : Spelled × Reading) → next_at r ≡ Ok x → (x.0.bytes ≡ [] → ⊥) → Spells r (x.0 ∷ []) x.1
next-found r x e some = by_end x.0.is_end refl
  where
    by_end : (t : Bool) → x.0.is_end ≡ t → Spells r (x.0 ∷ []) x.1
    by_end true k = absurd (some ((end-found r.text r.left x (word-taken r x e) k).1))
    by_end false k = word-found r.text r.left x (word-taken r x e) k

-- a word that a test knows, which knows no empty word
pub tested-found : (p : List ℕ → Bool) (r : Reading) (x : Spelled × Reading) → next_at r ≡ Ok x → p x.0.bytes ≡ true → p [] ≡ false → Spells r (x.0 ∷ []) x.1
tested-found p r x e t f = next-found r x e (λ none. let no : false ≡ true = sym f ∙ ap p (sym none) ∙ t in cc)

-- this very word was the first of those left
pub expect-found : (b : ℕ) (bs : List ℕ) (r r' : Reading) → expect_at (b ∷ bs) r ≡ Ok r' → (w : Spelled) × (w.bytes ≡ b ∷ bs) × Spells r (w ∷ []) r'
expect-found b bs r r' e =
    let w = bind_ok (next_at r) _ e in
    let t = tested_ok (bytes_eq w.0.0.bytes (b ∷ bs)) (Ok w.0.1) (Shape w.0.0.place) w.2 in
    let same = same_text w.0.0.bytes (b ∷ bs) t.0 in
    let word = next-found r w.0 w.1 (λ none. let no : [] ≡ b ∷ bs = sym none ∙ same in cc) in
    (w.0.0, same, subst (λ (q : Reading). Spells r (w.0.0 ∷ []) q) (ok_once w.0.1 r' t.1) word)

-- no word was left
pub end_at-found : (r r' : Reading) → end_at r ≡ Ok r' → script_left r ≡ Some []
end_at-found r r' e =
    let w = bind_ok (next_at r) _ e in
    let t = tested_ok w.0.0.is_end (Ok w.0.1) (Shape w.0.0.place) w.2 in
    (end-found r.text r.left w.0 (word-taken r w.0 w.1) t.0).0

pub true_fact : (b : Bool) → b ≡ true → IsTrue b
true_fact true e = refl
true_fact false e = cc

-- a name that may be given was the first of the words left
pub name-found : (r : Reading) (x : Spelled × Reading) → name_at r ≡ Ok x → IsTrue (is_free x.0.bytes) × Spells r (x.0 ∷ []) x.1
name-found r x e =
    let w = bind_ok (next_at r) _ e in
    let t = tested_ok (is_free w.0.0.bytes) (Ok w.0) (Shape w.0.0.place) w.2 in
    rw (sym (ok_once w.0 x t.1)) (true_fact _ t.0, tested-found is_free r w.0 w.1 t.0 refl)
