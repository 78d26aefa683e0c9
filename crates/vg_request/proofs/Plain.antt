-- Words none of which is an option: their parts, and what they ask for.
use Rattle.std.proofs.Common.{◌≡◌, ◌∙◌, ℕ, suc, ◌≤◌, Bool, true, false, List, [], ◌∷◌, length, take, drop, map, codes, Option, Some, None, refl, sym, ap, subst, arith}
use Rattle.std.specs.Prelude.{◌==◌, ◌&&◌, slice_index}
use Rattle.std.specs.List.{list_all}
use Rattle.std.specs.Option.{option_map, option_and_then}
use Rattle.std.specs.Str.{bytes_eq, is_utf8}
use Rattle.std.proofs.lemmas.Bool.{and_parts}
use Rattle.clap.specs.declared.parser.matches.ArgMatches.{ArgMatches}
use Rattle.vg_request.specs.Binding.{is_binding, bindings_in}
use Rattle.vg_request.specs.Found.{HasParts, values_of, run_found, eval_found, lift_found, trial_found}
use Rattle.vg_request.specs.declared.part.Flag.{Flag}
use Rattle.vg_request.specs.declared.part.Flag.TheVariants.{Guard, More}
use Rattle.vg_request.specs.Parts.{Part, word, parts_of, part_of, begins, widths_in, flags_in, words_in}
use Rattle.vg_request.specs.Readable.{are_options, are_plain}
use Rattle.vg_request.specs.Request.{Asked, run_words, eval_words, lift_words, trial_words, trial_number}
use Rattle.vg_request.specs.Word.{plain_word, is_plain}
use Rattle.vg_request.proofs.Spelled.{bindings_plain, trial_plain}

abbrev NoDash : List ℕ → Type 0
NoDash w = (slice_index w 0 == 45) ≡ false

plain_is : (w : List ℕ) → is_plain w ≡ true → NoDash w × (plain_word w ≡ Some w)
plain_is w e = by (slice_index w 0 == 45) refl (is_utf8 w) refl
  where
    by : (a : Bool) → (slice_index w 0 == 45) ≡ a → (b : Bool) → is_utf8 w ≡ b → NoDash w × (plain_word w ≡ Some w)
    by true x b y =
        let bad : false ≡ true = rw x at e in
        cc
    by false x false y =
        let bad : false ≡ true = rw (x, y) at e in
        cc
    by false x true y = (x, rw (x, y) refl)

-- it begins with no option
no_option : (w bs : List ℕ) → NoDash w → bytes_eq w (45 ∷ bs) ≡ false
no_option [] bs e = refl
no_option (x ∷ xs) bs e = rw e refl

taken : (n : ℕ) (w : List ℕ) → NoDash w → NoDash (take (suc n) w)
taken n [] e = refl
taken n (x ∷ xs) e = e

part_is : (w : List ℕ) → is_plain w ≡ true → part_of w ≡ Some (word w)
part_is w e =
    let p = plain_is w e in
    let a : begins (codes "--width=") w ≡ false = no_option (take 8 w) (codes "-width=") (taken 7 w p.0) in
    let b : begins (codes "--with=") w ≡ false = no_option (take 7 w) (codes "-with=") (taken 6 w p.0) in
    let c : bytes_eq w (codes "--guard") ≡ false = no_option w (codes "-guard") p.0 in
    let d : bytes_eq w (codes "--more") ≡ false = no_option w (codes "-more") p.0 in
    rw (a, b, c, d, p.1) refl

plain_parts : (ws : List (List ℕ)) → are_plain ws ≡ true → parts_of ws ≡ Some (map (λ w. word w) ws)
unfolding parts_of
plain_parts [] e = refl
plain_parts (w ∷ []) e = rw (part_is w (and_parts (is_plain w) true e).0) refl
plain_parts (w ∷ v ∷ ws) e =
    let all = and_parts (is_plain w) (are_plain (v ∷ ws)) e in
    let dash = (plain_is w all.0).0 in
    let a : bytes_eq w (codes "--width") ≡ false = no_option w (codes "-width") dash in
    let b : bytes_eq w (codes "--with") ≡ false = no_option w (codes "-with") dash in
    rw (a, b, part_is w all.0, plain_parts (v ∷ ws) all.1) refl

no_widths : (ws : List (List ℕ)) → widths_in (map (λ w. word w) ws) ≡ []
no_widths [] = refl
no_widths (w ∷ ws) = no_widths ws

no_flags : (f : Flag) (ws : List (List ℕ)) → flags_in f (map (λ w. word w) ws) ≡ []
no_flags f [] = refl
no_flags f (w ∷ ws) = no_flags f ws

all_words : (ws : List (List ℕ)) → words_in (map (λ w. word w) ws) ≡ ws
all_words [] = refl
all_words (w ∷ ws) = ap (λ l. w ∷ l) (all_words ws)

pub plain_are_options : (ws : List (List ℕ)) → are_plain ws ≡ true → are_options true ws ≡ true
plain_are_options ws e = rw (plain_parts ws e, no_widths ws, no_flags Guard ws, no_flags More ws) refl

pub files_are : (ws : List (List ℕ)) (m : ArgMatches) → are_plain ws ≡ true → HasParts (parts_of ws) m → values_of (codes "files") m ≡ ws
files_are ws m e h = (subst (λ o. HasParts o m) (plain_parts ws e) h).2 ∙ all_words ws

-- what they ask for, and where one is none of them, nothing
run_by : (ws : List (List ℕ)) → are_plain ws ≡ true → run_found ws (drop 3 ws) ≡ run_words ws
run_by [] e = refl
run_by (a ∷ []) e = refl
run_by (a ∷ b ∷ []) e = refl
run_by (a ∷ b ∷ c ∷ ws) e =
    let one = and_parts (is_plain a) (are_plain (b ∷ c ∷ ws)) e in
    let two = and_parts (is_plain b) (are_plain (c ∷ ws)) one.1 in
    let three = and_parts (is_plain c) (are_plain ws) two.1 in
    rw ((plain_is a one.0).1, (plain_is b two.0).1, (plain_is c three.0).1) refl

pub run_is : (ws : List (List ℕ)) → 1 ≤ length ws → are_plain (drop 1 ws) ≡ true → run_found (drop 1 ws) (drop 4 ws) ≡ run_words (drop 1 ws)
run_is [] h e = refl
run_is (w ∷ ws) h e = run_by ws e

pub run_none : (ws : List (List ℕ)) → are_plain ws ≡ false → run_words ws ≡ None
run_none [] e = refl
run_none (a ∷ []) e = refl
run_none (a ∷ b ∷ []) e = refl
run_none (a ∷ b ∷ c ∷ ws) e = by (list_all is_binding ws) refl (plain_word a) refl (plain_word b) refl (plain_word c) refl
  where
    by : (t : Bool) → list_all is_binding ws ≡ t → (x : Option (List ℕ)) → plain_word a ≡ x → (y : Option (List ℕ)) → plain_word b ≡ y → (z : Option (List ℕ)) → plain_word c ≡ z → run_words (a ∷ b ∷ c ∷ ws) ≡ None
    by false t x p y q z r = rw t refl
    by true t None p y q z r = rw (t, p) refl
    by true t (Some x) p None q z r = rw (t, p, q) refl
    by true t (Some x) p (Some y) q None r = rw (t, p, q, r) refl
    by true t (Some x) p (Some y) q (Some z) r =
        let bad : true ≡ false = rw (p, q, r, bindings_plain ws t) at e in
        cc

eval_by : (ws : List (List ℕ)) → are_plain ws ≡ true → eval_found ws (drop 2 ws) ≡ eval_words ws
eval_by [] e = refl
eval_by (a ∷ []) e = refl
eval_by (a ∷ b ∷ ws) e =
    let one = and_parts (is_plain a) (are_plain (b ∷ ws)) e in
    let two = and_parts (is_plain b) (are_plain ws) one.1 in
    rw ((plain_is a one.0).1, (plain_is b two.0).1) refl

pub eval_is : (ws : List (List ℕ)) → 1 ≤ length ws → are_plain (drop 1 ws) ≡ true → eval_found (drop 1 ws) (drop 3 ws) ≡ eval_words (drop 1 ws)
eval_is [] h e = refl
eval_is (w ∷ ws) h e = eval_by ws e

pub eval_none : (ws : List (List ℕ)) → are_plain ws ≡ false → eval_words ws ≡ None
eval_none [] e = refl
eval_none (a ∷ []) e = refl
eval_none (a ∷ b ∷ ws) e = by (list_all is_binding ws) refl (plain_word a) refl (plain_word b) refl
  where
    by : (t : Bool) → list_all is_binding ws ≡ t → (x : Option (List ℕ)) → plain_word a ≡ x → (y : Option (List ℕ)) → plain_word b ≡ y → eval_words (a ∷ b ∷ ws) ≡ None
    by false t x p y q = rw t refl
    by true t None p y q = rw (t, p) refl
    by true t (Some x) p None q = rw (t, p, q) refl
    by true t (Some x) p (Some y) q =
        let bad : true ≡ false = rw (p, q, bindings_plain ws t) at e in
        cc

pub lift_is : (ws : List (List ℕ)) → are_plain ws ≡ true → lift_found ws ≡ lift_words ws
lift_is [] e = refl
lift_is (a ∷ []) e = rw ((plain_is a (and_parts (is_plain a) true e).0).1) refl
lift_is (a ∷ b ∷ ws) e = refl

pub lift_none : (ws : List (List ℕ)) → are_plain ws ≡ false → lift_words ws ≡ None
lift_none [] e = refl
lift_none (a ∷ []) e = by (plain_word a) refl
  where
    by : (x : Option (List ℕ)) → plain_word a ≡ x → lift_words (a ∷ []) ≡ None
    by None p = rw p refl
    by (Some x) p =
        let bad : true ≡ false = rw p at e in
        cc
lift_none (a ∷ b ∷ ws) e = refl

pub trial_is : (ws : List (List ℕ)) → are_plain ws ≡ true → trial_found ws ≡ trial_words ws
trial_is [] e = refl
trial_is (a ∷ []) e = refl
trial_is (a ∷ d ∷ []) e = rw ((plain_is a (and_parts (is_plain a) (are_plain (d ∷ [])) e).0).1) refl
trial_is (a ∷ d ∷ b ∷ ws) e = refl

pub trial_none : (ws : List (List ℕ)) → are_plain ws ≡ false → trial_words ws ≡ None
trial_none [] e = refl
trial_none (a ∷ []) e = refl
trial_none (a ∷ d ∷ []) e = by (plain_word a) refl (trial_number d) refl
  where
    by : (x : Option (List ℕ)) → plain_word a ≡ x → (n : Option ℕ) → trial_number d ≡ n → trial_words (a ∷ d ∷ []) ≡ None
    by None p n t = rw p refl
    by (Some x) p None t = rw (p, t) refl
    by (Some x) p (Some n) t =
        let bad : true ≡ false = rw (p, trial_plain d n t) at e in
        cc
trial_none (a ∷ d ∷ b ∷ ws) e = refl
