-- The first line: what is read is spelled so, and what is spelled so is read again.
use Rattle.std.proofs.Common.{◌≡◌, ℕ, zero, suc, ◌<◌, List, [], ◌∷◌, ◌++◌, length, drop, Bool, true, false, ◌||◌, Ok, refl, sym, ap, subst, ◌∙◌, append_assoc, map, arith}
use Rattle.std.specs.Prelude.{IsTrue, codes}
use Rattle.std.specs.List.{list_any, flat_map, IsDistinct, AllByRecursion}
use Rattle.std.specs.Str.{bytes_eq}
use Rattle.std.proofs.lemmas.List.{append-nil}
use Rattle.vg_base.specs.declared.width.Width.{Width}
use Rattle.vg_base.specs.declared.width.Width.TheVariants.{W8, W16, W32, W64}
use Rattle.vg_program.specs.declared.param.Param.{Param}
use Rattle.vg_program.specs.declared.param_kind.ParamKind.{ParamKind}
use Rattle.vg_program.specs.declared.param_kind.ParamKind.TheVariants.{Pointer, Integer}
use Rattle.vg_program.specs.declared.signature.Signature.{Signature}
use Rattle.vg_text.specs.Byte.{is_name, is_name_text}
use Rattle.vg_program.specs.Params.{AreParams}
use Rattle.vg_program.specs.Text.{line_end, type_text, kind_text, param_text, params_text, signature_text}
use Rattle.vg_program.specs.Tokens.{begins, is_word, word_at, signs_at}
use Rattle.vg_program.specs.Grammar.{kind_at, param_at, params_behind, params_at, signature_at, first_line_at}
use Rattle.vg_program.proofs.Steps.{Holds, now, never, and_then, if_both, if_not, Stops, drop-run}
use Rattle.vg_program.proofs.TokenLaws.{signs_takes, word_is, word_takes, word-run, begins_is, name_takes, name_again, name_begins, short_type, type_text-short, short_type-run, type_takes, type_again}

-- ---- one parameter

kind_takes : (text : List ℕ) → Holds (kind_at text) (λ x. text ≡ kind_text x.0 ++ x.1)
unfolding kind_at
kind_takes text = if_both _ _ _ _ (λ is. now _ _ (word_is (codes "ptr") text is)) (λ _. and_then _ _ _ _ (type_takes text) (λ width w. now _ _ w))

kind_again : (kind : ParamKind) (rest : List ℕ) → Stops is_name rest → kind_at (kind_text kind ++ rest) ≡ Ok (kind, rest)
unfolding kind_at
kind_again Pointer rest stops =
    rw (word-run (codes "ptr") (codes "ptr") rest refl stops, drop-run is_name (codes "ptr") rest refl stops) refl
kind_again (Integer w) rest stops =
    let other : is_word (codes "ptr") (type_text w ++ rest) ≡ false = ap (λ (t : List ℕ). is_word (codes "ptr") (t ++ rest)) (type_text-short w) ∙ word-run (codes "ptr") (short_type w) rest (short_type-run w) stops ∙ apart w in
    rw (other, type_again w rest stops) refl
  where
    apart : (w : Width) → bytes_eq (short_type w) (codes "ptr") ≡ false
    apart W8 = refl
    apart W16 = refl
    apart W32 = refl
    apart W64 = refl

-- whether a name is given already
abbrev is_given : List ℕ → List Param → Bool
is_given name params = list_any (λ q. bytes_eq q.name name) params

param_takes : (before : List Param) (text : List ℕ) → Holds (param_at before text) (λ x. (text ≡ param_text x.0 ++ x.1) × IsTrue (is_name_text x.0.name) × (is_given x.0.name before ≡ false))
unfolding param_at
param_takes before text =
    and_then _ _ _ _ (name_takes text) (λ name n. if_not _ _ _ _ (λ fresh.
    and_then _ _ _ _ (signs_takes (codes ": ") name.1) (λ colon c.
    and_then _ _ _ _ (kind_takes colon) (λ kind k.
    let q : Param = record { name = name.0; kind = kind.0 } in
    let spelled : text ≡ param_text q ++ kind.1 = rw (n.0, c, k) (simp append_assoc) in
    now _ _ (spelled, n.1, fresh)))))

param_again : (before : List Param) (q : Param) (rest : List ℕ) → IsTrue (is_name_text q.name) → is_given q.name before ≡ false → Stops is_name rest → param_at before (param_text q ++ rest) ≡ Ok (q, rest)
unfolding param_at signs_at
param_again before q rest named fresh stops =
    let regrouped : param_text q ++ rest ≡ q.name ++ (codes ": " ++ (kind_text q.kind ++ rest)) = simp append_assoc in
    ap (param_at before) regrouped ∙ rw (name_again q.name (codes ": " ++ (kind_text q.kind ++ rest)) named refl, fresh, kind_again q.kind rest stops) refl

-- ---- the parameters

-- names that are names and differ
record Proper (params : List Param) : Type 0 where
  names : AllByRecursion (λ q. IsTrue (is_name_text q.name)) params
  distinct : IsDistinct bytes_eq (map (λ q. q.name) params)

or_parts : (x y : Bool) → (x || y) ≡ false → (x ≡ false) × (y ≡ false)
or_parts true y e = absurd cc
or_parts false y e = (refl, e)

proper_more : (params : List Param) (q : Param) → Proper params → IsTrue (is_name_text q.name) → is_given q.name params ≡ false → Proper (params ++ q ∷ [])
unfolding IsDistinct
proper_more [] q p named fresh = record { names = (named, tt); distinct = (tt, tt) }
proper_more (x ∷ xs) q p named fresh =
    let parts = or_parts (bytes_eq x.name q.name) (is_given q.name xs) fresh in
    let more = proper_more xs q (record { names = p.names.1; distinct = p.distinct.1 }) named parts.1 in
    record { names = (p.names.0, more.names); distinct = (apart xs p.distinct.0 parts.0, more.distinct) }
  where
    apart : (ys : List Param) → AllByRecursion (λ y. bytes_eq x.name y ≡ false) (map (λ r. r.name) ys) → bytes_eq x.name q.name ≡ false → AllByRecursion (λ y. bytes_eq x.name y ≡ false) (map (λ r. r.name) (ys ++ q ∷ []))
    apart [] all e = (e, tt)
    apart (y ∷ ys) all e = (all.0, apart ys all.1 e)

-- what stands after other names that differ from it is not given among them
fresh_behind : (before : List Param) (q : Param) (others : List Param) → IsDistinct bytes_eq (map (λ r. r.name) (before ++ q ∷ others)) → is_given q.name before ≡ false
unfolding IsDistinct
fresh_behind [] q others d = refl
fresh_behind (x ∷ xs) q others d = or_from (bytes_eq x.name q.name) (is_given q.name xs) (found xs d.0) (fresh_behind xs q others d.1)
  where
    or_from : (x y : Bool) → x ≡ false → y ≡ false → (x || y) ≡ false
    or_from true y e f = absurd cc
    or_from false y e f = f

    found : (ys : List Param) → AllByRecursion (λ y. bytes_eq x.name y ≡ false) (map (λ r. r.name) (ys ++ q ∷ others)) → bytes_eq x.name q.name ≡ false
    found [] all = all.0
    found (y ∷ ys) all = found ys all.1

-- a first parameter and the others
params_text-cons : (q r : Param) (qs : List Param) (rest : List ℕ) → params_text (q ∷ r ∷ qs) ++ rest ≡ param_text q ++ (codes ", " ++ (params_text (r ∷ qs) ++ rest))
params_text-cons q r qs rest = joined (param_text q) (codes ", ") (param_text r) (flat_map (λ s. codes ", " ++ param_text s) qs) rest
  where
    joined : (a b c d e : List ℕ) → (a ++ ((b ++ c) ++ d)) ++ e ≡ a ++ (b ++ ((c ++ d) ++ e))
    joined a b c d e = simp append_assoc

-- the parameters that are read after others, up to the bracket
record TakesParams (room : ℕ) (done : List Param) (text : List ℕ) (x : List Param × List ℕ) : Type 0 where
  first : Param
  others : List Param
  all : x.0 ≡ done ++ first ∷ others
  spelled : text ≡ params_text (first ∷ others) ++ (codes ")" ++ x.1)
  few : length others < room
  proper : Proper done → Proper x.0

params_behind_takes : (room : ℕ) (done : List Param) (text : List ℕ) → Holds (params_behind room done text) (TakesParams room done text)
unfolding params_behind
params_behind_takes zero done text = never _ _
params_behind_takes (suc room) done text =
    and_then _ _ _ _ (param_takes done text) (λ q p. if_both _ _ _ _ (λ closed.
    let spelled : text ≡ params_text (q.0 ∷ []) ++ (codes ")" ++ drop 1 q.1) = rw (p.0, begins_is 41 q.1 closed, append-nil) refl in
    now _ _ (record { first = q.0; others = []; all = refl; spelled = spelled; few = omega arith; proper = λ proper. proper_more done q.0 proper p.1 p.2 }))
    (λ _. and_then _ _ _ _ (signs_takes (codes ", ") q.1) (λ rest r. record {
      holds = λ x e.
          let t = (params_behind_takes room (done ++ q.0 ∷ []) rest).holds x e in
          record {
            first = q.0;
            others = t.first ∷ t.others;
            all = t.all ∙ append_assoc done (q.0 ∷ []) (t.first ∷ t.others);
            spelled = p.0 ∙ ap (λ (b : List ℕ). param_text q.0 ++ b) (r ∙ ap (λ (b : List ℕ). codes ", " ++ b) t.spelled) ∙ sym (params_text-cons q.0 t.first t.others (codes ")" ++ x.1));
            few = omega (arith, t.few);
            proper = λ proper. t.proper (proper_more done q.0 proper p.1 p.2);
          };
    })))

params_takes : (text : List ℕ) → Holds (params_at text) (λ x. (text ≡ params_text x.0 ++ (codes ")" ++ x.1)) × AreParams x.0)
unfolding params_at IsDistinct
params_takes text = if_both _ _ _ _ (λ closed.
    now _ _ (begins_is 41 text closed, record { few = omega arith; names = tt; distinct = tt }))
    (λ _. record {
      holds = λ x e.
          let t = (params_behind_takes 16 [] text).holds x e in
          let proper = t.proper (record { names = tt; distinct = tt }) in
          (t.spelled ∙ ap (λ (qs : List Param). params_text qs ++ (codes ")" ++ x.1)) (sym t.all), record { few = omega (arith, t.few, ap length t.all); names = proper.names; distinct = proper.distinct });
    })

params_behind_again : (room : ℕ) (done : List Param) (q : Param) (qs : List Param) (rest : List ℕ) → length qs < room → AllByRecursion (λ r. IsTrue (is_name_text r.name)) (q ∷ qs) → IsDistinct bytes_eq (map (λ r. r.name) (done ++ q ∷ qs)) → params_behind room done (params_text (q ∷ qs) ++ (codes ")" ++ rest)) ≡ Ok (done ++ q ∷ qs, rest)
unfolding params_behind signs_at
params_behind_again zero done q qs rest few names distinct = absurd (omega arith)
params_behind_again (suc room) done q [] rest few names distinct =
    let regrouped : params_text (q ∷ []) ++ (codes ")" ++ rest) ≡ param_text q ++ (codes ")" ++ rest) = rw append-nil refl in
    ap (params_behind (suc room) done) regrouped ∙ rw (param_again done q (codes ")" ++ rest) names.0 (fresh_behind done q [] distinct) refl) refl
params_behind_again (suc room) done q (r ∷ qs) rest few names distinct =
    let regrouped : params_text (q ∷ r ∷ qs) ++ (codes ")" ++ rest) ≡ param_text q ++ (codes ", " ++ (params_text (r ∷ qs) ++ (codes ")" ++ rest))) = params_text-cons q r qs (codes ")" ++ rest) in
    let along : (done ++ q ∷ []) ++ r ∷ qs ≡ done ++ q ∷ r ∷ qs = append_assoc done (q ∷ []) (r ∷ qs) in
    let others = params_behind_again room (done ++ q ∷ []) r qs rest (omega arith) names.1 (subst (λ (l : List Param). IsDistinct bytes_eq (map (λ s. s.name) l)) (sym along) distinct) in
    ap (params_behind (suc room) done) regrouped ∙ rw (param_again done q (codes ", " ++ (params_text (r ∷ qs) ++ (codes ")" ++ rest))) names.0 (fresh_behind done q (r ∷ qs) distinct) refl, others, along) refl

params_again : (params : List Param) (rest : List ℕ) → AreParams params → params_at (params_text params ++ (codes ")" ++ rest)) ≡ Ok (params, rest)
unfolding params_at
params_again [] rest p = refl
params_again (q ∷ qs) rest p =
    let closing : begins 41 (params_text (q ∷ qs) ++ (codes ")" ++ rest)) ≡ false = ap (begins 41) (joined q.name (codes ": ") (kind_text q.kind) (flat_map (λ r. codes ", " ++ param_text r) qs) (codes ")" ++ rest)) ∙ name_begins 41 q.name _ p.names.0 refl in
    rw closing (params_behind_again 16 [] q qs rest (omega (arith, p.few)) p.names p.distinct)
  where
    joined : (a b c d e : List ℕ) → (((a ++ b) ++ c) ++ d) ++ e ≡ a ++ (b ++ (c ++ (d ++ e)))
    joined a b c d e = simp append_assoc

-- ---- the name and the parameters

-- what is read is spelled so
pub record TakesSignature (text : List ℕ) (x : Signature × List ℕ) : Type 0 where
  pub spelled : text ≡ signature_text x.0 ++ x.1
  pub named : IsTrue (is_name_text x.0.name)
  pub params : AreParams x.0.params

signature_text-joined : (s : Signature) (rest : List ℕ) → signature_text s ++ rest ≡ s.name ++ (codes "(" ++ (params_text s.params ++ (codes ")" ++ rest)))
signature_text-joined s rest = joined s.name (codes "(") (params_text s.params) (codes ")") rest
  where
    joined : (a b c d e : List ℕ) → (((a ++ b) ++ c) ++ d) ++ e ≡ a ++ (b ++ (c ++ (d ++ e)))
    joined a b c d e = simp append_assoc

pub signature-takes : (text : List ℕ) → Holds (signature_at text) (TakesSignature text)
unfolding signature_at
signature-takes text =
    and_then _ _ _ _ (name_takes text) (λ name n.
    and_then _ _ _ _ (signs_takes (codes "(") name.1) (λ bracket b.
    and_then _ _ _ _ (params_takes bracket) (λ params p.
    let s : Signature = record { name = name.0; params = params.0 } in
    let spelled : text ≡ signature_text s ++ params.1 = rw (signature_text-joined s params.1, n.0, b, p.0) refl in
    now _ _ (record { spelled = spelled; named = n.1; params = p.1 }))))

pub signature-again : (s : Signature) (rest : List ℕ) → IsTrue (is_name_text s.name) → AreParams s.params → signature_at (signature_text s ++ rest) ≡ Ok (s, rest)
unfolding signature_at signs_at
signature-again s rest named proper =
    ap signature_at (signature_text-joined s rest)
    ∙ rw (name_again s.name (codes "(" ++ (params_text s.params ++ (codes ")" ++ rest))) named refl, params_again s.params rest proper) refl

-- ---- the first line

abbrev pub first_text : Signature → List ℕ
first_text s = codes "program " ++ signature_text s ++ line_end

first_text-joined : (s : Signature) (rest : List ℕ) → first_text s ++ rest ≡ codes "program " ++ (signature_text s ++ (line_end ++ rest))
first_text-joined s rest = joined (codes "program ") (signature_text s) line_end rest
  where
    joined : (a b c d : List ℕ) → ((a ++ b) ++ c) ++ d ≡ a ++ (b ++ (c ++ d))
    joined a b c d = simp append_assoc

-- what is read is spelled so
pub record TakesFirst (text : List ℕ) (x : Signature × List ℕ) : Type 0 where
  pub spelled : text ≡ first_text x.0 ++ x.1
  pub named : IsTrue (is_name_text x.0.name)
  pub params : AreParams x.0.params

pub first_line-takes : (text : List ℕ) → Holds (first_line_at text) (TakesFirst text)
unfolding first_line_at
first_line-takes text =
    and_then _ _ _ _ (word_takes (codes "program") text) (λ program a.
    and_then _ _ _ _ (signs_takes (codes " ") program) (λ space b.
    and_then _ _ _ _ (signature-takes space) (λ s t.
    and_then _ _ _ _ (signs_takes line_end s.1) (λ rest d.
    let spelled : text ≡ first_text s.0 ++ rest = rw (first_text-joined s.0 rest, a, b, t.spelled, d) refl in
    now _ _ (record { spelled = spelled; named = t.named; params = t.params })))))

pub first_line-again : (s : Signature) (rest : List ℕ) → IsTrue (is_name_text s.name) → AreParams s.params → first_line_at (first_text s ++ rest) ≡ Ok (s, rest)
unfolding first_line_at word_at is_word signs_at
first_line-again s rest named proper =
    ap first_line_at (first_text-joined s rest) ∙ rw (signature-again s (line_end ++ rest) named proper) refl
