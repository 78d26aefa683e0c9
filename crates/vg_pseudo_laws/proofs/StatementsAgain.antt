-- Statements that are in the language are read.
use Rattle.std.proofs.Common.{◌≡◌, ℕ, suc, Bool, true, false, List, [], ◌∷◌, ◌++◌, Ok, refl, ◌∙◌, ap, subst, append_assoc}
use Rattle.std.specs.Prelude.{codes, max, if◌then◌else◌, ◌||◌}
use Rattle.std.specs.Option.{option_map_or}
use Rattle.std.specs.Str.{bytes_eq}
use Rattle.vg_base.proofs.Bind.{bind_to}
use Rattle.vg_text.specs.Number.{decimal_value}
use Rattle.vg_text.specs.Words.{Reading, Spelled}
use Rattle.vg_pseudo.specs.Tree.{Statements, stop, assign, above, repeat, pick}
use Rattle.vg_pseudo.specs.Definitions.{Context}
use Rattle.vg_pseudo.specs.Words.{is_free, begins_statement, number_of}
use Rattle.vg_pseudo.specs.Grammar.{Words, Is, IsName, IsWhole, IsOwnIndex, AreStatements, done, assigned, assigned_above, repeated, chosen_way, picked_arm, AreWays, last_way, way_and_else, way_and_more, AreArms, no_arm, arm_and_more}
use Rattle.vg_pseudo.specs.Reader.{next_at, expect_at, name_at, items_behind}
use Rattle.vg_pseudo.specs.Expressions.{Part, form_at, whole_at, own_index_at}
use Rattle.vg_pseudo.specs.Statements.{Block, followed_by, Body, assigned_at, above_at, above_follows, assignment_at, for_at, if_at, arm_follows, arm_at, case_at, word_at_head, block_at, statement_at, statements_at}
use Rattle.vg_pseudo_laws.proofs.Standing.{Reads}
use Rattle.vg_pseudo_laws.proofs.StatementsFound.{loop_words}
use Rattle.vg_pseudo_laws.proofs.WordsAgain.{next-again, no-more, split, expect-again, name-again, not_text, Ends, ends-text, ends-name}
use Rattle.vg_pseudo_laws.proofs.ListsAgain.{steps-again}
use Rattle.vg_pseudo_laws.proofs.LanguageRead.{whole-again, own_index-again}
use Rattle.vg_pseudo_laws.proofs.BlocksAgain.{Over, over-text, GivesBlock, block-again, no-statements, one-statement, GivesArms, no-arms, one-arm}
use Rattle.vg_pseudo_laws.proofs.WaysAgain.{GivesBody, GivesWays, last-ways, else-ways, more-ways, if-again}
use Rattle.vg_pseudo_laws.proofs.TargetsAgain.{TargetLaw, target-words}

-- tests that fail, and one that holds
skip : {A : Type 0} (b : Bool) (x y : A) {z : A} → b ≡ false → y ≡ z → (if b then x else y) ≡ z
skip true x y e g = cc
skip false x y e g = g

take_it : {A : Type 0} (b : Bool) (x y : A) {z : A} → b ≡ true → x ≡ z → (if b then x else y) ≡ z
take_it true x y e g = g
take_it false x y e g = cc

-- the words of a choice by a number before others
case_words : (selector inside rest : Words) (of closing : Spelled) → (selector ++ of ∷ (inside ++ closing ∷ [])) ++ rest ≡ selector ++ of ∷ (inside ++ closing ∷ rest)
case_words selector inside rest of closing = simp append_assoc

above-taken : (opening greatest colon : Spelled) (ws : Words) (r m : Reading) → Is opening (codes "[") → Is greatest (codes "MAX") → Is colon (codes ":") → Reads (opening ∷ greatest ∷ colon ∷ ws) r m → (n : Reading) × (above_follows r ≡ Ok (true, n)) × Reads ws n m
unfolding above_follows
above-taken opening greatest colon ws r m opening_is greatest_is colon_is h =
    let a = next-again h in
    let b = next-again a.rest in
    let c = next-again b.rest in
    let x : bytes_eq opening.bytes (codes "[") ≡ true = ap (λ (t : List ℕ). bytes_eq t (codes "[")) opening_is in
    let y : bytes_eq greatest.bytes (codes "MAX") ≡ true = ap (λ (t : List ℕ). bytes_eq t (codes "MAX")) greatest_is in
    let z : bytes_eq colon.bytes (codes ":") ≡ true = ap (λ (t : List ℕ). bytes_eq t (codes ":")) colon_is in
    (c.behind, bind_to (next_at r) _ a.next (take_it (bytes_eq opening.bytes (codes "[")) _ _ x (bind_to (next_at a.behind) _ b.next (take_it (bytes_eq greatest.bytes (codes "MAX")) _ _ y (bind_to (next_at b.behind) _ c.next (take_it (bytes_eq colon.bytes (codes ":")) _ _ z refl))))), c.rest)

module _ (context : Context) where
  assign-again : (w sign : Spelled) (ts es : Words) (t e : Part) → TargetLaw context w ts t → Is sign (codes ":=") → IsWhole context es e → (r m : Reading) → Reads (ts ++ sign ∷ es) r m → Ends 8 m
      → assignment_at context w r ≡ Ok (record { statements = assign w.place t.expression e.expression stop; calls = max t.calls e.calls }, m)
  unfolding assignment_at assigned_at
  assign-again w sign ts es t e law sign_is is_e r m h end =
      let a = split ts h in
      let b = next-again a.second in
      let first = ends-text 0 (codes ":=") sign b.behind a.middle b.next sign_is refl in
      let value : assigned_at context w.place t.expression a.middle ≡ Ok (record { statements = assign w.place t.expression e.expression stop; calls = e.calls }, m) =
      bind_to (expect_at (codes ":=") a.middle) _ (expect-again (codes ":=") sign a.middle b.behind sign_is b.next) (bind_to (whole_at context b.behind) _ (whole-again context es e is_e b.behind m b.rest end) refl) in
      bind_to (above_follows r) _ (law.other r a.middle a.first first)
      (bind_to (form_at (own_index_at context) w r) _ (law.reads r a.middle a.first first)
      (bind_to (assigned_at context w.place t.expression a.middle) _ value refl))

  above-again : (w opening greatest colon closing sign : Spelled) (ls es : Words) (l e : Part) → Is opening (codes "[") → Is greatest (codes "MAX") → Is colon (codes ":") → IsOwnIndex context ls l → Is closing (codes "]") → Is sign (codes ":=") → IsWhole context es e
      → (r m : Reading) → Reads (opening ∷ greatest ∷ colon ∷ (ls ++ closing ∷ sign ∷ es)) r m → Ends 8 m
      → assignment_at context w r ≡ Ok (record { statements = above w.place w.bytes l.expression e.expression stop; calls = max l.calls e.calls }, m)
  unfolding assignment_at above_at
  above-again w opening greatest colon closing sign ls es l e opening_is greatest_is colon_is is_l closing_is sign_is is_e r m h end =
      let a = above-taken opening greatest colon (ls ++ closing ∷ sign ∷ es) r m opening_is greatest_is colon_is h in
      let b = split ls a.2 in
      let c = next-again b.second in
      let d = next-again c.rest in
      bind_to (above_follows r) _ a.1
      (bind_to (own_index_at context a.0) _ (own_index-again context ls l is_l a.0 b.middle b.first (ends-text 7 (codes "]") closing c.behind b.middle c.next closing_is refl))
      (bind_to (expect_at (codes "]") b.middle) _ (expect-again (codes "]") closing b.middle c.behind closing_is c.next)
      (bind_to (expect_at (codes ":=") c.behind) _ (expect-again (codes ":=") sign c.behind d.behind sign_is d.next)
      (bind_to (whole_at context d.behind) _ (whole-again context es e is_e d.behind m d.rest end) refl))))

  module _ (body : Body) where
    for-again : (w variable sign to closing : Spelled) (xs ys inside : Words) (x y : Part) (b : Block) → IsName variable → Is sign (codes ":=") → IsWhole context xs x → Is to (codes "to") → IsWhole context ys y → GivesBody body inside b → Is closing (codes "ENDFOR")
        → (r m : Reading) → Reads (variable ∷ sign ∷ (xs ++ to ∷ (ys ++ (inside ++ closing ∷ [])))) r m
        → for_at context body w.place r ≡ Ok (record { statements = repeat w.place variable.bytes x.expression y.expression b.statements stop; calls = max (max x.calls y.calls) b.calls }, m)
    unfolding for_at
    for-again w variable sign to closing xs ys inside x y b name_is sign_is is_x to_is is_y law closing_is r m h =
        let n = next-again h in
        let s = next-again n.rest in
        let p = split xs s.rest in
        let t = next-again p.second in
        let q = split ys t.rest in
        let i = split inside q.second in
        let c = next-again i.second in
        let over = over-text (codes "ENDFOR") closing c.behind i.middle c.next closing_is refl refl in
        bind_to (name_at r) _ (name-again variable r n.behind name_is n.next)
        (bind_to (expect_at (codes ":=") n.behind) _ (expect-again (codes ":=") sign n.behind s.behind sign_is s.next)
        (bind_to (whole_at context s.behind) _ (whole-again context xs x is_x s.behind p.middle p.first (ends-text 8 (codes "to") to t.behind p.middle t.next to_is refl))
        (bind_to (expect_at (codes "to") p.middle) _ (expect-again (codes "to") to p.middle t.behind to_is t.next)
        (bind_to (whole_at context t.behind) _ (whole-again context ys y is_y t.behind q.middle q.first (law.begins q.middle i.middle i.first over.ends))
        (bind_to (body q.middle) _ (law.reads q.middle i.middle i.first over)
        (bind_to (expect_at (codes "ENDFOR") i.middle) _ (expect-again (codes "ENDFOR") closing i.middle c.behind closing_is c.next)
        (ap (λ (z : Reading). Ok (record { statements = repeat w.place variable.bytes x.expression y.expression b.statements stop; calls = max (max x.calls y.calls) b.calls }, z)) (no-more c.rest))))))))

    case-again : (of closing : Spelled) (es inside : Words) (e : Part) (b : Block) → IsWhole context es e → Is of (codes "OF") → GivesArms body inside b → Is closing (codes "ESAC") → (r m : Reading) → Reads (es ++ of ∷ (inside ++ closing ∷ [])) r m
        → case_at context body r ≡ Ok (record { statements = pick e.expression b.statements stop; calls = max e.calls b.calls }, m)
    unfolding case_at decimal_value
    case-again of closing es inside e b is_e of_is law closing_is r m h =
        let p = split es h in
        let o = next-again p.second in
        let i = split inside o.rest in
        let c = next-again i.second in
        let over = over-text (codes "ESAC") closing c.behind i.middle c.next closing_is refl refl in
        let none : arm_follows i.middle ≡ Ok (false, i.middle) = bind_to (next_at i.middle) _ c.next (ap (λ (t : List ℕ). Ok (option_map_or (λ (n : ℕ). true) (number_of t) false, i.middle)) closing_is) in
        bind_to (whole_at context r) _ (whole-again context es e is_e r p.middle p.first (ends-text 8 (codes "OF") of o.behind p.middle o.next of_is refl))
        (bind_to (expect_at (codes "OF") p.middle) _ (expect-again (codes "OF") of p.middle o.behind of_is o.next)
        (bind_to (items_behind arm_follows (arm_at body) [] o.behind) _ (steps-again arm_follows (arm_at body) [] (law.steps o.behind i.middle i.first over none))
        (bind_to (expect_at (codes "ESAC") i.middle) _ (expect-again (codes "ESAC") closing i.middle c.behind closing_is c.next)
        (ap (λ (x : Block). Ok (record { statements = pick e.expression x.statements stop; calls = max e.calls x.calls }, c.behind)) law.same ∙ ap (λ (z : Reading). Ok (record { statements = pick e.expression b.statements stop; calls = max e.calls b.calls }, z)) (no-more c.rest)))))

  -- how a statement of this word goes on
  abbrev Head : ℕ → Spelled → Words → Block → Type 0
  Head room w ws b = (r m : Reading) → Reads ws r m → Ends 8 m → word_at_head context (block_at (statement_at context room)) w r ≡ Ok (b, m)

  name-head : (room : ℕ) (w : Spelled) (ws : Words) (b : Block) → IsName w → ((r m : Reading) → Reads ws r m → Ends 8 m → assignment_at context w r ≡ Ok (b, m)) → Head room w ws b
  unfolding word_at_head
  name-head room w ws b free law r m h end =
      let is : is_free w.bytes ≡ true = free in
      skip (bytes_eq w.bytes (codes "FOR")) _ _ (not_text is_free w.bytes (codes "FOR") is refl)
      (skip (bytes_eq w.bytes (codes "IF")) _ _ (not_text is_free w.bytes (codes "IF") is refl)
      (skip (bytes_eq w.bytes (codes "CASE")) _ _ (not_text is_free w.bytes (codes "CASE") is refl)
      (take_it (is_free w.bytes) _ _ is (law r m h end))))

  for-head : (room : ℕ) (w : Spelled) (ws : Words) (b : Block) → Is w (codes "FOR") → ((r m : Reading) → Reads ws r m → for_at context (block_at (statement_at context room)) w.place r ≡ Ok (b, m)) → Head room w ws b
  unfolding word_at_head
  for-head room w ws b is law r m h end = take_it (bytes_eq w.bytes (codes "FOR")) _ _ (ap (λ (t : List ℕ). bytes_eq t (codes "FOR")) is) (law r m h)

  if-head : (room : ℕ) (w : Spelled) (ws : Words) (b : Block) → Is w (codes "IF") → ((r m : Reading) → Reads ws r m → if_at context (block_at (statement_at context room)) r ≡ Ok (b, m)) → Head room w ws b
  unfolding word_at_head
  if-head room w ws b is law r m h end =
      skip (bytes_eq w.bytes (codes "FOR")) _ _ (ap (λ (t : List ℕ). bytes_eq t (codes "FOR")) is) (take_it (bytes_eq w.bytes (codes "IF")) _ _ (ap (λ (t : List ℕ). bytes_eq t (codes "IF")) is) (law r m h))

  case-head : (room : ℕ) (w : Spelled) (ws : Words) (b : Block) → Is w (codes "CASE") → ((r m : Reading) → Reads ws r m → case_at context (block_at (statement_at context room)) r ≡ Ok (b, m)) → Head room w ws b
  unfolding word_at_head
  case-head room w ws b is law r m h end =
      skip (bytes_eq w.bytes (codes "FOR")) _ _ (ap (λ (t : List ℕ). bytes_eq t (codes "FOR")) is)
      (skip (bytes_eq w.bytes (codes "IF")) _ _ (ap (λ (t : List ℕ). bytes_eq t (codes "IF")) is) (take_it (bytes_eq w.bytes (codes "CASE")) _ _ (ap (λ (t : List ℕ). bytes_eq t (codes "CASE")) is) (law r m h)))

  or-last : (a b c d : Bool) → d ≡ true → (a || b || c || d) ≡ true
  or-last true b c d e = refl
  or-last false true c d e = refl
  or-last false false true d e = refl
  or-last false false false d e = e

  statement-again : (room : ℕ) (w : Spelled) (ws : Words) (b : Block) → Head room w ws b → (r m : Reading) → Reads (w ∷ ws) r m → Ends 8 m → statement_at context (suc room) r ≡ Ok (b, m)
  unfolding statement_at
  statement-again room w ws b head r m h end = let a = next-again h in bind_to (next_at r) _ a.next (head a.behind m a.rest end)

  name-statement : (room : ℕ) (w : Spelled) (ws rest : Words) (b t : Block) → IsName w → ((r m : Reading) → Reads ws r m → Ends 8 m → assignment_at context w r ≡ Ok (b, m)) → GivesBlock (statement_at context (suc room)) rest t
      → GivesBlock (statement_at context (suc room)) (w ∷ (ws ++ rest)) (followed_by b t)
  name-statement room w ws rest b t free law others =
      one-statement (statement_at context (suc room)) w ws rest b t (or-last (bytes_eq w.bytes (codes "FOR")) (bytes_eq w.bytes (codes "IF")) (bytes_eq w.bytes (codes "CASE")) (is_free w.bytes) free) (statement-again room w ws b (name-head room w ws b free law)) (λ n m e. ends-name 8 w n m e free) others

  word-statement : (room : ℕ) (w : Spelled) (text : List ℕ) (ws rest : Words) (b t : Block) → Is w text → begins_statement text ≡ true → ((n m : Reading) → next_at m ≡ Ok (w, n) → Ends 8 m) → Head room w ws b → GivesBlock (statement_at context (suc room)) rest t
      → GivesBlock (statement_at context (suc room)) (w ∷ (ws ++ rest)) (followed_by b t)
  word-statement room w text ws rest b t is begins end head others = one-statement (statement_at context (suc room)) w ws rest b t (ap begins_statement is ∙ begins) (statement-again room w ws b head) end others

  body-of : (room : ℕ) (ws : Words) (b : Block) → GivesBlock (statement_at context room) ws b → GivesBody (block_at (statement_at context room)) ws b
  body-of room ws b law = record { begins = law.begins; reads = block-again (statement_at context room) ws b law }

  -- words in another grouping
  grouped : (room : ℕ) {ws vs : Words} (b : Block) → ws ≡ vs → GivesBlock (statement_at context room) ws b → GivesBlock (statement_at context room) vs b
  grouped room b e law = subst (λ (us : Words). GivesBlock (statement_at context room) us b) e law

  mutual
    pub block-law : (room : ℕ) (ws : Words) (s : Statements) (calls : ℕ) → AreStatements context room ws s calls → GivesBlock (statement_at context room) ws (record { statements = s; calls = calls })
    block-law _ _ _ _ (done room) = no-statements (statement_at context room)
    block-law _ _ _ _ (assigned room calls w sign ts es rest t e s target sign_is is_e are) =
        grouped (suc room) _ (ap (λ (us : Words). w ∷ us) (append_assoc ts (sign ∷ es) rest))
        (name-statement room w (ts ++ sign ∷ es) rest _ (record { statements = s; calls = calls }) target.0 (assign-again w sign ts es t e (target-words context 0 (w ∷ ts) t target.1 refl target.0 target.2 target.3) sign_is is_e) (block-law (suc room) rest s calls are))
    block-law _ _ _ _ (assigned_above room calls w opening greatest colon closing sign ls es rest l e s name_is opening_is greatest_is colon_is is_l closing_is sign_is is_e are) =
        grouped (suc room) _ (ap (λ (us : Words). w ∷ opening ∷ greatest ∷ colon ∷ us) (append_assoc ls (closing ∷ sign ∷ es) rest))
        (name-statement room w (opening ∷ greatest ∷ colon ∷ (ls ++ closing ∷ sign ∷ es)) rest _ (record { statements = s; calls = calls }) name_is
        (above-again w opening greatest colon closing sign ls es l e opening_is greatest_is colon_is is_l closing_is sign_is is_e) (block-law (suc room) rest s calls are))
    block-law _ _ _ _ (repeated room calls calls' w variable sign to closing xs ys body rest x y s t is name_is sign_is is_x to_is is_y are closing_is others) =
        let inside = block-law room body s calls are in
        grouped (suc room) _ (ap (λ (us : Words). w ∷ variable ∷ sign ∷ us) (loop_words xs ys body rest to closing))
        (word-statement room w (codes "FOR") (variable ∷ sign ∷ (xs ++ to ∷ (ys ++ (body ++ closing ∷ [])))) rest _ (record { statements = t; calls = calls' }) is refl (λ n m e. ends-text 8 (codes "FOR") w n m e is refl)
        (for-head room w _ _ is (for-again (block_at (statement_at context room)) w variable sign to closing xs ys body x y (record { statements = s; calls = calls }) name_is sign_is is_x to_is is_y (body-of room body _ inside) closing_is)) (block-law (suc room) rest t calls' others))
    block-law _ _ _ _ (chosen_way room calls calls' w closing inside rest ways s is are closing_is others) =
        let law = ways-law room inside ways calls are in
        grouped (suc room) _ (ap (λ (us : Words). w ∷ us) (append_assoc inside (closing ∷ []) rest))
        (word-statement room w (codes "IF") (inside ++ closing ∷ []) rest _ (record { statements = s; calls = calls' }) is refl (λ n m e. ends-text 8 (codes "IF") w n m e is refl)
        (if-head room w _ _ is (if-again context (block_at (statement_at context room)) inside (record { statements = ways; calls = calls }) closing law closing_is)) (block-law (suc room) rest s calls' others))
    block-law _ _ _ _ (picked_arm room calls calls' w of closing es inside rest e arms s is is_e of_is are closing_is others) =
        let law = arms-law room inside arms calls are in
        grouped (suc room) _ (ap (λ (us : Words). w ∷ us) (case_words es inside rest of closing))
        (word-statement room w (codes "CASE") (es ++ of ∷ (inside ++ closing ∷ [])) rest _ (record { statements = s; calls = calls' }) is refl (λ n m e. ends-text 8 (codes "CASE") w n m e is refl)
        (case-head room w _ _ is (case-again (block_at (statement_at context room)) of closing es inside e (record { statements = arms; calls = calls }) is_e of_is law closing_is)) (block-law (suc room) rest s calls' others))

    ways-law : (room : ℕ) (ws : Words) (s : Statements) (calls : ℕ) → AreWays context room ws s calls → GivesWays context (block_at (statement_at context room)) ws (record { statements = s; calls = calls })
    ways-law _ _ _ _ (last_way room calls es body e s is_e are) = last-ways context (block_at (statement_at context room)) es body e (record { statements = s; calls = calls }) is_e (body-of room body _ (block-law room body s calls are))
    ways-law _ _ _ _ (way_and_else room calls calls' other es body rest e s t is_e are other_is not_if others) =
        else-ways context (block_at (statement_at context room)) es body rest other e (record { statements = s; calls = calls }) (record { statements = t; calls = calls' }) is_e (body-of room body _ (block-law room body s calls are)) other_is not_if
        (body-of room rest _ (block-law room rest t calls' others))
    ways-law _ _ _ _ (way_and_more room calls calls' other again es body rest e s ways is_e are other_is again_is others) =
        more-ways context (block_at (statement_at context room)) es body rest other again e (record { statements = s; calls = calls }) (record { statements = ways; calls = calls' }) is_e (body-of room body _ (block-law room body s calls are)) other_is again_is
        (ways-law room rest ways calls' others)

    arms-law : (room : ℕ) (ws : Words) (s : Statements) (calls : ℕ) → AreArms context room ws s calls → GivesArms (block_at (statement_at context room)) ws (record { statements = s; calls = calls })
    arms-law _ _ _ _ (no_arm room) = no-arms (block_at (statement_at context room))
    arms-law _ _ _ _ (arm_and_more room calls calls' n w colon body rest s arms is colon_is are others) =
        one-arm (block_at (statement_at context room)) w colon n body rest (record { statements = s; calls = calls }) (record { statements = arms; calls = calls' }) is colon_is (block-again (statement_at context room) body _ (block-law room body s calls are)) (arms-law room rest arms calls' others)

-- statements are read, up to what ends them
pub statements-again : (context : Context) (ws : Words) (s : Statements) (calls : ℕ) → AreStatements context 64 ws s calls → (r m : Reading) → Reads ws r m → Over m → statements_at context r ≡ Ok (record { statements = s; calls = calls }, m)
statements-again context ws s calls are r m h over = block-again (statement_at context 64) ws (record { statements = s; calls = calls }) (block-law context 64 ws s calls are) r m h over
