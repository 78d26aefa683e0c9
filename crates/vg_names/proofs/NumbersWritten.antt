-- What is in the grammar has no larger numbers than its words.
use Rattle.std.proofs.Common.{◌≡◌, ℕ, List, [], ◌∷◌, ◌++◌, Option, Some, None, Ok, sym, subst}
use Rattle.vg_text.specs.Words.{Reading}
use Rattle.vg_pseudo.specs.declared.operation.DefineParam.{DefineParam}
use Rattle.vg_pseudo.specs.Tree.{Statements, Define, Operation}
use Rattle.vg_pseudo.specs.Definitions.{Context, Known}
use Rattle.vg_pseudo.specs.Words.{number_of}
use Rattle.vg_pseudo.specs.Grammar.{Words, AreStatements, done, assigned, assigned_above, repeated, chosen_way, picked_arm, AreWays, last_way, way_and_else, way_and_more, AreArms, no_arm, arm_and_more, IsParam, AreMoreParams, AreParams, IsDefine, AreDefines, IsOperation}
use Rattle.vg_pseudo.specs.Operations.{operation_at}
use Rattle.vg_pseudo_laws.proofs.OperationsFound.{operation-found}
use Rattle.vg_names.specs.Written.{AreWritten, IsHigh, AreHigh, AreDefined}
use Rattle.vg_names.specs.Reading.{IsCut, HasNumbersOfTexts, ReadAreWritten}
use Rattle.vg_names.proofs.WordsCut.{Small, AllSmall, word-goes, words-go, lexer-cut}

-- words in two groups
parted : (xs ys : Words) → AllSmall (xs ++ ys) → AllSmall xs × AllSmall ys
parted [] ys h = (tt, h)
parted (x ∷ xs) ys h = (let (a, b) = parted xs ys h.1 in ((h.0, a), b))

-- ---- statements

mutual
  statements-written : (context : Context) (room : ℕ) (ws : Words) (s : Statements) (calls : ℕ) → AreStatements context room ws s calls → AllSmall ws → AreWritten s
  statements-written context _ _ _ _ (done room) h = tt
  statements-written context _ _ _ _ (assigned room calls w sign ts es rest t e s target sign_is is_e are) h =
      let a = parted ts (sign ∷ (es ++ rest)) h.1 in
      let b = parted es rest a.1.1 in
      statements-written context _ rest s calls are b.1
  statements-written context _ _ _ _ (assigned_above room calls w opening greatest colon closing sign ls es rest l e s name_is opening_is greatest_is colon_is is_l closing_is sign_is is_e are) h =
      let a = parted ls (closing ∷ sign ∷ (es ++ rest)) h.1.1.1.1 in
      let b = parted es rest a.1.1.1 in
      statements-written context _ rest s calls are b.1
  statements-written context _ _ _ _ (repeated room calls calls' w variable sign to closing xs ys body rest x y s t is name_is sign_is is_x to_is is_y are closing_is others) h =
      let a = parted xs (to ∷ (ys ++ (body ++ closing ∷ rest))) h.1.1.1 in
      let b = parted ys (body ++ closing ∷ rest) a.1.1 in
      let c = parted body (closing ∷ rest) b.1 in
      (statements-written context _ body s calls are c.0, statements-written context _ rest t calls' others c.1.1)
  statements-written context _ _ _ _ (chosen_way room calls calls' w closing inside rest ways s is are closing_is others) h =
      let a = parted inside (closing ∷ rest) h.1 in
      (ways-written context _ inside ways calls are a.0, statements-written context _ rest s calls' others a.1.1)
  statements-written context _ _ _ _ (picked_arm room calls calls' w of closing es inside rest e arms s is is_e of_is are closing_is others) h =
      let a = parted es (of ∷ (inside ++ closing ∷ rest)) h.1 in
      let b = parted inside (closing ∷ rest) a.1.1 in
      (arms-written context _ inside arms calls are b.0, statements-written context _ rest s calls' others b.1.1)

  ways-written : (context : Context) (room : ℕ) (ws : Words) (s : Statements) (calls : ℕ) → AreWays context room ws s calls → AllSmall ws → AreWritten s
  ways-written context _ _ _ _ (last_way room calls es body e s is_e are) h =
      let a = parted es body h in
      (statements-written context _ body s calls are a.1, tt)
  ways-written context _ _ _ _ (way_and_else room calls calls' other es body rest e s t is_e are other_is not_if others) h =
      let a = parted es (body ++ other ∷ rest) h in
      let b = parted body (other ∷ rest) a.1 in
      (statements-written context _ body s calls are b.0, statements-written context _ rest t calls' others b.1.1)
  ways-written context _ _ _ _ (way_and_more room calls calls' other again es body rest e s ways is_e are other_is again_is others) h =
      let a = parted es (body ++ other ∷ again ∷ rest) h in
      let b = parted body (other ∷ again ∷ rest) a.1 in
      (statements-written context _ body s calls are b.0, ways-written context _ rest ways calls' others b.1.1.1)

  arms-written : (context : Context) (room : ℕ) (ws : Words) (s : Statements) (calls : ℕ) → AreArms context room ws s calls → AllSmall ws → AreWritten s
  arms-written context _ _ _ _ (no_arm room) h = tt
  arms-written context _ _ _ _ (arm_and_more room calls calls' n w colon body rest s arms is colon_is are others) h =
      let a = parted body rest h.1.1 in
      (h.0 n is, statements-written context _ body s calls are a.0, arms-written context _ rest arms calls' others a.1)

-- ---- parameters

is-high : (bytes : List ℕ) (o : Option ℕ) → Small bytes → number_of bytes ≡ o → IsHigh o
is-high bytes (Some n) h e = h n e
is-high bytes None h e = tt

param-high : (ws : Words) (p : DefineParam) → IsParam ws p → AllSmall ws → IsHigh p.high
param-high [] p is h = absurd is
param-high (w ∷ []) p is h = subst IsHigh (sym is.2) tt
param-high (w ∷ a ∷ []) p is h = absurd is
param-high (w ∷ a ∷ b ∷ []) p is h = absurd is
param-high (w ∷ a ∷ b ∷ c ∷ []) p is h = absurd is
param-high (w ∷ a ∷ b ∷ c ∷ d ∷ []) p is h = absurd is
param-high (w ∷ opening ∷ high ∷ colon ∷ low ∷ closing ∷ []) p is h = is-high high.bytes p.high h.1.1.0 is.3
param-high (w ∷ a ∷ b ∷ c ∷ d ∷ e ∷ f ∷ ws) p is h = absurd is

more-high : (ps : List DefineParam) (ws : Words) → AreMoreParams ws ps → AllSmall ws → AreHigh ps
more-high [] ws are h = tt
more-high (p ∷ ps) ws (comma, front, rest, is_comma, is, are, e) h =
    let a = parted front rest (subst AllSmall e h).1 in
    (param-high front p is a.0, more-high ps rest are a.1)

params-high : (ps : List DefineParam) (ws : Words) → AreParams ws ps → AllSmall ws → AreHigh ps
params-high [] ws are h = absurd are
params-high (p ∷ ps) ws (front, rest, is, are, e) h =
    let a = parted front rest (subst AllSmall e h) in
    (param-high front p is a.0, more-high ps rest are a.1)

-- ---- DEFINEs and operations

define-written : (known : List Known) (ws : Words) (d : Define) (depth : ℕ) → IsDefine known ws d depth → AllSmall ws → AreHigh d.params × AreWritten d.body
define-written known ws d depth is h =
    let a = subst AllSmall is.whole h in
    let b = parted is.between (is.closing ∷ is.begin ∷ (is.inside ++ is.return ∷ (is.back ++ is.end ∷ []))) a.1.1.1 in
    let c = parted is.inside (is.return ∷ (is.back ++ is.end ∷ [])) b.1.1.1 in
    (params-high d.params is.between is.params b.0, statements-written _ 64 is.inside d.body is.calls is.statements c.0)

defines-written : (ds : List Define) (known behind : List Known) (ws : Words) → AreDefines known ws ds behind → AllSmall ws → AreDefined ds
defines-written [] known behind ws are h = tt
defines-written (d ∷ ds) known behind ws (front, rest, depth, is, are, e) h =
    let a = parted front rest (subst AllSmall e h) in
    (define-written known front d depth is a.0, defines-written ds _ behind rest are a.1)

operation-written : (ws : Words) (o : Operation) → IsOperation ws o → AllSmall ws → HasNumbersOfTexts o
operation-written ws o is h =
    let a = parted is.front (is.inside ++ is.end ∷ []) (subst AllSmall is.whole h) in
    let b = parted is.inside (is.end ∷ []) a.1 in
    record {
      defines = defines-written o.defines [] is.known is.front is.defines a.0;
      body = statements-written _ 64 is.inside o.body is.calls is.statements b.0;
    }

operation-goes : (r q : Reading) (o : Operation) → IsCut r → operation_at r ≡ Ok (o, q) → HasNumbersOfTexts o × IsCut q
operation-goes r q o c e =
    let found = operation-found r o q e in
    let words = words-go found.0 r q c found.1 in
    (operation-written found.0 o found.2 words.1, words.0)

pub read-are-written : ReadAreWritten
read-are-written = record {
  lexers = lexer-cut;
  words = λ r q w c e. (word-goes r q w c e).0;
  operations = operation-goes;
}
