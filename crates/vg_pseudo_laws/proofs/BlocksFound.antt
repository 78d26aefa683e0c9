-- Lists of statements, of ways and of arms that were read.
use Rattle.std.proofs.Common.{◌≡◌, ℕ, Bool, List, [], ◌++◌, Ok, sym, ◌∙◌, ap, subst, append_assoc, append-nil}
use Rattle.vg_text.specs.Words.{Reading}
use Rattle.vg_base.proofs.Bind.{bind_ok}
use Rattle.vg_pseudo.specs.Definitions.{Context}
use Rattle.vg_pseudo.specs.Grammar.{Words, AreStatements, done}
use Rattle.vg_pseudo.specs.Reader.{next_at, items_behind}
use Rattle.vg_pseudo.specs.Statements.{Block, followed_by, chained, nothing, Body, statement_follows, block_at}
use Rattle.vg_pseudo.proofs.Taking.{ok_once}
use Rattle.vg_pseudo_laws.proofs.Standing.{Reads}
use Rattle.vg_pseudo_laws.proofs.ListsFound.{FoundItem, Many, nothing as no_items, another, SoundItems, items-found}

-- what words with a block may be
abbrev pub Kind : Type 1
Kind = Words → Block → Type 0

-- words that may stand before those of the kind, so that all are of it
abbrev pub Before : Kind → Words → Block → Type 0
Before Is ws b = (rest : Words) (t : Block) → Is rest t → Is (ws ++ rest) (followed_by b t)

-- items one after the other, before those of the kind
pub chain-found : (Is : Kind) {ws : Words} {bs : List Block} → Many (Before Is) ws bs → (rest : Words) (t : Block) → Is rest t → Is (ws ++ rest) (chained bs t)
unfolding chained
chain-found Is no_items rest t is = is
chain-found Is (another ws more b bs one others) rest t is =
    subst (λ (vs : Words). Is vs (followed_by b (chained bs t))) (sym (append_assoc ws more rest)) (one (more ++ rest) (chained bs t) (chain-found Is others rest t is))

-- the same where nothing stands after them
pub all-found : (Is : Kind) {ws : Words} {bs : List Block} → Many (Before Is) ws bs → (t : Block) → Is [] t → Is ws (chained bs t)
all-found Is {ws} {bs} many t is = subst (λ (vs : Words). Is vs (chained bs t)) (append-nil ws) (chain-found Is many [] t is)

-- statements
abbrev pub Statement : Context → ℕ → Kind
Statement context room ws b = AreStatements context room ws b.statements b.calls

-- A block was read.
pub record FoundBlock (context : Context) (room : ℕ) (r : Reading) (x : Block × Reading) : Type 0 where
  pub words : Words
  pub are : AreStatements context room words x.0.statements x.0.calls
  pub reads : Reads words r x.1

abbrev pub SoundBody : Context → ℕ → Body → Type 0
SoundBody context room body = (r : Reading) (x : Block × Reading) → body r ≡ Ok x → FoundBlock context room r x

abbrev pub SoundStatement : Context → ℕ → Body → Type 0
SoundStatement context room statement = (r : Reading) (x : Block × Reading) → statement r ≡ Ok x → FoundItem (Before (Statement context room)) r x

statements-sound : (context : Context) (room : ℕ) (statement : Body) → SoundStatement context room statement → SoundItems (Before (Statement context room)) statement_follows statement
statements-sound context room statement sound = record {
  goes = λ r q x e h. (
      let w = bind_ok (next_at r) _ e in
      let same : r ≡ q = ap (λ (y : Bool × Reading). y.1) (ok_once _ _ w.2) in
      subst (λ (m : Reading). FoundItem (Before (Statement context room)) m x) (sym same) (sound q x h)
      );
  stays = λ r q e. (let w = bind_ok (next_at r) _ e in sym (ap (λ (y : Bool × Reading). y.1) (ok_once _ _ w.2)));
}

pub block-found : (context : Context) (room : ℕ) (statement : Body) → SoundStatement context room statement → SoundBody context room (block_at statement)
unfolding block_at
block-found context room statement sound r x e =
    let a = bind_ok (items_behind statement_follows statement [] r) _ e in
    let g = items-found (Before (Statement context room)) statement_follows statement (statements-sound context room statement sound) [] r a.0 a.1 in
    subst (FoundBlock context room r) (ap (λ (bs : List Block). (chained bs nothing, a.0.1)) (sym g.all) ∙ ok_once _ x a.2)
    (record { words = g.words; are = all-found (Statement context room) g.are nothing (done room); reads = g.reads })
