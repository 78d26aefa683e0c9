-- What is read as a header is one.
use Rattle.std.proofs.Common.{◌≡◌, ℕ, zero, suc, ◌≤◌, Bool, true, false, List, [], ◌∷◌, ◌++◌, length, Option, Some, None, Result, Ok, refl, sym, ◌∙◌, ap, subst, inl, inr, append_assoc, append-nil, arith}
use Rattle.std.specs.Prelude.{codes, ◌&&◌, ◌==◌, if◌then◌else◌}
use Rattle.std.specs.Str.{bytes_eq}
use Rattle.vg_base.specs.Bind.{or_fault}
use Rattle.vg_base.proofs.Bind.{bind_ok, tested_ok, refused_ok}
use Rattle.vg_text.specs.Words.{Reading, Spelled}
use Rattle.vg_pseudo.specs.declared.header.Header.{Header}
use Rattle.vg_pseudo.specs.declared.header.Param.{Param}
use Rattle.vg_pseudo.specs.declared.header.ImmRange.{ImmRange}
use Rattle.vg_pseudo.specs.Grammar.{Words, Is, IsName}
use Rattle.vg_pseudo.specs.Words.{is_free}
use Rattle.vg_pseudo.proofs.Taking.{ok_once}
use Rattle.vg_catalog.specs.declared.fault.CatalogFault.{CatalogFault}
use Rattle.vg_catalog.specs.declared.lanes.Lanes.{Lanes}
use Rattle.vg_catalog.specs.declared.header_reading.Closing.{Closing}
use Rattle.vg_catalog.specs.Extensions.{extension_place}
use Rattle.vg_catalog.specs.Words.{next_word, this_word, optional_word, number_word}
use Rattle.vg_catalog.specs.Headers.{register_named, make_lanes, unsigned_lanes, signed_lanes, whole_lanes, first_of, lanes_named, register_at, lanes_at, is_operand_name, operand_at, param_at, params_from, params_at, range_at, imm_at, result_at, extension_at, cost_at, closing_at, entry_name_at, header_at}
use Rattle.vg_catalog.specs.Grammar.{AreLanes, IsOperand, IsNumber, IsParam, AreParams, IsImm, IsClosing, IsHeader}
use Rattle.vg_catalog.proofs.Standing.{some_of, true_fact, Reads, ◌▷◌, no-words, next-reads, FoundWord, expect-found, accept-found, number-found}

-- what is found has this register
abbrev Keeps : ℕ → Option Lanes → Type 0
Keeps n o = (l : Lanes) → o ≡ Some l → l.register ≡ n

if-keeps : (n : ℕ) (b : Bool) (x y : Option Lanes) → Keeps n x → Keeps n y → Keeps n (if b then x else y)
if-keeps n true x y f g = f
if-keeps n false x y f g = g

made-keeps : (n w : ℕ) (s : Bool) → Keeps n (make_lanes n w s)
made-keeps n w s l e = cc

none-keeps : (n : ℕ) → Keeps n None
none-keeps n l e = cc

first-keeps : (n : ℕ) (x y : Option Lanes) → Keeps n x → Keeps n y → Keeps n (first_of x y)
first-keeps n (Some k) y f g = f
first-keeps n None y f g = g

four-keep : (n : ℕ) (s : Bool) (b c d e : Bool) → Keeps n (if b then make_lanes n 8 s else if c then make_lanes n 16 s else if d then make_lanes n 32 s else if e then make_lanes n 64 s else None)
four-keep n s b c d e = if-keeps n b _ _ (made-keeps n 8 s) (if-keeps n c _ _ (made-keeps n 16 s) (if-keeps n d _ _ (made-keeps n 32 s) (if-keeps n e _ _ (made-keeps n 64 s) (none-keeps n))))

whole-keeps : (n : ℕ) (b c d : Bool) → Keeps n (if b then make_lanes n 64 false else if c then make_lanes n 64 false else if d then make_lanes n 64 false else None)
whole-keeps n b c d = if-keeps n b _ _ (made-keeps n 64 false) (if-keeps n c _ _ (made-keeps n 64 false) (if-keeps n d _ _ (made-keeps n 64 false) (none-keeps n)))

lanes-keep : (n : ℕ) (bytes : List ℕ) → Keeps n (lanes_named n bytes)
lanes-keep n bytes = first-keeps n (unsigned_lanes n bytes) _ (four-keep n false _ _ _ _) (first-keeps n (signed_lanes n bytes) (whole_lanes n bytes) (four-keep n true _ _ _ _) (whole-keeps n (bytes_eq bytes (codes "M128") && n == 128) (bytes_eq bytes (codes "M256") && n == 256) (bytes_eq bytes (codes "M512") && n == 512)))

-- `width etype` was read
record FoundLanes (r : Reading) (x : Lanes × Reading) : Type 0 where
  register : Spelled
  etype : Spelled
  are : AreLanes register etype x.0
  reads : Reads (register ∷ etype ∷ []) r x.1

lanes-found : (r : Reading) (x : Lanes × Reading) → lanes_at r ≡ Ok x → FoundLanes r x
unfolding lanes_at
lanes-found r x e =
    let n = bind_ok (register_at r) _ e in
    let w = bind_ok (next_word r) _ n.1 in
    let k = bind_ok (or_fault (register_named w.0.0.bytes) _) _ w.2 in
    let v = bind_ok (next_word n.0.1) _ n.2 in
    let l = bind_ok (or_fault (lanes_named n.0.0 v.0.0.bytes) _) _ v.2 in
    let registered = ok_once (k.0, w.0.1) n.0 k.2 in
    let width : register_named w.0.0.bytes ≡ Some n.0.0 = some_of _ _ k.0 k.1 ∙ ap (λ (y : ℕ × Reading). Some y.0) registered in
    let named : lanes_named n.0.0 v.0.0.bytes ≡ Some l.0 = some_of _ _ l.0 l.1 in
    let same : l.0.register ≡ n.0.0 = lanes-keep n.0.0 v.0.0.bytes l.0 named in
    let first : Reads (w.0.0 ∷ []) r n.0.1 = subst (λ (y : ℕ × Reading). Reads (w.0.0 ∷ []) r y.1) registered (next-reads r w.0 w.1) in
    subst (FoundLanes r) (ok_once (l.0, v.0.1) x l.2)
    (record {
      register = w.0.0;
      etype = v.0.0;
      are = record { width = width ∙ ap Some (sym same); divided = ap (λ (m : ℕ). lanes_named m v.0.0.bytes) same ∙ named };
      reads = first ▷ next-reads n.0.1 v.0 v.1;
    })

-- the name of an operand was read
record FoundName (Good : Spelled → Type 0) (r : Reading) (x : Spelled × Reading) : Type 0 where
  is : Good x.0
  reads : Reads (x.0 ∷ []) r x.1

operand-found : (before : List Param) (r : Reading) (x : Spelled × Reading) → operand_at before r ≡ Ok x → FoundName (IsOperand before) r x
operand-found before r x e =
    let w = bind_ok (next_word r) _ e in
    let t = tested_ok (is_operand_name before w.0.0.bytes) (Ok w.0) _ w.2 in
    subst (FoundName (IsOperand before) r) (ok_once w.0 x t.1)
    (record { is = true_fact _ t.0; reads = next-reads r w.0 w.1 })

-- a parameter was read after its PARAM
record FoundParam (before : List Param) (r : Reading) (p : Param) (q : Reading) : Type 0 where
  words : Words
  is : IsParam before words p
  reads : Reads words r q

param-found : (before : List Param) (r m : Reading) (x : Param × Reading) → FoundWord (codes "PARAM") r m → param_at before m ≡ Ok x → FoundParam before r x.0 x.1
unfolding param_at
param-found before r m x w e =
    let n = bind_ok (operand_at before m) _ e in
    let l = bind_ok (lanes_at n.0.1) _ n.2 in
    let named = operand-found before m n.0 n.1 in
    let lanes = lanes-found n.0.1 l.0 l.1 in
    subst (λ (y : Param × Reading). FoundParam before r y.0 y.1) (ok_once _ x l.2)
    (record {
      words = w.word ∷ n.0.0 ∷ lanes.register ∷ lanes.etype ∷ [];
      is = record {
        first = w.word;
        is_first = w.is;
        named = n.0.0;
        is_name = named.is;
        is_named = refl;
        register = lanes.register;
        etype = lanes.etype;
        are_lanes = lanes.are;
        whole = refl;
      };
      reads = w.reads ▷ named.reads ▷ lanes.reads;
    })

-- parameters were read after those before them, no more than there was room for
record FoundParams (before : List Param) (room : ℕ) (r : Reading) (x : List Param × Reading) : Type 0 where
  words : Words
  items : List Param
  are : AreParams before words items
  all : x.0 ≡ before ++ items
  few : length items ≤ room
  reads : Reads words r x.1

no-param : (before : List Param) (room : ℕ) (r q : Reading) (x : List Param × Reading) → q ≡ r → (let whole : Result (List Param × Reading) CatalogFault = Ok (before, q) in whole ≡ Ok x) → FoundParams before room r x
no-param before room r q x same e =
    subst (FoundParams before room r) (ok_once (before, q) x e)
    (record { words = []; items = []; are = refl; all = sym (append-nil before); few = omega arith; reads = subst (λ (m : Reading). Reads [] r m) (sym same) (no-words r) })

one-more : (before : List Param) (room : ℕ) (r m : Reading) (p : Param) (x : List Param × Reading) → FoundParam before r p m → FoundParams (before ++ p ∷ []) room m x → FoundParams before (suc room) r x
one-more before room r m p x one more = record {
  words = one.words ++ more.words;
  items = p ∷ more.items;
  are = (one.words, more.words, one.is, more.are, refl);
  all = more.all ∙ append_assoc before (p ∷ []) more.items;
  few = (let few = more.few in omega arith);
  reads = one.reads ▷ more.reads;
}

params-found : (room : ℕ) (before : List Param) (r : Reading) (x : List Param × Reading) → params_from room before r ≡ Ok x → FoundParams before room r x
unfolding params_from
params-found zero before r x e = no-param before zero r r x refl e
params-found (suc room) before r x e =
    let b = bind_ok (optional_word (codes "PARAM") r) _ e in
    elim (accept-found (codes "PARAM") r b.0 b.1) [
      | inl word ↦
          let p = bind_ok (param_at before b.0.1) _ (rw word.0 at b.2) in
          one-more before room r p.0.1 p.0.0 x (param-found before r b.0.1 p.0 word.1 p.1) (params-found room (before ++ p.0.0 ∷ []) p.0.1 x p.2)
      | inr none ↦ no-param before (suc room) r b.0.1 x none.1 (rw none.0 at b.2)
    ]

-- one to four parameters were read
record FoundAll (r : Reading) (x : List Param × Reading) : Type 0 where
  words : Words
  are : AreParams [] words x.0
  some : 1 ≤ length x.0
  few : length x.0 ≤ 4
  reads : Reads words r x.1

all-found : (r : Reading) (x : List Param × Reading) → params_at r ≡ Ok x → FoundAll r x
unfolding params_at
all-found r x e =
    let w = bind_ok (this_word (codes "PARAM") r) _ e in
    let p = bind_ok (param_at [] w.0.1) _ w.2 in
    let one = param-found [] r w.0.1 p.0 (expect-found (codes "PARAM") r w.0 w.1) p.1 in
    let rest = params-found 3 (p.0.0 ∷ []) p.0.1 x p.2 in
    let more = one-more [] 3 r p.0.1 p.0.0 x one rest in
    record {
      words = more.words;
      are = subst (λ (l : List Param). AreParams [] more.words l) (sym more.all) more.are;
      some = subst (λ (l : List Param). 1 ≤ length l) (sym rest.all) (omega arith);
      few = subst (λ (l : List Param). length l ≤ 4) (sym more.all) more.few;
      reads = more.reads;
    }

-- an immediate was read after its IMM
record FoundImm (params : List Param) (r : Reading) (x : Option ImmRange × Reading) : Type 0 where
  words : Words
  is : IsImm params words x.0
  reads : Reads words r x.1

range-found : (params : List Param) (r m : Reading) (x : ImmRange × Reading) → FoundWord (codes "IMM") r m → range_at params m ≡ Ok x → FoundImm params r (Some x.0, x.1)
unfolding range_at
range-found params r m x w e =
    let n = bind_ok (operand_at params m) _ e in
    let l = bind_ok (number_word 0 255 n.0.1) _ n.2 in
    let t = bind_ok (this_word (codes "to") l.0.1) _ l.2 in
    let h = bind_ok (number_word l.0.0 255 t.0.1) _ t.2 in
    let named = operand-found params m n.0 n.1 in
    let low = number-found 0 255 n.0.1 l.0 l.1 in
    let to = expect-found (codes "to") l.0.1 t.0 t.1 in
    let high = number-found l.0.0 255 t.0.1 h.0 h.1 in
    subst (λ (y : ImmRange × Reading). FoundImm params r (Some y.0, y.1)) (ok_once _ x h.2)
    (record {
      words = w.word ∷ n.0.0 ∷ low.word ∷ to.word ∷ high.word ∷ [];
      is = record {
        first = w.word;
        is_first = w.is;
        named = n.0.0;
        is_name = named.is;
        is_named = refl;
        low = low.word;
        is_low = low.is;
        to = to.word;
        is_to = to.is;
        high = high.word;
        is_high = high.is;
        rising = high.at_least;
        byte = high.at_most;
        whole = refl;
      };
      reads = w.reads ▷ named.reads ▷ low.reads ▷ to.reads ▷ high.reads;
    })

imm-found : (params : List Param) (r : Reading) (x : Option ImmRange × Reading) → imm_at params r ≡ Ok x → FoundImm params r x
unfolding imm_at
imm-found params r x e =
    let b = bind_ok (optional_word (codes "IMM") r) _ e in
    elim (accept-found (codes "IMM") r b.0 b.1) [
      | inl word ↦
          let i = bind_ok (range_at params b.0.1) _ (rw word.0 at b.2) in
          subst (FoundImm params r) (ok_once _ x i.2) (range-found params r b.0.1 i.0 word.1 i.1)
      | inr none ↦
          subst (FoundImm params r) (ok_once _ x (rw none.0 at b.2))
          (record { words = []; is = refl; reads = subst (λ (m : Reading). Reads [] r m) (sym none.1) (no-words r) })
    ]

-- `RESULT dst width etype` was read
record FoundResult (r : Reading) (x : Lanes × Reading) : Type 0 where
  result : Spelled
  is_result : Is result (codes "RESULT")
  dst : Spelled
  is_dst : Is dst (codes "dst")
  register : Spelled
  etype : Spelled
  are : AreLanes register etype x.0
  reads : Reads (result ∷ dst ∷ register ∷ etype ∷ []) r x.1

result-found : (r : Reading) (x : Lanes × Reading) → result_at r ≡ Ok x → FoundResult r x
unfolding result_at
result-found r x e =
    let w = bind_ok (this_word (codes "RESULT") r) _ e in
    let n = bind_ok (this_word (codes "dst") w.0.1) _ w.2 in
    let result = expect-found (codes "RESULT") r w.0 w.1 in
    let dst = expect-found (codes "dst") w.0.1 n.0 n.1 in
    let lanes = lanes-found n.0.1 x n.2 in
    record {
      result = result.word;
      is_result = result.is;
      dst = dst.word;
      is_dst = dst.is;
      register = lanes.register;
      etype = lanes.etype;
      are = lanes.are;
      reads = result.reads ▷ dst.reads ▷ lanes.reads;
    }

-- a word, and one after it of which this is said, were read
record FoundPair (text : List ℕ) (Good : Spelled → Type 0) (r q : Reading) : Type 0 where
  first : Spelled
  is_first : Is first text
  second : Spelled
  is : Good second
  reads : Reads (first ∷ second ∷ []) r q

extension-found : (r : Reading) (x : ℕ × Reading) → extension_at r ≡ Ok x → FoundPair (codes "EXTENSION") (λ w. extension_place w.bytes ≡ Some x.0) r x.1
unfolding extension_at
extension-found r x e =
    let w = bind_ok (this_word (codes "EXTENSION") r) _ e in
    let n = bind_ok (next_word w.0.1) _ w.2 in
    let p = bind_ok (or_fault (extension_place n.0.0.bytes) _) _ n.2 in
    let word = expect-found (codes "EXTENSION") r w.0 w.1 in
    subst (λ (y : ℕ × Reading). FoundPair (codes "EXTENSION") (λ w. extension_place w.bytes ≡ Some y.0) r y.1) (ok_once _ x p.2)
    (record { first = word.word; is_first = word.is; second = n.0.0; is = some_of _ _ p.0 p.1; reads = word.reads ▷ next-reads w.0.1 n.0 n.1 })

-- `COST n` was read
record FoundCost (r : Reading) (x : ℕ × Reading) : Type 0 where
  cost : Spelled
  is_cost : Is cost (codes "COST")
  price : Spelled
  is_price : IsNumber price x.0
  some : 1 ≤ x.0
  few : x.0 ≤ 1000
  reads : Reads (cost ∷ price ∷ []) r x.1

cost-found : (r : Reading) (x : ℕ × Reading) → cost_at r ≡ Ok x → FoundCost r x
unfolding cost_at
cost-found r x e =
    let w = bind_ok (this_word (codes "COST") r) _ e in
    let cost = expect-found (codes "COST") r w.0 w.1 in
    let price = number-found 1 1000 w.0.1 x w.2 in
    record {
      cost = cost.word;
      is_cost = cost.is;
      price = price.word;
      is_price = price.is;
      some = price.at_least;
      few = price.at_most;
      reads = cost.reads ▷ price.reads;
    }

-- a header by its parts
abbrev header_of : List ℕ → List Param → Option ImmRange → Closing → Header
header_of name params imm closing = record {
  name = name;
  params = params;
  imm = imm;
  register = closing.lanes.register;
  lane_width = closing.lanes.lane_width;
  extension = closing.extension;
  cost = closing.cost;
}

-- what stands after the parameters and the immediate was read
record FoundClosing (h : Header) (r q : Reading) : Type 0 where
  words : Words
  is : IsClosing words h
  reads : Reads words r q

closing-found : (name : List ℕ) (params : List Param) (imm : Option ImmRange) (r : Reading) (x : Closing × Reading) → closing_at r ≡ Ok x → FoundClosing (header_of name params imm x.0) r x.1
unfolding closing_at
closing-found name params imm r x e =
    let a = bind_ok (result_at r) _ e in
    let b = bind_ok (extension_at a.0.1) _ a.2 in
    let c = bind_ok (cost_at b.0.1) _ b.2 in
    let d = bind_ok (this_word (codes "OPERATION") c.0.1) _ c.2 in
    let result = result-found r a.0 a.1 in
    let extension = extension-found a.0.1 b.0 b.1 in
    let cost = cost-found b.0.1 c.0 c.1 in
    let operation = expect-found (codes "OPERATION") c.0.1 d.0 d.1 in
    subst (λ (y : Closing × Reading). FoundClosing (header_of name params imm y.0) r y.1) (ok_once _ x d.2)
    (record {
      words = result.result ∷ result.dst ∷ result.register ∷ result.etype ∷ extension.first ∷ extension.second ∷ cost.cost ∷ cost.price ∷ operation.word ∷ [];
      is = record {
        result = result.result;
        is_result = result.is_result;
        dst = result.dst;
        is_dst = result.is_dst;
        register = result.register;
        etype = result.etype;
        is_signed = a.0.0.is_signed;
        are_lanes = result.are;
        extension = extension.first;
        is_extension = extension.is_first;
        listed = extension.second;
        is_listed = extension.is;
        cost = cost.cost;
        is_cost = cost.is_cost;
        price = cost.price;
        is_price = cost.is_price;
        some = cost.some;
        few = cost.few;
        operation = operation.word;
        is_operation = operation.is;
        whole = refl;
      };
      reads = result.reads ▷ extension.reads ▷ cost.reads ▷ operation.reads;
    })

-- the name of an entry was read
record FoundEntryName (is_known : List ℕ → Bool) (r : Reading) (x : Spelled × Reading) : Type 0 where
  is_name : IsName x.0
  is_new : is_known x.0.bytes ≡ false
  reads : Reads (x.0 ∷ []) r x.1

name-found : (is_known : List ℕ → Bool) (r : Reading) (x : Spelled × Reading) → entry_name_at is_known r ≡ Ok x → FoundEntryName is_known r x
name-found is_known r x e =
    let w = bind_ok (next_word r) _ e in
    let t = tested_ok (is_free w.0.0.bytes) _ _ w.2 in
    let n = refused_ok (is_known w.0.0.bytes) (Ok w.0) _ t.1 in
    subst (FoundEntryName is_known r) (ok_once w.0 x n.1)
    (record { is_name = true_fact _ t.0; is_new = n.0; reads = next-reads r w.0 w.1 })

-- a header was read
pub record FoundHeader (is_known : List ℕ → Bool) (r : Reading) (x : Header × Reading) : Type 0 where
  pub words : Words
  pub is : IsHeader is_known words x.0
  pub reads : Reads words r x.1

pub header-found : (is_known : List ℕ → Bool) (r : Reading) (x : Header × Reading) → header_at is_known r ≡ Ok x → FoundHeader is_known r x
unfolding header_at
header-found is_known r x e =
    let w = bind_ok (this_word (codes "INSTRUCTION") r) _ e in
    let n = bind_ok (entry_name_at is_known w.0.1) _ w.2 in
    let p = bind_ok (params_at n.0.1) _ n.2 in
    let i = bind_ok (imm_at p.0.0 p.0.1) _ p.2 in
    let c = bind_ok (closing_at i.0.1) _ i.2 in
    let first = expect-found (codes "INSTRUCTION") r w.0 w.1 in
    let named = name-found is_known w.0.1 n.0 n.1 in
    let params = all-found n.0.1 p.0 p.1 in
    let imm = imm-found p.0.0 p.0.1 i.0 i.1 in
    let closing = closing-found n.0.0.bytes p.0.0 i.0.0 i.0.1 c.0 c.1 in
    subst (FoundHeader is_known r) (ok_once _ x c.2)
    (record {
      words = first.word ∷ n.0.0 ∷ (params.words ++ (imm.words ++ closing.words));
      is = record {
        first = first.word;
        is_first = first.is;
        named = n.0.0;
        is_name = named.is_name;
        is_new = named.is_new;
        is_named = refl;
        params = params.words;
        are_params = params.are;
        some = params.some;
        few = params.few;
        imm = imm.words;
        is_imm = imm.is;
        closing = closing.words;
        closes = closing.is;
        whole = refl;
      };
      reads = first.reads ▷ named.reads ▷ params.reads ▷ imm.reads ▷ closing.reads;
    })
