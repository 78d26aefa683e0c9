-- What a header has that was read: its widths are those that its words name.
use Rattle.std.proofs.Common.{◌≡◌, ℕ, ◌%◌, ◌≤◌, ◌⊎◌, Bool, true, false, List, [], ◌∷◌, ◌++◌, Option, Some, None, Ok, Err, refl, ap, subst, ◌∙◌, inl, inr, arith}
use Rattle.std.specs.Prelude.{◌&&◌, ◌==◌, codes, if◌then◌else◌, IfSome, not, Result}
use Rattle.std.specs.Str.{bytes_eq}
use Rattle.std.proofs.lemmas.Bool.{and_parts, cases_Bool}
use Rattle.std.proofs.lemmas.Bool.Decides.{nat_tests}
use Rattle.vg_text.specs.Byte.{is_name_text}
use Rattle.vg_text.specs.declared.lexer.Lexer.{Lexer}
use Rattle.vg_text.specs.Lexing.{reading}
use Rattle.vg_text.specs.Words.{Reading}
use Rattle.vg_pseudo.specs.declared.fault.PseudoFault.{PseudoFault}
use Rattle.vg_pseudo.specs.declared.header.Header.{Header}
use Rattle.vg_pseudo.specs.declared.header.ImmRange.{ImmRange}
use Rattle.vg_pseudo.specs.declared.header.Param.{Param}
use Rattle.vg_pseudo.specs.Grammar.{Words}
use Rattle.vg_pseudo.specs.Operations.{operation_at}
use Rattle.vg_pseudo.specs.Tree.{Operation}
use Rattle.vg_pseudo.specs.Words.{is_reserved}
use Rattle.vg_names.specs.Reading.{AllNarrow, HasNumbersOfTexts, is_register, ReadAreWritten}
use Rattle.vg_catalog.specs.FileEntries.{IsFileHeader, IsLaneWidth}
use Rattle.vg_catalog.specs.Files.{as_text}
use Rattle.vg_catalog.specs.Grammar.{AreParams, IsHeader, IsImm}
use Rattle.vg_catalog.specs.Headers.{first_of, header_at, lanes_named, make_lanes, register_named, signed_lanes, unsigned_lanes, whole_lanes}
use Rattle.vg_catalog.specs.Words.{number_in_word}
use Rattle.vg_catalog.proofs.FileSteps.{ok_once}
use Rattle.vg_catalog.proofs.HeadersFound.{header-found}

-- a width of lanes, which fill each register
record IsWide (w : ℕ) : Type 0 where
  pub named : IsLaneWidth w
  pub one : 128 % w ≡ 0
  pub two : 256 % w ≡ 0
  pub four : 512 % w ≡ 0

wide-8 : IsWide 8
wide-8 = record { named = refl; one = refl; two = refl; four = refl }

wide-16 : IsWide 16
wide-16 = record { named = refl; one = refl; two = refl; four = refl }

wide-32 : IsWide 32
wide-32 = record { named = refl; one = refl; two = refl; four = refl }

wide-64 : IsWide 64
wide-64 = record { named = refl; one = refl; two = refl; four = refl }

-- a choice of two
either : {X : Type 0} (b : Bool) (x y : Option X) (l : X) → (if b then x else y) ≡ Some l → (x ≡ Some l) ⊎ (y ≡ Some l)
either true x y l e = inl e
either false x y l e = inr e

first : {X : Type 0} (x y : Option X) (l : X) → first_of x y ≡ Some l → (x ≡ Some l) ⊎ (y ≡ Some l)
first (Some z) y l e = inl e
first None y l e = inr e

some-is : {X : Type 0} (x y : X) → Some x ≡ Some y → x ≡ y
some-is x y e = cc

-- what holds of the four widths of lanes holds of the width that a header names
module _ (P : ℕ → Type 0) (eight : P 8) (sixteen : P 16) (thirty-two : P 32) (sixty-four : P 64) where
  made : (register w : ℕ) (s : Bool) (l : _) → P w → make_lanes register w s ≡ Some l → P l.lane_width
  made register w s l wide e = let same = some-is _ l e in subst P (λ i. (same i).lane_width) wide

  unsigned : (register : ℕ) (bytes : List ℕ) (l : _) → unsigned_lanes register bytes ≡ Some l → P l.lane_width
  unsigned register bytes l e = elim (either (bytes_eq bytes (codes "UI8")) _ _ l e) [
    | inl a ↦ made register 8 false l eight a
    | inr b ↦ elim (either (bytes_eq bytes (codes "UI16")) _ _ l b) [
      | inl a ↦ made register 16 false l sixteen a
      | inr c ↦ elim (either (bytes_eq bytes (codes "UI32")) _ _ l c) [
        | inl a ↦ made register 32 false l thirty-two a
        | inr d ↦ elim (either (bytes_eq bytes (codes "UI64")) _ _ l d) [
          | inl a ↦ made register 64 false l sixty-four a
          | inr n ↦ absurd (cc)
        ]
      ]
    ]
  ]

  signed : (register : ℕ) (bytes : List ℕ) (l : _) → signed_lanes register bytes ≡ Some l → P l.lane_width
  signed register bytes l e = elim (either (bytes_eq bytes (codes "SI8")) _ _ l e) [
    | inl a ↦ made register 8 true l eight a
    | inr b ↦ elim (either (bytes_eq bytes (codes "SI16")) _ _ l b) [
      | inl a ↦ made register 16 true l sixteen a
      | inr c ↦ elim (either (bytes_eq bytes (codes "SI32")) _ _ l c) [
        | inl a ↦ made register 32 true l thirty-two a
        | inr d ↦ elim (either (bytes_eq bytes (codes "SI64")) _ _ l d) [
          | inl a ↦ made register 64 true l sixty-four a
          | inr n ↦ absurd (cc)
        ]
      ]
    ]
  ]

  whole : (register : ℕ) (bytes : List ℕ) (l : _) → whole_lanes register bytes ≡ Some l → P l.lane_width
  whole register bytes l e = elim (either (bytes_eq bytes (codes "M128") && register == 128) _ _ l e) [
    | inl a ↦ made register 64 false l sixty-four a
    | inr b ↦ elim (either (bytes_eq bytes (codes "M256") && register == 256) _ _ l b) [
      | inl a ↦ made register 64 false l sixty-four a
      | inr c ↦ elim (either (bytes_eq bytes (codes "M512") && register == 512) _ _ l c) [
        | inl a ↦ made register 64 false l sixty-four a
        | inr n ↦ absurd (cc)
      ]
    ]
  ]

  named-lanes : (register : ℕ) (bytes : List ℕ) (l : _) → lanes_named register bytes ≡ Some l → P l.lane_width
  named-lanes register bytes l e =
      elim (first (unsigned_lanes register bytes) (first_of (signed_lanes register bytes) (whole_lanes register bytes)) l e) [
        | inl a ↦ unsigned register bytes l a
        | inr b ↦ elim (first (signed_lanes register bytes) (whole_lanes register bytes) l b) [
          | inl a ↦ signed register bytes l a
          | inr c ↦ whole register bytes l c
        ]
      ]

-- lanes of each width fill a register
abbrev IsFilled : ℕ → Type 0
IsFilled n = (w : ℕ) → IsWide w → n % w ≡ 0

filled : (k : ℕ) → is_register k ≡ true → IsFilled k
filled k t = elim (cases_Bool (k == 128)) [
  | inl e ↦ subst IsFilled (let s : 128 ≡ k = grind (arith, nat_tests, e) in s) (λ w wide. wide.one)
  | inr f ↦ elim (cases_Bool (k == 256)) [
    | inl e ↦ subst IsFilled (let s : 256 ≡ k = grind (arith, nat_tests, e) in s) (λ w wide. wide.two)
    | inr g ↦ elim (cases_Bool (k == 512)) [
      | inl e ↦ subst IsFilled (let s : 512 ≡ k = grind (arith, nat_tests, e) in s) (λ w wide. wide.four)
      | inr h ↦ absurd (let u : false ≡ true = rw (f, g, h) at t in cc)
    ]
  ]
]

named-register : (o : Option ℕ) (n : ℕ) (bytes : List ℕ) → number_in_word bytes ≡ o → register_named bytes ≡ Some n → is_register n ≡ true
named-register None n bytes e h = absurd (let none = rw e at h in cc)
named-register (Some k) n bytes e h = (let found = rw e at h in by (is_register k) refl found)
  where
    by : (b : Bool) → is_register k ≡ b → (let found : Option ℕ = if b then Some k else None in found ≡ Some n) → is_register n ≡ true
    by true t f = let same : k ≡ n = cc in subst (λ m. is_register m ≡ true) same t
    by false t f = absurd (cc)

params-narrow : (before : List Param) (words : Words) (ps : List Param) → AreParams before words ps → AllNarrow ps
params-narrow before words [] are = tt
params-narrow before words (p ∷ ps) (front, rest, one, more, whole) =
    (named-register _ p.register one.register.bytes refl one.are_lanes.width, params-narrow (before ++ p ∷ []) rest ps more)

byte-of : (params : List Param) (words : Words) (o : Option ImmRange) → IsImm params words o → IfSome o (λ r. r.hi ≤ 255)
byte-of params words None is = tt
byte-of params words (Some r) is = is.byte

file-header : (known : List ℕ → Bool) (words : Words) (h : Header) → IsHeader known words h → IsFileHeader h
file-header known words h is =
    let c = is.closes in
    let register = named-register _ h.register c.register.bytes refl c.are_lanes.width in
    let wide = named-lanes IsWide wide-8 wide-16 wide-32 wide-64 h.register c.etype.bytes _ c.are_lanes.divided in
    record {
      name = subst (λ n. is_name_text n ≡ true) is.is_named (and_parts (is_name_text is.named.bytes) (not (is_reserved is.named.bytes)) is.is_name).0;
      registers = record { params = params-narrow [] is.params h.params is.are_params; register = register };
      lane = wide.named;
      fill = filled h.register register h.lane_width wide;
      few = is.few;
      byte = byte-of h.params is.imm h.imm is.is_imm;
      cost = c.some;
    }

pub header-read : (known : List ℕ → Bool) (r q : Reading) (h : Header) → header_at known r ≡ Ok (h, q) → IsFileHeader h
header-read known r q h e = let found = header-found known r (h, q) e in file-header known found.words h found.is

-- ---- operations

-- an operation that is read where a lexer stands has numbers of texts
pub numbers-read : ReadAreWritten → (l : Lexer) (q : Reading) (o : Operation) → as_text (operation_at (reading l)) ≡ Ok (o, q) → HasNumbersOfTexts o
numbers-read laws l q o e = (laws.operations (reading l) q o (laws.lexers l) (by (operation_at (reading l)) refl e)).0
  where
    by : (read : Result (Operation × Reading) PseudoFault) → operation_at (reading l) ≡ read → as_text read ≡ Ok (o, q) → operation_at (reading l) ≡ Ok (o, q)
    by (Ok x) was t = was ∙ ap Ok (ok_once x (o, q) t)
    by (Err f) was t = absurd (cc)
