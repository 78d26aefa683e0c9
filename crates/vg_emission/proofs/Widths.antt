-- The widths of what lines define.
use Rattle.std.proofs.Common.{◌≡◌, ℕ, zero, suc, ◌+◌, ◌*◌, ◌/◌, ◌^◌, ◌<◌, ◌≤◌, Bool, true, false, List, [], ◌∷◌, ◌++◌, length, map, Option, Some, None, refl, sym, ap, subst, ◌∙◌, ◌⊎◌, inl, inr, arith, append_assoc}
use Rattle.std.specs.Prelude.{slice_get, unwrap_or, IsSomeAnd}
use Rattle.std.specs.List.{AllByRecursion}
use Rattle.std.specs.Option.{option_map}
use Rattle.std.proofs.lemmas.Bool.{cases_Bool, cond-true, cond-false, le-ltb, lt-ltb}
use Rattle.std.proofs.lemmas.List.{length_push}
use Rattle.vg_base.specs.declared.width.Width.{Width}
use Rattle.vg_base.specs.declared.width.Width.TheVariants.{W8, W16, W32, W64}
use Rattle.vg_base.specs.Width.{bits_of}
use Rattle.vg_program.specs.declared.line.Line.{Line}
use Rattle.vg_program.specs.declared.line.Line.TheVariants as line
use Rattle.vg_program.specs.declared.operand.Operand.TheVariants.{Register}
use Rattle.vg_program.specs.declared.param.Param.{Param}
use Rattle.vg_program.specs.Before.{Before}
use Rattle.vg_program.specs.Params as params
use Rattle.vg_program.specs.Valid.{AreLines, HasWidth, IsLane, IsLine, width_of}
use Rattle.vg_shapes.specs.declared.ssa.Ssa.{Ssa}
use Rattle.vg_shapes.specs.declared.ssa.SsaParam.{SsaParam}
use Rattle.vg_shapes.specs.declared.ssa.SsaParamKind.{SsaParamKind}
use Rattle.vg_shapes.specs.declared.ssa.SsaParamKind.TheVariants.{Pointer, Integer}
use Rattle.vg_shapes.specs.declared.wanted.Wanted.{Wanted}
use Rattle.vg_shapes.specs.declared.wanted.Wanted.TheVariants.{Value, Constant, Nothing}
use Rattle.vg_shapes.specs.Sound.{kind_bits, value_bits}
use Rattle.vg_shapes.specs.Units.{arguments, integers_of, is_integer}
use Rattle.vg_kernel_plans.specs.Held.{register_of}
use Rattle.vg_emission.specs.Draft.{Draft, Made, found, with_built, with_held, with_name, with_vectors}
use Rattle.vg_emission.specs.Emission.{Job, extracts, number_for, operand_at, pack_at, width_for}
use Rattle.vg_emission.specs.Fit.{LaneFits}
use Rattle.vg_emission.specs.Program.{kind_of, param_of}
use Rattle.vg_emission.proofs.Placing.{Known}
use Rattle.vg_emission.proofs.Registers.{found-set}

pub get-more : {A : Type 0} (xs ys : List A) (k : ℕ) (x : A) → slice_get xs k ≡ Some x → slice_get (xs ++ ys) k ≡ Some x
get-more [] ys k x e = cc
get-more (y ∷ xs) ys zero x e = e
get-more (y ∷ xs) ys (suc k) x e = get-more xs ys k x e

pub get-last : {A : Type 0} (xs : List A) (k : ℕ) (x : A) → length xs ≡ k → slice_get (xs ++ x ∷ []) k ≡ Some x
get-last [] zero x e = refl
get-last [] (suc k) x e = absurd (omega arith)
get-last (y ∷ xs) zero x e = absurd (omega arith)
get-last (y ∷ xs) (suc k) x e = get-last xs k x (omega arith)

-- what stands before a line has the widths that the draft says
pub record Typed (j : Job) (d : Draft) (b : Before) : Type 0 where
  pub params : b.params ≡ map param_of j.ssa.params
  pub scalars : length b.scalars ≡ d.scalars
  pub vectors : length b.vectors ≡ d.vectors
  pub names : (v r w : ℕ) → found d.names v ≡ Some r → value_bits j.ssa v ≡ Some w → slice_get b.scalars r ≡ Some w
  pub held : (k r : ℕ) → found d.held k ≡ Some r → slice_get b.vectors r ≡ Some (register_of j.descriptions j.ssa (pack_at j k))
  pub built : (o r : ℕ) → found d.built o ≡ Some r → slice_get b.vectors r ≡ Some (operand_at j o).register

-- one scalar more
abbrev pub more_scalar : Before → ℕ → Before
more_scalar b w = record { params = b.params; headers = b.headers; scalars = b.scalars ++ w ∷ []; vectors = b.vectors }

-- one register more
abbrev pub more_vector : Before → ℕ → Before
more_vector b w = record { params = b.params; headers = b.headers; scalars = b.scalars; vectors = b.vectors ++ w ∷ [] }

pub typed-name : (j : Job) (d : Draft) (b : Before) (v w : ℕ) → Typed j d b → value_bits j.ssa v ≡ Some w → Typed j (with_name d v) (more_scalar b w)
typed-name j d b v w h e = record {
  params = h.params;
  scalars = length_push b.scalars w ∙ ap (λ n. n + 1) h.scalars;
  vectors = h.vectors;
  names = λ u r x g wide. elim (found-set d.names v d.scalars u r g) [
    | inl same ↦ (let is : Some w ≡ Some x = sym e ∙ ap (value_bits j.ssa) (sym same.0) ∙ wide in subst (λ q. slice_get (b.scalars ++ w ∷ []) q ≡ Some x) same.1 (get-last b.scalars d.scalars w h.scalars ∙ is))
    | inr old ↦ get-more b.scalars (w ∷ []) r x (h.names u r x old wide)
  ];
  held = h.held;
  built = h.built;
}

pub typed-vector : (j : Job) (d : Draft) (b : Before) (w : ℕ) → Typed j d b → Typed j (with_vectors d 1) (more_vector b w)
typed-vector j d b w h = record {
  params = h.params;
  scalars = h.scalars;
  vectors = length_push b.vectors w ∙ ap (λ n. n + 1) h.vectors;
  names = h.names;
  held = λ k r g. get-more b.vectors (w ∷ []) r _ (h.held k r g);
  built = λ o r g. get-more b.vectors (w ∷ []) r _ (h.built o r g);
}

pub typed-built : (j : Job) (d : Draft) (b : Before) (o r : ℕ) → Typed j d b → slice_get b.vectors r ≡ Some (operand_at j o).register → Typed j (with_built d o r) b
typed-built j d b o r h g = record {
  params = h.params;
  scalars = h.scalars;
  vectors = h.vectors;
  names = h.names;
  held = h.held;
  built = λ k q e. elim (found-set d.built o r k q e) [
    | inl same ↦ subst (λ n. slice_get b.vectors n ≡ Some (operand_at j k).register) same.1 (g ∙ ap (λ n. Some (operand_at j n).register) (sym same.0))
    | inr old ↦ h.built k q old
  ];
}

pub typed-held : (j : Job) (d : Draft) (b : Before) (k w : ℕ) → Typed j d b → w ≡ register_of j.descriptions j.ssa (pack_at j k) → Typed j (with_held d k) (more_vector b w)
typed-held j d b k w h e = record {
  params = h.params;
  scalars = h.scalars;
  vectors = length_push b.vectors w ∙ ap (λ n. n + 1) h.vectors;
  names = h.names;
  held = λ n r g. elim (found-set d.held k d.vectors n r g) [
    | inl same ↦ subst (λ q. slice_get (b.vectors ++ w ∷ []) q ≡ Some (register_of j.descriptions j.ssa (pack_at j n))) same.1 (get-last b.vectors d.vectors w h.vectors ∙ ap Some e ∙ ap (λ q. Some (register_of j.descriptions j.ssa (pack_at j q))) (sym same.0))
    | inr old ↦ get-more b.vectors (w ∷ []) r _ (h.held n r old)
  ];
  built = λ n r g. get-more b.vectors (w ∷ []) r _ (h.built n r g);
}

-- The lines keep the rules where those after them do, and lead to these widths. No register is lost.
pub record Types (j : Job) (b : Before) (ls : List Line) (d : Draft) (after : Before) : Type 0 where
  pub fit : (rest : List Line) → AreLines after rest → AreLines b (ls ++ rest)
  pub typed : Typed j d after
  pub grown : (k w : ℕ) → slice_get b.vectors k ≡ Some w → slice_get after.vectors k ≡ Some w
  pub headers : after.headers ≡ b.headers

pub types-nothing : (j : Job) (b : Before) (d : Draft) → Typed j d b → Types j b [] d b
types-nothing j b d h = record { fit = λ rest r. r; typed = h; grown = λ k w g. g; headers = refl }

pub types-then : (j : Job) (b c e : Before) (ls ms : List Line) (d f : Draft) → Types j b ls d c → Types j c ms f e → Types j b (ls ++ ms) f e
types-then j b c e ls ms d f first next = record {
  fit = λ rest x. subst (AreLines b) (sym (append_assoc ls ms rest)) (first.fit (ms ++ rest) (next.fit rest x));
  typed = next.typed;
  grown = λ k w g. next.grown k w (first.grown k w g);
  headers = next.headers ∙ first.headers;
}

-- ---- numbers

-- the integers of the program are those of the kernel
param-widths : (ps : List SsaParam) (v : ℕ) → option_map (λ (q : Param). params.kind_bits q.kind) (slice_get (params.integers (map param_of ps)) v) ≡ option_map (λ (p : SsaParam). kind_bits p.kind) (slice_get (integers_of ps) v)
param-widths [] v = refl
param-widths (p ∷ ps) v = by p.kind v refl (param-widths ps)
  where
    tail : List Param
    tail = params.integers (map param_of ps)

    own : List SsaParam
    own = integers_of ps

    by : (k : SsaParamKind) (v : ℕ) → p.kind ≡ k → ((v : ℕ) → option_map (λ (q : Param). params.kind_bits q.kind) (slice_get (params.integers (map param_of ps)) v) ≡ option_map (λ (p : SsaParam). kind_bits p.kind) (slice_get (integers_of ps) v))
        → option_map (λ (q : Param). params.kind_bits q.kind) (slice_get (params.integers (map param_of (p ∷ ps))) v) ≡ option_map (λ (p : SsaParam). kind_bits p.kind) (slice_get (integers_of (p ∷ ps)) v)
    by (Pointer n) v e rest =
        ap (λ l. option_map (λ (q : Param). params.kind_bits q.kind) (slice_get l v)) (cond-false (params.is_integer_kind (kind_of p.kind)) (param_of p ∷ tail) tail (ap (λ k. params.is_integer_kind (kind_of k)) e))
        ∙ rest v ∙ ap (λ l. option_map (λ (p : SsaParam). kind_bits p.kind) (slice_get l v)) (sym (cond-false (is_integer p.kind) (p ∷ own) own (ap is_integer e)))
    by (Integer w) v e rest =
        ap (λ l. option_map (λ (q : Param). params.kind_bits q.kind) (slice_get l v)) (cond-true (params.is_integer_kind (kind_of p.kind)) (param_of p ∷ tail) tail (ap (λ k. params.is_integer_kind (kind_of k)) e))
        ∙ here v ∙ ap (λ l. option_map (λ (p : SsaParam). kind_bits p.kind) (slice_get l v)) (sym (cond-true (is_integer p.kind) (p ∷ own) own (ap is_integer e)))
      where
        here : (v : ℕ) → option_map (λ (q : Param). params.kind_bits q.kind) (slice_get (param_of p ∷ tail) v) ≡ option_map (λ (p : SsaParam). kind_bits p.kind) (slice_get (p ∷ own) v)
        here zero = ap (λ k. Some (params.kind_bits (kind_of k))) e ∙ ap (λ k. Some (kind_bits k)) (sym e)
        here (suc v) = rest v

-- a value of this width, or a constant below 2 to it
abbrev pub IsWide : Ssa → ℕ → Wanted → Type 0
IsWide ssa w (Value v) = value_bits ssa v ≡ Some w
IsWide ssa w (Constant m n) = (m ≡ w) × (n < 2 ^ w) × (bits_of (width_for m) ≡ m)
IsWide ssa w Nothing = ⊥

pub number-wide : (j : Job) (d : Draft) (b : Before) (x : Wanted) (w : ℕ) → Typed j d b → Known j d x → IsWide j.ssa w x → HasWidth b (number_for j d x) w
number-wide j d b Nothing w h known wide = absurd wide
number-wide j d b (Constant m n) w h known wide =
    cond-true _ _ _ (lt-ltb n (2 ^ bits_of (width_for m)) (subst (λ k. n < 2 ^ k) (sym (wide.2 ∙ wide.0)) wide.1)) ∙ ap Some (wide.2 ∙ wide.0)
number-wide j d b (Value v) w h (inl below) wide =
    ap (width_of b) (cond-true _ _ _ (lt-ltb v (arguments j.ssa) below))
    ∙ ap (λ l. option_map (λ (q : Param). params.kind_bits q.kind) (slice_get (params.integers l) v)) h.params
    ∙ param-widths j.ssa.params v ∙ sym (cond-true _ _ _ (lt-ltb v (arguments j.ssa) below)) ∙ wide
number-wide j d b (Value v) w h (inr known) wide =
    ap (width_of b) (cond-false _ _ _ (le-ltb v (arguments j.ssa) known.1) ∙ ap (λ o. Register (unwrap_or o 0)) known.2) ∙ h.names v known.0 w known.2 wide

-- ---- lanes

pub lane-inside : (w : Width) (n bits : ℕ) → (n + 1) * bits_of w ≤ bits → n < bits / bits_of w
lane-inside W8 n bits h = omega arith
lane-inside W16 n bits h = omega arith
lane-inside W32 n bits h = omega arith
lane-inside W64 n bits h = omega arith

pub extracts-types : (j : Job) (d : Draft) (b : Before) (r : ℕ) (w : Width) (n bits : ℕ) (us : List (Option ℕ)) → Typed j d b → slice_get b.vectors r ≡ Some bits → (n + length us) * bits_of w ≤ bits → n + length us ≤ 64 → AllByRecursion (LaneFits j.ssa (bits_of w)) us
    → (after : Before) × Types j b (extracts j d r w n us).lines (extracts j d r w n us).draft after
extracts-types j d b r w n bits [] h has inside few fits = (b, types-nothing j b d h)
extracts-types j d b r w n bits (None ∷ us) h has inside few fits = extracts-types j d b r w (n + 1) bits us h has (let e : n + 1 + length us ≡ n + suc (length us) = omega arith in subst (λ k. k * bits_of w ≤ bits) (sym e) inside) (omega arith) fits.1
extracts-types j d b r w n bits (Some v ∷ us) h has inside few fits =
    let Goal : Made → Type 0 = λ made. (after : Before) × Types j b made.lines made.draft after in
    let next : n + 1 + length us ≡ n + suc (length us) = omega arith in
    let more = subst (λ k. k * bits_of w ≤ bits) (sym next) inside in
    elim (cases_Bool (j.needed v)) [
      | inr f ↦ subst Goal (sym (cond-false _ _ _ f)) (extracts-types j d b r w (n + 1) bits us h has more (omega arith) fits.1)
      | inl t ↦ subst Goal (sym (cond-true _ _ _ t))
          (let c = more_scalar b (bits_of w) in
          let rest = extracts-types j (with_name d v) c r w (n + 1) bits us (typed-name j d b v (bits_of w) h fits.0) has more (omega arith) fits.1 in
          let lane : IsLane bits w n = (lane-inside w n bits (Rattle.std.proofs.Common.le_trans (Rattle.std.proofs.Math.Nat.mul-le-mul_right (bits_of w) (let low : n + 1 ≤ n + suc (length us) = omega arith in low)) inside), omega arith) in
          let ok : IsLine b (line.Extract r n w) = subst (λ o. IsSomeAnd o (λ bits. IsLane bits w n)) (sym has) lane in
          (rest.0, record { fit = λ others x. (ok, rest.1.fit others x); typed = rest.1.typed; grown = rest.1.grown; headers = rest.1.headers }))
    ]
