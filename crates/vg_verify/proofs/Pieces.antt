-- Constants in pieces.
use Rattle.std.proofs.Common.{◌≡◌, ℕ, ◌+◌, ◌-◌, ◌*◌, ◌%◌, ◌<◌, ◌≤◌, List, [], ◌∷◌, ◌++◌, length, sym, ap, ◌∙◌, arith, append_assoc, append-nil}
use Rattle.std.specs.Prelude.{min}
use Rattle.vg_base.specs.Bits.{bits_of_bytes, num}
use Rattle.vg_bits.specs.Range.{range}
use Rattle.vg_bits.proofs.BitLists.{num-range}
use Rattle.vg_bits.proofs.ByteLists.{length-bits_of_bytes, IsBits-bits_of_bytes}
use Rattle.vg_terms.specs.Term.{Tree, constant}
use Rattle.vg_lift.specs.Gather.{bits_from}
use Rattle.vg_lift.specs.LaneTerm.{piece, pieces}
use Rattle.vg_lift.proofs.Constants.{next_piece, no_piece, piece_is}
use Rattle.vg_forms.specs.declared.run.Run.{Run}
use Rattle.vg_forms.specs.Runs.{bits_in, run_bits}
use Rattle.vg_forms.proofs.Ranges.{bits_in_append}
use Rattle.vg_verify.specs.Noting.{Pieced}

pub piece_bits : (bs : List ℕ) (q count value : ℕ) (t : Tree) → q * 64 < 8 * length bs → count ≡ min 64 (8 * length bs - q * 64)
    → value ≡ num (range (q * 64) count (bits_of_bytes bs)) → t ≡ constant count value
    → bits_from t 0 count ≡ bits_from (piece (8 * length bs) (num (bits_of_bytes bs)) (q * 64)) 0 (min 64 (8 * length bs - q * 64))
piece_bits bs q count value t h c f e =
    let w = 8 * length bs in
    let v = num (bits_of_bytes bs) in
    let whole : (q * 64) % 64 ≡ 0 = omega arith in
    let fits : q * 64 + count ≤ length (bits_of_bytes bs) = omega (arith, length-bits_of_bytes bs, c, h) in
    let is = e ∙ piece_is w v (q * 64) count value whole c (f ∙ num-range (q * 64) count (bits_of_bytes bs) (IsBits-bits_of_bytes bs) fits) in
    ap (λ x. bits_from x 0 count) is ∙ ap (λ n. bits_from (piece w v (q * 64)) 0 n) c

pub pieces_none : (bs : List ℕ) → Pieced bs [] 0
pieces_none bs =
    let w = 8 * length bs in
    let e : w - 0 * 64 ≡ w = omega arith in
    let z : 0 * 64 ≡ 0 = omega arith in
    record { is = ap (λ n. pieces w (num (bits_of_bytes bs)) (0 * 64) n) e ∙ ap (λ k. pieces w (num (bits_of_bytes bs)) k w) z }

pub pieces_more : (bs : List ℕ) (all new : List Run) (r : Run) (q : ℕ) → Pieced bs all q → q * 64 < 8 * length bs → new ≡ all ++ r ∷ []
    → run_bits r ≡ bits_from (piece (8 * length bs) (num (bits_of_bytes bs)) (q * 64)) 0 (min 64 (8 * length bs - q * 64))
    → Pieced bs new (q + 1)
pieces_more bs all new r q p h e f =
    let w = 8 * length bs in
    let v = num (bits_of_bytes bs) in
    let rest = pieces w v ((q + 1) * 64) (w - (q + 1) * 64) in
    record {
      is =
          ap (λ x. bits_in x ++ rest) e
          ∙ ap (λ x. x ++ rest) (bits_in_append all (r ∷ []) ∙ ap (λ x. bits_in all ++ x) (append-nil (run_bits r) ∙ f))
          ∙ append_assoc (bits_in all) (bits_from (piece w v (q * 64)) 0 (min 64 (w - q * 64))) rest
          ∙ ap (λ x. bits_in all ++ x) (sym (next_piece w v q h))
          ∙ p.is;
    }

pub pieces_all : (bs : List ℕ) (all : List Run) (q : ℕ) → Pieced bs all q → 8 * length bs ≤ q * 64 → bits_in all ≡ pieces (8 * length bs) (num (bits_of_bytes bs)) 0 (8 * length bs)
pieces_all bs all q p h =
    let w = 8 * length bs in
    sym (append-nil (bits_in all)) ∙ ap (λ x. bits_in all ++ x) (sym (no_piece w (num (bits_of_bytes bs)) q h)) ∙ p.is
