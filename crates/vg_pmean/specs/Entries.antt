-- What an accepted entry that is made ready to run answers: what the entry means.
use Rattle.std.specs.Prelude.{◌≡◌, ℕ, ◌+◌, ◌-◌, ◌*◌, true, false, List, [], ◌∷◌, ◌++◌, length, Option, Some, None, Result, Ok, Err}
use Rattle.std.specs.declared.alloc.AllocError.{AllocError}
use Rattle.vg_base.specs.Bits.{bits, bits_of_bytes, num}
use Rattle.vg_bits.specs.declared.register.Reg.{Reg}
use Rattle.vg_pseudo.specs.declared.header.Header.{Header}
use Rattle.vg_pseudo.specs.declared.header.ImmRange.{ImmRange}
use Rattle.vg_pseudo.specs.Tree.{Operation}
use Rattle.vg_script.specs.Views.{whole_of}
use Rattle.vg_script.specs.declared.whole.Whole as code
use Rattle.vg_range.specs.Immediates.{has_instance, immediate_of}
use Rattle.vg_range.specs.Unrolled.{meant, IsGiven}
use Rattle.vg_pmean.specs.declared.instance.Instance.{Instance}
use Rattle.vg_pmean.specs.declared.prepared.Prepared.{Prepared}
use Rattle.vg_pmean.specs.Applied.{Ready, answer, given, left_in_dst}
use Rattle.vg_pmean.specs.Readied.{ready_of}

-- an instance of an entry, for all numbers of its parameters
abbrev pub IsInstance : Header → Operation → Option ℕ → code.Whole → Type 0
IsInstance h o imm i =
    (given : List ℕ) → IsGiven h imm given → left_in_dst (whole_of i) given ≡ meant h o given

-- instances by rising immediates, from this one on
abbrev pub AreInstances : Header → Operation → ℕ → List code.Whole → Type 0
AreInstances h o imm [] = Unit {0}
AreInstances h o imm (i ∷ is) = IsInstance h o (Some imm) i × AreInstances h o (imm + 1) is

-- how many immediates there are
abbrev pub count_of : ImmRange → ℕ
count_of i = (i.hi + 1) - i.lo

-- the first is the instance of an entry that has no immediate
abbrev pub IsOnly : Header → Operation → List code.Whole → Type 0
IsOnly h o [] = ⊥
IsOnly h o (i ∷ is) = IsInstance h o None i

-- all instances of an entry of these immediates
abbrev pub AreAll : Header → Operation → Option ImmRange → List code.Whole → Type 0
AreAll h o None is = IsOnly h o is
AreAll h o (Some i) is = AreInstances h o i.lo is × (length is ≡ count_of i)

abbrev pub least_of : Option ImmRange → Option ℕ
least_of None = None
least_of (Some i) = Some i.lo

-- for all parameters, as many as the entry has, what is answered for this immediate is what the
-- entry means
abbrev pub Answers : Header → Operation → Ready → ℕ → Type 0
Answers h o r imm =
    (params : List ℕ) → length params ≡ length h.params
    → answer r imm (params ++ imm ∷ []) ≡ meant h o (params ++ imm ∷ [])

-- and so for each immediate that the entry has; for each number at all where it has none
abbrev pub AnswersAll : Header → Operation → Ready → Type 0
AnswersAll h o r =
    (imm : ℕ) → has_instance h.imm (immediate_of h.imm imm) ≡ true → Answers h o r imm

-- and so for one immediate; for each number at all where the entry has none
abbrev pub AnswersOne : Header → Operation → ℕ → Ready → Type 0
AnswersOne h o imm r =
    (n : ℕ) → immediate_of h.imm n ≡ immediate_of h.imm imm → Answers h o r n

-- what is made ready for one immediate, which there is for the immediates of the entry alone
abbrev pub ReadyForOne : Header → Operation → ℕ → Result (Option Prepared) AllocError → Type 0
ReadyForOne h o imm (Ok (Some p)) =
    (has_instance h.imm (immediate_of h.imm imm) ≡ true) × AnswersOne h o imm (ready_of p)
ReadyForOne h o imm (Ok None) = has_instance h.imm (immediate_of h.imm imm) ≡ false
ReadyForOne h o imm (Err e) = Unit {0}

abbrev pub InstanceForOne : Header → Operation → Option ℕ → Result (Option Instance) AllocError → Type 0
InstanceForOne h o imm (Ok (Some i)) = (has_instance h.imm imm ≡ true) × IsInstance h o imm i.whole
InstanceForOne h o imm (Ok None) = has_instance h.imm imm ≡ false
InstanceForOne h o imm (Err e) = Unit {0}

-- what an entry answers to these parameters, where they are as many as it has: what it means
abbrev pub AnswersTo : {B : ℕ} → Header → Operation → List (Reg B) → ℕ → Result (Option (Reg B)) AllocError
    → Type 0
AnswersTo {B} h o params imm (Ok (Some r)) =
    length params ≡ length h.params
    → bits_of_bytes r.bytes ≡ bits (8 * B) (num (meant h o (given params imm)))
AnswersTo h o params imm (Ok None) = has_instance h.imm (immediate_of h.imm imm) ≡ false
AnswersTo h o params imm (Err e) = Unit {0}
