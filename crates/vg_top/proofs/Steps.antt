-- What a run answers, step by step.
use Rattle.std.proofs.Common.{◌≡◌, ℕ, List, Result, Ok, Err, Option, Some, None, refl, subst, sym}
use Rattle.std.specs.Prelude.{IfSome, Vec}
use Rattle.std.specs.declared.alloc.Global.{Global}
use Rattle.vg_base.specs.Bind.{◌>>=◌}
use Rattle.vg_outside.specs.Shelf.{Held}
use Rattle.vg_catalog.specs.declared.catalog.Catalog.{Catalog}
use Rattle.vg_catalog.specs.Called.{headers_of}
use Rattle.vg_catalog.specs.Catalogs.{entries_in}
use Rattle.vg_catalog.specs.Files.{file_of as entries_of}
use Rattle.vg_request.specs.Binding.{Binding}
use Rattle.vg_top.specs.declared.ending.Ending.{Ending}
use Rattle.vg_top.specs.declared.ending.Ending.TheVariants.{Usage, Instructions as InstructionsRefused, Kernel as KernelRefused, Program as ProgramRefused, Absent, ReadFault, TooLarge, Bindings, Trap, WriteFault, Memory, Differs}
use Rattle.vg_top.specs.declared.program_file.ProgramFile as code
use Rattle.vg_top.specs.Files.{first_file, second_file, third_file, instructions_limit, program_limit, memory_limit, file_of, AreBytes, Tells}
use Rattle.vg_top.specs.InstructionFile.{AreEntries, entries_or_refusal}
use Rattle.vg_top.specs.Left.{AreLeft}
use Rattle.vg_top.specs.ProgramFile.{IsProgram, program_file, program_or_refusal, program_seen}
use Rattle.vg_top.specs.Run.{ran, ran_on}

-- what is told of a step that went well is told of what comes after it
pub step : {A B C : Type 0} (same : A → B → Type 0) (x : A) (told : Result B Ending) (next : B → Result C Ending) (P : Result C Ending → Type 0)
    → Tells same (Ok x) told → ((y : B) → same x y → P (next y)) → P (told >>= next)
step same x (Ok y) next P is after = after y is
step same x (Err e) next P none after = absurd none

-- what a step was refused by is told of all that would come after it
pub refused : {X Y Z W : Type 0} (same : X → Y → Type 0) (also : Z → W → Type 0) (e : Ending) (told : Result Y Ending) (next : Y → Result W Ending)
    → Tells same (Err e) told → Tells also (Err e) (told >>= next)
refused same also (ReadFault n) told next is = tt
refused same also WriteFault told next is = tt
refused same also Memory told next is = tt
refused same also Usage told next is = subst (λ t. (t >>= next) ≡ Err Usage) (sym is) refl
refused same also (InstructionsRefused n f) told next is = subst (λ t. (t >>= next) ≡ Err (InstructionsRefused n f)) (sym is) refl
refused same also (KernelRefused n f) told next is = subst (λ t. (t >>= next) ≡ Err (KernelRefused n f)) (sym is) refl
refused same also (ProgramRefused n f) told next is = subst (λ t. (t >>= next) ≡ Err (ProgramRefused n f)) (sym is) refl
refused same also (Absent n) told next is = subst (λ t. (t >>= next) ≡ Err (Absent n)) (sym is) refl
refused same also (TooLarge n) told next is = subst (λ t. (t >>= next) ≡ Err (TooLarge n)) (sym is) refl
refused same also Bindings told next is = subst (λ t. (t >>= next) ≡ Err Bindings) (sym is) refl
refused same also Trap told next is = subst (λ t. (t >>= next) ≡ Err Trap) (sym is) refl
refused same also (Differs text) told next is = subst (λ t. (t >>= next) ≡ Err (Differs text)) (sym is) refl

-- what is told of three looks at a shelf that holds the same
pub some-told : (h i j : Option Held) (F G H R : Held → Type 0) → i ≡ h → j ≡ h → IfSome h F → IfSome i G → IfSome j H
    → ((held : Held) → F held → G held → H held → R held) → IfSome h R
some-told None i j F G H R d e a b c all = tt
some-told (Some held) i j F G H R d e a b c all =
    all held a (subst (λ o. IfSome o G) d b) (subst (λ o. IfSome o H) e c)

-- the memory that a program in a file leaves, after all three files were read and judged
pub ran-told : (held : Held) (instructions program memory : List ℕ) (bindings : List Binding) (file text bytes : Vec ℕ Global) (catalog : Catalog) (p : code.ProgramFile)
    (result : Result (Vec ℕ Global) Ending)
    → Tells AreBytes (Ok file) (file_of held first_file instructions instructions_limit)
    → Tells AreEntries (Ok catalog) (entries_or_refusal first_file (entries_of file.items))
    → Tells AreBytes (Ok text) (file_of held second_file program program_limit)
    → Tells IsProgram (Ok p) (program_or_refusal second_file (program_file (headers_of (entries_in catalog)) text.items))
    → Tells AreBytes (Ok bytes) (file_of held third_file memory memory_limit)
    → Tells AreLeft result (ran_on (entries_in catalog) bindings (program_seen p) bytes.items)
    → Tells AreLeft result (ran held instructions program memory bindings)
ran-told held instructions program memory bindings file text bytes catalog p result a b d e f r =
    let left = Tells AreLeft result in
    step AreBytes file (file_of held first_file instructions instructions_limit) _ left a (λ fs fe.
    step AreEntries catalog (entries_or_refusal first_file (entries_of fs)) _ left
    (subst (λ v. Tells AreEntries (Ok catalog) (entries_or_refusal first_file (entries_of v))) fe b) (λ es ee.
    step AreBytes text (file_of held second_file program program_limit) _ left d (λ ts te.
    step IsProgram p (program_or_refusal second_file (program_file (headers_of es) ts)) _ left
    (subst (λ v. Tells IsProgram (Ok p) (program_or_refusal second_file (program_file (headers_of v) ts))) ee
    (subst (λ v. Tells IsProgram (Ok p) (program_or_refusal second_file (program_file (headers_of (entries_in catalog)) v))) te e)) (λ q qe.
    step AreBytes bytes (file_of held third_file memory memory_limit) _ left f (λ ms me.
    subst (λ v. left (ran_on v bindings q ms)) ee
    (subst (λ v. left (ran_on (entries_in catalog) bindings v ms)) qe
    (subst (λ v. left (ran_on (entries_in catalog) bindings (program_seen p) v)) me r)))))))
