-- What is written of a text answers what is told of it.
use Rattle.std.proofs.Common.{◌≡◌, ℕ, Bool, List, Result, Ok, Err, true, length, refl, subst}
use Rattle.std.specs.Prelude.{Vec}
use Rattle.std.specs.declared.alloc.Global.{Global}
use Rattle.vg_base.specs.Bind.{◌>>=◌}
use Rattle.vg_catalog.specs.Entries.{Entry}
use Rattle.vg_request.specs.Options.{Choices}
use Rattle.vg_request.specs.Request.{files_of}
use Rattle.vg_top.specs.declared.ending.Ending.{Ending}
use Rattle.vg_top.specs.declared.task.Task.{Task}
use Rattle.vg_top.specs.declared.task.Task.TheVariants.{Program, Guarded, Plan}
use Rattle.vg_top.specs.Causes.{reads_instructions, reads_kernel}
use Rattle.vg_top.specs.Files.{Tells}
use Rattle.vg_top.specs.OnKernel.{asked_for, told_of}
use Rattle.vg_top.specs.Outcome.{Outcome, IsAnswer, VecAnswers}

-- what is made of what was read answers what is told, seen by a view
pub answered : {F G : Type 0} (view : F → G) (made : List Entry → G → Outcome) (read entries : List Entry) (told : Result G Ending) (file : F) (bytes : Vec ℕ Global) → read ≡ entries
    → Tells (λ f g. view f ≡ g) (Ok file) told → IsAnswer (made read (view file)) bytes.items
    → Tells VecAnswers (Ok bytes) (told >>= λ g. Ok (made entries g))
answered view made read entries (Ok g) file bytes same is answer =
    subst (λ es. IsAnswer (made es g) bytes.items) same
    (subst (λ h. IsAnswer (made read h) bytes.items) is answer)
answered view made read entries (Err e) file bytes same none answer = none

-- what is told with a library is told with the entries and the set that it was made of
pub told-of-kept : (task : Task) (result : Result (Vec ℕ Global) Ending) (width : ℕ) (more : Bool) (text : List ℕ) (kept entries : List Entry) (set allowed : ℕ) → kept ≡ entries → set ≡ allowed
    → Tells VecAnswers result (told_of task kept (record { width = width; allowed = set; more = more }) text)
    → Tells VecAnswers result (told_of task entries (record { width = width; allowed = allowed; more = more }) text)
told-of-kept task result width more text kept entries set allowed same is told =
    subst (λ es. Tells VecAnswers result (told_of task es (record { width = width; allowed = allowed; more = more }) text)) same
    (subst (λ s. Tells VecAnswers result (told_of task kept (record { width = width; allowed = s; more = more }) text)) is told)

-- all these commands read two files, of instructions and of a kernel
pub two-files : (task : Task) (a b : List ℕ) (choices : Choices) → length (files_of (asked_for task a b choices)) ≡ 2
two-files Program a b choices = refl
two-files Guarded a b choices = refl
two-files Plan a b choices = refl

pub instructions-read : (task : Task) (a b : List ℕ) (choices : Choices) → reads_instructions (asked_for task a b choices) ≡ true
instructions-read Program a b choices = refl
instructions-read Guarded a b choices = refl
instructions-read Plan a b choices = refl

pub kernel-read : (task : Task) (a b : List ℕ) (choices : Choices) → reads_kernel (asked_for task a b choices) ≡ true
kernel-read Program a b choices = refl
kernel-read Guarded a b choices = refl
kernel-read Plan a b choices = refl
