-- A part is smaller than the word, the script or the list that it is a part of.
use Rattle.std.proofs.Common.{◌≡◌, ℕ, ◌<◌, arith, ap, Box, Global}
use denote.Hole.Carrier.{out}
use Rattle.vg_terms.specs.declared.term.TwoOp.{TwoOp}
use Rattle.vg_script.specs.declared.script.Given.TheBlock.{the_depth}
use Rattle.vg_script.specs.declared.script.Word.{Word, size-Word, size_is-Word, out-Word}
use Rattle.vg_script.specs.declared.script.Word.TheVariants as w
use Rattle.vg_script.specs.declared.script.Low.{Low}
use Rattle.vg_script.specs.declared.script.Given.{Given, size-Given, size_is-Given, out-Given}
use Rattle.vg_script.specs.declared.script.Given.TheVariants as g
use Rattle.vg_script.specs.declared.script.Script.{Script, size-Script, size_is-Script, out-Script}
use Rattle.vg_script.specs.declared.script.Script.TheVariants as s

-- ---- words

two_size : (o : TwoOp) (n : ℕ) (x y : Box Word Global) → size-Word y.value < size-Word (w.Two o n x y)
unfolding out-Word the_depth out
two_size o n x y = omega (arith, size_is-Word (w.Two o n x y))

pub second_smaller : (z : Word) (o : TwoOp) (n : ℕ) (x y : Box Word Global) (d : Word) → z ≡ w.Two o n x y → d ≡ y.value → size-Word d < size-Word z
second_smaller z o n x y d e f = omega (arith, ap size-Word e, ap size-Word f, two_size o n x y)

sel_first : (n : ℕ) (c x y : Box Word Global) → size-Word x.value < size-Word (w.Sel n c x y)
unfolding out-Word the_depth out
sel_first n c x y = omega (arith, size_is-Word (w.Sel n c x y))

sel_second : (n : ℕ) (c x y : Box Word Global) → size-Word y.value < size-Word (w.Sel n c x y)
unfolding out-Word the_depth out
sel_second n c x y = omega (arith, size_is-Word (w.Sel n c x y))

pub first_selected : (z : Word) (n : ℕ) (c x y : Box Word Global) (d : Word) → z ≡ w.Sel n c x y → d ≡ x.value → size-Word d < size-Word z
first_selected z n c x y d e f = omega (arith, ap size-Word e, ap size-Word f, sel_first n c x y)

pub second_selected : (z : Word) (n : ℕ) (c x y : Box Word Global) (d : Word) → z ≡ w.Sel n c x y → d ≡ y.value → size-Word d < size-Word z
second_selected z n c x y d e f = omega (arith, ap size-Word e, ap size-Word f, sel_second n c x y)

-- ---- what is given

given_first : (x : Box Word Global) (rest : Box Given Global) → size-Word x.value < size-Given (g.Word x rest)
unfolding out-Given the_depth out
given_first x rest = omega (arith, size_is-Given (g.Word x rest))

given_rest : (x : Box Word Global) (rest : Box Given Global) → size-Given rest.value < size-Given (g.Word x rest)
unfolding out-Given the_depth out
given_rest x rest = omega (arith, size_is-Given (g.Word x rest))

number_rest : (n : ℕ) (rest : Box Given Global) → size-Given rest.value < size-Given (g.Number n rest)
unfolding out-Given the_depth out
number_rest n rest = omega (arith, size_is-Given (g.Number n rest))

moved_rest : (r : ℕ) (l : Low) (n : ℕ) (rest : Box Given Global) → size-Given rest.value < size-Given (g.Moved r l n rest)
unfolding out-Given the_depth out
moved_rest r l n rest = omega (arith, size_is-Given (g.Moved r l n rest))

pub word_given : (z : Given) (x : Box Word Global) (rest : Box Given Global) (d : Word) → z ≡ g.Word x rest → d ≡ x.value → size-Word d < size-Given z
word_given z x rest d e f = omega (arith, ap size-Given e, ap size-Word f, given_first x rest)

pub behind_word : (z : Given) (x : Box Word Global) (rest : Box Given Global) (d : Given) → z ≡ g.Word x rest → d ≡ rest.value → size-Given d < size-Given z
behind_word z x rest d e f = omega (arith, ap size-Given e, ap size-Given f, given_rest x rest)

pub behind_number : (z : Given) (n : ℕ) (rest : Box Given Global) (d : Given) → z ≡ g.Number n rest → d ≡ rest.value → size-Given d < size-Given z
behind_number z n rest d e f = omega (arith, ap size-Given e, ap size-Given f, number_rest n rest)

pub behind_moved : (z : Given) (r : ℕ) (l : Low) (n : ℕ) (rest : Box Given Global) (d : Given) → z ≡ g.Moved r l n rest → d ≡ rest.value → size-Given d < size-Given z
behind_moved z r l n rest d e f = omega (arith, ap size-Given e, ap size-Given f, moved_rest r l n rest)

-- ---- ways and arms

way_first : (c : Box Word Global) (b ways : Box Script Global) → size-Word c.value < size-Script (s.Way c b ways)
unfolding out-Script the_depth out
way_first c b ways = omega (arith, size_is-Script (s.Way c b ways))

way_body : (c : Box Word Global) (b ways : Box Script Global) → size-Script b.value < size-Script (s.Way c b ways)
unfolding out-Script the_depth out
way_body c b ways = omega (arith, size_is-Script (s.Way c b ways))

way_rest : (c : Box Word Global) (b ways : Box Script Global) → size-Script ways.value < size-Script (s.Way c b ways)
unfolding out-Script the_depth out
way_rest c b ways = omega (arith, size_is-Script (s.Way c b ways))

arm_body : (n : ℕ) (b arms : Box Script Global) → size-Script b.value < size-Script (s.Arm n b arms)
unfolding out-Script the_depth out
arm_body n b arms = omega (arith, size_is-Script (s.Arm n b arms))

arm_rest : (n : ℕ) (b arms : Box Script Global) → size-Script arms.value < size-Script (s.Arm n b arms)
unfolding out-Script the_depth out
arm_rest n b arms = omega (arith, size_is-Script (s.Arm n b arms))

pub condition_smaller : (z : Script) (c : Box Word Global) (b ways : Box Script Global) (d : Word) → z ≡ s.Way c b ways → d ≡ c.value → size-Word d < size-Script z
condition_smaller z c b ways d e f = omega (arith, ap size-Script e, ap size-Word f, way_first c b ways)

pub way_smaller : (z : Script) (c : Box Word Global) (b ways : Box Script Global) (d : Script) → z ≡ s.Way c b ways → d ≡ b.value → size-Script d < size-Script z
way_smaller z c b ways d e f = omega (arith, ap size-Script e, ap size-Script f, way_body c b ways)

pub behind_way : (z : Script) (c : Box Word Global) (b ways : Box Script Global) (d : Script) → z ≡ s.Way c b ways → d ≡ ways.value → size-Script d < size-Script z
behind_way z c b ways d e f = omega (arith, ap size-Script e, ap size-Script f, way_rest c b ways)

pub arm_smaller : (z : Script) (n : ℕ) (b arms : Box Script Global) (d : Script) → z ≡ s.Arm n b arms → d ≡ b.value → size-Script d < size-Script z
arm_smaller z n b arms d e f = omega (arith, ap size-Script e, ap size-Script f, arm_body n b arms)

pub behind_arm : (z : Script) (n : ℕ) (b arms : Box Script Global) (d : Script) → z ≡ s.Arm n b arms → d ≡ arms.value → size-Script d < size-Script z
behind_arm z n b arms d e f = omega (arith, ap size-Script e, ap size-Script f, arm_rest n b arms)
