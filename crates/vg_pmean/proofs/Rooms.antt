-- Room for several needs.
use Rattle.std.proofs.Common.{◌≡◌, arith}
use Rattle.vg_pmean.specs.declared.frame_room.FrameRoom.{FrameRoom}
use Rattle.vg_pmean.specs.FrameRoom.{either, no_room}

same_room : (a b : FrameRoom) → a.frames ≡ b.frames → a.registers ≡ b.registers → a.variables ≡ b.variables → a.bits ≡ b.bits → a ≡ b
same_room a b f r v w = λ i. record { frames = f i; registers = r i; variables = v i; bits = w i }

pub either_none : (a : FrameRoom) → either a no_room ≡ a
either_none a = same_room (either a no_room) a (omega arith) (omega arith) (omega arith) (omega arith)

pub none_either : (a : FrameRoom) → either no_room a ≡ a
none_either a = same_room (either no_room a) a (omega arith) (omega arith) (omega arith) (omega arith)

pub either_two : (a b c : FrameRoom) → either (either a b) c ≡ either a (either b c)
either_two a b c = same_room (either (either a b) c) (either a (either b c)) (omega arith) (omega arith) (omega arith) (omega arith)

pub either_three : (a b c d : FrameRoom) → either (either (either a b) c) d ≡ either a (either b (either c d))
either_three a b c d = same_room (either (either (either a b) c) d) (either a (either b (either c d))) (omega arith) (omega arith) (omega arith) (omega arith)
