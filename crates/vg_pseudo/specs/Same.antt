-- Whether two expressions are one text, but for parentheses and for how numbers are spelled.
use Rattle.std.specs.Prelude.{Bool, true, false, ◌&&◌, nat_eq}
use Rattle.std.specs.Str.{bytes_eq}
use Rattle.vg_base.specs.declared.width.Width.{Width}
use Rattle.vg_base.specs.Width.{bits_of}
use Rattle.vg_pseudo.specs.declared.operators.UnaryOp.{UnaryOp}
use Rattle.vg_pseudo.specs.declared.operators.UnaryOp.TheVariants.{Not, Negate, Absolute, Signed, SignExtend, ZeroExtend, Saturate, SaturateUnsigned, Truncate}
use Rattle.vg_pseudo.specs.declared.operators.BinaryOp.{BinaryOp}
use Rattle.vg_pseudo.specs.declared.operators.BinaryOp.TheVariants.{Or, Xor, And, Equal, NotEqual, Less, LessOrEqual, Greater, GreaterOrEqual, ShiftLeft, ShiftRight, Add, Subtract, Multiply, Minimum, Maximum}
use Rattle.vg_pseudo.specs.Tree.{Expression, number, name, slice, bit, element, part, unary, binary, choice, call, Arguments, end, more}

abbrev pub same_width : Width → Width → Bool
same_width v w = nat_eq (bits_of v) (bits_of w)

abbrev pub same_unary : UnaryOp → UnaryOp → Bool
same_unary Not Not = true
same_unary Negate Negate = true
same_unary Absolute Absolute = true
same_unary Signed Signed = true
same_unary (SignExtend v) (SignExtend w) = same_width v w
same_unary (ZeroExtend v) (ZeroExtend w) = same_width v w
same_unary (Saturate v) (Saturate w) = same_width v w
same_unary (SaturateUnsigned v) (SaturateUnsigned w) = same_width v w
same_unary (Truncate v) (Truncate w) = same_width v w
same_unary _ _ = false

abbrev pub same_binary : BinaryOp → BinaryOp → Bool
same_binary Or Or = true
same_binary Xor Xor = true
same_binary And And = true
same_binary Equal Equal = true
same_binary NotEqual NotEqual = true
same_binary Less Less = true
same_binary LessOrEqual LessOrEqual = true
same_binary Greater Greater = true
same_binary GreaterOrEqual GreaterOrEqual = true
same_binary ShiftLeft ShiftLeft = true
same_binary ShiftRight ShiftRight = true
same_binary Add Add = true
same_binary Subtract Subtract = true
same_binary Multiply Multiply = true
same_binary Minimum Minimum = true
same_binary Maximum Maximum = true
same_binary _ _ = false

abbrev mutual
  pub same : Expression → Expression → Bool
  same (number at m) (number at' n) = nat_eq m n
  same (name at m) (name at' n) = bytes_eq m n
  same (slice at m h l) (slice at' n h' l') = bytes_eq m n && same h h' && same l l'
  same (bit at m k) (bit at' n k') = bytes_eq m n && same k k'
  same (element at m v k) (element at' n w k') = bytes_eq m n && same_width v w && same k k'
  same (part at m v) (part at' n w) = bytes_eq m n && same_width v w
  same (unary at op x) (unary at' op' x') = same_unary op op' && same x x'
  same (binary at op x y) (binary at' op' x' y') = same_binary op op' && same x x' && same y y'
  same (choice at c x y) (choice at' c' x' y') = same c c' && same x x' && same y y'
  same (call at m xs) (call at' n ys) = bytes_eq m n && all_same xs ys
  same _ _ = false

  pub all_same : Arguments → Arguments → Bool
  all_same end end = true
  all_same (more x xs) (more y ys) = same x y && all_same xs ys
  all_same _ _ = false
