-- white space and comments change nothing of the tokens that are left
use Rattle.std.proofs.Common.{◌≡◌, ◌-◌, length}
use Rattle.vg_text.specs.Lexing.{left, source}
use Rattle.vg_text.proofs.lexer.Lexer.pass.Given as goal

abbrev pub invariant-gaps : goal.invariant-gaps
invariant-gaps l = record {
  source : source l.self ≡ source l.initial.self;
  left : left l.self ≡ left l.initial.self;
}

abbrev pub decreases-gaps : goal.decreases-gaps
decreases-gaps l = length l.self.text.now - l.self.at
