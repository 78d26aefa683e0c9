use Rattle.std.proofs.Common.{rules, ◌≡◌, refl}
use Rattle.std.proofs.lemmas.Str.{is_utf8-from_IsUtf8}
use Rattle.vg_outside.proofs.Texts.{no_text}
use Rattle.vg_outside.proofs.bytes.BytesAsStr.as_str.Goals as goal

pub returns-in-Ok : goal.returns-in-Ok
returns-in-Ok c = rw (is_utf8-from_IsUtf8 c.args.self.now (search rules)) (search rules)

pub returns-in-Err : goal.returns-in-Err
returns-in-Err c = rw (no_text c.args.self.now (search rules)) refl
