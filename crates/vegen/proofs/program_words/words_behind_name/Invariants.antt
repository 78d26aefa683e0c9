use Rattle.std.proofs.Common.{◌≡◌, ◌++◌, drop, map, string_bytes}
use Rattle.vegen.proofs.program_words.words_behind_name.Given as goal

abbrev pub invariant-words : goal.invariant-words
invariant-words l = l.words ++ map string_bytes l.word-iterator.rest.items ≡ map string_bytes (drop 1 l.fn.all.rest.items)
