use Rattle.std.proofs.Common.{◌≡◌, ◌≤◌, ◌+◌, ◌*◌, ◌∷◌, ◌++◌, length, take}
use Rattle.std.specs.Prelude.{vec_len, vec_capacity}
use Rattle.std.specs.List.{flat_map}
use Rattle.lsl_text.specs.Quoted.{escaped}
use Rattle.lsl_lines.proofs.journal_words.push_short_word.Given as goal

abbrev pub invariant-bytes : goal.invariant-bytes
invariant-bytes l = record {
  written : l.line.items ≡ l.fn.out.items ++ 32 ∷ 34 ∷ flat_map escaped (take l.b-index l.text);
  room : vec_len l.line + 2 * length l.text + 1 ≤ vec_capacity l.line + 2 * l.b-index;
}
