use Rattle.std.proofs.Common.{◌≡◌, ◌≤◌, ◌+◌, ◌-◌, length, drop}
use Rattle.std.specs.Str.{chars, encode_utf8_all}
use Rattle.lsl_notes.specs.Cutting.{cut_to}
use Rattle.lsl_notes.proofs.cutting.cut_length.Given as goal

abbrev pub invariant-loop-c : goal.invariant-loop-c
invariant-loop-c l =
    record {
      within : l.length ≤ l.room;
      whole : l.length + length (encode_utf8_all
          (cut_to (l.room - l.length) (drop (length l.yielded) (chars l.text))))
          ≡ length (encode_utf8_all (cut_to l.room (chars l.text)));
    }
