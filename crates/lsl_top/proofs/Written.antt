-- Lines of entries, and counts that rise.
use Rattle.std.proofs.Common.{◌≡◌, ℕ, ◌≤◌, List, ◌++◌, arith, inl, inr}
use Rattle.std.proofs.lemmas.Grind.{flat_map-append}
use Rattle.std.proofs.lemmas.Bool.{cases_lt}
use Rattle.lsl_ports.specs.Counts.{Rose}
use Rattle.lsl_post.specs.declared.entries.Entry.{Entry}
use Rattle.lsl_lines.specs.Journal.{line_of, lines_of}

pub lines-append : (xs ys : List Entry) → lines_of (xs ++ ys) ≡ lines_of xs ++ lines_of ys
lines-append xs ys = flat_map-append line_of xs ys

pub rose-later : (a b c : ℕ) → a ≤ b → b ≤ c → Rose b c → Rose a c
rose-later a b c le more rose = λ lt. elim (cases_lt b 18446744073709551615) [
  | inl below ↦ let k = rose below in omega arith
  | inr above ↦ omega arith
]
