-- The script of a generated world: its lines, with a line feed between.
use Rattle.std.specs.Prelude.{ℕ, List, [], ◌∷◌, codes}
use Rattle.std.specs.List.{join_with_byte}

abbrev pub walker_lines : List (List ℕ)
walker_lines =
    codes "integer n;"
    ∷ codes "integer sum(integer k) { if (k < 1) return 0; return k + sum(k - 1); }"
    ∷ codes "default {"
    ∷ codes "    state_entry() { llListen(9, \"\", \"\", \"\"); llSetTimerEvent(3); }"
    ∷ codes "    touch_start(integer k) { n += sum(20); llSay(9, (string)n); }"
    ∷ codes "    listen(integer c, string a, key b, string m) { n = n ^ (integer)m; if (n % 7 == 3) state other; }"
    ∷ codes "    timer() { integer i; for (i = 0; i < 50; ++i) n += i; llOwnerSay((string)n); }"
    ∷ codes "}"
    ∷ codes "state other {"
    ∷ codes "    state_entry() { llListen(9, \"\", \"\", \"\"); }"
    ∷ codes "    listen(integer c, string a, key b, string m) { --n; if (n % 5 == 0) state default; }"
    ∷ codes "    timer() { state default; }"
    ∷ codes "}"
    ∷ []

unfoldable pub walker_text : List ℕ
walker_text = join_with_byte 10 walker_lines
