-- The bytes of lines: ASCII, and few.
use Rattle.std.proofs.Common.{◌≡◌, ℕ, suc, ◌+◌, ◌*◌, ◌^◌, ◌<◌, ◌≤◌, Bool, true, List, [], ◌∷◌, ◌++◌, length, refl, arith, length-append}
use Rattle.std.specs.Prelude.{codes, decimal, nat_lt}
use Rattle.std.specs.List.{All, AllByRecursion, flat_map, join_with_byte, list_all}
use Rattle.std.specs.Str.{IsAscii}
use Rattle.std.proofs.lemmas.Fmt.{IsAscii-decimal, length-decimal-le}
use Rattle.std.proofs.lemmas.Str.{IsAscii-append}
use Rattle.std.proofs.lemmas.Str.Ascii.{IsAscii-cons, IsAscii-nil}
use Rattle.lsl_made.specs.declared.step.Step.{Step}
use Rattle.lsl_made.specs.declared.step.Step.TheVariants.{Touch, Clock, Go, Run, Cross, Pause, Say}
use Rattle.lsl_made.specs.declared.step.Region.{Region}
use Rattle.lsl_made.specs.declared.step.Region.TheVariants.{A, B}
use Rattle.lsl_made.specs.Laws.{IsInRange}
use Rattle.lsl_made.specs.Lines.{line, region_name, object_words, script_words, step_words}

pub record IsSpelled (most : ℕ) (bytes : List ℕ) : Type 0 where
  pub ascii : IsAscii bytes
  pub short : length bytes ≤ most

-- whether each byte is ASCII, by computing
abbrev is_ascii : List ℕ → Bool
is_ascii = list_all (λ b. nat_lt b 128)

pub IsAscii-from_test : (bytes : List ℕ) → is_ascii bytes ≡ true → IsAscii bytes
IsAscii-from_test [] h = IsAscii-nil
IsAscii-from_test (b ∷ bytes) h = IsAscii-cons b bytes (head b bytes h) (IsAscii-from_test bytes (tail b bytes h))
  where
    head : (b : ℕ) (bytes : List ℕ) → is_ascii (b ∷ bytes) ≡ true → b < 128
    head b bytes h = grind arith

    tail : (b : ℕ) (bytes : List ℕ) → is_ascii (b ∷ bytes) ≡ true → is_ascii bytes ≡ true
    tail b bytes h = grind arith

-- a word is ASCII, and has at most 40 bytes
abbrev IsWord : List ℕ → Type 0
IsWord = IsSpelled 40

literal : (bytes : List ℕ) → is_ascii bytes ≡ true → length bytes ≤ 40 → IsWord bytes
literal bytes ascii short = record { ascii = IsAscii-from_test bytes ascii; short = short }

-- a number of at most seven digits between two texts
around : (before behind : List ℕ) (n : ℕ) → is_ascii before ≡ true → is_ascii behind ≡ true
    → length before + length behind ≤ 33 → n < 10000000 → IsWord (before ++ (decimal n ++ behind))
around before behind n first last short small =
    let fits : n < 2 ^ 64 = omega arith in
    let digits : length (decimal n) ≤ 7 = length-decimal-le 7 n (omega arith) small fits in record {
      ascii =
          IsAscii-append before (decimal n ++ behind) (IsAscii-from_test before first)
          (IsAscii-append (decimal n) behind (IsAscii-decimal n fits) (IsAscii-from_test behind last));
      short = omega (arith, length-append before (decimal n ++ behind), length-append (decimal n) behind);
    }

number : (n : ℕ) → n < 10000000 → IsWord (decimal n)
number n small =
    let fits : n < 2 ^ 64 = omega arith in
    let digits : length (decimal n) ≤ 7 = length-decimal-le 7 n (omega arith) small fits in
    record { ascii = IsAscii-decimal n fits; short = omega arith }

-- a number of one digit after a text
behind : (before : List ℕ) (n : ℕ) → is_ascii before ≡ true → length before ≤ 39 → n < 10
    → IsWord (before ++ decimal n)
behind before n first short small =
    let fits : n < 2 ^ 64 = omega arith in
    let digits : length (decimal n) ≤ 1 = length-decimal-le 1 n (omega arith) small fits in record {
      ascii = IsAscii-append before (decimal n) (IsAscii-from_test before first) (IsAscii-decimal n fits);
      short = omega (arith, length-append before (decimal n));
    }

-- a line of words
joined : (words : List (List ℕ)) → AllByRecursion IsWord words
    → IsSpelled (41 * length words) (join_with_byte 32 words)
joined [] each = record { ascii = IsAscii-nil; short = omega arith }
joined (word ∷ []) each = record { ascii = each.0.ascii; short = omega (arith, each.0.short) }
joined (word ∷ next ∷ words) each =
    let rest = joined (next ∷ words) each.1 in record {
      ascii =
          IsAscii-append word (32 ∷ join_with_byte 32 (next ∷ words)) each.0.ascii
          (IsAscii-cons 32 (join_with_byte 32 (next ∷ words)) (omega arith) rest.ascii);
      short =
          omega (arith, each.0.short, rest.short, length-append word (32 ∷ join_with_byte 32 (next ∷ words)));
    }

-- a line has at most five words
pub record IsLine (words : List (List ℕ)) : Type 0 where
  pub few : length words ≤ 5
  pub each : AllByRecursion IsWord words

line-spelled : (words : List (List ℕ)) → IsLine words → IsSpelled 206 (line words)
line-spelled words is =
    let whole = joined words is.each in record {
      ascii =
          IsAscii-append (join_with_byte 32 words) (10 ∷ []) whole.ascii
          (IsAscii-cons 10 [] (omega arith) IsAscii-nil);
      short = omega (arith, is.few, whole.short, length-append (join_with_byte 32 words) (10 ∷ []));
    }

-- the text of lines
pub lines-spelled : (lines : List (List (List ℕ))) → All IsLine lines
    → IsSpelled (206 * length lines) (flat_map line lines)
lines-spelled [] each = record { ascii = IsAscii-nil; short = omega arith }
lines-spelled (words ∷ lines) each =
    let first = line-spelled words (each 0 words (omega arith)) in
    let rest = lines-spelled lines (λ k d h. each (suc k) d (omega arith)) in record {
      ascii = IsAscii-append (line words) (flat_map line lines) first.ascii rest.ascii;
      short = omega (arith, first.short, rest.short, length-append (line words) (flat_map line lines));
    }

region-word : (region : Region) → IsWord (region_name region)
region-word A = literal _ refl (omega arith)
region-word B = literal _ refl (omega arith)

pub step_words-line : (step : Step) → IsInRange step → IsLine (step_words step)
step_words-line (Touch object) h = record {
  few = omega arith;
  each = (
    literal _ refl (omega arith),
    (
      number object (omega (arith, h.0, h.1)),
      (literal _ refl (omega arith), (literal _ refl (omega arith), (literal _ refl (omega arith), tt))),
    ),
  );
}
step_words-line (Clock reading) h =
    record { few = omega arith; each = (literal _ refl (omega arith), (number reading (omega arith), tt)) }
step_words-line (Go script ticks) h = record {
  few = omega arith;
  each = (
    literal _ refl (omega arith),
    (number script (omega (arith, h.0.0, h.0.1)), (number ticks (omega (arith, h.1)), tt)),
  );
}
step_words-line (Run ticks) h =
    record { few = omega arith; each = (literal _ refl (omega arith), (number ticks (omega arith), tt)) }
step_words-line (Cross object region) h = record {
  few = omega arith;
  each = (literal _ refl (omega arith), (number object (omega (arith, h.0, h.1)), (region-word region, tt)));
}
step_words-line (Pause gap) h =
    record { few = omega arith; each = (literal _ refl (omega arith), (number gap (omega arith), tt)) }
step_words-line (Say said) h = record {
  few = omega arith;
  each = (
    literal _ refl (omega arith),
    (
      literal _ refl (omega arith),
      (
        literal _ refl (omega arith),
        (literal _ refl (omega arith), (around (34 ∷ []) (34 ∷ []) said refl refl (omega arith) (omega arith), tt)),
      ),
    ),
  );
}

abbrev pub begin_words : List (List ℕ)
begin_words = codes "begin" ∷ []

abbrev pub end_words : List (List ℕ)
end_words = codes "end" ∷ []

pub begin-line : IsLine begin_words
begin-line = record { few = omega arith; each = (literal _ refl (omega arith), tt) }

pub end-line : IsLine end_words
end-line = record { few = omega arith; each = (literal _ refl (omega arith), tt) }

pub script-line : IsLine script_words
script-line = record {
  few = omega arith;
  each = (literal _ refl (omega arith), (literal _ refl (omega arith), (literal _ refl (omega arith), tt)));
}

pub object-line : (object : ℕ) → object < 10 → IsLine (object_words object)
object-line object small = record {
  few = omega arith;
  each = (
    literal _ refl (omega arith),
    (
      behind (codes "00000000-0000-0000-0000-00000000000") object refl (omega arith) small,
      (
        around (34 ∷ 79 ∷ []) (34 ∷ []) object refl refl (omega arith) (omega arith),
        (literal _ refl (omega arith), (region-word A, tt)),
      ),
    ),
  );
}
