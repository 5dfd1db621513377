-- The bytes of both texts: ASCII, and few enough for a text.
use Rattle.std.proofs.Common.{◌≡◌, ℕ, ◌≤◌, [], ◌∷◌, ◌++◌, length, refl, arith, length-append}
use Rattle.std.specs.List.{All}
use Rattle.std.specs.Str.{IsAscii}
use Rattle.std.proofs.lemmas.List.{length-map}
use Rattle.std.proofs.lemmas.List.Elements.{All-append, All-from_recursion, All-map}
use Rattle.lsl_made.specs.Lines.{step_words}
use Rattle.lsl_made.specs.Steps.{steps_of}
use Rattle.lsl_made.specs.Walker.{walker_text}
use Rattle.lsl_made.specs.World.{object_lines, step_lines, world_lines, world_text}
use Rattle.lsl_made.proofs.Spelling.{IsLine, lines-spelled, object-line, script-line, begin-line, begin_words, end-line, end_words, step_words-line, IsAscii-from_test}
use Rattle.lsl_made.proofs.StepLaws.{steps_run}

object_lines-each : All IsLine object_lines
unfolding object_lines
object_lines-each =
    All-from_recursion IsLine object_lines (
      object-line 1 (omega arith),
      (
        script-line,
        (
          object-line 2 (omega arith),
          (
            script-line,
            (
              object-line 3 (omega arith),
              (
                script-line,
                (
                  object-line 4 (omega arith),
                  (
                    script-line,
                    (
                      object-line 5 (omega arith),
                      (
                        script-line,
                        (
                          object-line 6 (omega arith),
                          (
                            script-line,
                            (
                              object-line 7 (omega arith),
                              (
                                script-line,
                                (object-line 8 (omega arith), (script-line, tt)),
                              ),
                            ),
                          ),
                        ),
                      ),
                    ),
                  ),
                ),
              ),
            ),
          ),
        ),
      ),
    )

length-object_lines : length object_lines ≡ 16
unfolding object_lines
length-object_lines = refl

step_lines-each : (number : ℕ) → All IsLine (step_lines number)
unfolding step_lines
step_lines-each number =
    All-map IsLine step_words (steps_of number)
    (λ k d h. step_words-line _ ((steps_run number).ranges k d h))

length-step_lines : (number : ℕ) → length (step_lines number) ≡ 4000
unfolding step_lines
length-step_lines number = rw (length-map (steps_of number) step_words) (steps_run number).count

world_lines-each : (number : ℕ) → All IsLine (world_lines number)
unfolding world_lines
world_lines-each number =
    let ends : All IsLine (step_lines number ++ end_words ∷ []) =
    All-append IsLine (step_lines number) (end_words ∷ []) (step_lines-each number)
    (All-from_recursion IsLine (end_words ∷ []) (end-line, tt)) in
    All-append IsLine object_lines (begin_words ∷ step_lines number ++ end_words ∷ []) object_lines-each
    (All-append IsLine (begin_words ∷ []) (step_lines number ++ end_words ∷ [])
    (All-from_recursion IsLine (begin_words ∷ []) (begin-line, tt)) ends)

length-world_lines : (number : ℕ) → length (world_lines number) ≡ 4018
unfolding world_lines
length-world_lines number =
    omega (
      arith,
      length-append object_lines (begin_words ∷ step_lines number ++ end_words ∷ []),
      length-append (step_lines number) (end_words ∷ []),
      length-object_lines,
      length-step_lines number,
    )

pub world_text-ascii : (number : ℕ) → IsAscii (world_text number)
unfolding world_text
world_text-ascii number = (lines-spelled (world_lines number) (world_lines-each number)).ascii

pub length-world_text-le : (number : ℕ) → length (world_text number) ≤ 1048576
unfolding world_text
length-world_text-le number =
    let short = (lines-spelled (world_lines number) (world_lines-each number)).short in
    omega (arith, short, length-world_lines number)

pub walker_text-ascii : IsAscii walker_text
unfolding walker_text
walker_text-ascii = IsAscii-from_test walker_text refl

pub length-walker_text-le : length walker_text ≤ 1048576
unfolding walker_text
length-walker_text-le = omega arith
