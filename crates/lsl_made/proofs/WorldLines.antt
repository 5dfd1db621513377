-- The lines of the world, one object and one step more at a time, and its whole text.
use Rattle.std.proofs.Common.{◌≡◌, ℕ, zero, suc, ◌+◌, ◌/◌, List, [], ◌∷◌, ◌++◌, map, refl, sym, ap, ◌∙◌, arith, add-one, append_assoc}
use Rattle.std.specs.Prelude.{codes}
use Rattle.std.specs.List.{flat_map, range_with_len}
use Rattle.std.proofs.lemmas.Grind.{flat_map-append}
use Rattle.std.proofs.lemmas.List.{map-append, append-nil}
use Rattle.std.proofs.lemmas.List.FromFn.{map-range_with_len_more}
use Rattle.lsl_made.specs.declared.step.Step.{Step}
use Rattle.lsl_made.specs.Lines.{line, object_words, script_words, step_words}
use Rattle.lsl_made.specs.Numbers.{number_after, number_at}
use Rattle.lsl_made.specs.Steps.{first_steps, step_at, step_of, steps_of}
use Rattle.lsl_made.specs.World.{object_lines, step_lines, world_lines, world_text}

-- the text of the first objects, with their scripts
unfoldable pub objects_text : ℕ → List ℕ
objects_text count = flat_map line
    (flat_map (λ object. object_words object ∷ script_words ∷ []) (range_with_len 1 count))

-- the text of the first steps
unfoldable pub steps_text : ℕ → ℕ → List ℕ
steps_text number count = flat_map line (map step_words (first_steps number count))

pub objects_text-none : objects_text 0 ≡ []
unfolding objects_text
objects_text-none = refl

pub steps_text-none : (number : ℕ) → steps_text number 0 ≡ []
unfolding steps_text first_steps
steps_text-none number = refl

pub number_at-none : (number : ℕ) → number_at number 0 ≡ number
unfolding number_at
number_at-none number = refl

number_at-suc : (number place : ℕ) → number_at number (suc place) ≡ number_after (number_at number place)
unfolding number_at
number_at-suc number place = refl

pub number_at-more : (number place : ℕ) → number_at number (place + 1) ≡ number_after (number_at number place)
number_at-more number place = rw add-one (number_at-suc number place)

range-more : (a n : ℕ) → range_with_len a (suc n) ≡ range_with_len a n ++ (a + n) ∷ []
range-more a zero = ap (λ k. k ∷ []) (omega arith)
range-more a (suc n) =
    ap (λ rest. a ∷ rest) (range-more (a + 1) n) ∙ ap (λ k. a ∷ (range_with_len (a + 1) n ++ k ∷ [])) (omega arith)

objects_text-suc : (count : ℕ) → objects_text (suc count)
    ≡ objects_text count ++ (line (object_words (suc count)) ++ line script_words)
unfolding objects_text
objects_text-suc count =
    let lines : ℕ → List (List (List ℕ)) = λ object. object_words object ∷ script_words ∷ [] in
    let last : 1 + count ≡ suc count = omega arith in
    ap (λ objects. flat_map line (flat_map lines objects)) (range-more 1 count)
    ∙ ap (λ k. flat_map line (flat_map lines (range_with_len 1 count ++ k ∷ []))) last
    ∙ ap (flat_map line) (flat_map-append lines (range_with_len 1 count) (suc count ∷ []))
    ∙ flat_map-append line (flat_map lines (range_with_len 1 count)) (object_words (suc count) ∷ script_words ∷ [])
    ∙ ap (λ t. flat_map line (flat_map lines (range_with_len 1 count)) ++ (line (object_words (suc count)) ++ t))
    (append-nil (line script_words))

pub objects_text-more : (count : ℕ)
    → objects_text (count + 1) ≡ objects_text count ++ (line (object_words (count + 1)) ++ line script_words)
objects_text-more count = rw add-one (objects_text-suc count)

pub steps_text-more : (number count : ℕ) → steps_text number (count + 1)
    ≡ steps_text number count ++ line (step_words (step_at number (count + 1)))
unfolding steps_text first_steps
steps_text-more number count =
    ap (λ steps. flat_map line (map step_words steps))
    (map-range_with_len_more (step_at number) 1 count (count + 1) (omega arith))
    ∙ ap (flat_map line) (map-append step_words (first_steps number count) (step_at number (count + 1) ∷ []))
    ∙ flat_map-append line (map step_words (first_steps number count)) (step_words (step_at number (count + 1)) ∷ [])
    ∙ ap (λ t. steps_text number count ++ t) (append-nil (line (step_words (step_at number (count + 1)))))

pub objects_text-all : objects_text 8 ≡ flat_map line object_lines
unfolding objects_text object_lines
objects_text-all = refl

pub steps_text-all : (number : ℕ) → steps_text number 4000 ≡ flat_map line (step_lines number)
unfolding steps_text step_lines steps_of
steps_text-all number = refl

-- one object more, after old bytes
pub objects_text-next : (count : ℕ) (old before after : List ℕ) → before ≡ old ++ objects_text count
    → after ≡ before ++ (line (object_words (count + 1)) ++ line script_words)
    → after ≡ old ++ objects_text (count + 1)
objects_text-next count old before after h more =
    more
    ∙ ap (λ t. t ++ (line (object_words (count + 1)) ++ line script_words)) h
    ∙ append_assoc old (objects_text count) (line (object_words (count + 1)) ++ line script_words)
    ∙ ap (λ t. old ++ t) (sym (objects_text-more count))

-- one step more, after old bytes
pub steps_text-next : (number passed x : ℕ) (step : Step) (old before after : List ℕ)
    → x ≡ number_at number (passed + 1) → step ≡ step_of (passed + 1) (x / 65536)
    → before ≡ old ++ steps_text number passed → after ≡ before ++ line (step_words step)
    → after ≡ old ++ steps_text number (passed + 1)
steps_text-next number passed x step old before after at is h more =
    more
    ∙ ap (λ s. before ++ line (step_words s)) (is ∙ ap (λ y. step_of (passed + 1) (y / 65536)) at)
    ∙ ap (λ t. t ++ line (step_words (step_at number (passed + 1)))) h
    ∙ append_assoc old (steps_text number passed) (line (step_words (step_at number (passed + 1))))
    ∙ ap (λ t. old ++ t) (sym (steps_text-more number passed))

-- the text in its parts
world_text-parts : (number : ℕ) → world_text number
    ≡ ((flat_map line object_lines ++ codes "begin\n") ++ flat_map line (step_lines number)) ++ codes "end\n"
unfolding world_text world_lines
world_text-parts number =
    flat_map-append line object_lines
    ((codes "begin" ∷ []) ∷ step_lines number ++ (codes "end" ∷ []) ∷ [])
    ∙ ap (λ t. flat_map line object_lines ++ (codes "begin\n" ++ t))
    (flat_map-append line (step_lines number) ((codes "end" ∷ []) ∷ []))
    ∙ sym (append_assoc (flat_map line object_lines) (codes "begin\n")
    (flat_map line (step_lines number) ++ codes "end\n"))
    ∙ sym (append_assoc (flat_map line object_lines ++ codes "begin\n") (flat_map line (step_lines number))
    (codes "end\n"))

-- the whole text, made part after part
pub world_text-made : (number : ℕ) (none objects begun steps all : List ℕ) → none ≡ []
    → objects ≡ none ++ flat_map line object_lines → begun ≡ objects ++ codes "begin\n"
    → steps ≡ begun ++ flat_map line (step_lines number) → all ≡ steps ++ codes "end\n" → all ≡ world_text number
world_text-made number none objects begun steps all is_none is_objects is_begun is_steps is_all =
    is_all
    ∙ ap (λ t. t ++ codes "end\n") is_steps
    ∙ ap (λ t. (t ++ flat_map line (step_lines number)) ++ codes "end\n") is_begun
    ∙ ap (λ t. ((t ++ codes "begin\n") ++ flat_map line (step_lines number)) ++ codes "end\n") is_objects
    ∙ ap (λ t. (((t ++ flat_map line object_lines) ++ codes "begin\n") ++ flat_map line (step_lines number)) ++ codes "end\n")
    is_none
    ∙ sym (world_text-parts number)
