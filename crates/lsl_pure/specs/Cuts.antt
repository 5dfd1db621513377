-- Parts of a text or a list: what is taken, what is left, what is inserted and replaced, and trimmed texts.
use Rattle.std.specs.Prelude.{ℕ, ℤ, int_le, Bool, not, ◌&&◌, ◌==◌, if◌then◌else◌, List, [], ◌∷◌, ◌++◌, length, take, drop}
use Rattle.std.specs.Int.{w32, bit_at, cast_unsigned}
use Rattle.std.specs.List.{prefix_len}
use Rattle.lsl_text.specs.Number.{is_blank}
use Rattle.lsl_pure.specs.Places.{place_of, clamped, in_range, pick}

-- what stands in the range
abbrev pub taken : {X : Type 0} → List X → ℤ → ℤ → List X
taken xs first last = pick (in_range (length xs) first last) xs

-- what doesn't stand in the range
abbrev pub left : {X : Type 0} → List X → ℤ → ℤ → List X
left xs first last = pick (λ k. not (in_range (length xs) first last k)) xs

-- the second list before place k of the first
abbrev pub inserted : {X : Type 0} → List X → ℕ → List X → List X
inserted xs k ys = take k xs ++ ys ++ drop k xs

-- the second list before a place of the first: below 0 is taken as 0, above the end as the end
abbrev pub inserted_at : {X : Type 0} → List X → ℤ → List X → List X
inserted_at xs p ys = inserted xs (clamped (length xs) p) ys

-- the same for a place that may count from the end
abbrev pub inserted_before : {X : Type 0} → List X → ℤ → List X → List X
inserted_before xs p ys = inserted_at xs (place_of (length xs) p) ys

-- the second list in the place of the range; behind what is left where the range is turned
abbrev pub replaced : {X : Type 0} → List X → List X → ℤ → ℤ → List X
replaced xs ys first last =
    if int_le (place_of (length xs) first) (place_of (length xs) last) then inserted (left xs first last)
    (clamped (length xs) (place_of (length xs) first)) ys else left xs first last ++ ys

abbrev pub without_head : List ℕ → List ℕ
without_head text = drop (prefix_len is_blank text) text

abbrev pub without_tail : List ℕ → List ℕ
without_tail [] = []
without_tail (c ∷ cs) = if is_blank c && (length (without_tail cs) == 0) then [] else c ∷ without_tail cs

-- bit 1 trims the head and bit 2 the tail
abbrev pub trims_head : ℤ → Bool
trims_head kind = bit_at (cast_unsigned w32 kind) 0 == 1

abbrev pub trims_tail : ℤ → Bool
trims_tail kind = bit_at (cast_unsigned w32 kind) 1 == 1

-- the text without the blanks at its head, at its tail or at both
abbrev pub trimmed : List ℕ → ℤ → List ℕ
trimmed text kind =
    let rest = if trims_head kind then without_head text else text in
    if trims_tail kind then without_tail rest else rest
