-- What holds of every world, whatever its scripts mean.
use Rattle.std.specs.Prelude.{◌≡◌, ℕ, ◌≤◌, pos, List, [], ◌∷◌, length, Some}
use Rattle.std.specs.Str.{encode_utf8_all}
use Rattle.lsl_value.specs.declared.names.BuiltinId.TheVariants as builtin
use Rattle.lsl_value.specs.declared.tagged.Value.{Value}
use Rattle.lsl_value.specs.declared.tagged.Value.TheVariants as value
use Rattle.lsl_post.specs.Told.{quiet}
use Rattle.lsl_script.specs.Rules.{Rules}
use Rattle.lsl_region.specs.Answers.{answer_of, nothing}
use Rattle.lsl_region.specs.Links.{prim_named}
use Rattle.lsl_region.specs.Segments.{turn}
use Rattle.lsl_region.specs.Texts.{cut_to}
use Rattle.lsl_region.specs.Worlds.{Member, World}

-- a text that is cut has at most the bytes that it may have
abbrev pub CutsAreShort : Type 0
CutsAreShort = (room : ℕ) (text : List ℕ) → length (encode_utf8_all (cut_to room text)) ≤ room

-- and a text that is short enough is whole
abbrev pub ShortTextsAreWhole : Type 0
ShortTextsAreWhole =
    (room : ℕ) (text : List ℕ) → length (encode_utf8_all text) ≤ room → cut_to room text ≡ text

-- nothing is said on channel 0 of a region
abbrev pub RegionIsSilentOnZero : Type 0
RegionIsSilentOnZero =
    (r : Rules) (place : ℕ) (m : Member) (text : Value) (w : World)
    → answer_of r place m builtin.RegionSay (value.Int (pos 0) ∷ text ∷ []) w ≡ quiet (w, nothing)

-- 0 and 1 name the root, whatever the count of prims
abbrev pub RootHasTwoNumbers : Type 0
RootHasTwoNumbers = (count : ℕ) → (prim_named count (pos 0) ≡ Some 0) × (prim_named count (pos 1) ≡ Some 0)

-- a turn of no segments does nothing
abbrev pub NoSegmentDoesNothing : Type 0
NoSegmentDoesNothing = (r : Rules) (place : ℕ) (w : World) → turn r 0 place w ≡ quiet (w, 0)
