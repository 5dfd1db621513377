-- What a store keeps beside its pairs: their names as keys of a map, and how many bytes they have.
use Rattle.std.specs.Prelude.{◌≡◌, ℕ, List}
use Rattle.std.specs.List.{AllByRecursion}
use Rattle.std.specs.Map.{values_of}
use Rattle.std.specs.Str.{encode_utf8_all}
use Rattle.std.specs.String.{string_bytes}
use Rattle.std.specs.declared.string.String.{String}
use Rattle.std.specs.declared.alloc.Global.{Global}
use Rattle.lsl_post.specs.declared.parts.Pair.{Pair}
use Rattle.lsl_image.specs.Valid.{IsStore}
use Rattle.lsl_data.specs.Pairs.{bytes_of}

abbrev pub Entries : Type 0
Entries = List (String Global × Pair)

-- each pair is at its name
abbrev pub AreNamed : Entries → Type 0
AreNamed = AllByRecursion (λ e. string_bytes e.0 ≡ encode_utf8_all e.1.name)

pub record IsKept (entries : Entries) (used : ℕ) : Type 0 where
  pub named : AreNamed entries
  pub store : IsStore (values_of entries)
  pub counted : used ≡ bytes_of (values_of entries)
