-- What a listen asks of spoken text: four values, which are compared as they were passed.
use Rattle.std.specs.Prelude.{ℕ, ℤ, Bool, ◌&&◌, ◌||◌, not, nat_lt, List, length}
use Rattle.std.specs.Ordering.{int_eq}
use Rattle.std.specs.Str.{bytes_eq}
use Rattle.lsl_value.specs.Key.{is_valid_key, is_null_key}
use Rattle.lsl_post.specs.declared.filters.Filter.{Filter}

abbrev pub filter : ℤ → List ℕ → List ℕ → List ℕ → Filter
filter channel name id message = record { channel = channel; name = name; id = id; message = message }

abbrev pub same_filter : Filter → Filter → Bool
same_filter a b =
    int_eq a.channel b.channel
    && (bytes_eq a.name b.name && (bytes_eq a.id b.id && bytes_eq a.message b.message))

-- an id that isn't a valid key, or is the key of zeros, asks nothing
abbrev pub is_any_id : List ℕ → Bool
is_any_id id = not (is_valid_key id) || is_null_key id

abbrev pub is_nothing : List ℕ → Bool
is_nothing text = not (nat_lt 0 (length text))

-- spoken text has what is asked: the channel, and each of the others that isn't wild
abbrev pub fits_filter : Filter → Filter → Bool
fits_filter asked said =
    int_eq asked.channel said.channel && (is_nothing asked.name || bytes_eq asked.name said.name)
    && (is_any_id asked.id || bytes_eq asked.id said.id)
    && (is_nothing asked.message || bytes_eq asked.message said.message)
