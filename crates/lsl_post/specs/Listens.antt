-- The listens of a script: a list in the order in which they were asked for, and the number of the next.
use Rattle.std.specs.Prelude.{◌≡◌, ℕ, ◌+◌, ◌≤◌, ℤ, pos, negsuc, int_le, Bool, true, ◌&&◌, nat_lt, if◌then◌else◌, List, [], ◌∷◌, ◌++◌, length, map, Option, Some, None, position, remove, slice_get}
use Rattle.std.specs.Option.{option_map}
use Rattle.std.specs.List.{list_any, AllByRecursion, IsDistinct}
use Rattle.std.specs.Ordering.{int_eq}
use Rattle.std.proofs.Common.{zero, suc}
use Rattle.lsl_post.specs.declared.filters.Filter.{Filter}
use Rattle.lsl_post.specs.declared.listen.Listen.{Listen}
use Rattle.lsl_post.specs.Filters.{filter, fits_filter, same_filter}

pub record Standing : Type 0 where
  pub next : ℤ
  pub list : List Listen

abbrev pub standing : ℤ → List Listen → Standing
standing next list = record { next = next; list = list }

-- no listens, and the next number is 1
abbrev pub no_listens : Standing
no_listens = standing (pos 1) []

-- the greatest number of listens
abbrev pub most_listens : ℕ
most_listens = 65

abbrev pub number_of : Listen → ℤ
number_of l = l.number

abbrev pub filter_of : Listen → Filter
filter_of l = filter l.channel l.name l.id l.message

abbrev pub listen_of : ℤ → Filter → Listen
listen_of n f =
    record { number = n; active = true; channel = f.channel; name = f.name; id = f.id; message = f.message }

-- numbers are from 1 to 2147483647
abbrev pub is_number : ℤ → Bool
is_number n = int_le (pos 1) n

-- at most 65, with numbers and values of their own
pub record IsStanding (s : Standing) : Type 0 where
  pub next : is_number s.next ≡ true
  pub few : length s.list ≤ most_listens
  pub numbers : AllByRecursion (λ n. is_number n ≡ true) (map number_of s.list)
  pub numbers_differ : IsDistinct int_eq (map number_of s.list)
  pub filters_differ : IsDistinct same_filter (map filter_of s.list)

-- the number after a number: 1 after the greatest
abbrev pub number_after : ℤ → ℤ
number_after (pos n) = if nat_lt n 2147483647 then pos (n + 1) else pos 1
number_after (negsuc n) = pos 1

-- n numbers, from one on
unfoldable pub numbers_from : ℕ → ℤ → List ℤ
numbers_from zero n = []
numbers_from (suc count) n = n ∷ numbers_from count (number_after n)

abbrev pub has_number : List Listen → ℤ → Bool
has_number list n = list_any (int_eq n) (map number_of list)

-- the first of these that no listen has, and 0, which isn't a listen's number, where there is none
unfoldable pub first_free : List Listen → List ℤ → ℤ
first_free list [] = pos 0
first_free list (n ∷ ns) = if has_number list n then first_free list ns else n

-- the first number from the next on that no listen has: among one more than the listens there is one
abbrev pub free_number : Standing → ℤ
free_number s = first_free s.list (numbers_from (length s.list + 1) s.next)

-- the place of the listen with these values
abbrev pub place_of_filter : Filter → List Listen → Option ℕ
place_of_filter f list = position (same_filter f) (map filter_of list)

-- the place of the listen with this number
abbrev pub place_of_number : ℤ → List Listen → Option ℕ
place_of_number n list = position (int_eq n) (map number_of list)

-- the listens, with the one at this place active or not
unfoldable pub with_active_at : Bool → ℕ → List Listen → List Listen
with_active_at active place [] = []
with_active_at active zero (l ∷ ls) = record l { active = active } ∷ ls
with_active_at active (suc place) (l ∷ ls) = l ∷ with_active_at active place ls

-- one listen more, with a number that was free
abbrev pub with_listen : Filter → Standing → Standing
with_listen f s = standing (number_after (free_number s)) (s.list ++ listen_of (free_number s) f ∷ [])

-- a listen is asked for: its number, and the listens then. The one with these values is reused, and is active; there is
-- nothing if none has them and there are 65
abbrev pub listened_at : Filter → Standing → Option ℕ → Option (ℤ × Standing)
listened_at f s (Some place) =
    option_map (λ l. (l.number, standing s.next (with_active_at true place s.list))) (slice_get s.list place)
listened_at f s None =
    if nat_lt (length s.list) most_listens then Some (free_number s, with_listen f s) else None

abbrev pub listened : Filter → Standing → Option (ℤ × Standing)
listened f s = listened_at f s (place_of_filter f s.list)

-- the listen of a number goes, if there is one
abbrev pub closed_at : Standing → Option ℕ → Standing
closed_at s None = s
closed_at s (Some place) = standing s.next (remove s.list place)

abbrev pub closed : ℤ → Standing → Standing
closed n s = closed_at s (place_of_number n s.list)

-- the listen of a number is active or not, if there is one
abbrev pub controlled_at : Bool → Standing → Option ℕ → Standing
controlled_at active s None = s
controlled_at active s (Some place) = standing s.next (with_active_at active place s.list)

abbrev pub controlled : ℤ → Bool → Standing → Standing
controlled n active s = controlled_at active s (place_of_number n s.list)

-- a listen that is active hears what has all that it asks for
abbrev pub is_heard : Filter → Listen → Bool
is_heard said l = l.active && fits_filter (filter_of l) said

abbrev pub hears : Filter → Standing → Bool
hears said s = list_any (is_heard said) s.list
