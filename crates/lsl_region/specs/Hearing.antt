-- Which scripts listen on a channel, and the next of them from a place on.
use Rattle.std.specs.Prelude.{◌≡◌, ℕ, ◌+◌, ◌*◌, ◌<◌, ◌≤◌, ◌⊎◌, ◌&&◌, ℤ, Bool, true, false, List, [], length, Option, Some, None, get_or, slice_get}
use Rattle.std.specs.List.{list_any}
use Rattle.std.specs.Ordering.{int_eq}
use Rattle.std.specs.Set.{is_member}
use Rattle.lsl_post.specs.declared.listen.Listen.{Listen}
use Rattle.lsl_post.specs.declared.parts.ScriptParts.{ScriptParts}
use Rattle.lsl_post.specs.Listens.{Standing}
use Rattle.lsl_region.specs.declared.notice.Audience.{Audience}
use Rattle.lsl_region.specs.declared.grid.Seat.{Seat}
use Rattle.lsl_region.specs.declared.chat_index.ChannelEntry.{ChannelEntry}
use Rattle.lsl_region.specs.Posting.{is_admitted}
use Rattle.lsl_region.specs.Table.{IsOrdered, is_heard, no_place}

-- a listen is active, on this channel
abbrev pub is_on : ℤ → Listen → Bool
is_on channel l = l.active && int_eq channel l.channel

-- one of them is
abbrev pub listens_on : ℤ → Standing → Bool
listens_on channel listens = list_any (is_on channel) listens.list

-- the greatest number of channels on which a script listens
abbrev pub most_channels : ℕ
most_channels = 65

-- the channel is one of a row of channels
abbrev pub has_channel : List ℤ → ℤ → Bool
has_channel row channel = is_member int_eq row channel

-- the row at this place has it
abbrev pub is_in_row : List (List ℤ) → ℤ → ℕ → Bool
is_in_row rows channel place = has_channel (get_or rows place []) channel

-- the table has exactly what the rows have, a row for each place; there is room for as much as rows can have
pub record IsTable (rows : List (List ℤ)) (table : List ChannelEntry) (capacity : ℕ) : Type 0 where
  pub ordered : IsOrdered table
  pub exact : (channel : ℤ) (place : ℕ) → is_heard table channel place ≡ is_in_row rows channel place
  pub few : (place : ℕ) → length (get_or rows place []) ≤ most_channels
  pub room : 0 < length rows → most_channels * (length rows + 1) ≤ capacity

-- the next place is that of a row with the channel, or there is none
abbrev pub IsFound : List (List ℤ) → ℤ → ℕ → Type 0
IsFound rows channel next = (next ≡ no_place) ⊎ (is_in_row rows channel next ≡ true)

-- a script that isn't out has a row of exactly the channels on which one of its listens is active
abbrev pub HasRow : List ℤ → Option ScriptParts → Type 0
HasRow row None = Unit {0}
HasRow row (Some parts) = (channel : ℤ) → has_channel row channel ≡ listens_on channel parts.listens

-- each of them
pub record HaveRows (rows : List (List ℤ)) (seats : List Seat) : Type 0 where
  pub count : length seats ≤ length rows
  pub each : (place : ℕ) (seat : Seat) → slice_get seats place ≡ Some seat → HasRow (get_or rows place []) seat.script

-- from a place up to another no script that isn't out is one of them
abbrev pub ArePassed : Audience → List Seat → ℕ → ℕ → Type 0
ArePassed audience seats from to =
    (place : ℕ) (seat : Seat) (parts : ScriptParts) → from ≤ place → place < to → slice_get seats place ≡ Some seat
    → seat.script ≡ Some parts → (object prim : ℕ) (key : List ℕ)
    → is_admitted audience object prim key parts.listens ≡ false
