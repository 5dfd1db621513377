-- What is heard, in order: by channel, then by the place of the script that hears it.
use Rattle.std.specs.Prelude.{◌≡◌, ℕ, ◌<◌, ◌≤◌, ℤ, if◌then◌else◌, Bool, List, length, Option, Some, None, get_or}
use Rattle.std.specs.List.{AllWithin}
use Rattle.std.specs.List.Sorted.{IsStrictlySortedBy}
use Rattle.std.specs.Ordering.{eq_by_cmp, int_cmp, int_eq, nat_cmp, ordering_then}
use Rattle.std.specs.Set.{is_member}
use Rattle.std.specs.declared.cmp.Ordering.{Ordering}
use Rattle.std.specs.declared.cmp.Ordering.TheVariants.{Less, Greater}
use Rattle.lsl_region.specs.declared.chat_index.ChannelEntry.{ChannelEntry}

-- no script has so great a place
abbrev pub no_place : ℕ
no_place = 18446744073709551615

abbrev pub heard : ℤ → ℕ → ChannelEntry
heard channel place = record { channel = channel; place = place }

-- by channel, then by place
abbrev pub heard_order : ChannelEntry → ChannelEntry → Ordering
heard_order a b = ordering_then (int_cmp a.channel b.channel) (nat_cmp a.place b.place)

abbrev pub same_heard : ChannelEntry → ChannelEntry → Bool
same_heard = eq_by_cmp heard_order

-- each entry once, in order
abbrev pub IsOrdered : List ChannelEntry → Type 0
IsOrdered table = IsStrictlySortedBy heard_order table

-- the table has this entry
abbrev pub has_entry : List ChannelEntry → ChannelEntry → Bool
has_entry table h = is_member same_heard table h

-- the script at this place hears something on this channel
abbrev pub is_heard : List ChannelEntry → ℤ → ℕ → Bool
is_heard table channel place = has_entry table (heard channel place)

-- the entry is here in the table
pub record StandsAt (table : List ChannelEntry) (h : ChannelEntry) (at : ℕ) : Type 0 where
  pub within : at < length table
  pub is : get_or table at h ≡ h

-- it isn't in the table, and belongs here
pub record BelongsAt (table : List ChannelEntry) (h : ChannelEntry) (at : ℕ) : Type 0 where
  pub within : at ≤ length table
  pub before : AllWithin (λ other. heard_order other h ≡ Less) table 0 at
  pub behind : AllWithin (λ other. heard_order other h ≡ Greater) table at (length table)

-- the place of an entry somewhere in the table, if it is on this channel
abbrev pub place_of : ℤ → Option ChannelEntry → ℕ
place_of channel None = no_place
place_of channel (Some h) = if int_eq h.channel channel then h.place else no_place
