-- How listens are kept: in a table, each under what it asks.
use Rattle.std.specs.Prelude.{◌≡◌, ℤ, List, map, Option, Some, None}
use Rattle.std.specs.Global.{Box}
use Rattle.lsl_post.specs.declared.filters.Filter.{Filter}
use Rattle.lsl_post.specs.declared.listen.Listen.{Listen}
use Rattle.lsl_post.specs.Listens.{filter_of, no_listens, standing, IsStanding, Standing}

abbrev pub asked_of : List (Filter × Listen) → List Filter
asked_of entries = map (λ e. e.0) entries

abbrev pub listens_of : List (Filter × Listen) → List Listen
listens_of entries = map (λ e. e.1) entries

pub record IsTable (next : ℤ) (entries : List (Filter × Listen)) : Type 0 where
  pub keys : asked_of entries ≡ map filter_of (listens_of entries)
  pub standing : IsStanding (standing next (listens_of entries))

-- without a table there are none
abbrev pub listens_in : Option (Box Standing) → Standing
listens_in None = no_listens
listens_in (Some table) = table.value
