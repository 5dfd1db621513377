-- The answer when a listen is asked for.
use Rattle.std.specs.Prelude.{◌≡◌, ◌<◌, ◌≤◌, ℤ, Some, None, length, MatchResult}
use Rattle.std.specs.declared.result.Result.{Result}
use Rattle.lsl_post.specs.declared.filters.Filter.{Filter}
use Rattle.lsl_post.specs.declared.listen.ListenFault.{ListenFault}
use Rattle.lsl_post.specs.declared.listen.ListenFault.TheVariants.{TooMany}
use Rattle.lsl_post.specs.Listens.{free_number, listened, most_listens, with_listen, Standing}

-- the number of the listen, with the listens then; or all is unchanged, when out of memory or since there are too many
abbrev pub GivesListen : Filter → Standing → Standing → Result ℤ ListenFault → Type 0
GivesListen f old new result =
    MatchResult result (λ number. listened f old ≡ Some (number, new))
    (λ fault. (new ≡ old) × (fault ≡ TooMany → listened f old ≡ None))

-- the same where no listen has these values
abbrev pub AddsListen : Filter → Standing → Standing → Result ℤ ListenFault → Type 0
AddsListen f old new result =
    MatchResult result
    (λ number. (number ≡ free_number old) × (new ≡ with_listen f old) × (length old.list < most_listens))
    (λ fault. (new ≡ old) × (fault ≡ TooMany → most_listens ≤ length old.list))
