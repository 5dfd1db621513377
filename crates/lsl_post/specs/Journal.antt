-- Entries that are added to a list, all of them or, when memory runs out, the first of them.
use Rattle.std.specs.Prelude.{◌≡◌, List, ◌++◌, MatchResult}
use Rattle.std.specs.declared.result.Result.{Result}
use Rattle.lsl_post.specs.declared.entries.Entry.{Entry}
use Rattle.lsl_post.specs.Told.{Told}

-- some of the entries, from the first on, were added
pub record Part (old new entries : List Entry) : Type 0 where
  pub added : List Entry
  pub missing : List Entry
  pub now : new ≡ old ++ added
  pub all : added ++ missing ≡ entries

-- At Ok the result corresponds to the value, and all entries were added; otherwise the first of them were.
abbrev pub Tells : {T E X : Type 0} → Result T E → (X → T → Type 0) → List Entry → List Entry → Told X
    → Type 0
Tells r Rel old new a =
    MatchResult r (λ t. Rel a.value t × (new ≡ old ++ a.entries)) (λ _. Part old new a.entries)

-- the same, where nothing is returned
abbrev pub Adds : {T E : Type 0} → Result T E → List Entry → List Entry → List Entry → Type 0
Adds r old new entries = MatchResult r (λ _. new ≡ old ++ entries) (λ _. Part old new entries)
