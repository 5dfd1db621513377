-- Names and what they name.
use Rattle.std.specs.Prelude.{◌≡◌, ◌≢◌, ◌+◌, ◌*◌, ◌%◌, ℕ, if◌then◌else◌, List, [], ◌∷◌, fold, Option, Some, None, MatchOption}
use Rattle.std.specs.Str.{bytes_eq}

-- the prime that hashes are below
abbrev pub hash_prime : ℕ
hash_prime = 65521

-- a number for a text: its bytes as digits to this base, modulo that prime
abbrev pub hash_of : ℕ → List ℕ → ℕ
hash_of base text = fold (λ hash byte. (hash * base + byte) % hash_prime) 0 text

-- what a look-up of a name gives: the one thing of that name, or nothing where nothing has it
abbrev pub Finds : {Id : Type 0} → (Id → List ℕ) → List ℕ → Option Id → Type 0
Finds {Id} name_of name found = MatchOption found ((id : Id) → name_of id ≢ name) (λ id. name_of id ≡ name)

-- no two things have one name
abbrev pub NamesDiffer : {Id : Type 0} → (Id → List ℕ) → Type 0
NamesDiffer {Id} name_of = (a b : Id) → name_of a ≡ name_of b → a ≡ b

-- the first of these with the name
abbrev pub first_named : {Id : Type 0} → (Id → List ℕ) → List ℕ → List Id → Option Id
first_named name_of name [] = None
first_named name_of name (x ∷ xs) = if bytes_eq (name_of x) name then Some x else first_named name_of name xs
