-- What is found by a name is what has the name.
use Rattle.std.proofs.Common.{◌≡◌, ℕ, Bool, true, false, cond, Option, Some, None, List, [], ◌∷◌, refl, sym, ap, ◌∙◌}
use Rattle.std.specs.Str.{bytes_eq}
use Rattle.std.proofs.lemmas.Slice.Eq.{bytes_eq-Decides}
use Rattle.lsl_table.specs.Names.{Finds, NamesDiffer, first_named}

some-same : {Id : Type 0} (a b : Id) → Some a ≡ Some b → a ≡ b
some-same a b same = cc

-- what is found has the name
named-by : {Id : Type 0} (name_of : Id → List ℕ) (name : List ℕ) (xs : List Id) (x : Id)
    → first_named name_of name xs ≡ Some x → name_of x ≡ name
named-by name_of name [] x found = absurd (cc)
named-by name_of name (y ∷ xs) x found = go (bytes_eq (name_of y) name) refl found (named-by name_of name xs x)
  where
    go : (t : Bool) → t ≡ bytes_eq (name_of y) name → cond t (Some y) (first_named name_of name xs) ≡ Some x
        → (first_named name_of name xs ≡ Some x → name_of x ≡ name) → name_of x ≡ name
    go true is found rest = let same : y ≡ x = cc in
        sym (ap name_of same) ∙ (bytes_eq-Decides (name_of y) name).0 (sym is)
    go false is found rest = rest found

-- a list in which each is found by its name
module _ {Id : Type 0} (name_of : Id → List ℕ) (xs : List Id)
    (each : (id : Id) → first_named name_of (name_of id) xs ≡ Some id) where
  found-by_name : (name : List ℕ) (id : Id) → name_of id ≡ name → first_named name_of name xs ≡ Some id
  found-by_name name id named = sym (ap (λ (n : List ℕ). first_named name_of n xs) named) ∙ each id

  -- a look-up in it gives the one of that name
  pub Finds-first_named : (name : List ℕ) → Finds name_of name (first_named name_of name xs)
  Finds-first_named name = go (first_named name_of name xs) refl
    where
      go : (found : Option Id) → first_named name_of name xs ≡ found → Finds name_of name found
      go None none = λ id named. absurd (cc (found-by_name name id named))
      go (Some id) some = named-by name_of name xs id some

  -- and nothing else does
  pub Finds-same : (name : List ℕ) (found : Option Id) → Finds name_of name found → found ≡ first_named name_of name xs
  Finds-same name (Some id) named = sym (found-by_name name id named)
  Finds-same name None none = go (first_named name_of name xs) refl
    where
      go : (found : Option Id) → first_named name_of name xs ≡ found → None ≡ found
      go None is = refl
      go (Some id) is = absurd (none id (named-by name_of name xs id is))

  pub names-differ : NamesDiffer name_of
  names-differ a b same = some-same a b (sym (each a) ∙ found-by_name (name_of a) b (sym same))
