-- Languages of tokens with their trees. Each has its whole lists, and the lists that begin one.
use Rattle.std.specs.Prelude.{◌≡◌, ℕ, zero, suc, ◌==◌, Bool, true, false, ◌||◌, List, [], ◌∷◌, ◌++◌, ◌⊎◌}

-- the number is in the list
abbrev pub among : ℕ → List ℕ → Bool
among k [] = false
among k (x ∷ xs) = (k == x) || among k xs

pub record Lang (Tok T : Type 0) : Type 1 where
  -- these tokens, all of them, are a text with this tree
  pub whole : List Tok → T → Type 0
  -- these tokens begin a text: its first parts, each whole, and then nothing or what begins the next part
  pub opens : List Tok → Type 0

-- no token
abbrev pub ret : {Tok T : Type 0} → T → Lang Tok T
ret x = record { whole = λ u t. (u ≡ []) × (t ≡ x); opens = λ u. u ≡ [] }

-- one token whose kind has one of these numbers
abbrev pub one_of : {Tok : Type 0} → (Tok → ℕ) → List ℕ → Lang Tok Tok
one_of {Tok} kind ks = record {
  whole = λ u t. (u ≡ t ∷ []) × (among (kind t) ks ≡ true);
  opens = λ u. (u ≡ []) ⊎ ((t : Tok) × (u ≡ t ∷ []) × (among (kind t) ks ≡ true));
}

-- one part, and then what may follow it
infixl 10 ◌>>=◌
abbrev pub ◌>>=◌ : {Tok A B : Type 0} → Lang Tok A → (A → Lang Tok B) → Lang Tok B
◌>>=◌ {Tok} {A} L K = record {
  whole = λ u t. (x : A) × (p : List Tok) × (q : List Tok) × (u ≡ p ++ q) × L.whole p x × (K x).whole q t;
  opens = λ u. L.opens u ⊎ ((x : A) × (p : List Tok) × (q : List Tok) × (u ≡ p ++ q) × L.whole p x × (K x).opens q);
}

-- one or the other
infixr 8 ◌∣◌
abbrev pub ◌∣◌ : {Tok T : Type 0} → Lang Tok T → Lang Tok T → Lang Tok T
L ∣ M = record {
  whole = λ u t. L.whole u t ⊎ M.whole u t;
  opens = λ u. L.opens u ⊎ M.opens u;
}

-- no text at all: what may not begin here
abbrev pub never : {Tok T : Type 0} → Lang Tok T
never = record { whole = λ u t. ⊥; opens = λ u. u ≡ [] }

-- n rounds, each of which continues from the result of the one before it
abbrev pub Rounds : {Tok A : Type 0} → (A → Lang Tok A) → ℕ → A → List Tok → A → Type 0
Rounds round zero a u c = (u ≡ []) × (c ≡ a)
Rounds {Tok} {A} round (suc n) a u c = (b : A) × (p : List Tok) × (q : List Tok) × (u ≡ p ++ q)
    × (round a).whole p b × Rounds round n b q c

-- any number of rounds
abbrev pub rounds : {Tok A : Type 0} → (A → Lang Tok A) → A → Lang Tok A
rounds {Tok} {A} round a = record {
  whole = λ u c. (n : ℕ) × Rounds round n a u c;
  opens = λ u. (n : ℕ) × (b : A) × (p : List Tok) × (q : List Tok) × (u ≡ p ++ q) × Rounds round n a p b
      × ((q ≡ []) ⊎ (round b).opens q);
}
