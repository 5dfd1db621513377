-- Reading from left to right: what was read and the tokens after it, or why and where it stopped.
use Rattle.std.specs.Prelude.{ℕ, zero, suc, Bool, false, cond, List, [], ◌∷◌, length, Result, Ok, Err}
use Rattle.lsl_grammar.specs.declared.Why.{Why}
use Rattle.lsl_grammar.specs.declared.Why.TheVariants.{TooDeep}
use Rattle.lsl_grammar.specs.Language.{among}

abbrev pub Read : Type 0 → Type 0 → Type 0
Read Tok T = Result (T × List Tok) (Why × List Tok)

abbrev pub Reader : Type 0 → Type 0 → Type 0
Reader Tok T = List Tok → Read Tok T

infixl 10 ◌>>=◌
abbrev pub ◌>>=◌ : {Tok A B : Type 0} → Read Tok A → (A × List Tok → Read Tok B) → Read Tok B
(Ok x) >>= f = f x
(Err e) >>= f = Err e

-- the first token is of these kinds
abbrev pub begins : {Tok : Type 0} → (Tok → ℕ) → List ℕ → List Tok → Bool
begins kind ks [] = false
begins kind ks (t ∷ ts) = among (kind t) ks

abbrev pub ret_r : {Tok T : Type 0} → T → Reader Tok T
ret_r x ts = Ok (x, ts)

-- one token of these kinds, or the stop
abbrev pub one_r : {Tok : Type 0} → (Tok → ℕ) → Why → List ℕ → Reader Tok Tok
one_r kind why ks [] = Err (why, [])
one_r kind why ks (t ∷ ts) = cond (among (kind t) ks) (Ok (t, ts)) (Err (why, t ∷ ts))

abbrev pub then_r : {Tok A B : Type 0} → Reader Tok A → (A → Reader Tok B) → Reader Tok B
then_r p q ts = p ts >>= λ x. q x.0 x.1

-- the first where the next token is of these kinds, else the second
abbrev pub or_r : {Tok T : Type 0} → (Tok → ℕ) → List ℕ → Reader Tok T → Reader Tok T → Reader Tok T
or_r kind ks p q ts = cond (begins kind ks ts) (p ts) (q ts)

-- what would begin with these kinds is too deep
abbrev pub deep_stop : {Tok : Type 0} → (Tok → ℕ) → Why → List ℕ → List Tok → Why × List Tok
deep_stop kind why ks ts = cond (begins kind ks ts) (TooDeep, ts) (why, ts)

abbrev pub deep_r : {Tok T : Type 0} → (Tok → ℕ) → Why → List ℕ → Reader Tok T
deep_r kind why ks ts = Err (deep_stop kind why ks ts)

abbrev pub turns_r : {Tok A : Type 0} → (Tok → ℕ) → List ℕ → (A → Reader Tok A) → ℕ → A → Reader Tok A
turns_r kind ks round zero a ts = Ok (a, ts)
turns_r kind ks round (suc n) a ts = cond (begins kind ks ts)
    (round a ts >>= λ x. turns_r kind ks round n x.0 x.1) (Ok (a, ts))

-- rounds as long as the next token is of these kinds
abbrev pub rounds_r : {Tok A : Type 0} → (Tok → ℕ) → List ℕ → (A → Reader Tok A) → A → Reader Tok A
rounds_r kind ks round a ts = turns_r kind ks round (length ts) a ts

-- a token of the first kinds and one of the second are next
abbrev pub pair_next : {Tok : Type 0} → (Tok → ℕ) → List ℕ → List ℕ → List Tok → Bool
pair_next kind ks ls [] = false
pair_next kind ks ls (t ∷ ts) = cond (among (kind t) ks) (begins kind ls ts) false

-- the first where two such tokens are next, else the second
abbrev pub pair_r : {Tok T : Type 0} → (Tok → ℕ) → List ℕ → List ℕ → Reader Tok T → Reader Tok T → Reader Tok T
pair_r kind ks ls p q ts = cond (pair_next kind ks ls ts) (p ts) (q ts)
