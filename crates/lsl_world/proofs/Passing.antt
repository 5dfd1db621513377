-- What checks find where they have a value.
use Rattle.std.proofs.Common.{◌≡◌, ℕ, ◌≤◌, Bool, true, false, cond, List, [], ◌∷◌, ◌++◌, Result, Ok, Err, refl, ap, subst, arith}
use Rattle.std.specs.Prelude.{map, nat_le}
use Rattle.std.specs.Char.{to_ascii_lowercase}
use Rattle.std.proofs.lemmas.Bool.{leb-true}
use Rattle.lsl_value.specs.Key.{is_valid_key}
use Rattle.lsl_lines.specs.Checks.{◌>>=◌, fault_unless}
use Rattle.lsl_lines.specs.Fields.{is_negative, key_of, magnitude_of, natural_of, plain_of}
use Rattle.lsl_lines.specs.Words.{text_of}
use Rattle.lsl_lines.specs.Reading.{at_last}
use Rattle.lsl_lines.specs.declared.faults.FileKind.{FileKind}
use Rattle.lsl_lines.specs.declared.faults.FileKind.TheVariants.{BadLine}
use Rattle.lsl_lines.specs.declared.words.Word.{Word}

-- it holds of the value, where there is one
abbrev pub Fit : {A : Type 0} → (A → Type 0) → Result A FileKind → Type 0
Fit P (Ok x) = P x
Fit P (Err k) = Unit {0}

abbrev value_or : {A : Type 0} → A → Result A FileKind → A
value_or a (Ok x) = x
value_or a (Err k) = a

ok-one : {A : Type 0} (x y : A) → let one : Result A FileKind = Ok x in one ≡ Ok y → x ≡ y
ok-one x y e = ap (value_or x) e

pub fit-ok : {A : Type 0} (P : A → Type 0) (m : Result A FileKind) (x : A) → m ≡ Ok x → Fit P m → P x
fit-ok P (Ok y) x e h = subst P (ok-one y x e) h
fit-ok P (Err k) x e h = absurd (cc)

pub fit-then : {A B : Type 0} (P : B → Type 0) (m : Result A FileKind) (f : A → Result B FileKind)
    → ((x : A) → m ≡ Ok x → Fit P (f x)) → Fit P (m >>= f)
fit-then P (Ok x) f h = h x refl
fit-then P (Err k) f h = tt

pub fit-fault_unless : {A : Type 0} (P : A → Type 0) (test : Bool) (k : FileKind) (more : Result A FileKind)
    → (test ≡ true → Fit P more) → Fit P (fault_unless test k more)
fit-fault_unless P true k more h = h refl
fit-fault_unless P false k more h = tt

pub fit-cond : {A : Type 0} (P : A → Type 0) (test : Bool) (one other : Result A FileKind) → Fit P one → Fit P other
    → Fit P (cond test one other)
fit-cond P true one other h k = h
fit-cond P false one other h k = k

-- the last element of a list was changed
pub record Changed {A : Type 0} (change : A → Result A FileKind) (xs ys : List A) : Type 0 where
  pub front : List A
  pub from : A
  pub to : A
  pub old : xs ≡ front ++ from ∷ []
  pub new : ys ≡ front ++ to ∷ []
  pub made : change from ≡ Ok to

pub at_last-fit : {A : Type 0} (change : A → Result A FileKind) (xs : List A)
    → Fit (Changed change xs) (at_last change xs)
at_last-fit change [] = tt
at_last-fit change (x ∷ []) =
    fit-then (Changed change (x ∷ [])) (change x) (λ y. Ok (y ∷ []))
    (λ y m. record { front = []; from = x; to = y; old = refl; new = refl; made = m })
at_last-fit change (a ∷ b ∷ xs) =
    fit-then (Changed change (a ∷ b ∷ xs)) (at_last change (b ∷ xs)) (λ zs. Ok (a ∷ zs))
    (λ zs m. further zs (fit-ok (Changed change (b ∷ xs)) (at_last change (b ∷ xs)) zs m (at_last-fit change (b ∷ xs))))
  where
    further : (zs : List _) → Changed change (b ∷ xs) zs → Changed change (a ∷ b ∷ xs) (a ∷ zs)
    further zs c = record {
      front = a ∷ c.front;
      from = c.from;
      to = c.to;
      old = ap (λ z. a ∷ z) c.old;
      new = ap (λ z. a ∷ z) c.new;
      made = c.made;
    }

below_most : (negative : Bool) (n most : ℕ) → nat_le n (cond negative 0 most) ≡ true → n ≤ most
below_most true n most h = let k = leb-true n 0 h in omega arith
below_most false n most h = leb-true n most h

-- a number is in its range
pub natural-fits : (most : ℕ) (word : Word) → Fit (λ n. n ≤ most) (natural_of most word)
natural-fits most word =
    fit-then (λ n. n ≤ most) (plain_of word) (λ bytes. magnitude_of bytes >>= λ n.
    fault_unless (nat_le n (cond (is_negative bytes) 0 most)) BadLine (Ok n))
    (λ bytes e. fit-then (λ n. n ≤ most) (magnitude_of bytes)
    (λ n. fault_unless (nat_le n (cond (is_negative bytes) 0 most)) BadLine (Ok n))
    (λ n f. fit-fault_unless (λ n. n ≤ most) (nat_le n (cond (is_negative bytes) 0 most)) BadLine (Ok n)
    (below_most (is_negative bytes) n most)))

abbrev pub IsKey : List ℕ → Type 0
IsKey key = is_valid_key key ≡ true

-- a key is a valid one
pub key-fits : (word : Word) → Fit IsKey (key_of word)
key-fits word =
    fit-then IsKey (plain_of word) (λ bytes. text_of (map to_ascii_lowercase bytes) >>= λ key.
    fault_unless (is_valid_key key) BadLine (Ok key))
    (λ bytes e. fit-then IsKey (text_of (map to_ascii_lowercase bytes))
    (λ key. fault_unless (is_valid_key key) BadLine (Ok key))
    (λ key f. fit-fault_unless IsKey (is_valid_key key) BadLine (Ok key) (λ valid. valid)))
