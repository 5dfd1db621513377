-- What the functions of the code give, against the definitions. No public clause cites these.
use Rattle.std.specs.Prelude.{◌≡◌, ℕ, ◌==◌, Bool, true, false, not, cond, ◌||◌, List, [], ◌∷◌, min, Result, Ok, Err}
use Rattle.lsl_text.specs.declared.Refusal.{Refusal}
use Rattle.lsl_text.specs.declared.Refusal.TheVariants.{Fault, NoMemory}
use Rattle.lsl_lines.specs.Checks.{◌>>=◌, fault_unless}
use Rattle.lsl_lines.specs.Words.{Word, behind_quote, is_blank, text_of, words_of}
use Rattle.lsl_lines.specs.World.{fault_at}
use Rattle.lsl_lines.specs.declared.faults.FileFault.{FileFault}
use Rattle.lsl_lines.specs.declared.faults.FileKind.{FileKind}
use Rattle.lsl_lines.specs.declared.faults.FileKind.TheVariants.{BadLine}
use Rattle.lsl_lines.specs.declared.file.WorldFile.{WorldFile}

-- the code gives what the checks give, or runs out of memory
abbrev pub Gives : {A : Type 0} → Result A (Refusal FileKind) → Result A FileKind → Type 0
Gives (Ok x) checked = checked ≡ Ok x
Gives (Err (Fault kind)) checked = checked ≡ Err kind
Gives (Err NoMemory) checked = Unit {0}

-- the same where a contract sees the value by this view
abbrev pub GivesBy : {A B : Type 0} → (A → B) → Result A (Refusal FileKind) → Result B FileKind → Type 0
GivesBy view (Ok x) checked = checked ≡ Ok (view x)
GivesBy view (Err (Fault kind)) checked = checked ≡ Err kind
GivesBy view (Err NoMemory) checked = Unit {0}

-- this word, and then the words of the rest
abbrev pub ahead : Word → List ℕ → Result (List Word) FileKind
ahead word rest = words_of rest >>= λ words. Ok (word ∷ words)

-- the code gives the first word and what follows it
abbrev pub GivesWord : {A : Type 0} → (A → Word × List ℕ) → Result A (Refusal FileKind)
    → Result (List Word) FileKind → Type 0
GivesWord view (Ok x) words = words ≡ ahead (view x).0 (view x).1
GivesWord view (Err (Fault kind)) words = words ≡ Err kind
GivesWord view (Err NoMemory) words = Unit {0}

-- the words from a quoted one on, given the bytes before its second quote
abbrev pub closed_words : List ℕ → List ℕ → Result (List Word) FileKind
closed_words bytes line = text_of bytes >>= λ text. behind_quote text line

-- a line that may directly follow a quoted word
abbrev pub behind_of : List ℕ → Result (List ℕ) FileKind
behind_of [] = Ok []
behind_of (b ∷ line) = fault_unless (is_blank b) BadLine (Ok (b ∷ line))

-- the number, and 4294967296000 for every greater one
abbrev pub capped : Result ℕ FileKind → Result ℕ FileKind
capped (Ok n) = Ok (min n 4294967296000)
capped (Err kind) = Err kind

-- the code's test: it continues where the test holds, and has this fault elsewhere
abbrev pub Tests : {A : Type 0} → Result A (Refusal FileKind) → Bool → FileKind → Type 0
Tests (Ok x) test kind = test ≡ true
Tests (Err (Fault found)) test kind = (test ≡ false) × (found ≡ kind)
Tests (Err NoMemory) test kind = ⊥

-- the code makes what the checks give, or has their fault, or runs out of memory
abbrev pub Makes : {A B : Type 0} → Result A (Refusal FileKind) → B → Result B FileKind → Type 0
Makes (Ok x) made checked = checked ≡ Ok made
Makes (Err (Fault kind)) made checked = checked ≡ Err kind
Makes (Err NoMemory) made checked = Unit {0}

abbrev pub is_in_word : ℕ → Bool
is_in_word b = not (is_blank b)

-- a byte that needs no escape between quotes
abbrev pub is_verbatim : ℕ → Bool
is_verbatim b = not (b == 34 || b == 92)

abbrev pub is_in_line : ℕ → Bool
is_in_line b = not (b == 10)

-- the line without the carriage return at its end
abbrev pub without_return : List ℕ → List ℕ
without_return [] = []
without_return (b ∷ []) = cond (b == 13) [] (b ∷ [])
without_return (b ∷ c ∷ line) = b ∷ without_return (c ∷ line)

abbrev pub refusal_at : ℕ → Refusal FileKind → Refusal FileFault
refusal_at line (Fault kind) = Fault (fault_at line kind)
refusal_at line NoMemory = NoMemory

-- the code gives what the definition gives for a file, or runs out of memory
abbrev pub GivesFile : Result WorldFile (Refusal FileFault) → Result WorldFile FileFault → Type 0
GivesFile (Ok file) found = found ≡ Ok file
GivesFile (Err (Fault fault)) found = found ≡ Err fault
GivesFile (Err NoMemory) found = Unit {0}
