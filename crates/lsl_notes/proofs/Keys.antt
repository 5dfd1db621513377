-- The bytes of a query's key, and what they are read back as.
use Rattle.std.proofs.Common.{◌≡◌, ◌∙◌, refl, sym, ap, ℕ, zero, suc, ◌<◌, ◌^◌, List, [], ◌∷◌, ◌++◌, length, take, drop, get_or, Option, Some, None, inl, arith, lit<}
use Rattle.std.specs.List.{All}
use Rattle.std.specs.Int.{to_be_bytes, from_be_bytes, bytes_high_first, byte_at, w16, w32}
use Rattle.std.specs.Str.{chars}
use Rattle.std.proofs.lemmas.List.Elements.{All-nil, All-cons, All-append}
use Rattle.std.proofs.lemmas.Nat.{from_be_bytes-to_be_bytes_2, from_be_bytes-to_be_bytes_4}
use Rattle.std.proofs.lemmas.Str.{chars-IsAscii}
use Rattle.uuid.specs.Text.{hyphenated_text, lower}
use Rattle.uuid.proofs.RoundTrips.{parses_hyphenated_text}
use Rattle.uuid.proofs.TextLemmas.{hyphenated_ascii}
use Rattle.lsl_notes.specs.Laws.{IsQuery, FitsLine}
use Rattle.lsl_notes.specs.Queries.{kind_bytes, line_asked, query_bytes, query_of}

byte-small : (k n : ℕ) → byte_at k n < 256
byte-small zero n = omega arith
byte-small (suc k) n = omega arith

bytes-small : (k n : ℕ) → All (λ b. b < 256) (bytes_high_first k n)
bytes-small zero n = All-nil (λ b. b < 256)
bytes-small (suc k) n = All-cons (λ b. b < 256) (byte_at k n) (bytes_high_first k n) (byte-small k n)
    (bytes-small k n)

kind-small : (line : Option ℕ) → All (λ b. b < 256) (kind_bytes line)
kind-small (Some line) =
    All-cons (λ b. b < 256) 128 (0 ∷ []) (lit< tt) (All-cons (λ b. b < 256) 0 [] (lit< tt)
    (All-nil (λ b. b < 256)))
kind-small None =
    All-cons (λ b. b < 256) 143 (255 ∷ []) (lit< tt) (All-cons (λ b. b < 256) 255 [] (lit< tt)
    (All-nil (λ b. b < 256)))

middle-small : All (λ b. b < 256) (0 ∷ 0 ∷ 64 ∷ 0 ∷ [])
middle-small =
    All-cons (λ b. b < 256) 0 (0 ∷ 64 ∷ 0 ∷ []) (lit< tt) (All-cons (λ b. b < 256) 0 (64 ∷ 0 ∷ []) (lit< tt)
    (All-cons (λ b. b < 256) 64 (0 ∷ []) (lit< tt) (All-cons (λ b. b < 256) 0 [] (lit< tt)
    (All-nil (λ b. b < 256)))))

all-small : (script card : ℕ) (line : Option ℕ) → All (λ b. b < 256) (query_bytes script card line)
all-small script card line =
    let s = to_be_bytes w32 script in
    let m : List ℕ = 0 ∷ 0 ∷ 64 ∷ 0 ∷ [] in
    let k = kind_bytes line in
    let n = to_be_bytes w16 card in
    let front = All-append (λ b. b < 256) s m (bytes-small 4 script) middle-small in
    let kinds = All-append (λ b. b < 256) (s ++ m) k front (kind-small line) in
    let cards = All-append (λ b. b < 256) (s ++ m ++ k) n kinds (bytes-small 2 card) in
    All-append (λ b. b < 256) (s ++ m ++ k ++ n) (to_be_bytes w32 (line_asked line)) cards
    (bytes-small 4 (line_asked line))

sixteen : (script card : ℕ) (line : Option ℕ) → length (query_bytes script card line) ≡ 16
sixteen script card (Some line) = refl
sixteen script card None = refl

-- equal texts are of equal bytes
same-bytes : (a b : List ℕ) → length a ≡ 16 → length b ≡ 16 → All (λ x. x < 256) a → All (λ x. x < 256) b
    → hyphenated_text lower a ≡ hyphenated_text lower b → a ≡ b
same-bytes a b m n small also e =
    let first = parses_hyphenated_text lower a (inl refl) m small in
    let second = parses_hyphenated_text lower b (inl refl) n also in
    cc

pub queries-differ : (script other card second : ℕ) (line more : Option ℕ) → IsQuery script card line
    → IsQuery other second more → query_of script card line ≡ query_of other second more
    → (script ≡ other) × (card ≡ second) × (line ≡ more)
queries-differ script other card second line more q r e =
    parts line more q.asked r.asked
    (same-bytes (query_bytes script card line) (query_bytes other second more) (sixteen script card line)
    (sixteen other second more) (all-small script card line) (all-small other second more) e)
  where
    scripts : (bs cs : List ℕ) → take 4 bs ≡ to_be_bytes w32 script → take 4 cs ≡ to_be_bytes w32 other
        → bs ≡ cs → script ≡ other
    scripts bs cs a b same =
        sym (from_be_bytes-to_be_bytes_4 script q.by) ∙ ap (from_be_bytes w32) (sym a ∙ ap (take 4) same ∙ b)
        ∙ from_be_bytes-to_be_bytes_4 other r.by

    cards : (bs cs : List ℕ) → take 2 (drop 10 bs) ≡ to_be_bytes w16 card
        → take 2 (drop 10 cs) ≡ to_be_bytes w16 second → bs ≡ cs → card ≡ second
    cards bs cs a b same =
        sym (from_be_bytes-to_be_bytes_2 card q.of)
        ∙ ap (from_be_bytes w16) (sym a ∙ ap (λ xs. take 2 (drop 10 xs)) same ∙ b)
        ∙ from_be_bytes-to_be_bytes_2 second r.of

    lines : (m n : ℕ) (bs cs : List ℕ) → m < 2 ^ 32 → n < 2 ^ 32 → drop 12 bs ≡ to_be_bytes w32 m
        → drop 12 cs ≡ to_be_bytes w32 n → bs ≡ cs → m ≡ n
    lines m n bs cs f g a b same =
        sym (from_be_bytes-to_be_bytes_4 m f) ∙ ap (from_be_bytes w32) (sym a ∙ ap (drop 12) same ∙ b)
        ∙ from_be_bytes-to_be_bytes_4 n g

    parts : (l m : Option ℕ) → FitsLine l → FitsLine m → query_bytes script card l ≡ query_bytes other second m
        → (script ≡ other) × (card ≡ second) × (l ≡ m)
    parts (Some i) (Some j) f g same =
        (scripts _ _ refl refl same, cards _ _ refl refl same, ap Some (lines i j _ _ f g refl refl same))
    parts (Some i) None f g same = absurd (omega (arith, ap (λ bs. get_or bs 8 0) same))
    parts None (Some j) f g same = absurd (omega (arith, ap (λ bs. get_or bs 8 0) same))
    parts None None f g same = (scripts _ _ refl refl same, cards _ _ refl refl same, refl)

-- a key's characters are its bytes
pub key-characters : (bytes : List ℕ) → chars (hyphenated_text lower bytes) ≡ hyphenated_text lower bytes
key-characters bytes = chars-IsAscii (hyphenated_text lower bytes) (hyphenated_ascii lower bytes (inl refl))
