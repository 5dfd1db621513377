-- A text has one list of tokens or one first fault.
use Rattle.std.proofs.Common.{◌≡◌, ℕ, ◌<◌, ◌≤◌, ◌⊎◌, inl, inr, List, [], length, take, Result, Ok, Err, refl, sym, ap, ◌∙◌, subst, arith}
use Rattle.std.proofs.lemmas.Bool.{cases_lt}
use Rattle.std.proofs.lemmas.List.{take_all}
use Rattle.std.specs.Prelude.{IfOk, IfErr, MatchResult}
use Rattle.std.specs.Str.{IsUtf8, IsValidUpTo}
use Rattle.lsl_text.specs.Place.{span_of}
use Rattle.lsl_text.specs.declared.Refusal.{Refusal}
use Rattle.lsl_text.specs.declared.Refusal.TheVariants.{Fault, NoMemory}
use Rattle.lsl_lex.specs.Fault.{Case}
use Rattle.lsl_lex.specs.Limits.{source_bytes}
use Rattle.lsl_lex.specs.Lexed.{Lexes, NoneBefore, StopsAt, IsFirstFault, LexFirst, IsRefused}
use Rattle.lsl_lex.specs.Pieces.{Cuts}
use Rattle.lsl_lex.specs.declared.faults.LexFault.{LexFault}
use Rattle.lsl_lex.specs.declared.faults.LexKind.{LexKind}
use Rattle.lsl_lex.specs.declared.faults.LexKind.TheVariants.{NotText, StringEnd, CommentEnd, FloatLiteral, StrayCharacter, TextTooLong}
use Rattle.lsl_lex.specs.declared.token_types.Token.{Token}
use Rattle.lsl_lex.specs.declared.token_types.Tokens.{Tokens}
use Rattle.lsl_lex.proofs.Unique.{same_case}
use Rattle.lsl_lex.proofs.OneCut.{same_cut, same_count, no_case_inside}

pub same_tokens : (text : List ℕ) (a b : Tokens) → Lexes text a → Lexes text b → a ≡ b
same_tokens text a b h k =
    let (n, d, c) = h.cut in
    let (m, x, e) = k.cut in
    let count : n ≡ m = same_count n m [] text a.list b.list d x c e in
    let D : ℕ → Type 0 = λ i. Cuts i [] text b.list x [] in
    let same = same_cut n [] text a.list b.list d x [] [] c (subst D (sym count) e) in
    ap (λ l. record { list = l; end = a.end }) same.0 ∙ ap (λ s. record { list = b.list; end = s }) (h.end ∙ sym k.end)

-- what the three kinds of first faults say
data First (text : List ℕ) (kind : LexKind) (front : List ℕ) : Type 0 where
  long : kind ≡ TextTooLong → source_bytes < length text → front ≡ [] → First text kind front
  broken : (n : ℕ) → kind ≡ NotText → length text ≤ source_bytes → IsValidUpTo text n → front ≡ take n text
      → First text kind front
  stopped : StopsAt text kind front → First text kind front

first_of : (text : List ℕ) (kind : LexKind) (front : List ℕ) → IsFirstFault text kind front → First text kind front
first_of text TextTooLong front h = long refl h.0 h.1
first_of text NotText front (short, n, valid, e) = broken n refl short valid e
first_of text StringEnd front h = stopped h
first_of text CommentEnd front h = stopped h
first_of text FloatLiteral front h = stopped h
first_of text StrayCharacter front h = stopped h

same_stop : (text : List ℕ) (k l : LexKind) (front back : List ℕ) → StopsAt text k front → StopsAt text l back
    → (k ≡ l) × (front ≡ back)
same_stop text k l front back h i = go h.cut i.cut
  where
    go : (n : ℕ) × (ts : List Token) × (rest : List ℕ) × Cuts n [] text ts front rest × Case rest k
        × NoneBefore n text → (m : ℕ) × (us : List Token) × (left : List ℕ) × Cuts m [] text us back left
        × Case left l × NoneBefore m text → (k ≡ l) × (front ≡ back)
    go (n, ts, rest, c, case, none) (m, us, left, d, other, none') = at (cases_lt n m) (cases_lt m n)
      where
        at : (n < m) ⊎ (m ≤ n) → (m < n) ⊎ (n ≤ m) → (k ≡ l) × (front ≡ back)
        at (inl e) f = absurd (none' n ts front rest k e c case)
        at (inr e) (inl f) = absurd (none m us back left l f d other)
        at (inr e) (inr f) =
            let count : m ≡ n = omega arith in
            let D : ℕ → Type 0 = λ i. Cuts i [] text us back left in
            let same = same_cut n [] text ts us front back rest left c (subst D count d) in
            let C : List ℕ → Type 0 = λ r. Case r l in
            (same_case rest k l case (subst C (sym same.2) other), same.1)

not_valid : (text : List ℕ) (n : ℕ) → IsValidUpTo text n → IsUtf8 text → ⊥
not_valid text n h valid = h.longest (length text) h.short
    (subst IsUtf8 (sym (take_all (length text) text (omega arith))) valid)

same_valid : (text : List ℕ) (n m : ℕ) → IsValidUpTo text n → IsValidUpTo text m → n ≡ m
same_valid text n m h k = go (cases_lt n m) (cases_lt m n)
  where
    go : (n < m) ⊎ (m ≤ n) → (m < n) ⊎ (n ≤ m) → n ≡ m
    go (inl e) f = absurd (h.longest m e k.front)
    go (inr e) (inl f) = absurd (k.longest n f h.front)
    go (inr e) (inr f) = omega arith

same_first : (text : List ℕ) (k l : LexKind) (front back : List ℕ) → First text k front → First text l back
    → (k ≡ l) × (front ≡ back)
same_first text k l front back (long e s f) (long e' s' f') = (e ∙ sym e', f ∙ sym f')
same_first text k l front back (long e s f) (broken m e' s' v' f') = absurd (omega arith)
same_first text k l front back (long e s f) (stopped h) = absurd (let short = h.source.short in omega arith)
same_first text k l front back (broken n e s v f) (long e' s' f') = absurd (omega arith)
same_first text k l front back (broken n e s v f) (broken m e' s' v' f') =
    (e ∙ sym e', f ∙ ap (λ i. take i text) (same_valid text n m v v') ∙ sym f')
same_first text k l front back (broken n e s v f) (stopped h) = absurd (not_valid text n v h.source.valid)
same_first text k l front back (stopped h) (long e' s' f') = absurd (let short = h.source.short in omega arith)
same_first text k l front back (stopped h) (broken m e' s' v' f') = absurd (not_valid text m v' h.source.valid)
same_first text k l front back (stopped h) (stopped i) = same_stop text k l front back h i

pub same_fault : (text : List ℕ) (a b : LexFault) → LexFirst text a → LexFirst text b → a ≡ b
same_fault text a b (front, h, e) (back, k, f) =
    let same = same_first text a.kind b.kind front back (first_of text a.kind front h) (first_of text b.kind back k) in
    ap (λ z. record { kind = z; span = a.span }) same.0
    ∙ ap (λ z. record { kind = b.kind; span = z }) (e ∙ ap (λ l. span_of l []) same.1 ∙ sym f)

-- a text that is cut to its end has no fault
pub no_fault : (text : List ℕ) (tokens : Tokens) (fault : LexFault) → Lexes text tokens → LexFirst text fault → ⊥
no_fault text tokens fault h (front, k, f) = go (first_of text fault.kind front k)
  where
    stop : (n : ℕ) × (done : List ℕ) × Cuts n [] text tokens.list done [] → (m : ℕ) × (us : List Token)
        × (rest : List ℕ) × Cuts m [] text us front rest × Case rest fault.kind × NoneBefore m text → ⊥
    stop (n, d, whole) (m, us, rest, c, case, none) =
        no_case_inside n m [] text tokens.list us d front rest fault.kind whole c case

    go : First text fault.kind front → ⊥
    go (long e s g) = let short = h.source.short in omega arith
    go (broken n e s v g) = not_valid text n v h.source.valid
    go (stopped i) = stop h.cut i.cut

-- so whatever is found is all there is
pub every_found : (text : List ℕ) (r : Result Tokens (Refusal LexFault)) → IfOk r (Lexes text)
    → IfErr r (IsRefused text) → (tokens : Tokens) → Lexes text tokens
    → MatchResult r (λ found. found ≡ tokens) (λ refusal. refusal ≡ NoMemory)
every_found text (Ok found) ok err tokens h = same_tokens text found tokens ok h
every_found text (Err (Fault fault)) ok err tokens h = absurd (no_fault text tokens fault h err)
every_found text (Err NoMemory) ok err tokens h = refl

pub only_first : (text : List ℕ) (r : Result Tokens (Refusal LexFault)) → IfOk r (Lexes text)
    → IfErr r (IsRefused text) → (fault : LexFault) → LexFirst text fault
    → MatchResult r (λ _. ⊥) (λ refusal. (refusal ≡ Fault fault) ⊎ (refusal ≡ NoMemory))
only_first text (Ok found) ok err fault h = no_fault text found fault ok h
only_first text (Err (Fault first)) ok err fault h = inl (ap (λ z. Fault z) (same_fault text first fault err h))
only_first text (Err NoMemory) ok err fault h = inr refl

pub not_text_first : (text : List ℕ) (n : ℕ) (fault : LexFault) → length text ≤ source_bytes
    → IsValidUpTo text n → fault.kind ≡ NotText → fault.span ≡ span_of (take n text) [] → LexFirst text fault
not_text_first text n fault short valid kind span =
    let P : LexKind → Type 0 = λ k. IsFirstFault text k (take n text) in
    let first : IsFirstFault text NotText (take n text) = (short, n, valid, refl) in
    (take n text, subst P (sym kind) first, span)
