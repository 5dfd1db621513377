-- A text that is being cut: what is done, and what is left.
use Rattle.std.proofs.Common.{◌≡◌, ℕ, zero, suc, ◌+◌, ◌<◌, List, [], ◌∷◌, ◌++◌, length, take, drop, Option, Ok, Err, refl, sym, ap, ◌∙◌, subst, arith, append_assoc, append-nil, length-drop, ◌⊎◌, inl, inr, ◌≤◌, None, true}
use Rattle.std.proofs.lemmas.Bool.{cases_lt}
use Rattle.std.proofs.lemmas.List.{take-append-drop, drop-drop, length-take-le, take_all}
use Rattle.std.proofs.Math.Seq.{take-add}
use Rattle.std.specs.Str.{IsUtf8}
use Rattle.std.specs.Prelude.{slice_index}
use Rattle.lsl_text.specs.Number.{is_blank}
use Rattle.lsl_text.specs.Place.{IsAt, IsBehind, line_behind, span_of}
use Rattle.lsl_text.specs.declared.Span.{Span}
use Rattle.lsl_text.specs.declared.cursor.Cursor.{Cursor}
use Rattle.lsl_text.specs.declared.Refusal.{Refusal}
use Rattle.lsl_text.specs.declared.Refusal.TheVariants.{Fault, NoMemory}
use Rattle.lsl_lex.specs.Fault.{Case}
use Rattle.lsl_lex.specs.Lexed.{IsSource, EndsText, Lexes, NoneBefore, StopsAt, IsFirstFault, LexFirst, IsRefused}
use Rattle.lsl_lex.specs.Pieces.{IsPiece, token_of, Cuts}
use Rattle.lsl_lex.specs.Reading.{Finds, fault_of, refusal_of, piece}
use Rattle.lsl_lex.specs.declared.faults.LexKind.{LexKind}
use Rattle.lsl_lex.specs.declared.faults.LexKind.TheVariants.{NotText, StringEnd, CommentEnd, FloatLiteral, StrayCharacter, TextTooLong}
use Rattle.lsl_lex.specs.declared.piece.Piece.{Piece}
use Rattle.lsl_lex.specs.declared.token_types.Sort.{Sort}
use Rattle.lsl_lex.specs.declared.token_types.Token.{Token}
use Rattle.lsl_lex.specs.declared.token_types.Tokens.{Tokens}
use Rattle.lsl_lex.proofs.Found.{Clear, Right}
use Rattle.lsl_lex.proofs.FoundPiece.{piece_right}
use Rattle.lsl_lex.proofs.OneCut.{same_cut}

-- ---- spans

abbrev pub span_from : Cursor → Cursor → Span
span_from from to = record { start = from.offset; end = to.offset; line = from.line; col = from.col }

span_same : (front part : List ℕ) (from to : Cursor) → IsBehind front from → to.offset ≡ length (front ++ part)
    → span_from from to ≡ span_of front part
span_same front part from to h e =
    ap (λ n. record { start = n; end = to.offset; line = from.line; col = from.col }) h.offset
    ∙ ap (λ n. record { start = length front; end = n; line = from.line; col = from.col }) e
    ∙ ap (λ n. record { start = length front; end = length (front ++ part); line = n; col = from.col }) h.line
    ∙ ap (λ n. record { start = length front; end = length (front ++ part); line = line_behind front; col = n }) h.col

pub empty_span : (front : List ℕ) (cursor : Cursor) → IsBehind front cursor → span_from cursor cursor ≡ span_of front []
empty_span front cursor h = span_same front [] cursor cursor h (h.offset ∙ ap length (sym (append-nil front)))

-- ---- one piece more

pub cuts_more : (n : ℕ) (front text : List ℕ) (ts : List Token) (done rest : List ℕ) (g : Option Sort)
    (p a : List ℕ) → Cuts n front text ts done rest → IsPiece rest g p a
    → Cuts (suc n) front text (ts ++ token_of g (span_of done p)) (done ++ p) a
cuts_more zero front text ts done rest g p a (e1, e2, e3) h =
    let P : List ℕ → Type 0 = λ l. IsPiece l g p a in
    let tokens : ts ++ token_of g (span_of done p) ≡ token_of g (span_of front p) ++ [] =
    ap (λ l. l ++ token_of g (span_of done p)) e1 ∙ ap (λ l. token_of g (span_of l p)) e2
    ∙ sym (append-nil (token_of g (span_of front p))) in
    (g, p, a, [], subst P e3 h, tokens, (refl, ap (λ l. l ++ p) e2, refl))
cuts_more (suc n) front text ts done rest g p a (g', p', a', more, k, e, c) h =
    let tokens : ts ++ token_of g (span_of done p)
    ≡ token_of g' (span_of front p') ++ (more ++ token_of g (span_of done p)) =
    ap (λ l. l ++ token_of g (span_of done p)) e
    ∙ append_assoc (token_of g' (span_of front p')) more (token_of g (span_of done p)) in
    (g', p', a', more ++ token_of g (span_of done p), k, tokens, cuts_more n (front ++ p') a' more done rest g p a c h)

pub record Cutting (text rest : List ℕ) (tokens : List Token) (cursor : Cursor) : Type 0 where
  pub place : IsAt text cursor
  pub left : rest ≡ drop cursor.offset text
  pub cut : (n : ℕ) × Cuts n [] text tokens (take cursor.offset text) rest × NoneBefore n text

pub cutting_begun : (text : List ℕ) (cursor : Cursor) → IsAt text cursor → cursor.offset ≡ 0
    → Cutting text text [] cursor
cutting_begun text cursor place e =
    record {
      place = place;
      left = ap (λ n. drop n text) (sym e);
      cut =
          (0, (refl, ap (λ n. take n text) e, refl), λ m ts front rest kind lt c h. omega arith);
    }

pub rest_within : (text rest : List ℕ) (tokens : List Token) (cursor : Cursor) → Cutting text rest tokens cursor
    → cursor.offset + length rest ≡ length text
rest_within text rest tokens cursor h =
    let within = h.place.within in
    omega (arith, ap length h.left, length-drop cursor.offset text, within)

pub rest_valid : (text rest : List ℕ) (tokens : List Token) (cursor : Cursor) → IsSource text
    → Cutting text rest tokens cursor → EndsText rest
rest_valid text rest tokens cursor source h =
    let same : text ≡ take cursor.offset text ++ rest =
    sym (take-append-drop cursor.offset text) ∙ ap (λ l. take cursor.offset text ++ l) (sym h.left) in
    (take cursor.offset text, subst IsUtf8 same source.valid)

-- no fault is at the place where n pieces are cut, nor before
none_more : (text : List ℕ) (n : ℕ) (ts : List Token) (front rest : List ℕ) → Cuts n [] text ts front rest
    → NoneBefore n text → Clear rest → NoneBefore (suc n) text
none_more text n ts front rest c none clear m us done left kind lt d h = go (cases_lt m n)
  where
    go : (m < n) ⊎ (n ≤ m) → ⊥
    go (inl before) = none m us done left kind before d h
    go (inr late) =
        let here : m ≡ n = omega arith in
        let D : ℕ → Type 0 = λ i. Cuts i [] text us done left in
        let same = same_cut n [] text ts us front done rest left c (subst D here d) in
        let C : List ℕ → Type 0 = λ l. Case l kind in
        clear kind (subst C (sym same.2) h)

pub cutting_more : (text rest rest' : List ℕ) (ts ts' : List Token) (from to : Cursor) (g : Option Sort) (k : ℕ)
    → Cutting text rest ts from → Right rest (Ok (g, k)) → to.offset ≡ from.offset + k → IsAt text to
    → rest' ≡ drop k rest → ts' ≡ ts ++ token_of g (span_from from to) → Cutting text rest' ts' to
cutting_more text rest rest' ts ts' from to g k h right e place f tokens =
    let front = take from.offset text in
    let part = take k rest in
    let within = rest_within text rest ts from h in
    let done : front ++ part ≡ take to.offset text =
    ap (λ l. front ++ take k l) h.left ∙ sym (take-add from.offset k text) ∙ ap (λ n. take n text) (sym e) in
    let size : length (take to.offset text) ≡ to.offset = length-take-le to.offset text place.within in
    let span : span_from from to ≡ span_of front part =
    span_same front part from to h.place.behind (sym size ∙ ap length (sym done)) in
    let all : ts' ≡ ts ++ token_of g (span_of front part) = tokens ∙ ap (λ s. ts ++ token_of g s) span in
    let (n, cuts, none) = h.cut in
    let more = cuts_more n [] text ts front rest g part (drop k rest) cuts right.2 in
    let P : List ℕ → Type 0 = λ l. Cuts (suc n) [] text (ts ++ token_of g (span_of front part)) l (drop k rest) in
    let Q : List ℕ → Type 0 = λ l. Cuts (suc n) [] text (ts ++ token_of g (span_of front part))
    (take to.offset text) l in
    let R : List Token → Type 0 = λ l. Cuts (suc n) [] text l (take to.offset text) rest' in
    record {
      place = place;
      left = f ∙ ap (drop k) h.left ∙ drop-drop k from.offset text ∙ ap (λ n. drop n text) (sym e);
      cut = (
        suc n,
        subst R (sym all) (subst Q (sym f) (subst P done more)),
        none_more text n ts front rest cuts
            none right.3,
      );
    }

-- ---- the end, and a fault

first_fault : (text : List ℕ) (kind : LexKind) (front rest : List ℕ) → StopsAt text kind front → Case rest kind
    → IsFirstFault text kind front
first_fault text NotText front rest s h = absurd h
first_fault text TextTooLong front rest s h = absurd h
first_fault text StringEnd front rest s h = s
first_fault text CommentEnd front rest s h = s
first_fault text FloatLiteral front rest s h = s
first_fault text StrayCharacter front rest s h = s

fault_first : (text rest : List ℕ) (ts : List Token) (cursor : Cursor) (kind : LexKind) → IsSource text
    → Cutting text rest ts cursor → Case rest kind → LexFirst text (fault_of kind cursor)
fault_first text rest ts cursor kind source h c =
    let (n, cuts, none) = h.cut in
    let stops : StopsAt text kind (take cursor.offset text) =
    record { source = source; cut = (n, ts, rest, cuts, c, none) } in (
      take cursor.offset text,
      first_fault text kind (take cursor.offset text) rest stops c,
      empty_span
          (take cursor.offset text) cursor h.place.behind,
    )

-- what the next piece says
pub found_right : (rest : List ℕ) (p : Piece) → 0 < length rest → piece rest ≡ Ok (p.gives, p.length)
    → Right rest (Ok (p.gives, p.length))
found_right rest p some e = subst (Right rest) e (piece_right rest some)

-- a blank at the front is a piece
pub blank_right : (rest : List ℕ) → 0 < length rest → is_blank (slice_index rest 0) ≡ true → Right rest (Ok (None, 1))
unfolding piece
blank_right rest some b = let e : piece rest ≡ Ok (None, 1) = rw b refl in subst (Right rest) e (piece_right rest some)

pub refused_first : (text rest : List ℕ) (ts : List Token) (cursor : Cursor) (refusal : Refusal LexKind)
    → IsSource text → 0 < length rest → Cutting text rest ts cursor → Finds (Err refusal) (piece rest)
    → IsRefused text (refusal_of cursor refusal)
refused_first text rest ts cursor (Fault kind) source some h e =
    fault_first text rest ts cursor kind source h (subst (Right rest) e (piece_right rest some))
refused_first text rest ts cursor NoMemory source some h e = tt

pub all_cut : (text rest : List ℕ) (tokens : Tokens) (cursor : Cursor) → IsSource text
    → Cutting text rest tokens.list cursor → length rest ≡ 0 → tokens.end ≡ span_from cursor cursor
    → Lexes text tokens
all_cut text rest tokens cursor source h e f =
    let (n, cuts, none_before) = h.cut in
    let within = rest_within text rest tokens.list cursor h in
    let empty : rest ≡ [] = none rest e in
    let whole : take cursor.offset text ≡ text = take_all cursor.offset text (omega (arith, within, e)) in
    let P : List ℕ → Type 0 = λ l. Cuts n [] text tokens.list (take cursor.offset text) l in
    record {
      source = source;
      cut = (n, take cursor.offset text, subst P empty cuts);
      end =
          f ∙ empty_span (take cursor.offset text) cursor h.place.behind ∙ ap (λ l. span_of l []) whole;
    }
  where
    none : (l : List ℕ) → length l ≡ 0 → l ≡ []
    none [] e = refl
    none (b ∷ l) e = absurd (omega (arith, e))
