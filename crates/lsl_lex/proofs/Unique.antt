-- At the front of a text is at most one piece, and at most one fault.
use Rattle.std.proofs.Common.{◌≡◌, ℕ, ◌+◌, ◌<◌, true, false, ◌⊎◌, inl, inr, List, [], ◌∷◌, ◌++◌, length, take, drop, Option, Some, None, refl, sym, ap, ◌∙◌, arith, append_assoc, length-append}
use Rattle.std.proofs.lemmas.List.{append_cancel_left}
use Rattle.std.proofs.lemmas.List.Sums.{list_all-from_AllPass}
use Rattle.std.proofs.Math.Seq.{take-append_seam}
use Rattle.std.specs.List.{prefix_len}
use Rattle.lsl_text.specs.Number.{is_blank}
use Rattle.lsl_lex.specs.Bytes.{is_decimal, is_in_line}
use Rattle.lsl_lex.specs.Fault.{OpensComment, IsOpenString, IsOpenComment, IsFloat, Case}
use Rattle.lsl_lex.specs.Pieces.{IsBlank, IsBlockComment, IsLineComment, Gives, IsPiece}
use Rattle.lsl_lex.specs.Reading.{close_of}
use Rattle.lsl_lex.specs.declared.faults.LexKind.{LexKind}
use Rattle.lsl_lex.specs.declared.faults.LexKind.TheVariants.{NotText, StringEnd, CommentEnd, FloatLiteral, StrayCharacter, TextTooLong}
use Rattle.lsl_lex.specs.declared.token_types.Sort.{Sort}
use Rattle.lsl_lex.proofs.ByteKinds.{blank_range, decimal_range}
use Rattle.lsl_lex.proofs.Runs.{Stops, prefix_len-exact, close_only, head}
use Rattle.lsl_lex.proofs.Spelled.{lead, lead-append, begins, begins_no_blank, not_empty, digits_lead, sort_of, sort_decided}

-- ---- fronts of one text

pub same_front : (text u a v b : List ℕ) → text ≡ u ++ a → text ≡ v ++ b → length u ≡ length v → u ≡ v
same_front text u a v b e f n =
    sym (take-append_seam u a) ∙ ap (take (length u)) (sym e ∙ f) ∙ ap (λ k. take k (v ++ b)) n ∙ take-append_seam v b

pub same_rest : (text u a b : List ℕ) → text ≡ u ++ a → text ≡ u ++ b → a ≡ b
same_rest text u a b e f = append_cancel_left u a b (sym e ∙ f)

-- ---- how a fault begins

pub string_lead : (text : List ℕ) → IsOpenString text → lead text ≡ 34
string_lead text (more, e, h) = ap lead e

pub comment_lead : (text : List ℕ) → IsOpenComment text → lead text ≡ 47
comment_lead text (more, e, h) = ap lead e

pub comment_opens : (text : List ℕ) → IsOpenComment text → OpensComment text
comment_opens text (more, e, h) = (42, more, e, inl refl)

pub opens_lead : (text : List ℕ) → OpensComment text → lead text ≡ 47
opens_lead text (b, more, e, h) = ap lead e

pub float_lead : (text : List ℕ) → IsFloat text → (is_decimal (lead text) ≡ true) ⊎ (lead text ≡ 46)
float_lead text (inl (digits, rest, e, h)) =
    inl (ap (λ l. is_decimal (lead l)) e ∙ ap is_decimal (lead-append digits (46 ∷ rest) h.some)
    ∙ digits_lead digits h)
float_lead text (inr (digit, rest, e, h)) = inr (ap lead e)

pub case_some : (text : List ℕ) (k : LexKind) → Case text k → 0 < length text
case_some text NotText h = absurd h
case_some text TextTooLong h = absurd h
case_some text StringEnd (more, e, h) = omega (arith, ap length e)
case_some text CommentEnd (more, e, h) = omega (arith, ap length e)
case_some text FloatLiteral (inl (digits, rest, e, h)) = omega (arith, ap length e, length-append digits (46 ∷ rest))
case_some text FloatLiteral (inr (digit, rest, e, h)) = omega (arith, ap length e)
case_some text StrayCharacter h = let (b, rest, e, f) = h.some in omega (arith, ap length e)

no_string_float : (text : List ℕ) → IsOpenString text → IsFloat text → ⊥
no_string_float text a b = go (string_lead text a) (float_lead text b)
  where
    go : lead text ≡ 34 → (is_decimal (lead text) ≡ true) ⊎ (lead text ≡ 46) → ⊥
    go e (inl f) = let r = decimal_range (lead text) f in omega (arith, r.0, e)
    go e (inr f) = omega (arith, e, f)

no_comment_float : (text : List ℕ) → OpensComment text → IsFloat text → ⊥
no_comment_float text a b = go (opens_lead text a) (float_lead text b)
  where
    go : lead text ≡ 47 → (is_decimal (lead text) ≡ true) ⊎ (lead text ≡ 46) → ⊥
    go e (inl f) = let r = decimal_range (lead text) f in omega (arith, r.0, e)
    go e (inr f) = omega (arith, e, f)

pub no_string_comment : (text : List ℕ) → IsOpenString text → OpensComment text → ⊥
no_string_comment text a b = let e = string_lead text a in let f = opens_lead text b in omega (arith, e, f)

pub same_case : (text : List ℕ) (k l : LexKind) → Case text k → Case text l → k ≡ l
same_case text NotText l a b = absurd a
same_case text TextTooLong l a b = absurd a
same_case text StringEnd NotText a b = absurd b
same_case text StringEnd TextTooLong a b = absurd b
same_case text StringEnd StringEnd a b = refl
same_case text StringEnd CommentEnd a b = absurd (no_string_comment text a (comment_opens text b))
same_case text StringEnd FloatLiteral a b = absurd (no_string_float text a b)
same_case text StringEnd StrayCharacter a b = absurd (b.no_string a)
same_case text CommentEnd NotText a b = absurd b
same_case text CommentEnd TextTooLong a b = absurd b
same_case text CommentEnd StringEnd a b = absurd (no_string_comment text b (comment_opens text a))
same_case text CommentEnd CommentEnd a b = refl
same_case text CommentEnd FloatLiteral a b = absurd (no_comment_float text (comment_opens text a) b)
same_case text CommentEnd StrayCharacter a b = absurd (b.no_comment (comment_opens text a))
same_case text FloatLiteral NotText a b = absurd b
same_case text FloatLiteral TextTooLong a b = absurd b
same_case text FloatLiteral StringEnd a b = absurd (no_string_float text b a)
same_case text FloatLiteral CommentEnd a b = absurd (no_comment_float text (comment_opens text b) a)
same_case text FloatLiteral FloatLiteral a b = refl
same_case text FloatLiteral StrayCharacter a b = absurd (b.no_float a)
same_case text StrayCharacter NotText a b = absurd b
same_case text StrayCharacter TextTooLong a b = absurd b
same_case text StrayCharacter StringEnd a b = absurd (a.no_string b)
same_case text StrayCharacter CommentEnd a b = absurd (a.no_comment (comment_opens text b))
same_case text StrayCharacter FloatLiteral a b = absurd (a.no_float b)
same_case text StrayCharacter StrayCharacter a b = refl

-- ---- pieces that give nothing

pub block_opens : (text part rest : List ℕ) → text ≡ part ++ rest → IsBlockComment part → OpensComment text
block_opens text part rest e (body, f, h) = (42, body ++ 42 ∷ 47 ∷ [] ++ rest, e ∙ ap (λ l. l ++ rest) f, inl refl)

pub line_opens : (text part rest : List ℕ) → text ≡ part ++ rest → IsLineComment part rest → OpensComment text
line_opens text part rest e (body, f, h, s) = (47, body ++ rest, e ∙ ap (λ l. l ++ rest) f, inr refl)

pub blank_lead : (text part rest : List ℕ) → text ≡ part ++ rest → IsBlank part → is_blank (lead text) ≡ true
blank_lead text part rest e (b, f, h) = ap (λ l. is_blank (lead l)) (e ∙ ap (λ l. l ++ rest) f) ∙ h

pub no_blank_comment : (text : List ℕ) → is_blank (lead text) ≡ true → OpensComment text → ⊥
no_blank_comment text e h = let r = blank_range (lead text) e in let f = opens_lead text h in omega (arith, r.1, f)

pub second_same : (text u v : List ℕ) (b c : ℕ) → text ≡ 47 ∷ b ∷ u → text ≡ 47 ∷ c ∷ v → b ≡ c
second_same text u v b c e f = ap (λ l. head (drop 1 l)) (sym e ∙ f)

pub block_text : (text part rest body : List ℕ) → text ≡ part ++ rest → part ≡ 47 ∷ 42 ∷ (body ++ 42 ∷ 47 ∷ [])
    → text ≡ 47 ∷ 42 ∷ (body ++ 42 ∷ 47 ∷ rest)
block_text text part rest body e f = e ∙ ap (λ l. l ++ rest) f
    ∙ ap (λ l. 47 ∷ 42 ∷ l) (append_assoc body (42 ∷ 47 ∷ []) rest)

pub line_text : (text part rest body : List ℕ) → text ≡ part ++ rest → part ≡ 47 ∷ 47 ∷ body
    → text ≡ 47 ∷ 47 ∷ (body ++ rest)
line_text text part rest body e f = e ∙ ap (λ l. l ++ rest) f

same_block : (text p a q b : List ℕ) → text ≡ p ++ a → text ≡ q ++ b → IsBlockComment p → IsBlockComment q → p ≡ q
same_block text p a q b e f (body, g, h) (body', g', h') =
    let one : close_of (drop 2 text) ≡ Some (length body + 2) =
    ap (λ l. close_of (drop 2 l)) (block_text text p a body e g) ∙ close_only body a h in
    let two : close_of (drop 2 text) ≡ Some (length body' + 2) =
    ap (λ l. close_of (drop 2 l)) (block_text text q b body' f g') ∙ close_only body' b h' in
    let both : ◌≡◌ {A = Option ℕ} (Some (length body + 2)) (Some (length body' + 2)) = sym one ∙ two in
    let same : length body + 2 ≡ length body' + 2 = cc in
    same_front text p a q b e f (omega (
      arith,
      ap length g,
      ap length g',
      length-append body
          (42 ∷ 47 ∷ []),
      length-append body' (42 ∷ 47 ∷ []),
      same,
    ))

line_stops : (rest : List ℕ) → (rest ≡ []) ⊎ ((more : List ℕ) × (rest ≡ 10 ∷ more)) → Stops is_in_line rest
line_stops rest (inl e) = inl e
line_stops rest (inr (more, e)) = inr (10, more, e, refl)

same_line : (text p a q b : List ℕ) → text ≡ p ++ a → text ≡ q ++ b → IsLineComment p a → IsLineComment q b → p ≡ q
same_line text p a q b e f (body, g, h, s) (body', g', h', s') =
    let one : prefix_len is_in_line (drop 2 text) ≡ length body =
    ap (λ l. prefix_len is_in_line (drop 2 l)) (line_text text p a body e g)
    ∙ prefix_len-exact is_in_line body a (list_all-from_AllPass is_in_line body h) (line_stops a s) in
    let two : prefix_len is_in_line (drop 2 text) ≡ length body' =
    ap (λ l. prefix_len is_in_line (drop 2 l)) (line_text text q b body' f g')
    ∙ prefix_len-exact is_in_line body' b (list_all-from_AllPass is_in_line body' h') (line_stops b s') in
    same_front text p a q b e f (omega (arith, ap length g, ap length g', one, two))

no_block_line : (text p a q b : List ℕ) → text ≡ p ++ a → text ≡ q ++ b → IsBlockComment p → IsLineComment q b → ⊥
no_block_line text p a q b e f (body, g, h) (body', g', h', s) =
    let same = second_same text (body ++ 42 ∷ 47 ∷ a) (body' ++ b) 42 47 (block_text text p a body e g)
    (line_text text q b body' f g') in
    omega (arith, same)

same_blank : (text p a q b : List ℕ) → text ≡ p ++ a → text ≡ q ++ b → IsBlank p → IsBlank q → p ≡ q
same_blank text p a q b e f (c, g, h) (d, g', h') = same_front text p a q b e f (ap length g ∙ sym (ap length g'))

same_nothing : (text p a q b : List ℕ) → text ≡ p ++ a → text ≡ q ++ b → Gives text None p a
    → Gives text None q b → p ≡ q
same_nothing text p a q b e f (inl g) (inl h) = same_blank text p a q b e f g h
same_nothing text p a q b e f (inl g) (inr (inl h)) =
    absurd (no_blank_comment text (blank_lead text p a e g) (block_opens text q b f h))
same_nothing text p a q b e f (inl g) (inr (inr h)) =
    absurd (no_blank_comment text (blank_lead text p a e g) (line_opens text q b f h))
same_nothing text p a q b e f (inr (inl g)) (inl h) =
    absurd (no_blank_comment text (blank_lead text q b f h) (block_opens text p a e g))
same_nothing text p a q b e f (inr (inr g)) (inl h) =
    absurd (no_blank_comment text (blank_lead text q b f h) (line_opens text p a e g))
same_nothing text p a q b e f (inr (inl g)) (inr (inl h)) = same_block text p a q b e f g h
same_nothing text p a q b e f (inr (inl g)) (inr (inr h)) = absurd (no_block_line text p a q b e f g h)
same_nothing text p a q b e f (inr (inr g)) (inr (inl h)) = absurd (no_block_line text q b p a f e h g)
same_nothing text p a q b e f (inr (inr g)) (inr (inr h)) = same_line text p a q b e f g h

-- a token is where nothing else is
no_nothing : (text p a q b : List ℕ) (s : Sort) → text ≡ p ++ a → text ≡ q ++ b → Gives text None p a
    → Gives text (Some s) q b → ⊥
no_nothing text p a q b s e f (inl g) h =
    let yes : is_blank (lead text) ≡ true = blank_lead text p a e g in
    let no : is_blank (lead text) ≡ false =
    ap (λ l. is_blank (lead l)) f ∙ ap is_blank (lead-append q b (not_empty q s h.spells))
    ∙ begins_no_blank (lead q) (begins q s h.spells) in
    let both = sym yes ∙ no in cc
no_nothing text p a q b s e f (inr (inl g)) h = h.no_comment (block_opens text p a e g)
no_nothing text p a q b s e f (inr (inr g)) h = h.no_comment (line_opens text p a e g)

same_gives : (text p a q b : List ℕ) (g h : Option Sort) → text ≡ p ++ a → text ≡ q ++ b → Gives text g p a
    → Gives text h q b → (g ≡ h) × (p ≡ q)
same_gives text p a q b None None e f x y = (refl, same_nothing text p a q b e f x y)
same_gives text p a q b None (Some s) e f x y = absurd (no_nothing text p a q b s e f x y)
same_gives text p a q b (Some s) None e f x y = absurd (no_nothing text q b p a s f e y x)
same_gives text p a q b (Some s) (Some t) e f x y =
    let one = x.longest q b t f y.spells in
    let two = y.longest p a s e x.spells in
    let same : p ≡ q = same_front text p a q b e f (omega (arith, one, two)) in
    (ap (λ z. Some z) (sort_decided p s x.spells ∙ ap sort_of same ∙ sym (sort_decided q t y.spells)), same)

pub same_piece : (text p a q b : List ℕ) (g h : Option Sort) → IsPiece text g p a → IsPiece text h q b → (g ≡ h)
    × (p ≡ q) × (a ≡ b)
same_piece text p a q b g h x y =
    let same = same_gives text p a q b g h x.split y.split x.kind y.kind in
    (same.0, same.1, same_rest text p a b x.split (y.split ∙ ap (λ l. l ++ b) (sym same.1)))

part_some : (text p a : List ℕ) (g : Option Sort) → Gives text g p a → 0 < length p
part_some text p a None (inl (b, f, h)) = omega (arith, ap length f)
part_some text p a None (inr (inl (body, f, h))) = omega (arith, ap length f)
part_some text p a None (inr (inr (body, f, h, s))) = omega (arith, ap length f)
part_some text p a (Some s) h = not_empty p s h.spells

pub piece_some : (text p a : List ℕ) (g : Option Sort) → IsPiece text g p a → 0 < length text
piece_some text p a g h = let some = part_some text p a g h.kind in
    omega (arith, ap length h.split, length-append p a, some)
