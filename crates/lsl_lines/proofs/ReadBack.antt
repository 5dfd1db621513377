-- A text that was written between quotes is read back.
use Rattle.std.proofs.Common.{◌≡◌, ℕ, ◌==◌, Bool, true, false, ◌||◌, if◌then◌else◌, List, [], ◌∷◌, ◌++◌, Result, Ok, refl, sym, ap, ◌∙◌, append_assoc, append-nil}
use Rattle.std.proofs.lemmas.Bool.{eqb-true}
use Rattle.std.specs.List.{flat_map}
use Rattle.std.specs.Str.{encode_utf8_all}
use Rattle.lsl_text.specs.Quoted.{escaped, quoted}
use Rattle.lsl_value.specs.Text.{IsText}
use Rattle.lsl_lines.specs.Checks.{◌>>=◌}
use Rattle.lsl_lines.specs.Words.{Quoted, Word, behind_quote, quoted_words, words_of}
use Rattle.lsl_lines.specs.declared.faults.FileKind.{FileKind}
use Rattle.lsl_lines.proofs.Texts.{text_of-text}

abbrev Words : Type 0
Words = Result (List Word) FileKind

-- one byte, as it is written, is read back
one_back : (b : ℕ) (front rest : List ℕ) → quoted_words front (escaped b ++ rest) ≡ quoted_words (front ++ b ∷ []) rest
one_back b front rest = go (b == 34) (b == 92) (b == 10) refl refl refl
  where
    go : (quote slash feed : Bool) → (b == 34) ≡ quote → (b == 92) ≡ slash → (b == 10) ≡ feed
        → quoted_words front ((if quote || slash then 92 ∷ b ∷ []
        else (if feed then 92 ∷ 110 ∷ [] else b ∷ [])) ++ rest) ≡ quoted_words (front ++ b ∷ []) rest
    go true slash feed q s f = rw q refl
    go false true feed q s f = rw (q, s) refl
    go false false true q s f = ap (λ (c : ℕ). quoted_words (front ++ c ∷ []) rest) (sym (eqb-true b 10 f))
    go false false false q s f = rw (q, s) refl

pub all_back : (bytes front rest : List ℕ) → quoted_words front (flat_map escaped bytes ++ rest)
    ≡ quoted_words (front ++ bytes) rest
all_back [] front rest = ap (λ (l : List ℕ). quoted_words l rest) (sym (append-nil front))
all_back (b ∷ bytes) front rest =
    ap (quoted_words front) (append_assoc (escaped b) (flat_map escaped bytes) rest)
    ∙ one_back b front (flat_map escaped bytes ++ rest)
    ∙ all_back bytes (front ++ b ∷ []) rest
    ∙ ap (λ (l : List ℕ). quoted_words l rest) (append_assoc front (b ∷ []) bytes)

pub read_back : (text : List ℕ) → IsText text → words_of (quoted (encode_utf8_all text)) ≡ Ok (Quoted text ∷ [])
read_back text h =
    all_back (encode_utf8_all text) [] (34 ∷ [])
    ∙ ap (λ (r : Result (List ℕ) FileKind). r >>= λ t. behind_quote t [])
    (text_of-text (encode_utf8_all text) text (record { spelled = refl; text = h }))
