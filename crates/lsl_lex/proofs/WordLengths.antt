-- A word is looked up among the words of its length.
use Rattle.std.proofs.Common.{◌≡◌, ℕ, ◌==◌, Bool, true, false, cond, List, [], ◌∷◌, length, Some, refl, sym, ap, ◌∙◌}
use Rattle.std.proofs.lemmas.Slice.Eq.{text_from_reads, HasBytesAt}
use Rattle.std.specs.Prelude.{bytes_eq}
use Rattle.std.specs.Cmp.Lexicographic.{bytes_decides}
use Rattle.lsl_lex.specs.Reading.{row_of, rows_of, words_of}
use Rattle.lsl_lex.specs.Tokens.{words}
use Rattle.lsl_lex.proofs.ByteKinds.{false_by, not_eq}
use Rattle.lsl_lex.proofs.Rows.{Row}

-- the rows of a spelling's length are all that it may be
row_of-rows_of : (n : ℕ) (rows : List Row) (u : List ℕ) → n ≡ length u → row_of rows u ≡ row_of (rows_of n rows) u
row_of-rows_of n [] u e = refl
row_of-rows_of n (row ∷ rows) u e = go (length row.0 == n) refl (row_of-rows_of n rows u e)
  where
    go : (t : Bool) → (length row.0 == n) ≡ t → row_of rows u ≡ row_of (rows_of n rows) u
        → cond (bytes_eq u row.0) (Some row.1) (row_of rows u)
        ≡ row_of (cond t (row ∷ rows_of n rows) (rows_of n rows)) u
    go true h ih = ap (λ o. cond (bytes_eq u row.0) (Some row.1) o) ih
    go false h ih =
        let other : bytes_eq u row.0 ≡ false =
        false_by (bytes_eq u row.0)
        (λ b. not_eq (length row.0) n h (ap length (sym ((bytes_decides u row.0).0 b)) ∙ sym e)) in
        ap (λ t. cond t (Some row.1) (row_of rows u)) other ∙ ih

pub word_of_length : (n : ℕ) (u : List ℕ) → n ≡ length u → row_of words u ≡ row_of (words_of n) u
word_of_length n u e = row_of-rows_of n words u e

-- bytes that were read one by one
pub word_read : (n : ℕ) (u word : List ℕ) → length u ≡ length word → HasBytesAt u 0 word
    → row_of (words_of n) word ≡ row_of (words_of n) u
word_read n u word e reads = ap (row_of (words_of n)) (sym (text_from_reads u word e reads))
