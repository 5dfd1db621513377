use Rattle.std.proofs.Common.{◌≡◌, ◌∙◌, ap, sym, subst, ℕ, ◌+◌, ◌≤◌, List, length, take}
use Rattle.std.specs.Prelude.{count_by}
use Rattle.std.specs.Str.{IsUtf8, IsValidUpTo}
use Rattle.std.specs.Str.Lossy.{utf8_valid_len}
use Rattle.lsl_text.specs.declared.Refusal.{Refusal}
use Rattle.lsl_text.specs.declared.Refusal.TheVariants.{Fault}
use Rattle.lsl_notes.specs.declared.faults.CardFault.{CardFault}
use Rattle.lsl_notes.specs.declared.faults.CardFault.TheVariants.{NotText}
use Rattle.lsl_notes.specs.Card.{IsRefused}
use Rattle.lsl_notes.specs.Lines.{is_feed}
use Rattle.lsl_notes.proofs.Fronts.{first-bad}
use Rattle.lsl_notes.proofs.reading.read_card.Goals as goal

refused : (bytes : List ℕ) (n m : ℕ) (r : Refusal CardFault) → length bytes ≤ 65536 → (IsUtf8 bytes → ⊥)
    → IsValidUpTo bytes m → n ≡ m → m ≡ utf8_valid_len bytes
    → r ≡ Fault (NotText (1 + count_by is_feed (take n bytes))) → IsRefused bytes r
refused bytes n m r short other valid same long is =
    subst (IsRefused bytes) (sym (is ∙ ap (λ k. Fault (NotText (1 + count_by is_feed (take k bytes)))) same))
    record {
      within = short;
      other = other;
      first = first-bad bytes m valid;
      only = ap (λ k. 1 + count_by is_feed (take k bytes)) long;
    }

pub returns-in-Err-clause-err : goal.returns-in-Err-clause-err
returns-in-Err-clause-err c =
    refused c.args.bytes.now c.valid_up_to.result _ c.not_text.result c.if-bytes-gt-MOST_CARD_BYTES.false
    c.in-Err.ensures.cases.0 c.in-Err.ensures.cases.1 c.valid_up_to.ensures c.in-Err.ensures.valid_len
    c.not_text.ensures
