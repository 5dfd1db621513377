use Rattle.std.proofs.Common.{◌≡◌, ◌+◌, ◌-◌, List, ℕ, length, take, drop, sym, ap, ◌∙◌}
use Rattle.std.proofs.lemmas.List.{take_rest}
use Rattle.std.specs.List.{prefix_len}
use Rattle.lsl_lines.specs.Reads.{ahead, is_in_word}
use Rattle.lsl_lines.specs.Words.{Word, Plain}
use Rattle.lsl_lines.proofs.WordLemmas.{plain_cut}
use Rattle.lsl_lines.proofs.words.plain.Goals as goal

pub returns-clause-word : goal.returns-clause-word
returns-clause-word c =
    let line = c.args.line.now in
    let n = c.word_length-size.result in
    let count : n ≡ prefix_len is_in_word (drop 1 line) =
    c.word_length-size.ensures.count ∙ ap (prefix_len is_in_word) (take_rest line 1) in
    plain_cut line n c.requires count
    ∙ ap (λ (l : List ℕ). ahead (Plain (take (1 + n) line)) l) (sym (take_rest line (1 + n)))
    ∙ ap (λ (w : Word). ahead w (take (length line - (1 + n)) (drop (1 + n) line))) (sym c.from_plain.ensures)
