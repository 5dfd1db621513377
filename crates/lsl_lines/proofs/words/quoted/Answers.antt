use Rattle.std.proofs.Common.{◌≡◌, ◌+◌, ◌-◌, List, [], ℕ, Bor, length, take, drop, sym, ap, ◌∙◌, subst, Result}
use Rattle.std.proofs.lemmas.List.{take_rest}
use Rattle.lsl_lines.specs.Reads.{GivesWord, closed_words}
use Rattle.lsl_lines.specs.Words.{Word, quoted_words}
use Rattle.lsl_lines.specs.declared.faults.FileKind.{FileKind}
use Rattle.lsl_lines.proofs.WordLemmas.{verbatim_cut}
use Rattle.lsl_lines.proofs.words.quoted.Goals as goal

pub returns-then-line-size-eq34-clause-word : goal.returns-then-line-size-eq34-clause-word
returns-then-line-size-eq34-clause-word c =
    let line = c.args.line.now in
    let n = c.verbatim_length-size.result in
    let cut : quoted_words [] line ≡
    closed_words (take n line) (take (length line - (n + 1)) (drop (n + 1) line)) =
    verbatim_cut line n c.verbatim_length-size.ensures.count c.if-size-line.true c.if-line-size-eq34.true
    ∙ ap (closed_words (take n line)) (sym (take_rest line (n + 1))) in
    subst (λ (words : Result (List Word) FileKind). GivesWord (λ (x : Word × Bor (List ℕ)). (x.0, x.1.now))
    c.closed.result words)
    (sym cut) c.closed.ensures.word
