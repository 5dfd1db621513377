use Rattle.std.proofs.Common.{◌≡◌, ◌+◌, ◌-◌, List, ℕ, [], ◌∷◌, length, take, drop, sym, ap, ◌∙◌, arith}
use Rattle.std.proofs.lemmas.List.{take_rest, drop_all}
use Rattle.lsl_lines.specs.Lines.{lines_of}
use Rattle.lsl_lines.proofs.LineLemmas.{first-line, last-line}
use Rattle.lsl_lines.proofs.lines.first_line.Goals as goal

pub returns-then-end-text-clause-lines : goal.returns-then-end-text-clause-lines
returns-then-end-text-clause-lines c =
    let text = c.args.text.now in
    let n = c.line_length-end.result in
    let none : take (length text - n) (drop n text) ≡ [] = take_rest text n ∙ drop_all n text (omega arith) in
    last-line text n c.line_length-end.ensures.count (omega arith) c.requires
    ∙ ap (λ (l : List ℕ). text ∷ lines_of l) (sym none)

pub returns-clause-lines : goal.returns-clause-lines
returns-clause-lines c =
    let text = c.args.text.now in
    let n = c.line_length-end.result in
    first-line text n c.line_length-end.ensures.count (omega arith)
    ∙ ap (λ (l : List ℕ). l ∷ lines_of (drop (n + 1) text)) (sym c.without_return.ensures)
    ∙ ap (λ (l : List ℕ). c.without_return.result.now ∷ lines_of l) (sym (take_rest text (n + 1)))
