use Rattle.std.proofs.Common.{◌≡◌, ◌∙◌, ap, subst, sym}
use Rattle.lsl_image.specs.Valid.{IsStore}
use Rattle.lsl_data.specs.Answers.{write_answer, written}
use Rattle.lsl_data.specs.History.{Write}
use Rattle.lsl_data.proofs.Histories.{kept-command}
use Rattle.lsl_region.specs.Answers.{text_at}
use Rattle.lsl_region.specs.Stores.{change_of}
use Rattle.lsl_region.proofs.Results.{IfOk-map, OnOk-any}
use Rattle.lsl_region.proofs.store_calls.written.Goals as goal

pub returns-in_err-wrote-clause-kept : goal.returns-in_err-wrote-clause-kept
returns-in_err-wrote-clause-kept c = λ s. subst IsStore (sym c.in_err-wrote.ensures.unchanged) s

pub returns-clause-change : goal.returns-clause-change
returns-clause-change c =
    let n : c.in_ok-name.name ≡ text_at 0 c.args.args.now = c.in_ok-name.ensures in
    let t : c.in_ok-text.text ≡ text_at 1 c.args.args.now = c.in_ok-text.ensures in
    let told_n : c.in_ok-told_name.told_name ≡ text_at 0 c.args.args.now = c.in_ok-told_name.ensures ∙ n in
    let told_t : c.in_ok-told_text.told_text ≡ text_at 1 c.args.args.now = c.in_ok-told_text.ensures ∙ t in
    IfOk-map c.change_of.result _ _ (λ x is. is
    ∙ ap (λ w. change_of w c.in_ok-told_name.told_name c.in_ok-told_text.told_text) c.in_ok-wrote.ensures.answer
    ∙ (λ i. change_of (write_answer c.args.store.now (n i) (t i)) (told_n i) (told_t i))) c.change_of.ensures

pub returns-clause-pairs : goal.returns-clause-pairs
returns-clause-pairs c =
    OnOk-any c.change_of.result _ (c.in_ok-wrote.ensures.after
    ∙ (λ i. written c.args.store.now (c.in_ok-name.ensures i) (c.in_ok-text.ensures i)))

pub returns-clause-kept : goal.returns-clause-kept
returns-clause-kept c = λ s.
    subst IsStore (sym c.in_ok-wrote.ensures.after)
    (kept-command c.args.store.now (Write c.in_ok-name.name c.in_ok-text.text) s)
