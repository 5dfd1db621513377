use Rattle.std.proofs.Common.{◌≡◌, ◌∙◌, [], subst, sym}
use Rattle.lsl_image.specs.Valid.{IsStore}
use Rattle.lsl_data.specs.Answers.{delete_answer, deleted}
use Rattle.lsl_data.specs.History.{Delete}
use Rattle.lsl_data.proofs.Histories.{kept-command}
use Rattle.lsl_region.specs.Answers.{text_at}
use Rattle.lsl_region.specs.Stores.{change_of}
use Rattle.lsl_region.proofs.Results.{IfOk-map, OnOk-any}
use Rattle.lsl_region.proofs.store_calls.deleted.Goals as goal

pub returns-clause-change : goal.returns-clause-change
returns-clause-change c =
    let n : c.in_ok-name.name ≡ text_at 0 c.args.args.now = c.in_ok-name.ensures in
    IfOk-map c.change_of.result _ _ (λ x is. is
    ∙ (λ i. change_of (c.delete-wrote.ensures.answer i) c.in_ok-name.name (c.new.ensures i))
    ∙ (λ i. change_of (delete_answer c.args.store.now (n i)) (n i) [])) c.change_of.ensures

pub returns-clause-pairs : goal.returns-clause-pairs
returns-clause-pairs c =
    OnOk-any c.change_of.result _
    (c.delete-wrote.ensures.after ∙ (λ i. deleted c.args.store.now (c.in_ok-name.ensures i)))

pub returns-clause-kept : goal.returns-clause-kept
returns-clause-kept c = λ s.
    subst IsStore (sym c.delete-wrote.ensures.after) (kept-command c.args.store.now (Delete c.in_ok-name.name) s)
