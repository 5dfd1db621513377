use Rattle.std.proofs.Common.{◌∷◌, [], ◌∙◌, ℕ, ◌≡◌, length, take, arith, subst, sym}
use Rattle.std.proofs.lemmas.List.{length-take}
use Rattle.lsl_top.specs.Words.{Command, command_in}
use Rattle.lsl_top.specs.declared.status.Status.{Status}
use Rattle.std.specs.Prelude.{Option}
use Rattle.lsl_page.specs.Ended.{Ended}
use Rattle.lsl_page.specs.Headline.{WritesJournal}
use Rattle.lsl_page.specs.Request.{IsRequest, files_in}
use Rattle.lsl_page.proofs.Endings.{full-of, missing-of}
use Rattle.lsl_page.proofs.Headlines.{headline-of}
use Rattle.lsl_page.proofs.Numbers.{form-of, most-ten, refused-of, status-of}
use Rattle.lsl_page.proofs.lsl_page_run.Goals as goal

pub returns-clause-ended : goal.returns-clause-ended
returns-clause-ended c = λ below.
    let files = files_in c.args.bytes.now c.args.places.now in
    let words = command_in (c.args.word.now ∷ c.args.file.now ∷ []) in
    let room = length c.answer.new.room in
    let output = take c.answer.new.written c.answer.new.room in
    let all = c.number_of_answer.ensures in
    let (status, e, request, ended) = status-of c.answer.result c.number_of_answer.result
    (λ (status : Status). IsRequest c.args.word.now c.args.file.now c.args.bytes.now c.args.places.now)
    (λ (status : Status). Ended files words room status output)
    (record { ok = all.ok; form = all.form; memory = all.memory }) c.answer.ensures.request c.answer.ensures.ended
    below in
    (request, (status, e, ended))

pub returns-clause-headline : goal.returns-clause-headline
returns-clause-headline c = λ command world programs cards below words runs.
    let files = files_in c.args.bytes.now c.args.places.now in
    let room = length c.answer.new.room in
    let output = take c.answer.new.written c.answer.new.room in
    let all = c.number_of_answer.ensures in
    let (status, e, request, ended) = status-of c.answer.result c.number_of_answer.result
    (λ (status : Status). IsRequest c.args.word.now c.args.file.now c.args.bytes.now c.args.places.now)
    (λ (status : Status). Ended files (command_in (c.args.word.now ∷ c.args.file.now ∷ [])) room status output)
    (record { ok = all.ok; form = all.form; memory = all.memory }) c.answer.ensures.request c.answer.ensures.ended
    below in
    subst (λ (number : ℕ). WritesJournal world programs cards number output) (sym e)
    (headline-of files command world programs cards room status output
    (subst (λ (w : Option Command). Ended files w room status output) words ended) runs)

pub returns-clause-missing : goal.returns-clause-missing
returns-clause-missing c = λ is.
    let files = files_in c.args.bytes.now c.args.places.now in
    let words = command_in (c.args.word.now ∷ c.args.file.now ∷ []) in
    let room = length c.answer.new.room in
    let output = take c.answer.new.written c.answer.new.room in
    let all = c.number_of_answer.ensures in
    let (status, e, request, ended) = status-of c.answer.result c.number_of_answer.result
    (λ (status : Status). IsRequest c.args.word.now c.args.file.now c.args.bytes.now c.args.places.now)
    (λ (status : Status). Ended files words room status output)
    (record { ok = all.ok; form = all.form; memory = all.memory }) c.answer.ensures.request c.answer.ensures.ended
    (omega (arith, is)) in
    missing-of files words room status output ended (sym e ∙ is)

pub returns-clause-full : goal.returns-clause-full
returns-clause-full c = λ is.
    let files = files_in c.args.bytes.now c.args.places.now in
    let words = command_in (c.args.word.now ∷ c.args.file.now ∷ []) in
    let room = length c.answer.new.room in
    let output = take c.answer.new.written c.answer.new.room in
    let all = c.number_of_answer.ensures in
    let (status, e, request, ended) = status-of c.answer.result c.number_of_answer.result
    (λ (status : Status). IsRequest c.args.word.now c.args.file.now c.args.bytes.now c.args.places.now)
    (λ (status : Status). Ended files words room status output)
    (record { ok = all.ok; form = all.form; memory = all.memory }) c.answer.ensures.request c.answer.ensures.ended
    (omega (arith, is)) in
    let full = full-of files words room status output ended (sym e ∙ is) in
    let size = length-take c.answer.new.written c.answer.new.room in
    omega (arith, full, size, c.answer.ensures.within)

pub returns-clause-form : goal.returns-clause-form
returns-clause-form c = λ e.
    let all = c.number_of_answer.ensures in
    c.answer.ensures.form (form-of c.answer.result c.number_of_answer.result
    (record { ok = all.ok; form = all.form; memory = all.memory }) e)

pub returns-clause-nothing : goal.returns-clause-nothing
returns-clause-nothing c =
    let all = c.number_of_answer.ensures in
    refused-of c.answer.result c.number_of_answer.result (c.answer.new.written ≡ 0)
    (record { ok = all.ok; form = all.form; memory = all.memory }) c.answer.ensures.nothing

pub returns-clause-number : goal.returns-clause-number
returns-clause-number c =
    let all = c.number_of_answer.ensures in
    most-ten c.answer.result c.number_of_answer.result (record { ok = all.ok; form = all.form; memory = all.memory })
