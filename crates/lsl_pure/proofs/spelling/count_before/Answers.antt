use Rattle.std.proofs.Common.{◌∙◌, ap, take}
use Rattle.std.specs.List.{count_by}
use Rattle.lsl_pure.specs.Spelling.{is_lead}
use Rattle.lsl_pure.proofs.SpellingLemmas.{ascii_before}
use Rattle.lsl_pure.proofs.spelling.count_before.Goals as goal

pub returns-then-is_ascii : goal.returns-then-is_ascii
returns-then-is_ascii c = ascii_before c.args.at c.args.text.now (c.is_ascii.ensures.0 c.if-is_ascii.true) c.requires

pub returns-else-is_ascii : goal.returns-else-is_ascii
returns-else-is_ascii c =
    c.count_leads.ensures ∙ ap (λ b. count_by is_lead (take c.args.at b)) c.bytes.ensures.value
