use Rattle.lsl_code.proofs.Reading.{draft_grown_plain}
use Rattle.lsl_code.proofs.drafts.Draft.push.Goals as goal

pub invariant_of-self-2 : goal.invariant_of-self-2
invariant_of-self-2 c =
    (draft_grown_plain _ _ _ _ c.requires c.self.invariant c.in_ok-push.ensures.items).numbers
