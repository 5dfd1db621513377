use Rattle.std.proofs.lemmas.List.{nil_from_length}
use Rattle.lsl_post.proofs.Tables.{table-none}
use Rattle.lsl_post.proofs.listen_table.ListenTable.clear.Goals as goal

pub invariant_of-self : goal.invariant_of-self
invariant_of-self c =
    table-none c.self.inside.next c.clear.new.self.entries c.self.invariant.standing.next
    (nil_from_length _ c.clear.ensures.len)
