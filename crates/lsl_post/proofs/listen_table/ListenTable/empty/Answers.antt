use Rattle.std.proofs.Common.{sym, subst, w32}
use Rattle.std.proofs.lemmas.Int.{to_z-of_z}
use Rattle.std.proofs.lemmas.List.{nil_from_length}
use Rattle.lsl_post.specs.Tables.{IsTable}
use Rattle.lsl_post.proofs.Tables.{table-none}
use Rattle.lsl_post.proofs.listen_table.ListenTable.empty.Goals as goal

pub invariant_of-result : goal.invariant_of-result
invariant_of-result c =
    subst (λ n. IsTable n c.new.result.entries) (sym (to_z-of_z w32 c.args.next c.ranges.next))
    (table-none c.args.next c.new.result.entries c.requires (nil_from_length _ c.new.ensures.len))
