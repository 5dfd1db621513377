use Rattle.std.proofs.Common.{◌≡◌, Some, map, Ok, sym, ap, ◌∙◌, rules}
use Rattle.lsl_signs.specs.Limits.{height_limit}
use Rattle.lsl_tree.specs.Scripts.{header_of}
use Rattle.lsl_read.specs.StatementReading.{stmt_room_r}
use Rattle.lsl_read.specs.ScriptGrammar.{added}
use Rattle.lsl_read.specs.ScriptReading.{header_heads, next_r, many_r, header_r}
use Rattle.lsl_read.proofs.ScriptLoops.{map-push, header_less, header_step}
use Rattle.lsl_read.proofs.script.headers.Goals as goal

pub all-smaller : goal.all-smaller
all-smaller c =
    let d = c.args.room in
    let before = map header_of c.all.all.items in
    let now : next_r (header_r (stmt_room_r (Some height_limit) d)) before c.all.rest.now
    ≡ Ok (added before (header_of c.in_ok-next.next), c.in_ok-next.after.now) = search rules in
    header_less (Some height_limit) d before (added before (header_of c.in_ok-next.next)) c.all.rest.now
    c.in_ok-next.after.now now

pub all-preserved : goal.all-preserved
all-preserved c =
    let d = c.args.room in
    let before = map header_of c.all.all.items in
    let now : next_r (header_r (stmt_room_r (Some height_limit) d)) before c.all.rest.now
    ≡ Ok (added before (header_of c.in_ok-next.next), c.in_ok-next.after.now) = search rules in
    ap (λ x. many_r header_heads (header_r (stmt_room_r (Some height_limit) d)) x c.in_ok-next.after.now)
    (map-push header_of c.push.new.self.items c.all.all.items c.in_ok-next.next (search rules))
    ∙ sym (header_step (Some height_limit) d before (added before (header_of c.in_ok-next.next)) c.all.rest.now
    c.in_ok-next.after.now (search rules) now)
    ∙ c.all.invariant
