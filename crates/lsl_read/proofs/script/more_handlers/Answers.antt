use Rattle.std.proofs.Common.{◌≡◌, Some, [], ◌∷◌, map, Ok, sym, ap, ◌∙◌, rules}
use Rattle.lsl_signs.specs.Limits.{height_limit}
use Rattle.lsl_tree.specs.Scripts.{handler_of}
use Rattle.lsl_read.specs.StatementReading.{stmt_room_r}
use Rattle.lsl_read.specs.ScriptGrammar.{added}
use Rattle.lsl_read.specs.ScriptReading.{next_r, many_r, handler_r}
use Rattle.lsl_read.proofs.ScriptLoops.{map-push, handler_less, handler_step}
use Rattle.lsl_read.proofs.script.more_handlers.Goals as goal
use Rattle.lsl_signs.specs.Kinds.{Name}

pub all-smaller : goal.all-smaller
all-smaller c =
    let d = c.args.room in
    let before = map handler_of c.all.all.items in
    let now : next_r (handler_r (stmt_room_r (Some height_limit) d)) before c.all.rest.now
    ≡ Ok (added before (handler_of c.in_ok-next.next), c.in_ok-next.after.now) = search rules in
    handler_less (Some height_limit) d before (added before (handler_of c.in_ok-next.next)) c.all.rest.now
    c.in_ok-next.after.now now

pub all-preserved : goal.all-preserved
all-preserved c =
    let d = c.args.room in
    let before = map handler_of c.all.all.items in
    let now : next_r (handler_r (stmt_room_r (Some height_limit) d)) before c.all.rest.now
    ≡ Ok (added before (handler_of c.in_ok-next.next), c.in_ok-next.after.now) = search rules in
    ap (λ x. many_r (Name ∷ []) (handler_r (stmt_room_r (Some height_limit) d)) x c.in_ok-next.after.now)
    (map-push handler_of c.push-in-all.new.self.items c.all.all.items c.in_ok-next.next (search rules))
    ∙ sym (handler_step (Some height_limit) d before (added before (handler_of c.in_ok-next.next))
    c.all.rest.now c.in_ok-next.after.now (search rules) now)
    ∙ c.all.invariant
