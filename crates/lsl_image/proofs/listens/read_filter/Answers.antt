use Rattle.std.proofs.Common.{◌≡◌, ◌∙◌, ap, sym, subst, map, not, true, false, ℤ, w32}
use Rattle.std.specs.List.{list_any}
use Rattle.std.proofs.lemmas.Int.{to_z-of_z}
use Rattle.lsl_post.specs.Filters.{filter, same_filter}
use Rattle.lsl_post.specs.Listens.{filter_of}
use Rattle.lsl_image.specs.Script.{filter_behind}
use Rattle.lsl_image.proofs.FieldLemmas.{leads-fails, leads-passes}
use Rattle.lsl_image.proofs.LeadingLemmas.{i32-fits, leads-all, leads-exits, leads-here, leads-then}
use Rattle.lsl_image.proofs.listens.read_filter.Goals as goal

pub returns-in_err-channel : goal.returns-in_err-channel
unfolding filter_behind
returns-in_err-channel c =
    leads-exits _ _ _ _ (leads-all c.args.bytes.now (filter_behind c.args.before.now) c.args.place)
    c.in_err-channel.ensures c.from_residual.ensures.1

pub returns-in_err-name : goal.returns-in_err-name
unfolding filter_behind
returns-in_err-name c =
    leads-exits _ _ _ _ (leads-then _ _ (leads-all c.args.bytes.now (filter_behind c.args.before.now) c.args.place)
    c.in_ok-channel.ensures) c.in_err-name.ensures c.from_residual-in_err-name.ensures.1

pub returns-in_err-id : goal.returns-in_err-id
unfolding filter_behind
returns-in_err-id c =
    leads-exits _ _ _ _ (leads-then _ _ (leads-then _ _
    (leads-all c.args.bytes.now (filter_behind c.args.before.now) c.args.place) c.in_ok-channel.ensures)
    c.in_ok-name.ensures) c.in_err-id.ensures c.from_residual-in_err-id.ensures.1

pub returns-in_err-message : goal.returns-in_err-message
unfolding filter_behind
returns-in_err-message c =
    leads-exits _ _ _ _ (leads-here _ (leads-then _ _ (leads-then _ _
    (leads-then _ _ (leads-all c.args.bytes.now (filter_behind c.args.before.now) c.args.place)
    c.in_ok-channel.ensures) c.in_ok-name.ensures) c.in_ok-id.ensures)) c.in_err-message.ensures
    c.from_residual-in_err-message.ensures.1

pub returns-then-ask : goal.returns-then-ask
unfolding filter_behind
returns-then-ask c =
    let same = to_z-of_z w32 c.in_ok-channel.channel (i32-fits c.args.bytes.now c.args.place c.in_ok-channel.channel
    c.in_ok-channel.second c.in_ok-channel.ensures) in
    let told = subst (λ (n : ℤ). list_any (same_filter (filter n c.in_ok-name.name c.in_ok-id.id
    c.in_ok-message.message))
    (map filter_of c.args.before.now) ≡ true) same (sym c.ask.ensures ∙ c.if-ask.true) in
    rw c.wrong.ensures (leads-fails _ _ _ (ap not told)
    (leads-then _ _ (leads-here _ (leads-then _ _ (leads-then _ _
    (leads-then _ _ (leads-all c.args.bytes.now (filter_behind c.args.before.now) c.args.place)
    c.in_ok-channel.ensures) c.in_ok-name.ensures) c.in_ok-id.ensures)) c.in_ok-message.ensures))

pub returns : goal.returns
unfolding filter_behind
returns c =
    let same = to_z-of_z w32 c.in_ok-channel.channel (i32-fits c.args.bytes.now c.args.place c.in_ok-channel.channel
    c.in_ok-channel.second c.in_ok-channel.ensures) in
    let told = subst (λ (n : ℤ). list_any (same_filter (filter n c.in_ok-name.name c.in_ok-id.id
    c.in_ok-message.message))
    (map filter_of c.args.before.now) ≡ false) same (sym c.ask.ensures ∙ c.if-ask.false) in
    rw same (leads-passes _ _ _ (ap not told) (leads-then _ _
    (leads-here _ (leads-then _ _ (leads-then _ _ (leads-then _ _
    (leads-all c.args.bytes.now (filter_behind c.args.before.now) c.args.place) c.in_ok-channel.ensures)
    c.in_ok-name.ensures) c.in_ok-id.ensures)) c.in_ok-message.ensures))
