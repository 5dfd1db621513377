use Rattle.std.proofs.Common.{◌≡◌, ◌∙◌, true, length, ap, rules}
use Rattle.std.specs.Prelude.{pos}
use Rattle.std.specs.Int.{w32, cast_signed, cast_unsigned}
use Rattle.std.proofs.lemmas.Int.{to_z-of_z}
use Rattle.lsl_region.specs.declared.objects.Linkset.{Linkset}
use Rattle.lsl_region.specs.Grids.{seat_of}
use Rattle.lsl_region.specs.Links.{link_of}
use Rattle.lsl_region.specs.Posting.{message_event}
use Rattle.lsl_region.proofs.Away.{away-seat}
use Rattle.lsl_region.proofs.Lending.{lent-object}
use Rattle.lsl_region.proofs.Results.{IfOk-map}
use Rattle.lsl_region.proofs.grid.Grid.message.Goals as goal

pub returns-clause-value : goal.returns-clause-value
returns-clause-value c = λ codes unit clock live of f w lent.
    let s1 : cast_signed w32 (cast_unsigned w32 c.link.result) ≡ c.link.result =
    to_z-of_z w32 c.link.result (search rules) in
    let s2 : cast_signed w32 (cast_unsigned w32 c.integer_at.result) ≡ c.integer_at.result =
    to_z-of_z w32 c.integer_at.result (search rules) in
    let link = s1 ∙ c.link.ensures (seat_of codes true lent.member)
    (away-seat codes clock c.args.place c.args.self.now w lent.member lent.stands lent.at)
    ∙ ap (λ (o : Linkset). pos (link_of (length o.prims) lent.member.prim))
    (lent-object lent) in
    IfOk-map c.message_event.result _ _
    (λ e is. is ∙ (λ i. message_event (link i) ((s2 ∙ c.integer_at.ensures) i) (c.in_ok-text.ensures i)
    (c.in_ok-key.ensures i))) c.message_event.ensures
