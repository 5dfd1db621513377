use Rattle.std.proofs.Common.{ap, sym, ◌∙◌, w32}
use Rattle.std.proofs.lemmas.Int.{to_z-of_z}
use Rattle.lsl_post.specs.Listens.{closed_at, place_of_number}
use Rattle.lsl_post.proofs.listen_table.ListenTable.close.Goals as goal

pub returns-in-Some : goal.returns-in-Some
returns-in-Some c =
    c.remove_at.ensures ∙ ap (closed_at c.args.self.now) (sym c.in-Some.is ∙ c.place_of.ensures.place
    ∙ ap (λ n. place_of_number n c.args.self.now.list) (to_z-of_z w32 c.args.number c.ranges.number))

pub returns-in_default : goal.returns-in_default
returns-in_default c =
    ap (closed_at c.args.self.now) (sym c.in_default.is ∙ c.place_of.ensures.place
    ∙ ap (λ n. place_of_number n c.args.self.now.list) (to_z-of_z w32 c.args.number c.ranges.number))
