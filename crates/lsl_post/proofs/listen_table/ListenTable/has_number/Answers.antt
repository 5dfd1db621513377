use Rattle.std.proofs.Common.{ap, sym, ◌∙◌, w32, map}
use Rattle.std.specs.Option.{is_some}
use Rattle.std.specs.Ordering.{int_eq}
use Rattle.std.proofs.lemmas.Int.{to_z-of_z}
use Rattle.lsl_post.specs.Listens.{number_of, place_of_number}
use Rattle.lsl_post.proofs.Places.{found}
use Rattle.lsl_post.proofs.listen_table.ListenTable.has_number.Goals as goal

pub returns : goal.returns
returns c =
    c.is_some.ensures ∙ ap is_some (c.place_of.ensures.place
    ∙ ap (λ n. place_of_number n c.args.self.now.list) (to_z-of_z w32 c.args.number c.ranges.number))
    ∙ sym (found (int_eq c.args.number) (map number_of c.args.self.now.list))
